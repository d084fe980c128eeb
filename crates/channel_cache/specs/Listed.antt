-- The documents of channels, given the entries up to a place, the newest first.
use Rattle.std.specs.Prelude.{ℕ, ◌+◌, Bool, false, ◌&&◌, nat_eq, List, [], ◌∷◌, ◌++◌, length, map, Option, Some, None, if◌then◌else◌}
use Rattle.std.specs.List.{list_any}
use Rattle.sg_history.specs.declared.entries.Entry.{Entry}
use Rattle.sg_history.specs.declared.entries.Write.{Write}
use Rattle.sg_history.specs.History.{among, as_write}
use Rattle.sg_history.specs.Current.{Current, current}
use Rattle.sg_history.specs.View.{every}
use Rattle.channel_cache.specs.declared.found.DocSeq.{DocSeq}

-- whether a document is in a channel as it is: the channel is `*`, or among those of the document's effects
abbrev pub is_in : List ℕ → Current → Bool
is_in channel c = among (every ∷ c.effects.channels) channel

-- whether it is in one of these channels
abbrev pub is_in_one : List (List ℕ) → Current → Bool
is_in_one channels c = list_any (λ channel. is_in channel c) channels

-- whether this is the sequence of a document's last write, and the document is in one of these channels
abbrev pub is_listed : List (List ℕ) → ℕ → Option Current → Bool
is_listed channels seq None = false
is_listed channels seq (Some c) = nat_eq c.seq seq && is_in_one channels c

-- the document of the write of a sequence, where there is a write, it is the document's last one, and the document is in one of
-- these channels
abbrev pub listed_by : List Entry → List (List ℕ) → ℕ → Option Write → List DocSeq
listed_by es channels seq None = []
listed_by es channels seq (Some w) =
    if is_listed channels seq (current es w.doc) then record { doc = w.doc; seq = seq } ∷ [] else []

-- those of the older ones of these entries, then that of the newest
abbrev pub listed_from : List Entry → List (List ℕ) → List Entry → List DocSeq
listed_from es channels [] = []
listed_from es channels (e ∷ older) = listed_from es channels older ++ listed_by es channels (length older + 1) (as_write e)

-- the documents that are in one of these channels, each once, with the sequences of their last writes, by rising sequence
abbrev pub listed_in : List Entry → List (List ℕ) → List DocSeq
listed_in es channels = listed_from es channels es

-- the documents that are in a channel
abbrev pub listed : List Entry → List ℕ → List DocSeq
listed es channel = listed_in es (channel ∷ [])

-- their sequences
abbrev pub sequences_of : List DocSeq → List ℕ
sequences_of documents = map (λ d. d.seq) documents
