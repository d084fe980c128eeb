-- Which sequences count. Only proofs and the lists' own functions need it.
use Rattle.std.specs.Prelude.{◌≡◌, ℕ, nat_le, Bool, true, false, not, ◌&&◌, List, [], ◌∷◌, Option, Some, None}
use Rattle.sg_history.specs.declared.entries.Entry.{Entry}
use Rattle.sg_history.specs.declared.entries.Write.{Write}
use Rattle.sg_history.specs.Current.{current}
use Rattle.log_index.specs.Marks.{write_of}
use Rattle.log_index.specs.Places.{next_at}
use Rattle.channel_cache.specs.Listed.{is_listed}
use Rattle.channel_cache.specs.Stands.{is_last}
use Rattle.channel_cache.specs.Sequences.{Lists, holds_of, is_kept}

-- whether the next write, if there is one, comes behind a place
abbrev pub is_behind : ℕ → Option ℕ → Bool
is_behind place None = true
is_behind place (Some next) = not (nat_le next place)

-- whether the document of the write of a sequence was not written again up to a place
abbrev pub counts_at : List Entry → ℕ → ℕ → Bool
counts_at es place seq = is_behind place (next_at es seq)

abbrev pub is_listed_by : List Entry → List (List ℕ) → ℕ → Option Write → Bool
is_listed_by es channels seq None = false
is_listed_by es channels seq (Some w) = is_listed channels seq (current es w.doc)

-- whether a sequence is that of the last write of a document that is in one of these channels
abbrev pub is_in_list : List Entry → List (List ℕ) → ℕ → Bool
is_in_list es channels seq = is_listed_by es channels seq (write_of es seq)

-- what is in each list and counts is what is in its channel
abbrev pub AreLists : List Entry → Lists → Type 0
AreLists es lists = (channel : List ℕ) (seq : ℕ) → is_kept lists channel ≡ true
    → (holds_of lists channel seq && is_last (next_at es seq)) ≡ is_in_list es (channel ∷ []) seq
