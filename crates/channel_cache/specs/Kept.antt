-- What is kept of channels.
use Rattle.std.specs.Prelude.{◌≡◌, ℕ, nat_le, Bool, not, ◌&&◌, List, [], length, map, if◌then◌else◌}
use Rattle.sg_history.specs.declared.entries.Entry.{Entry}
use Rattle.sg_history.specs.History.{among}
use Rattle.channel_cache.specs.Asked.{asked_after_all, refills_of}

-- the sequences that are kept of a channel
pub record KeptList : Type 0 where
  pub channel : List ℕ
  pub sequences : List ℕ

-- the place up to which a log was read, the kept lists, that of the channel asked for last first, and how many are kept at most
pub record KeptLists : Type 0 where
  pub place : ℕ
  pub lists : List KeptList
  pub most : ℕ

-- the kept lists, and the entries of an index, the newest first
pub record Cached : Type 0 where
  pub lists : KeptLists
  pub index : List Entry

-- lists of which none is kept
abbrev pub AreEmpty : KeptLists → ℕ → Type 0
AreEmpty lists most = (lists.place ≡ 0) × (length lists.lists ≡ 0) × (lists.most ≡ most)

-- the same place, with no list kept
abbrev pub forgotten : KeptLists → KeptLists
forgotten lists = record { place = lists.place; lists = []; most = lists.most }

-- the channels whose lists are kept: those that were asked for last
abbrev pub asked : KeptLists → List (List ℕ)
asked lists = map (λ l. l.channel) lists.lists

-- how many of these channels are filled when they are asked for at a place: each one where the place was passed
abbrev pub refills_at : KeptLists → List (List ℕ) → ℕ → ℕ
refills_at lists channels to =
    if nat_le lists.place to then refills_of lists.most channels (asked lists) else length channels

-- whether a channel is filled when it is asked for at a place: it is not among the asked, or the place was passed
abbrev pub is_filled : KeptLists → List ℕ → ℕ → Bool
is_filled lists channel to = not (among (asked lists) channel && nat_le lists.place to)

-- these channels were asked for at a place that was not passed
pub record WereAsked (old new : KeptLists) (channels : List (List ℕ)) (to : ℕ) : Type 0 where
  pub place : new.place ≡ to
  pub asked : asked new ≡ asked_after_all old.most channels (asked old)

-- the same channels are kept, of the same place
pub record AreAsBefore (old new : KeptLists) : Type 0 where
  pub place : new.place ≡ old.place
  pub asked : asked new ≡ asked old
