-- How the lists of channels keep sequences. Only proofs and the lists' own functions need it.
use Rattle.std.specs.Prelude.{◌≡◌, ℕ, nat_eq, Bool, true, false, not, ◌&&◌, ◌||◌, List, ◌++◌, filter, Option, Some, None, String, string_bytes, is_some}
use Rattle.std.specs.Global.{Global}
use Rattle.std.specs.Map.{keys_of, lookup}
use Rattle.std.specs.Str.{bytes_eq}
use Rattle.channel_cache.specs.Stands.{has}
use Rattle.channel_cache.specs.declared.sequences.Sequences.{Sequences}

-- the sequences of a list: those that are listed and did not leave, and those that entered since
abbrev pub sequences_in : Sequences → List ℕ
sequences_in l = filter (λ seq. not (has l.left.items seq)) l.list.items ++ l.entered.items

-- whether a sequence is among them
abbrev pub holds : Sequences → ℕ → Bool
holds l seq = has (sequences_in l) seq

-- lists by the names of their channels
abbrev pub Lists : Type 0
Lists = List (String Global × Sequences)

-- the list of a channel
abbrev pub list_of : Lists → List ℕ → Option Sequences
list_of lists channel = lookup (λ name. bytes_eq channel (string_bytes name)) lists

-- whether a channel has a list
abbrev pub is_kept : Lists → List ℕ → Bool
is_kept lists channel = is_some (list_of lists channel)

abbrev pub holds_in : Option Sequences → ℕ → Bool
holds_in None seq = false
holds_in (Some l) seq = holds l seq

-- whether a sequence is in the list of a channel
abbrev pub holds_of : Lists → List ℕ → ℕ → Bool
holds_of lists channel seq = holds_in (list_of lists channel) seq

-- the same channels have lists, in the same order, and what each has is what this makes of it
pub record Changed (old new : Lists) (after : List ℕ → ℕ → Bool → Bool) : Type 0 where
  pub keys : keys_of new ≡ keys_of old
  pub holds : (channel : List ℕ) (seq : ℕ) → is_kept old channel ≡ true → holds_of new channel seq ≡ after channel seq (holds_of old channel seq)

-- the same of what counts in each list
pub record Counted (counts : ℕ → Bool) (old new : Lists) (after : List ℕ → ℕ → Bool → Bool) : Type 0 where
  pub keys : keys_of new ≡ keys_of old
  pub holds : (channel : List ℕ) (seq : ℕ) → is_kept old channel ≡ true
      → (holds_of new channel seq && counts seq) ≡ (after channel seq (holds_of old channel seq) && counts seq)

-- a sequence entered the lists of these channels
abbrev pub entered : (List ℕ → Bool) → ℕ → List ℕ → ℕ → Bool → Bool
entered is_one seq channel s before = before || (is_one channel && nat_eq s seq)

-- it left them
abbrev pub left : (List ℕ → Bool) → ℕ → List ℕ → ℕ → Bool → Bool
left is_one seq channel s before = before && not (is_one channel && nat_eq s seq)
