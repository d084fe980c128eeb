-- What asking for channels makes of lists. Only proofs and the lists' own functions need it.
use Rattle.std.specs.Prelude.{◌≡◌, ℕ, true, false, ◌&&◌, ◌||◌, nat_le, nat_lt, List, [], ◌∷◌, map, string_bytes}
use Rattle.std.specs.Map.{keys_of}
use Rattle.sg_history.specs.declared.entries.Entry.{Entry}
use Rattle.sg_history.specs.History.{among}
use Rattle.log_index.specs.Places.{next_at}
use Rattle.channel_cache.specs.inner.Counting.{is_in_list}
use Rattle.channel_cache.specs.Sequences.{Lists, holds_of, is_kept}
use Rattle.channel_cache.specs.Stands.{has, is_last}

-- the channels that have lists
abbrev pub names_of : Lists → List (List ℕ)
names_of lists = map (λ e. string_bytes e.0) lists

-- no two of these channels are the same
abbrev pub Apart : List (List ℕ) → Type 0
Apart [] = Unit {0}
Apart (x ∷ xs) = (among xs x ≡ false) × Apart xs

-- the same channels have lists, and each has besides what is in its channel of the sequences from one to another
pub record IsFilledFrom (es : List Entry) (from to : ℕ) (old new : Lists) : Type 0 where
  pub keys : keys_of new ≡ keys_of old
  pub holds : (channel : List ℕ) (seq : ℕ) → is_kept old channel ≡ true
      → holds_of new channel seq ≡ (holds_of old channel seq || ((nat_lt from seq && nat_le seq to) && is_in_list es (channel ∷ []) seq))

-- each list is of nothing
abbrev pub HasNothing : Lists → Type 0
HasNothing lists = (channel : List ℕ) (seq : ℕ) → holds_of lists channel seq ≡ false

-- each list has what is in its channel, and nothing else
abbrev pub AreFull : List Entry → Lists → Type 0
AreFull es lists = (channel : List ℕ) (seq : ℕ) → is_kept lists channel ≡ true → holds_of lists channel seq ≡ is_in_list es (channel ∷ []) seq

-- of channels that are asked for some are wanted. What counts in the lists of the others is what is in their channels; those of the
-- wanted are of nothing. What was found is of these channels, and all of those that are not wanted
pub record Asks (es : List Entry) (lists wanted : Lists) (found : List ℕ) (channels : List (List ℕ)) : Type 0 where
  pub kept : (channel : List ℕ) (seq : ℕ) → is_kept lists channel ≡ true → is_kept wanted channel ≡ false
      → (holds_of lists channel seq && is_last (next_at es seq)) ≡ is_in_list es (channel ∷ []) seq
  pub nothing : (channel : List ℕ) (seq : ℕ) → is_kept lists channel ≡ true → is_kept wanted channel ≡ true → holds_of lists channel seq ≡ false
  pub within : (channel : List ℕ) → is_kept wanted channel ≡ true → among channels channel ≡ true
  pub of : (seq : ℕ) → has found seq ≡ true → is_in_list es channels seq ≡ true
  pub all : (channel : List ℕ) (seq : ℕ) → among channels channel ≡ true → is_kept wanted channel ≡ false → is_in_list es (channel ∷ []) seq ≡ true
      → has found seq ≡ true
