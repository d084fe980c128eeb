-- a text of a user and a client is that of no other pair
use Rattle.std.proofs.Common.{◌≡◌, ◌≢◌, ◌⊎◌, inl, inr, ℕ, Bool, true, ◌&&◌, not, List, [], ◌∷◌, ◌++◌, Some, refl, sym, ap, ◌∙◌}
use Rattle.std.specs.Prelude.{nat_eq, nat_lt, nat_le, length, IsTrue, if◌then◌else◌}
use Rattle.std.specs.Str.{bytes_eq}
use Rattle.std.specs.Cmp.Lexicographic.{bytes_decides}
use Rattle.std.proofs.lemmas.Bool.{true≢false, and_parts, false_from_ne_true}
use Rattle.sg_names.specs.Grammar.{is_plain, is_plain_text, is_dash, is_channel_name, is_name, lacks}
use Rattle.sg_history.specs.Board.{SideEntry, SideValue, side_at}
use Rattle.checkpoint_store.specs.SideMaps.{IsPut}
use Rattle.checkpoint_store.specs.Checkpoints.{checkpoint_text, checkpoint_at}

-- a name has no control character
name_plain : (name : List ℕ) → is_name name ≡ true → is_plain name ≡ true
name_plain name h =
    let channel = (and_parts (is_channel_name name) (lacks 58 name) (and_parts (is_channel_name name && lacks 58 name) (lacks 61 name) h).0).0 in
    let text = (and_parts (is_plain_text name) (lacks 44 name) (and_parts (is_plain_text name && lacks 44 name) (not (is_dash name)) channel).0).0 in
    (and_parts (nat_lt 0 (length name) && nat_le (length name) 250) (is_plain name) text).1

-- there is one first zero byte
cut_same : (a b c d : List ℕ) → lacks 0 a ≡ true → lacks 0 b ≡ true → a ++ 0 ∷ c ≡ b ++ 0 ∷ d → (a ≡ b) × (c ≡ d)
cut_same [] [] c d first second is = (refl, cc)
cut_same [] (y ∷ b) c d first second is =
    let head : 0 ≡ y = cc in absurd (true≢false (sym (and_parts (not (nat_eq y 0)) (lacks 0 b) second).0 ∙ ap (λ (n : ℕ). not (nat_eq n 0)) (sym head)))
cut_same (x ∷ a) [] c d first second is =
    let head : x ≡ 0 = cc in absurd (true≢false (sym (and_parts (not (nat_eq x 0)) (lacks 0 a) first).0 ∙ ap (λ (n : ℕ). not (nat_eq n 0)) head))
cut_same (x ∷ a) (y ∷ b) c d first second is =
    let heads : x ≡ y = cc in
    let tails : a ++ 0 ∷ c ≡ b ++ 0 ∷ d = cc in
    let again = cut_same a b c d (and_parts (not (nat_eq x 0)) (lacks 0 a) first).1 (and_parts (not (nat_eq y 0)) (lacks 0 b) second).1 tails in
    ((λ i. heads i ∷ again.0 i), again.1)

module _ (lacks_zero : (text : List ℕ) → IsTrue (is_plain text) → IsTrue (lacks 0 text)) where
  pub pair_same : (user other client another : List ℕ) → IsTrue (is_name user) → IsTrue (is_name other)
      → checkpoint_text user client ≡ checkpoint_text other another → (user ≡ other) × (client ≡ another)
  pair_same user other client another named known is =
      cut_same user other client another (lacks_zero user (name_plain user named)) (lacks_zero other (name_plain other known)) is

  pub put_other : (before after : List SideEntry) (user client : List ℕ) (value : SideValue) (other another : List ℕ)
      → IsPut before (checkpoint_text user client) value after → IsTrue (is_name user) → IsTrue (is_name other)
      → (user ≢ other) ⊎ (client ≢ another) → checkpoint_at after other another ≡ checkpoint_at before other another
  put_other before after user client value other another put named known apart =
      put (checkpoint_text other another)
      ∙ ap (λ (b : Bool). if b then Some value else side_at before (checkpoint_text other another))
      (false_from_ne_true (bytes_eq (checkpoint_text user client) (checkpoint_text other another)) (λ same. differ apart (pair_same user other client another named known ((bytes_decides (checkpoint_text user client) (checkpoint_text other another)).0 same))))
    where
      differ : (user ≢ other) ⊎ (client ≢ another) → (user ≡ other) × (client ≡ another) → ⊥
      differ (inl ne) both = ne both.0
      differ (inr ne) both = ne both.1

pub put_here : (before after : List SideEntry) (user client : List ℕ) (value : SideValue)
    → IsPut before (checkpoint_text user client) value after → checkpoint_at after user client ≡ Some value
put_here before after user client value put =
    put (checkpoint_text user client)
    ∙ ap (λ (b : Bool). if b then Some value else side_at before (checkpoint_text user client)) ((bytes_decides (checkpoint_text user client) (checkpoint_text user client)).1 refl)
