-- what a set answers and leaves
use Rattle.std.proofs.Common.{◌≡◌, ◌≢◌, ℕ, ◌+◌, ◌<◌, ◌≤◌, Bool, true, false, List, length, Option, Some, None, refl, sym, ap, subst, ◌∙◌, arith}
use Rattle.std.specs.Prelude.{nat_eq, nat_lt, is_some, if◌then◌else◌}
use Rattle.std.specs.Option.{option_map, unwrap_or}
use Rattle.std.specs.Str.{bytes_eq}
use Rattle.std.specs.Cmp.Lexicographic.{bytes_decides}
use Rattle.std.proofs.lemmas.Bool.{true≢false, eqb-false, leb-false, le-ltb}
use Rattle.std.proofs.lemmas.Option.{same_Some}
use Rattle.sg_history.specs.Board.{SideEntry, SideValue, side_at, Follows, SideFollows}
use Rattle.checkpoint_store.specs.declared.answers.SetAnswer.{SetAnswer}
use Rattle.checkpoint_store.specs.declared.answers.SetAnswer.TheVariants.{Set, Conflict409, TooLarge413, Full503, Memory}
use Rattle.checkpoint_store.specs.SideMaps.{side_number, IsPut, IsRising}
use Rattle.checkpoint_store.specs.Checkpoints.{IsPairText, IsCheckpoint, AreCheckpoints}
use Rattle.checkpoint_store.specs.Answers.{is_full, answer_of, set_answer, Sets}

-- ---- the number of a set
abbrev number_set : SetAnswer → ℕ
number_set (Set rev) = rev
number_set (Conflict409 current) = 0
number_set (TooLarge413 bytes) = 0
number_set Full503 = 0
number_set Memory = 0

abbrev is_set : SetAnswer → Bool
is_set (Set rev) = true
is_set (Conflict409 current) = false
is_set (TooLarge413 bytes) = false
is_set Full503 = false
is_set Memory = false

not_set : {P : Type 0} (r : SetAnswer) (next : ℕ) → is_set r ≡ false → r ≡ Set next → P
not_set r next unset is = absurd (true≢false (sym (ap is_set is) ∙ unset))

pub set_next : (number : Option ℕ) (count rev next : ℕ) → answer_of number count rev ≡ Set next → (is_full number count ≡ false) × (next ≡ unwrap_or number 0 + 1)
set_next number count rev next is = go (nat_eq rev (unwrap_or number 0)) (is_full number count) refl is
  where
    go : (same full : Bool) → is_full number count ≡ full
        → (if same then (if full then Full503 else Set (unwrap_or number 0 + 1)) else Conflict409 (unwrap_or number 0)) ≡ Set next
        → (is_full number count ≡ false) × (next ≡ unwrap_or number 0 + 1)
    go false full e is = not_set (Conflict409 (unwrap_or number 0)) next refl is
    go true true e is = not_set Full503 next refl is
    go true false e is = (e, sym (ap number_set is))

-- a body that is not too large is answered by the number that is kept
pub answer_small : (side : List SideEntry) (text : List ℕ) (rev : ℕ) (body : List ℕ) → length body ≤ 4096
    → set_answer side text rev body ≡ answer_of (side_number side text) (length side) rev
answer_small side text rev body small =
    ap (λ (b : Bool). if b then TooLarge413 (length body) else answer_of (side_number side text) (length side) rev) (le-ltb 4096 (length body) small)

-- ---- what a set leaves
pub refuses : (side : List SideEntry) (text : List ℕ) (rev : ℕ) (body : List ℕ) (r : SetAnswer)
    → ((next : ℕ) → r ≢ Set next) → r ≡ set_answer side text rev body → Sets side text rev body r side
refuses side text rev body (Set next) unset is = absurd (unset next refl)
refuses side text rev body (Conflict409 current) unset is = record { answer = λ there. is; put = tt; same = refl }
refuses side text rev body (TooLarge413 bytes) unset is = record { answer = λ there. is; put = tt; same = refl }
refuses side text rev body Full503 unset is = record { answer = λ there. is; put = tt; same = refl }
refuses side text rev body Memory unset is = record { answer = λ there. is; put = tt; same = refl }

-- what is answered by a key is what is answered by its text
pub by_text : (side : List SideEntry) (key text : List ℕ) (rev : ℕ) (body : List ℕ) (r : SetAnswer) → key ≡ text → length body ≤ 4096
    → r ≡ answer_of (side_number side key) (length side) rev → r ≡ set_answer side text rev body
by_text side key text rev body r same small is =
    is ∙ ap (λ (t : List ℕ). answer_of (side_number side t) (length side) rev) same ∙ sym (answer_small side text rev body small)

pub runs_out : (before after : List SideEntry) (text : List ℕ) (rev : ℕ) (body : List ℕ) → after ≡ before → Sets before text rev body Memory after
runs_out before after text rev body is = record { answer = λ there. absurd (there refl); put = tt; same = is }

pub is_put : (before after : List SideEntry) (text : List ℕ) (rev : ℕ) (body : List ℕ) (next : ℕ) (r : SetAnswer)
    → r ≡ Set next → r ≡ set_answer before text rev body
    → IsPut before text (record { number = next; bytes = body }) after → Sets before text rev body r after
is_put before after text rev body next r set is put =
    subst (λ (a : SetAnswer). Sets before text rev body a after) (sym set)
    (record { answer = λ there. sym set ∙ is; put = put; same = tt })

-- ---- the checkpoints that a set leaves
next_fits : (found : Option SideValue) (count next : ℕ)
    → ((old : SideValue) → found ≡ Some old → old.number ≤ 18446744073709551615) → count ≤ 100000
    → is_full (option_map (λ (v : SideValue). v.number) found) count ≡ false
    → next ≡ unwrap_or (option_map (λ (v : SideValue). v.number) found) 0 + 1
    → (1 ≤ next) × (next ≤ 18446744073709551615) × (count + (if is_some found then 0 else 1) ≤ 100000)
next_fits None count next last most full is =
    let one : next ≡ 1 = is in
    let low : count < 100000 = leb-false 100000 count full in
    let room : count + 1 ≤ 100000 = omega (arith, low) in
    (omega (arith, one), omega (arith, one), room)
next_fits (Some old) count next last most full is =
    let more : next ≡ old.number + 1 = is in
    let apart : old.number ≢ 18446744073709551615 = eqb-false old.number 18446744073709551615 full in
    let high : old.number ≤ 18446744073709551615 = last old refl in
    let room : count + 0 ≤ 100000 = omega (arith, most) in
    (omega (arith, more), omega (arith, more, apart, high), room)

module _ (before after : List SideEntry) (text body : List ℕ) (rev next : ℕ) (are : AreCheckpoints before) (pair : IsPairText text)
    (small : length body ≤ 4096) (is : answer_of (side_number before text) (length before) rev ≡ Set next)
    (put : IsPut before text (record { number = next; bytes = body }) after) where
  abbrev value : SideValue
  value = record { number = next; bytes = body }

  fits : (1 ≤ next) × (next ≤ 18446744073709551615) × (length before + (if is_some (side_at before text) then 0 else 1) ≤ 100000)
  fits =
      let it = set_next (side_number before text) (length before) rev next is in
      next_fits (side_at before text) (length before) next (λ old there. let c = are.each text old there in c.last) are.count it.0 it.1

  here : IsCheckpoint text value
  here = record { pair = pair; first = fits.0; last = fits.1; small = small }

  each : (other : List ℕ) (v : SideValue) → side_at after other ≡ Some v → IsCheckpoint other v
  each other v there = go (bytes_eq text other) refl (sym (put other) ∙ there)
    where
      go : (b : Bool) → bytes_eq text other ≡ b → (if b then Some value else side_at before other) ≡ Some v → IsCheckpoint other v
      go true same is =
          subst (λ (u : SideValue). IsCheckpoint other u) (same_Some value v is)
          (subst (λ (t : List ℕ). IsCheckpoint t value) ((bytes_decides text other).0 same) here)
      go false same is = are.each other v is

  pub set_checkpoints : IsRising after → length after ≡ length before + (if is_some (side_at before text) then 0 else 1) → AreCheckpoints after
  set_checkpoints rising count = record { rising = rising; each = each; count = subst (λ (n : ℕ). n ≤ 100000) (sym count) fits.2 }

-- ---- what a set leaves follows what was there
side_itself : (side : List SideEntry) → SideFollows side side
side_itself side text old there = (old, there, record { number = omega arith; bytes = λ same. refl })

put_follows : (before after : List SideEntry) (text : List ℕ) (value : SideValue) → unwrap_or (side_number before text) 0 < value.number
    → IsPut before text value after → SideFollows before after
put_follows before after text value more put other old there = go (bytes_eq text other) refl
  where
    go : (b : Bool) → bytes_eq text other ≡ b → (new : SideValue) × (side_at after other ≡ Some new) × Follows old new
    go true same =
        let stands : side_at before text ≡ Some old = ap (side_at before) ((bytes_decides text other).0 same) ∙ there in
        let was : unwrap_or (side_number before text) 0 ≡ old.number = ap (λ (o : Option SideValue). unwrap_or (option_map (λ (v : SideValue). v.number) o) 0) stands in (
          value,
          put other ∙ ap (λ (b : Bool). if b then Some value else side_at before other) same,
          record {
            number = omega (arith, more, was);
            bytes = λ equal. absurd (omega (arith, more, was, equal));
          },
        )
    go false same = (old, put other ∙ ap (λ (b : Bool). if b then Some value else side_at before other) same ∙ there, record { number = omega arith; bytes = λ equal. refl })

pub set_follows : (before after : List SideEntry) (text : List ℕ) (rev : ℕ) (body : List ℕ) (r : SetAnswer) → Sets before text rev body r after → SideFollows before after
set_follows before after text rev body (Set next) sets = put_follows before after text (record { number = next; bytes = body }) low sets.put
  where
    number_is : (large : Bool) → Set next ≡ (if large then TooLarge413 (length body) else answer_of (side_number before text) (length before) rev)
        → next ≡ unwrap_or (side_number before text) 0 + 1
    number_is true is = not_set (TooLarge413 (length body)) next refl (sym is)
    number_is false is = (set_next (side_number before text) (length before) rev next (sym is)).1

    low : unwrap_or (side_number before text) 0 < next
    low =
        let it : next ≡ unwrap_or (side_number before text) 0 + 1 = number_is (nat_lt 4096 (length body)) (sets.answer (λ e. true≢false (ap is_set e))) in
        omega (arith, it)
set_follows before after text rev body (Conflict409 current) sets = subst (SideFollows before) (sym sets.same) (side_itself before)
set_follows before after text rev body (TooLarge413 bytes) sets = subst (SideFollows before) (sym sets.same) (side_itself before)
set_follows before after text rev body Full503 sets = subst (SideFollows before) (sym sets.same) (side_itself before)
set_follows before after text rev body Memory sets = subst (SideFollows before) (sym sets.same) (side_itself before)
