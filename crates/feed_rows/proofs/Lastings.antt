-- what lasts up to a place
use Rattle.std.proofs.Common.{◌≡◌, ℕ, ◌+◌, ◌<◌, ◌≤◌, refl, sym, ◌∙◌, ap, subst, arith, Bool, true, false, ◌||◌, if◌then◌else◌, List, [], ◌∷◌, length, get_or, take, zero, suc, Option, Some}
use Rattle.std.specs.Prelude.{String}
use Rattle.std.specs.BTreeMap.{BTreeMap, get_by_text}
use Rattle.std.specs.Global.{Global}
use Rattle.std.specs.List.{list_any}
use Rattle.std.specs.Str.{bytes_eq}
use Rattle.std.proofs.lemmas.Option.{same_Some}
use Rattle.feed_rows.specs.declared.lasting.Lasting.{Lasting}
use Rattle.sg_history.specs.View.{every, passes}
use Rattle.grant_history.specs.declared.periods.Period.{Period}
use Rattle.grant_history.specs.Periods.{periods_have}
use Rattle.feed_rows.specs.declared.shown.Viewer.{Viewer}
use Rattle.feed_rows.specs.declared.by_channels.Kept.{Kept}
use Rattle.feed_rows.specs.inner.Shown.{is_shown, AreSwitches, IsLastSwitch}
use Rattle.feed_rows.specs.Lasting.{Lasts}

-- one test for another that answers alike
pub lasts_same : (p q : ℕ → Bool) (k : ℕ) (l : Lasting) → ((j : ℕ) → p j ≡ q j) → Lasts p k l → Lasts q k l
lasts_same p q k l same h =
    record { now = h.now ∙ same k; past = h.past; same = λ j a b. sym (same j) ∙ h.same j a b ∙ same k }

-- one more, and all
any_suc : {X : Type 0} (f : X → Bool) (xs : List X) (i : ℕ) (d : X) → i < length xs → list_any f (take (suc i) xs) ≡ (list_any f (take i xs) || f (get_or xs i d))
any_suc f [] i d h = absurd (omega (arith, h))
any_suc f (x ∷ xs) zero d h = or_nothing (f x)
  where
    or_nothing : (b : Bool) → (b || false) ≡ b
    or_nothing true = refl
    or_nothing false = refl
any_suc f (x ∷ xs) (suc i) d h =
    ap (λ (b : Bool). f x || b) (any_suc f xs i d (omega (arith, h))) ∙ or_over (f x) (list_any f (take i xs)) (f (get_or xs i d))
  where
    or_over : (a b c : Bool) → (a || (b || c)) ≡ ((a || b) || c)
    or_over true b c = refl
    or_over false b c = refl

pub any_more : {X : Type 0} (f : X → Bool) (xs : List X) (i : ℕ) (d : X) → i < length xs → list_any f (take (i + 1) xs) ≡ (list_any f (take i xs) || f (get_or xs i d))
any_more f xs i d h =
    let one : ◌≡◌ {A = ℕ} (i + 1) (suc i) = omega arith in
    ap (λ (n : ℕ). list_any f (take n xs)) one ∙ any_suc f xs i d h

pub take_all : {X : Type 0} (xs : List X) (n : ℕ) → length xs ≤ n → take n xs ≡ xs
take_all [] zero h = refl
take_all [] (suc n) h = refl
take_all (x ∷ xs) zero h = absurd (omega (arith, h))
take_all (x ∷ xs) (suc n) h = ap (λ l. x ∷ l) (take_all xs n (omega (arith, h)))

-- what the user has in channels that a filter lets through
module _ (periods : List Period) (filter : Option (List (List ℕ))) (channels : List (List ℕ)) (k : ℕ) (l : Lasting) where
  abbrev had : ℕ → Bool
  had j = list_any (λ c. periods_have periods c j) (every ∷ channels)

  pub shown_through : passes filter (every ∷ channels) ≡ true → Lasts had k l → Lasts (is_shown periods filter channels) k l
  shown_through lets = lasts_same _ _ k l (λ j. sym (ap (λ (b : Bool). list_any (λ c. periods_have periods c j) (if b then every ∷ channels else [])) lets))

-- what is kept once a list of channels was put in
pub switches_put : (viewer : Viewer) (start to : ℕ) (old new : BTreeMap (String Global) Kept) (name : List ℕ) (kept : Kept) → AreSwitches viewer start to old
    → IsLastSwitch (is_shown viewer.periods.now viewer.filter.now kept.channels.now) start to kept.last
    → ((text : List ℕ) → get_by_text new text ≡ (if bytes_eq name text then Some kept else get_by_text old text)) → AreSwitches viewer start to new
switches_put viewer start to old new name kept are right updated text one got = by (bytes_eq name text) (sym (updated text) ∙ got)
  where
    by : (b : Bool) → (if b then Some kept else get_by_text old text) ≡ Some one → IsLastSwitch (is_shown viewer.periods.now viewer.filter.now one.channels.now) start to one.last
    by true is = subst (λ (k : Kept). IsLastSwitch (is_shown viewer.periods.now viewer.filter.now k.channels.now) start to k.last) (same_Some kept one is) right
    by false is = are text one is
