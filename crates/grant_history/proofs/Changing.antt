-- lists of changes, of which some are made so far
use Rattle.std.proofs.Common.{◌≡◌, ◌<◌, ◌≤◌, ◌+◌, ℕ, zero, suc, refl, sym, ◌∙◌, ap, arith, true, if◌then◌else◌, List, [], ◌∷◌, ◌++◌, length, take, drop, get_or, append_assoc, Option, Some}
use Rattle.std.specs.Prelude.{is_some, option_map, slice_get, slice_set}
use Rattle.std.specs.BTreeMap.{get_by_text}
use Rattle.std.specs.Str.{bytes_eq}
use Rattle.std.proofs.lemmas.List.{append-nil, drop_all, length-map, take_all, take-map}
use Rattle.std.proofs.lemmas.Option.{none-some, same_Some, slice_get-get_or, slice_get-map}
use Rattle.grant_history.specs.declared.changes.Change.{Change}
use Rattle.grant_history.specs.declared.facts.Fact.{Fact}
use Rattle.grant_history.specs.inner.Changes.{AreKept, DocumentFacts, all_times, facts_in_change, facts_in_changes, given_after, given_before, given_with}
use Rattle.grant_history.specs.Facts.{times}
use Rattle.grant_history.specs.Ledger.{Lists}
use Rattle.grant_history.proofs.Summing.{Gives, after_more, all_append, before_more}
use Rattle.grant_tracks.proofs.Gathered.{split}

module _ (xs : List Change) (i : ℕ) where
  -- what is left is the next and those behind it
  pub left_split : (x : Change) (f : Fact) → i < length xs → x ≡ get_or xs i x
      → all_times (facts_in_changes (drop i xs)) f ≡ times x.list.facts.items f + all_times (facts_in_changes (drop (i + 1) xs)) f
  left_split x f within is = sym (ap (λ (l : List Change). all_times (facts_in_changes l) f) (split xs i x within is))

  pub left_none : (f : Fact) → length xs ≤ i → all_times (facts_in_changes (drop i xs)) f ≡ 0
  left_none f le = ap (λ (l : List Change). all_times (facts_in_changes l) f) (drop_all i xs le)

  -- the next one in plain words
  pub next_change : (x : Change) (cs : List DocumentFacts) → facts_in_changes xs ≡ cs → i < length xs → x ≡ get_or xs i x → slice_get cs i ≡ Some (facts_in_change x)
  next_change x cs same within is =
      ap (λ (l : List DocumentFacts). slice_get l i) (sym same)
      ∙ slice_get-map facts_in_change xs i
      ∙ ap (λ (o : Option Change). option_map facts_in_change o) (slice_get-get_or xs i x within ∙ ap (λ (y : Change). Some y) (sym is))

  pub first_changes : (cs : List DocumentFacts) → facts_in_changes xs ≡ cs → facts_in_changes (take i xs) ≡ take i cs
  first_changes cs same = sym (take-map facts_in_change i xs) ∙ ap (λ (l : List DocumentFacts). take i l) same

-- one that says the same in the place of another
pub set_same : (xs : List Change) (i : ℕ) (x y : Change) → i < length xs → x ≡ get_or xs i x → facts_in_change y ≡ facts_in_change x → facts_in_changes (slice_set xs i y) ≡ facts_in_changes xs
set_same [] i x y within is same = absurd (omega (arith, within))
set_same (z ∷ zs) zero x y within is same = ap (λ (c : DocumentFacts). c ∷ facts_in_changes zs) (same ∙ ap facts_in_change is)
set_same (z ∷ zs) (suc i) x y within is same = ap (λ (l : List DocumentFacts). facts_in_change z ∷ l) (set_same zs i x y (omega (arith, within)) is same)

pub take_one : (cs : List DocumentFacts) (i : ℕ) (c : DocumentFacts) → slice_get cs i ≡ Some c → take (suc i) cs ≡ take i cs ++ c ∷ []
take_one [] i c h = absurd (none-some c h)
take_one (x ∷ xs) zero c h = ap (λ (y : DocumentFacts). y ∷ []) (same_Some x c h)
take_one (x ∷ xs) (suc i) c h = ap (λ (l : List DocumentFacts). x ∷ l) (take_one xs i c h)

pub take_next : (cs : List DocumentFacts) (i : ℕ) (c : DocumentFacts) → slice_get cs i ≡ Some c → take (i + 1) cs ≡ take i cs ++ c ∷ []
take_next cs i c h =
    let one : ◌≡◌ {A = ℕ} (i + 1) (suc i) = omega arith in
    ap (λ (n : ℕ). take n cs) one ∙ take_one cs i c h

pub times_next : (cs : List DocumentFacts) (i : ℕ) (c : DocumentFacts) (f : Fact) → slice_get cs i ≡ Some c → all_times (take (i + 1) cs) f ≡ all_times (take i cs) f + times c.facts f
times_next cs i c f h =
    omega (arith, ap (λ (l : List DocumentFacts). all_times l f) (take_next cs i c h), all_append (take i cs) (c ∷ []) f)

-- how many there are
pub count_same : (xs : List Change) (cs : List DocumentFacts) → facts_in_changes xs ≡ cs → length xs ≡ length cs
count_same xs cs same = sym (length-map xs facts_in_change) ∙ ap length same

pub all_taken : (cs : List DocumentFacts) (i : ℕ) → length cs ≤ i → take i cs ≡ cs
all_taken cs i le = take_all i cs le

-- something is kept of each
pub kept_at : (lists : Lists) (cs : List DocumentFacts) (i : ℕ) (c : DocumentFacts) → AreKept lists cs → slice_get cs i ≡ Some c → is_some (get_by_text lists c.doc) ≡ true
kept_at lists [] i c are h = absurd (none-some c h)
kept_at lists (x ∷ xs) zero c are h = ap (λ (y : DocumentFacts). is_some (get_by_text lists y.doc)) (sym (same_Some x c h)) ∙ are.0
kept_at lists (x ∷ xs) (suc i) c are h = kept_at lists xs i c are.1 h

pub kept_more : (old new : Lists) (cs : List DocumentFacts) (c : DocumentFacts) → AreKept old cs → ((other : List ℕ) → is_some (get_by_text old other) ≡ true → is_some (get_by_text new other) ≡ true) → is_some (get_by_text new c.doc) ≡ true → AreKept new (cs ++ c ∷ [])
kept_more old new [] c are kept there = (there, tt)
kept_more old new (x ∷ xs) c are kept there = (kept x.doc are.0, kept_more old new xs c are.1 kept there)

count_before : (g : Gives) (cs : List DocumentFacts) → length (given_before g cs) ≡ length cs
count_before g [] = refl
count_before g (c ∷ cs) = omega (arith, count_before (given_with g c) cs)

count_taken : (cs : List DocumentFacts) (i : ℕ) (c : DocumentFacts) → slice_get cs i ≡ Some c → length (take i cs) ≡ i
count_taken [] i c h = absurd (none-some c h)
count_taken (x ∷ xs) zero c h = refl
count_taken (x ∷ xs) (suc i) c h = omega (arith, count_taken xs i c h)

drop_one : (cs : List DocumentFacts) (i : ℕ) (c : DocumentFacts) → slice_get cs i ≡ Some c → drop i cs ≡ c ∷ drop (suc i) cs
drop_one [] i c h = absurd (none-some c h)
drop_one (x ∷ xs) zero c h = ap (λ (y : DocumentFacts). y ∷ xs) (same_Some x c h)
drop_one (x ∷ xs) (suc i) c h = drop_one xs i c h

-- the one behind so many, and another in its place
seam_got : (xs ys : List DocumentFacts) (y : DocumentFacts) → slice_get (xs ++ y ∷ ys) (length xs) ≡ Some y
seam_got [] ys y = refl
seam_got (x ∷ xs) ys y = seam_got xs ys y

seam_set : (xs ys : List DocumentFacts) (y z : DocumentFacts) → slice_set (xs ++ y ∷ ys) (length xs) z ≡ xs ++ z ∷ ys
seam_set [] ys y z = refl
seam_set (x ∷ xs) ys y z = ap (λ (l : List DocumentFacts). x ∷ l) (seam_set xs ys y z)

-- those so far were swapped for what they gave, and one more is
module _ (g : Gives) (cs : List DocumentFacts) (i : ℕ) (c : DocumentFacts) (at : slice_get cs i ≡ Some c) where
  before_count : length (given_before g (take i cs)) ≡ i
  before_count = count_before g (take i cs) ∙ count_taken cs i c at

  cut : given_before g (take i cs) ++ drop i cs ≡ given_before g (take i cs) ++ c ∷ drop (suc i) cs
  cut = ap (λ (l : List DocumentFacts). given_before g (take i cs) ++ l) (drop_one cs i c at)

  -- the next one is not swapped yet
  pub still_there : (all : List DocumentFacts) → all ≡ given_before g (take i cs) ++ drop i cs → slice_get all i ≡ Some c
  still_there all are =
      ap (λ (l : List DocumentFacts). slice_get l i) (are ∙ cut)
      ∙ ap (λ (n : ℕ). slice_get (given_before g (take i cs) ++ c ∷ drop (suc i) cs) n) (sym before_count)
      ∙ seam_got (given_before g (take i cs)) (drop (suc i) cs) c

  pub one_swapped : (all : List DocumentFacts) (z : DocumentFacts) → all ≡ given_before g (take i cs) ++ drop i cs → z ≡ record { doc = c.doc; facts = given_after g (take i cs) c.doc }
      → slice_set all i z ≡ given_before g (take (i + 1) cs) ++ drop (i + 1) cs
  one_swapped all z are is =
      let one : ◌≡◌ {A = ℕ} (suc i) (i + 1) = omega arith in
      ap (λ (l : List DocumentFacts). slice_set l i z) (are ∙ cut)
      ∙ ap (λ (n : ℕ). slice_set (given_before g (take i cs) ++ c ∷ drop (suc i) cs) n z) (sym before_count)
      ∙ seam_set (given_before g (take i cs)) (drop (suc i) cs) c z
      ∙ sym (append_assoc (given_before g (take i cs)) (z ∷ []) (drop (suc i) cs))
      ∙ ap (λ (l : List DocumentFacts). l ++ drop (suc i) cs) (ap (λ (y : DocumentFacts). given_before g (take i cs) ++ y ∷ []) is ∙ sym (before_more g (take i cs) c) ∙ ap (λ (l : List DocumentFacts). given_before g l) (sym (take_next cs i c at)))
      ∙ ap (λ (n : ℕ). given_before g (take (i + 1) cs) ++ drop n cs) one

  pub list_swapped : (d : List ℕ) → (if bytes_eq c.doc d then c.facts else given_after g (take i cs) d) ≡ given_after g (take (i + 1) cs) d
  list_swapped d = sym (ap (λ (l : List DocumentFacts). given_after g l d) (take_next cs i c at) ∙ after_more g (take i cs) c d)

pub all_swapped : (g : Gives) (cs : List DocumentFacts) (i : ℕ) → length cs ≤ i → given_before g (take i cs) ++ drop i cs ≡ given_before g cs
all_swapped g cs i le =
    ap (λ (l : List DocumentFacts). given_before g l ++ drop i cs) (take_all i cs le)
    ∙ ap (λ (l : List DocumentFacts). given_before g cs ++ l) (drop_all i cs le)
    ∙ append-nil (given_before g cs)

pub made_same : (z : DocumentFacts) (doc : List ℕ) (facts : List Fact) → z.doc ≡ doc → z.facts ≡ facts → z ≡ record { doc = doc; facts = facts }
made_same z doc facts a b = ap (λ (d : List ℕ). record { doc = d; facts = z.facts }) a ∙ ap (λ (l : List Fact). record { doc = doc; facts = l }) b

pub none_in : (xs : List Change) → length xs ≡ 0 → facts_in_changes xs ≡ []
none_in [] h = refl
none_in (x ∷ xs) h = absurd (omega (arith, h))
