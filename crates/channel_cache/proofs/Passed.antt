-- how many marks stand between places of a log
use Rattle.std.proofs.Common.{◌≡◌, ◌<◌, ◌≤◌, ◌+◌, ◌-◌, ℕ, zero, suc, refl, sym, ◌∙◌, ap, arith, List, [], ◌∷◌, ◌++◌, drop, take, Some}
use Rattle.std.specs.Prelude.{slice_get, sum_by}
use Rattle.std.proofs.lemmas.List.{drop-drop}
use Rattle.std.proofs.lemmas.List.Sums.{sum_by-append}
use Rattle.std.proofs.lemmas.Option.{none-some, same_Some}
use Rattle.sg_history.specs.declared.entries.Entry.{Entry}
use Rattle.sg_history.specs.History.{as_sync}
use Rattle.sg_history.specs.CountedLog.{count_marks, marks_between}
use Rattle.channel_cache.specs.Reads.{passed}

abbrev marks_in : List Entry → ℕ
marks_in es = sum_by (λ e. count_marks (as_sync e)) es

none_left : (n : ℕ) → ◌≡◌ {A = List Entry} (take n []) []
none_left zero = refl
none_left (suc n) = refl

-- the first of what is left and those behind it
both_parts : (a b : ℕ) (es : List Entry) → take (a + b) es ≡ take a es ++ take b (drop a es)
both_parts zero b es =
    let same : 0 + b ≡ b = omega arith in
    ap (λ (n : ℕ). take n es) same
both_parts (suc a) b [] = none_left (suc a + b) ∙ sym (none_left b)
both_parts (suc a) b (e ∷ es) =
    let one : ◌≡◌ {A = ℕ} (suc a + b) (suc (a + b)) = omega arith in
    ap (λ (n : ℕ). take n (e ∷ es)) one ∙ ap (λ (l : List Entry). e ∷ l) (both_parts a b es)

taken : (a b : ℕ) (es : List Entry) → marks_in (take (a + b) es) ≡ marks_in (take a es) + marks_in (take b (drop a es))
taken a b es = ap marks_in (both_parts a b es) ∙ sum_by-append (λ (e : Entry). count_marks (as_sync e)) (take a es) (take b (drop a es))

pub marks_then : (entries : List Entry) (from k to : ℕ) → from ≤ k → k ≤ to → marks_between entries from to ≡ marks_between entries from k + marks_between entries k to
marks_then entries from k to low high =
    let count : to - from ≡ (k - from) + (to - k) = omega (arith, low, high) in
    let place : from + (k - from) ≡ k = omega (arith, low) in
    ap (λ (n : ℕ). marks_in (take n (drop from entries))) count
    ∙ taken (k - from) (to - k) (drop from entries)
    ∙ ap (λ (l : List Entry). marks_in (take (k - from) (drop from entries)) + marks_in (take (to - k) l)) (drop-drop (k - from) from entries ∙ ap (λ (n : ℕ). drop n entries) place)

pub marks_none : (entries : List Entry) (k : ℕ) → marks_between entries k k ≡ 0
marks_none entries k =
    let none : k - k ≡ 0 = omega arith in
    ap (λ (n : ℕ). marks_in (take n (drop k entries))) none

first_left : (entries : List Entry) (n : ℕ) (e : Entry) → slice_get entries n ≡ Some e → marks_in (take 1 (drop n entries)) ≡ count_marks (as_sync e)
first_left [] n e is = absurd (none-some e is)
first_left (x ∷ xs) zero e is =
    let plain : 0 + count_marks (as_sync x) ≡ count_marks (as_sync x) = omega arith in
    plain ∙ ap (λ (y : Entry). count_marks (as_sync y)) (same_Some x e is)
first_left (x ∷ xs) (suc n) e is = first_left xs n e is

pub marks_one : (entries : List Entry) (at : ℕ) (e : Entry) → 0 < at → slice_get entries (at - 1) ≡ Some e → marks_between entries (at - 1) at ≡ count_marks (as_sync e)
marks_one entries at e pos is =
    let one : at - (at - 1) ≡ 1 = omega (arith, pos) in
    ap (λ (n : ℕ). marks_in (take n (drop (at - 1) entries))) one ∙ first_left entries (at - 1) e is

pub passed_then : (entries : List Entry) (from k to : ℕ) → from ≤ k → k ≤ to → passed entries from to ≡ passed entries from k + passed entries k to
passed_then entries from k to low high = omega (arith, low, high, marks_then entries from k to low high)
