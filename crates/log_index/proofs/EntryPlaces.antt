-- what is kept of entries, one by one
use Rattle.std.proofs.Common.{◌≡◌, ◌≢◌, ◌<◌, ◌≤◌, ◌+◌, ℕ, zero, suc, refl, sym, subst, ◌∙◌, ap, arith, Bool, true, false, if◌then◌else◌, List, [], ◌∷◌, ◌++◌, length, length-append, take, Option, Some, None, nat_eq, unwrap_or}
use Rattle.std.specs.Prelude.{slice_get}
use Rattle.std.proofs.lemmas.Bool.{eqb-true, eqb-false, ne_eqb}
use Rattle.std.proofs.lemmas.Option.{none-some, same_Some}
use Rattle.sg_history.specs.declared.entries.Entry.{Entry}
use Rattle.sg_history.specs.History.{as_write}
use Rattle.log_index.specs.declared.documents.Document.{Document}
use Rattle.log_index.specs.declared.entry_places.EntryPlaces.{EntryPlaces}
use Rattle.log_index.specs.Places.{document_before, before_at, after_at, next_at}
use Rattle.log_index.specs.Representation.{KeepsPlaces, behind_by, kept_at, last_kept, no_places, places_by}
use Rattle.log_index.proofs.Nexts.{Stands, after_newest, after_older, before_newest, before_older, next_newest, next_pos, next_stays, next_there, next_zero, none_after, stands, stood_after, stood_before}

pub kept_newest : (xs : List EntryPlaces) (y : EntryPlaces) (seq : ℕ) → seq ≡ length xs + 1 → kept_at (xs ++ y ∷ []) seq ≡ y
kept_newest xs y zero is = absurd (omega (arith, is))
kept_newest xs y (suc k) is = at xs k (omega (arith, is))
  where
    at : (xs : List EntryPlaces) (k : ℕ) → k ≡ length xs → unwrap_or (slice_get (xs ++ y ∷ []) k) no_places ≡ y
    at [] zero is = refl
    at [] (suc k) is = absurd (omega (arith, is))
    at (x ∷ xs) zero is = absurd (omega (arith, is))
    at (x ∷ xs) (suc k) is = at xs k (omega (arith, is))

pub kept_older : (xs : List EntryPlaces) (y : EntryPlaces) (seq : ℕ) → seq ≢ length xs + 1 → kept_at (xs ++ y ∷ []) seq ≡ kept_at xs seq
kept_older xs y zero other = refl
kept_older xs y (suc k) other = at xs k (λ is. other (omega (arith, is)))
  where
    at : (xs : List EntryPlaces) (k : ℕ) → k ≢ length xs → unwrap_or (slice_get (xs ++ y ∷ []) k) no_places ≡ unwrap_or (slice_get xs k) no_places
    at [] zero other = absurd (other refl)
    at [] (suc k) other = refl
    at (x ∷ xs) zero other = refl
    at (x ∷ xs) (suc k) other = at xs k (λ is. other (ap (λ (n : ℕ). suc n) is))

pub whole : (new rest : List EntryPlaces) (n : ℕ) → n ≡ length new → take n (new ++ rest) ≡ new
whole [] rest zero is = refl
whole [] rest (suc n) is = absurd (omega (arith, is))
whole (x ∷ xs) rest zero is = absurd (omega (arith, is))
whole (x ∷ xs) rest (suc n) is = ap (λ (l : List EntryPlaces). x ∷ l) (whole xs rest n (omega (arith, is)))

pub none_kept : (list : List EntryPlaces) (es : List Entry) → list ≡ [] → es ≡ [] → KeepsPlaces list es
none_kept list es none nothing =
    subst (λ (l : List EntryPlaces). KeepsPlaces l es) (sym none) (subst (λ (e : List Entry). KeepsPlaces [] e) (sym nothing) (record { count = refl; each = each }))
  where
    each : (seq : ℕ) → kept_at [] seq ≡ places_by None None None
    each zero = refl
    each (suc k) = refl

pub after_gives : (list : List EntryPlaces) (es : List Entry) (seq : ℕ) → KeepsPlaces list es → behind_by (kept_at list seq) seq ≡ after_at es seq
after_gives list es seq keeps = ap (λ (p : EntryPlaces). behind_by p seq) (keeps.each seq) ∙ by (after_at es seq) refl
  where
    by : (o : Option Document) → after_at es seq ≡ o → behind_by (places_by (before_at es seq) o (next_at es seq)) seq ≡ o
    by None is = refl
    by (Some d) is =
        let one : (d.last ≡ seq) × (0 < d.first) = stood_after es seq d is in
        ap (λ (b : Bool). if b then None else Some (record { first = d.first; last = seq; winning = d.winning })) (ne_eqb d.first 0 (λ same. omega (arith, same, one.1)))
        ∙ ap (λ (n : ℕ). Some (record { first = d.first; last = n; winning = d.winning })) (sym one.0)

pub before_gives : (list : List EntryPlaces) (es : List Entry) (seq : ℕ) → KeepsPlaces list es
    → behind_by (kept_at list (kept_at list seq).before) (kept_at list seq).before ≡ before_at es seq
before_gives list es seq keeps =
    after_gives list es (kept_at list seq).before keeps
    ∙ ap (λ (p : EntryPlaces). after_at es p.before) (keeps.each seq)
    ∙ by (before_at es seq) refl
  where
    by : (o : Option Document) → before_at es seq ≡ o → after_at es (last_kept o) ≡ o
    by None is = none_after es
    by (Some d) is = (stood_before es seq d is).0.behind

pub next_gives : (list : List EntryPlaces) (es : List Entry) (seq : ℕ) → KeepsPlaces list es
    → ((kept_at list seq).next ≡ 0 → None ≡ next_at es seq) × ((kept_at list seq).next ≢ 0 → Some (kept_at list seq).next ≡ next_at es seq)
next_gives list es seq keeps = by (next_at es seq) refl (ap (λ (p : EntryPlaces). p.next) (keeps.each seq))
  where
    by : (o : Option ℕ) → next_at es seq ≡ o → (kept_at list seq).next ≡ unwrap_or o 0
        → ((kept_at list seq).next ≡ 0 → None ≡ o) × ((kept_at list seq).next ≢ 0 → Some (kept_at list seq).next ≡ o)
    by None at is = ((λ none. refl), (λ some. absurd (some is)))
    by (Some n) at is = ((λ none. absurd (omega (arith, none, is, next_pos es seq n at))), (λ some. ap (λ (k : ℕ). Some k) is))

-- the last write before is within the list
pub last_within : (list : List EntryPlaces) (es : List Entry) (e : Entry) → KeepsPlaces list es → last_kept (document_before es (as_write e)) ≤ length list
last_within list es e keeps = by (document_before es (as_write e)) refl
  where
    by : (o : Option Document) → document_before es (as_write e) ≡ o → last_kept o ≤ length list
    by None is = omega arith
    by (Some d) is =
        let one = stood_before (e ∷ es) (length es + 1) d (before_newest e es (length es + 1) refl ∙ is) in
        omega (arith, one.1, keeps.count)

-- what is kept once the next entry was taken
pub pushed : (old mid new : List EntryPlaces) (es : List Entry) (e : Entry) (before after : Option Document) (n : ℕ) → KeepsPlaces old es
    → n ≡ length es + 1 → before ≡ document_before es (as_write e) → after ≡ document_before (e ∷ es) (as_write e)
    → mid ≡ old ++ places_by before after None ∷ [] → length new ≡ length mid
    → (0 < last_kept before → last_kept before ≤ length mid → kept_at new (last_kept before) ≡ record (kept_at mid (last_kept before)) { next = n })
    → ((other : ℕ) → other ≢ last_kept before → kept_at new other ≡ kept_at mid other)
    → KeepsPlaces new (e ∷ es)
pushed old mid new es e before after n keeps next was is made long own others = record {
  count = omega (arith, long, grown, keeps.count);
  each = λ seq. each seq (nat_eq seq (length es + 1)) refl;
}
  where
    x : EntryPlaces
    x = places_by before after None

    grown : length mid ≡ length old + 1
    grown = ap length made ∙ length-append old (x ∷ [])

    low : last_kept before ≤ length old
    low = omega (arith, ap last_kept was, last_within old es e keeps)

    old_one : (seq : ℕ) → seq ≢ length es + 1 → kept_at mid seq ≡ places_by (before_at es seq) (after_at es seq) (next_at es seq)
    old_one seq other =
        ap (λ (l : List EntryPlaces). kept_at l seq) made
        ∙ kept_older old x seq (λ same. other (omega (arith, same, keeps.count)))
        ∙ keeps.each seq

    kept : (seq : ℕ) → seq ≢ length es + 1 → (b : Bool) → nat_eq seq (last_kept before) ≡ b → (k : ℕ) → seq ≡ k
        → kept_at new seq ≡ places_by (before_at es seq) (after_at es seq) (next_at (e ∷ es) seq)
    kept seq older false at k number =
        let other : seq ≢ last_kept before = eqb-false seq (last_kept before) at in
        others seq other
        ∙ old_one seq older
        ∙ ap (λ (o : Option ℕ). places_by (before_at es seq) (after_at es seq) o) (sym (next_stays e es seq (λ same. other (same ∙ sym (ap last_kept was)))))
    kept seq older true at zero number =
        let stays : next_at es seq ≡ next_at (e ∷ es) seq = ap (next_at es) number ∙ next_zero es ∙ sym (next_zero (e ∷ es)) ∙ sym (ap (next_at (e ∷ es)) number) in
        ap (kept_at new) number
        ∙ sym (ap (kept_at mid) number)
        ∙ old_one seq older
        ∙ ap (λ (o : Option ℕ). places_by (before_at es seq) (after_at es seq) o) stays
    kept seq older true at (suc k) number =
        let same : seq ≡ last_kept before = eqb-true seq (last_kept before) at in
        let pos : 0 < seq = omega (arith, number) in
        ap (kept_at new) same
        ∙ own (omega (arith, pos, same)) (omega (arith, low, grown))
        ∙ ap (λ (m : ℕ). record (kept_at mid m) { next = n }) (sym same)
        ∙ ap (λ (p : EntryPlaces). record p { next = n }) (old_one seq older)
        ∙ ap (λ (m : ℕ). places_by (before_at es seq) (after_at es seq) (Some m)) next
        ∙ ap (λ (o : Option ℕ). places_by (before_at es seq) (after_at es seq) o) (sym (next_there e es seq (same ∙ ap last_kept was) pos))

    each : (seq : ℕ) (b : Bool) → nat_eq seq (length es + 1) ≡ b
        → kept_at new seq ≡ places_by (before_at (e ∷ es) seq) (after_at (e ∷ es) seq) (next_at (e ∷ es) seq)
    each seq true at =
        let number : seq ≡ length es + 1 = eqb-true seq (length es + 1) at in
        others seq (λ same. omega (arith, same, number, low, keeps.count))
        ∙ ap (λ (l : List EntryPlaces). kept_at l seq) made
        ∙ kept_newest old x seq (omega (arith, number, keeps.count))
        ∙ ap (λ (o : Option Document). places_by o after None) (was ∙ sym (before_newest e es seq number))
        ∙ ap (λ (o : Option Document). places_by (before_at (e ∷ es) seq) o None) (is ∙ sym (after_newest e es seq number))
        ∙ ap (λ (o : Option ℕ). places_by (before_at (e ∷ es) seq) (after_at (e ∷ es) seq) o) (sym (next_newest e es seq number))
    each seq false at =
        let other : seq ≢ length es + 1 = eqb-false seq (length es + 1) at in
        kept seq other (nat_eq seq (last_kept before)) refl seq refl
        ∙ ap (λ (o : Option Document). places_by o (after_at es seq) (next_at (e ∷ es) seq)) (sym (before_older e es seq other))
        ∙ ap (λ (o : Option Document). places_by (before_at (e ∷ es) seq) o (next_at (e ∷ es) seq)) (sym (after_older e es seq other))
