-- going back from the last write of a document, write by write
use Rattle.std.proofs.Common.{◌≡◌, ◌<◌, ◌≤◌, ◌+◌, ◌-◌, ℕ, refl, sym, ◌∙◌, ap, arith, Bool, true, false, if◌then◌else◌, List, [], ◌∷◌, length, Option, Some, None}
use Rattle.std.specs.Prelude.{nat_le}
use Rattle.std.proofs.lemmas.Bool.{leb-true, leb-false}
use Rattle.std.proofs.lemmas.Option.{none-some}
use Rattle.sg_history.specs.declared.entries.Entry.{Entry}
use Rattle.sg_history.specs.declared.entries.Write.{Write}
use Rattle.sg_history.specs.History.{as_write, write_to}
use Rattle.log_index.specs.declared.documents.Document.{Document}
use Rattle.log_index.specs.Marks.{entries_up_to}
use Rattle.log_index.specs.Places.{document_at, document_before, before_at}
use Rattle.log_index.specs.Representation.{last_kept}
use Rattle.log_index.proofs.FirstRevisions.{of_doc}
use Rattle.log_index.proofs.Nexts.{Stands, before_newest, before_older, last_is, stands, stays_at, stood_before}

-- the entries up to their last one and behind it are all
pub all_up_to : (es : List Entry) (k : ℕ) → length es ≤ k → entries_up_to es k ≡ es
all_up_to [] k high = refl
all_up_to (e ∷ older) k high = by (nat_le (length older + 1) k) refl
  where
    by : (b : Bool) → nat_le (length older + 1) k ≡ b → (if b then e ∷ older else entries_up_to older k) ≡ e ∷ older
    by true is = refl
    by false is = absurd (omega (arith, high, leb-false (length older + 1) k is))

pub up_to_older : (e : Entry) (older : List Entry) (k : ℕ) → k ≤ length older → entries_up_to (e ∷ older) k ≡ entries_up_to older k
up_to_older e older k low = by (nat_le (length older + 1) k) refl
  where
    by : (b : Bool) → nat_le (length older + 1) k ≡ b → (if b then e ∷ older else entries_up_to older k) ≡ entries_up_to older k
    by true is = absurd (omega (arith, low, leb-true (length older + 1) k is))
    by false is = refl

-- before its last write up to a place, a document stood where the entries before that write leave it
pub one_back : (es : List Entry) (doc : List ℕ) (k : ℕ) (d : Document) → document_at (entries_up_to es k) doc ≡ Some d
    → (before_at es d.last ≡ document_at (entries_up_to es (d.last - 1)) doc) × (d.last ≤ length es) × (0 < d.last)
one_back [] doc k d is = absurd (none-some d is)
one_back (e ∷ older) doc k d is = by (nat_le (length older + 1) k) refl (λ n h. one_back older doc n d h) is
  where
    Back : List Entry → Type 0
    Back es = (before_at es d.last ≡ document_at (entries_up_to es (d.last - 1)) doc) × (d.last ≤ length es) × (0 < d.last)

    more : Back older → Back (e ∷ older)
    more one = (
      before_older e older d.last (λ same. omega (arith, same, one.1)) ∙ one.0 ∙ ap (λ (es : List Entry). document_at es doc) (sym (up_to_older e older (d.last - 1) (omega (arith, one.1)))),
      omega (arith, one.1),
      one.2,
    )

    own : (o : Option Write) → write_to e doc ≡ o → ((n : ℕ) → document_at (entries_up_to older n) doc ≡ Some d → Back older) → document_at (e ∷ older) doc ≡ Some d → Back (e ∷ older)
    own None none rest is =
        more (rest (length older) (ap (λ (es : List Entry). document_at es doc) (all_up_to older (length older) (omega arith)) ∙ sym (stays_at e older doc none) ∙ is))
    own (Some w) at rest is =
        let last : d.last ≡ length older + 1 = sym (ap last_kept is) ∙ last_is e older doc w at in
        let one : (as_write e ≡ Some w) × (w.doc ≡ doc) = of_doc (as_write e) doc w at in
        let all : entries_up_to (e ∷ older) (d.last - 1) ≡ older = up_to_older e older (d.last - 1) (omega (arith, last)) ∙ all_up_to older (d.last - 1) (omega (arith, last)) in (
          before_newest e older d.last last
              ∙ ap (λ (o : Option Write). document_before older o) one.0
              ∙ ap (λ (name : List ℕ). document_at older name) one.1
              ∙ ap (λ (es : List Entry). document_at es doc) (sym all),
          omega (arith, last),
          omega (arith, last),
        )

    by : (b : Bool) → nat_le (length older + 1) k ≡ b → ((n : ℕ) → document_at (entries_up_to older n) doc ≡ Some d → Back older)
        → document_at (if b then e ∷ older else entries_up_to older k) doc ≡ Some d → Back (e ∷ older)
    by true at rest is = own (write_to e doc) refl rest is
    by false at rest is = more (rest k is)

-- a document whose last write up to one place is within an earlier one stood there already
pub same_up_to : (es : List Entry) (doc : List ℕ) (place k : ℕ) → place ≤ k → last_kept (document_at (entries_up_to es k) doc) ≤ place
    → document_at (entries_up_to es k) doc ≡ document_at (entries_up_to es place) doc
same_up_to [] doc place k low last = refl
same_up_to (e ∷ older) doc place k low last =
    by (nat_le (length older + 1) k) (nat_le (length older + 1) place) refl refl (λ n a b. same_up_to older doc place n a b) last
  where
    by : (a b : Bool) → nat_le (length older + 1) k ≡ a → nat_le (length older + 1) place ≡ b
        → ((n : ℕ) → place ≤ n → last_kept (document_at (entries_up_to older n) doc) ≤ place → document_at (entries_up_to older n) doc ≡ document_at (entries_up_to older place) doc)
        → last_kept (document_at (if a then e ∷ older else entries_up_to older k) doc) ≤ place
        → document_at (if a then e ∷ older else entries_up_to older k) doc ≡ document_at (if b then e ∷ older else entries_up_to older place) doc
    by true true at here rest last = refl
    by false true at here rest last = absurd (omega (arith, low, leb-false (length older + 1) k at, leb-true (length older + 1) place here))
    by false false at here rest last = rest k low last
    by true false at here rest last = own (write_to e doc) refl
      where
        own : (o : Option Write) → write_to e doc ≡ o → document_at (e ∷ older) doc ≡ document_at (entries_up_to older place) doc
        own (Some w) writes = absurd (omega (arith, last, last_is e older doc w writes, leb-false (length older + 1) place here))
        own None none =
            let all : document_at (entries_up_to older (length older)) doc ≡ document_at older doc = ap (λ (es : List Entry). document_at es doc) (all_up_to older (length older) (omega arith)) in
            let stays : document_at (e ∷ older) doc ≡ document_at older doc = stays_at e older doc none in
            stays
            ∙ sym all
            ∙ rest (length older) (omega (arith, leb-false (length older + 1) place here)) (omega (arith, ap last_kept all, ap last_kept stays, last))

-- what was found going back, where the document stood up to a place or later, with nothing written between
pub record Found (es : List Entry) (doc : List ℕ) (place : ℕ) (found : Option Document) : Type 0 where
  pub up_to : ℕ
  pub high : place ≤ up_to
  pub is : found ≡ document_at (entries_up_to es up_to) doc

pub first_found : (es : List Entry) (doc : List ℕ) (place : ℕ) (found : Option Document) → found ≡ document_at es doc → Found es doc place found
first_found es doc place found is = record {
  up_to = place + length es;
  high = omega arith;
  is = is ∙ ap (λ (xs : List Entry). document_at xs doc) (sym (all_up_to es (place + length es) (omega arith)));
}

pub next_found : (es : List Entry) (doc : List ℕ) (place : ℕ) (found next : Option Document) (last : ℕ) → Found es doc place found → last ≡ last_kept found → place < last → next ≡ before_at es last
    → (Found es doc place next) × (last_kept next < last)
next_found es doc place found next last f number later is = by found f.is number
  where
    lower : (o : Option Document) → before_at es last ≡ o → last_kept o < last
    lower None at = omega (arith, later)
    lower (Some d) at = (stood_before es last d at).1

    by : (o : Option Document) → o ≡ document_at (entries_up_to es f.up_to) doc → last ≡ last_kept o → (Found es doc place next) × (last_kept next < last)
    by None at number = absurd (omega (arith, number, later))
    by (Some d) at number =
        let one = one_back es doc f.up_to d (sym at) in (
          record {
            up_to = d.last - 1;
            high = omega (arith, later, number);
            is = is ∙ ap (before_at es) number ∙ one.0;
          },
          omega (arith, ap last_kept is, lower (before_at es last) refl),
        )

pub is_found : (es : List Entry) (doc : List ℕ) (place : ℕ) (found : Option Document) → Found es doc place found → last_kept found ≤ place → found ≡ document_at (entries_up_to es place) doc
is_found es doc place found f low = f.is ∙ same_up_to es doc place f.up_to f.high (omega (arith, low, ap last_kept f.is))
