-- where documents stand right behind entries, and the next writes of their documents
use Rattle.std.proofs.Common.{◌≡◌, ◌≢◌, ◌<◌, ◌≤◌, ◌+◌, ℕ, zero, suc, refl, sym, ◌∙◌, ap, arith, Bool, true, false, if◌then◌else◌, List, [], ◌∷◌, length, Option, Some, None, nat_eq}
use Rattle.std.specs.Str.{bytes_eq}
use Rattle.std.specs.Cmp.Lexicographic.{bytes_decides}
use Rattle.std.proofs.lemmas.Bool.{eq-eqb, eqb-true, eqb-false, ne_eqb}
use Rattle.std.proofs.lemmas.Option.{none-some, same_Some}
use Rattle.sg_names.specs.declared.rev_id.RevId.{RevId}
use Rattle.sg_history.specs.declared.entries.Entry.{Entry}
use Rattle.sg_history.specs.declared.entries.Write.{Write}
use Rattle.sg_history.specs.History.{as_write, of_document, write_to}
use Rattle.sg_history.specs.Current.{last_write}
use Rattle.log_index.specs.declared.documents.Document.{Document}
use Rattle.log_index.specs.Marks.{write_of}
use Rattle.log_index.specs.Places.{document_at, document_before, before_at, after_at, written_again, next_or, next_at}
use Rattle.log_index.specs.Representation.{last_kept}
use Rattle.log_index.proofs.FirstRevisions.{not_there, of_doc}
use Rattle.log_index.proofs.FirstRevisions as written
use Rattle.log_index.proofs.Firsts.{first_of, first_at, somewhere}
use Rattle.log_index.proofs.KeptMarks.{none_older}
use Rattle.log_index.proofs.Pushes.{document_with, document_more, is_placed}

pub after_newest : (e : Entry) (older : List Entry) (seq : ℕ) → seq ≡ length older + 1 → after_at (e ∷ older) seq ≡ document_before (e ∷ older) (as_write e)
after_newest e older seq same = ap (λ (b : Bool). if b then document_before (e ∷ older) (as_write e) else after_at older seq) (eq-eqb seq (length older + 1) same)

pub after_older : (e : Entry) (older : List Entry) (seq : ℕ) → seq ≢ length older + 1 → after_at (e ∷ older) seq ≡ after_at older seq
after_older e older seq other = ap (λ (b : Bool). if b then document_before (e ∷ older) (as_write e) else after_at older seq) (ne_eqb seq (length older + 1) other)

pub before_newest : (e : Entry) (older : List Entry) (seq : ℕ) → seq ≡ length older + 1 → before_at (e ∷ older) seq ≡ document_before older (as_write e)
before_newest e older seq same = ap (λ (b : Bool). if b then document_before older (as_write e) else before_at older seq) (eq-eqb seq (length older + 1) same)

pub before_older : (e : Entry) (older : List Entry) (seq : ℕ) → seq ≢ length older + 1 → before_at (e ∷ older) seq ≡ before_at older seq
before_older e older seq other = ap (λ (b : Bool). if b then document_before older (as_write e) else before_at older seq) (ne_eqb seq (length older + 1) other)

pub none_after : (es : List Entry) → after_at es 0 ≡ None
none_after [] = refl
none_after (e ∷ older) = after_older e older 0 (λ same. omega (arith, same)) ∙ none_after older

-- where the entry of a sequence is no write, nothing is next
pub next_of_none : (es : List Entry) (seq : ℕ) → write_of es seq ≡ None → next_at es seq ≡ None
next_of_none [] seq none = refl
next_of_none (e ∷ older) seq none =
    ap (λ (o : Option ℕ). next_or o (written_again e (write_of older seq)) (length older + 1)) (next_of_none older seq (none_older e older seq none))
    ∙ ap (λ (o : Option Write). next_or None (written_again e o) (length older + 1)) (none_older e older seq none)

none_written : (es : List Entry) → write_of es 0 ≡ None
none_written [] = refl
none_written (e ∷ older) = written.at_older e older 0 (omega arith) ∙ none_written older

pub next_zero : (es : List Entry) → next_at es 0 ≡ None
next_zero es = next_of_none es 0 (none_written es)

pub next_newest : (e : Entry) (older : List Entry) (seq : ℕ) → seq ≡ length older + 1 → next_at (e ∷ older) seq ≡ None
next_newest e older seq same =
    let none : write_of older seq ≡ None = not_there older seq (omega (arith, same)) in
    ap (λ (o : Option ℕ). next_or o (written_again e (write_of older seq)) (length older + 1)) (next_of_none older seq none)
    ∙ ap (λ (o : Option Write). next_or None (written_again e o) (length older + 1)) none

-- the next write is no entry 0
pub next_pos : (es : List Entry) (seq next : ℕ) → next_at es seq ≡ Some next → 0 < next
next_pos [] seq next is = absurd (none-some next is)
next_pos (e ∷ older) seq next is = by (next_at older seq) (written_again e (write_of older seq)) (λ h. next_pos older seq next h) is
  where
    by : (o : Option ℕ) (w : Option Write) → (o ≡ Some next → 0 < next) → next_or o w (length older + 1) ≡ Some next → 0 < next
    by (Some k) w rest is = rest is
    by None None rest is = absurd (none-some next is)
    by None (Some w) rest is = omega (arith, same_Some (length older + 1) next is)

-- an entry that writes a document is its last write
pub last_is : (e : Entry) (es : List Entry) (doc : List ℕ) (w : Write) → write_to e doc ≡ Some w → last_kept (document_at (e ∷ es) doc) ≡ length es + 1
last_is e es doc w is = ap last_kept (document_more e es doc) ∙ ap (λ (o : Option Write). last_kept (document_with es doc o)) is

-- one that doesn't leaves it where it was
pub stays_at : (e : Entry) (es : List Entry) (doc : List ℕ) → write_to e doc ≡ None → document_at (e ∷ es) doc ≡ document_at es doc
stays_at e es doc none =
    document_more e es doc
    ∙ ap (λ (o : Option Write). document_with es doc o) none
    ∙ sym (is_placed es doc (last_write es doc))

-- a document stands where it stood right behind its last write
pub record Stands (es : List Entry) (d : Document) : Type 0 where
  pub behind : after_at es d.last ≡ Some d
  pub first : 0 < d.first
  pub low : 0 < d.last
  pub high : d.last ≤ length es

more : (e : Entry) (older : List Entry) (d : Document) → Stands older d → Stands (e ∷ older) d
more e older d s = record {
  behind = after_older e older d.last (λ same. omega (arith, same, s.high)) ∙ s.behind;
  first = s.first;
  low = s.low;
  high = omega (arith, s.high);
}

pub stands : (es : List Entry) (doc : List ℕ) (d : Document) → document_at es doc ≡ Some d → Stands es d
stands [] doc d is = absurd (none-some d is)
stands (e ∷ older) doc d is = by (write_to e doc) refl (λ h. stands older doc d h)
  where
    by : (o : Option Write) → write_to e doc ≡ o → (document_at older doc ≡ Some d → Stands older d) → Stands (e ∷ older) d
    by None none rest = more e older d (rest (sym (stays_at e older doc none) ∙ is))
    by (Some w) at rest =
        let last : d.last ≡ length older + 1 = sym (ap last_kept is) ∙ last_is e older doc w at in
        let own : (as_write e ≡ Some w) × (w.doc ≡ doc) = of_doc (as_write e) doc w at in
        let first : first_of (document_at (e ∷ older) doc) ≡ d.first = ap first_of is in
        record {
          behind = after_newest e older d.last last
              ∙ ap (λ (o : Option Write). document_before (e ∷ older) o) own.0
              ∙ ap (λ (name : List ℕ). document_at (e ∷ older) name) own.1
              ∙ is;
          first = omega (arith, somewhere (e ∷ older) doc d is, first_at (e ∷ older) doc, first);
          low = omega (arith, last);
          high = omega (arith, last);
        }

pub stood_before : (es : List Entry) (seq : ℕ) (d : Document) → before_at es seq ≡ Some d → (Stands es d) × (d.last < seq)
stood_before [] seq d is = absurd (none-some d is)
stood_before (e ∷ older) seq d is = by (nat_eq seq (length older + 1)) refl (λ h. stood_before older seq d h) is
  where
    own : (o : Option Write) → document_before older o ≡ Some d → Stands older d
    own None is = absurd (none-some d is)
    own (Some w) is = stands older w.doc d is

    by : (b : Bool) → nat_eq seq (length older + 1) ≡ b → (before_at older seq ≡ Some d → (Stands older d) × (d.last < seq))
        → (if b then document_before older (as_write e) else before_at older seq) ≡ Some d → (Stands (e ∷ older) d) × (d.last < seq)
    by true at rest is =
        let s : Stands older d = own (as_write e) is in
        (more e older d s, omega (arith, s.high, eqb-true seq (length older + 1) at))
    by false at rest is = let one = rest is in (more e older d one.0, one.1)

pub stood_after : (es : List Entry) (seq : ℕ) (d : Document) → after_at es seq ≡ Some d → (d.last ≡ seq) × (0 < d.first)
stood_after [] seq d is = absurd (none-some d is)
stood_after (e ∷ older) seq d is = by (nat_eq seq (length older + 1)) refl (λ h. stood_after older seq d h) is
  where
    own : (o : Option Write) → as_write e ≡ o → document_before (e ∷ older) o ≡ Some d → (d.last ≡ length older + 1) × (0 < d.first)
    own None at is = absurd (none-some d is)
    own (Some w) at is =
        let writes : write_to e w.doc ≡ Some w = ap (λ (o : Option Write). of_document o w.doc) at ∙ ap (λ (b : Bool). if b then Some w else None) ((bytes_decides w.doc w.doc).1 refl) in
        (sym (ap last_kept is) ∙ last_is e older w.doc w writes, (stands (e ∷ older) w.doc d is).first)

    by : (b : Bool) → nat_eq seq (length older + 1) ≡ b → (after_at older seq ≡ Some d → (d.last ≡ seq) × (0 < d.first))
        → (if b then document_before (e ∷ older) (as_write e) else after_at older seq) ≡ Some d → (d.last ≡ seq) × (0 < d.first)
    by true at rest is = let one = own (as_write e) refl is in (one.0 ∙ sym (eqb-true seq (length older + 1) at), one.1)
    by false at rest is = rest is

-- a write that nothing is next to is its document's last
pub last_one : (es : List Entry) (seq : ℕ) (v : Write) → write_of es seq ≡ Some v → next_at es seq ≡ None → last_kept (document_at es v.doc) ≡ seq
last_one [] seq v at none = absurd (none-some v at)
last_one (e ∷ older) seq v at none = by (nat_eq seq (length older + 1)) refl (λ h k. last_one older seq v h k) at
  where
    both : (o : Option ℕ) (w : Option Write) → next_or o w (length older + 1) ≡ None → (o ≡ None) × (w ≡ None)
    both (Some k) w h = absurd (none-some k (sym h))
    both None None h = (refl, refl)
    both None (Some w) h = absurd (none-some _ (sym h))

    by : (b : Bool) → nat_eq seq (length older + 1) ≡ b → (write_of older seq ≡ Some v → next_at older seq ≡ None → last_kept (document_at older v.doc) ≡ seq)
        → (if b then as_write e else write_of older seq) ≡ Some v → last_kept (document_at (e ∷ older) v.doc) ≡ seq
    by true here rest is =
        let writes : write_to e v.doc ≡ Some v = ap (λ (o : Option Write). of_document o v.doc) is ∙ ap (λ (b : Bool). if b then Some v else None) ((bytes_decides v.doc v.doc).1 refl) in
        last_is e older v.doc v writes ∙ sym (eqb-true seq (length older + 1) here)
    by false here rest is =
        let nones : (next_at older seq ≡ None) × (written_again e (write_of older seq) ≡ None) = both (next_at older seq) (written_again e (write_of older seq)) none in
        let other : write_to e v.doc ≡ None = sym (ap (λ (o : Option Write). written_again e o) is) ∙ nones.1 in
        ap last_kept (stays_at e older v.doc other) ∙ rest is nones.0

-- the last write of a document, and that nothing is next to it
pub record IsLastWrite (es : List Entry) (doc : List ℕ) (seq : ℕ) : Type 0 where
  pub write : Write
  pub at : write_of es seq ≡ Some write
  pub doc_is : write.doc ≡ doc
  pub none : next_at es seq ≡ None

pub last_writes_it : (es : List Entry) (doc : List ℕ) (seq : ℕ) → last_kept (document_at es doc) ≡ seq → 0 < seq → IsLastWrite es doc seq
last_writes_it [] doc seq is pos = absurd (omega (arith, is, pos))
last_writes_it (e ∷ older) doc seq is pos = by (write_to e doc) refl (λ h. last_writes_it older doc seq h pos)
  where
    by : (o : Option Write) → write_to e doc ≡ o → (last_kept (document_at older doc) ≡ seq → IsLastWrite older doc seq) → IsLastWrite (e ∷ older) doc seq
    by (Some w) at rest =
        let last : seq ≡ length older + 1 = sym is ∙ last_is e older doc w at in
        let own : (as_write e ≡ Some w) × (w.doc ≡ doc) = of_doc (as_write e) doc w at in
        record {
          write = w;
          at = written.at_newest e older seq last ∙ own.0;
          doc_is = own.1;
          none = next_newest e older seq last;
        }
    by None none rest =
        let one : IsLastWrite older doc seq = rest (sym (ap last_kept (stays_at e older doc none)) ∙ is) in
        let again : written_again e (write_of older seq) ≡ None = ap (λ (o : Option Write). written_again e o) one.at ∙ ap (λ (name : List ℕ). write_to e name) one.doc_is ∙ none in
        record {
          write = one.write;
          at = written.at_older e older seq (written.written_within older seq one.write one.at) ∙ one.at;
          doc_is = one.doc_is;
          none = ap (λ (o : Option ℕ). next_or o (written_again e (write_of older seq)) (length older + 1)) one.none
              ∙ ap (λ (o : Option Write). next_or None o (length older + 1)) again;
        }

keeps : (o : Option ℕ) (n : ℕ) → next_or o None n ≡ o
keeps None n = refl
keeps (Some k) n = refl

-- one entry more is next to the last write of its document
pub next_there : (e : Entry) (es : List Entry) (seq : ℕ) → seq ≡ last_kept (document_before es (as_write e)) → 0 < seq → next_at (e ∷ es) seq ≡ Some (length es + 1)
next_there e es seq is pos = by (as_write e) refl is
  where
    by : (o : Option Write) → as_write e ≡ o → seq ≡ last_kept (document_before es o) → next_at (e ∷ es) seq ≡ Some (length es + 1)
    by None at is = absurd (omega (arith, is, pos))
    by (Some w) at is =
        let one : IsLastWrite es w.doc seq = last_writes_it es w.doc seq (sym is) pos in
        ap (λ (o : Option ℕ). next_or o (written_again e (write_of es seq)) (length es + 1)) one.none
        ∙ ap (λ (o : Option Write). next_or None (written_again e o) (length es + 1)) one.at
        ∙ ap (λ (name : List ℕ). next_or None (write_to e name) (length es + 1)) one.doc_is
        ∙ ap (λ (o : Option Write). next_or None (of_document o w.doc) (length es + 1)) at
        ∙ ap (λ (b : Bool). next_or None (if b then Some w else None) (length es + 1)) ((bytes_decides w.doc w.doc).1 refl)

-- and leaves what is next to others
pub next_stays : (e : Entry) (es : List Entry) (seq : ℕ) → seq ≢ last_kept (document_before es (as_write e)) → next_at (e ∷ es) seq ≡ next_at es seq
next_stays e es seq other = by (as_write e) refl other
  where
    same : (w v : Write) (b : Bool) → bytes_eq w.doc v.doc ≡ b → write_of es seq ≡ Some v → seq ≢ last_kept (document_at es w.doc) → (o : Option ℕ) → next_at es seq ≡ o
        → next_or o (if b then Some w else None) (length es + 1) ≡ o
    same w v false is at other o next = keeps o (length es + 1)
    same w v true is at other (Some k) next = refl
    same w v true is at other None next =
        absurd (other (sym (last_one es seq v at next) ∙ ap (λ (name : List ℕ). last_kept (document_at es name)) (sym ((bytes_decides w.doc v.doc).0 is))))

    old : (w : Write) (v : Option Write) → write_of es seq ≡ v → as_write e ≡ Some w → seq ≢ last_kept (document_at es w.doc)
        → next_or (next_at es seq) (written_again e v) (length es + 1) ≡ next_at es seq
    old w None at is other = keeps (next_at es seq) (length es + 1)
    old w (Some v) at is other =
        ap (λ (o : Option Write). next_or (next_at es seq) (of_document o v.doc) (length es + 1)) is
        ∙ same w v (bytes_eq w.doc v.doc) refl at other (next_at es seq) refl

    none : (v : Option Write) → as_write e ≡ None → written_again e v ≡ None
    none None is = refl
    none (Some v) is = ap (λ (o : Option Write). of_document o v.doc) is

    by : (o : Option Write) → as_write e ≡ o → seq ≢ last_kept (document_before es o) → next_at (e ∷ es) seq ≡ next_at es seq
    by None is other = ap (λ (o : Option Write). next_or (next_at es seq) o (length es + 1)) (none (write_of es seq) is) ∙ keeps (next_at es seq) (length es + 1)
    by (Some w) is other = old w (write_of es seq) refl is other
