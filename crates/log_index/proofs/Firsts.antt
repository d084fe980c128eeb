-- first writes: where there is none there is no last one, and no two documents have one in common
use Rattle.std.proofs.Common.{◌≡◌, ◌≢◌, ◌<◌, ◌≤◌, ◌+◌, ℕ, zero, suc, refl, sym, ◌∙◌, ap, arith, Bool, true, false, if◌then◌else◌, List, [], ◌∷◌, length, Option, Some, None, nat_eq}
use Rattle.std.specs.Str.{bytes_eq}
use Rattle.std.specs.Cmp.Lexicographic.{bytes_decides}
use Rattle.std.proofs.lemmas.Option.{none-some, same_Some}
use Rattle.sg_names.specs.declared.rev_id.RevId.{RevId}
use Rattle.sg_history.specs.declared.entries.Entry.{Entry}
use Rattle.sg_history.specs.declared.entries.Write.{Write}
use Rattle.sg_history.specs.History.{as_write, of_document, write_to}
use Rattle.sg_history.specs.Current.{Sequenced, sequenced_or, with_rev_or, last_write, write_of_rev}
use Rattle.log_index.specs.declared.documents.Document.{Document}
use Rattle.log_index.specs.Places.{earlier_or, first_seq, document_by, document_at}

earlier_zero : (o : Option Write) (seq earlier : ℕ) → 0 < seq → earlier_or o seq earlier ≡ 0 → (o ≡ None) × (earlier ≡ 0)
earlier_zero None seq earlier pos h = (refl, h)
earlier_zero (Some w) seq zero pos h = absurd (omega (arith, pos, h))
earlier_zero (Some w) seq (suc earlier) pos h = absurd (omega (arith, h))

no_last : (o : Option Write) (seq : ℕ) (other : Option Sequenced) → o ≡ None → other ≡ None → sequenced_or o seq other ≡ None
no_last None seq other h is = is
no_last (Some w) seq other h is = absurd (none-some w (sym h))

no_rev : (o : Option Write) (seq : ℕ) (rev : RevId) (other : Option Sequenced) → o ≡ None → other ≡ None → with_rev_or o seq rev other ≡ None
no_rev None seq rev other h is = is
no_rev (Some w) seq rev other h is = absurd (none-some w (sym h))

pub unwritten : (es : List Entry) (doc : List ℕ) → first_seq es doc ≡ 0 → last_write es doc ≡ None
unwritten [] doc h = refl
unwritten (e ∷ older) doc h =
    let both : (write_to e doc ≡ None) × (first_seq older doc ≡ 0) = earlier_zero (write_to e doc) (length older + 1) (first_seq older doc) (omega arith) h in
    no_last (write_to e doc) (length older + 1) (last_write older doc) both.0 (unwritten older doc both.1)

pub no_revision : (es : List Entry) (doc : List ℕ) (rev : RevId) → first_seq es doc ≡ 0 → write_of_rev es doc rev ≡ None
no_revision [] doc rev h = refl
no_revision (e ∷ older) doc rev h =
    let both : (write_to e doc ≡ None) × (first_seq older doc ≡ 0) = earlier_zero (write_to e doc) (length older + 1) (first_seq older doc) (omega arith) h in
    no_rev (write_to e doc) (length older + 1) rev (write_of_rev older doc rev) both.0 (no_revision older doc rev both.1)

earlier_none : (o : Option Write) (seq earlier : ℕ) (other : Option Sequenced) → sequenced_or o seq other ≡ None → (other ≡ None → earlier ≡ 0) → earlier_or o seq earlier ≡ 0
earlier_none None seq earlier other h is = is h
earlier_none (Some w) seq earlier other h is = absurd (none-some _ (sym h))

pub never_first : (es : List Entry) (doc : List ℕ) → last_write es doc ≡ None → first_seq es doc ≡ 0
never_first [] doc h = refl
never_first (e ∷ older) doc h = earlier_none (write_to e doc) (length older + 1) (first_seq older doc) (last_write older doc) h (never_first older doc)

pub earlier_within : (o : Option Write) (seq earlier : ℕ) → earlier ≤ seq → earlier_or o seq earlier ≤ seq
earlier_within None seq earlier h = h
earlier_within (Some w) seq zero h = omega arith
earlier_within (Some w) seq (suc earlier) h = h

pub within : (es : List Entry) (doc : List ℕ) → first_seq es doc ≤ length es
within [] doc = omega arith
within (e ∷ older) doc = omega (arith, earlier_within (write_to e doc) (length older + 1) (first_seq older doc) (omega (arith, within older doc)))

-- where a first write is that of the newest entry, this writes the document
newest : (o : Option Write) (seq earlier : ℕ) → earlier < seq → earlier_or o seq earlier ≡ seq → o ≢ None
newest None seq earlier h is none = absurd (omega (arith, h, is))
newest (Some w) seq earlier h is none = none-some w (sym none)

older_one : (o : Option Write) (seq earlier : ℕ) → earlier < seq → earlier_or o seq earlier ≢ seq → earlier_or o seq earlier ≡ earlier
older_one None seq earlier h is = refl
older_one (Some w) seq zero h is = absurd (is refl)
older_one (Some w) seq (suc earlier) h is = refl

writes_it : (o : Option Write) (doc : List ℕ) → of_document o doc ≢ None → (w : Write) × (o ≡ Some w) × (bytes_eq w.doc doc ≡ true)
writes_it None doc h = absurd (h refl)
writes_it (Some w) doc h = (w, refl, by (bytes_eq w.doc doc) refl)
  where
    by : (b : Bool) → bytes_eq w.doc doc ≡ b → b ≡ true
    by true is = refl
    by false is = absurd (h (ap (λ (x : Bool). if x then Some w else None) is))

one_document : (o : Option Write) (a b : List ℕ) → of_document o a ≢ None → of_document o b ≢ None → a ≡ b
one_document o a b first second =
    let one : (w : Write) × (o ≡ Some w) × (bytes_eq w.doc a ≡ true) = writes_it o a first in
    let two : (w : Write) × (o ≡ Some w) × (bytes_eq w.doc b ≡ true) = writes_it o b second in
    sym ((bytes_decides one.0.doc a).0 one.2) ∙ ap (λ (w : Write). w.doc) (same_Some one.0 two.0 (sym one.1 ∙ two.1)) ∙ (bytes_decides two.0.doc b).0 two.2

-- the same where the newest entry is the first write of the one or not, given it of the entries before
one_more : (e : Entry) (older : List Entry) (a b : List ℕ) (newest_one : Bool) → nat_eq (first_seq (e ∷ older) a) (length older + 1) ≡ newest_one
    → 0 < first_seq (e ∷ older) a → first_seq (e ∷ older) a ≡ first_seq (e ∷ older) b
    → (0 < first_seq older a → first_seq older a ≡ first_seq older b → a ≡ b) → a ≡ b
one_more e older a b true is pos h before =
    let here : first_seq (e ∷ older) a ≡ length older + 1 = grind (arith) in
    one_document (as_write e) a b
    (newest (write_to e a) (length older + 1) (first_seq older a) (omega (arith, within older a)) here)
    (newest (write_to e b) (length older + 1) (first_seq older b) (omega (arith, within older b)) (sym h ∙ here))
one_more e older a b false is pos h before =
    let there : first_seq (e ∷ older) a ≢ length older + 1 = λ here. grind (arith) in
    let of_a : first_seq (e ∷ older) a ≡ first_seq older a = older_one (write_to e a) (length older + 1) (first_seq older a) (omega (arith, within older a)) there in
    let of_b : first_seq (e ∷ older) b ≡ first_seq older b = older_one (write_to e b) (length older + 1) (first_seq older b) (omega (arith, within older b)) (λ here. there (h ∙ here)) in
    before (omega (arith, pos, of_a)) (sym of_a ∙ h ∙ of_b)

-- two documents whose first write is one are one
pub one_first : (es : List Entry) (a b : List ℕ) → 0 < first_seq es a → first_seq es a ≡ first_seq es b → a ≡ b
one_first [] a b pos h = absurd (omega (arith, pos))
one_first (e ∷ older) a b pos h =
    one_more e older a b (nat_eq (first_seq (e ∷ older) a) (length older + 1)) refl pos h (one_first older a b)

not_by : (es : List Entry) (doc : List ℕ) (last : Option Sequenced) → document_by es doc last ≡ None → last ≡ None
not_by es doc None h = refl
not_by es doc (Some last) h = absurd (none-some _ (sym h))

-- a document that is nowhere has no first write
pub nowhere : (es : List Entry) (doc : List ℕ) → document_at es doc ≡ None → first_seq es doc ≡ 0
nowhere es doc h = never_first es doc (not_by es doc (last_write es doc) h)

abbrev pub first_of : Option Document → ℕ
first_of None = 0
first_of (Some document) = document.first

first_by : (es : List Entry) (doc : List ℕ) (last : Option Sequenced) → last_write es doc ≡ last → first_of (document_by es doc last) ≡ first_seq es doc
first_by es doc None h = sym (never_first es doc h)
first_by es doc (Some last) h = refl

-- the first write of a document is that where it stands
pub first_at : (es : List Entry) (doc : List ℕ) → first_of (document_at es doc) ≡ first_seq es doc
first_at es doc = first_by es doc (last_write es doc) refl

-- a document that stands somewhere has a first write
pub somewhere : (es : List Entry) (doc : List ℕ) (document : Document) → document_at es doc ≡ Some document → 0 < first_seq es doc
somewhere es doc document h = by (first_seq es doc) refl
  where
    by : (n : ℕ) → first_seq es doc ≡ n → 0 < n
    by zero is = absurd (none-some document (sym (ap (λ (last : Option Sequenced). document_by es doc last) (unwritten es doc is)) ∙ h))
    by (suc n) is = omega arith
