-- the first writes of revisions
use Rattle.std.proofs.Common.{◌≡◌, ◌<◌, ◌≤◌, ◌+◌, ℕ, refl, sym, ◌∙◌, ap, arith, Bool, true, false, true≢false, ◌&&◌, if◌then◌else◌, List, [], ◌∷◌, length, Option, Some, None, nat_eq}
use Rattle.std.specs.Str.{bytes_eq}
use Rattle.std.specs.Cmp.Lexicographic.{bytes_decides}
use Rattle.std.proofs.lemmas.Bool.{eq-eqb, eqb-true, ne_eqb}
use Rattle.std.proofs.lemmas.Option.{none-some, same_Some}
use Rattle.sg_names.specs.declared.rev_id.RevId.{RevId}
use Rattle.sg_names.specs.RevId.{same_rev}
use Rattle.sg_history.specs.declared.entries.Entry.{Entry}
use Rattle.sg_history.specs.declared.entries.Write.{Write}
use Rattle.sg_history.specs.History.{as_write, of_document, write_to}
use Rattle.sg_history.specs.Current.{Sequenced, with_rev_or, write_of_rev}
use Rattle.log_index.specs.Marks.{write_of}
use Rattle.log_index.specs.Representation.{first_rev, seq_or, seq_with}

-- the write of a sequence that the entries lack
pub not_there : (es : List Entry) (seq : ℕ) → length es < seq → write_of es seq ≡ None
not_there [] seq above = refl
not_there (e ∷ older) seq above =
    ap (λ (b : Bool). if b then as_write e else write_of older seq) (ne_eqb seq (length older + 1) (λ same. omega (arith, above, same)))
    ∙ not_there older seq (omega (arith, above))

pub at_newest : (e : Entry) (older : List Entry) (seq : ℕ) → seq ≡ length older + 1 → write_of (e ∷ older) seq ≡ as_write e
at_newest e older seq same = ap (λ (b : Bool). if b then as_write e else write_of older seq) (eq-eqb seq (length older + 1) same)

pub at_older : (e : Entry) (older : List Entry) (seq : ℕ) → seq ≤ length older → write_of (e ∷ older) seq ≡ write_of older seq
at_older e older seq low =
    ap (λ (b : Bool). if b then as_write e else write_of older seq) (ne_eqb seq (length older + 1) (λ same. omega (arith, low, same)))

-- a write stands within the entries
pub written_within : (es : List Entry) (seq : ℕ) (w : Write) → write_of es seq ≡ Some w → seq ≤ length es
written_within [] seq w is = absurd (none-some w is)
written_within (e ∷ older) seq w is = by (nat_eq seq (length older + 1)) refl (λ h. written_within older seq w h) is
  where
    by : (b : Bool) → nat_eq seq (length older + 1) ≡ b → (write_of older seq ≡ Some w → seq ≤ length older)
        → (if b then as_write e else write_of older seq) ≡ Some w → seq ≤ length (e ∷ older)
    by true at rest is = omega (arith, eqb-true seq (length older + 1) at)
    by false at rest is = omega (arith, rest is)

-- two revisions that are the same are one
pub same_is : (a b : RevId) → same_rev a b ≡ true → a ≡ b
same_is a b h =
    let generations : a.generation ≡ b.generation = eqb-true a.generation b.generation (first (nat_eq a.generation b.generation) (bytes_eq a.digest b.digest) h) in
    let digests : a.digest ≡ b.digest = (bytes_decides a.digest b.digest).0 (second (nat_eq a.generation b.generation) (bytes_eq a.digest b.digest) h) in
    λ i. record { generation = generations i; digest = digests i }
  where
    first : (x y : Bool) → (x && y) ≡ true → x ≡ true
    first true y h = refl
    first false y h = h

    second : (x y : Bool) → (x && y) ≡ true → y ≡ true
    second true y h = h
    second false y h = absurd (true≢false (sym h))

pub is_same : (a : RevId) → same_rev a a ≡ true
is_same a =
    ap (λ (x : Bool). x && bytes_eq a.digest a.digest) (eq-eqb a.generation a.generation refl)
    ∙ (bytes_decides a.digest a.digest).1 refl

-- the write of a document that an entry is
pub of_doc : (o : Option Write) (doc : List ℕ) (w : Write) → of_document o doc ≡ Some w → (o ≡ Some w) × (w.doc ≡ doc)
of_doc None doc w h = absurd (none-some w h)
of_doc (Some v) doc w h = by (bytes_eq v.doc doc) refl h
  where
    by : (b : Bool) → bytes_eq v.doc doc ≡ b → (if b then Some v else None) ≡ Some w → (Some v ≡ Some w) × (w.doc ≡ doc)
    by true is h = (h, ap (λ (x : Write). x.doc) (sym (same_Some v w h)) ∙ (bytes_decides v.doc doc).0 is)
    by false is h = absurd (none-some w h)

-- a write of a document and a revision at a sequence
pub record Writes (es : List Entry) (doc : List ℕ) (rev : RevId) (seq : ℕ) : Type 0 where
  pub write : Write
  pub at : write_of es seq ≡ Some write
  pub doc_is : write.doc ≡ doc
  pub rev_is : write.rev ≡ rev

more : (e : Entry) (older : List Entry) (doc : List ℕ) (rev : RevId) (seq : ℕ) → Writes older doc rev seq → Writes (e ∷ older) doc rev seq
more e older doc rev seq w = record {
  write = w.write;
  at = at_older e older seq (written_within older seq w.write w.at) ∙ w.at;
  doc_is = w.doc_is;
  rev_is = w.rev_is;
}

newest : (e : Entry) (older : List Entry) (doc : List ℕ) (rev : RevId) (w : Write) (seq : ℕ) → write_to e doc ≡ Some w → same_rev w.rev rev ≡ true
    → length older + 1 ≡ seq → Writes (e ∷ older) doc rev seq
newest e older doc rev w seq is same at =
    let one = of_doc (as_write e) doc w is in
    record {
      write = w;
      at = at_newest e older seq (sym at) ∙ one.0;
      doc_is = one.1;
      rev_is = same_is w.rev rev same;
    }

-- where a first write is, the revision is written
pub first_writes : (es : List Entry) (doc : List ℕ) (rev : RevId) (seq : ℕ) → first_rev es doc rev ≡ Some seq → Writes es doc rev seq
first_writes [] doc rev seq h = absurd (none-some seq h)
first_writes (e ∷ older) doc rev seq h = by (first_rev older doc rev) (write_to e doc) refl refl (λ k. first_writes older doc rev seq k) h
  where
    own : (w : Write) → write_to e doc ≡ Some w → (b : Bool) → same_rev w.rev rev ≡ b → (if b then Some (length older + 1) else None) ≡ Some seq → Writes (e ∷ older) doc rev seq
    own w is true same h = newest e older doc rev w seq is same (same_Some (length older + 1) seq h)
    own w is false same h = absurd (none-some seq h)

    by : (o : Option ℕ) (v : Option Write) → first_rev older doc rev ≡ o → write_to e doc ≡ v → (first_rev older doc rev ≡ Some seq → Writes older doc rev seq)
        → seq_or o (seq_with v (length older + 1) rev) ≡ Some seq → Writes (e ∷ older) doc rev seq
    by (Some n) v at is before h = more e older doc rev seq (before (at ∙ h))
    by None None at is before h = absurd (none-some seq h)
    by None (Some w) at is before h = own w is (same_rev w.rev rev) refl h

-- two revisions that have one first write are one
pub one_revision : (es : List Entry) (a b : List ℕ) (r s : RevId) (seq : ℕ) → first_rev es a r ≡ Some seq → first_rev es b s ≡ Some seq → (a ≡ b) × (r ≡ s)
one_revision es a b r s seq one two =
    let x : Writes es a r seq = first_writes es a r seq one in
    let y : Writes es b s seq = first_writes es b s seq two in
    let same : x.write ≡ y.write = same_Some x.write y.write (sym x.at ∙ y.at) in
    (sym x.doc_is ∙ ap (λ (w : Write). w.doc) same ∙ y.doc_is, sym x.rev_is ∙ ap (λ (w : Write). w.rev) same ∙ y.rev_is)

-- a first write stays the first
pub first_stays : (e : Entry) (older : List Entry) (doc : List ℕ) (rev : RevId) (seq : ℕ) → first_rev older doc rev ≡ Some seq → first_rev (e ∷ older) doc rev ≡ Some seq
first_stays e older doc rev seq h = ap (λ (o : Option ℕ). seq_or o (seq_with (write_to e doc) (length older + 1) rev)) h

-- what is written has a first write
pub has_first : (es : List Entry) (seq : ℕ) (w : Write) → write_of es seq ≡ Some w → (first : ℕ) × (first_rev es w.doc w.rev ≡ Some first)
has_first [] seq w is = absurd (none-some w is)
has_first (e ∷ older) seq w is = by (nat_eq seq (length older + 1)) (λ h. has_first older seq w h) is
  where
    own : (o : Option ℕ) → as_write e ≡ Some w → (first : ℕ) × (seq_or o (seq_with (write_to e w.doc) (length older + 1) w.rev) ≡ Some first)
    own (Some n) at = (n, refl)
    own None at = (
      length older + 1,
      ap (λ (v : Option Write). seq_with (of_document v w.doc) (length older + 1) w.rev) at
          ∙ ap (λ (b : Bool). seq_with (if b then Some w else None) (length older + 1) w.rev) ((bytes_decides w.doc w.doc).1 refl)
          ∙ ap (λ (b : Bool). if b then Some (length older + 1) else None) (is_same w.rev),
    )

    by : (b : Bool) → (write_of older seq ≡ Some w → (first : ℕ) × (first_rev older w.doc w.rev ≡ Some first))
        → (if b then as_write e else write_of older seq) ≡ Some w → (first : ℕ) × (first_rev (e ∷ older) w.doc w.rev ≡ Some first)
    by true before is = own (first_rev older w.doc w.rev) is
    by false before is = let one = before is in (one.0, first_stays e older w.doc w.rev one.0 one.1)

-- the last write of a revision is one of it
pub last_writes : (es : List Entry) (doc : List ℕ) (rev : RevId) (s : Sequenced) → write_of_rev es doc rev ≡ Some s → Writes es doc rev s.seq
last_writes [] doc rev s h = absurd (none-some s h)
last_writes (e ∷ older) doc rev s h = by (write_to e doc) refl (λ k. last_writes older doc rev s k) h
  where
    own : (w : Write) → write_to e doc ≡ Some w → (b : Bool) → same_rev w.rev rev ≡ b → (write_of_rev older doc rev ≡ Some s → Writes older doc rev s.seq)
        → (if b then Some (record { seq = length older + 1; write = w }) else write_of_rev older doc rev) ≡ Some s → Writes (e ∷ older) doc rev s.seq
    own w is true same before h = newest e older doc rev w s.seq is same (ap (λ (x : Sequenced). x.seq) (same_Some (record { seq = length older + 1; write = w }) s h))
    own w is false same before h = more e older doc rev s.seq (before h)

    by : (o : Option Write) → write_to e doc ≡ o → (write_of_rev older doc rev ≡ Some s → Writes older doc rev s.seq)
        → with_rev_or o (length older + 1) rev (write_of_rev older doc rev) ≡ Some s → Writes (e ∷ older) doc rev s.seq
    by None is before h = more e older doc rev s.seq (before h)
    by (Some w) is before h = own w is (same_rev w.rev rev) refl before h

-- a revision that was never written has no first write
pub never_written : (es : List Entry) (doc : List ℕ) (rev : RevId) → write_of_rev es doc rev ≡ None → first_rev es doc rev ≡ None
never_written [] doc rev h = refl
never_written (e ∷ older) doc rev h = by (write_to e doc) h (λ k. never_written older doc rev k)
  where
    own : (w : Write) (b : Bool) → (if b then Some (record { seq = length older + 1; write = w }) else write_of_rev older doc rev) ≡ None
        → (write_of_rev older doc rev ≡ None → first_rev older doc rev ≡ None) → seq_or (first_rev older doc rev) (if b then Some (length older + 1) else None) ≡ None
    own w true h before = absurd (none-some _ (sym h))
    own w false h before = ap (λ (o : Option ℕ). seq_or o None) (before h)

    by : (o : Option Write) → with_rev_or o (length older + 1) rev (write_of_rev older doc rev) ≡ None
        → (write_of_rev older doc rev ≡ None → first_rev older doc rev ≡ None) → seq_or (first_rev older doc rev) (seq_with o (length older + 1) rev) ≡ None
    by None h before = ap (λ (o : Option ℕ). seq_or o None) (before h)
    by (Some w) h before = own w (same_rev w.rev rev) h before
