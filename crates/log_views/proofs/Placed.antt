-- where the writes that a history names stand among its entries
use Rattle.std.proofs.Common.{◌≡◌, ◌<◌, ◌≤◌, ◌+◌, ◌-◌, ℕ, zero, suc, refl, sym, ◌∙◌, ap, subst, arith, Bool, true, false, if◌then◌else◌, List, [], ◌∷◌, ◌++◌, length, reverse, Option, Some, None}
use Rattle.std.specs.List.{slice_get}
use Rattle.std.specs.Str.{bytes_eq}
use Rattle.std.specs.Cmp.Lexicographic.{bytes_decides}
use Rattle.std.proofs.lemmas.List.{reverse-append, length-reverse, reverse-reverse}
use Rattle.std.proofs.lemmas.Option.{none-some, same_Some}
use Rattle.sg_names.specs.RevId.{same_rev}
use Rattle.sg_names.specs.declared.rev_id.RevId.{RevId}
use Rattle.sg_history.specs.declared.entries.Entry.{Entry}
use Rattle.sg_history.specs.declared.entries.Write.{Write}
use Rattle.sg_history.specs.History.{as_write, of_document, write_to}
use Rattle.sg_history.specs.Current.{Sequenced, sequenced_or, with_rev_or, last_write, write_of_rev, write_or, winning_of, write_alone}
use Rattle.log_index.specs.declared.documents.Document.{Document}
use Rattle.log_index.specs.Places.{document_by, document_at, seq_alone, revision_seq}
use Rattle.log_views.specs.At.{written, write_at}

got_left : {X : Type 0} (xs ys : List X) (i : ℕ) → i < length xs → slice_get (xs ++ ys) i ≡ slice_get xs i
got_left [] ys i h = absurd (omega (arith, h))
got_left (x ∷ xs) ys zero h = refl
got_left (x ∷ xs) ys (suc i) h = got_left xs ys i (omega (arith, h))

got_seam : {X : Type 0} (xs : List X) (y : X) → slice_get (xs ++ y ∷ []) (length xs) ≡ Some y
got_seam [] y = refl
got_seam (x ∷ xs) y = got_seam xs y

pub newest_got : (e : Entry) (older : List Entry) → slice_get (reverse (e ∷ older)) (length older) ≡ Some e
newest_got e older =
    ap (λ (es : List Entry). slice_get es (length older)) (reverse-append (e ∷ []) older)
    ∙ ap (λ (n : ℕ). slice_get (reverse older ++ e ∷ []) n) (sym (length-reverse older))
    ∙ got_seam (reverse older) e

pub older_got : (e : Entry) (older : List Entry) (i : ℕ) → i < length older → slice_get (reverse (e ∷ older)) i ≡ slice_get (reverse older) i
older_got e older i h =
    ap (λ (es : List Entry). slice_get es i) (reverse-append (e ∷ []) older)
    ∙ got_left (reverse older) (e ∷ []) i (omega (arith, h, length-reverse older))

abbrev pub sequenced : ℕ → Write → Sequenced
sequenced seq w = record { seq = seq; write = w }

-- the write stands at its sequence
pub record IsAt (es : List Entry) (s : Sequenced) : Type 0 where
  pub low : 0 < s.seq
  pub high : s.seq ≤ length es
  pub there : write_at (reverse es) s.seq ≡ Some s.write

pub at_older : (e : Entry) (older : List Entry) (s : Sequenced) → IsAt older s → IsAt (e ∷ older) s
at_older e older s at = record {
  low = at.low;
  high = omega (arith, at.high);
  there = ap written (older_got e older (s.seq - 1) (omega (arith, at.low, at.high))) ∙ at.there;
}

pub at_newest : (e : Entry) (older : List Entry) (w : Write) → as_write e ≡ Some w → IsAt (e ∷ older) (sequenced (length older + 1) w)
at_newest e older w is =
    let place : length older + 1 - 1 ≡ length older = omega arith in
    record {
      low = omega arith;
      high = omega arith;
      there = ap written (ap (λ (n : ℕ). slice_get (reverse (e ∷ older)) n) place ∙ newest_got e older) ∙ is;
    }

pub writes_it : (o : Option Write) (doc : List ℕ) (w : Write) → of_document o doc ≡ Some w → (o ≡ Some w) × (w.doc ≡ doc)
writes_it None doc w h = absurd (none-some w h)
writes_it (Some v) doc w h = by (bytes_eq v.doc doc) refl h
  where
    by : (b : Bool) → bytes_eq v.doc doc ≡ b → (if b then Some v else None) ≡ Some w → (Some v ≡ Some w) × (w.doc ≡ doc)
    by true is h = (h, ap (λ (x : Write). x.doc) (sym (same_Some v w h)) ∙ (bytes_decides v.doc doc).0 is)
    by false is h = absurd (none-some w h)

-- the newest entry is this write of the document
newest_at : (e : Entry) (older : List Entry) (doc : List ℕ) (w : Write) (s : Sequenced) → write_to e doc ≡ Some w → sequenced (length older + 1) w ≡ s → IsAt (e ∷ older) s × (s.write.doc ≡ doc)
newest_at e older doc w s is same =
    let one = writes_it (as_write e) doc w is in
    (subst (λ (x : Sequenced). IsAt (e ∷ older) x) same (at_newest e older w one.0), ap (λ (x : Sequenced). x.write.doc) (sym same) ∙ one.1)

pub last_at : (es : List Entry) (doc : List ℕ) (s : Sequenced) → last_write es doc ≡ Some s → IsAt es s × (s.write.doc ≡ doc)
last_at [] doc s h = absurd (none-some s h)
last_at (e ∷ older) doc s h = by (write_to e doc) refl h (λ k. last_at older doc s k)
  where
    by : (o : Option Write) → write_to e doc ≡ o → sequenced_or o (length older + 1) (last_write older doc) ≡ Some s → (last_write older doc ≡ Some s → IsAt older s × (s.write.doc ≡ doc)) → IsAt (e ∷ older) s × (s.write.doc ≡ doc)
    by None is h rest = let before = rest h in (at_older e older s before.0, before.1)
    by (Some w) is h rest = newest_at e older doc w s is (same_Some (sequenced (length older + 1) w) s h)

pub rev_at : (es : List Entry) (doc : List ℕ) (rev : RevId) (s : Sequenced) → write_of_rev es doc rev ≡ Some s → IsAt es s × (s.write.doc ≡ doc)
rev_at [] doc rev s h = absurd (none-some s h)
rev_at (e ∷ older) doc rev s h = by (write_to e doc) refl h (λ k. let one = rev_at older doc rev s k in (at_older e older s one.0, one.1))
  where
    of : (w : Write) → write_to e doc ≡ Some w → (b : Bool) → (if b then Some (sequenced (length older + 1) w) else write_of_rev older doc rev) ≡ Some s → (write_of_rev older doc rev ≡ Some s → IsAt (e ∷ older) s × (s.write.doc ≡ doc)) → IsAt (e ∷ older) s × (s.write.doc ≡ doc)
    of w is true h before = newest_at e older doc w s is (same_Some (sequenced (length older + 1) w) s h)
    of w is false h before = before h

    by : (o : Option Write) → write_to e doc ≡ o → with_rev_or o (length older + 1) rev (write_of_rev older doc rev) ≡ Some s → (write_of_rev older doc rev ≡ Some s → IsAt (e ∷ older) s × (s.write.doc ≡ doc)) → IsAt (e ∷ older) s × (s.write.doc ≡ doc)
    by None is h before = before h
    by (Some w) is h before = of w is (same_rev w.rev rev) h before

pub winning_at : (es : List Entry) (doc : List ℕ) (last : Sequenced) → IsAt es last → last.write.doc ≡ doc → IsAt es (winning_of es doc last) × ((winning_of es doc last).write.doc ≡ doc)
winning_at es doc last at is = by (write_of_rev es doc last.write.winner) refl
  where
    by : (o : Option Sequenced) → write_of_rev es doc last.write.winner ≡ o → IsAt es (write_or o last) × ((write_or o last).write.doc ≡ doc)
    by None h = (at, is)
    by (Some s) h = rev_at es doc last.write.winner s h

-- where a document stands, its last write and its winner's are found
pub record Found (es : List Entry) (doc : List ℕ) (d : Document) : Type 0 where
  pub last : Sequenced
  pub last_is : last_write es doc ≡ Some last
  pub seq : d.last ≡ last.seq
  pub winning : d.winning ≡ (winning_of es doc last).seq
  pub doc_is : (winning_of es doc last).write.doc ≡ doc
  pub at : IsAt es (winning_of es doc last)

pub found : (es : List Entry) (doc : List ℕ) (d : Document) → document_at es doc ≡ Some d → Found es doc d
found es doc d h = by (last_write es doc) refl h
  where
    by : (o : Option Sequenced) → last_write es doc ≡ o → document_by es doc o ≡ Some d → Found es doc d
    by None is h = absurd (none-some d h)
    by (Some last) is h =
        let at = last_at es doc last is in
        let won = winning_at es doc last at.0 at.1 in
        let same = same_Some _ d h in
        record {
          last = last;
          last_is = is;
          seq = ap (λ (x : Document). x.last) (sym same);
          winning = ap (λ (x : Document). x.winning) (sym same);
          doc_is = won.1;
          at = won.0;
        }

-- the winner's write is read where the document stands
pub winner_read : (entries : List Entry) (doc : List ℕ) (d : Document) → (f : Found (reverse entries) doc d) → write_at entries d.winning ≡ Some (winning_of (reverse entries) doc f.last).write
winner_read entries doc d f =
    ap (λ (n : ℕ). write_at entries n) f.winning
    ∙ ap (λ (all : List Entry). write_at all (winning_of (reverse entries) doc f.last).seq) (sym (reverse-reverse entries))
    ∙ f.at.there

-- the write of a revision is read where it stands
pub rev_read : (entries : List Entry) (doc : List ℕ) (rev : RevId) (seq : ℕ) → revision_seq (reverse entries) doc rev ≡ Some seq → write_at entries seq ≡ write_alone (write_of_rev (reverse entries) doc rev)
rev_read entries doc rev seq h = by (write_of_rev (reverse entries) doc rev) refl h
  where
    by : (o : Option Sequenced) → write_of_rev (reverse entries) doc rev ≡ o → seq_alone o ≡ Some seq → write_at entries seq ≡ write_alone o
    by None is h = absurd (none-some seq h)
    by (Some s) is h =
        ap (λ (n : ℕ). write_at entries n) (sym (same_Some s.seq seq h))
        ∙ ap (λ (all : List Entry). write_at all s.seq) (sym (reverse-reverse entries))
        ∙ (rev_at (reverse entries) doc rev s is).0.there

-- a document that stands nowhere is nothing
pub nothing : (es : List Entry) (doc : List ℕ) → document_at es doc ≡ None → last_write es doc ≡ None
nothing es doc h = by (last_write es doc) h
  where
    by : (o : Option Sequenced) → document_by es doc o ≡ None → o ≡ None
    by None h = refl
    by (Some last) h = absurd (none-some _ (sym h))
