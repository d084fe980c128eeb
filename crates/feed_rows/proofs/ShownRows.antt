-- What is shown of documents and what they are, as the laws of the feed need it.
use Rattle.std.proofs.Common.{◌≡◌, ℕ, ◌+◌, ◌≤◌, refl, sym, ◌∙◌, ap, subst, inl, inr, arith, Bool, true, false, ◌&&◌, if◌then◌else◌, List, [], ◌∷◌, ◌++◌, length, Option, Some, None, suc, nat_eq}
use Rattle.std.proofs.Math.Path.{fun_ext}
use Rattle.std.proofs.lemmas.Bool.{false≢true, and_parts, eqb-true}
use Rattle.std.proofs.lemmas.Option.{none-some}
use Rattle.std.proofs.lemmas.Slice.Eq.{bytes_eq-Decides}
use Rattle.std.specs.Bool.{beq}
use Rattle.std.specs.Str.{bytes_eq}
use Rattle.sg_names.specs.RevId.{same_rev}
use Rattle.sg_history.specs.declared.entries.Entry.{Entry}
use Rattle.sg_history.specs.declared.entries.Write.{Write}
use Rattle.sg_history.specs.declared.row.Row.{Row}
use Rattle.sg_history.specs.History.{as_write, of_document, document_of, write_to, written_by, documents}
use Rattle.sg_history.specs.Current.{Current, Sequenced, sequenced_or, last_write, current, current_after}
use Rattle.sg_history.specs.View.{Shown, view, view_of, is_shown, same_view}
use Rattle.sg_history.specs.Feed.{changed, row_at, row_of}
use Rattle.sg_history.specs.Device.{shown_to}
use Rattle.feed_rows.proofs.Revisions.{same_revs}
use Rattle.feed_rows.proofs.RowLists.{Has}
use Rattle.feed_rows.proofs.AnyFeed.{RowFacts}
use Rattle.feed_rows.proofs.Changes.{ViewFacts, changed_by, row_from, row_by, row_facts}

-- tests that hold of two make them the same
pub same_bytes : (a b : List ℕ) → bytes_eq a b ≡ true → a ≡ b
same_bytes a b h = (bytes_eq-Decides a b).0 h

same_marks : (a b : Bool) → beq a b ≡ true → a ≡ b
same_marks true true h = refl
same_marks true false h = absurd (false≢true h)
same_marks false true h = absurd (false≢true h)
same_marks false false h = refl

same_shown : (a b : Shown) → same_view (Some a) (Some b) ≡ true → a ≡ b
same_shown a b h =
    let parts = and_parts (nat_eq a.seq b.seq && same_rev a.rev b.rev) (beq a.deleted b.deleted) h in
    let first = and_parts (nat_eq a.seq b.seq) (same_rev a.rev b.rev) parts.0 in
    let p = eqb-true a.seq b.seq first.0 in
    let q = same_revs a.rev b.rev first.1 in
    let r = same_marks a.deleted b.deleted parts.1 in
    λ i. record { seq = p i; rev = q i; deleted = r i }

tested : (a b : Option Shown) → same_view a b ≡ true → a ≡ b
tested None None h = refl
tested None (Some b) h = absurd (false≢true h)
tested (Some a) None h = absurd (false≢true h)
tested (Some a) (Some b) h = ap (λ (x : Shown). Some x) (same_shown a b h)

if_some : (b : Bool) (x s : Shown) → (if b then Some x else None) ≡ Some s → s ≡ x
if_some true x s h = cc
if_some false x s h = absurd (none-some _ h)

seen_of : (es : List Entry) (user : List ℕ) (filter : Option (List (List ℕ))) (o : Option Current) (s : Shown) → view_of es user filter o ≡ Some s → (c : Current) × (o ≡ Some c) × (s ≡ record { seq = c.seq; rev = c.rev; deleted = c.deleted })
seen_of es user filter None s h = absurd (none-some _ h)
seen_of es user filter (Some c) s h = (c, refl, if_some (is_shown es user filter c) _ s h)

-- a current state is of a last write
current_last_of : (es : List Entry) (doc : List ℕ) (o : Option Sequenced) (c : Current) → current_after es doc o ≡ Some c → (l : Sequenced) × (o ≡ Some l) × (c.seq ≡ l.seq)
current_last_of es doc None c h = absurd (none-some _ h)
current_last_of es doc (Some l) c h = (l, refl, seq_of c _ h)
  where
    seq_of : (a b : Current) → Some b ≡ Some a → a.seq ≡ b.seq
    seq_of a b h = cc

current_last : (es : List Entry) (doc : List ℕ) (c : Current) → current es doc ≡ Some c → (l : Sequenced) × (last_write es doc ≡ Some l) × (c.seq ≡ l.seq)
current_last es doc c h = current_last_of es doc (last_write es doc) c h

current_there : (es : List Entry) (doc : List ℕ) (o : Option Sequenced) (l : Sequenced) → o ≡ Some l → (c : Current) × (current_after es doc o ≡ Some c)
current_there es doc None l h = absurd (none-some _ h)
current_there es doc (Some m) l h = (_, refl)

next_there : (w : Option Write) (seq : ℕ) (before : Option Sequenced) (l : Sequenced) → before ≡ Some l → (m : Sequenced) × (sequenced_or w seq before ≡ Some m)
next_there None seq before l h = (l, h)
next_there (Some w) seq before l h = (record { seq = seq; write = w }, refl)

stays : (e : Entry) (es : List Entry) (doc : List ℕ) (c : Current) → current es doc ≡ Some c → (d : Current) × (current (e ∷ es) doc ≡ Some d)
stays e es doc c h =
    let last = current_last es doc c h in
    let next = next_there (write_to e doc) (length es + 1) (last_write es doc) last.0 last.1 in
    current_there (e ∷ es) doc (last_write (e ∷ es) doc) next.0 next.1

-- the last write stands at a place of the entries
last_place : (es : List Entry) (doc : List ℕ) (l : Sequenced) → last_write es doc ≡ Some l → (1 ≤ l.seq) × (l.seq ≤ length es)
last_place [] doc l h = absurd (none-some _ h)
last_place (e ∷ older) doc l h = go (write_to e doc) (last_write older doc) (last_place older doc l) h
  where
    go : (w : Option Write) (before : Option Sequenced) → (before ≡ Some l → (1 ≤ l.seq) × (l.seq ≤ length older)) → sequenced_or w (length older + 1) before ≡ Some l → (1 ≤ l.seq) × (l.seq ≤ suc (length older))
    go None before rest h = let r = rest h in (r.0, omega arith)
    go (Some w) before rest h = let s : l.seq ≡ length older + 1 = cc in (omega arith, omega arith)

-- an entry writes one document
write_by : (o : Option Write) (doc : List ℕ) (w : Write) → of_document o doc ≡ Some w → (document_of o ≡ w.doc ∷ []) × (w.doc ≡ doc)
write_by None doc v h = absurd (none-some _ h)
write_by (Some w) doc v h = go (bytes_eq w.doc doc) refl h
  where
    go : (b : Bool) → bytes_eq w.doc doc ≡ b → (if b then Some w else None) ≡ Some v → (w.doc ∷ [] ≡ v.doc ∷ []) × (v.doc ≡ doc)
    go true e h = let same : w ≡ v = cc in let docs = ap (λ (x : Write). x.doc) same in (ap (λ (d : List ℕ). d ∷ []) docs, sym docs ∙ same_bytes w.doc doc e)
    go false e h = absurd (none-some _ h)

write_of : (e : Entry) (doc : List ℕ) (w : Write) → write_to e doc ≡ Some w → (written_by e ≡ w.doc ∷ []) × (w.doc ≡ doc)
write_of e doc w h = write_by (as_write e) doc w h

one_written : (e : Entry) (a b : List ℕ) (v w : Write) → write_to e a ≡ Some v → write_to e b ≡ Some w → a ≡ b
one_written e a b v w h k =
    let x = write_of e a v h in
    let y = write_of e b w k in
    let same : v.doc ≡ w.doc = heads v.doc w.doc (sym x.0 ∙ y.0) in
    sym x.1 ∙ same ∙ y.1
  where
    heads : (c d : List ℕ) → c ∷ [] ≡ d ∷ [] → c ≡ d
    heads c d h = cc

-- the last writes of two documents stand at two places
last_apart : (es : List Entry) (a b : List ℕ) (l m : Sequenced) → last_write es a ≡ Some l → last_write es b ≡ Some m → l.seq ≡ m.seq → a ≡ b
last_apart [] a b l m h k e = absurd (none-some _ h)
last_apart (e ∷ older) a b l m h k same = go (write_to e a) (write_to e b) refl refl (last_apart older a b l m) h k
  where
    go : (v w : Option Write) → write_to e a ≡ v → write_to e b ≡ w → (last_write older a ≡ Some l → last_write older b ≡ Some m → l.seq ≡ m.seq → a ≡ b) → sequenced_or v (length older + 1) (last_write older a) ≡ Some l → sequenced_or w (length older + 1) (last_write older b) ≡ Some m → a ≡ b
    go None None p q rest h k = rest h k same
    go None (Some w) p q rest h k = let s : m.seq ≡ length older + 1 = cc in let place = last_place older a l h in absurd (omega arith)
    go (Some v) None p q rest h k = let s : l.seq ≡ length older + 1 = cc in let place = last_place older b m k in absurd (omega arith)
    go (Some v) (Some w) p q rest h k = one_written e a b v w p q

has_left : {X : Type 0} (xs ys : List X) (x : X) → Has xs x → Has (xs ++ ys) x
has_left [] ys x h = absurd h
has_left (z ∷ zs) ys x (inl e) = inl e
has_left (z ∷ zs) ys x (inr t) = inr (has_left zs ys x t)

has_right : {X : Type 0} (xs ys : List X) (x : X) → Has ys x → Has (xs ++ ys) x
has_right [] ys x h = h
has_right (z ∷ zs) ys x h = inr (has_right zs ys x h)

last_written : (es : List Entry) (doc : List ℕ) (l : Sequenced) → last_write es doc ≡ Some l → Has (documents es) doc
last_written [] doc l h = absurd (none-some _ h)
last_written (e ∷ older) doc l h = go (write_to e doc) refl (last_written older doc l) h
  where
    go : (w : Option Write) → write_to e doc ≡ w → (last_write older doc ≡ Some l → Has (documents older) doc) → sequenced_or w (length older + 1) (last_write older doc) ≡ Some l → Has (written_by e ++ documents older) doc
    go None p rest h = has_right (written_by e) (documents older) doc (rest h)
    go (Some w) p rest h =
        let x = write_of e doc w p in
        let P : List (List ℕ) → Type 0 = λ ds. Has (ds ++ documents older) doc in
        subst P (sym x.0) (inl x.1)

pub view_facts : (user : List ℕ) (filter : Option (List (List ℕ))) → ViewFacts (λ es doc. view es user filter doc) (λ es doc. current es doc)
view_facts user filter = record {
  seen = λ es doc s h. seen_of es user filter (current es doc) s h;
  nothing = λ doc. refl;
  stays = stays;
  positive = λ es doc c h. let last = current_last es doc c h in let place = last_place es doc last.0 last.1 in omega (arith, last.2, place.0);
  bounded = λ es doc c h. let last = current_last es doc c h in let place = last_place es doc last.0 last.1 in omega (arith, last.2, place.1);
  apart = λ es a b c d h k e. let x = current_last es a c h in let y = current_last es b d k in last_apart es a b x.0 y.0 x.1 y.1 (sym x.2 ∙ e ∙ y.2);
  written = λ es doc c h. let last = current_last es doc c h in last_written es doc last.0 last.1;
  tested = tested;
}

-- the rows of the feed are those of its view
changed_is : (user : List ℕ) (filter : Option (List (List ℕ))) (es : List Entry) (doc : List ℕ) → changed es user filter doc ≡ changed_by (λ es doc. view es user filter doc) es doc
changed_is user filter [] doc = refl
changed_is user filter (e ∷ older) doc = ap (λ (before : List Entry). if same_view (view (e ∷ older) user filter doc) (view older user filter doc) then before else e ∷ older) (changed_is user filter older doc)

row_at_is : (user : List ℕ) (filter : Option (List (List ℕ))) (at : List Entry) (doc : List ℕ) → row_at at user filter doc ≡ row_from (λ es doc. view es user filter doc) (λ es doc. current es doc) doc at
row_at_is user filter [] doc = refl
row_at_is user filter (e ∷ older) doc = refl

row_is : (user : List ℕ) (filter : Option (List (List ℕ))) (es : List Entry) (doc : List ℕ) → row_by (λ es doc. view es user filter doc) (λ es doc. current es doc) es doc ≡ row_of es user filter doc
row_is user filter es doc =
    sym (row_at_is user filter (changed es user filter doc) doc ∙ ap (row_from (λ es doc. view es user filter doc) (λ es doc. current es doc) doc) (changed_is user filter es doc))

-- what the laws of the feed need holds of it
pub feed_facts : (user : List ℕ) (filter : Option (List (List ℕ))) → RowFacts (λ es doc. row_of es user filter doc) (λ es doc. shown_to es user filter doc)
feed_facts user filter =
    let P : (List Entry → List ℕ → Option Row) → Type 0 = λ rowed. RowFacts rowed (λ es doc. shown_to es user filter doc) in
    subst P (fun_ext (λ es. fun_ext (λ doc. row_is user filter es doc))) (row_facts (λ es doc. view es user filter doc) (λ es doc. current es doc) (view_facts user filter))
