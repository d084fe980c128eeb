-- what one entry more changes of a document, by what the law of current states says of it
use Rattle.std.proofs.Common.{◌≡◌, ℕ, ◌+◌, ◌≤◌, refl, sym, ◌∙◌, ap, arith, Bool, true, false, ◌||◌, if◌then◌else◌, List, [], ◌∷◌, ◌++◌, length, Option, Some, None}
use Rattle.std.specs.Prelude.{is_some}
use Rattle.std.specs.Str.{bytes_eq}
use Rattle.std.proofs.lemmas.Bool.{false≢true, or_parts}
use Rattle.std.proofs.lemmas.Option.{none-some}
use Rattle.sg_history.specs.declared.entries.Entry.{Entry}
use Rattle.sg_history.specs.declared.entries.Entry.TheVariants as entry
use Rattle.sg_history.specs.declared.entries.Mark.{Mark}
use Rattle.sg_history.specs.declared.entries.Write.{Write}
use Rattle.sg_history.specs.History.{as_write, of_document, document_of, write_to, written_by, documents, among}
use Rattle.sg_history.specs.Current.{Current, sequenced_or, last_write, current, current_after, mark_by, marked_by, marked_state}
use Rattle.sg_history.specs.Feed.{row_of, writes}
use Rattle.feed_rows.specs.Known.{marks_winner, renews, since_renewed, row_before}

-- what the law says of an entry that does not write a document
abbrev pub Unwritten : Type 0
Unwritten = (e : Entry) (older : List Entry) (doc : List ℕ) → write_to e doc ≡ None → current (e ∷ older) doc ≡ marked_by e doc (current older doc)

-- a write, and the mark of a winner
no_some : {X : Type 0} (o : Option X) → is_some o ≡ false → o ≡ None
no_some None h = refl
no_some (Some x) h = absurd (false≢true (sym h))

pub not_written_to : (e : Entry) (es : List Entry) (doc : List ℕ) → renews e es doc ≡ false → write_to e doc ≡ None
not_written_to e es doc h = no_some (write_to e doc) (or_parts (writes e doc) (marks_winner e doc (current es doc)) h).0

pub written_renews : (e : Entry) (es : List Entry) (doc : List ℕ) (w : Write) → write_to e doc ≡ Some w → renews e es doc ≡ true
written_renews e es doc w h = ap (λ (o : Option Write). is_some o || marks_winner e doc (current es doc)) h

pub unwritten_renews : (e : Entry) (es : List Entry) (doc : List ℕ) → write_to e doc ≡ None → renews e es doc ≡ marks_winner e doc (current es doc)
unwritten_renews e es doc h = ap (λ (o : Option Write). is_some o || marks_winner e doc (current es doc)) h

unmarked : (m : Option Mark) (c : Current) → is_some m ≡ false → marked_state m c ≡ c
unmarked None c h = refl
unmarked (Some mark) c h = absurd (false≢true (sym h))

unmarked_by : (e : Entry) (doc : List ℕ) (o : Option Current) → marks_winner e doc o ≡ false → marked_by e doc o ≡ o
unmarked_by e doc None h = refl
unmarked_by e doc (Some c) h = ap (λ (d : Current). Some d) (unmarked (mark_by e doc c.rev) c h)

-- an entry that does not renew a document leaves it as it is
pub current_same : Unwritten → (e : Entry) (es : List Entry) (doc : List ℕ) → renews e es doc ≡ false → current (e ∷ es) doc ≡ current es doc
current_same law e es doc h =
    law e es doc (not_written_to e es doc h)
    ∙ unmarked_by e doc (current es doc) (or_parts (writes e doc) (marks_winner e doc (current es doc)) h).1

pub writes_other : (w : Write) (doc : List ℕ) → bytes_eq w.doc doc ≡ false → write_to (entry.Write w) doc ≡ None
writes_other w doc h = ap (λ (b : Bool). if b then Some w else None) h

-- a write renews no other document
write_marks_none : (w : Write) (doc : List ℕ) (o : Option Current) → marks_winner (entry.Write w) doc o ≡ false
write_marks_none w doc None = refl
write_marks_none w doc (Some c) = refl

pub renews_other : (w : Write) (es : List Entry) (doc : List ℕ) → bytes_eq w.doc doc ≡ false → renews (entry.Write w) es doc ≡ false
renews_other w es doc h = unwritten_renews (entry.Write w) es doc (writes_other w doc h) ∙ write_marks_none w doc (current es doc)

-- the entries up to the last one that renewed a document
pub since_other : (e : Entry) (es : List Entry) (doc : List ℕ) → renews e es doc ≡ false → since_renewed (e ∷ es) doc ≡ since_renewed es doc
since_other e es doc h = ap (λ (b : Bool). if b then e ∷ es else since_renewed es doc) h

pub since_own : (e : Entry) (es : List Entry) (doc : List ℕ) → renews e es doc ≡ true → since_renewed (e ∷ es) doc ≡ e ∷ es
since_own e es doc h = ap (λ (b : Bool). if b then e ∷ es else since_renewed es doc) h

-- a document that was never written
not_written_by : (o : Option Write) (doc : List ℕ) (docs : List (List ℕ)) → among (document_of o ++ docs) doc ≡ false → (of_document o doc ≡ None) × (among docs doc ≡ false)
not_written_by None doc docs h = (refl, h)
not_written_by (Some w) doc docs h = let parts = or_parts (bytes_eq w.doc doc) (among docs doc) h in (writes_other w doc parts.0, parts.1)

not_written : (e : Entry) (doc : List ℕ) (docs : List (List ℕ)) → among (written_by e ++ docs) doc ≡ false → (write_to e doc ≡ None) × (among docs doc ≡ false)
not_written e doc docs h = not_written_by (as_write e) doc docs h

-- a document that is not there is renewed by a write alone
pub none_renewed : (e : Entry) (es : List Entry) (doc : List ℕ) → write_to e doc ≡ None → current es doc ≡ None → renews e es doc ≡ false
none_renewed e es doc h none = unwritten_renews e es doc h ∙ ap (marks_winner e doc) none

pub current_never : Unwritten → (es : List Entry) (doc : List ℕ) → among (documents es) doc ≡ false → current es doc ≡ None
current_never law [] doc h = refl
current_never law (e ∷ older) doc h =
    let parts = not_written e doc (documents older) h in
    let none = current_never law older doc parts.1 in
    current_same law e older doc (none_renewed e older doc parts.0 none) ∙ none

pub since_never : Unwritten → (es : List Entry) (doc : List ℕ) → among (documents es) doc ≡ false → since_renewed es doc ≡ []
since_never law [] doc h = refl
since_never law (e ∷ older) doc h =
    let parts = not_written e doc (documents older) h in
    since_other e older doc (none_renewed e older doc parts.0 (current_never law older doc parts.1)) ∙ since_never law older doc parts.1

pub row_never : Unwritten → (es : List Entry) (user : List ℕ) (filter : Option (List (List ℕ))) (doc : List ℕ) → among (documents es) doc ≡ false → row_before es user filter doc ≡ None
row_never law es user filter doc h = ap (λ (at : List Entry). row_of at user filter doc) (since_never law es doc h)

-- the sequence of a document's last write
abbrev seq_of : Option Current → ℕ
seq_of None = 0
seq_of (Some c) = c.seq

pub seq_written : (e : Entry) (es : List Entry) (doc : List ℕ) (w : Write) (c : Current) → write_to e doc ≡ Some w → current (e ∷ es) doc ≡ Some c → c.seq ≡ length es + 1
seq_written e es doc w c h is =
    sym (ap seq_of is) ∙ ap (λ (o : Option Write). seq_of (current_after (e ∷ es) doc (sequenced_or o (length es + 1) (last_write es doc)))) h

-- what a mark leaves of a document
pub record Left (c d : Current) : Type 0 where
  pub seq : d.seq ≡ c.seq
  pub rev : d.rev ≡ c.rev
  pub deleted : d.deleted ≡ c.deleted

left_state : (m : Option Mark) (c d : Current) → marked_state m c ≡ d → Left c d
left_state None c d h = record { seq = ap (λ (x : Current). x.seq) (sym h); rev = ap (λ (x : Current). x.rev) (sym h); deleted = ap (λ (x : Current). x.deleted) (sym h) }
left_state (Some mark) c d h = record { seq = ap (λ (x : Current). x.seq) (sym h); rev = ap (λ (x : Current). x.rev) (sym h); deleted = ap (λ (x : Current). x.deleted) (sym h) }

same_some : (c d : Current) → Some c ≡ Some d → c ≡ d
same_some c d h = cc

left_by : (e : Entry) (doc : List ℕ) (o : Option Current) (d : Current) → marked_by e doc o ≡ Some d → (c : Current) × (o ≡ Some c) × Left c d
left_by e doc None d h = absurd (none-some _ h)
left_by e doc (Some c) d h = (c, refl, left_state (mark_by e doc c.rev) c d (same_some _ _ h))

-- a document that an entry does not write was there
pub left_there : Unwritten → (e : Entry) (es : List Entry) (doc : List ℕ) (d : Current) → write_to e doc ≡ None → current (e ∷ es) doc ≡ Some d → (c : Current) × (current es doc ≡ Some c) × Left c d
left_there law e es doc d h is = left_by e doc (current es doc) d (sym (law e es doc h) ∙ is)

-- its last write is no later than where it was last renewed
pub record Within (es : List Entry) (doc : List ℕ) (c : Current) : Type 0 where
  pub seq : c.seq ≤ length (since_renewed es doc)
  pub since : length (since_renewed es doc) ≤ length es

pub seq_is : Unwritten → (es : List Entry) (doc : List ℕ) (c : Current) → current es doc ≡ Some c → Within es doc c
seq_is law [] doc c is = absurd (none-some _ is)
seq_is law (e ∷ older) doc c is = go (write_to e doc) refl (λ b was. seq_is law older doc b was)
  where
    all : renews e older doc ≡ true → c.seq ≤ length older + 1 → Within (e ∷ older) doc c
    all own high =
        let whole : length (since_renewed (e ∷ older) doc) ≡ length (e ∷ older) = ap length (since_own e older doc own) in
        record { seq = omega (arith, whole, high); since = omega (arith, whole) }

    rest : renews e older doc ≡ false → (b : Current) → c.seq ≡ b.seq → Within older doc b → Within (e ∷ older) doc c
    rest other b seq before =
        let same : length (since_renewed (e ∷ older) doc) ≡ length (since_renewed older doc) = ap length (since_other e older doc other) in
        record { seq = omega (arith, same, seq, before.seq); since = omega (arith, same, before.since) }

    unwritten : (b : Current) → Left b c → (r : Bool) → renews e older doc ≡ r → Within older doc b → Within (e ∷ older) doc c
    unwritten b left true r before = all r (omega (arith, left.seq, before.seq, before.since))
    unwritten b left false r before = rest r b left.seq before

    go : (o : Option Write) → write_to e doc ≡ o → ((b : Current) → current older doc ≡ Some b → Within older doc b) → Within (e ∷ older) doc c
    go None h before = let l = left_there law e older doc c h is in unwritten l.0 l.2 (renews e older doc) refl (before l.0 l.1)
    go (Some w) h before = let seq = seq_written e older doc w c h is in all (written_renews e older doc w h) (omega (arith, seq))
