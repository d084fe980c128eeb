-- where documents stand, and what they are
use Rattle.std.proofs.Common.{◌≡◌, ◌≢◌, ◌<◌, ◌≤◌, ◌+◌, ℕ, refl, sym, ◌∙◌, ap, subst, arith, Bool, true, false, if◌then◌else◌, List, [], ◌∷◌, length, Option, Some, None, nat_eq}
use Rattle.std.proofs.lemmas.Bool.{eqb-true}
use Rattle.std.proofs.lemmas.Option.{none-some, same_Some}
use Rattle.std.specs.Cmp.Lexicographic.{bytes_decides}
use Rattle.sg_names.specs.RevId.{same_rev}
use Rattle.sg_names.specs.declared.rev_id.RevId.{RevId}
use Rattle.sg_history.specs.declared.entries.Entry.{Entry}
use Rattle.sg_history.specs.declared.entries.Write.{Write}
use Rattle.sg_history.specs.History.{as_write, of_document, write_to}
use Rattle.sg_history.specs.Current.{Current, Sequenced, current, current_after, effects_of, last_write, sequenced_or, winning_of, with_rev_or, write_of_rev, write_or}
use Rattle.log_index.specs.declared.documents.Document.{Document}
use Rattle.log_index.specs.Marks.{write_of}
use Rattle.log_index.specs.Places.{document_at, document_before, document_by, after_at, next_at}
use Rattle.log_index.specs.Representation.{last_kept}
use Rattle.log_index.proofs.FirstRevisions.{at_newest, at_older, of_doc}
use Rattle.log_index.proofs.Nexts.{after_newest, last_one, stands, last_is}
use Rattle.channel_cache.specs.inner.Moves.{channels_at, channels_by}

-- a write stands at its sequence, and is one of a document
pub record IsAt (es : List Entry) (doc : List ℕ) (s : Sequenced) : Type 0 where
  pub there : write_of es s.seq ≡ Some s.write
  pub low : 0 < s.seq
  pub high : s.seq ≤ length es
  pub doc_is : s.write.doc ≡ doc

later : (e : Entry) (older : List Entry) (doc : List ℕ) (s : Sequenced) → IsAt older doc s → IsAt (e ∷ older) doc s
later e older doc s at = record {
  there = at_older e older s.seq at.high ∙ at.there;
  low = at.low;
  high = omega (arith, at.high);
  doc_is = at.doc_is;
}

newest : (e : Entry) (older : List Entry) (doc : List ℕ) (w : Write) (s : Sequenced) → write_to e doc ≡ Some w → record { seq = length older + 1; write = w } ≡ s → IsAt (e ∷ older) doc s
newest e older doc w s is same =
    let own : (as_write e ≡ Some w) × (w.doc ≡ doc) = of_doc (as_write e) doc w is in
    subst (λ (x : Sequenced). IsAt (e ∷ older) doc x) same (record {
      there = at_newest e older (length older + 1) refl ∙ own.0;
      low = omega arith;
      high = omega arith;
      doc_is = own.1;
    })

pub last_at : (es : List Entry) (doc : List ℕ) (s : Sequenced) → last_write es doc ≡ Some s → IsAt es doc s
last_at [] doc s is = absurd (none-some s is)
last_at (e ∷ older) doc s is = by (write_to e doc) refl is (λ h. last_at older doc s h)
  where
    by : (o : Option Write) → write_to e doc ≡ o → sequenced_or o (length older + 1) (last_write older doc) ≡ Some s → (last_write older doc ≡ Some s → IsAt older doc s) → IsAt (e ∷ older) doc s
    by None none is rest = later e older doc s (rest is)
    by (Some w) writes is rest = newest e older doc w s writes (same_Some (record { seq = length older + 1; write = w }) s is)

pub rev_at : (es : List Entry) (doc : List ℕ) (rev : RevId) (s : Sequenced) → write_of_rev es doc rev ≡ Some s → IsAt es doc s
rev_at [] doc rev s is = absurd (none-some s is)
rev_at (e ∷ older) doc rev s is = by (write_to e doc) refl is (λ h. rev_at older doc rev s h)
  where
    own : (w : Write) → write_to e doc ≡ Some w → (b : Bool) → (if b then Some (record { seq = length older + 1; write = w }) else write_of_rev older doc rev) ≡ Some s
        → (write_of_rev older doc rev ≡ Some s → IsAt older doc s) → IsAt (e ∷ older) doc s
    own w writes true is rest = newest e older doc w s writes (same_Some (record { seq = length older + 1; write = w }) s is)
    own w writes false is rest = later e older doc s (rest is)

    by : (o : Option Write) → write_to e doc ≡ o → with_rev_or o (length older + 1) rev (write_of_rev older doc rev) ≡ Some s → (write_of_rev older doc rev ≡ Some s → IsAt older doc s) → IsAt (e ∷ older) doc s
    by None none is rest = later e older doc s (rest is)
    by (Some w) writes is rest = own w writes (same_rev w.rev rev) is rest

pub winning_at : (es : List Entry) (doc : List ℕ) (last : Sequenced) → IsAt es doc last → IsAt es doc (winning_of es doc last)
winning_at es doc last at = by (write_of_rev es doc last.write.winner) refl
  where
    by : (o : Option Sequenced) → write_of_rev es doc last.write.winner ≡ o → IsAt es doc (write_or o last)
    by None is = at
    by (Some s) is = rev_at es doc last.write.winner s is

-- a document that stands somewhere: its last write, its winner's, and what it is
pub record IsDocument (es : List Entry) (doc : List ℕ) (d : Document) : Type 0 where
  pub last : Sequenced
  pub winner : Sequenced
  pub last_is : last_write es doc ≡ Some last
  pub at : IsAt es doc last
  pub won : IsAt es doc winner
  pub seq : d.last ≡ last.seq
  pub winning : d.winning ≡ winner.seq
  pub now : Current
  pub now_is : current es doc ≡ Some now
  pub now_seq : now.seq ≡ d.last
  pub now_rev : now.rev ≡ winner.write.rev
  pub now_channels : now.effects.channels ≡ channels_at es d.winning

pub is_document : (es : List Entry) (doc : List ℕ) (d : Document) → document_at es doc ≡ Some d → IsDocument es doc d
is_document es doc d is = by (last_write es doc) refl is
  where
    by : (o : Option Sequenced) → last_write es doc ≡ o → document_by es doc o ≡ Some d → IsDocument es doc d
    by None none is = absurd (none-some d is)
    by (Some last) at is =
        let same = same_Some _ d is in
        let there : IsAt es doc last = last_at es doc last at in
        let won : IsAt es doc (winning_of es doc last) = winning_at es doc last there in
        let winner : Sequenced = winning_of es doc last in
        let winning : d.winning ≡ winner.seq = sym (ap (λ (x : Document). x.winning) same) in
        record {
          last = last;
          winner = winner;
          last_is = at;
          at = there;
          won = won;
          seq = sym (ap (λ (x : Document). x.last) same);
          winning = winning;
          now = record { seq = last.seq; rev = winner.write.rev; deleted = winner.write.deleted; effects = effects_of es winner };
          now_is = ap (λ (o : Option Sequenced). current_after es doc o) at;
          now_seq = ap (λ (x : Document). x.last) same;
          now_rev = refl;
          now_channels = sym (ap (λ (n : ℕ). channels_at es n) winning ∙ ap (λ (o : Option Write). channels_by es winner.seq o) won.there);
        }

-- where a document is something, it stands somewhere
pub record IsCurrent (es : List Entry) (doc : List ℕ) (c : Current) : Type 0 where
  pub d : Document
  pub d_is : document_at es doc ≡ Some d

pub is_current : (es : List Entry) (doc : List ℕ) (c : Current) → current es doc ≡ Some c → IsCurrent es doc c
is_current es doc c is = by (last_write es doc) refl is
  where
    by : (o : Option Sequenced) → last_write es doc ≡ o → current_after es doc o ≡ Some c → IsCurrent es doc c
    by None none is = absurd (none-some c is)
    by (Some last) at is = record { d = _; d_is = ap (λ (o : Option Sequenced). document_by es doc o) at }

-- where nothing is next to a write of a sequence, its document stands as it did right behind it
pub last_stands : (es : List Entry) (seq : ℕ) (w : Write) (d : Document) → write_of es seq ≡ Some w → next_at es seq ≡ None → after_at es seq ≡ Some d → document_at es w.doc ≡ Some d
last_stands es seq w d at none after = by (document_at es w.doc) refl (last_one es seq w at none)
  where
    by : (o : Option Document) → document_at es w.doc ≡ o → last_kept o ≡ seq → o ≡ Some d
    by None is last = absurd (omega (arith, last, low es seq w at))
      where
        low : (es : List Entry) (seq : ℕ) (w : Write) → write_of es seq ≡ Some w → 0 < seq
        low [] seq w at = absurd (none-some w at)
        low (e ∷ older) seq w at = own (nat_eq seq (length older + 1)) refl at (λ h. low older seq w h)
          where
            own : (b : Bool) → nat_eq seq (length older + 1) ≡ b → (if b then as_write e else write_of older seq) ≡ Some w → (write_of older seq ≡ Some w → 0 < seq) → 0 < seq
            own true same at rest = omega (arith, eqb-true seq (length older + 1) same)
            own false same at rest = rest at
    by (Some x) is last =
        let behind : after_at es seq ≡ Some x = ap (λ (n : ℕ). after_at es n) (sym last) ∙ (stands es w.doc x is).behind in
        sym behind ∙ after

-- an entry behind which a document stands is a write
pub after_writes : (es : List Entry) (seq : ℕ) (d : Document) → after_at es seq ≡ Some d → (w : Write) × (write_of es seq ≡ Some w)
after_writes [] seq d is = absurd (none-some d is)
after_writes (e ∷ older) seq d is = by (nat_eq seq (length older + 1)) refl is (λ h. after_writes older seq d h)
  where
    own : (o : Option Write) → as_write e ≡ o → document_before (e ∷ older) o ≡ Some d → (w : Write) × (as_write e ≡ Some w)
    own None none is = absurd (none-some d is)
    own (Some w) at is = (w, at)

    by : (b : Bool) → nat_eq seq (length older + 1) ≡ b → (if b then document_before (e ∷ older) (as_write e) else after_at older seq) ≡ Some d
        → (after_at older seq ≡ Some d → (w : Write) × (write_of older seq ≡ Some w)) → (w : Write) × ((if b then as_write e else write_of older seq) ≡ Some w)
    by true same is rest = own (as_write e) refl is
    by false same is rest = rest is

-- a write has a document behind it
pub writes_after : (e : Entry) (older : List Entry) (w : Write) → as_write e ≡ Some w → after_at (e ∷ older) (length older + 1) ≢ None
writes_after e older w is none =
    let at : document_at (e ∷ older) w.doc ≡ None = ap (λ (o : Option Write). document_before (e ∷ older) o) (sym is) ∙ sym (after_newest e older (length older + 1) refl) ∙ none in
    let writes : write_to e w.doc ≡ Some w = ap (λ (o : Option Write). of_document o w.doc) is ∙ ap (λ (b : Bool). if b then Some w else None) ((bytes_decides w.doc w.doc).1 refl) in
    absurd (omega (arith, last_is e older w.doc w writes, ap last_kept at))
