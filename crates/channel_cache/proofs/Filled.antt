-- lists that are filled
use Rattle.std.proofs.Common.{◌≡◌, ◌<◌, ◌≤◌, ◌+◌, ◌-◌, ℕ, zero, suc, refl, sym, ◌∙◌, ap, arith, Bool, true, false, ◌&&◌, ◌||◌, if◌then◌else◌, List, [], ◌∷◌, length, Option, Some, None, nat_eq}
use Rattle.std.specs.Prelude.{nat_le, nat_lt}
use Rattle.std.proofs.lemmas.Bool.{eq-eqb, eqb-true, false≢true, leb-false, leb-true, ltb-false, ltb-true, true≢false}
use Rattle.std.proofs.lemmas.Option.{none-some, same_Some}
use Rattle.sg_history.specs.declared.entries.Entry.{Entry}
use Rattle.sg_history.specs.declared.entries.Write.{Write}
use Rattle.sg_history.specs.History.{among, as_write, past}
use Rattle.sg_history.specs.Current.{Current, current}
use Rattle.sg_history.specs.View.{every}
use Rattle.log_index.specs.declared.documents.Document.{Document}
use Rattle.log_index.specs.Marks.{write_of}
use Rattle.log_index.specs.Places.{after_at, document_at, document_before, next_at}
use Rattle.log_index.specs.Representation.{last_kept}
use Rattle.log_index.proofs.Nexts.{after_newest, last_writes_it, stood_after}
use Rattle.channel_cache.specs.Asked.{refills_of}
use Rattle.channel_cache.specs.inner.Asking.{AreFull, HasNothing, IsFilledFrom}
use Rattle.channel_cache.specs.inner.Counting.{counts_at, is_in_list, is_listed_by}
use Rattle.channel_cache.specs.Listed.{is_in, is_in_one, is_listed}
use Rattle.channel_cache.specs.inner.Moves.{channels_at}
use Rattle.channel_cache.specs.Reads.{filling}
use Rattle.channel_cache.specs.Sequences.{Changed, Lists, entered, holds_of}
use Rattle.channel_cache.specs.Stands.{IndexesTo, is_last}
use Rattle.channel_cache.proofs.Changing.{kept_same}
use Rattle.channel_cache.proofs.Listing.{listed_low, listed_within}
use Rattle.channel_cache.proofs.Past.{index_after, index_counts, index_high, past_count}
use Rattle.channel_cache.proofs.Standing.{IsCurrent, IsDocument, after_writes, is_current, is_document, last_stands, writes_after}

-- whether a sequence is behind one and not behind another
abbrev between : ℕ → ℕ → ℕ → Bool
between from to s = nat_lt from s && nat_le s to

is_between : (from to s : ℕ) → from < s → s ≤ to → between from to s ≡ true
is_between from to s low high = by (nat_lt from s) (nat_le s to) refl refl
  where
    by : (a b : Bool) → nat_lt from s ≡ a → nat_le s to ≡ b → (a && b) ≡ true
    by true true l h = refl
    by true false l h = absurd (omega (arith, high, leb-false s to h))
    by false b l h = absurd (omega (arith, low, ltb-false from s l))

not_between : (from to s : ℕ) → (from < s → s ≤ to → ⊥) → between from to s ≡ false
not_between from to s none = by (nat_lt from s) (nat_le s to) refl refl
  where
    by : (a b : Bool) → nat_lt from s ≡ a → nat_le s to ≡ b → (a && b) ≡ false
    by true true l h = absurd (none (ltb-true from s l) (leb-true s to h))
    by true false l h = refl
    by false b l h = refl

or_false : (b : Bool) → b ≡ (b || false)
or_false true = refl
or_false false = refl

and_false : (b : Bool) → (b && false) ≡ false
and_false true = refl
and_false false = refl

-- one entry that is in no list
pub fill_none : (es : List Entry) (seq : ℕ) (lists : Lists) → 0 < seq → ((c : List ℕ) → is_in_list es (c ∷ []) seq ≡ false) → IsFilledFrom es (seq - 1) seq lists lists
fill_none es seq lists pos none = record { keys = refl; holds = λ c s kept. or_false (holds_of lists c s) ∙ ap (λ (b : Bool). holds_of lists c s || b) (sym (by c s (nat_eq s seq) refl)) }
  where
    by : (c : List ℕ) (s : ℕ) (b : Bool) → nat_eq s seq ≡ b → (between (seq - 1) seq s && is_in_list es (c ∷ []) s) ≡ false
    by c s true at =
        ap (λ (n : ℕ). between (seq - 1) seq s && is_in_list es (c ∷ []) n) (eqb-true s seq at)
        ∙ ap (λ (b : Bool). between (seq - 1) seq s && b) (none c)
        ∙ and_false (between (seq - 1) seq s)
    by c s false at = ap (λ (b : Bool). b && is_in_list es (c ∷ []) s) (not_between (seq - 1) seq s (λ low high. true≢false (sym (eq-eqb s seq (omega (arith, low, high, pos))) ∙ at)))

-- one that enters the lists in which it is
pub fill_one : (es : List Entry) (seq : ℕ) (old new : Lists) (is_one : List ℕ → Bool) → 0 < seq → ((c : List ℕ) → is_in_list es (c ∷ []) seq ≡ is_one c) → Changed old new (entered is_one seq)
    → IsFilledFrom es (seq - 1) seq old new
fill_one es seq old new is_one pos listed changed = record {
  keys = changed.keys;
  holds = λ c s kept. changed.holds c s kept ∙ ap (λ (b : Bool). holds_of old c s || b) (by c s (nat_eq s seq) refl);
}
  where
    by : (c : List ℕ) (s : ℕ) (b : Bool) → nat_eq s seq ≡ b → (is_one c && b) ≡ (between (seq - 1) seq s && is_in_list es (c ∷ []) s)
    by c s true at =
        let here : s ≡ seq = eqb-true s seq at in
        flip (is_one c)
        ∙ sym (listed c)
        ∙ ap (λ (n : ℕ). is_in_list es (c ∷ []) n) (sym here)
        ∙ ap (λ (b : Bool). b && is_in_list es (c ∷ []) s) (sym (is_between (seq - 1) seq s (omega (arith, here, pos)) (omega (arith, here))))
      where
        flip : (b : Bool) → (b && true) ≡ b
        flip true = refl
        flip false = refl
    by c s false at =
        and_false (is_one c)
        ∙ ap (λ (b : Bool). b && is_in_list es (c ∷ []) s) (sym (not_between (seq - 1) seq s (λ low high. true≢false (sym (eq-eqb s seq (omega (arith, low, high, pos))) ∙ at))))

pub fill_then : (es : List Entry) (a b d : ℕ) (one two three : Lists) → a ≤ b → b ≤ d → IsFilledFrom es a b one two → IsFilledFrom es b d two three → IsFilledFrom es a d one three
fill_then es a b d one two three low high first second = record {
  keys = second.keys ∙ first.keys;
  holds = λ c s kept.
      second.holds c s (kept_same one two first.keys c ∙ kept)
      ∙ ap (λ (x : Bool). x || (between b d s && is_in_list es (c ∷ []) s)) (first.holds c s kept)
      ∙ join (holds_of one c s) (between a b s) (between b d s) (is_in_list es (c ∷ []) s)
      ∙ ap (λ (x : Bool). holds_of one c s || (x && is_in_list es (c ∷ []) s)) (whole s (nat_le s b) refl);
}
  where
    join : (h x y l : Bool) → ((h || (x && l)) || (y && l)) ≡ (h || ((x || y) && l))
    join true x y l = refl
    join false true y true = refl
    join false true y false = and_false y
    join false false y l = refl

    either : (s : ℕ) → b < s → between b d s ≡ between a d s
    either s above = ap (λ (x : Bool). x && nat_le s d) (lower b above ∙ sym (lower a (omega (arith, above, low))))
      where
        lower : (n : ℕ) → n < s → nat_lt n s ≡ true
        lower n below = by (nat_lt n s) refl
          where
            by : (x : Bool) → nat_lt n s ≡ x → x ≡ true
            by true is = refl
            by false is = absurd (omega (arith, below, ltb-false n s is))

    whole : (s : ℕ) (x : Bool) → nat_le s b ≡ x → (between a b s || between b d s) ≡ between a d s
    whole s true within =
        let le : s ≤ b = leb-true s b within in
        ap (λ (x : Bool). between a b s || x) (not_between b d s (λ above under. omega (arith, le, above)))
        ∙ sym (or_false (between a b s))
        ∙ ap (λ (x : Bool). nat_lt a s && x) (within ∙ sym (under s (omega (arith, le, high))))
      where
        under : (s : ℕ) → s ≤ d → nat_le s d ≡ true
        under s le = by (nat_le s d) refl
          where
            by : (x : Bool) → nat_le s d ≡ x → x ≡ true
            by true is = refl
            by false is = absurd (omega (arith, le, leb-false s d is))
    whole s false within =
        let above : b < s = leb-false s b within in
        ap (λ (x : Bool). x || between b d s) (not_between a b s (λ lower under. omega (arith, above, under))) ∙ either s above

pub fill_end : (es : List Entry) (a b : ℕ) (lists : Lists) → b ≤ a → IsFilledFrom es a b lists lists
fill_end es a b lists le = record {
  keys = refl;
  holds = λ c s kept. or_false (holds_of lists c s) ∙ ap (λ (x : Bool). holds_of lists c s || (x && is_in_list es (c ∷ []) s)) (sym (not_between a b s (λ low high. omega (arith, low, high, le))));
}

-- a write that is not its document's last is in no list
pub not_last : (es : List Entry) (seq : ℕ) → 0 < seq → is_last (next_at es seq) ≡ false → (c : List ℕ) → is_in_list es (c ∷ []) seq ≡ false
not_last es seq pos written c = by (write_of es seq) refl
  where
    own : (w : Write) (o : Option Current) → current es w.doc ≡ o → is_listed (c ∷ []) seq o ≡ false
    own w None now = refl
    own w (Some x) now = here (nat_eq x.seq seq) refl
      where
        here : (b : Bool) → nat_eq x.seq seq ≡ b → (b && is_in_one (c ∷ []) x) ≡ false
        here false at = refl
        here true at =
            let one : IsCurrent es w.doc x = is_current es w.doc x now in
            let d : IsDocument es w.doc one.d = is_document es w.doc one.d one.d_is in
            let same : d.now ≡ x = same_Some d.now x (sym d.now_is ∙ now) in
            let last : last_kept (document_at es w.doc) ≡ seq = ap last_kept one.d_is ∙ sym d.now_seq ∙ ap (λ (y : Current). y.seq) same ∙ eqb-true x.seq seq at in
            absurd (true≢false (sym (ap is_last (last_writes_it es w.doc seq last pos).none) ∙ written))

    by : (o : Option Write) → write_of es seq ≡ o → is_listed_by es (c ∷ []) seq o ≡ false
    by None none = refl
    by (Some w) at = own w (current es w.doc) refl

-- an entry that is no write is in no list
pub not_written : (es : List Entry) (seq : ℕ) → write_of es seq ≡ None → (c : List ℕ) → is_in_list es (c ∷ []) seq ≡ false
not_written es seq none c = ap (λ (o : Option Write). is_listed_by es (c ∷ []) seq o) none

-- the last write of a document is in the lists of its channels
pub last_listed : (es : List Entry) (seq : ℕ) (d : Document) → is_last (next_at es seq) ≡ true → after_at es seq ≡ Some d → d.last ≡ seq → (c : List ℕ) → is_in_list es (c ∷ []) seq ≡ among (every ∷ channels_at es d.winning) c
last_listed es seq d last after here c = by (after_writes es seq d after)
  where
    none : (o : Option ℕ) → next_at es seq ≡ o → is_last o ≡ true → next_at es seq ≡ None
    none None is h = is
    none (Some n) is h = absurd (false≢true h)

    by : (w : Write) × (write_of es seq ≡ Some w) → is_in_list es (c ∷ []) seq ≡ among (every ∷ channels_at es d.winning) c
    by one =
        let w = one.0 in
        let at : document_at es w.doc ≡ Some d = last_stands es seq w d one.1 (none (next_at es seq) refl last) after in
        let doc : IsDocument es w.doc d = is_document es w.doc d at in
        ap (λ (o : Option Write). is_listed_by es (c ∷ []) seq o) one.1
        ∙ ap (λ (o : Option Current). is_listed (c ∷ []) seq o) doc.now_is
        ∙ ap (λ (b : Bool). b && is_in_one (c ∷ []) doc.now) (eq-eqb doc.now.seq seq (doc.now_seq ∙ here))
        ∙ sym (or_false (is_in c doc.now))
        ∙ ap (λ (l : List (List ℕ)). among (every ∷ l) c) doc.now_channels

-- lists of nothing that are filled up to the last entry are full
pub filled_full : (es : List Entry) (to : ℕ) (old new : Lists) → length es ≡ to → HasNothing old → IsFilledFrom es 0 to old new → AreFull es new
filled_full es to old new long nothing filled c s kept =
    filled.holds c s (sym (kept_same old new filled.keys c) ∙ kept)
    ∙ ap (λ (b : Bool). b || (between 0 to s && is_in_list es (c ∷ []) s)) (nothing c s)
    ∙ by (is_in_list es (c ∷ []) s) refl
  where
    by : (b : Bool) → is_in_list es (c ∷ []) s ≡ b → (between 0 to s && b) ≡ b
    by false is = and_false (between 0 to s)
    by true is = ap (λ (x : Bool). x && true) (is_between 0 to s (listed_low es (c ∷ []) es s is) (omega (arith, listed_within es (c ∷ []) es s is, long)))

-- an entry that is no write has no document behind it
pub unwritten_behind : (es : List Entry) (seq : ℕ) → after_at es seq ≡ None → write_of es seq ≡ None
unwritten_behind [] seq none = refl
unwritten_behind (e ∷ older) seq none = by (nat_eq seq (length older + 1)) refl none (λ h. unwritten_behind older seq h)
  where
    own : (o : Option Write) → as_write e ≡ o → document_before (e ∷ older) o ≡ None → o ≡ None
    own None is none = refl
    own (Some w) is none = absurd (writes_after e older w is (after_newest e older (length older + 1) refl ∙ ap (λ (o : Option Write). document_before (e ∷ older) o) is ∙ none))

    by : (b : Bool) → nat_eq seq (length older + 1) ≡ b → (if b then document_before (e ∷ older) (as_write e) else after_at older seq) ≡ None → (after_at older seq ≡ None → write_of older seq ≡ None)
        → (if b then as_write e else write_of older seq) ≡ None
    by true same none rest = own (as_write e) refl none
    by false same none rest = rest none

-- by an index of these entries, or more
module _ (index entries : List Entry) (seq to : ℕ) (indexed : IndexesTo index entries to) (pos : 0 < seq) (low : seq ≤ to) where
  abbrev Behind : Option Document → Type 0
  Behind o = (if counts_at index to seq then after_at index seq else None) ≡ o

  pub fill_nothing : Behind None → (lists : Lists) → IsFilledFrom (past entries to) (seq - 1) seq lists lists
  fill_nothing none lists = by (counts_at index to seq) refl none
    where
      by : (b : Bool) → counts_at index to seq ≡ b → (if b then after_at index seq else None) ≡ None → IsFilledFrom (past entries to) (seq - 1) seq lists lists
      by true counts none =
          fill_none (past entries to) seq lists pos
          (not_written (past entries to) seq (unwritten_behind (past entries to) seq (sym (index_after index entries to indexed seq low) ∙ none)))
      by false counts none = fill_none (past entries to) seq lists pos (not_last (past entries to) seq pos (sym (index_counts index entries to indexed seq) ∙ counts))

  -- the document whose last write it is
  pub record FillsBy (d : Document) : Type 0 where
    pub won : 0 < d.winning
    pub within : d.winning ≤ to
    pub listed : (c : List ℕ) → is_in_list (past entries to) (c ∷ []) seq ≡ among (every ∷ channels_at (past entries to) d.winning) c

  pub fills_by : (d : Document) → Behind (Some d) → FillsBy d
  fills_by d is = by (counts_at index to seq) refl is
    where
      none : (o : Option ℕ) → next_at (past entries to) seq ≡ o → is_last o ≡ true → next_at (past entries to) seq ≡ None
      none None is h = is
      none (Some n) is h = absurd (false≢true h)

      by : (b : Bool) → counts_at index to seq ≡ b → (if b then after_at index seq else None) ≡ Some d → FillsBy d
      by false counts is = absurd (none-some d is)
      by true counts is =
          let es = past entries to in
          let last : is_last (next_at es seq) ≡ true = sym (index_counts index entries to indexed seq) ∙ counts in
          let after : after_at es seq ≡ Some d = sym (index_after index entries to indexed seq low) ∙ is in
          let one = after_writes es seq d after in
          let doc : IsDocument es one.0.doc d = is_document es one.0.doc d (last_stands es seq one.0 d one.1 (none (next_at es seq) refl last) after) in
          record {
            won = omega (arith, doc.won.low, doc.winning);
            within = omega (arith, doc.won.high, doc.winning, past_count entries to (index_high index entries to indexed));
            listed = last_listed es seq d last after (stood_after es seq d after).0;
          }

-- what is in a list is the last write of its document
pub last_in : (es : List Entry) (channels : List (List ℕ)) (s : ℕ) → (is_in_list es channels s && is_last (next_at es s)) ≡ is_in_list es channels s
last_in es channels s = by (write_of es s) refl
  where
    none : (b : Bool) → (b && true) ≡ b
    none true = refl
    none false = refl

    own : (w : Write) (o : Option Current) → write_of es s ≡ Some w → current es w.doc ≡ o → (is_listed channels s o && is_last (next_at es s)) ≡ is_listed channels s o
    own w None at now = refl
    own w (Some x) at now = here (nat_eq x.seq s) refl
      where
        here : (b : Bool) → nat_eq x.seq s ≡ b → ((nat_eq x.seq s && is_in_one channels x) && is_last (next_at es s)) ≡ (nat_eq x.seq s && is_in_one channels x)
        here false is = ap (λ (b : Bool). (b && is_in_one channels x) && is_last (next_at es s)) is ∙ sym (ap (λ (b : Bool). b && is_in_one channels x) is)
        here true is =
            let one : IsCurrent es w.doc x = is_current es w.doc x now in
            let d : IsDocument es w.doc one.d = is_document es w.doc one.d one.d_is in
            let same : d.now ≡ x = same_Some d.now x (sym d.now_is ∙ now) in
            let last : last_kept (document_at es w.doc) ≡ s = ap last_kept one.d_is ∙ sym d.now_seq ∙ ap (λ (y : Current). y.seq) same ∙ eqb-true x.seq s is in
            ap (λ (o : Option ℕ). (nat_eq x.seq s && is_in_one channels x) && is_last o) (last_writes_it es w.doc s last (omega (arith, last, ap last_kept one.d_is, d.seq, d.at.low))).none
            ∙ none (nat_eq x.seq s && is_in_one channels x)

    by : (o : Option Write) → write_of es s ≡ o → (is_listed_by es channels s o && is_last (next_at es s)) ≡ is_listed_by es channels s o
    by None at = refl
    by (Some w) at = own w (current es w.doc) at refl

-- a pass where something is filled
pub filling_some : (n to : ℕ) → nat_eq n 0 ≡ false → filling n to ≡ to
filling_some zero to some = absurd (true≢false some)
filling_some (suc n) to some = refl

-- as many channels, or more, as are filled
pub filling_most : (most : ℕ) (channels asked : List (List ℕ)) (to : ℕ) → filling (refills_of most channels asked) to ≤ filling (length channels) to
filling_most most [] asked to = omega arith
filling_most most (c ∷ channels) asked to = by (refills_of most (c ∷ channels) asked)
  where
    by : (n : ℕ) → filling n to ≤ to
    by zero = omega arith
    by (suc n) = omega arith
