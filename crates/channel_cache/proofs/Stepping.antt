-- what one entry more makes of lists
use Rattle.std.proofs.Common.{◌≡◌, ◌≢◌, ◌<◌, ◌+◌, ℕ, refl, sym, ◌∙◌, ap, arith, Bool, true, false, ◌&&◌, ◌||◌, not, if◌then◌else◌, List, [], ◌∷◌, length, Option, Some, None, nat_eq}
use Rattle.std.specs.Prelude.{is_some}
use Rattle.std.specs.Str.{bytes_eq}
use Rattle.std.specs.Cmp.Lexicographic.{bytes_decides}
use Rattle.std.proofs.lemmas.Bool.{eq-eqb, eqb-true, ne_eqb, true≢false}
use Rattle.std.proofs.lemmas.Option.{none-some}
use Rattle.sg_history.specs.declared.entries.Entry.{Entry}
use Rattle.sg_history.specs.declared.entries.Write.{Write}
use Rattle.sg_history.specs.History.{SyncEntry, among, as_sync, as_write, of_document, write_to}
use Rattle.sg_history.specs.declared.entries.Entry.TheVariants as entry
use Rattle.sg_history.specs.Current.{Current, current, mark_by, mark_in, marked_by, marked_state}
use Rattle.sg_history.specs.View.{every}
use Rattle.log_index.specs.Marks.{write_of}
use Rattle.log_index.specs.Places.{next_at, next_or, written_again}
use Rattle.log_index.proofs.FirstRevisions.{at_newest, not_there}
use Rattle.log_index.proofs.Nexts.{next_newest, next_of_none}
use Rattle.channel_cache.specs.inner.Counting.{AreLists, is_in_list, is_listed_by}
use Rattle.channel_cache.specs.Listed.{is_in, is_in_one, is_listed}
use Rattle.channel_cache.specs.Sequences.{Counted, Lists, entered, holds_of, is_kept}
use Rattle.channel_cache.specs.Stands.{is_last}
use Rattle.channel_cache.proofs.Changing.{kept_same}

-- one entry more leaves a document that it does not write as it was, but for the effects of its mark
abbrev pub Unwritten : Type 0
Unwritten = (e : Entry) (older : List Entry) (doc : List ℕ) → write_to e doc ≡ None → current (e ∷ older) doc ≡ marked_by e doc (current older doc)

pub write_other : (e : Entry) (older : List Entry) (s : ℕ) → s ≢ length older + 1 → write_of (e ∷ older) s ≡ write_of older s
write_other e older s other = ap (λ (b : Bool). if b then as_write e else write_of older s) (ne_eqb s (length older + 1) other)

pub last_more : (e : Entry) (older : List Entry) (s : ℕ) → is_last (next_at (e ∷ older) s) ≡ (is_last (next_at older s) && not (is_some (written_again e (write_of older s))))
last_more e older s = by (next_at older s) (written_again e (write_of older s))
  where
    by : (o : Option ℕ) (w : Option Write) → is_last (next_or o w (length older + 1)) ≡ (is_last o && not (is_some w))
    by (Some n) w = refl
    by None None = refl
    by None (Some w) = refl

and_true : (b : Bool) → b ≡ (b && true)
and_true true = refl
and_true false = refl

and_false : (b : Bool) → (b && false) ≡ false
and_false true = refl
and_false false = refl

or_false : (b : Bool) → (b || false) ≡ b
or_false true = refl
or_false false = refl

and_again : (a b c : Bool) → (a && (b && c)) ≡ ((a && b) && c)
and_again true b c = refl
and_again false b c = refl

-- nothing beyond the entries is in a list
pub none_beyond : (older : List Entry) (lists : Lists) (c : List ℕ) (s : ℕ) → length older < s → AreLists older lists → is_kept lists c ≡ true → holds_of lists c s ≡ false
none_beyond older lists c s beyond are kept =
    let none : write_of older s ≡ None = not_there older s beyond in
    and_true (holds_of lists c s)
    ∙ ap (λ (o : Option ℕ). holds_of lists c s && is_last o) (sym (next_of_none older s none))
    ∙ are c s kept
    ∙ ap (λ (o : Option Write). is_listed_by older (c ∷ []) s o) none

-- what counts in lists that changed
pub counts_last : (es : List Entry) (counts : ℕ → Bool) → ((s : ℕ) → counts s ≡ is_last (next_at es s)) → (old new : Lists) (after : List ℕ → ℕ → Bool → Bool) → Counted counts old new after
    → (c : List ℕ) (s : ℕ) → is_kept old c ≡ true → (holds_of new c s && is_last (next_at es s)) ≡ (after c s (holds_of old c s) && is_last (next_at es s))
counts_last es counts same old new after counted c s kept =
    ap (λ (b : Bool). holds_of new c s && b) (sym (same s)) ∙ counted.holds c s kept ∙ ap (λ (b : Bool). after c s (holds_of old c s) && b) (same s)

-- what an entry that writes nothing again leaves
module _ (unwritten : Unwritten) (e : Entry) (older : List Entry) where
  -- a mark of none changes nothing
  no_mark : (doc : List ℕ) (o : Option Current) → mark_by e doc ≡ (λ rev. None) → marked_by e doc o ≡ o
  no_mark doc None none = refl
  no_mark doc (Some c) none = ap (λ f. Some (marked_state (f c.rev) c)) none

  no_sync : as_sync e ≡ None → (doc : List ℕ) → mark_by e doc ≡ (λ rev. None)
  no_sync none doc = ap (λ (o : Option SyncEntry). λ rev. mark_in o doc rev) none

  pub same_current : as_sync e ≡ None → (doc : List ℕ) → write_to e doc ≡ None → current (e ∷ older) doc ≡ current older doc
  same_current none doc other = unwritten e older doc other ∙ no_mark doc (current older doc) (no_sync none doc)

  -- the lists over an entry that neither writes nor replaces
  pub other_step : as_write e ≡ None → as_sync e ≡ None → (lists : Lists) → AreLists older lists → AreLists (e ∷ older) lists
  other_step none plain lists are c s kept = by (nat_eq s (length older + 1)) refl
    where
      writes_none : (doc : List ℕ) → write_to e doc ≡ None
      writes_none doc = ap (λ (o : Option Write). of_document o doc) none

      old : (o : Option Write) → write_of older s ≡ o → (is_last (next_at older s) && not (is_some (written_again e o))) ≡ is_last (next_at older s)
      old None at = sym (and_true (is_last (next_at older s)))
      old (Some v) at = ap (λ (o : Option Write). is_last (next_at older s) && not (is_some o)) (writes_none v.doc) ∙ sym (and_true (is_last (next_at older s)))

      listed : (o : Option Write) → is_listed_by older (c ∷ []) s o ≡ is_listed_by (e ∷ older) (c ∷ []) s o
      listed None = refl
      listed (Some v) = ap (λ (o : Option Current). is_listed (c ∷ []) s o) (sym (same_current plain v.doc (writes_none v.doc)))

      by : (b : Bool) → nat_eq s (length older + 1) ≡ b → (holds_of lists c s && is_last (next_at (e ∷ older) s)) ≡ is_in_list (e ∷ older) (c ∷ []) s
      by true at =
          let here : s ≡ length older + 1 = eqb-true s (length older + 1) at in
          ap (λ (b : Bool). b && is_last (next_at (e ∷ older) s)) (none_beyond older lists c s (omega (arith, here)) are kept)
          ∙ ap (λ (o : Option Write). is_listed_by (e ∷ older) (c ∷ []) s o) (sym (at_newest e older s here ∙ none))
      by false at =
          let other : s ≢ length older + 1 = λ same. true≢false (sym (eq-eqb s (length older + 1) same) ∙ at) in
          ap (λ (b : Bool). holds_of lists c s && b) (last_more e older s ∙ old (write_of older s) refl)
          ∙ are c s kept
          ∙ listed (write_of older s)
          ∙ ap (λ (o : Option Write). is_listed_by (e ∷ older) (c ∷ []) s o) (sym (write_other e older s other))

  -- an entry that writes neither replaces nor marks
  pub no_replacement : (w : Write) → as_write e ≡ Some w → as_sync e ≡ None
  no_replacement w is = by e is
    where
      by : (e : Entry) → as_write e ≡ Some w → as_sync e ≡ None
      by (entry.Write v) is = refl
      by (entry.PutUser name channels roles) is = refl
      by (entry.PutRole name channels) is = refl
      by (entry.DropUser name) is = refl
      by (entry.DropRole name) is = refl
      by (entry.Sync text marks) is = absurd (none-some w is)
      by entry.Unused is = refl

  -- the lists over a write: its sequence enters those of its document's channels
  pub write_step : (w : Write) (now : Current) → as_write e ≡ Some w → current (e ∷ older) w.doc ≡ Some now → now.seq ≡ length older + 1 → (counts : ℕ → Bool) → ((s : ℕ) → counts s ≡ is_last (next_at (e ∷ older) s)) → (old new : Lists)
      → Counted counts old new (entered (among (every ∷ now.effects.channels)) (length older + 1)) → AreLists older old → AreLists (e ∷ older) new
  write_step w now is at seq counts same old new changed are c s kept = by (nat_eq s (length older + 1)) refl
    where
      was : is_kept old c ≡ true
      was = sym (kept_same old new changed.keys c) ∙ kept

      plain : as_sync e ≡ None
      plain = no_replacement w is

      again : (v : Write) (b : Bool) → bytes_eq w.doc v.doc ≡ b → written_again e (Some v) ≡ (if b then Some w else None)
      again v b same = ap (λ (o : Option Write). of_document o v.doc) is ∙ ap (λ (b : Bool). if b then Some w else None) same

      -- what was in the list and was not written again
      listed : s ≢ length older + 1 → (o : Option Write) → (is_listed_by older (c ∷ []) s o && not (is_some (written_again e o))) ≡ is_listed_by (e ∷ older) (c ∷ []) s o
      listed other None = refl
      listed other (Some v) = own (bytes_eq w.doc v.doc) refl
        where
          own : (b : Bool) → bytes_eq w.doc v.doc ≡ b → (is_listed (c ∷ []) s (current older v.doc) && not (is_some (written_again e (Some v)))) ≡ is_listed (c ∷ []) s (current (e ∷ older) v.doc)
          own true same =
              ap (λ (o : Option Write). is_listed (c ∷ []) s (current older v.doc) && not (is_some o)) (again v true same)
              ∙ and_false (is_listed (c ∷ []) s (current older v.doc))
              ∙ sym (ap (λ (b : Bool). b && is_in_one (c ∷ []) now) (ne_eqb now.seq s (λ same. other (sym same ∙ seq))))
              ∙ ap (λ (o : Option Current). is_listed (c ∷ []) s o) (sym at ∙ ap (λ (doc : List ℕ). current (e ∷ older) doc) ((bytes_decides w.doc v.doc).0 same))
          own false apart =
              ap (λ (o : Option Write). is_listed (c ∷ []) s (current older v.doc) && not (is_some o)) (again v false apart)
              ∙ sym (and_true (is_listed (c ∷ []) s (current older v.doc)))
              ∙ ap (λ (o : Option Current). is_listed (c ∷ []) s o) (sym (same_current plain v.doc (again v false apart)))

      by : (b : Bool) → nat_eq s (length older + 1) ≡ b → (holds_of new c s && is_last (next_at (e ∷ older) s)) ≡ is_in_list (e ∷ older) (c ∷ []) s
      by true there =
          let here : s ≡ length older + 1 = eqb-true s (length older + 1) there in
          counts_last (e ∷ older) counts same old new (entered (among (every ∷ now.effects.channels)) (length older + 1)) changed c s was
          ∙ ap (λ (b : Bool). (b || (among (every ∷ now.effects.channels) c && nat_eq s (length older + 1))) && is_last (next_at (e ∷ older) s)) (none_beyond older old c s (omega (arith, here)) are was)
          ∙ ap (λ (o : Option ℕ). (among (every ∷ now.effects.channels) c && nat_eq s (length older + 1)) && is_last o) (next_newest e older s here)
          ∙ ap (λ (b : Bool). (among (every ∷ now.effects.channels) c && b) && true) there
          ∙ sym (and_true (among (every ∷ now.effects.channels) c && true))
          ∙ sym (and_true (among (every ∷ now.effects.channels) c))
          ∙ sym (or_false (is_in c now))
          ∙ sym (ap (λ (b : Bool). b && is_in_one (c ∷ []) now) (eq-eqb now.seq s (seq ∙ sym here)))
          ∙ ap (λ (o : Option Current). is_listed (c ∷ []) s o) (sym at)
          ∙ ap (λ (o : Option Write). is_listed_by (e ∷ older) (c ∷ []) s o) (sym (at_newest e older s here ∙ is))
      by false there =
          let other : s ≢ length older + 1 = λ same. true≢false (sym (eq-eqb s (length older + 1) same) ∙ there) in
          counts_last (e ∷ older) counts same old new (entered (among (every ∷ now.effects.channels)) (length older + 1)) changed c s was
          ∙ ap (λ (b : Bool). (holds_of old c s || (among (every ∷ now.effects.channels) c && b)) && is_last (next_at (e ∷ older) s)) there
          ∙ ap (λ (b : Bool). (holds_of old c s || b) && is_last (next_at (e ∷ older) s)) (and_false (among (every ∷ now.effects.channels) c))
          ∙ ap (λ (b : Bool). b && is_last (next_at (e ∷ older) s)) (or_false (holds_of old c s))
          ∙ ap (λ (b : Bool). holds_of old c s && b) (last_more e older s)
          ∙ and_again (holds_of old c s) (is_last (next_at older s)) (not (is_some (written_again e (write_of older s))))
          ∙ ap (λ (b : Bool). b && not (is_some (written_again e (write_of older s)))) (are c s was)
          ∙ listed other (write_of older s)
          ∙ ap (λ (o : Option Write). is_listed_by (e ∷ older) (c ∷ []) s o) (sym (write_other e older s other))
