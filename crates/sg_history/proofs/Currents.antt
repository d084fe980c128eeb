-- what an entry makes of current states and of effects
use Rattle.std.proofs.Common.{◌≡◌, ℕ, ◌+◌, ◌<◌, ◌≤◌, Bool, true, false, List, [], ◌∷◌, length, refl, sym, ap, ◌∙◌, arith, inl, inr, Option, Some, None, if◌then◌else◌}
use Rattle.std.specs.Prelude.{nat_le}
use Rattle.std.specs.Str.{bytes_eq}
use Rattle.std.specs.Cmp.Lexicographic.{bytes_decides}
use Rattle.std.proofs.lemmas.Bool.{cases_Bool, le-leb, leb-true}
use Rattle.std.proofs.lemmas.Option.{none-some}
use Rattle.sg_names.specs.declared.rev_id.RevId.{RevId}
use Rattle.sg_names.specs.RevId.{same_rev}
use Rattle.sg_history.specs.declared.entries.Entry.{Entry}
use Rattle.sg_history.specs.declared.entries.Mark.{Mark}
use Rattle.sg_history.specs.declared.entries.Write.{Write}
use Rattle.sg_history.specs.History.{as_write, of_document, write_to}
use Rattle.sg_history.specs.Current.{Effects, Sequenced, current, current_after, current_by, current_of, effects_of, effects_or, last_write, mark_by, marked_by, marked_state, recorded_effects, sequenced_or, winning_of, with_rev_or, write_of_rev, write_or}

not_below : (a b : ℕ) → b < a → nat_le a b ≡ false
not_below a b low = elim (cases_Bool (nat_le a b)) [
  | inl is ↦ absurd (omega (arith, low, leb-true a b is))
  | inr other ↦ other
]

-- the effects of an earlier write after one entry more
pub effects_next : (e : Entry) (older : List Entry) (written : Sequenced) → written.seq ≤ length older
    → effects_of (e ∷ older) written ≡ effects_or (mark_by e written.write.doc written.write.rev) (effects_of older written)
effects_next e older written low =
    ap (λ (b : Bool). if b then recorded_effects written.write else effects_or (mark_by e written.write.doc written.write.rev) (effects_of older written))
    (not_below (length older + 1) written.seq (omega (arith, low)))

-- the effects of a write that is the last entry
pub effects_own : (es : List Entry) (written : Sequenced) → length es ≤ written.seq → effects_of es written ≡ recorded_effects written.write
effects_own [] written low = refl
effects_own (e ∷ older) written low =
    ap (λ (b : Bool). if b then recorded_effects written.write else effects_or (mark_by e written.write.doc written.write.rev) (effects_of older written))
    (le-leb (length older + 1) written.seq (omega (arith, low)))

-- a write of a document among entries
record IsAmong (es : List Entry) (doc : List ℕ) (written : Sequenced) : Type 0 where
  low : written.seq ≤ length es
  of : written.write.doc ≡ doc

chosen_doc : (b : Bool) (x w : Write) (doc : List ℕ) → bytes_eq x.doc doc ≡ b → (if b then Some x else None) ≡ Some w → w.doc ≡ doc
chosen_doc true x w doc is h =
    let same : x ≡ w = cc in
    ap (λ (v : Write). v.doc) (sym same) ∙ (bytes_decides x.doc doc).0 is
chosen_doc false x w doc is h = absurd (none-some _ h)

written_doc : (o : Option Write) (doc : List ℕ) (w : Write) → of_document o doc ≡ Some w → w.doc ≡ doc
written_doc None doc w h = absurd (none-some _ h)
written_doc (Some x) doc w h = chosen_doc (bytes_eq x.doc doc) x w doc refl h

among_more : (e : Entry) (older : List Entry) (doc : List ℕ) (written : Sequenced) → IsAmong older doc written → IsAmong (e ∷ older) doc written
among_more e older doc written is = record { low = omega (arith, is.low); of = is.of }

among_first : (e : Entry) (older : List Entry) (doc : List ℕ) (w : Write) (written : Sequenced) → write_to e doc ≡ Some w
    → record { seq = length older + 1; write = w } ≡ written → IsAmong (e ∷ older) doc written
among_first e older doc w written at same =
    let number : length older + 1 ≡ written.seq = ap (λ (s : Sequenced). s.seq) same in
    record { low = omega (arith, number); of = ap (λ (s : Sequenced). s.write.doc) (sym same) ∙ written_doc (as_write e) doc w at }

same_some : {X : Type 0} (x y : X) → Some x ≡ Some y → x ≡ y
same_some x y h = cc

last_is : (es : List Entry) (doc : List ℕ) (last : Sequenced) → last_write es doc ≡ Some last → IsAmong es doc last
last_is [] doc last h = absurd (none-some _ h)
last_is (e ∷ older) doc last h = go (write_to e doc) refl (λ g. last_is older doc last g) h
  where
    go : (o : Option Write) → write_to e doc ≡ o → (last_write older doc ≡ Some last → IsAmong older doc last)
        → sequenced_or o (length older + 1) (last_write older doc) ≡ Some last → IsAmong (e ∷ older) doc last
    go None is again g = among_more e older doc last (again g)
    go (Some w) is again g = among_first e older doc w last is (same_some _ _ g)

rev_is : (es : List Entry) (doc : List ℕ) (rev : RevId) (found : Sequenced) → write_of_rev es doc rev ≡ Some found → IsAmong es doc found
rev_is [] doc rev found h = absurd (none-some _ h)
rev_is (e ∷ older) doc rev found h = go (write_to e doc) refl (λ g. rev_is older doc rev found g) h
  where
    pick : (b : Bool) (w : Write) → write_to e doc ≡ Some w → (write_of_rev older doc rev ≡ Some found → IsAmong older doc found)
        → (if b then Some (record { seq = length older + 1; write = w }) else write_of_rev older doc rev) ≡ Some found → IsAmong (e ∷ older) doc found
    pick true w is again g = among_first e older doc w found is (same_some _ _ g)
    pick false w is again g = among_more e older doc found (again g)

    go : (o : Option Write) → write_to e doc ≡ o → (write_of_rev older doc rev ≡ Some found → IsAmong older doc found)
        → with_rev_or o (length older + 1) rev (write_of_rev older doc rev) ≡ Some found
        → IsAmong (e ∷ older) doc found
    go None is again g = among_more e older doc found (again g)
    go (Some w) is again g = pick (same_rev w.rev rev) w is again g

winning_is : (es : List Entry) (doc : List ℕ) (last : Sequenced) → IsAmong es doc last → IsAmong es doc (winning_of es doc last)
winning_is es doc last is = go (write_of_rev es doc last.write.winner) refl
  where
    go : (o : Option Sequenced) → write_of_rev es doc last.write.winner ≡ o → IsAmong es doc (write_or o last)
    go None none = is
    go (Some found) at = rev_is es doc last.write.winner found at

with_effects : (seq : ℕ) (w : Write) (m : Option Mark) (others : Effects) → current_of seq w (effects_or m others) ≡ marked_state m (current_of seq w others)
with_effects seq w None others = refl
with_effects seq w (Some mark) others = refl

-- an entry that does not write the document
pub unwritten_current : (e : Entry) (older : List Entry) (doc : List ℕ) → write_to e doc ≡ None → current (e ∷ older) doc ≡ marked_by e doc (current older doc)
unwritten_current e older doc none =
    ap (λ (o : Option Write). current_after (e ∷ older) doc (sequenced_or o (length older + 1) (last_write older doc))) none
    ∙ go (last_write older doc) refl
  where
    same_winning : (last : Sequenced) → winning_of (e ∷ older) doc last ≡ winning_of older doc last
    same_winning last =
        ap (λ (o : Option Write). write_or (with_rev_or o (length older + 1) last.write.winner (write_of_rev older doc last.write.winner)) last) none

    winner : (last w : Sequenced) → IsAmong older doc w → current_by (e ∷ older) last.seq w ≡ marked_state (mark_by e doc w.write.rev) (current_by older last.seq w)
    winner last w is =
        ap (current_of last.seq w.write) (effects_next e older w is.low)
        ∙ ap (λ (d : List ℕ). current_of last.seq w.write (effects_or (mark_by e d w.write.rev) (effects_of older w))) is.of
        ∙ with_effects last.seq w.write (mark_by e doc w.write.rev) (effects_of older w)

    go : (o : Option Sequenced) → last_write older doc ≡ o → current_after (e ∷ older) doc o ≡ marked_by e doc (current_after older doc o)
    go None is = refl
    go (Some last) is =
        ap Some (ap (current_by (e ∷ older) last.seq) (same_winning last)
        ∙ winner last (winning_of older doc last) (winning_is older doc last (last_is older doc last is)))
