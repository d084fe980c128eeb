use Rattle.std.proofs.Common.{◌≡◌, ◌∙◌, ◌+◌, ◌<◌, ◌≤◌, ◌∷◌, ◌++◌, [], ap, arith, drop, length, reverse, subst, sym, take, ℕ, List, None, Some}
use Rattle.std.specs.Prelude.{option_map}
use Rattle.std.proofs.lemmas.List.{length-reverse}
use Rattle.sg_history.specs.declared.entries.Mark.{Mark}
use Rattle.sg_history.specs.History.{as_sync}
use Rattle.sg_history.specs.Puts.{replacement_in}
use Rattle.feed_rows.specs.inner.Index.{IsIndex}
use Rattle.feed_rows.specs.PassAt.{AmidAt, HasMarks}
use Rattle.feed_rows.proofs.Amid.{all_marks, begun, ended, names_amid, no_marks, replaced_by}
use Rattle.feed_rows.proofs.Loops.{parted, taken_all, taken_more}
use Rattle.feed_rows.proofs.pass.take_marks.Goals as goal

pub returns-in_default : goal.returns-in_default
returns-in_default c =
    let e = c.args.entry.now in
    let es = reverse c.args.older.now in
    let viewer = c.args.viewer.now in
    let law = c.currents.ensures.unwritten in
    let none : as_sync e ≡ None = sym c.as_sync.ensures ∙ ap (option_map replacement_in) c.in_default.is in
    ended law e es viewer c.args.pass.now [] (no_marks e c.requires.unwritten none) (begun law e es viewer c.args.pass.now c.requires.known)

pub loop-mark-init : goal.loop-mark-init
loop-mark-init c = begun c.currents.ensures.unwritten c.args.entry.now (reverse c.args.older.now) c.args.viewer.now c.args.pass.now c.requires.known

pub take_mark-requires-clause-places : goal.take_mark-requires-clause-places
take_mark-requires-clause-places c =
    let e = c.args.entry.now in
    let es = reverse c.args.older.now in
    let known = c.loop-mark.invariant in
    subst (λ (names : List (List ℕ)). IsIndex names c.loop-mark.pass.places)
    (sym (names_amid e es c.args.viewer.now c.loop-mark.pass (take c.loop-mark.mark-index c.as_slice-marks.result.now) known)) known.places

pub loop-mark-preserved : goal.loop-mark-preserved
loop-mark-preserved c =
    let e = c.args.entry.now in
    let es = reverse c.args.older.now in
    let marks = c.as_slice-marks.result.now in
    let i = c.loop-mark.mark-index in
    let m = c.mark-item.result in
    let within : i < length marks = omega arith in
    let sync : as_sync e ≡ Some (replaced_by c.in-Some.sync.text.now marks) =
    sym c.as_sync.ensures ∙ ap (option_map replacement_in) c.in-Some.is ∙ ap (λ (l : List Mark). Some (replaced_by c.in-Some.sync.text.now l)) (sym c.as_slice-marks.ensures) in
    let has : HasMarks e (take i marks ++ m ∷ drop (i + 1) marks) =
    subst (HasMarks e) (parted marks i m within c.mark-item.is) (all_marks e (replaced_by c.in-Some.sync.text.now marks) c.requires.unwritten sync) in
    subst (λ (l : List Mark). AmidAt l e es c.args.viewer.now c.take_mark.new.pass) (sym (taken_more marks i m within c.mark-item.is))
    (c.take_mark.ensures e es (take i marks) (drop (i + 1) marks) (ap (λ (n : ℕ). n + 1) (sym (length-reverse c.args.older.now))) c.requires.viewer has c.loop-mark.invariant)

pub returns : goal.returns
returns c =
    let e = c.args.entry.now in
    let es = reverse c.args.older.now in
    let marks = c.as_slice-marks.result.now in
    let i = c.loop-mark.mark-index in
    let sync : as_sync e ≡ Some (replaced_by c.in-Some.sync.text.now marks) =
    sym c.as_sync.ensures ∙ ap (option_map replacement_in) c.in-Some.is ∙ ap (λ (l : List Mark). Some (replaced_by c.in-Some.sync.text.now l)) (sym c.as_slice-marks.ensures) in
    let all : length marks ≤ i = omega arith in
    ended c.currents.ensures.unwritten e es c.args.viewer.now c.loop-mark.pass marks
    (all_marks e (replaced_by c.in-Some.sync.text.now marks) c.requires.unwritten sync)
    (subst (λ (l : List Mark). AmidAt l e es c.args.viewer.now c.loop-mark.pass) (taken_all marks i all) c.loop-mark.invariant)
