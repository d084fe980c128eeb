use Rattle.std.proofs.Common.{◌∙◌, ◌+◌, ◌++◌, sym, ap, arith, drop, length, List, append_assoc}
use Rattle.std.proofs.lemmas.List.{append-nil, drop_all}
use Rattle.sg_history.specs.declared.entries.Mark.{Mark}
use Rattle.grant_history.specs.declared.states.NewState.{NewState}
use Rattle.grant_history.specs.NewStates.{by_mark, by_marks, state_of}
use Rattle.grant_tracks.proofs.Gathered.{split}
use Rattle.grant_history.proofs.states.states_marked.Goals as goal

pub loop-i-preserved : goal.loop-i-preserved
loop-i-preserved c =
    let index = c.args.index.now in
    let marks = c.args.marks.now in
    let i = c.loop-i.i in
    let m = c.index-marks-i.result in
    let before = c.loop-i.list.items in
    ap (λ (l : List NewState). l ++ by_marks index (drop (i + 1) marks) (i + 1)) c.in_ok-add_marked.ensures
    ∙ append_assoc before (by_mark (state_of index m.doc) (length index) i) (by_marks index (drop (i + 1) marks) (i + 1))
    ∙ ap (λ (l : List Mark). before ++ by_marks index l i) (split marks i m (omega arith) c.index-marks-i.is)
    ∙ c.loop-i.invariant

pub returns : goal.returns
returns c =
    let index = c.args.index.now in
    let i = c.loop-i.i in
    let built = c.loop-i.list.items in
    sym (ap (λ (l : List Mark). built ++ by_marks index l i) (drop_all i c.args.marks.now (omega (arith, c.loop-i-test.false))) ∙ append-nil built)
    ∙ c.loop-i.invariant
