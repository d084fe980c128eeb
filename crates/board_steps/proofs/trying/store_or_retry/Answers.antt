use Rattle.std.proofs.Common.{◌≡◌, ◌∙◌, List, ℕ, inl, sym, ap, arith}
use Rattle.std.specs.Option.{option_copied}
use Rattle.doc_board.specs.declared.outcome.Outcome.TheVariants as outcome
use Rattle.doc_board.specs.State.{State, last_on}
use Rattle.board_steps.specs.Retry.{IsReady}
use Rattle.board_steps.specs.Tried.{WasAccepted}
use Rattle.board_steps.proofs.Triable.{last_ready, may_be_stored}
use Rattle.board_steps.proofs.Decided.{ready_by}
use Rattle.board_steps.proofs.trying.store_or_retry.Goals as goal

pub commit_fresh-sequence-requires-clause-candidate : goal.commit_fresh-sequence-requires-clause-candidate
commit_fresh-sequence-requires-clause-candidate c =
    let judged : State = c.requires.accepted.0 in
    let was : WasAccepted judged c.args.board.now c.args.program.now c.args.strict (option_copied c.args.by) c.args.revision c.args.number.value c.args.accepted = c.requires.accepted.1 in
    let made = c.ready_with-entry.ensures in
    let ready : IsReady judged c.args.program.now c.args.strict (option_copied c.args.by) c.args.revision c.ready_with-entry.result =
    ready_by c.winners.ensures c.boards.ensures.trees judged c.args.program.now c.args.strict (option_copied c.args.by) c.args.revision c.args.accepted c.ready_with-entry.result was.accepted made.tree made.base made.write made.entry made.body in
    let last : last_on c.args.board.now c.ready_with-entry.result.entry.doc ≡ c.ready_with-entry.result.base =
    ap (λ (doc : List ℕ). last_on c.args.board.now doc) ready.made.is_write.doc ∙ sym c.last_write.ensures ∙ omega (arith, c.if-last_write-accepted.true) ∙ sym made.base in
    may_be_stored (record { last = c.boards.ensures.last; trees = c.boards.ensures.trees; later = c.later_boards.ensures.trees }) judged c.args.board.now c.ready_with-entry.result c.args.number.value ready.made.held was.later was.front
    (omega (arith, ready.made.held.base, last_ready judged c.args.program.now c.args.strict (option_copied c.args.by) c.args.revision c.ready_with-entry.result c.args.number.value ready was.above)) last

pub returns-then-last_write-accepted : goal.returns-then-last_write-accepted
returns-then-last_write-accepted c = λ judged was.
    let made = c.ready_with-entry.ensures in
    let ready : IsReady judged c.args.program.now c.args.strict (option_copied c.args.by) c.args.revision c.ready_with-entry.result =
    ready_by c.winners.ensures c.boards.ensures.trees judged c.args.program.now c.args.strict (option_copied c.args.by) c.args.revision c.args.accepted c.ready_with-entry.result was.accepted made.tree made.base made.write made.entry made.body in
    inl (record {
      ready = c.ready_with-entry.result;
      is_ready = ready;
      last = ap (λ (doc : List ℕ). last_on c.args.board.now doc) ready.made.is_write.doc ∙ sym c.last_write.ensures ∙ omega (arith, c.if-last_write-accepted.true) ∙ sym made.base ∙ ready.made.held.base;
      entries = c.log.ensures.entries;
      answered = ap (λ (n : ℕ). outcome.Stored n c.ready_with-entry.result.entry.at) c.commit_fresh-sequence.ensures.sequence;
      spent = record { stored = c.commit_fresh-sequence.ensures.stored; book = c.commit_fresh-sequence.ensures.book; rooms = c.commit_fresh-sequence.ensures.rooms; checkpoints = c.commit_fresh-sequence.ensures.checkpoints };
    })
