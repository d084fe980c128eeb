use Rattle.std.proofs.Common.{◌≡◌, ℕ, ap, subst, List, option_map, reverse, IfOk, Option}
use Rattle.std.specs.Option.{option_copied}
use Rattle.sg_history.specs.declared.entries.Entry.{Entry}
use Rattle.sg_history.specs.declared.entries.Write.{Write}
use Rattle.rev_tree.specs.declared.tree.Node.{Node}
use Rattle.sg_history.specs.Book.{book_with}
use Rattle.rev_tree.specs.Documents.{deletes, last_in, tree_in, base_in}
use Rattle.doc_board.specs.Answers.{IsStep, proposer_exists}
use Rattle.doc_board.specs.Contexts.{IsContext}
use Rattle.doc_board.specs.State.{top_of}
use Rattle.doc_board.proofs.SameOn.{same_on}
use Rattle.doc_board.proofs.board.Board.snapshot.Goals as goal

pub returns-clause-last : goal.returns-clause-last
returns-clause-last c =
    let is = same_on (λ log ws. last_in (book_with log ws) (top_of log ws) c.args.revision.now.doc) c.args.self.now c.apply_grants.new.self c.apply_grants.ensures.log c.apply_grants.ensures.pending in
    subst (λ (n : ℕ). IfOk c.snapshot_in.result (λ s. s.last ≡ n)) is c.snapshot_in.ensures.last

pub returns-clause-step : goal.returns-clause-step
returns-clause-step c =
    let is = same_on (λ log ws. tree_in (book_with log ws) (top_of log ws) c.args.revision.now.doc) c.args.self.now c.apply_grants.new.self c.apply_grants.ensures.log c.apply_grants.ensures.pending in
    subst (λ (t : List Node). IfOk c.snapshot_in.result (λ s. IsStep t c.args.revision.now c.args.strict s.step)) is c.snapshot_in.ensures.step

pub returns-clause-old : goal.returns-clause-old
returns-clause-old c =
    let is = same_on (λ log ws. base_in (book_with log ws) (top_of log ws) c.args.revision.now.doc c.args.revision.now.ancestors) c.args.self.now c.apply_grants.new.self c.apply_grants.ensures.log c.apply_grants.ensures.pending in
    subst (λ (o : Option Write). IfOk c.snapshot_in.result (λ s. s.old ≡ option_map (λ w. w.body) o)) is c.snapshot_in.ensures.old

pub returns-clause-old_deleted : goal.returns-clause-old_deleted
returns-clause-old_deleted c =
    let is = same_on (λ log ws. base_in (book_with log ws) (top_of log ws) c.args.revision.now.doc c.args.revision.now.ancestors) c.args.self.now c.apply_grants.new.self c.apply_grants.ensures.log c.apply_grants.ensures.pending in
    subst (λ (o : Option Write). IfOk c.snapshot_in.result (λ s. s.old_deleted ≡ deletes o)) is c.snapshot_in.ensures.old_deleted

pub returns-clause-user : goal.returns-clause-user
returns-clause-user c =
    subst (λ (es : List Entry). IfOk c.snapshot_in.result (λ s. s.user_exists ≡ proposer_exists es (option_copied c.args.by))) (ap (λ (es : List Entry). reverse es) c.apply_grants.ensures.log) c.snapshot_in.ensures.user

pub returns-clause-context : goal.returns-clause-context
returns-clause-context c =
    subst (λ (es : List Entry). IfOk c.snapshot_in.result (λ s. IsContext es (option_copied c.args.by) s.context)) (ap (λ (es : List Entry). reverse es) c.apply_grants.ensures.log) c.snapshot_in.ensures.context
