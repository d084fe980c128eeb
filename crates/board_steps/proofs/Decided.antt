-- the outcome of a revision by a board, from the steps that judge it
use Rattle.std.proofs.Common.{◌≡◌, ◌≤◌, ◌∙◌, arith, ℕ, Bool, List, length, take, Option, Ok, Err, Some, sym, ap, subst, option_map, IsTrue}
use Rattle.sg_names.specs.declared.rev_id.RevId.{RevId}
use Rattle.sg_names.specs.RevId.{is_rev}
use Rattle.sg_history.specs.declared.entries.Entry.TheVariants as kinds
use Rattle.sg_history.specs.declared.entries.Write.{Write}
use Rattle.sg_history.specs.Journal.{IsEntry}
use Rattle.repl_messages.specs.declared.revision.Revision.{Revision}
use Rattle.rev_tree.specs.declared.extend.Extended.{Extended}
use Rattle.rev_tree.specs.declared.extend.Extended.TheVariants as extended
use Rattle.rev_tree.specs.declared.tree.Node.{Node}
use Rattle.rev_tree.specs.Extension.{extends_tree, verdict_of}
use Rattle.rev_tree.specs.Tree.{winner_of}
use Rattle.rev_tree.specs.Writes.{AreAccepted}
use Rattle.sync_syntax.specs.declared.tree.Program.{Program}
use Rattle.sync_values.specs.declared.fault.Stop.TheVariants as stop
use Rattle.sync_meaning.specs.declared.effects.Effects.{Effects}
use Rattle.sync_meaning.specs.Laws.{AreEffects}
use Rattle.doc_board.specs.declared.outcome.Outcome.{Outcome}
use Rattle.doc_board.specs.declared.outcome.Outcome.TheVariants as outcome
use Rattle.doc_board.specs.declared.snapshot.Snapshot.{Snapshot}
use Rattle.doc_board.specs.Answers.{IsNewTree, IsStep}
use Rattle.doc_board.specs.Boards.{board_of, board_tree}
use Rattle.doc_board.specs.Candidates.{ExtendsTree}
use Rattle.doc_board.specs.Judging.{IsSaid}
use Rattle.doc_board.specs.Lawful.{AreEntries}
use Rattle.doc_board.specs.Outcomes.{IsJudged, IsOutcome, IsWellFormed, effects_in}
use Rattle.doc_board.specs.Recorded.{HasDocument}
use Rattle.doc_board.specs.State.{State, book_on, tree_on, last_on, writes_on}
use Rattle.board_steps.specs.declared.judging.Basis.{Basis}
use Rattle.board_steps.specs.declared.accepted.Accepted.{Accepted}
use Rattle.board_steps.specs.declared.accepted.Judged.{Judged}
use Rattle.board_steps.specs.declared.retry.Ready.{Ready}
use Rattle.board_steps.specs.Accepted.{ArePartsOf, IsAcceptedBy, IsAcceptedOn}
use Rattle.board_steps.specs.Retry.{IsReady, IsTurnedDown}
use Rattle.board_steps.specs.Shape.{IsWritten}
use Rattle.board_steps.specs.Verdicts.{IsBasis, IsDenied, IsDeniedOn, IsExtension, IsExtensionAt, IsSaidOn, IsSnapshot, IsStoppedBy}
use Rattle.board_steps.proofs.Entries.{extends_new, extends_on}
use Rattle.board_steps.proofs.JudgedBy.{said_on}

-- what the law of ancestors says
abbrev pub FewExtend : Type 0
FewExtend = (tree : List Node) (rev : RevId) (ancestors : List RevId) (strict : Bool) → verdict_of tree rev ancestors strict ≡ extends_tree → length ancestors ≤ 1000

-- ---- by a snapshot of a board

module _ (s : State) (strict : Bool) (by : Option (List ℕ)) (r : Revision) (snapshot : Snapshot) (is : IsSnapshot s strict by r snapshot) where
  step_is : (e : Extended) → snapshot.step ≡ e → IsStep (board_tree (board_of s) r.doc) r strict e
  step_is e step = subst (λ (x : Extended). IsStep (board_tree (board_of s) r.doc) r strict x) step is.step

  pub extends_at : FewExtend → (judged : Judged) → IsExtension snapshot judged → IsExtensionAt s by r judged
  extends_at few judged new =
      let step = step_is (extended.NewTree judged.tree judged.kept) new.step in
      record {
        at = new.at ∙ is.at;
        base = new.base ∙ is.last;
        tree = step.1;
        few = omega (arith, step.1.within, few (board_tree (board_of s) r.doc) r.rev r.ancestors strict step.0);
        basis = subst (λ (b : Basis). IsBasis s by r b) (sym new.basis) is.basis;
      }

  pub judged_at : IsWellFormed r → (judged : Judged) → IsExtension snapshot judged → IsJudged strict by r (board_of s) extends_tree judged.at
  judged_at formed judged new =
      record { formed = formed; proposer = sym is.user ∙ new.user; verdict = (step_is (extended.NewTree judged.tree judged.kept) new.step).0; front = new.at ∙ is.at }

  pub stopped : IsWellFormed r → (program : Program) (answer : Outcome) → IsStoppedBy snapshot.at snapshot.user_exists snapshot.step answer → IsOutcome program strict by r (board_of s) answer × IsTurnedDown answer
  stopped formed program (outcome.Bad400 field) h = absurd h
  stopped formed program (outcome.TooLarge413 bytes) h = absurd h
  stopped formed program (outcome.UserGone401 at) (gone, front) =
      (record { formed = formed; gone = sym is.user ∙ gone; front = front ∙ is.at }, tt)
  stopped formed program (outcome.Known at) (exists, step, front) =
      (record { formed = formed; proposer = sym is.user ∙ exists; verdict = step_is extended.Known step; front = front ∙ is.at }, tt)
  stopped formed program (outcome.BadHistory400 at) (exists, step, front) =
      (record { formed = formed; proposer = sym is.user ∙ exists; verdict = step_is extended.BadHistory400 step; front = front ∙ is.at }, tt)
  stopped formed program (outcome.Conflict409 at leaf) (exists, step, front) =
      let said = step_is (extended.Conflict409 leaf) step in
      ((record { formed = formed; proposer = sym is.user ∙ exists; verdict = said.0; front = front ∙ is.at }, said.1), tt)
  stopped formed program (outcome.Denied403 at rule) h = absurd h
  stopped formed program (outcome.Stored sequence at) h = absurd h
  stopped formed program (outcome.Full503 at places) h = absurd h
  stopped formed program (outcome.LogFull509 at entries bytes) h = absurd h
  stopped formed program outcome.Memory507 h = (tt, tt)

-- ---- by what the program says

pub denied_by : (s : State) (program : Program) (by : Option (List ℕ)) (r : Revision) (basis : Basis) (front : ℕ) (answer : Outcome) → IsBasis s by r basis → IsDeniedOn program r basis front answer → IsDenied program by r (board_of s) front answer
denied_by s program by r basis front (outcome.Bad400 field) is h = absurd h
denied_by s program by r basis front (outcome.TooLarge413 bytes) is h = absurd h
denied_by s program by r basis front (outcome.UserGone401 at) is h = absurd h
denied_by s program by r basis front (outcome.Known at) is h = absurd h
denied_by s program by r basis front (outcome.BadHistory400 at) is h = absurd h
denied_by s program by r basis front (outcome.Conflict409 at leaf) is h = absurd h
denied_by s program by r basis front (outcome.Denied403 at rule) is h = (said_on s program by r basis (Err (stop.Deny rule)) is h.0, h.1)
denied_by s program by r basis front (outcome.Stored sequence at) is h = absurd h
denied_by s program by r basis front (outcome.Full503 at places) is h = absurd h
denied_by s program by r basis front (outcome.LogFull509 at entries bytes) is h = absurd h
denied_by s program by r basis front outcome.Memory507 is h = tt

pub memory_denied : (program : Program) (r : Revision) (basis : Basis) (front : ℕ) (answer : Outcome) → answer ≡ outcome.Memory507 → IsDeniedOn program r basis front answer
memory_denied program r basis front answer is = subst (λ (o : Outcome). IsDeniedOn program r basis front o) (sym is) tt

-- ---- a revision that the program accepts

-- what the law of winners says
abbrev pub WinnersNamed : Type 0
WinnersNamed = (s : State) (w : Write) (after : List Node) → AreEntries (book_on s) → AreAccepted (writes_on s w.doc) → ExtendsTree (tree_on s w.doc) w after → IsTrue (is_rev w.rev) → IsTrue (is_rev w.winner)

pub accepted_by : (s : State) (program : Program) (strict : Bool) (by : Option (List ℕ)) (r : Revision) (judged : Judged) (a : Accepted)
    → IsExtensionAt s by r judged → IsJudged strict by r (board_of s) extends_tree judged.at → AreEntries (book_on s) → AreAccepted (writes_on s r.doc)
    → IsAcceptedOn judged a → ArePartsOf by r.body judged.tree a.parts → AreEffects a.effects → IsSaidOn program r judged.basis (Ok a.effects) → IsAcceptedBy s program strict by r a
accepted_by s program strict by r judged a is by_board entries writes on parts effects said = record {
  at = on.at ∙ is.at;
  base = on.base ∙ is.base;
  tree = subst (λ (k : ℕ). IsNewTree (board_tree (board_of s) r.doc) r a.tree k) (sym on.kept)
      (subst (λ (t : List Node). IsNewTree (board_tree (board_of s) r.doc) r t judged.kept) (sym on.tree) is.tree);
  few = omega (arith, on.kept, is.few);
  judged = subst (λ (n : ℕ). IsJudged strict by r (board_of s) extends_tree n) (sym on.at) by_board;
  said = said_on s program by r judged.basis (Ok a.effects) is.basis said;
  effects = effects;
  parts = subst (λ (t : List Node). ArePartsOf by r.body t a.parts) (sym on.tree) parts;
  entries = entries;
  writes = writes;
}

-- the write that was made of it may be stored there
pub ready_by : WinnersNamed → ((t : State) (doc : List ℕ) → board_tree (board_of t) doc ≡ tree_on t doc)
    → (s : State) (program : Program) (strict : Bool) (by : Option (List ℕ)) (r : Revision) (a : Accepted) (c : Ready) → IsAcceptedBy s program strict by r a
    → c.tree ≡ a.tree → c.base ≡ a.base
    → (option_map (λ l. l.rev) (winner_of a.tree) ≡ Some a.parts.winner → IsWritten a.parts.by r a.at a.tree a.kept a.effects c.entry)
    → (IsTrue (is_rev c.entry.winner) → IsEntry (kinds.Write c.entry)) → HasDocument c.entry.body → IsReady s program strict by r c
ready_by winners trees s program strict by r a c acc same_tree same_base written entry document = record {
  judged = subst (λ (n : ℕ). IsJudged strict by r (board_of s) extends_tree n) (sym is.at) acc.judged;
  accepted = (effects_in w, said);
  made = record {
    is_write = record {
      doc = is.doc;
      rev = is.rev;
      ancestors = is.ancestors ∙ ap (λ (k : ℕ). take k r.ancestors) acc.tree.ancestors;
      deleted = is.deleted;
      body = is.body;
      by = is.by;
      at = is.at ∙ acc.at;
      winner = subst (λ (t : List Node). option_map (λ l. l.rev) (winner_of t) ≡ Some w.winner) extends.tree is.winner;
      accepted = said;
    };
    held = record {
      is_entry = entry (winners s w a.tree acc.entries (subst (λ (doc : List ℕ). AreAccepted (writes_on s doc)) (sym is.doc) acc.writes) on
          (subst (λ (rev : RevId). IsTrue (is_rev rev)) (sym is.rev) acc.judged.formed.named.rev));
      document = document;
      at = is.at ∙ acc.at;
      base = same_base ∙ acc.base ∙ ap (λ (doc : List ℕ). last_on s doc) (sym is.doc);
      extends = subst (λ (t : List Node). ExtendsTree (tree_on s w.doc) w t) (sym same_tree) on;
      entries = acc.entries;
    };
  };
}
  where
    w : Write
    w = c.entry

    is : IsWritten by r a.at a.tree a.kept a.effects w
    is = subst (λ (author : Option (List ℕ)). IsWritten author r a.at a.tree a.kept a.effects w) acc.parts.by_is (written acc.parts.winner)

    extends : ExtendsTree (board_tree (board_of s) r.doc) w a.tree
    extends = extends_new (board_tree (board_of s) r.doc) by r a.at a.tree a.kept a.effects w acc.tree acc.few is

    on : ExtendsTree (tree_on s w.doc) w a.tree
    on = extends_on s by r a.at a.tree a.kept a.effects w (trees s r.doc) acc.tree acc.few is

    said : IsSaid program by r (board_of s) (Ok (effects_in w))
    said = subst (λ (e : Effects). IsSaid program by r (board_of s) (Ok e)) (sym is.has_effects) acc.said

-- ---- a revision that it denies

pub denied_at : (s : State) (program : Program) (strict : Bool) (by : Option (List ℕ)) (r : Revision) (front : ℕ) → IsJudged strict by r (board_of s) extends_tree front → (answer : Outcome) → IsDenied program by r (board_of s) front answer → IsOutcome program strict by r (board_of s) answer × IsTurnedDown answer
denied_at s program strict by r front judged (outcome.Bad400 field) h = absurd h
denied_at s program strict by r front judged (outcome.TooLarge413 bytes) h = absurd h
denied_at s program strict by r front judged (outcome.UserGone401 at) h = absurd h
denied_at s program strict by r front judged (outcome.Known at) h = absurd h
denied_at s program strict by r front judged (outcome.BadHistory400 at) h = absurd h
denied_at s program strict by r front judged (outcome.Conflict409 at leaf) h = absurd h
denied_at s program strict by r front judged (outcome.Denied403 at rule) h =
    ((subst (λ (n : ℕ). IsJudged strict by r (board_of s) extends_tree n) (sym h.1) judged, h.0), tt)
denied_at s program strict by r front judged (outcome.Stored sequence at) h = absurd h
denied_at s program strict by r front judged (outcome.Full503 at places) h = absurd h
denied_at s program strict by r front judged (outcome.LogFull509 at entries bytes) h = absurd h
denied_at s program strict by r front judged outcome.Memory507 h = (tt, tt)
