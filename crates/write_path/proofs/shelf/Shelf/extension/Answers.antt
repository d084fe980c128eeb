use Rattle.std.proofs.Common.{subst}
use Rattle.std.specs.Option.{option_copied}
use Rattle.write_path.specs.Shelf.{Shelved}
use Rattle.board_steps.specs.Tried.{IsJudgedAt}
use Rattle.write_path.proofs.shelf.Shelf.extension.Goals as goal

pub returns-clause-judged : goal.returns-clause-judged
returns-clause-judged c =
    subst (λ (v : Shelved). IsJudgedAt v.board c.args.strict (option_copied c.args.by) c.args.revision.now c.extension_of.result) c.self.view_is (record {
      extends = c.extension_of.ensures.extends;
      judged = c.extension_of.ensures.judged;
      stopped = c.extension_of.ensures.stopped;
      entries = c.extension_of.ensures.entries;
      writes = c.extension_of.ensures.writes;
    })
