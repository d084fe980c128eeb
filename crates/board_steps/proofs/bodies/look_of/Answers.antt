use Rattle.std.proofs.Common.{◌∙◌, refl, subst, ap, arith, ℕ, List, length}
use Rattle.sg_history.specs.declared.entries.Entry.{Entry}
use Rattle.sg_history.specs.History.{past}
use Rattle.sg_history.specs.Principals.{has_channel}
use Rattle.feed_rows.specs.PassAt.{IsViewer}
use Rattle.board_steps.proofs.AllRows.{whole}
use Rattle.board_steps.proofs.bodies.look_of.Goals as goal

pub returns : goal.returns
returns c =
    let log = c.args.board.now.log in
    record {
      index = c.index.ensures.whole log c.requires.stands c.requires.applied;
      board_is = refl;
      entries = c.as_slice.ensures ∙ c.log.ensures.log;
      sorted = c.in_ok-channels.ensures.sorted;
      channels = λ name. c.in_ok-channels.ensures.channels log c.requires.stands name
          ∙ ap (λ (n : ℕ). has_channel (past log n) c.args.user.now name) (c.applied.ensures ∙ c.requires.applied)
          ∙ ap (λ (es : List Entry). has_channel es c.args.user.now name) (whole log);
      filter_is = refl;
      of_user = c.viewer_of.ensures.user;
      by_filter = c.viewer_of.ensures.filter;
      viewer = λ periods order. subst (λ (es : List Entry). IsViewer c.viewer_of.result es) (whole log) (c.viewer_of.ensures.viewer log (length log) (length log) (omega arith) (omega arith) periods order);
    }
