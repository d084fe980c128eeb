-- What is answered for a row, by what is looked up of its document. Only proofs need this.
use Rattle.std.specs.Prelude.{◌≡◌, ℕ, Bool, ◌&&◌, nat_eq, nat_lt, is_none, List, length, reverse, Option, Some, if◌then◌else◌}
use Rattle.sg_history.specs.declared.entries.Write.{Write}
use Rattle.sg_history.specs.declared.row.Row.{Row}
use Rattle.sg_history.specs.Current.{current, write_alone}
use Rattle.sg_history.specs.History.{among, past}
use Rattle.sg_history.specs.Principals.{has_channel}
use Rattle.sg_history.specs.View.{Shown, same_view}
use Rattle.rev_tree.specs.declared.tree.Node.{Node}
use Rattle.doc_board.specs.State.{State, tree_on}
use Rattle.repl_messages.specs.declared.looks.Body.{Body}
use Rattle.repl_messages.specs.declared.looks.Body.TheVariants as body
use Rattle.repl_messages.specs.Looks.{said_by, left_by_write, body_with}
use Rattle.log_index.specs.Index.{Indexes}
use Rattle.log_views.specs.States.{winning, view_by}
use Rattle.log_views.specs.Sorted.{AreSorted}
use Rattle.grant_history.specs.declared.periods.Period.{Period}
use Rattle.grant_history.specs.Periods.{AreInOrder, ArePeriods}
use Rattle.feed_rows.specs.LastChange.{place_in}
use Rattle.feed_rows.specs.PassAt.{IsViewer}
use Rattle.board_steps.specs.declared.bodies.Look.{Look}

-- what is answered for a row, by what is shown of its document, its tree, the winner's write, and
-- whether the document left by a write and did not change since
abbrev pub answer : Option Shown → List Node → Option Write → Bool → ℕ → Row → Body
answer shown tree winner gone most row =
    if same_view shown (Some (said_by row))
    then body_with tree most winner
    else (if gone && is_none shown then body.Removed else body.NoRev)

-- whether the row says that its document left by a write, and that is its last change, which is not at 0
abbrev pub is_gone : Look → Row → Bool
is_gone look row =
    left_by_write row.bits && nat_lt 0 row.key.by
    && nat_eq (place_in (reverse look.entries.now) look.viewer row.doc) row.key.by

-- the answer by look-up
abbrev pub looked : Look → ℕ → Row → Body
looked look most row =
    answer (view_by (λ c. among look.channels c) look.filter.now (current (reverse look.entries.now) row.doc))
    (tree_on look.board.now row.doc) (write_alone (winning (reverse look.entries.now) row.doc))
    (is_gone look row) most row

-- bodies are looked up in this board, by an index of its log and the user's channels in their order, for a user and a filter; where these are the periods of the
-- user's channels, by these
pub record LooksIn (board : State) (user : List ℕ) (filter : Option (List (List ℕ))) (periods : List Period) (look : Look) : Type 0 where
  pub index : Indexes look.index.now (reverse board.log)
  pub board_is : look.board.now ≡ board
  pub entries : look.entries.now ≡ board.log
  pub sorted : AreSorted look.channels
  pub channels : (c : List ℕ) → among look.channels c ≡ has_channel (reverse board.log) user c
  pub filter_is : look.filter.now ≡ filter
  pub of_user : look.viewer.user.now ≡ user
  pub by_filter : look.viewer.filter.now ≡ filter
  pub viewer : ArePeriods periods (λ c k. has_channel (past board.log k) user c) (length board.log) → AreInOrder periods → IsViewer look.viewer (reverse board.log)
