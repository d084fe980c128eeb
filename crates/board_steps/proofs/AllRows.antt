-- The answers by look-up are those of the definition.
use Rattle.std.proofs.Common.{◌≡◌, ◌<◌, ℕ, zero, suc, arith, get_or, refl, sym, ◌∙◌, ap, Bool, true, false, ◌&&◌, nat_eq, if◌then◌else◌, List, [], ◌∷◌, length, map, reverse, Option, Some, None}
use Rattle.std.specs.Prelude.{is_none, nat_lt, option_map, ◌||◌}
use Rattle.std.proofs.Math.Path.{fun_ext}
use Rattle.std.proofs.Math.Seq.{take-length}
use Rattle.std.specs.List.{list_any}
use Rattle.sg_history.specs.declared.entries.Entry.{Entry}
use Rattle.sg_history.specs.declared.entries.Write.{Write}
use Rattle.sg_history.specs.declared.row.Row.{Row}
use Rattle.sg_history.specs.Current.{Current, Sequenced, current, last_write, winning_of, write_alone}
use Rattle.sg_history.specs.Feed.{changed, row_of}
use Rattle.sg_history.specs.History.{among, past}
use Rattle.sg_history.specs.Principals.{has_channel}
use Rattle.sg_history.specs.View.{Shown, every, passes, same_view, view, view_of}
use Rattle.rev_tree.specs.declared.tree.Node.{Node}
use Rattle.doc_board.specs.State.{State, tree_on}
use Rattle.repl_messages.specs.declared.looks.Body.{Body}
use Rattle.repl_messages.specs.declared.looks.Body.TheVariants as body
use Rattle.repl_messages.specs.Looks.{winner_after, winning_write, said_by, left_by_write, body_with, body_of}
use Rattle.log_views.specs.States.{winning, view_by}
use Rattle.grant_history.specs.declared.periods.Period.{Period}
use Rattle.feed_rows.specs.LastChange.{place_by}
use Rattle.board_steps.specs.inner.ByLook.{LooksIn, answer, looked}
use Rattle.board_steps.specs.declared.bodies.Look.{Look}
use Rattle.board_steps.proofs.RowsSay.{place_now}

-- the answer for one row by what is looked up is the definition's
module _ (es : List Entry) (user : List ℕ) (filter : Option (List (List ℕ))) (most : ℕ) where
  view_same : (has : List ℕ → Bool) → ((c : List ℕ) → has c ≡ has_channel es user c) → (o : Option Current) → view_by has filter o ≡ view_of es user filter o
  view_same has same None = refl
  view_same has same (Some c) =
      ap (λ (f : List ℕ → Bool). if list_any f (every ∷ c.effects.channels) && passes filter (every ∷ c.effects.channels) then Some (record { seq = c.seq; rev = c.rev; deleted = c.deleted }) else None) (fun_ext same)

  winner_same : (doc : List ℕ) (o : Option Sequenced) → write_alone (option_map (winning_of es doc) o) ≡ winner_after es doc o
  winner_same doc None = refl
  winner_same doc (Some last) = refl

  still_gone : (left none at positive : Bool) → ((left && positive && at) && none) ≡ (left && none && at && positive)
  still_gone false none at positive = refl
  still_gone true true true true = refl
  still_gone true true true false = refl
  still_gone true true false true = refl
  still_gone true true false false = refl
  still_gone true false true true = refl
  still_gone true false true false = refl
  still_gone true false false true = refl
  still_gone true false false false = refl

  pub answered : (trees : List ℕ → List Node) (has : List ℕ → Bool) → ((c : List ℕ) → has c ≡ has_channel es user c) → (row : Row)
      → answer (view_by has filter (current es row.doc)) (trees row.doc) (write_alone (winning es row.doc)) (left_by_write row.bits && nat_lt 0 row.key.by && nat_eq (place_by (row_of es user filter row.doc)) row.key.by) most row ≡ body_of es trees user filter most row
  answered trees has same row =
      ap (λ (s : Option Shown). answer s (trees row.doc) (write_alone (winning es row.doc)) (left_by_write row.bits && nat_lt 0 row.key.by && nat_eq (place_by (row_of es user filter row.doc)) row.key.by) most row) (view_same has same (current es row.doc))
      ∙ ap (λ (w : Option Write). answer (view es user filter row.doc) (trees row.doc) w (left_by_write row.bits && nat_lt 0 row.key.by && nat_eq (place_by (row_of es user filter row.doc)) row.key.by) most row) (winner_same row.doc (last_write es row.doc))
      ∙ ap (λ (n : ℕ). answer (view es user filter row.doc) (trees row.doc) (winning_write es row.doc) (left_by_write row.bits && nat_lt 0 row.key.by && nat_eq n row.key.by) most row) (place_now es user filter row.doc)
      ∙ ap (λ (gone : Bool). if same_view (view es user filter row.doc) (Some (said_by row)) then body_with (trees row.doc) most (winning_write es row.doc) else (if gone then body.Removed else body.NoRev))
      (still_gone (left_by_write row.bits) (is_none (view es user filter row.doc)) (nat_eq (length (changed es user filter row.doc)) row.key.by) (nat_lt 0 row.key.by))

-- the answers for all rows
module _ (board : State) (user : List ℕ) (filter : Option (List (List ℕ))) (periods : List Period) (look : Look) (most : ℕ) (in_it : LooksIn board user filter periods look) where
  abbrev by : List Entry → State → Option (List (List ℕ)) → List ℕ → Option (List (List ℕ)) → Row → Body
  by entries b f u through row =
      answer (view_by (λ c. among look.channels c) f (current (reverse entries) row.doc)) (tree_on b row.doc) (write_alone (winning (reverse entries) row.doc))
      (left_by_write row.bits && nat_lt 0 row.key.by && nat_eq (place_by (row_of (reverse entries) u through row.doc)) row.key.by) most row

  one : (row : Row) → looked look most row ≡ body_of (reverse board.log) (tree_on board) user filter most row
  one row =
      ap (λ (entries : List Entry). by entries look.board.now look.filter.now look.viewer.user.now look.viewer.filter.now row) in_it.entries
      ∙ ap (λ (b : State). by board.log b look.filter.now look.viewer.user.now look.viewer.filter.now row) in_it.board_is
      ∙ ap (λ (f : Option (List (List ℕ))). by board.log board f look.viewer.user.now look.viewer.filter.now row) in_it.filter_is
      ∙ ap (λ (u : List ℕ). by board.log board filter u look.viewer.filter.now row) in_it.of_user
      ∙ ap (λ (f : Option (List (List ℕ))). by board.log board filter user f row) in_it.by_filter
      ∙ answered (reverse board.log) user filter most (tree_on board) (λ c. among look.channels c) in_it.channels row

  pub bodies_are : (rows : List Row) → map (looked look most) rows ≡ map (body_of (reverse board.log) (tree_on board) user filter most) rows
  bodies_are [] = refl
  bodies_are (row ∷ rows) =
      ap (λ (b : Body). b ∷ map (looked look most) rows) (one row)
      ∙ ap (λ (bodies : List Body). body_of (reverse board.log) (tree_on board) user filter most row ∷ bodies) (bodies_are rows)

-- all entries of a log are those up to its length
pub whole : (entries : List Entry) → past entries (length entries) ≡ reverse entries
whole entries = ap (λ (l : List Entry). reverse l) (take-length entries)

-- a row that says that its document left is one of these
pub one_left : (rows : List Row) (i : ℕ) (row : Row) → i < length rows → row ≡ get_or rows i row → left_by_write row.bits ≡ true → list_any (λ r. left_by_write r.bits) rows ≡ true
one_left [] i row high is left = absurd (omega (arith, high))
one_left (x ∷ rows) zero row high is left = ap (λ (r : Row). left_by_write r.bits || list_any (λ r. left_by_write r.bits) rows) (sym is) ∙ ap (λ (b : Bool). b || list_any (λ r. left_by_write r.bits) rows) left
one_left (x ∷ rows) (suc i) row high is left = or_right (left_by_write x.bits) (one_left rows i row (omega (arith, high)) is left)
  where
    or_right : (a : Bool) {b : Bool} → b ≡ true → (a || b) ≡ true
    or_right true h = refl
    or_right false h = h
