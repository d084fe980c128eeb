-- Which answers are given for a row.
use Rattle.std.proofs.Common.{arith, ◌≡◌, ℕ, refl, sym, ◌∙◌, ap, Bool, true, false, ◌&&◌, nat_eq, if◌then◌else◌, List, length, Option, Some, None, IsTrue}
use Rattle.std.specs.Prelude.{is_none, nat_lt, ◌≤◌}
use Rattle.std.proofs.lemmas.Bool.{false≢true, and_parts, and_from, eqb-true, lt-ltb, ltb-true}
use Rattle.std.proofs.lemmas.Option.{none-some, same_Some}
use Rattle.sg_names.specs.declared.rev_id.RevId.{RevId}
use Rattle.sg_history.specs.declared.entries.Entry.{Entry}
use Rattle.sg_history.specs.declared.entries.Write.{Write}
use Rattle.sg_history.specs.declared.row.Row.{Row}
use Rattle.rev_tree.specs.declared.tree.Node.{Node}
use Rattle.rev_tree.specs.Tree.{ancestors_of}
use Rattle.sg_history.specs.Current.{Current, current}
use Rattle.sg_history.specs.View.{Shown, view, is_shown}
use Rattle.sg_history.specs.Feed.{changed}
use Rattle.repl_messages.specs.declared.looks.Body.{Body}
use Rattle.repl_messages.specs.declared.looks.Body.TheVariants as body
use Rattle.repl_messages.specs.Looks.{winning_write, said_by, is_still_shown, is_still_gone, left_by_write, body_with, body_of}
use Rattle.board_steps.proofs.Same.{same_views, view_itself, number_itself}
use Rattle.board_steps.proofs.RowsSay.{seen}
use Rattle.board_steps.proofs.Winners.{winner_names, current_winner}

abbrev chosen : Bool → Bool → List Node → ℕ → Option Write → Body
chosen shown gone tree most o = if shown then body_with tree most o else (if gone then body.Removed else body.NoRev)

rev_chosen : (shown gone : Bool) (tree : List Node) (most : ℕ) (o : Option Write) (ancestors : List RevId) (bytes : List ℕ) → chosen shown gone tree most o ≡ body.Rev ancestors bytes → (shown ≡ true) × ((w : Write) × (o ≡ Some w) × (ancestors ≡ ancestors_of tree w.rev most) × (bytes ≡ w.body))
rev_chosen true gone tree most None ancestors bytes h = absurd (cc)
rev_chosen true gone tree most (Some w) ancestors bytes h = (refl, (w, refl, cc, cc))
rev_chosen false true tree most o ancestors bytes h = absurd (cc)
rev_chosen false false tree most o ancestors bytes h = absurd (cc)

removed_chosen : (shown gone : Bool) (tree : List Node) (most : ℕ) (o : Option Write) → chosen shown gone tree most o ≡ body.Removed → (shown ≡ false) × (gone ≡ true)
removed_chosen true gone tree most None h = absurd (cc)
removed_chosen true gone tree most (Some w) h = absurd (cc)
removed_chosen false true tree most o h = (refl, refl)
removed_chosen false false tree most o h = absurd (cc)

module _ (es : List Entry) (trees : List ℕ → List Node) (user : List ℕ) (filter : Option (List (List ℕ))) (most : ℕ) (row : Row) where
  abbrev Answers : Body → Type 0
  Answers answer = body_of es trees user filter most row ≡ answer

  of_rev : (ancestors : List RevId) (bytes : List ℕ) → Answers (body.Rev ancestors bytes) → (is_still_shown es user filter row ≡ true) × ((w : Write) × (winning_write es row.doc ≡ Some w) × (ancestors ≡ ancestors_of (trees row.doc) w.rev most) × (bytes ≡ w.body))
  of_rev ancestors bytes h = rev_chosen (is_still_shown es user filter row) (is_still_gone es user filter row) (trees row.doc) most (winning_write es row.doc) ancestors bytes h

  pub rev_shown : (ancestors : List RevId) (bytes : List ℕ) → Answers (body.Rev ancestors bytes) → view es user filter row.doc ≡ Some (said_by row)
  rev_shown ancestors bytes h = same_views _ _ (of_rev ancestors bytes h).0

  pub rev_granted : (ancestors : List RevId) (bytes : List ℕ) → Answers (body.Rev ancestors bytes) → (c : Current) × (current es row.doc ≡ Some c) × IsTrue (is_shown es user filter c)
  rev_granted ancestors bytes h =
      let x = seen es user filter (current es row.doc) (said_by row) (rev_shown ancestors bytes h) in
      (x.0, x.1, x.2)

  pub rev_winner : (ancestors : List RevId) (bytes : List ℕ) → Answers (body.Rev ancestors bytes) → (w : Write) × (winning_write es row.doc ≡ Some w) × (w.doc ≡ row.doc) × (w.rev ≡ row.rev) × (ancestors ≡ ancestors_of (trees row.doc) w.rev most) × (bytes ≡ w.body)
  rev_winner ancestors bytes h =
      let x = of_rev ancestors bytes h in
      let w = x.1.0 in
      let y = seen es user filter (current es row.doc) (said_by row) (rev_shown ancestors bytes h) in
      let z = current_winner es row.doc y.0 y.1 in
      let one : z.0.write ≡ w = same_Some z.0.write w (sym z.1 ∙ x.1.1) in
      let rev : w.rev ≡ row.rev = sym (ap (λ (v : Write). v.rev) one) ∙ sym (ap (λ (c : Current). c.rev) z.2) ∙ sym (ap (λ (s : Shown). s.rev) y.3) in
      (w, x.1.1, winner_names es row.doc w x.1.1, rev, x.1.2, x.1.3)

  pub shown_rev : view es user filter row.doc ≡ Some (said_by row) → (w : Write) × (winning_write es row.doc ≡ Some w) × Answers (body.Rev (ancestors_of (trees row.doc) w.rev most) w.body)
  shown_rev h =
      let y = seen es user filter (current es row.doc) (said_by row) h in
      let z = current_winner es row.doc y.0 y.1 in
      let same : is_still_shown es user filter row ≡ true = rw h (view_itself (Some (said_by row))) in
      (z.0.write, z.1, go (is_still_shown es user filter row) (winning_write es row.doc) same z.0.write z.1)
    where
      go : (b : Bool) (o : Option Write) → b ≡ true → (w : Write) → o ≡ Some w → chosen b (is_still_gone es user filter row) (trees row.doc) most o ≡ body.Rev (ancestors_of (trees row.doc) w.rev most) w.body
      go true None e w h = absurd (none-some _ h)
      go true (Some v) e w h = let same : v ≡ w = same_Some v w h in ap (λ (x : Write). body_with (trees row.doc) most (Some x)) same
      go false o e w h = absurd (false≢true e)

  none_is : (o : Option Shown) → is_none o ≡ true → o ≡ None
  none_is None h = refl
  none_is (Some s) h = absurd (false≢true h)

  removed_parts : Answers body.Removed → IsTrue (left_by_write row.bits && is_none (view es user filter row.doc) && nat_eq (length (changed es user filter row.doc)) row.key.by) × IsTrue (nat_lt 0 row.key.by)
  removed_parts h =
      and_parts (left_by_write row.bits && is_none (view es user filter row.doc) && nat_eq (length (changed es user filter row.doc)) row.key.by) (nat_lt 0 row.key.by)
      (removed_chosen (is_still_shown es user filter row) (is_still_gone es user filter row) (trees row.doc) most (winning_write es row.doc) h).1

  pub removed_gone : Answers body.Removed → IsTrue (left_by_write row.bits) × (view es user filter row.doc ≡ None) × (length (changed es user filter row.doc) ≡ row.key.by)
  removed_gone h =
      let parts = and_parts (left_by_write row.bits && is_none (view es user filter row.doc)) (nat_eq (length (changed es user filter row.doc)) row.key.by) (removed_parts h).0 in
      let first = and_parts (left_by_write row.bits) (is_none (view es user filter row.doc)) parts.0 in
      (first.0, none_is (view es user filter row.doc) first.1, eqb-true (length (changed es user filter row.doc)) row.key.by parts.1)

  pub removed_by : Answers body.Removed → 1 ≤ row.key.by
  removed_by h = omega (arith, ltb-true 0 row.key.by (removed_parts h).1)

  pub gone_removed : IsTrue (left_by_write row.bits) → view es user filter row.doc ≡ None → length (changed es user filter row.doc) ≡ row.key.by → 1 ≤ row.key.by → Answers body.Removed
  gone_removed left none same positive =
      let hidden : is_none (view es user filter row.doc) ≡ true = rw none refl in
      let by : nat_eq (length (changed es user filter row.doc)) row.key.by ≡ true = rw same (number_itself row.key.by) in
      let gone : is_still_gone es user filter row ≡ true =
      and_from (left_by_write row.bits && is_none (view es user filter row.doc) && nat_eq (length (changed es user filter row.doc)) row.key.by) _
      (and_from (left_by_write row.bits && is_none (view es user filter row.doc)) _ (and_from (left_by_write row.bits) _ left hidden) by) (lt-ltb 0 row.key.by (omega (arith, positive))) in
      let other : is_still_shown es user filter row ≡ false = rw none refl in
      go (is_still_shown es user filter row) (is_still_gone es user filter row) other gone
    where
      go : (a b : Bool) → a ≡ false → b ≡ true → chosen a b (trees row.doc) most (winning_write es row.doc) ≡ body.Removed
      go true b e h = absurd (false≢true (sym e))
      go false true e h = refl
      go false false e h = absurd (false≢true h)
