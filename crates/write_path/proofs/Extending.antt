-- a board's log goes on
use Rattle.std.proofs.Common.{◌≡◌, ◌⊎◌, inl, inr, ℕ, ◌+◌, Bool, true, false, List, [], ◌∷◌, ◌++◌, length, if◌then◌else◌, Option, refl, sym, ap, ◌∙◌, subst}
use Rattle.std.specs.Prelude.{nat_eq}
use Rattle.std.proofs.lemmas.List.{append_assoc, append-nil}
use Rattle.sg_history.specs.declared.book.Waiting.{Waiting}
use Rattle.sg_history.specs.declared.entries.Entry.{Entry}
use Rattle.sg_history.specs.declared.number.Number.{Number}
use Rattle.sg_history.specs.History.{Extends}
use Rattle.sg_history.specs.World.{Released, release}
use Rattle.repl_messages.specs.declared.revision.Revision.{Revision}
use Rattle.sync_syntax.specs.declared.tree.Program.{Program}
use Rattle.doc_board.specs.declared.room.Room.{Room}
use Rattle.doc_board.specs.State.{State}
use Rattle.doc_board.specs.Steps.{history_on}
use Rattle.board_steps.specs.declared.retry.Retried.{Retried}
use Rattle.board_steps.specs.declared.retry.Retried.TheVariants as retried
use Rattle.board_steps.specs.Retry.{IsSpent, IsTriedAgain}
use Rattle.board_steps.specs.Tried.{IsTried}

-- the same log, and one with an entry more
pub same_log : (earlier later : List Entry) → later ≡ earlier → Extends earlier later
same_log earlier later same = ([], same ∙ sym (append-nil earlier))

one_more : (earlier later : List Entry) (e : Entry) → later ≡ earlier ++ e ∷ [] → Extends earlier later
one_more earlier later e more = (e ∷ [], more)

-- what was released stands behind what was there
released : (log : List Entry) (pending : List Waiting) → Extends log (release log pending).log
released log [] = same_log log log refl
released log (first ∷ others) = go (nat_eq first.number (length log + 1)) (released (log ++ first.entry ∷ []) others)
  where
    go : (b : Bool) → Extends (log ++ first.entry ∷ []) (release (log ++ first.entry ∷ []) others).log → Extends log (if b then release (log ++ first.entry ∷ []) others else record { log = log; pending = first ∷ others }).log
    go true rest = (first.entry ∷ rest.0, rest.1 ∙ append_assoc log (first.entry ∷ []) rest.0)
    go false rest = same_log log log refl

pub by_release : (s t : State) (pending : List Waiting) → history_on t ≡ release s.log pending → Extends s.log t.log
by_release s t pending is = let on = released s.log pending in (on.0, ap (λ (r : Released). r.log) is ∙ on.1)

-- what a number that was held has then
spent_extends : (s t : State) (room : Room) (number : Number) (e : Entry) → IsSpent s t room number e → Extends s.log t.log
spent_extends s t room number e spent = by_release s t _ spent.stored

again_extends : (s t : State) (program : Program) (strict : Bool) (by : Option (List ℕ)) (r : Revision) (room : Room) (number : Number) (result : Retried) → IsTriedAgain s t program strict by r room number result → Extends s.log t.log
again_extends s t program strict by r room number (retried.Answered answer) (inl again) = spent_extends s t room number _ again.spent
again_extends s t program strict by r room number (retried.Answered answer) (inr down) = spent_extends s t room number _ down.spent
again_extends s t program strict by r room number (retried.Overtaken given held ready) back = same_log s.log t.log back.2.same.log

pub tried_extends : (judged s t : State) (program : Program) (strict : Bool) (by : Option (List ℕ)) (r : Revision) (room : Room) (number : Number) (result : Retried) → IsTried judged s t program strict by r room number result → Extends s.log t.log
tried_extends judged s t program strict by r room number (retried.Answered answer) (inl first) = spent_extends s t room number _ first.spent
tried_extends judged s t program strict by r room number (retried.Answered answer) (inr again) = again_extends s t program strict by r room number (retried.Answered answer) again
tried_extends judged s t program strict by r room number (retried.Overtaken given held ready) again = again_extends s t program strict by r room number (retried.Overtaken given held ready) again
