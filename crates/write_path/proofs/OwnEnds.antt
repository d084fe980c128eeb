-- a log that ends with the entries that were stored
use Rattle.std.proofs.Common.{◌≡◌, ℕ, List, [], ◌∷◌, ◌++◌, map, Option, Some, sym, ap, ◌∙◌, subst}
use Rattle.std.proofs.lemmas.List.{reverse-append, append_assoc}
use Rattle.sg_history.specs.declared.book.Waiting.{Waiting}
use Rattle.sg_history.specs.declared.entries.Entry.{Entry}
use Rattle.sg_history.specs.declared.entries.Entry.TheVariants as entry
use Rattle.sg_history.specs.Book.{book_of}
use Rattle.repl_messages.specs.declared.revision.Revision.{Revision}
use Rattle.sync_syntax.specs.declared.tree.Program.{Program}
use Rattle.doc_board.specs.declared.outcome.Outcome.{Outcome}
use Rattle.doc_board.specs.declared.outcome.Outcome.TheVariants as outcome
use Rattle.doc_board.specs.State.{State}
use Rattle.board_steps.specs.After.{IsBoardCommanded, IsBoardAfter}
use Rattle.write_path.specs.Own.{own_in_order, own_after, own_before}
use Rattle.write_path.proofs.Proposed.{at_sequence}

-- one entry more at the end of both
one_more : (opened log log' : List Entry) (own : List Waiting) (e : Entry) (sequence : ℕ) → log' ≡ log ++ e ∷ [] → log ≡ opened ++ own_in_order own → log' ≡ opened ++ own_in_order (record { number = sequence; entry = e } ∷ own)
one_more opened log log' own e sequence more ends =
    let last : own_in_order (record { number = sequence; entry = e } ∷ own) ≡ own_in_order own ++ e ∷ [] = reverse-append (e ∷ []) (map (λ (w : Waiting). w.entry) own) in
    more ∙ ap (λ (es : List Entry). es ++ e ∷ []) ends ∙ append_assoc opened (own_in_order own) (e ∷ []) ∙ ap (λ (es : List Entry). opened ++ es) (sym last)

stored_more : (opened : List Entry) (s t : State) (own : List Waiting) (e : Entry) (sequence : ℕ) → t.log ≡ s.log ++ e ∷ [] → book_of t.log sequence ≡ Some e → s.log ≡ opened ++ own_in_order own → t.log ≡ opened ++ own_in_order (own_before (book_of t.log sequence) sequence own)
stored_more opened s t own e sequence log there ends =
    subst (λ (found : Option Entry). t.log ≡ opened ++ own_in_order (own_before found sequence own)) (sym there) (one_more opened s.log t.log own e sequence log ends)

pub ends_proposed : (opened : List Entry) (s t : State) (own : List Waiting) (program : Program) (by : Option (List ℕ)) (r : Revision) (answer : Outcome) → IsBoardAfter s t program by r answer → s.log ≡ opened ++ own_in_order own → t.log ≡ opened ++ own_in_order (own_after own t.log answer)
ends_proposed opened s t own program by r (outcome.Bad400 field) left ends = left.log ∙ ends
ends_proposed opened s t own program by r (outcome.TooLarge413 bytes) left ends = left.log ∙ ends
ends_proposed opened s t own program by r (outcome.UserGone401 at) left ends = left.log ∙ ends
ends_proposed opened s t own program by r (outcome.Known at) left ends = left.log ∙ ends
ends_proposed opened s t own program by r (outcome.BadHistory400 at) left ends = left.log ∙ ends
ends_proposed opened s t own program by r (outcome.Conflict409 at leaf) left ends = left.log ∙ ends
ends_proposed opened s t own program by r (outcome.Denied403 at rule) left ends = left.log ∙ ends
ends_proposed opened s t own program by r (outcome.Stored sequence at) left ends =
    stored_more opened s t own (entry.Write left.write) sequence left.log (at_sequence s t (entry.Write left.write) sequence left.log left.next) ends
ends_proposed opened s t own program by r (outcome.Full503 at places) left ends = left.log ∙ ends
ends_proposed opened s t own program by r (outcome.LogFull509 at entries bytes) left ends = left.log ∙ ends
ends_proposed opened s t own program by r outcome.Memory507 left ends = left.log ∙ ends

pub ends_commanded : (opened : List Entry) (s t : State) (own : List Waiting) (e : Entry) (answer : Outcome) → IsBoardCommanded s t e answer → s.log ≡ opened ++ own_in_order own → t.log ≡ opened ++ own_in_order (own_after own t.log answer)
ends_commanded opened s t own e (outcome.Stored sequence at) left ends =
    stored_more opened s t own e sequence left.log (at_sequence s t e sequence left.log left.next) ends
ends_commanded opened s t own e (outcome.Full503 at places) left ends = left.0.log ∙ ends
ends_commanded opened s t own e (outcome.LogFull509 at entries bytes) left ends = left.0.log ∙ ends
ends_commanded opened s t own e outcome.Memory507 left ends = left.log ∙ ends
ends_commanded opened s t own e (outcome.Bad400 field) left ends = absurd left
ends_commanded opened s t own e (outcome.TooLarge413 bytes) left ends = absurd left
ends_commanded opened s t own e (outcome.UserGone401 at) left ends = absurd left
ends_commanded opened s t own e (outcome.Known at) left ends = absurd left
ends_commanded opened s t own e (outcome.BadHistory400 at) left ends = absurd left
ends_commanded opened s t own e (outcome.Conflict409 at leaf) left ends = absurd left
ends_commanded opened s t own e (outcome.Denied403 at rule) left ends = absurd left
