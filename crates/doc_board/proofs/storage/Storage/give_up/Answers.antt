use Rattle.std.proofs.Common.{◌≢◌, ◌∙◌, ℕ, Option, ap, subst, sym, arith}
use Rattle.std.specs.Prelude.{IfSome}
use Rattle.pending_front.specs.Storing.{MayStore}
use Rattle.doc_board.specs.Storage.{waiting_with_unused, book_with_unused, book_in}
use Rattle.doc_board.proofs.OnStorage.{fewer_in}
use Rattle.doc_board.proofs.storage.Storage.give_up.Goals as goal

pub put_plain-requires-clause-number : goal.put_plain-requires-clause-number
put_plain-requires-clause-number c = subst (λ (o : Option ℕ). IfSome o (λ n. MayStore c.args.self.now.log.entries.list c.args.self.now.pending.waiting n)) c.in-Some.is c.requires.spent

pub put_plain-requires-clause-place : goal.put_plain-requires-clause-place
put_plain-requires-clause-place c = fewer_in c.args.self.now 2 1 (omega arith) c.requires.places

pub returns-in-None-clause-stands : goal.returns-in-None-clause-stands
returns-in-None-clause-stands c = fewer_in c.args.self.now 2 1 (omega arith) c.requires.places

pub returns-in-Some-clause-stands : goal.returns-in-Some-clause-stands
returns-in-Some-clause-stands c = c.put_plain.ensures.stands 1 c.requires.places

pub returns-in-Some-clause-waiting : goal.returns-in-Some-clause-waiting
returns-in-Some-clause-waiting c = c.put_plain.ensures.waiting ∙ ap (λ (o : Option ℕ). waiting_with_unused o c.args.self.now.pending.waiting) (sym c.in-Some.is)

pub returns-in-Some-clause-book : goal.returns-in-Some-clause-book
returns-in-Some-clause-book c = c.put_plain.ensures.book ∙ ap (λ (o : Option ℕ). book_with_unused o (book_in c.args.self.now)) (sym c.in-Some.is)

pub returns-in-Some-clause-others : goal.returns-in-Some-clause-others
returns-in-Some-clause-others c = λ other apart may. c.put_plain.ensures.others other (subst (λ (o : Option ℕ). IfSome o (λ n. n ≢ other)) c.in-Some.is apart) may
