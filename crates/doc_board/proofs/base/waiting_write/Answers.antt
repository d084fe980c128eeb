use Rattle.std.proofs.Common.{◌≡◌, ◌<◌, ◌∙◌, List, ℕ, Option, length, nat_eq, ap, sym, subst, arith, Bor}
use Rattle.std.specs.HashMap.{get}
use Rattle.std.specs.Option.{option_copied}
use Rattle.sg_history.specs.declared.entries.Write.{Write}
use Rattle.rev_tree.specs.Documents.{last_in}
use Rattle.sg_history.specs.Book.{book_with}
use Rattle.doc_board.specs.State.{top_of}
use Rattle.doc_board.proofs.Walks.{IsAt, walk_begins, walk_ends, walk_finds, walk_falls, walk_goes_on, walk_has}
use Rattle.doc_board.proofs.base.waiting_write.Goals as goal

pub loop-init : goal.loop-init
loop-init c = record {
  front = ap (λ es. length es) c.as_slice.ensures;
  falls = omega arith;
  stands = λ doc is. subst (λ (n : ℕ). IsAt c.args.storage.now.log.entries.list c.args.storage.now.pending.waiting doc c.args.rev.now n) (sym is) (walk_begins c.args.storage.now.log.entries.list c.args.storage.now.pending.waiting doc c.args.rev.now);
}

pub returns-then-number-front : goal.returns-then-number-front
returns-then-number-front c = λ doc is.
    walk_ends c.args.storage.now.log.entries.list c.args.storage.now.pending.waiting doc c.args.rev.now c.loop.number (c.loop.invariant.stands doc is) (omega (arith, c.loop.invariant.front))

pub returns-in_default : goal.returns-in_default
returns-in_default c = λ doc is.
    absurd (walk_has c.args.storage.now.log.entries.list c.args.storage.now.pending.waiting doc c.args.rev.now c.loop.number (c.loop.invariant.stands doc is) (omega (arith, c.loop.invariant.front, c.if-number-front.false))
    (sym c.write_at.ensures ∙ ap (λ (o : Option (Bor Write)). option_copied o) c.in_default.is))

pub returns-then-equals : goal.returns-then-equals
returns-then-equals c = λ doc is.
    walk_finds c.args.storage.now.log.entries.list c.args.storage.now.pending.waiting doc c.args.rev.now c.loop.number c.in-Some.write.now (c.loop.invariant.stands doc is) (omega (arith, c.loop.invariant.front, c.if-number-front.false))
    (sym c.write_at.ensures ∙ ap (λ (o : Option (Bor Write)). option_copied o) c.in-Some.is) (sym c.equals.ensures.value ∙ c.if-equals.true)

pub loop-preserved : goal.loop-preserved
loop-preserved c =
    let log = c.args.storage.now.log.entries.list in
    let waiting = c.args.storage.now.pending.waiting in
    let past : length log < c.loop.number = omega (arith, c.loop.invariant.front, c.if-number-front.false) in
    let on : (doc : List ℕ) → c.args.last ≡ last_in (book_with log waiting) (top_of log waiting) doc → IsAt log waiting doc c.args.rev.now c.base_at-number.result =
    λ doc is.
    let next = walk_goes_on log waiting doc c.args.rev.now (get nat_eq c.args.storage.now.bases) c.loop.number c.in-Some.write.now c.requires.based (c.loop.invariant.stands doc is) past
    (sym c.write_at.ensures ∙ ap (λ (o : Option (Bor Write)). option_copied o) c.in-Some.is) (sym c.equals.ensures.value ∙ c.if-equals.false) in
    subst (λ (n : ℕ). IsAt log waiting doc c.args.rev.now n) (sym c.base_at-number.ensures) next.0
    in
    let falls = walk_falls log waiting c.args.rev.now (get nat_eq c.args.storage.now.bases) c.loop.number c.in-Some.write.now c.requires.based past (sym c.write_at.ensures ∙ ap (λ (o : Option (Bor Write)). option_copied o) c.in-Some.is) in
    record {
      front = c.loop.invariant.front;
      falls = omega (arith, falls, c.base_at-number.ensures, c.loop.invariant.falls);
      stands = on;
    }

pub returns : goal.returns
returns c = λ doc is.
    walk_ends c.args.storage.now.log.entries.list c.args.storage.now.pending.waiting doc c.args.rev.now c.loop.number (c.loop.invariant.stands doc is) (omega (arith, c.loop.invariant.front, c.loop.invariant.falls))
