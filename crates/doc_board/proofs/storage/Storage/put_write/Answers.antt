use Rattle.std.proofs.Common.{◌<◌, ◌∙◌, ℕ, Some, nat_eq, refl, subst, ap, arith, if◌then◌else◌}
use Rattle.std.specs.HashMap.{get, spare}
use Rattle.sg_history.specs.declared.entries.Entry.TheVariants as kinds
use Rattle.doc_board.specs.Storage.{top_in}
use Rattle.doc_board.proofs.Steps.{waits_write}
use Rattle.doc_board.proofs.Tops.{none_above_top}
use Rattle.doc_board.proofs.NewBooks.{one_put}
use Rattle.doc_board.proofs.storage.Storage.put_write.Goals as goal

pub keep_base-requires : goal.keep_base-requires
keep_base-requires c = omega (arith, c.requires.place.room_bases)

pub put-requires-2-clause-place : goal.put-requires-2-clause-place
put-requires-2-clause-place c = omega (arith, c.requires.place.room_waiting)

pub returns-clause-stands : goal.returns-clause-stands
returns-clause-stands c =
    let s = c.args.self.now in
    let w = c.args.entry in
    let log = s.log.entries.list in
    let bases = get nat_eq s.bases in
    let past = subst (λ (n : ℕ). n < c.args.number) c.requires.base c.requires.above in
    let kept_base = λ (m : ℕ). c.keep_base.ensures.bases m ∙ ap (λ (n : ℕ). if nat_eq c.args.number m then Some n else bases m) c.requires.base in
    waits_write c.storing.ensures.book c.storing.ensures.beyond c.storing.ensures.free s.log.entries s.pending c.args.number c.requires.number w (top_in s) (none_above_top log s.pending.waiting) past c.args.tree c.requires.extends
    c.trees_of_writes.ensures.revisions c.trees_of_writes.ensures.winner c.put-2.new.self s.documents c.put.new.documents bases (get nat_eq c.keep_base.new.bases) (spare s.bases) (spare c.keep_base.new.bases) s.rooms s.stored c.saturating_add-self.result 0
    c.requires.entry c.requires.body c.requires.at c.put.ensures kept_base c.keep_base.ensures.spare (omega (arith, c.saturating_add-self.ensures, c.len.ensures)) c.put-2.ensures.waiting c.put-2.ensures.spare c.requires.place

pub returns-clause-book : goal.returns-clause-book
returns-clause-book c =
    let s = c.args.self.now in
    one_put c.storing.ensures.book s.log.entries.list s.log.entries.list s.pending.waiting c.put-2.new.self.waiting c.put-2.new.self.waiting c.args.number (kinds.Write c.args.entry) c.requires.number c.put-2.ensures.waiting refl
