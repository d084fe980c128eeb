use Rattle.std.proofs.Common.{rules, Some, ap, sym, ◌∙◌}
use Rattle.std.specs.FinMap as map
use Rattle.blip_mux.proofs.Maps.{read, written, written_again, ok_too, err_too}
use Rattle.blip_mux.proofs.parts.Parts.take_more.Goals as goal

pub returns-in-Some-clause-owed : goal.returns-in-Some-clause-owed
returns-in-Some-clause-owed c =
    let there = c.in-Some.ensures.value ∙ read c.self.inside.parts.entries c.args.self.now c.args.frame.now.number c.self.view_is in
    rw (sym there) c.take.ensures.owed

pub returns-in-Some-clause-after : goal.returns-in-Some-clause-after
returns-in-Some-clause-after c =
    let there = c.in-Some.ensures.value ∙ read c.self.inside.parts.entries c.args.self.now c.args.frame.now.number c.self.view_is in
    rw (sym there)
    (ok_too c.take.result _ _ c.take.ensures.after
    (λ e. written c.self.inside.parts.entries (c.get_mut.follows.lender c.take.new.self).entries c.args.self.now c.args.frame.now.number c.take.new.self c.self.view_is ((c.get_mut.follows.holds c.take.new.self).3 (search rules)).0 ∙ ap (map.insert c.args.self.now c.args.frame.now.number) e))

pub returns-in-Some-clause-err : goal.returns-in-Some-clause-err
returns-in-Some-clause-err c =
    let there = c.in-Some.ensures.value ∙ read c.self.inside.parts.entries c.args.self.now c.args.frame.now.number c.self.view_is in
    err_too c.take.result _ _ c.take.ensures.err
    (λ same. written_again c.self.inside.parts.entries (c.get_mut.follows.lender c.take.new.self).entries c.args.self.now c.args.frame.now.number c.take.new.self c.self.view_is (ap Some same ∙ there) ((c.get_mut.follows.holds c.take.new.self).3 (search rules)).0)

pub returns-in-None-clause-owed : goal.returns-in-None-clause-owed
returns-in-None-clause-owed c =
    let there = c.in-None.ensures.value ∙ read c.self.inside.parts.entries c.args.self.now c.args.frame.now.number c.self.view_is in
    rw (sym there) c.begin.ensures.owed

pub returns-in-None-clause-after : goal.returns-in-None-clause-after
returns-in-None-clause-after c =
    let there = c.in-None.ensures.value ∙ read c.self.inside.parts.entries c.args.self.now c.args.frame.now.number c.self.view_is in
    let as_before = ap (λ n. map.from_entries n.entries) c.get_mut.follows.holds-at-none ∙ c.self.view_is in
    rw (sym there, sym as_before) c.begin.ensures.after

pub returns-in-None-clause-err : goal.returns-in-None-clause-err
returns-in-None-clause-err c =
    let as_before = ap (λ n. map.from_entries n.entries) c.get_mut.follows.holds-at-none ∙ c.self.view_is in
    rw (sym as_before) c.begin.ensures.err
