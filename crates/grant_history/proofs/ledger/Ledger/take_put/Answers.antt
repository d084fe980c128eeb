use Rattle.std.proofs.Common.{◌≡◌, ◌∙◌, sym, ap, subst, List, Some}
use Rattle.std.specs.Prelude.{option_map}
use Rattle.sg_history.specs.Principals.{as_put}
use Rattle.sg_history.specs.Puts.{put_in, grantee_in}
use Rattle.grant_history.specs.declared.facts.Fact.{Fact}
use Rattle.grant_history.specs.Ledger.{Source, facts_from, holder, IsStep}
use Rattle.grant_tracks.proofs.Tracked.{on_ok}
use Rattle.grant_history.proofs.Keeping.{put_is_step, idle_took, same_step}
use Rattle.grant_history.proofs.ledger.Ledger.take_put.Goals as goal

pub take-requires : goal.take-requires
take-requires c =
    let e = c.args.entry.now in
    let es = c.requires.before.es in
    let put : as_put e ≡ Some (put_in c.in-Some.put) = sym c.as_put.ensures ∙ ap (λ o. option_map put_in o) c.in-Some.is in
    let step = put_is_step c.currents.ensures.unwritten c.args.self.now e es c.args.at c.requires.before.place c.requires.before.is_kept (put_in c.in-Some.put) c.requires.no_sync c.requires.no_write put in (
      e,
      es,
      subst (λ (s : Source). IsStep c.args.self.now c.args.at s c.in_ok-facts-in-Some.facts.items e es) (sym c.source_of.ensures)
          (subst (λ (fs : List Fact). IsStep c.args.self.now c.args.at (holder (grantee_in c.in-Some.put.of)) fs e es) (sym c.in_ok-facts-in-Some.ensures) step),
    )

pub returns-in-None-clause-ok : goal.returns-in-None-clause-ok
returns-in-None-clause-ok c = λ es place is.
    idle_took c.currents.ensures.unwritten c.args.self.now c.args.entry.now es c.args.at place is c.requires.no_sync c.requires.no_write (sym c.as_put.ensures ∙ ap (λ o. option_map put_in o) c.in-None.is)

pub returns-in_ok-facts-in-Some-clause-ok : goal.returns-in_ok-facts-in-Some-clause-ok
returns-in_ok-facts-in-Some-clause-ok c = on_ok c.take.result _ _ (λ takes es place is.
    let e = c.args.entry.now in
    let put : as_put e ≡ Some (put_in c.in-Some.put) = sym c.as_put.ensures ∙ ap (λ o. option_map put_in o) c.in-Some.is in
    let step = put_is_step c.currents.ensures.unwritten c.args.self.now e es c.args.at place is (put_in c.in-Some.put) c.requires.no_sync c.requires.no_write put in
    takes e es (subst (λ (s : Source). IsStep c.args.self.now c.args.at s c.in_ok-facts-in-Some.facts.items e es) (sym c.source_of.ensures)
    (subst (λ (fs : List Fact). IsStep c.args.self.now c.args.at (holder (grantee_in c.in-Some.put.of)) fs e es) (sym c.in_ok-facts-in-Some.ensures) step))) c.take.ensures.ok

pub returns-in_ok-facts-in-Some-clause-same : goal.returns-in_ok-facts-in-Some-clause-same
returns-in_ok-facts-in-Some-clause-same c = λ es place is same.
    let e = c.args.entry.now in
    let old = c.args.self.now in
    let put : as_put e ≡ Some (put_in c.in-Some.put) = sym c.as_put.ensures ∙ ap (λ o. option_map put_in o) c.in-Some.is in
    let of = grantee_in c.in-Some.put.of in
    let step = put_is_step c.currents.ensures.unwritten old e es c.args.at place is (put_in c.in-Some.put) c.requires.no_sync c.requires.no_write put in
    c.take.ensures.same
    (ap (λ (s : Source). facts_from old s) c.source_of.ensures ∙ same_step old c.args.at (holder of) _ e es step same ∙ sym c.in_ok-facts-in-Some.ensures)
