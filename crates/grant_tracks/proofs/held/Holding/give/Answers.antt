use Rattle.std.proofs.Common.{◌∙◌, sym, ap, subst, List}
use Rattle.grant_tracks.specs.declared.held.Held.{Held}
use Rattle.grant_tracks.specs.Dated.{Dated}
use Rattle.grant_tracks.specs.Things.{Things}
use Rattle.grant_tracks.specs.HeldLists.{place_of, count_in, held_in, AreUpTo}
use Rattle.grant_tracks.specs.Holdings.{one_more}
use Rattle.grant_tracks.proofs.Tracked.{still_list, on_ok, on_err, any_err}
use Rattle.grant_tracks.proofs.held.Holding.give.Goals as goal

pub add-requires-clause-place : goal.add-requires-clause-place
add-requires-clause-place c = ap (λ (t : Things). place_of t.items c.args.what.now) (sym c.self.view_is) ∙ sym (c.self.invariant.0 c.args.what.now) ∙ sym c.find.ensures ∙ c.in-None.is

pub give_at-requires-clause-place : goal.give_at-requires-clause-place
give_at-requires-clause-place c = ap (λ (t : Things). place_of t.items c.args.what.now) (sym c.self.view_is) ∙ sym (c.self.invariant.0 c.args.what.now) ∙ sym c.find.ensures ∙ c.in-Some.is

pub give_at-requires-clause-up_to : goal.give_at-requires-clause-up_to
give_at-requires-clause-up_to c = subst (λ (l : List Held). AreUpTo l c.args.at) (sym c.change_at.ensures.items) c.requires.up_to

pub returns-in_ok-give_at-in-Some-clause-ok : goal.returns-in_ok-give_at-in-Some-clause-ok
returns-in_ok-give_at-in-Some-clause-ok c =
    subst (λ (l : List Held). Dated count_in held_in AreUpTo l c.give_at.new.self.items c.args.at (one_more (count_in l) c.args.what.now)) c.change_at.ensures.items c.in_ok-give_at-in-Some.ensures.ok

pub returns-in_err-give_at-in-Some-clause-err : goal.returns-in_err-give_at-in-Some-clause-err
returns-in_err-give_at-in-Some-clause-err c = any_err c.from_residual.result _
    (subst (λ (l : List Held). Dated count_in held_in AreUpTo l c.give_at.new.self.items c.args.at (count_in l)) c.change_at.ensures.items c.in_err-give_at-in-Some.ensures.err)

pub returns-in-None-clause-ok : goal.returns-in-None-clause-ok
returns-in-None-clause-ok c = on_ok c.add.result _ _ (λ d.
    subst (λ (l : List Held). Dated count_in held_in AreUpTo l c.add.new.self.items c.args.at (one_more (count_in l) c.args.what.now)) c.change_at.ensures.items d) c.add.ensures.ok

pub returns-in-None-clause-err : goal.returns-in-None-clause-err
returns-in-None-clause-err c = on_err c.add.result _ _ (λ same.
    still_list c.args.self.now.items c.add.new.self.items c.args.at (same ∙ c.change_at.ensures.items)) c.add.ensures.err
