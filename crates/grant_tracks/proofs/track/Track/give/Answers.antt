use Rattle.std.proofs.Common.{◌≡◌, sym, refl, subst, arith, List}
use Rattle.grant_tracks.specs.declared.track.Span.{Span}
use Rattle.grant_tracks.proofs.Ordered.{AreApartBy, ArePlaced, HaveEnded, closed_apart, closed_ended, closed_placed}
use Rattle.grant_tracks.proofs.Tracked.{begun_again}
use Rattle.grant_tracks.proofs.track.Track.give.Goals as goal

pub invariant_of-self-2 : goal.invariant_of-self-2
invariant_of-self-2 c =
    let old = c.args.self.now in
    let spans = old.closed.items in
    let none : old.count ≡ 0 = omega (arith, c.if-self-gt0.false) in
    record {
      placed = subst (λ (l : List Span). ArePlaced l) (sym c.in_ok-close.ensures.ok) (closed_placed spans old.opened old.until old.placed);
      apart = subst (λ (l : List Span). AreApartBy l) (sym c.in_ok-close.ensures.ok) (closed_apart spans old.opened old.until old.apart old.ended);
      ended = subst (λ (l : List Span). HaveEnded l c.args.at) (sym c.in_ok-close.ensures.ok) (closed_ended spans old.opened old.until c.args.at c.args.at c.requires.ended (c.requires.until none) (omega arith));
    }

pub returns-clause-ok : goal.returns-clause-ok
returns-clause-ok c =
    let none : c.args.self.now.count ≡ 0 = omega (arith, c.if-self-gt0.false) in
    begun_again c.args.self.now _ c.args.at none refl refl c.in_ok-close.ensures.ok
