use Rattle.std.proofs.Common.{◌∙◌, sym, suc, ap, subst, arith, List, length}
use Rattle.std.specs.List.{list_any}
use Rattle.std.specs.List.Sorted.{IsNonDecreasingBy}
use Rattle.std.proofs.lemmas.Bool.{lt-leb}
use Rattle.grant_tracks.specs.declared.track.Span.{Span}
use Rattle.grant_tracks.specs.Tracks.{has_place}
use Rattle.grant_tracks.proofs.Ordered.{AreApartBy, by_first, by_none, rise_by_end}
use Rattle.grant_tracks.proofs.track.Track.held_before.Goals as goal

pub returns-then-next-spans : goal.returns-then-next-spans
returns-then-next-spans c =
    let spans = c.as_slice-spans.result.now in
    let apart : AreApartBy spans = subst (λ (l : List Span). AreApartBy l) (sym c.as_slice-spans.ensures.value) c.args.self.now.apart in
    sym (by_first spans c.ended-next.result c.args.k (record { from = 0; to = 0 }) c.ended-next.ensures.before c.ended-next.ensures.after apart (omega (arith, c.if-next-spans.true)))
    ∙ ap (λ (l : List Span). list_any (has_place c.args.k) l) c.as_slice-spans.ensures.value

pub returns-else-next-spans : goal.returns-else-next-spans
returns-else-next-spans c =
    let spans = c.as_slice-spans.result.now in
    lt-leb (suc c.ended-next.result) (length spans) (omega (arith, c.if-next-spans.false))
    ∙ sym (by_none spans c.ended-next.result c.args.k c.ended-next.ensures.before (omega (arith, c.if-next-spans.false)))
    ∙ ap (λ (l : List Span). list_any (has_place c.args.k) l) c.as_slice-spans.ensures.value

pub ended-next-requires : goal.ended-next-requires
ended-next-requires c =
    subst (λ (l : List Span). IsNonDecreasingBy (λ (s : Span). s.to) l) (sym c.as_slice-spans.ensures.value)
    (rise_by_end c.args.self.now.closed.items c.args.self.now.placed c.args.self.now.apart)
