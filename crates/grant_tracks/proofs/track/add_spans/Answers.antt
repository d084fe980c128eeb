use Rattle.std.proofs.Common.{arith, ℕ, get_or}
use Rattle.std.proofs.lemmas.List.{get_or_default}
use Rattle.grant_tracks.specs.declared.track.Span.{Span}
use Rattle.grant_tracks.specs.Tracks.{has_place}
use Rattle.grant_tracks.proofs.Cutting.{covers_begin, covers_more, covers_end, span_covers}
use Rattle.grant_tracks.proofs.track.add_spans.Goals as goal

pub loop-span-init : goal.loop-span-init
loop-span-init c = covers_begin (λ (s : Span) (k : ℕ). has_place k s) c.args.spans.now c.args.cuts.now.items

pub loop-span-preserved : goal.loop-span-preserved
loop-span-preserved c =
    let spans = c.args.spans.now in
    let i = c.loop-span.span-index in
    let s : Span = get_or spans i (record { from = 0; to = 0 }) in
    covers_more (λ (s : Span) (k : ℕ). has_place k s) spans i s c.args.cuts.now.items c.loop-span.cuts.items c.add_ends.new.cuts.items (omega arith)
    (get_or_default spans i _ _ (omega arith)) c.loop-span.invariant
    (span_covers c.loop-span.cuts.items c.add_ends.new.cuts.items s c.in_ok-add_ends.ensures)

pub returns : goal.returns
returns c = covers_end (λ (s : Span) (k : ℕ). has_place k s) c.args.spans.now c.loop-span.span-index c.args.cuts.now.items c.loop-span.cuts.items (omega (arith, c.loop-span-test.false)) c.loop-span.invariant
