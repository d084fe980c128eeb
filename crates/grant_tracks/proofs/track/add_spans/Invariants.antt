use Rattle.std.proofs.Common.{ℕ}
use Rattle.grant_tracks.specs.declared.track.Span.{Span}
use Rattle.grant_tracks.specs.Tracks.{has_place}
use Rattle.grant_tracks.proofs.Cutting.{CoversBefore}
use Rattle.grant_tracks.proofs.track.add_spans.Given as goal

-- where the spans that are left change nothing, nothing changes
abbrev pub invariant-loop-span : goal.invariant-loop-span
invariant-loop-span l = CoversBefore (λ (s : Span) (k : ℕ). has_place k s) l.spans l.span-index l.initial.cuts.items l.cuts.items
