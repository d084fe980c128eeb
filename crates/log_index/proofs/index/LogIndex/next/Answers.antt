use Rattle.std.proofs.Common.{◌∙◌, ap, sym, arith, ℕ, List, Some}
use Rattle.log_index.specs.declared.entry_places.EntryPlaces.{EntryPlaces}
use Rattle.log_index.specs.Places.{next_at}
use Rattle.log_index.specs.Representation.{kept_at}
use Rattle.log_index.proofs.EntryPlaces.{next_gives}
use Rattle.log_index.proofs.index.LogIndex.next.Goals as goal

pub returns-then-next-eq0 : goal.returns-then-next-eq0
returns-then-next-eq0 c =
    let kept = ap (λ (p : EntryPlaces). p.next) c.of_entry-next.ensures ∙ ap (λ (l : List EntryPlaces). (kept_at l c.args.seq).next) c.as_slice.ensures.value in
    (next_gives _ _ c.args.seq c.self.invariant.1).0 (omega (arith, sym kept, c.if-next-eq0.true))
    ∙ ap (λ es. next_at es c.args.seq) c.self.view_is

pub returns : goal.returns
returns c =
    let kept = ap (λ (p : EntryPlaces). p.next) c.of_entry-next.ensures ∙ ap (λ (l : List EntryPlaces). (kept_at l c.args.seq).next) c.as_slice.ensures.value in
    ap (λ (n : ℕ). Some n) kept
    ∙ (next_gives _ _ c.args.seq c.self.invariant.1).1 (λ none. omega (arith, kept, none, c.if-next-eq0.false))
    ∙ ap (λ es. next_at es c.args.seq) c.self.view_is
