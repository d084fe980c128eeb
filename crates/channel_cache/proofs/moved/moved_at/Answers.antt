use Rattle.std.proofs.Common.{◌≡◌, ◌-◌, ◌∙◌, ap, sym, arith, Bool, true, ℕ, [], ◌∷◌, length, Option, if◌then◌else◌}
use Rattle.sg_history.specs.History.{past}
use Rattle.log_index.specs.declared.marks.Marked.{Marked}
use Rattle.log_index.specs.Marks.{is_mark, marked_up_to}
use Rattle.channel_cache.specs.inner.Moves.{channels_at}
use Rattle.channel_cache.proofs.Past.{index_high, index_lower, index_same_mark, past_count}
use Rattle.channel_cache.proofs.moved.moved_at.Goals as goal

pub channels_of-requires-clause-high : goal.channels_of-requires-clause-high
channels_of-requires-clause-high c = omega (arith, c.requires.high)

pub channels_of-requires-clause-index : goal.channels_of-requires-clause-index
channels_of-requires-clause-index c = index_lower c.args.index.now c.args.log.now.entries c.args.at c.requires.index (c.args.at - 1) (omega arith)

pub returns-then-is_mark-clause-moved : goal.returns-then-is_mark-clause-moved
returns-then-is_mark-clause-moved c =
    let entries = c.args.log.now.entries in
    let at = c.args.at in
    let d = c.args.document in
    let count = past_count entries at (index_high c.args.index.now entries at c.requires.index) in
    let is : is_mark (marked_up_to (past entries at) d.winning (length (past entries at))) (length (past entries at)) c.args.number ≡ true =
    ap (λ (o : Option Marked). is_mark o (length (past entries at)) c.args.number) (sym (index_same_mark c.args.index.now entries at c.requires.index d.winning (omega (arith, c.requires.high))) ∙ sym c.marked.ensures)
    ∙ ap (λ (n : ℕ). is_mark c.marked.result n c.args.number) count
    ∙ sym c.is_mark.ensures
    ∙ c.if-is_mark.true in
    (λ i. record { last = d.last; before = c.channels_of.ensures.channels i; after = c.as_slice.ensures i } ∷ [])
    ∙ sym (ap (λ (b : Bool). if b then record { last = d.last; before = channels_at (past entries (at - 1)) d.winning; after = c.args.mark.now.channels } ∷ [] else []) is)

pub returns-clause-moved : goal.returns-clause-moved
returns-clause-moved c =
    let entries = c.args.log.now.entries in
    let at = c.args.at in
    let d = c.args.document in
    let count = past_count entries at (index_high c.args.index.now entries at c.requires.index) in
    sym (ap (λ (b : Bool). if b then record { last = d.last; before = channels_at (past entries (at - 1)) d.winning; after = c.args.mark.now.channels } ∷ [] else [])
    (ap (λ (o : Option Marked). is_mark o (length (past entries at)) c.args.number) (sym (index_same_mark c.args.index.now entries at c.requires.index d.winning (omega (arith, c.requires.high))) ∙ sym c.marked.ensures)
    ∙ ap (λ (n : ℕ). is_mark c.marked.result n c.args.number) count
    ∙ sym c.is_mark.ensures
    ∙ c.if-is_mark.false))
