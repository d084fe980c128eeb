use Rattle.std.proofs.Common.{◌≡◌, ◌∙◌, ◌-◌, ap, sym, arith, Option, Some, List, length}
use Rattle.std.specs.Prelude.{option_map}
use Rattle.sg_history.specs.declared.entries.Entry.{Entry}
use Rattle.sg_history.specs.History.{SyncEntry}
use Rattle.sg_history.specs.CountedLog.{count_marks, marks_between}
use Rattle.sg_history.specs.Puts.{replacement_in}
use Rattle.channel_cache.specs.inner.Forward.{replaced_at, replaced_by}
use Rattle.channel_cache.proofs.Brought.{forward_other}
use Rattle.channel_cache.proofs.Passed.{marks_one}
use Rattle.channel_cache.proofs.Past.{index_high}
use Rattle.channel_cache.proofs.forward.take_other.Goals as goal

pub entry-requires-clause-high : goal.entry-requires-clause-high
entry-requires-clause-high c = index_high c.args.index.now c.args.log.now.entries c.args.at c.requires.index

pub take_marks-requires-clause-marks : goal.take_marks-requires-clause-marks
take_marks-requires-clause-marks c =
    ap (λ (l : List Entry). option_map (λ (s : SyncEntry). s.marks) (replaced_at l c.args.at)) c.entry.ensures.kept
    ∙ ap (λ (o : Option Entry). option_map (λ (s : SyncEntry). s.marks) (replaced_by o)) c.entry.ensures.entry
    ∙ ap (λ (o : Option SyncEntry). option_map (λ (s : SyncEntry). s.marks) o) (sym c.as_sync.ensures ∙ ap (option_map replacement_in) c.in-Some.is)
    ∙ ap (λ l. Some l) (sym c.as_slice.ensures)

pub returns-in-None-clause-ok : goal.returns-in-None-clause-ok
returns-in-None-clause-ok c =
    forward_other c.args.index.now c.args.log.now.entries c.args.at c.requires.low c.requires.index c.currents.ensures.unwritten c.entry.result.now c.entry.ensures.entry
    (sym c.as_sync.ensures ∙ ap (option_map replacement_in) c.in-None.is) c.requires.other c.args.lists.now.entries

pub returns-in-Some-clause-reads : goal.returns-in-Some-clause-reads
returns-in-Some-clause-reads c =
    let marks : marks_between c.args.log.now.entries (c.args.at - 1) c.args.at ≡ length c.as_slice.result.now =
    marks_one c.args.log.now.entries c.args.at c.entry.result.now c.requires.low c.entry.ensures.entry
    ∙ ap count_marks (sym c.as_sync.ensures ∙ ap (option_map replacement_in) c.in-Some.is)
    ∙ ap length (sym c.as_slice.ensures) in
    omega (arith, marks, c.take_marks.ensures.reads, c.entry.ensures.counted)
