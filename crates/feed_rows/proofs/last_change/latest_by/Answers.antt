use Rattle.std.proofs.Common.{◌≡◌, ◌∙◌, sym, ap, max}
use Rattle.std.proofs.lemmas.Option.{same_Some}
use Rattle.sg_history.specs.declared.entries.Write.{Write}
use Rattle.sg_history.specs.History.{past}
use Rattle.sg_history.specs.Current.{Sequenced, effects_of}
use Rattle.log_index.specs.Marks.{marked_after}
use Rattle.log_views.specs.States.{effects_in, since_by}
use Rattle.feed_rows.proofs.LastChanges.{latest_is, since_most, won, won_doc, won_is, written_by}
use Rattle.feed_rows.proofs.last_change.latest_by.Goals as goal

pub returns : goal.returns
returns c = λ entries to doc within at winning is.
    let d = c.args.document in
    let es = past entries to in
    let w = won entries to doc within d at in
    let same : c.args.write.now ≡ w.write = same_Some _ _ (sym is ∙ written_by entries to doc within d at) in
    let one : ◌≡◌ {A = Sequenced} (record { seq = d.winning; write = c.args.write.now }) w = won_is entries to doc within d at c.args.write.now same in (
      latest_is entries to doc within d at c.args.write.now (effects_in c.args.effects) same (winning.effects ∙ ap (effects_of es) one),
      c.max.ensures
          ∙ ap (max d.last) (winning.since ∙ ap (λ (s : Sequenced). since_by (marked_after es s) s.seq) one)
          ∙ since_most entries to doc within d at,
      ap (λ (v : Write). v.doc) same ∙ won_doc entries to doc within d at,
    )
