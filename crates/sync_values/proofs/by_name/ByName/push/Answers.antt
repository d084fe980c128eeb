use Rattle.std.proofs.Common.{◌∙◌, ◌&&◌, ◌-◌, Bool, length, ap, sym}
use Rattle.std.specs.Prelude.{slice_get}
use Rattle.sync_values.specs.Rising.{comes_behind, names_rise}
use Rattle.sync_values.proofs.Rising.{one_more}
use Rattle.sync_values.proofs.by_name.ByName.push.Goals as goal

pub invariant_of-self-2 : goal.invariant_of-self-2
invariant_of-self-2 g c =
    let items = c.self.inside.items in
    c.still_rise-rising.ensures
    ∙ ap (λ ms. c.self.inside.rising && comes_behind (slice_get ms (length ms - 1)) c.as_str.result.now) c.as_slice.ensures
    ∙ ap (λ name. c.self.inside.rising && comes_behind (slice_get items (length items - 1)) name) c.as_str.ensures
    ∙ ap (λ (b : Bool). b && comes_behind (slice_get items (length items - 1)) c.args.name) c.self.invariant
    ∙ one_more items (c.args.name, c.args.value)
    ∙ sym (ap names_rise c.in_ok-push.ensures.ok)
