use Rattle.std.proofs.Common.{Some, ap, ◌∙◌, List, [], map}
use Rattle.sg_outside.specs.declared.wire.Got.{Got}
use Rattle.sg_outside.specs.MemWire.{traffic}
use Rattle.record_file.specs.declared.item.Item.{Item}
use Rattle.record_file.specs.Record.{input_of}
use Rattle.record_file.proofs.Lines.{inputs_give}
use Rattle.record_file.proofs.item.Items.into_wire.Goals as goal

pub returns : goal.returns
returns c =
    let given = inputs_give c.args.self c.in_ok-inputs.inputs.items (c.in_ok-inputs.ensures ∙ ap (λ (items : List Item). map (λ i. input_of i) items) c.self.view_is) in
    c.new.ensures.recorded ∙ ap (λ (results : List Got). Some (traffic results 0 [] [])) given
