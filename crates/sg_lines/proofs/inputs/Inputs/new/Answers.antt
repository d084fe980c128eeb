use Rattle.sg_lines.proofs.InputLemmas.{all_coming}
use Rattle.sg_lines.proofs.inputs.Inputs.new.Goals as goal

pub returns : goal.returns
returns c = all_coming c.args.inputs.items
