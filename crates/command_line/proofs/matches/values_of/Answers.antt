use Rattle.std.proofs.Common.{◌∙◌, sym, ap, map, Some}
use Rattle.clap.specs.Words.{found_of}
use Rattle.clap.proofs.WalkLemmas.{raw_values-rows}
use Rattle.command_line.proofs.matches.values_of.Goals as goal

pub returns-in_ok-copy_of-in-Some-clause-ok : goal.returns-in_ok-copy_of-in-Some-clause-ok
returns-in_ok-copy_of-in-Some-clause-ok c =
    sym (raw_values-rows (found_of c.args.matches.now) c.args.id.now) ∙ sym c.in-Some.ensures
    ∙ ap (λ texts. Some (map (λ s. s.now) texts)) (sym c.in_ok-copy_of-in-Some.ensures)

pub returns-in-None-clause-bad : goal.returns-in-None-clause-bad
returns-in-None-clause-bad c = λ _. sym (raw_values-rows (found_of c.args.matches.now) c.args.id.now) ∙ sym c.in-None.ensures
