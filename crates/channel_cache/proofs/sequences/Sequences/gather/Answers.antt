use Rattle.std.proofs.Common.{◌∙◌, sym}
use Rattle.channel_cache.proofs.Changing.{on_two}
use Rattle.channel_cache.proofs.Having.{held_alone, held_by}
use Rattle.channel_cache.proofs.sequences.Sequences.gather.Goals as goal

pub returns-clause-same : goal.returns-clause-same
returns-clause-same c =
    let l = c.args.self.now in
    on_two c.settle.result _ _ _ (λ ok entered s.
    held_alone c.settle.new.list.items c.settle.new.left.items c.settle.new.entered.items s c.settle.ensures.left entered
    ∙ ok s
    ∙ sym (held_by l.list.items l.left.items l.entered.items s)) c.settle.ensures.ok c.settle.ensures.entered
