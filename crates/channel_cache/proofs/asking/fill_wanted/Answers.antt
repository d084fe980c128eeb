use Rattle.std.proofs.Common.{◌≡◌, ◌∙◌, ap, sym, arith}
use Rattle.std.proofs.lemmas.Bool.{eqb-true, false≢true}
use Rattle.sg_history.specs.History.{past}
use Rattle.channel_cache.specs.Sequences.{Lists, is_kept}
use Rattle.channel_cache.proofs.Changing.{on_ok}
use Rattle.channel_cache.proofs.Filled.{filled_full, filling_some}
use Rattle.channel_cache.proofs.Names.{same_names}
use Rattle.channel_cache.proofs.Past.{index_high, past_count}
use Rattle.channel_cache.proofs.asking.fill_wanted.Goals as goal

pub returns-then-is_zero-clause-full : goal.returns-then-is_zero-clause-full
returns-then-is_zero-clause-full c = λ x s kept.
    let none : c.args.refills ≡ 0 = eqb-true c.args.refills 0 (sym c.is_zero.ensures ∙ c.if-is_zero.true) in
    absurd (false≢true (sym (ap (λ (l : Lists). is_kept l x) (c.requires.none none)) ∙ kept))

pub returns-clause-keys : goal.returns-clause-keys
returns-clause-keys c = on_ok c.fill.result _ _ (λ filled. same_names c.args.wanted.now.entries c.fill.new.lists.entries filled.keys) c.fill.ensures.ok

pub returns-clause-full : goal.returns-clause-full
returns-clause-full c = on_ok c.fill.result _ _ (λ filled.
    filled_full (past c.args.log.now.entries c.args.to) c.args.to c.args.wanted.now.entries c.fill.new.lists.entries
    (past_count c.args.log.now.entries c.args.to (index_high c.args.index.now c.args.log.now.entries c.args.to c.requires.index)) c.requires.nothing filled) c.fill.ensures.ok

pub returns-clause-reads : goal.returns-clause-reads
returns-clause-reads c = omega (arith, c.fill.ensures.reads, filling_some c.args.refills c.args.to (sym c.is_zero.ensures ∙ c.if-is_zero.false))
