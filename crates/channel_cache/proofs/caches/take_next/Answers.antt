use Rattle.std.proofs.Common.{◌≡◌, ◌-◌, ◌∙◌, ◌∷◌, ap, sym, arith, ℕ, suc, List, length}
use Rattle.sg_history.specs.declared.entries.Entry.{Entry}
use Rattle.sg_history.specs.History.{past}
use Rattle.channel_cache.proofs.Past.{past_count, past_next}
use Rattle.channel_cache.proofs.caches.take_next.Goals as goal

pub push-requires : goal.push-requires
push-requires c =
    let count : length c.args.index.now ≡ c.args.seq - 1 = ap length c.requires.index ∙ past_count c.args.log.now.entries (c.args.seq - 1) (omega (arith, c.requires.high)) in
    omega (arith, count, c.ranges.seq.fits, c.requires.low)

pub returns-clause-ok : goal.returns-clause-ok
returns-clause-ok c =
    let entries = c.args.log.now.entries in
    let k = c.args.seq - 1 in
    let e = c.entry-entry.result.now in
    let one : ◌≡◌ {A = ℕ} (suc k) c.args.seq = omega (arith, c.requires.low) in
    c.in_ok-push.ensures.ok ∙ ap (λ (l : List Entry). e ∷ l) c.requires.index ∙ sym (past_next entries k e c.entry-entry.ensures.entry) ∙ ap (past entries) one
