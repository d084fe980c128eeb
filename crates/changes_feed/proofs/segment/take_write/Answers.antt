use Rattle.std.proofs.Common.{◌<◌, refl, arith, false}
use Rattle.channel_cache.proofs.Changing.{on_ok}
use Rattle.channel_cache.proofs.Past.{index_high}
use Rattle.changes_feed.proofs.Keeping.{begun, ended}
use Rattle.changes_feed.proofs.Taking.{written, written_others}
use Rattle.changes_feed.proofs.segment.take_write.Goals as goal

pub renew-requires-clause-known : goal.renew-requires-clause-known
renew-requires-clause-known c =
    let entries = c.args.log.now.entries in
    let at = c.args.at in
    let pos : 0 < at = omega (arith, c.requires.low, c.requires.high) in
    let high = index_high c.args.index.now entries at c.requires.index in
    let w = written entries at pos high c.args.index.now c.requires.index c.before-stood.result c.args.document c.before-stood.ensures c.requires.after in (
      w.write.doc,
      λ name. false,
      record { renews = w.renews; free = refl; part = begun c.args.viewer.now c.args.start entries at pos high c.args.segment.now c.requires.known },
    )

pub returns-clause-ok : goal.returns-clause-ok
returns-clause-ok c =
    let entries = c.args.log.now.entries in
    let at = c.args.at in
    let pos : 0 < at = omega (arith, c.requires.low, c.requires.high) in
    let high = index_high c.args.index.now entries at c.requires.index in
    let w = written entries at pos high c.args.index.now c.requires.index c.before-stood.result c.args.document c.before-stood.ensures c.requires.after in
    on_ok c.renew.result _ _
    (λ all. ended c.args.viewer.now c.args.start entries at pos high c.known.ensures.same _ c.renew.new.segment
    (all w.write.doc (λ name. false) (record { renews = w.renews; free = refl; part = begun c.args.viewer.now c.args.start entries at pos high c.args.segment.now c.requires.known }))
    (written_others entries at pos high c.before-stood.result c.args.document w))
    c.renew.ensures.ok
