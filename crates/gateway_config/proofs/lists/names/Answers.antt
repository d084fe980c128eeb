use Rattle.sg_names.specs.Grammar.{is_name}
use Rattle.gateway_config.proofs.Items.{texts_all, texts_kept, texts_none}
use Rattle.gateway_config.proofs.lists.names.Goals as goal

pub loop-item-preserved : goal.loop-item-preserved
loop-item-preserved c =
    let l = c.loop-item in
    texts_kept (λ t. is_name t) c.args.items.now l.item-index c.item-item.result l.list c.push.new.self c.in-Some.found c.loop-item-test.true c.item-item.is (rw c.in-Some.is at c.in_ok-found.ensures) c.in_ok-push-in-Some.ensures.ok l.invariant

pub returns-in-None : goal.returns-in-None
returns-in-None c =
    let l = c.loop-item in
    texts_none (λ t. is_name t) c.args.items.now l.item-index c.item-item.result l.list c.loop-item-test.true c.item-item.is (rw c.in-None.is at c.in_ok-found.ensures) l.invariant

pub returns : goal.returns
returns c =
    let l = c.loop-item in
    texts_all (λ t. is_name t) c.args.items.now l.item-index l.list c.loop-item-test.false l.invariant
