use Rattle.std.proofs.Common.{rules}
use Rattle.sg_names.proofs.Lists.{passed_more, passed_all, no_next, no_last}
use Rattle.sg_names.proofs.item_list.are_items.Goals as goal

pub returns-then-not-is_text-clause-no : goal.returns-then-not-is_text-clause-no
returns-then-not-is_text-clause-no g c = λ _ xs h e.
    let seam = c.in-Some.ensures.some in
    no_next g.T.Item.text g.T.Item.admits c.args.text.now c.loop-part.rest.now c.in-Some.part.now c.in-Some.after.now c.loop-part.invariant.passed seam.0 seam.1
    (c.is_text.ensures.no c.if-not-is_text.true) xs h e

pub loop-part-preserved : goal.loop-part-preserved
loop-part-preserved g c =
    let seam = c.in-Some.ensures.some in
    record {
      passed = passed_more g.T.Item.text g.T.Item.admits c.args.text.now c.loop-part.rest.now c.in-Some.part.now c.in-Some.after.now c.loop-part.invariant.passed seam.0 seam.1 (c.is_text.ensures.yes c.if-not-is_text.false);
      utf8 = search rules;
    }

pub returns-clause-yes : goal.returns-clause-yes
returns-clause-yes g c = λ is.
    passed_all g.T.Item.text g.T.Item.admits c.args.text.now c.loop-part.rest.now c.loop-part.invariant.passed c.in_default.ensures.none (c.is_text-2.ensures.yes is)

pub returns-clause-no : goal.returns-clause-no
returns-clause-no g c = λ is xs h e.
    no_last g.T.Item.text g.T.Item.admits c.args.text.now c.loop-part.rest.now c.loop-part.invariant.passed c.in_default.ensures.none (c.is_text-2.ensures.no is) xs h e
