use Rattle.std.proofs.Common.{◌≡◌, ◌∷◌, [], Err, ap, refl, ◌∙◌, rules}
use Rattle.std.proofs.lemmas.Result.{err_from_is_err_and}
use Rattle.std.proofs.lemmas.Bool.{and_from}
use Rattle.std.proofs.lemmas.List.Folds.{list_all-append}
use Rattle.sg_names.specs.declared.fault.TextFault.TheVariants.{Bad}
use Rattle.sg_names.proofs.Lists.{next_item, last_item, parts_more, parts_last}
use Rattle.sg_names.proofs.item_list.read_items.Goals as goal

pub returns-in_err-read-clause-bad : goal.returns-in_err-read-clause-bad
returns-in_err-read-clause-bad g c = λ fault xs h e.
    let exit = err_from_is_err_and c.from_residual-in_err-read.result c.from_residual-in_err-read.ensures.1 in
    let inner : c.in_err-read.field-0.0 ≡ Bad = cc in
    let cut = c.in-Some.ensures.some in
    let at = next_item g.T.Item.text g.T.Item.admits c.loop-part.items.items c.args.text.now c.loop-part.rest.now c.in-Some.part.now c.in-Some.after.now xs c.loop-part.invariant.parts cut.0 cut.1 e h in
    c.in_err-read.ensures.bad (ap Err inner) at.item at.admitted at.spelled

pub returns-in_err-read-2-clause-bad : goal.returns-in_err-read-2-clause-bad
returns-in_err-read-2-clause-bad g c = λ fault xs h e.
    let exit = err_from_is_err_and c.from_residual-in_err-read-2.result c.from_residual-in_err-read-2.ensures.1 in
    let inner : c.in_err-read-2.field-0.0 ≡ Bad = cc in
    let at = last_item g.T.Item.text g.T.Item.admits c.loop-part.items.items c.args.text.now c.loop-part.rest.now xs c.loop-part.invariant.parts c.in_default.ensures.none e h in
    c.in_err-read-2.ensures.bad (ap Err inner) at.item at.admitted at.spelled

pub loop-part-preserved : goal.loop-part-preserved
loop-part-preserved g c =
    let cut = c.in-Some.ensures.some in
    let read = c.in_ok-read.ensures.ok in
    record {
      parts = parts_more g.T.Item.text c.loop-part.items.items c.push.new.self.items c.in_ok-read.field-0 c.args.text.now c.loop-part.rest.now c.in-Some.part.now c.in-Some.after.now c.loop-part.invariant.parts cut.0 cut.1 read.0 c.in_ok-push.ensures.items;
      utf8 = search rules;
      admitted = rw c.in_ok-push.ensures.items (list_all-append g.T.Item.admits c.loop-part.items.items (c.in_ok-read.field-0 ∷ []) ∙ and_from _ _ c.loop-part.invariant.admitted (and_from _ _ read.1 refl));
    }

pub returns-clause-ok : goal.returns-clause-ok
returns-clause-ok g c =
    let read = c.in_ok-read-2.ensures.ok in (
      parts_last g.T.Item.text c.loop-part.items.items c.push-2.new.self.items c.in_ok-read-2.field-0 c.args.text.now c.loop-part.rest.now c.loop-part.invariant.parts c.in_default.ensures.none read.0 c.in_ok-push-2.ensures.items,
      rw c.in_ok-push-2.ensures.items (list_all-append g.T.Item.admits c.loop-part.items.items (c.in_ok-read-2.field-0 ∷ []) ∙ and_from _ _ c.loop-part.invariant.admitted (and_from _ _ read.1 refl)),
    )
