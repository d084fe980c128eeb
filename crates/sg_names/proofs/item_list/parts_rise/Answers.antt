use Rattle.std.proofs.Common.{◌≡◌, true, false, not, refl, ◌==◌, sym, ap, ◌∙◌, ◌∷◌, rules}
use Rattle.std.specs.Ordering.{is_lt, ordering_index}
use Rattle.std.specs.declared.cmp.Ordering.{Ordering}
use Rattle.std.specs.declared.cmp.Ordering.TheVariants.{Less, Equal, Greater}
use Rattle.sg_names.proofs.Lists.{two_behind, falls_there, behind_more, rises_there}
use Rattle.sg_names.proofs.item_list.parts_rise.Goals as goal

not_less : (o : Ordering) → true ≡ not (ordering_index o == 0) → is_lt o ≡ false
not_less Less e = absurd (cc (e))
not_less Equal e = refl
not_less Greater e = refl

less : (o : Ordering) → false ≡ not (ordering_index o == 0) → is_lt o ≡ true
less Less e = refl
less Equal e = absurd (cc (e))
less Greater e = absurd (cc (e))

pub returns-then-ne : goal.returns-then-ne
returns-then-ne g c = λ xs h e.
    let b = c.loop-part.invariant.behind xs h e in
    let seam = c.in-Some.ensures.some in
    let two = two_behind g.T.Item.text g.T.Item.admits g.T.Rising.order xs c.loop-part.rest.now c.in-Some.part.now c.in-Some.after.now c.first_part.result.now b seam.0 seam.1 c.first_part.ensures in
    let same : c.compare_texts.result ≡ g.T.Rising.order two.first two.second = c.compare_texts.ensures two.first two.second two.first_admitted two.second_admitted two.first_spelled two.second_spelled in
    let falls : is_lt c.compare_texts.result ≡ false = not_less c.compare_texts.result c.if-ne.ensures in
    sym (falls_there g.T.Item.text g.T.Item.admits g.T.Rising.order xs c.loop-part.rest.now c.in-Some.part.now c.first_part.result.now (c.first_part.result.now ∷ c.first_part.ensures.others) b two (sym (ap is_lt same) ∙ falls))

pub loop-part-preserved : goal.loop-part-preserved
loop-part-preserved g c = record {
  behind = λ xs h e.
      let b = c.loop-part.invariant.behind xs h e in
      let seam = c.in-Some.ensures.some in
      let two = two_behind g.T.Item.text g.T.Item.admits g.T.Rising.order xs c.loop-part.rest.now c.in-Some.part.now c.in-Some.after.now c.first_part.result.now b seam.0 seam.1 c.first_part.ensures in
      let same : c.compare_texts.result ≡ g.T.Rising.order two.first two.second = c.compare_texts.ensures two.first two.second two.first_admitted two.second_admitted two.first_spelled two.second_spelled in
      let rising : is_lt c.compare_texts.result ≡ true = less c.compare_texts.result c.if-ne.ensures in
      behind_more g.T.Item.text g.T.Item.admits g.T.Rising.order xs c.loop-part.rest.now c.in-Some.part.now c.in-Some.after.now c.first_part.result.now b c.first_part.ensures two (sym (ap is_lt same) ∙ rising);
  utf8 = search rules;
}

pub returns : goal.returns
returns g c = λ xs h e.
    sym (rises_there g.T.Item.text g.T.Item.admits g.T.Rising.order xs c.loop-part.rest.now (c.loop-part.invariant.behind xs h e) c.in_default.ensures.none)
