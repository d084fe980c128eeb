use Rattle.std.proofs.Common.{◌≡◌, [], ◌∷◌, ◌++◌, string_bytes, sym, ap, ◌∙◌, subst, append_assoc, arith}
use Rattle.std.proofs.lemmas.List.{take_all}
use Rattle.std.specs.List.Sorted.{IsStrictlySortedBy}
use Rattle.std.specs.Map.{keys_of}
use Rattle.std.specs.String.{string_cmp}
use Rattle.serde_json.specs.View.{items_view}
use Rattle.json_doc.specs.Reading.{trees_of}
use Rattle.json_doc.proofs.ValueTrees.{Entry, trees_of-take_more, fields_of-put_last}
use Rattle.json_doc.proofs.convert.+convert.Goals as goal

pub nodes_of-loop-item-preserved : goal.nodes_of-loop-item-preserved
nodes_of-loop-item-preserved t c =
    c.in_ok-push.ensures.ok
    ∙ rw (c.loop-item.invariant, c.in_ok-node_of.ensures) (sym (trees_of-take_more _ c.loop-item.item-index c.item-item.result (omega arith) c.item-item.is))

pub nodes_of-returns : goal.nodes_of-returns
nodes_of-returns t c =
    c.loop-item.invariant
    ∙ ap (λ vs. trees_of (items_view vs)) (take_all c.loop-item.item-index _ c.loop-item-test.false ∙ c.deref-item-items.ensures.value)

pub members_of-loop-key-preserved : goal.members_of-loop-key-preserved
members_of-loop-key-preserved t c =
    let l = c.loop-key in
    let done = l.invariant.0 in
    let e : Entry = (c.in-Some.key.now, c.in-Some.value.now) in
    let left = c.next.new.self in
    let all : c.args.members.now.entries ≡ done ++ e ∷ left = l.invariant.1 ∙ ap (λ es. done ++ es) c.in-Some.ensures.steps in
    let last = fields_of-put_last done e left (subst (λ es. IsStrictlySortedBy string_cmp (keys_of es)) all c.iter-key-items.ensures.ordered) in
    let named : string_bytes c.in_ok-name.name ≡ string_bytes e.0 = c.in_ok-name.ensures.cases in (
      done ++ e ∷ [],
      all ∙ sym (append_assoc done (e ∷ []) left),
      c.in_ok-insert.ensures.ok ∙ rw (named, c.in_ok-node_of.ensures, l.invariant.2) last,
    )
