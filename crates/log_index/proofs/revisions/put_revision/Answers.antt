use Rattle.std.proofs.Common.{◌≡◌, ◌∙◌, ap, sym, rules, ℕ, List, Option, None, Some}
use Rattle.std.specs.Prelude.{string_bytes}
use Rattle.std.specs.BTreeMap.{get_by}
use Rattle.std.specs.BTreeMap.Entry.{entry_value, map_with_value}
use Rattle.std.specs.Ordering.{nat_cmp, ordering_then}
use Rattle.std.specs.Cmp.Lexicographic.{slice_cmp}
use Rattle.log_index.specs.Representation.{repeat_at, seq_in}
use Rattle.log_index.proofs.RevisionKeys.{revision_added}
use Rattle.log_index.proofs.revisions.put_revision.Goals as goal

pub returns-in-Ok-Vacant-clause-ok : goal.returns-in-Ok-Vacant-clause-ok
returns-in-Ok-Vacant-clause-ok c = λ other r.
    let kept = map_with_value c.in-Ok-Vacant.field-0 c.args.seq in
    let same : kept ≡ c.revisions-in-Ok-Vacant-1.given.0 = search rules in
    ap (λ m. seq_in m other r) (sym same)
    ∙ revision_added c.args.revisions.now kept c.args.first c.args.rev.now c.in_ok-digest.digest c.args.seq (c.in_ok-digest.ensures.ok ∙ c.as_str.ensures.value) (c.in-Ok-Vacant.ensures.update.0 c.args.seq) other r

pub returns-in-Ok-Vacant-clause-again : goal.returns-in-Ok-Vacant-clause-again
returns-in-Ok-Vacant-clause-again c = λ other.
    let none : None ≡ entry_value c.in-Ok-Vacant.field-0 = search rules in
    ap (λ (o : Option ℕ). repeat_at c.args.repeats.now o c.args.seq other)
    (none ∙ c.in-Ok-Vacant.ensures.value
    ∙ ap (λ (d : List ℕ). get_by (λ k. ordering_then (ordering_then (nat_cmp c.args.first k.0) (nat_cmp c.args.rev.now.generation k.1)) (slice_cmp nat_cmp d (string_bytes k.2))) c.args.revisions.now)
    (c.in_ok-digest.ensures.ok ∙ c.as_str.ensures.value))

pub returns-in-Ok-Occupied-clause-ok : goal.returns-in-Ok-Occupied-clause-ok
returns-in-Ok-Occupied-clause-ok c = λ other r.
    let kept = map_with_value c.in-Ok-Occupied.field-0 c.args.seq in
    let written = c.insert-in-Ok-Occupied.ensures.written.1 in
    let same : kept ≡ c.revisions-in-Ok-Occupied-1.given.0 = search rules in
    ap (λ m. seq_in m other r) (sym same)
    ∙ revision_added c.args.revisions.now kept c.args.first c.args.rev.now c.in_ok-digest.digest c.args.seq (c.in_ok-digest.ensures.ok ∙ c.as_str.ensures.value) (c.in-Ok-Occupied.ensures.update.0 c.args.seq) other r

pub returns-in-Ok-Occupied-clause-again : goal.returns-in-Ok-Occupied-clause-again
returns-in-Ok-Occupied-clause-again c = λ other.
    let here : Some c.get.result.now ≡ entry_value c.in-Ok-Occupied.field-0 = search rules in
    c.in_ok-put_repeat-in-Ok-Occupied.ensures.ok other
    ∙ ap (λ (o : Option ℕ). repeat_at c.args.repeats.now o c.args.seq other)
    (here ∙ c.in-Ok-Occupied.ensures.value
    ∙ ap (λ (d : List ℕ). get_by (λ k. ordering_then (ordering_then (nat_cmp c.args.first k.0) (nat_cmp c.args.rev.now.generation k.1)) (slice_cmp nat_cmp d (string_bytes k.2))) c.args.revisions.now)
    (c.in_ok-digest.ensures.ok ∙ c.as_str.ensures.value))
