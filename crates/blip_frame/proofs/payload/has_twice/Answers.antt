use Rattle.std.proofs.Common.{◌≡◌, Bool, true, false, [], ◌∷◌, ◌++◌, sym, ap, ◌∙◌, cond}
use Rattle.std.specs.Cmp.Lexicographic.{slice_cmp}
use Rattle.std.specs.Ordering.{nat_cmp}
use Rattle.std.specs.Str.{bytes_eq}
use Rattle.std.specs.BTreeSet.{contains_by}
use Rattle.std.proofs.lemmas.Bool.{not-true, not-false}
use Rattle.std.proofs.lemmas.Map.Text.{is_eq-slice_cmp}
use Rattle.blip_frame.specs.Payload.{closed_texts}
use Rattle.blip_frame.proofs.Blocks.{still_even, found_twice, more_keys, none_twice, member_more}
use Rattle.blip_frame.proofs.payload.has_twice.Goals as goal

pub returns-then-not-branch : goal.returns-then-not-branch
returns-then-not-branch c =
    let key = c.first_text.result.0 in
    let keys = c.loop-rest.invariant.keys in
    let there : contains_by (λ k. slice_cmp nat_cmp key.now k.now) c.loop-rest.seen ≡ true = not-false _ (sym c.in_ok-insert.ensures.added ∙ c.if-not-branch.true) in
    found_twice (closed_texts c.loop-rest.rest.now) (closed_texts c.first_text.result.1.now) (closed_texts c.first_text-in-loop-rest.result.1.now) key.now c.first_text-in-loop-rest.result.0.now c.first_text.ensures.texts c.first_text-in-loop-rest.ensures.texts keys.0 _ keys.1
    (sym (keys.2 key) ∙ there)

pub loop-rest-preserved : goal.loop-rest-preserved
loop-rest-preserved c =
    let key = c.first_text.result.0 in
    let all = closed_texts c.loop-rest.rest.now in
    let after_key = closed_texts c.first_text.result.1.now in
    let after = closed_texts c.first_text-in-loop-rest.result.1.now in
    let value = c.first_text-in-loop-rest.result.0.now in
    let first = c.first_text.ensures.texts in
    let second = c.first_text-in-loop-rest.ensures.texts in
    let keys = c.loop-rest.invariant.keys in
    let absent : contains_by (λ k. slice_cmp nat_cmp key.now k.now) c.loop-rest.seen ≡ false = not-true _ (sym c.in_ok-insert.ensures.added ∙ c.if-not-branch.false) in
    record {
      closed = c.first_text-in-loop-rest.ensures.rest;
      even = still_even all after_key after key.now value first second c.loop-rest.invariant.even;
      keys = (
        keys.0 ++ key.now ∷ [],
        more_keys all after_key after key.now value first second keys.0 _ keys.1,
        λ q.
            c.in_ok-insert.ensures.updates.0 q
            ∙ ap (λ (b : Bool). cond b true (contains_by (λ k. slice_cmp nat_cmp q.now k.now) c.loop-rest.seen)) (is_eq-slice_cmp key.now q.now)
            ∙ ap (cond (bytes_eq key.now q.now) true) (keys.2 q)
            ∙ sym (member_more q.now key.now keys.0),
        none_twice key.now keys.0 (sym (keys.2 key) ∙ absent) keys.3,
      );
    }
