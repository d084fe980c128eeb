use Rattle.std.proofs.Common.{◌≡◌, ◌∙◌, sym, ap, subst, arith, rules, ℕ, List, [], ◌∷◌, String, string_bytes}
use Rattle.std.specs.Global.{Global}
use Rattle.std.specs.BTreeMap.{get_by_text}
use Rattle.grant_tracks.specs.Changed.{AreNamesSettled, IsSettled, changed_by, names_changed}
use Rattle.grant_tracks.specs.Reads.{role_channel}
use Rattle.grant_tracks.proofs.Settling.{settled_later}
use Rattle.grant_tracks.proofs.changed.changed_roles.Goals as goal

pub loop-name-init : goal.loop-name-init
loop-name-init c =
    let same : c.into_iter-name-iterator.result ≡ c.args.names.now.entries = search rules in
    record {
      last = omega (arith, ap (names_changed c.args.roles.now) same);
      settled = λ m low rest. subst (λ (es : List (String Global × ℕ)). AreNamesSettled c.args.roles.now es m) same rest;
    }

pub loop-name-preserved : goal.loop-name-preserved
loop-name-preserved c =
    let roles = c.args.roles.now in
    let name = string_bytes c.in-Some.name.now in
    let split : c.loop-name.name-iterator ≡ (c.in-Some.name.now, c.in-Some.field-0-1.now) ∷ c.next.new.self = search rules in
    let one : c.changed_role.result ≡ changed_by (get_by_text roles name) = c.changed_role.ensures.last ∙ ap (λ (r : List ℕ). changed_by (get_by_text roles r)) c.as_str.ensures.value in
    record {
      last = omega (arith, one, c.later-last.ensures, ap (names_changed roles) split, c.loop-name.invariant.last);
      settled = λ m low rest. c.loop-name.invariant.settled m (omega (arith, low, c.later-last.ensures))
          (subst (λ (es : List (String Global × ℕ)). AreNamesSettled roles es m) (sym split) (
            (λ x. settled_later c.changed_role.result m (λ k. role_channel roles name k x) (omega (arith, low, c.later-last.ensures))
                (subst (λ (r : List ℕ). IsSettled c.changed_role.result (λ k. role_channel roles r k x)) c.as_str.ensures.value (c.changed_role.ensures.settled x))),
            rest,
          ));
    }

pub returns-clause-settled : goal.returns-clause-settled
returns-clause-settled c =
    let none : c.loop-name.name-iterator ≡ [] = search rules in
    c.loop-name.invariant.settled c.loop-name.last (omega arith) (subst (λ (es : List (String Global × ℕ)). AreNamesSettled c.args.roles.now es c.loop-name.last) (sym none) tt)
