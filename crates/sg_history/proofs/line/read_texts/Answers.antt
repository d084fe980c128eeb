use Rattle.std.proofs.Common.{◌≡◌, ◌∷◌, IfErr, IfOk, List, ℕ, ◌∙◌, Bor, arith, codes, map, subst, sym}
use Rattle.std.proofs.lemmas.Grind.{common_steps}
use Rattle.std.proofs.lemmas.List.{length-map}
use Rattle.sg_history.specs.Faults.{HasReason, IsFault}
use Rattle.sg_history.specs.Line.{AreRead}
use Rattle.sg_history.proofs.FaultLemmas.{sync_alone}
use Rattle.sg_history.proofs.line.read_texts.Goals as goal

pub returns-in-W : goal.returns-in-W
returns-in-W c =
    let kind : c.args.kind.now ≡ codes "W" = grind (arith, common_steps) in
    let texts = map (λ p. p.now) c.args.texts.now in
    record {
      ok = subst (λ (k : List ℕ). IfOk c.read_write_entry.result (λ e. AreRead (k ∷ texts) e)) (sym kind) c.read_write_entry.ensures.ok;
      reason = subst (λ (k : List ℕ). IfErr c.read_write_entry.result (HasReason (IsFault (k ∷ texts)))) (sym kind) c.read_write_entry.ensures.reason;
    }

pub returns-in-U : goal.returns-in-U
returns-in-U c =
    let kind : c.args.kind.now ≡ codes "U" = grind (arith, common_steps) in
    let texts = map (λ p. p.now) c.args.texts.now in
    record {
      ok = subst (λ (k : List ℕ). IfOk c.read_put_user.result (λ e. AreRead (k ∷ texts) e)) (sym kind) c.read_put_user.ensures.ok;
      reason = subst (λ (k : List ℕ). IfErr c.read_put_user.result (HasReason (IsFault (k ∷ texts)))) (sym kind) c.read_put_user.ensures.reason;
    }

pub returns-in-R : goal.returns-in-R
returns-in-R c =
    let kind : c.args.kind.now ≡ codes "R" = grind (arith, common_steps) in
    let texts = map (λ p. p.now) c.args.texts.now in
    record {
      ok = subst (λ (k : List ℕ). IfOk c.read_put_role.result (λ e. AreRead (k ∷ texts) e)) (sym kind) c.read_put_role.ensures.ok;
      reason = subst (λ (k : List ℕ). IfErr c.read_put_role.result (HasReason (IsFault (k ∷ texts)))) (sym kind) c.read_put_role.ensures.reason;
    }

pub returns-in-DU : goal.returns-in-DU
returns-in-DU c =
    let kind : c.args.kind.now ≡ codes "DU" = grind (arith, common_steps) in
    let texts = map (λ p. p.now) c.args.texts.now in
    record {
      ok = subst (λ (k : List ℕ). IfOk c.read_drop_user.result (λ e. AreRead (k ∷ texts) e)) (sym kind) c.read_drop_user.ensures.ok;
      reason = subst (λ (k : List ℕ). IfErr c.read_drop_user.result (HasReason (IsFault (k ∷ texts)))) (sym kind) c.read_drop_user.ensures.reason;
    }

pub returns-in-DR : goal.returns-in-DR
returns-in-DR c =
    let kind : c.args.kind.now ≡ codes "DR" = grind (arith, common_steps) in
    let texts = map (λ p. p.now) c.args.texts.now in
    record {
      ok = subst (λ (k : List ℕ). IfOk c.read_drop_role.result (λ e. AreRead (k ∷ texts) e)) (sym kind) c.read_drop_role.ensures.ok;
      reason = subst (λ (k : List ℕ). IfErr c.read_drop_role.result (HasReason (IsFault (k ∷ texts)))) (sym kind) c.read_drop_role.ensures.reason;
    }

pub returns-in-X : goal.returns-in-X
returns-in-X c =
    let kind : c.args.kind.now ≡ codes "X" = grind (arith, common_steps) in
    let texts = map (λ p. p.now) c.args.texts.now in
    record {
      ok = subst (λ (k : List ℕ). IfOk c.read_unused.result (λ e. AreRead (k ∷ texts) e)) (sym kind) c.read_unused.ensures.ok;
      reason = subst (λ (k : List ℕ). IfErr c.read_unused.result (HasReason (IsFault (k ∷ texts)))) (sym kind) c.read_unused.ensures.reason;
    }

pub returns-in-S-clause-reason : goal.returns-in-S-clause-reason
returns-in-S-clause-reason c =
    let kind : c.args.kind.now ≡ codes "S" = grind (arith, common_steps) in
    let texts = map (λ p. p.now) c.args.texts.now in
    sync_alone c.args.kind.now texts kind (length-map c.args.texts.now (λ (p : Bor (List ℕ)). p.now) ∙ c.requires kind)
