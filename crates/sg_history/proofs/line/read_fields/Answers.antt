use Rattle.std.proofs.Common.{◌∙◌, ◌∷◌, IfErr, IfOk, List, ℕ, ap, codes, subst, sym}
use Rattle.sg_history.specs.Faults.{HasReason, IsFault}
use Rattle.sg_history.specs.Line.{AreRead}
use Rattle.sg_history.specs.Pieces.{pieces}
use Rattle.sg_history.proofs.Tests.{other, same}
use Rattle.sg_history.proofs.line.read_fields.Goals as goal

pub returns-in_default-clause-ok : goal.returns-in_default-clause-ok
returns-in_default-clause-ok c =
    subst (λ (fs : List (List ℕ)). IfOk c.read_texts.result (λ e. AreRead fs e)) (sym c.in_default.ensures.pieces) c.read_texts.ensures.ok

pub returns-in_default-clause-reason : goal.returns-in_default-clause-reason
returns-in_default-clause-reason c =
    subst (λ (fs : List (List ℕ)). IfErr c.read_texts.result (HasReason (IsFault fs))) (sym c.in_default.ensures.pieces) c.read_texts.ensures.reason

pub returns-then-is_sync-clause-ok : goal.returns-then-is_sync-clause-ok
returns-then-is_sync-clause-ok c =
    let kind = same c.is_sync.result c.in-Some.kind.now (codes "S") c.is_sync.ensures c.if-is_sync.true in
    let fields = c.in-Some.ensures.pieces ∙ ap (λ (k : List ℕ). k ∷ pieces 9 c.in-Some.behind.now) kind in
    subst (λ (fs : List (List ℕ)). IfOk c.read_sync.result (λ e. AreRead fs e)) (sym fields) c.read_sync.ensures.ok

pub returns-then-is_sync-clause-reason : goal.returns-then-is_sync-clause-reason
returns-then-is_sync-clause-reason c =
    let kind = same c.is_sync.result c.in-Some.kind.now (codes "S") c.is_sync.ensures c.if-is_sync.true in
    let fields = c.in-Some.ensures.pieces ∙ ap (λ (k : List ℕ). k ∷ pieces 9 c.in-Some.behind.now) kind in
    subst (λ (fs : List (List ℕ)). IfErr c.read_sync.result (HasReason (IsFault fs))) (sym fields) c.read_sync.ensures.reason

pub read_behind-requires : goal.read_behind-requires
read_behind-requires c = other c.is_sync.result c.in-Some.kind.now (codes "S") c.is_sync.ensures c.if-is_sync.false

pub returns-else-is_sync-clause-ok : goal.returns-else-is_sync-clause-ok
returns-else-is_sync-clause-ok c =
    subst (λ (fs : List (List ℕ)). IfOk c.read_behind.result (λ e. AreRead fs e)) (sym c.in-Some.ensures.pieces) c.read_behind.ensures.ok

pub returns-else-is_sync-clause-reason : goal.returns-else-is_sync-clause-reason
returns-else-is_sync-clause-reason c =
    subst (λ (fs : List (List ℕ)). IfErr c.read_behind.result (HasReason (IsFault fs))) (sym c.in-Some.ensures.pieces) c.read_behind.ensures.reason
