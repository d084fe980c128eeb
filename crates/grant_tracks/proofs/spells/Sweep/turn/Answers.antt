use Rattle.std.proofs.Common.{◌≡◌, ◌∙◌, sym, ap, refl, arith, ℕ, ◌+◌, ◌-◌, ◌<◌, Some, None, Option}
use Rattle.std.specs.Prelude.{is_some}
use Rattle.grant_tracks.proofs.Sweeping.{begins, ends, stays, swept_to}
use Rattle.grant_tracks.proofs.spells.Sweep.turn.Goals as goal

before : (n k : ℕ) → n < k → k ≡ k - 1 + 1
before n k below = omega (arith, below)

pub returns-then-holds : goal.returns-then-holds
returns-then-holds c = λ test n s below still is.
    stays c.args.self.now c.args.self.now test (c.args.k - 1) c.args.k (swept_to c.args.self.now test n c.args.k s below still) (before n c.args.k below) refl (sym is ∙ c.if-holds.true ∙ ap (λ (o : Option ℕ). is_some o) (sym c.in-Some.is))

pub returns-in-Some : goal.returns-in-Some
returns-in-Some c = λ test n s below still is.
    ends c.args.self.now (record { list = c.push.new.self; begun = None }) test (c.args.k - 1) c.args.k (swept_to c.args.self.now test n c.args.k s below still) (before n c.args.k below) c.in-Some.from c.in-Some.is c.in_ok-push.ensures.items refl (sym is ∙ c.if-holds.false)

pub returns-then-not-holds : goal.returns-then-not-holds
returns-then-not-holds c = λ test n s below still is.
    stays c.args.self.now c.args.self.now test (c.args.k - 1) c.args.k (swept_to c.args.self.now test n c.args.k s below still) (before n c.args.k below) refl (sym is ∙ c.if-not-holds.true ∙ ap (λ (o : Option ℕ). is_some o) (sym c.in_default.is))

pub returns : goal.returns
returns c = λ test n s below still is.
    begins c.args.self.now (record { list = c.args.self.now.list; begun = Some c.args.k }) test (c.args.k - 1) c.args.k (swept_to c.args.self.now test n c.args.k s below still) (before n c.args.k below) c.in_default.is refl refl (sym is ∙ c.if-not-holds.false)
