-- What one step at a place does to a state of counts, which says for each place whether something is held there.
use Rattle.std.specs.Prelude.{◌≡◌, ◌<◌, ◌≤◌, ℕ, Bool}

-- the counts after a step at a place are these, what is held before that place is as it was, and a state that was right up to an
-- earlier place is right up to this one
pub record Dated {S X : Type 0} (count : S → X → ℕ) (held : S → X → ℕ → Bool) (IsUpTo : S → ℕ → Type 0) (old new : S) (at : ℕ) (after : X → ℕ) : Type 0 where
  pub counts : (x : X) → count new x ≡ after x
  pub before : (x : X) (k : ℕ) → k < at → held new x k ≡ held old x k
  pub up_to : (n : ℕ) → n ≤ at → IsUpTo old n → IsUpTo new at
