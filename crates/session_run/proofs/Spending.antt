-- Draws that are made for looks.
use Rattle.std.proofs.Common.{◌≤◌, ℕ, refl, ◌∙◌, arith}
use Rattle.write_path.specs.Origins.{Origin}
use Rattle.session_run.specs.Spent.{most_looks, CanLook, Draws}

-- none were made
pub no_draws : (o : Origin) (left spent : ℕ) → spent ≤ most_looks → Draws o o left left spent spent
no_draws o left spent few = record { origin = refl; least = omega arith; most = omega arith; few = few }

-- some were made, and then more
pub draws_on : (first second third : Origin) (a b c m n k : ℕ) → Draws first second a b m n → Draws second third b c n k → Draws first third a c m k
draws_on first second third a b c m n k p q = record { origin = q.origin ∙ p.origin; least = omega (arith, p.least, q.least); most = omega (arith, p.most, q.most); few = q.few }

-- enough are left for the looks that are left
pub can_still : (first second : Origin) (a b m n : ℕ) → CanLook a m → Draws first second a b m n → CanLook b n
can_still first second a b m n (few, enough) d = (d.few, omega (arith, enough, d.most))
