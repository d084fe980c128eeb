-- The functions by which rules deny. Only contracts of private functions speak of it.
use Rattle.std.specs.Prelude.{ℕ, List, [], ◌∷◌, codes}
use Rattle.sync_resolve.specs.declared.callee.Takes.{Takes}
use Rattle.sync_resolve.specs.declared.callee.Takes.TheVariants as takes

-- these stand behind the others that are built in
abbrev pub rules : List (List ℕ × Takes)
rules =
    (codes "requireUser", takes.One) ∷ (codes "requireRole", takes.One) ∷ (codes "requireAccess", takes.One) ∷
    (codes "requireAdmin", takes.Nothing) ∷ []
