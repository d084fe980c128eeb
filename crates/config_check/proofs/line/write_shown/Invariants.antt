use Rattle.std.proofs.Common.{◌≡◌, ◌++◌, drop, map}
use Rattle.config_check.specs.Line.{shown}
use Rattle.config_check.proofs.line.write_shown.Given as goal

-- what was put so far and what is left to be put are the whole
abbrev pub invariant-loop-byte : goal.invariant-loop-byte
invariant-loop-byte l = l.out ++ map (λ b. shown b) (drop l.byte-index l.path) ≡ l.fn.out ++ map (λ b. shown b) l.path
