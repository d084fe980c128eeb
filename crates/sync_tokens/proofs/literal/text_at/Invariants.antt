use Rattle.std.proofs.Common.{◌≡◌, drop, string_bytes}
use Rattle.sync_tokens.specs.Literals.{literal_at, text_from}
use Rattle.sync_tokens.proofs.literal.text_at.Given as goal

abbrev pub invariant-loop-i : goal.invariant-loop-i
invariant-loop-i l = text_from l.quote l.inside (string_bytes l.text) l.i (drop l.i l.chars) ≡ literal_at l.quote l.chars
