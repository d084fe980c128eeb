-- revisions
use Rattle.std.specs.Prelude.{Bool, ◌&&◌, nat_eq, nat_le, nat_lt, ℕ, List, ◌∷◌, ◌++◌, decimal}
use Rattle.std.specs.Str.{bytes_eq}
use Rattle.std.specs.Ordering.{nat_cmp, ordering_then}
use Rattle.std.specs.Cmp.Lexicographic.{slice_cmp}
use Rattle.std.specs.declared.cmp.Ordering.{Ordering}
use Rattle.sg_names.specs.Grammar.{is_digest}
use Rattle.sg_names.specs.declared.rev_id.RevId.{RevId}

-- the same generation and the same digest
abbrev pub same_rev : RevId → RevId → Bool
same_rev a b = nat_eq a.generation b.generation && bytes_eq a.digest b.digest

-- by generation, then by the digest's bytes
abbrev pub rev_cmp : RevId → RevId → Ordering
rev_cmp a b = ordering_then (nat_cmp a.generation b.generation) (slice_cmp nat_cmp a.digest b.digest)

-- the text `GENERATION-DIGEST`
abbrev pub rev_text : RevId → List ℕ
rev_text r = decimal r.generation ++ 45 ∷ r.digest

-- a revision in the grammar: the generation is from 1 to 4,294,967,295
abbrev pub is_rev : RevId → Bool
is_rev r = nat_le 1 r.generation && nat_lt r.generation 4294967296 && is_digest r.digest
