-- What is seen where more is declared, and behind a block.
use Rattle.std.proofs.Common.{◌≡◌, List, [], ◌++◌, length, sym, ap, ◌∙◌, append_assoc}
use Rattle.std.proofs.Math.Seq.{take-append_seam}
use Rattle.std.proofs.Math.Nat.{add-sub_cancel}
use Rattle.std.proofs.lemmas.List.{append-nil}
use Rattle.sync_resolve.specs.declared.scope.Scope.{Scope}
use Rattle.sync_resolve.specs.inner.Closing.{left}
use Rattle.sync_resolve.specs.Names.{Variable, more, inside}

pub more_none : (s : Scope) → more s [] ≡ s
unfolding more
more_none s = λ i. record { own = s.own; seen = append-nil s.seen i; block = s.block }

pub more_append : (s : Scope) (a b : List Variable) → more s (a ++ b) ≡ more (more s a) b
unfolding more
more_append s a b = λ i. record { own = s.own; seen = sym (append_assoc s.seen a b) i; block = s.block }

pub left_more : (s : Scope) (added : List Variable) → left (length s.seen) (more (inside s) added) ≡ s
unfolding more inside left
left_more s added = λ i. record { own = s.own; seen = take-append_seam s.seen added i; block = add-sub_cancel s.block 1 i }

pub left_twice : (s : Scope) (a b : List Variable) → left (length s.seen) (more (more (inside s) a) b) ≡ s
left_twice s a b = ap (left (length s.seen)) (sym (more_append (inside s) a b)) ∙ left_more s (a ++ b)
