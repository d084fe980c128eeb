-- Tests that hold of two make them the same.
use Rattle.std.proofs.Common.{◌≡◌, ℕ, refl, ap, Bool, true, false, ◌&&◌, List, Option, Some, None, nat_eq, arith}
use Rattle.std.proofs.lemmas.Bool.{false≢true, and_parts, and_from, eqb-true}
use Rattle.std.proofs.lemmas.Slice.Eq.{bytes_eq-Decides}
use Rattle.std.specs.Bool.{beq}
use Rattle.std.specs.Str.{bytes_eq}
use Rattle.sg_names.specs.declared.rev_id.RevId.{RevId}
use Rattle.sg_names.specs.RevId.{same_rev}
use Rattle.sg_history.specs.View.{Shown, same_view}

pub same_bytes : (a b : List ℕ) → bytes_eq a b ≡ true → a ≡ b
same_bytes a b h = (bytes_eq-Decides a b).0 h

pub bytes_themselves : (a : List ℕ) → bytes_eq a a ≡ true
bytes_themselves a = (bytes_eq-Decides a a).1 refl

same_marks : (a b : Bool) → beq a b ≡ true → a ≡ b
same_marks true true h = refl
same_marks true false h = absurd (false≢true h)
same_marks false true h = absurd (false≢true h)
same_marks false false h = refl

mark_itself : (a : Bool) → beq a a ≡ true
mark_itself true = refl
mark_itself false = refl

pub number_itself : (n : ℕ) → nat_eq n n ≡ true
number_itself n = grind arith

pub same_revs : (a b : RevId) → same_rev a b ≡ true → a ≡ b
same_revs a b h =
    let parts = and_parts (nat_eq a.generation b.generation) (bytes_eq a.digest b.digest) h in
    let p = eqb-true a.generation b.generation parts.0 in
    let q = same_bytes a.digest b.digest parts.1 in
    λ i. record { generation = p i; digest = q i }

pub rev_itself : (a : RevId) → same_rev a a ≡ true
rev_itself a = and_from (nat_eq a.generation a.generation) (bytes_eq a.digest a.digest) (number_itself a.generation) (bytes_themselves a.digest)

same_shown : (a b : Shown) → same_view (Some a) (Some b) ≡ true → a ≡ b
same_shown a b h =
    let parts = and_parts (nat_eq a.seq b.seq && same_rev a.rev b.rev) (beq a.deleted b.deleted) h in
    let first = and_parts (nat_eq a.seq b.seq) (same_rev a.rev b.rev) parts.0 in
    let p = eqb-true a.seq b.seq first.0 in
    let q = same_revs a.rev b.rev first.1 in
    let r = same_marks a.deleted b.deleted parts.1 in
    λ i. record { seq = p i; rev = q i; deleted = r i }

pub same_views : (a b : Option Shown) → same_view a b ≡ true → a ≡ b
same_views None None h = refl
same_views None (Some b) h = absurd (false≢true h)
same_views (Some a) None h = absurd (false≢true h)
same_views (Some a) (Some b) h = ap (λ (x : Shown). Some x) (same_shown a b h)

pub view_itself : (a : Option Shown) → same_view a a ≡ true
view_itself None = refl
view_itself (Some a) =
    and_from (nat_eq a.seq a.seq && same_rev a.rev a.rev) (beq a.deleted a.deleted) (and_from (nat_eq a.seq a.seq) (same_rev a.rev a.rev) (number_itself a.seq) (rev_itself a.rev)) (mark_itself a.deleted)
