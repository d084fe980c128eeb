-- the order of revisions
use Rattle.std.proofs.Common.{◌≡◌, ℕ, true, false, Bool, List, refl, sym, ap, ◌∙◌}
use Rattle.std.specs.Ordering.{nat_cmp, ordering_then, ordering_reverse, is_lt, is_eq}
use Rattle.std.specs.Cmp.Lexicographic.{slice_cmp}
use Rattle.std.specs.Cmp.{IsTotalOrder}
use Rattle.std.specs.declared.cmp.Ordering.{Ordering}
use Rattle.std.specs.declared.cmp.Ordering.TheVariants.{Less, Equal, Greater}
use Rattle.std.proofs.lemmas.Bool.{false_from_ne_true}
use Rattle.std.proofs.lemmas.Cmp.{ranked, tied_itself, nat_cmp_total, nat_list_cmp_total, on_total, then_total}
use Rattle.std.proofs.lemmas.Slice.Eq.{bytes_eq-Decides}
use Rattle.std.proofs.lemmas.Map.Text.{is_eq-slice_cmp}
use Rattle.sg_names.specs.declared.rev_id.RevId.{RevId}
use Rattle.sg_names.specs.RevId.{rev_cmp, same_rev}
use Rattle.rev_tree.specs.Rising.{is_up_to, Limit, is_within}
use Rattle.rev_tree.proofs.Sames.{same_is_equal, same_itself}

pub rev_total : IsTotalOrder rev_cmp
rev_total = then_total (on_total (λ (r : RevId). r.generation) nat_cmp_total) (on_total (λ (r : RevId). r.digest) nat_list_cmp_total)

pub is_less : (o : Ordering) → is_lt o ≡ true → o ≡ Less
is_less Less h = refl
is_less Equal h = cc
is_less Greater h = cc

pub both_equal : (o p : Ordering) → ordering_then o p ≡ Equal → (o ≡ Equal) × (p ≡ Equal)
both_equal Less p h = cc
both_equal Equal p h = (refl, h)
both_equal Greater p h = cc

same_number : (x y : ℕ) → nat_cmp x y ≡ Equal → x ≡ y
same_number x y h = rw h at (ranked x y (nat_cmp x y) refl)

same_bytes : (xs ys : List ℕ) → slice_cmp nat_cmp xs ys ≡ Equal → xs ≡ ys
same_bytes xs ys h = (bytes_eq-Decides xs ys).0 (sym (is_eq-slice_cmp xs ys) ∙ ap is_eq h)

-- revisions that tie are one
pub tie_is_equal : (a b : RevId) → rev_cmp a b ≡ Equal → a ≡ b
tie_is_equal a b h =
    let revs = both_equal (nat_cmp a.generation b.generation) (slice_cmp nat_cmp a.digest b.digest) h in
    let generation = same_number a.generation b.generation revs.0 in
    let digest = same_bytes a.digest b.digest revs.1 in
    ap (λ (g : ℕ). record a { generation = g }) generation ∙ ap (λ (d : List ℕ). record a { generation = b.generation; digest = d }) digest

pub lt_trans : (a b c : RevId) → is_lt (rev_cmp a b) ≡ true → is_lt (rev_cmp b c) ≡ true → is_lt (rev_cmp a c) ≡ true
lt_trans a b c p q = ap is_lt (rev_total.trans a b c (is_less (rev_cmp a b) p) (is_less (rev_cmp b c) q))

pub not_below_itself : (a : RevId) → is_lt (rev_cmp a a) ≡ false
not_below_itself a = ap is_lt (tied_itself rev_total a)

-- of two revisions of which one is less, neither is the other
pub less_differs : (a b : RevId) → is_lt (rev_cmp a b) ≡ true → same_rev a b ≡ false
less_differs a b h = false_from_ne_true (same_rev a b) (λ same. let e = same_is_equal a b same in let n : is_lt (rev_cmp b b) ≡ true = rw e at h in let m = not_below_itself b in cc)

pub greater_differs : (a b : RevId) → is_lt (rev_cmp a b) ≡ true → same_rev b a ≡ false
greater_differs a b h = false_from_ne_true (same_rev b a) (λ same. let e = same_is_equal b a same in let n : is_lt (rev_cmp a a) ≡ true = rw e at h in let m = not_below_itself a in cc)

turned_less : (o : Ordering) → is_lt o ≡ false → (o ≡ Equal → ⊥) → is_lt (ordering_reverse o) ≡ true
turned_less Less h n = cc
turned_less Equal h n = absurd (n refl)
turned_less Greater h n = refl

-- of two revisions that differ, one is less
pub less_or_greater : (a b : RevId) → is_lt (rev_cmp a b) ≡ false → same_rev a b ≡ false → is_lt (rev_cmp b a) ≡ true
less_or_greater a b h differs =
    ap is_lt (rev_total.antisymm b a) ∙ turned_less (rev_cmp a b) h (λ e. let one = tie_is_equal a b e in let s : same_rev a b ≡ true = rw one (same_itself b) in cc)

reverse_lt : (o : Ordering) → is_lt o ≡ true → is_lt (ordering_reverse o) ≡ false
reverse_lt Less h = refl
reverse_lt Equal h = cc
reverse_lt Greater h = cc

pub not_both_less : (a b : RevId) → is_lt (rev_cmp a b) ≡ true → is_lt (rev_cmp b a) ≡ false
not_both_less a b h = ap is_lt (rev_total.antisymm b a) ∙ reverse_lt (rev_cmp a b) h

-- what holds of a revision holds of lesser ones
abbrev pub Closed : (RevId → Bool) → Type 0
Closed p = (a b : RevId) → is_lt (rev_cmp a b) ≡ true → p b ≡ true → p a ≡ true

within_by : (limit : Limit) (a b : RevId) (o : Ordering) → rev_cmp b limit.rev ≡ o → is_lt (rev_cmp a b) ≡ true → is_up_to limit.or_equal o ≡ true → is_lt (rev_cmp a limit.rev) ≡ true
within_by limit a b Less e h up = ap is_lt (rev_total.trans a b limit.rev (is_less (rev_cmp a b) h) e)
within_by limit a b Equal e h up = let one = tie_is_equal b limit.rev e in rw one at h
within_by limit a b Greater e h up = cc

-- what is less than a revision within a limit is less than the limit
pub within_less : (limit : Limit) (a b : RevId) → is_lt (rev_cmp a b) ≡ true → is_within limit b ≡ true → is_lt (rev_cmp a limit.rev) ≡ true
within_less limit a b h up = within_by limit a b (rev_cmp b limit.rev) refl h up

pub within_closed : (limit : Limit) → Closed (λ rev. is_within limit rev)
within_closed limit a b h up = ap (is_up_to limit.or_equal) (is_less (rev_cmp a limit.rev) (within_less limit a b h up))

past_by : (o : Ordering) → is_up_to true o ≡ false → is_lt (ordering_reverse o) ≡ true
past_by Less h = cc
past_by Equal h = cc
past_by Greater h = refl

-- what is past a limit that may be reached is greater
pub past_greater : (a b : RevId) → is_up_to true (rev_cmp a b) ≡ false → is_lt (rev_cmp b a) ≡ true
past_greater a b h = ap is_lt (rev_total.antisymm b a) ∙ past_by (rev_cmp a b) h

strictly : (o : Ordering) → is_up_to false o ≡ is_lt o
strictly Less = refl
strictly Equal = refl
strictly Greater = refl

-- a limit that may not be reached
pub within_strictly : (limit rev : RevId) → is_within (record { rev = limit; or_equal = false }) rev ≡ is_lt (rev_cmp rev limit)
within_strictly limit rev = strictly (rev_cmp rev limit)
