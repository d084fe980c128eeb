-- The set of the keys of a tree, as keys come and go.
use Rattle.std.proofs.Common.{◌≡◌, ℕ, Bool, true, false, ◌&&◌, ◌||◌, cond, List, refl, sym, ap, ◌∙◌}
use Rattle.std.specs.Prelude.{not}
use Rattle.std.specs.List.{list_any}
use Rattle.std.specs.Ordering.{nat_cmp, eq_by_cmp}
use Rattle.std.specs.Cmp.{nat_cmp_total, unsigned_tied, nat_eq_equiv}
use Rattle.std.specs.FinSet as set

or_of : (b x : Bool) → cond b true x ≡ (b || x)
or_of true x = refl
or_of false x = refl

and_of : (b x : Bool) → cond b false x ≡ (not b && x)
and_of true x = refl
and_of false x = refl

pub tied_both : (k q : ℕ) → eq_by_cmp nat_cmp k q ≡ eq_by_cmp nat_cmp q k
tied_both k q = unsigned_tied k q ∙ nat_eq_equiv.symm k q ∙ sym (unsigned_tied q k)

pub inserted : (old new : List ℕ) (k : ℕ)
    → ((q : ℕ) → list_any (eq_by_cmp nat_cmp q) new ≡ cond (eq_by_cmp nat_cmp k q) true (list_any (eq_by_cmp nat_cmp q) old))
    → set.from_list {R = nat_cmp} new ≡ set.insert (set.from_list old) k
inserted old new k each = set.same_set nat_cmp_total set.nat_cmp-IsAntisymmetric _ _ (λ q.
    set.contains-from_list nat_cmp_total new q ∙ each q ∙ or_of (eq_by_cmp nat_cmp k q) (list_any (eq_by_cmp nat_cmp q) old)
    ∙ ap (λ (b : Bool). b || list_any (eq_by_cmp nat_cmp q) old) (tied_both k q)
    ∙ ap (λ (b : Bool). eq_by_cmp nat_cmp q k || b) (sym (set.contains-from_list nat_cmp_total old q))
    ∙ sym (set.contains-insert nat_cmp_total (set.from_list old) k q))

pub removed : (old new : List ℕ) (k : ℕ)
    → ((q : ℕ) → list_any (eq_by_cmp nat_cmp q) new ≡ cond (eq_by_cmp nat_cmp k q) false (list_any (eq_by_cmp nat_cmp q) old))
    → set.from_list {R = nat_cmp} new ≡ set.remove (set.from_list old) k
removed old new k each = set.same_set nat_cmp_total set.nat_cmp-IsAntisymmetric _ _ (λ q.
    set.contains-from_list nat_cmp_total new q ∙ each q ∙ and_of (eq_by_cmp nat_cmp k q) (list_any (eq_by_cmp nat_cmp q) old)
    ∙ ap (λ (b : Bool). not b && list_any (eq_by_cmp nat_cmp q) old) (tied_both k q)
    ∙ ap (λ (b : Bool). not (eq_by_cmp nat_cmp q k) && b) (sym (set.contains-from_list nat_cmp_total old q))
    ∙ sym (set.contains-remove nat_cmp_total (set.from_list old) k q))
