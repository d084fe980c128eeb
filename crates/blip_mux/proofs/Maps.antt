-- The finite map of a tree's entries, as keys come and go.
use Rattle.std.proofs.Common.{◌≡◌, ℕ, Bool, true, false, cond, List, [], ◌∷◌, Some, None, refl, sym, ap, ◌∙◌}
use Rattle.std.specs.Prelude.{Option, Result, Ok, Err, OnOk, OnErr}
use Rattle.std.specs.Map.{lookup}
use Rattle.std.specs.BTreeMap.{is_at}
use Rattle.std.specs.Ordering.{nat_cmp, eq_by_cmp}
use Rattle.std.specs.Cmp.{nat_cmp_total, unsigned_tied}
use Rattle.std.specs.FinMap as map
use Rattle.std.proofs.lemmas.Bool.{eqb-true}
use Rattle.blip_mux.proofs.Sets.{tied_both}

module _ {X : Type 0} where
  found : (es : List (ℕ × X)) (q : ℕ) → map.find nat_cmp q es ≡ lookup (is_at (nat_cmp q)) es
  found [] q = refl
  found (e ∷ es) q = ap (cond (eq_by_cmp nat_cmp q e.0) (Some e.1)) (found es q)

  looked_up : (es : List (ℕ × X)) (q : ℕ) → map.get (map.from_entries {R = nat_cmp} es) q ≡ lookup (is_at (nat_cmp q)) es
  looked_up es q = map.get-from_entries nat_cmp_total es q ∙ found es q

  -- what a tree has at a key, its map has
  pub read : (es : List (ℕ × X)) (m : map.FinMap nat_cmp X) (q : ℕ) → map.from_entries es ≡ m → lookup (is_at (nat_cmp q)) es ≡ map.get m q
  read es m q e = sym (looked_up es q) ∙ ap (λ (n : map.FinMap nat_cmp X). map.get n q) e

  pub put : (old new : List (ℕ × X)) (k : ℕ) (v : X)
      → ((q : ℕ) → lookup (is_at (nat_cmp q)) new ≡ cond (eq_by_cmp nat_cmp k q) (Some v) (lookup (is_at (nat_cmp q)) old))
      → map.from_entries {R = nat_cmp} new ≡ map.insert (map.from_entries old) k v
  put old new k v each = map.same_map nat_cmp_total map.nat_cmp-IsAntisymmetric _ _ (λ q.
      looked_up new q ∙ each q
      ∙ ap (λ (b : Bool). cond b (Some v) (lookup (is_at (nat_cmp q)) old)) (tied_both k q)
      ∙ ap (λ (x : Option X). cond (eq_by_cmp nat_cmp q k) (Some v) x) (sym (looked_up old q))
      ∙ sym (map.get-insert nat_cmp_total (map.from_entries old) k v q))

  pub removed : (old new : List (ℕ × X)) (k : ℕ)
      → ((q : ℕ) → lookup (is_at (nat_cmp q)) new ≡ cond (eq_by_cmp nat_cmp k q) None (lookup (is_at (nat_cmp q)) old))
      → map.from_entries {R = nat_cmp} new ≡ map.remove (map.from_entries old) k
  removed old new k each = map.same_map nat_cmp_total map.nat_cmp-IsAntisymmetric _ _ (λ q.
      looked_up new q ∙ each q
      ∙ ap (λ (b : Bool). cond b None (lookup (is_at (nat_cmp q)) old)) (tied_both k q)
      ∙ ap (λ (x : Option X). cond (eq_by_cmp nat_cmp q k) None x) (sym (looked_up old q))
      ∙ sym (map.get-remove nat_cmp_total (map.from_entries old) k q))

  same_else : (b : Bool) (x y : Option X) → (b ≡ true → x ≡ y) → cond b x y ≡ y
  same_else true x y e = e refl
  same_else false x y e = refl

  -- to put what is there changes nothing
  pub put_again : (m : map.FinMap nat_cmp X) (k : ℕ) (v : X) → Some v ≡ map.get m k → map.insert m k v ≡ m
  put_again m k v e = map.same_map nat_cmp_total map.nat_cmp-IsAntisymmetric _ _ (λ q.
      map.get-insert nat_cmp_total m k v q
      ∙ same_else (eq_by_cmp nat_cmp q k) (Some v) (map.get m q) (λ t. e ∙ ap (map.get m) (sym (eqb-true q k (sym (unsigned_tied q k) ∙ t)))))

  -- a value is written where a tree has lent it
  pub written : (old new : List (ℕ × X)) (m : map.FinMap nat_cmp X) (k : ℕ) (v : X) → map.from_entries old ≡ m
      → ((q : ℕ) → lookup (is_at (nat_cmp q)) new ≡ cond (eq_by_cmp nat_cmp k q) (Some v) (lookup (is_at (nat_cmp q)) old))
      → map.from_entries new ≡ map.insert m k v
  written old new m k v e each = put old new k v each ∙ ap (λ (n : map.FinMap nat_cmp X). map.insert n k v) e

  -- the value that was there is written again
  pub written_again : (old new : List (ℕ × X)) (m : map.FinMap nat_cmp X) (k : ℕ) (v : X) → map.from_entries old ≡ m → Some v ≡ map.get m k
      → ((q : ℕ) → lookup (is_at (nat_cmp q)) new ≡ cond (eq_by_cmp nat_cmp k q) (Some v) (lookup (is_at (nat_cmp q)) old))
      → map.from_entries new ≡ m
  written_again old new m k v e there each = written old new m k v e each ∙ put_again m k v there

  -- what was put at a key is removed as what stood there
  pub remove_put : (m : map.FinMap nat_cmp X) (k : ℕ) (v : X) → map.remove (map.insert m k v) k ≡ map.remove m k
  remove_put m k v = map.same_map nat_cmp_total map.nat_cmp-IsAntisymmetric _ _ (λ q.
      map.get-remove nat_cmp_total (map.insert m k v) k q
      ∙ none_both (eq_by_cmp nat_cmp q k) (map.get (map.insert m k v) q) (map.get m q) (λ off. map.get-insert nat_cmp_total m k v q ∙ ap (λ (b : Bool). cond b (Some v) (map.get m q)) off)
      ∙ sym (map.get-remove nat_cmp_total m k q)) where
        none_both : (b : Bool) (x y : Option X) → (b ≡ false → x ≡ y) → cond b None x ≡ cond b None y
        none_both true x y e = refl
        none_both false x y e = e refl

  pub put_removed : (old new : List (ℕ × X)) (m : map.FinMap nat_cmp X) (k : ℕ) (v : X) → map.from_entries old ≡ m
      → ((q : ℕ) → lookup (is_at (nat_cmp q)) new ≡ cond (eq_by_cmp nat_cmp k q) (Some v) (lookup (is_at (nat_cmp q)) old))
      → map.remove (map.from_entries new) k ≡ map.remove m k
  put_removed old new m k v e each = ap (λ (n : map.FinMap nat_cmp X). map.remove n k) (written old new m k v e each) ∙ remove_put m k v

-- ---- what holds of an answer

pub on_ok : {A E : Type 0} (r : Result A E) (P : Type 0) → P → OnOk r P
on_ok (Ok x) P h = h
on_ok (Err e) P h = tt

pub on_err : {A E : Type 0} (r : Result A E) (P : Type 0) → P → OnErr r P
on_err (Ok x) P h = tt
on_err (Err e) P h = h

pub err_too : {A E : Type 0} (r : Result A E) (P Q : Type 0) → OnErr r P → (P → Q) → OnErr r Q
err_too (Ok x) P Q h f = tt
err_too (Err e) P Q h f = f h

pub ok_too : {A E : Type 0} (r : Result A E) (P Q : Type 0) → OnOk r P → (P → Q) → OnOk r Q
ok_too (Ok x) P Q h f = f h
ok_too (Err e) P Q h f = tt
