-- the winner among leaves, and leaves in order
use Rattle.std.proofs.Common.{◌≡◌, ℕ, zero, suc, ◌-◌, ◌<◌, take, length-append, true, false, ◌&&◌, not, Bool, List, [], ◌∷◌, insert, get_or, refl, sym, ap, ◌∙◌, subst, map, filter, ◌++◌, append-nil, append_assoc, length, Option, Some, None, arith, inl, inr}
use Rattle.std.specs.Prelude.{option_map, nat_lt, nat_eq, if◌then◌else◌}
use Rattle.std.specs.List.{list_any, list_all, All}
use Rattle.std.specs.List.Sorted.{IsPermutation}
use Rattle.std.specs.Cmp.Lexicographic.{slice_cmp}
use Rattle.std.specs.Ordering.{nat_cmp, bool_cmp, ordering_reverse, is_lt, is_gt}
use Rattle.std.specs.Cmp.{IsTotalOrder, bool_cmp_total}
use Rattle.std.specs.declared.cmp.Ordering.{Ordering}
use Rattle.std.specs.declared.cmp.Ordering.TheVariants.{Less, Equal, Greater}
use Rattle.std.proofs.lemmas.Bool.{and_parts, and_from, and_right, cases_Bool, not_from_false}
use Rattle.std.proofs.lemmas.Cmp.{upto, tied_itself, on_total, then_total, back_total}
use Rattle.std.proofs.lemmas.List.Elements.{All-cons, filter-append}
use Rattle.std.proofs.lemmas.List.Folds.{list_all-append}
use Rattle.std.proofs.lemmas.List.Sorted.{IsPermutation-refl, IsPermutation-insert, IsPermutation-cons, IsPermutation-trans, Contains-permutation, All-permutation, length_permutation}
use Rattle.sg_names.specs.declared.rev_id.RevId.{RevId}
use Rattle.sg_names.specs.RevId.{same_rev}
use Rattle.rev_tree.specs.declared.leaf.Leaf.{Leaf}
use Rattle.rev_tree.specs.declared.tree.Node.{Node}
use Rattle.rev_tree.specs.Order.{leaf_cmp, comes_before, sooner, first_leaf, insert_leaf, in_order, leaves_below, falls_by_rev, IsFirst}
use Rattle.sg_names.specs.RevId.{rev_cmp}
use Rattle.rev_tree.specs.Tree.{knows, leaf_at}
use Rattle.rev_tree.proofs.Sames.{same_is_equal}
use Rattle.rev_tree.specs.Rising.{is_below_all, nodes_rise, option_or, last_node, last_alive, last_where, falling, Limit, is_up_to, is_within}
use Rattle.rev_tree.proofs.RevOrder.{rev_total, both_equal, tie_is_equal, within_closed, not_below_itself, not_both_less, within_strictly}
use Rattle.rev_tree.proofs.Rises.{last_has, last_passes}
use Rattle.rev_tree.proofs.Hanging.{leaves_by}

leaf_total : IsTotalOrder leaf_cmp
leaf_total = then_total (on_total (λ (l : Leaf). l.deleted) bool_cmp_total) (back_total (on_total (λ (l : Leaf). l.rev) rev_total))

reversed : (o : Ordering) → is_lt (ordering_reverse o) ≡ is_gt o
reversed Less = refl
reversed Equal = refl
reversed Greater = refl

turned : (a b : Leaf) → comes_before a b ≡ is_gt (leaf_cmp b a)
turned a b = ap is_lt (leaf_total.antisymm a b) ∙ reversed (leaf_cmp b a)

lt_not_gt : (o : Ordering) → is_lt o ≡ true → is_gt o ≡ false
lt_not_gt Less h = refl
lt_not_gt Equal h = refl
lt_not_gt Greater h = cc

not_itself : (a : Leaf) → comes_before a a ≡ false
not_itself a = ap is_lt (tied_itself leaf_total a)

not_both : (a b : Leaf) → comes_before a b ≡ true → comes_before b a ≡ false
not_both a b h = turned b a ∙ lt_not_gt (leaf_cmp a b) h

none_past : (x m l : Leaf) → comes_before x m ≡ false → comes_before m l ≡ false → comes_before x l ≡ false
none_past x m l p q = turned x l ∙ upto leaf_total l m x (sym (turned m l) ∙ q) (sym (turned x m) ∙ p)

none_before_other : (l m : Leaf) (ls : List Leaf) → comes_before m l ≡ false → All (λ x. comes_before x m ≡ false) ls → All (λ x. comes_before x l ≡ false) ls
none_before_other l m ls h all k d within = none_past (get_or ls k d) m l (all k d within) h

wins : (l : Leaf) (ls : List Leaf) → IsFirst (l ∷ ls) (sooner l (first_leaf ls))
wins l [] = record { among = (0, omega arith, refl); none_before = All-cons (λ (x : Leaf). comes_before x l ≡ false) l [] (not_itself l) (λ k d within. absurd (omega arith)) }
wins l (m ∷ ms) =
    let other : Leaf = sooner m (first_leaf ms) in
    let rest = wins m ms in
    let P : Leaf → Type 0 = λ w. IsFirst (l ∷ m ∷ ms) w in
    elim (cases_Bool (comes_before other l)) [
      | inl e ↦ rw e (record { among = (suc rest.among.0, omega arith, rest.among.2); none_before = All-cons (λ (x : Leaf). comes_before x other ≡ false) l (m ∷ ms) (not_both other l e) rest.none_before })
      | inr e ↦ rw e (record { among = (0, omega arith, refl); none_before = All-cons (λ (x : Leaf). comes_before x l ≡ false) l (m ∷ ms) (not_itself l) (none_before_other l other (m ∷ ms) e rest.none_before) })
    ]

-- the first leaf is one before which none comes
pub first_wins : (ls : List Leaf) (w : Leaf) → first_leaf ls ≡ Some w → IsFirst ls w
first_wins [] w h = cc
first_wins (l ∷ ls) w h = let e : sooner l (first_leaf ls) ≡ w = cc in subst (λ (x : Leaf). IsFirst (l ∷ ls) x) e (wins l ls)

-- leaves of which neither comes before the other are one

neither : (o : Ordering) → is_lt o ≡ false → is_gt o ≡ false → o ≡ Equal
neither Less p q = cc
neither Equal p q = refl
neither Greater p q = cc

same_bool : (x y : Bool) → bool_cmp x y ≡ Equal → x ≡ y
same_bool true true h = refl
same_bool true false h = cc
same_bool false true h = cc
same_bool false false h = refl

same_leaf : (a b : Leaf) → leaf_cmp a b ≡ Equal → a ≡ b
same_leaf a b h =
    let parts = both_equal (bool_cmp a.deleted b.deleted) (rev_cmp b.rev a.rev) h in
    let deleted = same_bool a.deleted b.deleted parts.0 in
    let rev : a.rev ≡ b.rev = sym (tie_is_equal b.rev a.rev parts.1) in
    ap (λ (r : RevId). record a { rev = r }) rev ∙ ap (λ (d : Bool). record a { rev = b.rev; deleted = d }) deleted

-- there is one leaf before which none comes
pub first_alone : (ls : List Leaf) (a b : Leaf) → IsFirst ls a → IsFirst ls b → a ≡ b
first_alone ls a b p q =
    let not_b : comes_before b a ≡ false = rw q.among.2 at (p.none_before q.among.0 b q.among.1) in
    let not_a : comes_before a b ≡ false = rw p.among.2 at (q.none_before p.among.0 a p.among.1) in
    same_leaf a b (neither (leaf_cmp a b) not_a (sym (turned b a) ∙ not_b))

-- the leaves are the revisions that are no parent
pub leaves_known : (parent : RevId → Bool) (nodes : List Node) (rev : RevId) → list_any (λ (l : Leaf). same_rev l.rev rev) (leaves_by parent nodes) ≡ (knows nodes rev && not (parent rev))
leaves_known parent [] rev = refl
leaves_known parent (n ∷ ns) rev =
    let rest = leaves_known parent ns rev in
    elim (cases_Bool (same_rev n.rev rev)) [
      | inl s ↦
          let is : parent rev ≡ parent n.rev = ap parent (sym (same_is_equal n.rev rev s)) in
          elim (cases_Bool (parent n.rev)) [
            | inl p ↦ let here : parent rev ≡ true = is ∙ p in rw (p, s, here) (rw here at rest ∙ and_right (knows ns rev) false refl)
            | inr p ↦ let here : parent rev ≡ false = is ∙ p in rw (p, s, here) refl
          ]
      | inr s ↦ elim (cases_Bool (parent n.rev)) [ inl p ↦ rw (p, s) rest | inr p ↦ rw (p, s) rest ]
    ]

-- putting a leaf in its place

inserted : (l : Leaf) (ls : List Leaf) → (i : ℕ) × (insert_leaf l ls ≡ insert ls i l)
inserted l [] = (0, refl)
inserted l (m ∷ ms) =
    let rest = inserted l ms in
    elim (cases_Bool (is_lt (rev_cmp l.rev m.rev))) [
      | inl e ↦ (suc rest.0, rw e (ap (λ (xs : List Leaf). m ∷ xs) rest.1))
      | inr e ↦ (0, rw e refl)
    ]

pub same_in_order : (ls : List Leaf) → IsPermutation ls (in_order ls)
same_in_order [] = IsPermutation-refl []
same_in_order (l ∷ ls) =
    let place = inserted l (in_order ls) in
    let put : IsPermutation (l ∷ in_order ls) (insert_leaf l (in_order ls)) = rw place.1 (IsPermutation-insert (in_order ls) place.0 l) in
    IsPermutation-trans (l ∷ ls) (l ∷ in_order ls) (insert_leaf l (in_order ls)) (IsPermutation-cons l ls (in_order ls) (same_in_order ls)) put

lesser : (a b : RevId) → is_lt (rev_cmp a b) ≡ true → not (is_lt (rev_cmp b a)) ≡ true
lesser a b h = not_from_false _ (ap is_lt (rev_total.antisymm b a) ∙ reversed (rev_cmp a b) ∙ lt_not_gt (rev_cmp a b) h)

insert_falls : (l : Leaf) (ls : List Leaf) → falls_by_rev ls ≡ true → falls_by_rev (insert_leaf l ls) ≡ true
insert_falls l [] h = refl
insert_falls l (m ∷ []) h =
    elim (cases_Bool (is_lt (rev_cmp l.rev m.rev))) [
      | inl e ↦ rw e (and_from _ _ (lesser l.rev m.rev e) refl)
      | inr e ↦ rw e (and_from _ _ (not_from_false _ e) refl)
    ]
insert_falls l (m ∷ n ∷ more) h =
    let parts = and_parts (not (is_lt (rev_cmp m.rev n.rev))) (falls_by_rev (n ∷ more)) h in
    let rest = insert_falls l (n ∷ more) parts.1 in
    elim (cases_Bool (is_lt (rev_cmp l.rev m.rev))) [
      | inl e ↦
          elim (cases_Bool (is_lt (rev_cmp l.rev n.rev))) [
            | inl s ↦ let tail : falls_by_rev (n ∷ insert_leaf l more) ≡ true = rw s at rest in rw (e, s) (and_from _ _ parts.0 tail)
            | inr s ↦ let tail : falls_by_rev (l ∷ n ∷ more) ≡ true = rw s at rest in rw (e, s) (and_from _ _ (lesser l.rev m.rev e) tail)
          ]
      | inr e ↦ rw e (and_from _ _ (not_from_false _ e) h)
    ]

pub order_falls : (ls : List Leaf) → falls_by_rev (in_order ls) ≡ true
order_falls [] = refl
order_falls (l ∷ ls) = insert_falls l (in_order ls) (order_falls ls)

-- the first leaf of the same leaves in another order
pub first_permuted : (xs ys : List Leaf) → IsPermutation xs ys → first_leaf xs ≡ first_leaf ys
first_permuted [] [] h = refl
first_permuted [] (y ∷ ys) h = absurd (omega (arith, length_permutation [] (y ∷ ys) h))
first_permuted (x ∷ xs) [] h = absurd (omega (arith, length_permutation (x ∷ xs) [] h))
first_permuted (x ∷ xs) (y ∷ ys) h =
    let a : Leaf = sooner x (first_leaf xs) in
    let b : Leaf = sooner y (first_leaf ys) in
    let first = first_wins (x ∷ xs) a refl in
    let moved : IsFirst (y ∷ ys) a = record { among = Contains-permutation (x ∷ xs) (y ∷ ys) a h first.among; none_before = All-permutation (λ (l : Leaf). comes_before l a ≡ false) (x ∷ xs) (y ∷ ys) h first.none_before } in
    ap (λ (l : Leaf). Some l) (first_alone (y ∷ ys) a b moved (first_wins (y ∷ ys) b refl))

-- the winner among the nodes of leaves that rise

before_alive : (a x : Node) → a.deleted ≡ false → is_lt (rev_cmp x.rev a.rev) ≡ true → comes_before (leaf_at a) (leaf_at x) ≡ true
before_alive a x alive less = elim (cases_Bool x.deleted) [ inl e ↦ rw (alive, e) refl | inr e ↦ rw (alive, e) less ]

before_deleted : (a x : Node) → a.deleted ≡ true → x.deleted ≡ true → is_lt (rev_cmp x.rev a.rev) ≡ true → comes_before (leaf_at a) (leaf_at x) ≡ true
before_deleted a x gone e less = rw (gone, e) less

after_alive : (a x : Node) → a.deleted ≡ true → x.deleted ≡ false → comes_before (leaf_at a) (leaf_at x) ≡ false
after_alive a x gone e = rw (gone, e) refl

picked : (x b : Node) (gone before : Bool) → gone ≡ before → option_map (λ (n : Node). leaf_at n) (option_or (if not gone then Some x else None) (Some b)) ≡ Some (if before then leaf_at b else leaf_at x)
picked x b true true h = refl
picked x b true false h = cc
picked x b false true h = cc
picked x b false false h = refl

picked_alone : (x : Node) (gone : Bool) → option_map (λ (n : Node). leaf_at n) (option_or (if not gone then Some x else None) (Some x)) ≡ Some (leaf_at x)
picked_alone x true = refl
picked_alone x false = refl

best_step : (x : Node) (alive all : Option Node) → ((a : Node) → alive ≡ Some a → (a.deleted ≡ false) × (is_lt (rev_cmp x.rev a.rev) ≡ true)) → (alive ≡ None → (a : Node) → all ≡ Some a → (a.deleted ≡ true) × (is_lt (rev_cmp x.rev a.rev) ≡ true)) → option_map (λ (n : Node). leaf_at n) (option_or (option_or alive (if not x.deleted then Some x else None)) (option_or all (Some x))) ≡ Some (sooner (leaf_at x) (option_map (λ (n : Node). leaf_at n) (option_or alive all)))
best_step x (Some a) all living dead = let is = living a refl in rw (before_alive a x is.0 is.1) refl
best_step x None (Some b) living dead =
    let is = dead refl b refl in
    elim (cases_Bool x.deleted) [
      | inl e ↦ picked x b x.deleted (comes_before (leaf_at b) (leaf_at x)) (e ∙ sym (before_deleted b x is.0 e is.1))
      | inr e ↦ picked x b x.deleted (comes_before (leaf_at b) (leaf_at x)) (e ∙ sym (after_alive b x is.0 e))
    ]
best_step x None None living dead = picked_alone x x.deleted

none_all : (q : Node → Bool) (x : Node) (o : Option Node) → option_or o (if q x then Some x else None) ≡ None → (o ≡ None) × (q x ≡ false)
none_all q x (Some m) h = cc
none_all q x None h = elim (cases_Bool (q x)) [ inl e ↦ let some : Some x ≡ None = rw e at h in cc | inr e ↦ (refl, e) ]

none_passes : (q : Node → Bool) (xs : List Node) → last_node q xs ≡ None → list_all (λ (n : Node). not (q n)) xs ≡ true
none_passes q [] h = refl
none_passes q (x ∷ xs) h = let parts = none_all q x (last_node q xs) h in and_from _ _ (not_from_false (q x) parts.1) (none_passes q xs parts.0)

was_alive : (deleted : Bool) → not (true && deleted) ≡ true → deleted ≡ false
was_alive true h = cc
was_alive false h = refl

was_deleted : (deleted : Bool) → not (not (true && deleted)) ≡ true → deleted ≡ true
was_deleted true h = refl
was_deleted false h = cc

pub best_wins : (xs : List Node) → nodes_rise xs ≡ true → option_map (λ (n : Node). leaf_at n) (option_or (last_alive true xs) (last_alive false xs)) ≡ first_leaf (map (λ (n : Node). leaf_at n) xs)
best_wins [] h = refl
best_wins (x ∷ xs) h =
    let parts = and_parts (is_below_all x.rev xs) (nodes_rise xs) h in
    let alive : Node → Bool = λ n. not (true && n.deleted) in
    let any : Node → Bool = λ n. not (false && n.deleted) in
    best_step x (last_alive true xs) (last_alive false xs)
    (λ a e. (was_alive a.deleted (last_passes alive xs a e), last_has alive (λ (n : Node). is_lt (rev_cmp x.rev n.rev)) xs a e parts.0))
    (λ none a e. (was_deleted a.deleted (last_has any (λ (n : Node). not (alive n)) xs a e (none_passes alive xs none)), last_has any (λ (n : Node). is_lt (rev_cmp x.rev n.rev)) xs a e parts.0))
    ∙ ap (λ (o : Option Leaf). Some (sooner (leaf_at x) o)) (best_wins xs parts.1)

-- leaves that fall are in order

insert_last : (l : Leaf) (ls : List Leaf) → list_all (λ (m : Leaf). is_lt (rev_cmp l.rev m.rev)) ls ≡ true → insert_leaf l ls ≡ ls ++ l ∷ []
insert_last l [] h = refl
insert_last l (m ∷ ms) h =
    let parts = and_parts (is_lt (rev_cmp l.rev m.rev)) (list_all (λ (k : Leaf). is_lt (rev_cmp l.rev k.rev)) ms) h in
    rw parts.0 (ap (λ (ks : List Leaf). m ∷ ks) (insert_last l ms parts.1))

below_falling : (rev : RevId) (xs : List Node) → is_below_all rev xs ≡ true → list_all (λ (m : Leaf). is_lt (rev_cmp rev m.rev)) (falling xs) ≡ true
below_falling rev [] h = refl
below_falling rev (x ∷ xs) h =
    let parts = and_parts (is_lt (rev_cmp rev x.rev)) (is_below_all rev xs) h in
    list_all-append (λ (m : Leaf). is_lt (rev_cmp rev m.rev)) (falling xs) (leaf_at x ∷ []) ∙ and_from _ _ (below_falling rev xs parts.1) (and_from _ _ parts.0 refl)

pub falling_in_order : (xs : List Node) → nodes_rise xs ≡ true → falling xs ≡ in_order (map (λ (n : Node). leaf_at n) xs)
falling_in_order [] h = refl
falling_in_order (x ∷ xs) h =
    let parts = and_parts (is_below_all x.rev xs) (nodes_rise xs) h in
    sym (ap (insert_leaf (leaf_at x)) (sym (falling_in_order xs parts.1)) ∙ insert_last (leaf_at x) (falling xs) (below_falling x.rev xs parts.0))

-- the leaves of lesser generations

pub falling_below : (generation : ℕ) (xs : List Node) → leaves_below generation (falling xs) ≡ falling (filter (λ (n : Node). nat_lt n.rev.generation generation) xs)
falling_below generation [] = refl
falling_below generation (x ∷ xs) =
    let lower : Leaf → Bool = λ l. nat_lt l.rev.generation generation in
    let cut = filter-append lower (falling xs) (leaf_at x ∷ []) in
    let rest = falling_below generation xs in
    elim (cases_Bool (nat_lt x.rev.generation generation)) [
      | inl e ↦ rw (cut, rest, e) refl
      | inr e ↦ rw (cut, rest, e) (append-nil _)
    ]

-- those within a limit, from the last one down

abbrev pub within : Limit → List Node → List Node
within limit xs = filter (λ n. is_within limit n.rev) xs

pub none_within : (limit : Limit) (xs : List Node) → last_where (is_within limit) xs ≡ None → within limit xs ≡ []
none_within limit [] h = refl
none_within limit (x ∷ xs) h =
    let parts = none_all (λ (n : Node). is_within limit n.rev) x (last_where (is_within limit) xs) h in
    rw parts.1 (none_within limit xs parts.0)

none_less : (rev : RevId) (xs : List Node) → is_below_all rev xs ≡ true → within (record { rev = rev; or_equal = false }) xs ≡ []
none_less rev [] h = refl
none_less rev (x ∷ xs) h =
    let parts = and_parts (is_lt (rev_cmp rev x.rev)) (is_below_all rev xs) h in
    let past : is_within (record { rev = rev; or_equal = false }) x.rev ≡ false = within_strictly rev x.rev ∙ not_both_less rev x.rev parts.0 in
    rw past (none_less rev xs parts.1)

next_step : (limit : Limit) (x : Node) (xs : List Node) (n : Node) (o : Option Node) → last_where (is_within limit) xs ≡ o → nodes_rise (x ∷ xs) ≡ true → option_or o (if is_within limit x.rev then Some x else None) ≡ Some n → ((m : Node) → o ≡ Some m → falling (within limit xs) ≡ leaf_at m ∷ falling (within (record { rev = m.rev; or_equal = false }) xs)) → falling (within limit (x ∷ xs)) ≡ leaf_at n ∷ falling (within (record { rev = n.rev; or_equal = false }) (x ∷ xs))
next_step limit x xs n (Some m) e h is rest =
    let one : m ≡ n = cc in
    let parts = and_parts (is_below_all x.rev xs) (nodes_rise xs) h in
    let some : last_where (is_within limit) xs ≡ Some n = e ∙ ap (λ (k : Node). Some k) one in
    let less : is_lt (rev_cmp x.rev n.rev) ≡ true = last_has (λ (k : Node). is_within limit k.rev) (λ (k : Node). is_lt (rev_cmp x.rev k.rev)) xs n some parts.0 in
    let passes : is_within limit n.rev ≡ true = last_passes (λ (k : Node). is_within limit k.rev) xs n some in
    let here : is_within limit x.rev ≡ true = within_closed limit x.rev n.rev less passes in
    let below : is_within (record { rev = n.rev; or_equal = false }) x.rev ≡ true = within_strictly n.rev x.rev ∙ less in
    let tail : falling (within limit xs) ≡ leaf_at n ∷ falling (within (record { rev = n.rev; or_equal = false }) xs) = rw one at (rest m refl) in
    rw (here, below) (ap (λ (ls : List Leaf). ls ++ leaf_at x ∷ []) tail)
next_step limit x xs n None e h is rest =
    elim (cases_Bool (is_within limit x.rev)) [
      | inl here ↦
          let some : Some x ≡ Some n = rw here at is in
          let one : x ≡ n = cc in
          let parts = and_parts (is_below_all x.rev xs) (nodes_rise xs) h in
          let none = none_within limit xs e in
          let itself : is_within (record { rev = x.rev; or_equal = false }) x.rev ≡ false = within_strictly x.rev x.rev ∙ not_below_itself x.rev in
          let own : falling (within limit (x ∷ xs)) ≡ leaf_at x ∷ falling (within (record { rev = x.rev; or_equal = false }) (x ∷ xs)) = rw (here, none) (rw (itself, none_less x.rev xs parts.0) refl) in
          subst (λ (k : Node). falling (within limit (x ∷ xs)) ≡ leaf_at k ∷ falling (within (record { rev = k.rev; or_equal = false }) (x ∷ xs))) one own
      | inr here ↦ let some : None ≡ Some n = rw here at is in cc
    ]

pub next_leaf : (limit : Limit) (xs : List Node) (n : Node) → nodes_rise xs ≡ true → last_where (is_within limit) xs ≡ Some n → falling (within limit xs) ≡ leaf_at n ∷ falling (within (record { rev = n.rev; or_equal = false }) xs)
next_leaf limit [] n h is = cc
next_leaf limit (x ∷ xs) n h is =
    next_step limit x xs n (last_where (is_within limit) xs) refl h is (λ m e. next_leaf limit xs m (and_parts (is_below_all x.rev xs) (nodes_rise xs) h).1 e)

past_none : (digest : List ℕ) → is_up_to false (slice_cmp nat_cmp digest []) ≡ false
past_none [] = refl
past_none (d ∷ ds) = refl

-- below the least revision of a generation are those of lesser ones
pub below_generation : (generation : ℕ) (rev : RevId) → is_within (record { rev = record { generation = generation; digest = [] }; or_equal = false }) rev ≡ nat_lt rev.generation generation
below_generation generation rev =
    elim (cases_Bool (nat_lt rev.generation generation)) [
      | inl e ↦ rw e refl
      | inr e ↦ elim (cases_Bool (nat_eq rev.generation generation)) [ inl s ↦ rw (e, s) (past_none rev.digest) | inr s ↦ rw (e, s) refl ]
    ]

pub within_generation : (generation : ℕ) (xs : List Node) → within (record { rev = record { generation = generation; digest = [] }; or_equal = false }) xs ≡ filter (λ (n : Node). nat_lt n.rev.generation generation) xs
within_generation generation [] = refl
within_generation generation (x ∷ xs) =
    let here = below_generation generation x.rev in
    elim (cases_Bool (nat_lt x.rev.generation generation)) [
      | inl e ↦ let in_it = here ∙ e in rw (in_it, e) (ap (λ (ns : List Node). x ∷ ns) (within_generation generation xs))
      | inr e ↦ let out = here ∙ e in rw (out, e) (within_generation generation xs)
    ]

-- one revision more of those within a limit
revs_next : (n : Leaf) (rest : List Leaf) (revs all : List RevId) (left most : ℕ) → most - length revs ≡ suc left → most - length (revs ++ n.rev ∷ []) ≡ left → revs ++ map (λ (l : Leaf). l.rev) (take (most - length revs) (n ∷ rest)) ≡ all → (revs ++ n.rev ∷ []) ++ map (λ (l : Leaf). l.rev) (take (most - length (revs ++ n.rev ∷ [])) rest) ≡ all
revs_next n rest revs all left most before after so_far =
    let old : revs ++ map (λ (l : Leaf). l.rev) (take (suc left) (n ∷ rest)) ≡ all = rw before at so_far in
    rw after (append_assoc revs (n.rev ∷ []) (map (λ (l : Leaf). l.rev) (take left rest)) ∙ old)

pub revs_step : (limit : Limit) (xs : List Node) (n : Node) (revs all : List RevId) (most : ℕ) → nodes_rise xs ≡ true → last_where (is_within limit) xs ≡ Some n → length revs < most → revs ++ map (λ (l : Leaf). l.rev) (take (most - length revs) (falling (within limit xs))) ≡ all → (revs ++ n.rev ∷ []) ++ map (λ (l : Leaf). l.rev) (take (most - length (revs ++ n.rev ∷ [])) (falling (within (record { rev = n.rev; or_equal = false }) xs))) ≡ all
revs_step limit xs n revs all most rising is room so_far =
    let left : ℕ = most - length (revs ++ n.rev ∷ []) in
    let more : most - length revs ≡ suc left = omega (arith, length-append revs (n.rev ∷ [])) in
    revs_next (leaf_at n) (falling (within (record { rev = n.rev; or_equal = false }) xs)) revs all left most more refl (rw (next_leaf limit xs n rising is) at so_far)

take_none : (k : ℕ) → map (λ (l : Leaf). l.rev) (take k []) ≡ []
take_none zero = refl
take_none (suc k) = refl

-- where none is left they are all
pub revs_end : (limit : Limit) (xs : List Node) (revs all : List RevId) (k : ℕ) → last_where (is_within limit) xs ≡ None → revs ++ map (λ (l : Leaf). l.rev) (take k (falling (within limit xs))) ≡ all → revs ≡ all
revs_end limit xs revs all k is so_far =
    let none : within limit xs ≡ [] = none_within limit xs is in
    let old : revs ++ map (λ (l : Leaf). l.rev) (take k []) ≡ all = rw none at so_far in
    sym (append-nil revs) ∙ ap (λ (rs : List RevId). revs ++ rs) (sym (take_none k)) ∙ old
