-- nodes that rise by revision: where one is found, put, and taken out
use Rattle.std.proofs.Common.{◌≡◌, true, false, ◌||◌, not, Bool, List, [], ◌∷◌, ◌++◌, refl, sym, ap, ◌∙◌, append-nil, append_assoc, Option, Some, None, inl, inr}
use Rattle.std.specs.Prelude.{is_some, if◌then◌else◌}
use Rattle.std.specs.List.{list_all}
use Rattle.std.specs.Ordering.{is_lt}
use Rattle.std.proofs.lemmas.Bool.{and_parts, and_from, cases_Bool, false_from_ne_true}
use Rattle.std.proofs.lemmas.List.Elements.{filter-append}
use Rattle.sg_names.specs.declared.rev_id.RevId.{RevId}
use Rattle.sg_names.specs.RevId.{rev_cmp, same_rev}
use Rattle.rev_tree.specs.declared.leaf.Leaf.{Leaf}
use Rattle.rev_tree.specs.declared.tree.Node.{Node}
use Rattle.rev_tree.specs.Tree.{knows, parent_of}
use Rattle.rev_tree.specs.Rising.{is_below_all, nodes_rise, is_up_to, is_within, insert_node, without, node_of, if_of, option_or, last_node, last_where, falling, starts}
use Rattle.rev_tree.proofs.RevOrder.{Closed, lt_trans, less_differs, greater_differs, less_or_greater, within_less, past_greater}

pub below_right : (rev : RevId) (xs ys : List Node) → is_below_all rev (xs ++ ys) ≡ true → is_below_all rev ys ≡ true
below_right rev [] ys h = h
below_right rev (x ∷ xs) ys h = below_right rev xs ys (and_parts (is_lt (rev_cmp rev x.rev)) (is_below_all rev (xs ++ ys)) h).1

pub below_left : (rev : RevId) (xs ys : List Node) → is_below_all rev (xs ++ ys) ≡ true → is_below_all rev xs ≡ true
below_left rev [] ys h = refl
below_left rev (x ∷ xs) ys h =
    let parts = and_parts (is_lt (rev_cmp rev x.rev)) (is_below_all rev (xs ++ ys)) h in
    and_from _ _ parts.0 (below_left rev xs ys parts.1)

pub rises_right : (xs ys : List Node) → nodes_rise (xs ++ ys) ≡ true → nodes_rise ys ≡ true
rises_right [] ys h = h
rises_right (x ∷ xs) ys h = rises_right xs ys (and_parts (is_below_all x.rev (xs ++ ys)) (nodes_rise (xs ++ ys)) h).1

pub rises_left : (xs ys : List Node) → nodes_rise (xs ++ ys) ≡ true → nodes_rise xs ≡ true
rises_left [] ys h = refl
rises_left (x ∷ xs) ys h =
    let parts = and_parts (is_below_all x.rev (xs ++ ys)) (nodes_rise (xs ++ ys)) h in
    and_from _ _ (below_left x.rev xs ys parts.0) (rises_left xs ys parts.1)

-- a lesser revision is below all too
pub below_lesser : (a b : RevId) (xs : List Node) → is_lt (rev_cmp a b) ≡ true → is_below_all b xs ≡ true → is_below_all a xs ≡ true
below_lesser a b [] h all = refl
below_lesser a b (x ∷ xs) h all =
    let parts = and_parts (is_lt (rev_cmp b x.rev)) (is_below_all b xs) all in
    and_from _ _ (lt_trans a b x.rev h parts.0) (below_lesser a b xs h parts.1)

first_or_kept : (one two : Option Node) (n : Node) → one ≡ Some n → option_or one two ≡ Some n
first_or_kept None two n h = cc
first_or_kept (Some m) two n h = h

-- what follows without a node that passes does not count
pub last_past : (q : Node → Bool) (xs ys : List Node) → last_node q ys ≡ None → last_node q (xs ++ ys) ≡ last_node q xs
last_past q [] ys h = h
last_past q (x ∷ xs) ys h = rw (last_past q xs ys h) refl

pub last_front : (q : Node → Bool) (xs ys : List Node) (n : Node) → last_node q ys ≡ Some n → last_node q (xs ++ ys) ≡ Some n
last_front q [] ys n h = h
last_front q (x ∷ xs) ys n h = first_or_kept (last_node q (xs ++ ys)) _ n (last_front q xs ys n h)

module _ (p : RevId → Bool) (closed : Closed p) where
  above_fails : (a b : RevId) → is_lt (rev_cmp a b) ≡ true → p a ≡ false → p b ≡ false
  above_fails a b h fails = false_from_ne_true (p b) (λ passes. let q = closed a b h passes in cc)

  all_fail : (a : RevId) (xs : List Node) → is_below_all a xs ≡ true → p a ≡ false → last_where p xs ≡ None
  all_fail a [] h fails = refl
  all_fail a (x ∷ xs) h fails =
      let parts = and_parts (is_lt (rev_cmp a x.rev)) (is_below_all a xs) h in
      let here : p x.rev ≡ false = above_fails a x.rev parts.0 fails in
      rw (all_fail a xs parts.1 fails, here) refl

  -- where the first node does not pass none does
  pub none_pass : (xs : List Node) → nodes_rise xs ≡ true → starts p xs ≡ false → last_where p xs ≡ None
  none_pass [] h fails = refl
  none_pass (x ∷ xs) h fails =
      let parts = and_parts (is_below_all x.rev xs) (nodes_rise xs) h in
      rw (all_fail x.rev xs parts.0 fails, fails) refl

  some_last : (x : Node) (xs : List Node) → p x.rev ≡ true → (n : Node) × (last_where p (x ∷ xs) ≡ Some n)
  some_last x xs h = go (last_where p xs) refl
    where
      go : (o : Option Node) → last_where p xs ≡ o → (n : Node) × (last_where p (x ∷ xs) ≡ Some n)
      go None e = (x, rw (e, h) refl)
      go (Some n) e = (n, rw e refl)

  -- the last node that passes is in the last part that begins with one
  pub found_in : (before part after : List Node) → nodes_rise (before ++ (part ++ after)) ≡ true → starts p (part ++ after) ≡ true → starts p after ≡ false → last_where p part ≡ last_where p (before ++ (part ++ after))
  found_in before [] after h first next = cc
  found_in before (x ∷ xs) after h first next =
      let rising : nodes_rise (x ∷ (xs ++ after)) ≡ true = rises_right before (x ∷ (xs ++ after)) h in
      let none = none_pass after (rises_right (x ∷ xs) after rising) next in
      let some = some_last x xs first in
      let whole : last_where p (x ∷ (xs ++ after)) ≡ last_where p (x ∷ xs) = last_past (λ (n : Node). p n.rev) (x ∷ xs) after none in
      some.1 ∙ sym (last_front (λ (n : Node). p n.rev) before (x ∷ (xs ++ after)) some.0 (whole ∙ some.1))

-- putting a node

-- before a greater node a lesser one's place is not left of it
pub insert_front : (n : Node) (before : List Node) (m : Node) (after : List Node) → nodes_rise (before ++ m ∷ after) ≡ true → is_lt (rev_cmp m.rev n.rev) ≡ true → insert_node n (before ++ m ∷ after) ≡ before ++ insert_node n (m ∷ after)
insert_front n [] m after h less = refl
insert_front n (x ∷ before) m after h less =
    let parts = and_parts (is_below_all x.rev (before ++ m ∷ after)) (nodes_rise (before ++ m ∷ after)) h in
    let tail = below_right x.rev before (m ∷ after) parts.0 in
    let lower = (and_parts (is_lt (rev_cmp x.rev m.rev)) (is_below_all x.rev after) tail).0 in
    let here : is_lt (rev_cmp x.rev n.rev) ≡ true = lt_trans x.rev m.rev n.rev lower less in
    rw here (ap (λ (ns : List Node). x ∷ ns) (insert_front n before m after parts.1 less))

-- what is not of a lesser revision stays behind it
pub insert_past : (n : Node) (xs after : List Node) → starts (λ rev. is_lt (rev_cmp rev n.rev)) after ≡ false → insert_node n (xs ++ after) ≡ insert_node n xs ++ after
insert_past n [] [] h = refl
insert_past n [] (m ∷ after) h = rw h refl
insert_past n (x ∷ xs) after h =
    elim (cases_Bool (is_lt (rev_cmp x.rev n.rev))) [
      | inl e ↦ rw e (ap (λ (ns : List Node). x ∷ ns) (insert_past n xs after h))
      | inr e ↦ rw e refl
    ]

-- a node put into the part where its revision falls is put into all
pub put_in_part : (n : Node) (before part after : List Node) → nodes_rise (before ++ (part ++ after)) ≡ true → starts (λ rev. is_lt (rev_cmp rev n.rev)) (part ++ after) ≡ true → starts (λ rev. is_lt (rev_cmp rev n.rev)) after ≡ false → before ++ (insert_node n part ++ after) ≡ insert_node n (before ++ (part ++ after))
put_in_part n before [] after h first next = cc
put_in_part n before (x ∷ xs) after h first next =
    sym (insert_front n before x (xs ++ after) h first ∙ ap (λ (ns : List Node). before ++ ns) (insert_past n (x ∷ xs) after next))

pub below_insert : (rev : RevId) (n : Node) (xs : List Node) → is_lt (rev_cmp rev n.rev) ≡ true → is_below_all rev xs ≡ true → is_below_all rev (insert_node n xs) ≡ true
below_insert rev n [] here h = and_from _ _ here refl
below_insert rev n (x ∷ xs) here h =
    let parts = and_parts (is_lt (rev_cmp rev x.rev)) (is_below_all rev xs) h in
    elim (cases_Bool (is_lt (rev_cmp x.rev n.rev))) [
      | inl e ↦ rw e (and_from _ _ parts.0 (below_insert rev n xs here parts.1))
      | inr e ↦ rw e (and_from _ _ here h)
    ]

pub or_turn : (a b c : Bool) → (a || (b || c)) ≡ (b || (a || c))
or_turn true true c = refl
or_turn true false c = refl
or_turn false true c = refl
or_turn false false c = refl

pub or_false : (a b : Bool) → (a || b) ≡ false → (a ≡ false) × (b ≡ false)
or_false true b h = cc
or_false false b h = (refl, h)

pub rises_insert : (n : Node) (xs : List Node) → nodes_rise xs ≡ true → knows xs n.rev ≡ false → nodes_rise (insert_node n xs) ≡ true
rises_insert n [] h unknown = refl
rises_insert n (x ∷ xs) h unknown =
    let parts = and_parts (is_below_all x.rev xs) (nodes_rise xs) h in
    let differs = or_false (same_rev x.rev n.rev) (knows xs n.rev) unknown in
    elim (cases_Bool (is_lt (rev_cmp x.rev n.rev))) [
      | inl e ↦ rw e (and_from _ _ (below_insert x.rev n xs e parts.0) (rises_insert n xs parts.1 differs.1))
      | inr e ↦
          let less : is_lt (rev_cmp n.rev x.rev) ≡ true = less_or_greater x.rev n.rev e differs.0 in
          rw e (and_from _ _ (and_from _ _ less (below_lesser n.rev x.rev xs less parts.0)) h)
    ]

-- taking one out

pub below_stay : (rev : RevId) (xs : List Node) → is_below_all rev xs ≡ true → without rev xs ≡ xs
below_stay rev [] h = refl
below_stay rev (x ∷ xs) h =
    let parts = and_parts (is_lt (rev_cmp rev x.rev)) (is_below_all rev xs) h in
    let here : same_rev rev x.rev ≡ false = less_differs rev x.rev parts.0 in
    rw here (ap (λ (ns : List Node). x ∷ ns) (below_stay rev xs parts.1))

after_stay : (rev : RevId) (xs : List Node) → nodes_rise xs ≡ true → starts (λ r. is_up_to true (rev_cmp r rev)) xs ≡ false → without rev xs ≡ xs
after_stay rev [] h past = refl
after_stay rev (x ∷ xs) h past =
    let parts = and_parts (is_below_all x.rev xs) (nodes_rise xs) h in
    let less : is_lt (rev_cmp rev x.rev) ≡ true = past_greater x.rev rev past in
    below_stay rev (x ∷ xs) (and_from _ _ less (below_lesser rev x.rev xs less parts.0))

-- where the first node is greater nothing is taken out
pub none_taken : (rev : RevId) (xs : List Node) → nodes_rise xs ≡ true → starts (λ r. is_within (record { rev = rev; or_equal = true }) r) xs ≡ false → without rev xs ≡ xs
none_taken rev xs h past = after_stay rev xs h past

before_stay : (rev : RevId) (before : List Node) (m : Node) (after : List Node) → nodes_rise (before ++ m ∷ after) ≡ true → is_up_to true (rev_cmp m.rev rev) ≡ true → without rev before ≡ before
before_stay rev [] m after h up = refl
before_stay rev (x ∷ before) m after h up =
    let parts = and_parts (is_below_all x.rev (before ++ m ∷ after)) (nodes_rise (before ++ m ∷ after)) h in
    let tail = below_right x.rev before (m ∷ after) parts.0 in
    let lower = (and_parts (is_lt (rev_cmp x.rev m.rev)) (is_below_all x.rev after) tail).0 in
    let less : is_lt (rev_cmp x.rev rev) ≡ true = within_less (record { rev = rev; or_equal = true }) x.rev m.rev lower up in
    let here : same_rev rev x.rev ≡ false = greater_differs x.rev rev less in
    rw here (ap (λ (ns : List Node). x ∷ ns) (before_stay rev before m after parts.1 up))

-- a node taken out of the part where its revision falls is taken out of all
pub take_from_part : (rev : RevId) (before part after : List Node) → nodes_rise (before ++ (part ++ after)) ≡ true → starts (λ r. is_within (record { rev = rev; or_equal = true }) r) (part ++ after) ≡ true → starts (λ r. is_within (record { rev = rev; or_equal = true }) r) after ≡ false → before ++ (without rev part ++ after) ≡ without rev (before ++ (part ++ after))
take_from_part rev before [] after h first next = cc
take_from_part rev before (x ∷ xs) after h first next =
    let keeps : Node → Bool = λ n. not (same_rev rev n.rev) in
    let rising : nodes_rise (x ∷ (xs ++ after)) ≡ true = rises_right before (x ∷ (xs ++ after)) h in
    let front : without rev before ≡ before = before_stay rev before x (xs ++ after) h first in
    let back : without rev after ≡ after = after_stay rev after (rises_right (x ∷ xs) after rising) next in
    let inner : without rev ((x ∷ xs) ++ after) ≡ without rev (x ∷ xs) ++ after = filter-append keeps (x ∷ xs) after ∙ ap (λ (ns : List Node). without rev (x ∷ xs) ++ ns) back in
    sym (filter-append keeps before ((x ∷ xs) ++ after) ∙ ap (λ (ns : List Node). ns ++ without rev ((x ∷ xs) ++ after)) front ∙ ap (λ (ns : List Node). before ++ ns) inner)

below_without : (a rev : RevId) (xs : List Node) → is_below_all a xs ≡ true → is_below_all a (without rev xs) ≡ true
below_without a rev [] h = refl
below_without a rev (x ∷ xs) h =
    let parts = and_parts (is_lt (rev_cmp a x.rev)) (is_below_all a xs) h in
    elim (cases_Bool (same_rev rev x.rev)) [
      | inl e ↦ rw e (below_without a rev xs parts.1)
      | inr e ↦ rw e (and_from _ _ parts.0 (below_without a rev xs parts.1))
    ]

pub rises_without : (rev : RevId) (xs : List Node) → nodes_rise xs ≡ true → nodes_rise (without rev xs) ≡ true
rises_without rev [] h = refl
rises_without rev (x ∷ xs) h =
    let parts = and_parts (is_below_all x.rev xs) (nodes_rise xs) h in
    elim (cases_Bool (same_rev rev x.rev)) [
      | inl e ↦ rw e (rises_without rev xs parts.1)
      | inr e ↦ rw e (and_from _ _ (below_without x.rev rev xs parts.0) (rises_without rev xs parts.1))
    ]

-- what is known, once a node is put
pub knows_insert : (n : Node) (xs : List Node) (rev : RevId) → knows (insert_node n xs) rev ≡ (same_rev n.rev rev || knows xs rev)
knows_insert n [] rev = refl
knows_insert n (x ∷ xs) rev =
    elim (cases_Bool (is_lt (rev_cmp x.rev n.rev))) [
      | inl e ↦ rw (e, knows_insert n xs rev) (or_turn (same_rev x.rev rev) (same_rev n.rev rev) (knows xs rev))
      | inr e ↦ rw e refl
    ]

-- the node of a revision is the last one up to it, if that one is of it

has_step : (q r : Node → Bool) (x : Node) (o : Option Node) (n : Node) → option_or o (if q x then Some x else None) ≡ Some n → r x ≡ true → ((m : Node) → o ≡ Some m → r m ≡ true) → r n ≡ true
has_step q r x (Some m) n is here rest = let one : m ≡ n = cc in rw one at (rest m refl)
has_step q r x None n is here rest =
    elim (cases_Bool (q x)) [
      | inl e ↦ let some : Some x ≡ Some n = rw e at is in let one : x ≡ n = cc in rw one at here
      | inr e ↦ let none : None ≡ Some n = rw e at is in cc
    ]

-- what holds of all holds of the last one that passes
pub last_has : (q r : Node → Bool) (xs : List Node) (n : Node) → last_node q xs ≡ Some n → list_all r xs ≡ true → r n ≡ true
last_has q r [] n is all = cc
last_has q r (x ∷ xs) n is all =
    let parts = and_parts (r x) (list_all r xs) all in
    has_step q r x (last_node q xs) n is parts.0 (λ m e. last_has q r xs m e parts.1)

pass_step : (q : Node → Bool) (x : Node) (o : Option Node) (n : Node) → option_or o (if q x then Some x else None) ≡ Some n → ((m : Node) → o ≡ Some m → q m ≡ true) → q n ≡ true
pass_step q x (Some m) n is rest = let one : m ≡ n = cc in rw one at (rest m refl)
pass_step q x None n is rest =
    elim (cases_Bool (q x)) [
      | inl e ↦ let some : Some x ≡ Some n = rw e at is in let one : x ≡ n = cc in rw one at e
      | inr e ↦ let none : None ≡ Some n = rw e at is in cc
    ]

pub last_passes : (q : Node → Bool) (xs : List Node) (n : Node) → last_node q xs ≡ Some n → q n ≡ true
last_passes q [] n is = cc
last_passes q (x ∷ xs) n is = pass_step q x (last_node q xs) n is (λ m e. last_passes q xs m e)

found_step : (rev : RevId) (x : Node) (xs : List Node) (o : Option Node) → last_where (is_within (record { rev = rev; or_equal = true })) xs ≡ o → nodes_rise (x ∷ xs) ≡ true → if_of rev o ≡ node_of xs rev → if_of rev (option_or o (if is_within (record { rev = rev; or_equal = true }) x.rev then Some x else None)) ≡ node_of (x ∷ xs) rev
found_step rev x xs None e h rest =
    let parts = and_parts (is_below_all x.rev xs) (nodes_rise xs) h in
    elim (cases_Bool (is_within (record { rev = rev; or_equal = true }) x.rev)) [
      | inl w ↦ rw (w, sym rest) refl
      | inr w ↦
          let less : is_lt (rev_cmp rev x.rev) ≡ true = past_greater x.rev rev w in
          rw (w, greater_differs rev x.rev less) rest
    ]
found_step rev x xs (Some m) e h rest =
    let parts = and_parts (is_below_all x.rev xs) (nodes_rise xs) h in
    let above : is_lt (rev_cmp x.rev m.rev) ≡ true = last_has (λ (n : Node). is_within (record { rev = rev; or_equal = true }) n.rev) (λ (n : Node). is_lt (rev_cmp x.rev n.rev)) xs m e parts.0 in
    let up : is_within (record { rev = rev; or_equal = true }) m.rev ≡ true = last_passes (λ (n : Node). is_within (record { rev = rev; or_equal = true }) n.rev) xs m e in
    let less = within_less (record { rev = rev; or_equal = true }) x.rev m.rev above up in
    rw (less_differs x.rev rev less) rest

pub node_found : (rev : RevId) (xs : List Node) → nodes_rise xs ≡ true → if_of rev (last_where (is_within (record { rev = rev; or_equal = true })) xs) ≡ node_of xs rev
node_found rev [] h = refl
node_found rev (x ∷ xs) h =
    found_step rev x xs (last_where (is_within (record { rev = rev; or_equal = true })) xs) refl h (node_found rev xs (and_parts (is_below_all x.rev xs) (nodes_rise xs) h).1)

-- what is known, and whose parent is whose, by the node
pub knows_by : (xs : List Node) (rev : RevId) (o : Option Node) → o ≡ node_of xs rev → is_some o ≡ knows xs rev
knows_by [] rev o h = rw h refl
knows_by (x ∷ xs) rev o h =
    elim (cases_Bool (same_rev x.rev rev)) [
      | inl e ↦ let is : o ≡ Some x = rw e at h in rw (is, e) refl
      | inr e ↦ let is : o ≡ node_of xs rev = rw e at h in rw e (knows_by xs rev o is)
    ]

pub parent_some : (xs : List Node) (rev : RevId) (n : Node) → Some n ≡ node_of xs rev → n.parent ≡ parent_of xs rev
parent_some [] rev n h = cc
parent_some (x ∷ xs) rev n h =
    elim (cases_Bool (same_rev x.rev rev)) [
      | inl e ↦ let is : Some n ≡ Some x = rw e at h in let one : n ≡ x = cc in rw (one, e) refl
      | inr e ↦ let is : Some n ≡ node_of xs rev = rw e at h in rw e (parent_some xs rev n is)
    ]

pub parent_none : (xs : List Node) (rev : RevId) → None ≡ node_of xs rev → None ≡ parent_of xs rev
parent_none [] rev h = refl
parent_none (x ∷ xs) rev h =
    elim (cases_Bool (same_rev x.rev rev)) [
      | inl e ↦ let is : None ≡ Some x = rw e at h in cc
      | inr e ↦ let is : None ≡ node_of xs rev = rw e at h in rw e (parent_none xs rev is)
    ]

-- leaves of two lists that follow each other
pub falling_append : (xs ys : List Node) → falling (xs ++ ys) ≡ falling ys ++ falling xs
falling_append [] ys = sym (append-nil (falling ys))
falling_append (x ∷ xs) ys =
    ap (λ (ls : List Leaf). ls ++ record { rev = x.rev; deleted = x.deleted } ∷ []) (falling_append xs ys) ∙ append_assoc (falling ys) (falling xs) (record { rev = x.rev; deleted = x.deleted } ∷ [])
