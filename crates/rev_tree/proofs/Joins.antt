-- the nodes of parts
use Rattle.std.proofs.Common.{◌≡◌, ℕ, zero, suc, ◌+◌, ◌<◌, ◌≤◌, true, false, ◌&&◌, Bool, List, [], ◌∷◌, ◌++◌, length, get_or, take, drop, refl, sym, ap, ◌∙◌, add-one, arith, append_assoc, append-nil, take-append-drop, drop-cons}
use Rattle.std.specs.Arc.{arc_value}
use Rattle.std.specs.declared.sync.Arc.{Arc}
use Rattle.std.proofs.lemmas.Bool.{and_parts, and_from}
use Rattle.std.proofs.lemmas.List.{take_more}
use Rattle.sg_names.specs.declared.rev_id.RevId.{RevId}
use Rattle.rev_tree.specs.declared.tree.Node.{Node}
use Rattle.rev_tree.specs.Rising.{nodes_rise, starts}
use Rattle.rev_tree.specs.inner.Parts.{joined, are_sound, is_row, AreParts, IsHead}

and_assoc : (x y z : Bool) → (x && (y && z)) ≡ ((x && y) && z)
and_assoc true y z = refl
and_assoc false y z = refl

pub and_true : (x : Bool) → (x && true) ≡ x
and_true true = refl
and_true false = refl

pub whole : {A : Type 0} (n : ℕ) (xs : List A) → length xs ≤ n → take n xs ≡ xs
whole {A = A} zero [] h = refl
whole {A = A} (suc n) [] h = refl
whole {A = A} zero (x ∷ xs) h = absurd (omega arith)
whole {A = A} (suc n) (x ∷ xs) h = ap (λ (ys : List A). x ∷ ys) (whole n xs (omega arith))

starts_head : (p : RevId → Bool) (front back : List Node) (first : Node) → IsHead front first → starts p (front ++ back) ≡ p first.rev
starts_head p front back first head = rw head.is refl

module _ {X Z : Type 0} (nodes : X → List Node) where
  pub joined_append : (xs ys : List (Arc X Z)) → joined nodes (xs ++ ys) ≡ joined nodes xs ++ joined nodes ys
  joined_append [] ys = refl
  joined_append (x ∷ xs) ys = ap (λ (ns : List Node). nodes (arc_value x) ++ ns) (joined_append xs ys) ∙ sym (append_assoc (nodes (arc_value x)) (joined nodes xs) (joined nodes ys))

  -- the parts from a place on
  pub cut_at : (parts : List (Arc X Z)) (k : ℕ) (part : Arc X Z) → k < length parts → part ≡ get_or parts k part → drop k parts ≡ part ∷ drop (k + 1) parts
  cut_at parts k part within is = rw add-one (drop-cons parts k part within ∙ ap (λ (a : Arc X Z). a ∷ drop (suc k) parts) (sym is))

  pub joined_at : (parts : List (Arc X Z)) (k : ℕ) (part : Arc X Z) → k < length parts → part ≡ get_or parts k part → joined nodes (drop k parts) ≡ nodes (arc_value part) ++ joined nodes (drop (k + 1) parts)
  joined_at parts k part within is = ap (joined nodes) (cut_at parts k part within is)

  -- the nodes of all parts, by the one at a place
  pub joined_by : (parts : List (Arc X Z)) (k : ℕ) (part : Arc X Z) → k < length parts → part ≡ get_or parts k part → joined nodes parts ≡ joined nodes (take k parts) ++ (nodes (arc_value part) ++ joined nodes (drop (k + 1) parts))
  joined_by parts k part within is =
      ap (joined nodes) (sym (take-append-drop k parts)) ∙ joined_append (take k parts) (drop k parts) ∙ ap (λ (ns : List Node). joined nodes (take k parts) ++ ns) (joined_at parts k part within is)

  -- the first node from a place on is that of the part there
  pub starts_at : (p : RevId → Bool) (parts : List (Arc X Z)) (k : ℕ) (part : Arc X Z) (first : Node) → k < length parts → part ≡ get_or parts k part → IsHead (nodes (arc_value part)) first → starts p (joined nodes (drop k parts)) ≡ p first.rev
  starts_at p parts k part first within is head =
      ap (starts p) (joined_at parts k part within is) ∙ starts_head p (nodes (arc_value part)) (joined nodes (drop (k + 1) parts)) first head

module _ {X Z : Type 0} (sound : X → Bool) where
  pub sound_append : (xs ys : List (Arc X Z)) → are_sound sound (xs ++ ys) ≡ (are_sound sound xs && are_sound sound ys)
  sound_append [] ys = refl
  sound_append (x ∷ xs) ys = ap (λ (b : Bool). sound (arc_value x) && b) (sound_append xs ys) ∙ and_assoc (sound (arc_value x)) (are_sound sound xs) (are_sound sound ys)

  pub sound_parts : (parts : List (Arc X Z)) (k : ℕ) → are_sound sound parts ≡ true → (are_sound sound (take k parts) ≡ true) × (are_sound sound (drop k parts) ≡ true)
  sound_parts parts k h =
      let cut : are_sound sound (take k parts ++ drop k parts) ≡ true = rw (take-append-drop k parts) h in
      and_parts (are_sound sound (take k parts)) (are_sound sound (drop k parts)) (sym (sound_append (take k parts) (drop k parts)) ∙ cut)

  pub sound_at : (parts : List (Arc X Z)) (k : ℕ) (part : Arc X Z) → are_sound sound parts ≡ true → k < length parts → part ≡ get_or parts k part → sound (arc_value part) ≡ true
  sound_at parts k part h within is =
      let tail : are_sound sound (part ∷ drop (k + 1) parts) ≡ true = rw (cut_here parts k part within is) at (sound_parts parts k h).1 in
      (and_parts (sound (arc_value part)) (are_sound sound (drop (k + 1) parts)) tail).0
    where
      cut_here : (parts : List (Arc X Z)) (k : ℕ) (part : Arc X Z) → k < length parts → part ≡ get_or parts k part → drop k parts ≡ part ∷ drop (k + 1) parts
      cut_here parts k part within is = rw add-one (drop-cons parts k part within ∙ ap (λ (a : Arc X Z). a ∷ drop (suc k) parts) (sym is))

module _ {X Z : Type 0} (nodes : X → List Node) (from : List (Arc X Z)) (i : ℕ) (part clone : Arc X Z) (within : i < length from) (is : part ≡ get_or from i part) (same : arc_value clone ≡ arc_value part) where
  -- one more part at the end
  pub push_nodes : (items : List (Arc X Z)) (whole : List Node) → joined nodes items ≡ whole ++ joined nodes (take i from) → joined nodes (items ++ clone ∷ []) ≡ whole ++ joined nodes (take (i + 1) from)
  push_nodes items whole h =
      let more : take (i + 1) from ≡ take i from ++ part ∷ [] = take_more from i part within ∙ ap (λ (a : Arc X Z). take i from ++ a ∷ []) (sym is) in
      let last : joined nodes (clone ∷ []) ≡ joined nodes (part ∷ []) = ap (λ (x : X). nodes x ++ []) same in
      joined_append nodes items (clone ∷ []) ∙ ap (λ (ns : List Node). ns ++ joined nodes (clone ∷ [])) h ∙ append_assoc whole (joined nodes (take i from)) (joined nodes (clone ∷ [])) ∙ ap (λ (ns : List Node). whole ++ (joined nodes (take i from) ++ ns)) last ∙ ap (λ (ns : List Node). whole ++ ns) (sym (ap (joined nodes) more ∙ joined_append nodes (take i from) (part ∷ [])))

  pub push_sound : (sound : X → Bool) (items : List (Arc X Z)) (whole : Bool) → are_sound sound items ≡ (whole && are_sound sound (take i from)) → are_sound sound (items ++ clone ∷ []) ≡ (whole && are_sound sound (take (i + 1) from))
  push_sound sound items whole h =
      let more : take (i + 1) from ≡ take i from ++ part ∷ [] = take_more from i part within ∙ ap (λ (a : Arc X Z). take i from ++ a ∷ []) (sym is) in
      let last : are_sound sound (clone ∷ []) ≡ are_sound sound (part ∷ []) = ap (λ (x : X). sound x && true) same in
      sound_append sound items (clone ∷ []) ∙ ap (λ (b : Bool). b && are_sound sound (clone ∷ [])) h ∙ sym (and_assoc whole (are_sound sound (take i from)) (are_sound sound (clone ∷ []))) ∙ ap (λ (b : Bool). whole && (are_sound sound (take i from) && b)) last ∙ ap (λ (b : Bool). whole && b) (sym (ap (are_sound sound) more ∙ sound_append sound (take i from) (part ∷ [])))

-- parts put together of three lists
pub three_hold : {X Z : Type 0} (nodes : X → List Node) (sound : X → Bool) (i0 i1 i2 i3 a b c : List (Arc X Z)) → i0 ≡ [] → joined nodes i1 ≡ joined nodes i0 ++ joined nodes a → joined nodes i2 ≡ joined nodes i1 ++ joined nodes b → joined nodes i3 ≡ joined nodes i2 ++ joined nodes c → are_sound sound i1 ≡ (are_sound sound i0 && are_sound sound a) → are_sound sound i2 ≡ (are_sound sound i1 && are_sound sound b) → are_sound sound i3 ≡ (are_sound sound i2 && are_sound sound c) → are_sound sound a ≡ true → are_sound sound b ≡ true → are_sound sound c ≡ true → AreParts nodes sound i3 (joined nodes a ++ (joined nodes b ++ joined nodes c))
three_hold nodes sound i0 i1 i2 i3 a b c e n1 n2 n3 s1 s2 s3 sa sb sc =
    let first : joined nodes i1 ≡ joined nodes a = n1 ∙ rw e refl in
    let second : joined nodes i2 ≡ joined nodes a ++ joined nodes b = n2 ∙ rw first refl in
    let t1 : are_sound sound i1 ≡ true = s1 ∙ rw (e, sa) refl in
    let t2 : are_sound sound i2 ≡ true = s2 ∙ rw (t1, sb) refl in
    let t3 : are_sound sound i3 ≡ true = s3 ∙ rw (t2, sc) refl in
    record { hold = n3 ∙ rw second (append_assoc (joined nodes a) (joined nodes b) (joined nodes c)); are_all = t3 }

pub row_from : {X Z : Type 0} (nodes : X → List Node) (sound : X → Bool) (parts : List (Arc X Z)) → 0 < length parts → are_sound sound parts ≡ true → nodes_rise (joined nodes parts) ≡ true → is_row nodes sound parts ≡ true
row_from nodes sound [] some s r = absurd (omega arith)
row_from nodes sound (x ∷ xs) some s r = and_from _ _ s r

-- what a row says
pub record IsRow {X Z : Type 0} (nodes : X → List Node) (sound : X → Bool) (parts : List (Arc X Z)) : Type 0 where
  pub some : 0 < length parts
  pub are_all : are_sound sound parts ≡ true
  pub rising : nodes_rise (joined nodes parts) ≡ true

pub row_is : {X Z : Type 0} (nodes : X → List Node) (sound : X → Bool) (parts : List (Arc X Z)) → is_row nodes sound parts ≡ true → IsRow nodes sound parts
row_is nodes sound [] h = cc
row_is nodes sound (x ∷ xs) h = let parts = and_parts (are_sound sound (x ∷ xs)) (nodes_rise (joined nodes (x ∷ xs))) h in record { some = omega arith; are_all = parts.0; rising = parts.1 }

-- two parts
pub two_hold : {X Z : Type 0} (nodes : X → List Node) (sound : X → Bool) (rows : List (Arc X Z)) (a b : Arc X Z) (one two all : List Node) → rows ≡ a ∷ b ∷ [] → nodes (arc_value a) ≡ one → nodes (arc_value b) ≡ two → sound (arc_value a) ≡ true → sound (arc_value b) ≡ true → one ++ two ≡ all → AreParts nodes sound rows all
two_hold nodes sound rows a b one two all e n m s t sum = record { hold = rw e (rw (n, m, append-nil two) sum); are_all = rw (e, s, t) refl }

pub halves : {X Z : Type 0} (nodes : X → List Node) (parts : List (Arc X Z)) (half : ℕ) → joined nodes (take half parts) ++ joined nodes (drop half parts) ≡ joined nodes parts
halves nodes parts half = sym (joined_append nodes (take half parts) (drop half parts)) ∙ ap (joined nodes) (take-append-drop half parts)
