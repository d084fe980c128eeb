-- where spells begin and end, counted up to a place
use Rattle.std.proofs.Common.{◌≡◌, ◌<◌, ◌≤◌, ◌+◌, ℕ, zero, suc, refl, sym, ◌∙◌, ap, arith, Bool, true, false, cond, ◌&&◌, ◌||◌, nat_le, nat_lt, max, List, [], ◌∷◌, ◌++◌, length, drop, get_or, Option, Some, None}
use Rattle.std.specs.List.{count_by, list_any}
use Rattle.std.specs.List.Sorted.{IsPermutation}
use Rattle.std.proofs.lemmas.List.{drop_all}
use Rattle.std.proofs.lemmas.List.Sorted.{sum_by-IsPermutation}
use Rattle.std.proofs.lemmas.List.Sums.{sum_by-cons, sum_by_push}
use Rattle.grant_tracks.specs.declared.spells.Spell.{Spell}
use Rattle.grant_tracks.specs.Counts.{up_to, open_at, AddsSpell}
use Rattle.grant_tracks.specs.Spells.{ends_after, spell_has, spells_have}
use Rattle.grant_tracks.proofs.Gathered.{split}

-- one place more
more : (old new : List ℕ) (p k : ℕ) → new ≡ old ++ p ∷ [] → up_to new k ≡ up_to old k + cond (nat_le p k) 1 0
more old new p k is = ap (λ (l : List ℕ). up_to l k) is ∙ sum_by_push (λ q. cond (nat_le q k) 1 0) old p

pub first : (p : ℕ) (ps : List ℕ) (k : ℕ) → up_to (p ∷ ps) k ≡ cond (nat_le p k) 1 0 + up_to ps k
first p ps k = sum_by-cons (λ q. cond (nat_le q k) 1 0) p ps

plain_open : (new_b b e new_e p : ℕ) → new_b ≡ b + p → new_e ≡ e → new_b + e ≡ new_e + (b + p)
plain_open new_b b e new_e p begins ends = omega (arith, begins, ends)

plain_ended : (new_b b e new_e p q h : ℕ) → new_b ≡ b + p → new_e ≡ e + q → p ≡ q + h → new_b + e ≡ new_e + (b + h)
plain_ended new_b b e new_e p q h begins ends parts = omega (arith, begins, ends, parts)

-- a spell without an end
pub adds_open : (begins new_begins ends : List ℕ) (s : Spell) → s.to ≡ None → new_begins ≡ begins ++ s.from ∷ [] → AddsSpell begins ends new_begins ends s
adds_open begins new_begins ends s none is k =
    plain_open (up_to new_begins k) (up_to begins k) (up_to ends k) (up_to ends k) (cond (spell_has k s) 1 0)
    (more begins new_begins s.from k is
    ∙ ap (λ (b : Bool). up_to begins k + cond b 1 0) (by (nat_le s.from k) ∙ ap (λ (o : Option ℕ). nat_le s.from k && ends_after o k) (sym none))) refl
  where
    by : (b : Bool) → b ≡ (b && true)
    by true = refl
    by false = refl

-- a spell with an end
pub adds_ended : (begins new_begins ends new_ends : List ℕ) (s : Spell) (to : ℕ) → s.to ≡ Some to → new_begins ≡ begins ++ s.from ∷ [] → new_ends ≡ ends ++ max s.from to ∷ []
    → AddsSpell begins ends new_begins new_ends s
adds_ended begins new_begins ends new_ends s to some is ended k =
    plain_ended (up_to new_begins k) (up_to begins k) (up_to ends k) (up_to new_ends k) (cond (nat_le s.from k) 1 0) (cond (nat_le (max s.from to) k) 1 0) (cond (spell_has k s) 1 0)
    (more begins new_begins s.from k is)
    (more ends new_ends (max s.from to) k ended)
    (parts s.from to ∙ ap (λ (o : Option ℕ). cond (nat_le (max s.from to) k) 1 0 + cond (nat_le s.from k && ends_after o k) 1 0) (sym some))
  where
    parts : (from to : ℕ) → cond (nat_le from k) 1 0 ≡ cond (nat_le (max from to) k) 1 0 + cond (nat_le from k && nat_lt k to) 1 0
    parts from to = grind arith

-- the events of the spells so far, with the spells that are left, make up all
abbrev pub CountsWith : List ℕ → List ℕ → List Spell → List Spell → Type 0
CountsWith begins ends rest all = (k : ℕ) → up_to begins k + count_by (spell_has k) rest ≡ up_to ends k + count_by (spell_has k) all

pub counts_begin : (begins ends : List ℕ) (xs : List Spell) → begins ≡ [] → ends ≡ [] → CountsWith begins ends xs xs
counts_begin begins ends xs empty none k =
    ap (λ (l : List ℕ). up_to l k + count_by (spell_has k) xs) empty ∙ ap (λ (l : List ℕ). up_to l k + count_by (spell_has k) xs) (sym none)

plain_more : (new_b e new_e b h r d t : ℕ) → new_b + e ≡ new_e + (b + h) → b + d ≡ e + t → d ≡ h + r → new_b + r ≡ new_e + t
plain_more new_b e new_e b h r d t adds before parts = omega (arith, adds, before, parts)

pub counts_more : (xs : List Spell) (i : ℕ) (s : Spell) (begins ends new_begins new_ends : List ℕ) → i < length xs → s ≡ get_or xs i s → CountsWith begins ends (drop i xs) xs → AddsSpell begins ends new_begins new_ends s
    → CountsWith new_begins new_ends (drop (i + 1) xs) xs
counts_more xs i s begins ends new_begins new_ends within is before adds k =
    plain_more (up_to new_begins k) (up_to ends k) (up_to new_ends k) (up_to begins k) (cond (spell_has k s) 1 0) (count_by (spell_has k) (drop (i + 1) xs)) (count_by (spell_has k) (drop i xs)) (count_by (spell_has k) xs)
    (adds k) (before k)
    (ap (λ (l : List Spell). count_by (spell_has k) l) (sym (split xs i s within is)) ∙ sum_by-cons (λ t. cond (spell_has k t) 1 0) s (drop (i + 1) xs))

positive : {X : Type 0} (p : X → Bool) (xs : List X) → nat_lt 0 (count_by p xs) ≡ list_any p xs
positive p [] = refl
positive p (x ∷ xs) = ap (λ (n : ℕ). nat_lt 0 n) (sum_by-cons (λ y. cond (p y) 1 0) x xs) ∙ by (p x) (count_by p xs) ∙ ap (λ (b : Bool). p x || b) (positive p xs)
  where
    by : (b : Bool) (n : ℕ) → nat_lt 0 (cond b 1 0 + n) ≡ (b || nat_lt 0 n)
    by true n = grind arith
    by false n = ap (λ (m : ℕ). nat_lt 0 m) (omega arith)

-- more have begun than have ended where one of the spells has the place
pub counts_end : (begins ends : List ℕ) (xs : List Spell) (i : ℕ) → length xs ≤ i → CountsWith begins ends (drop i xs) xs → (k : ℕ) → open_at begins ends k ≡ spells_have xs k
counts_end begins ends xs i le counts k =
    plain (up_to begins k) (up_to ends k) (count_by (spell_has k) (drop i xs)) (count_by (spell_has k) xs) (counts k) (ap (λ (l : List Spell). count_by (spell_has k) l) (drop_all i xs le))
    ∙ positive (spell_has k) xs
  where
    plain : (b e r t : ℕ) → b + r ≡ e + t → r ≡ 0 → nat_lt e b ≡ nat_lt 0 t
    plain b e r t is none = let sum : b ≡ e + t = omega (arith, is, none) in grind (arith, sum)

-- in another order
pub open_sorted : (begins ends sorted_begins sorted_ends : List ℕ) → IsPermutation begins sorted_begins → IsPermutation ends sorted_ends → (k : ℕ) → open_at sorted_begins sorted_ends k ≡ open_at begins ends k
open_sorted begins ends sorted_begins sorted_ends moved others k =
    ap (λ (n : ℕ). nat_lt n (up_to sorted_begins k)) (sum_by-IsPermutation (λ q. cond (nat_le q k) 1 0) ends sorted_ends others)
    ∙ ap (λ (n : ℕ). nat_lt (up_to ends k) n) (sum_by-IsPermutation (λ q. cond (nat_le q k) 1 0) begins sorted_begins moved)

-- those before a place in the list are at most k, and the others greater
pub counted : (xs : List ℕ) (k r : ℕ) → r ≤ length xs → ((i : ℕ) (d : ℕ) → i < r → get_or xs i d ≤ k) → ((i : ℕ) (d : ℕ) → r ≤ i → i < length xs → k < get_or xs i d) → r ≡ up_to xs k
counted [] k zero le before after = refl
counted [] k (suc r) le before after = absurd (omega (arith, le))
counted (x ∷ xs) k zero le before after =
    counted xs k zero (omega arith) (λ i d low. absurd (omega (arith, low))) (λ i d low within. after (suc i) d (omega arith) (omega (arith, within)))
    ∙ sym (first x xs k ∙ ap (λ (b : Bool). cond b 1 0 + up_to xs k) (greater (after 0 0 (omega arith) (omega arith))) ∙ none (up_to xs k))
  where
    none : (n : ℕ) → cond false 1 0 + n ≡ n
    none n = omega arith

    greater : k < x → nat_le x k ≡ false
    greater low = grind (arith, low)
counted (x ∷ xs) k (suc r) le before after =
    ap suc (counted xs k r (omega (arith, le)) (λ i d low. before (suc i) d (omega (arith, low))) (λ i d low within. after (suc i) d (omega (arith, low)) (omega (arith, within))))
    ∙ sym (first x xs k ∙ ap (λ (b : Bool). cond b 1 0 + up_to xs k) (small (before 0 0 (omega arith))) ∙ one (up_to xs k))
  where
    small : x ≤ k → nat_le x k ≡ true
    small low = grind (arith, low)

    one : (n : ℕ) → cond true 1 0 + n ≡ suc n
    one n = omega arith
