-- pieces of a text, one cut after another
use Rattle.std.proofs.Common.{◌≡◌, ℕ, ◌<◌, Bool, true, false, not, nat_eq, List, [], ◌∷◌, ◌++◌, length, refl, arith, map, append_assoc, if◌then◌else◌}
use Rattle.std.proofs.lemmas.Bool.{and_parts, eq-eqb}
use Rattle.std.proofs.lemmas.List.{map-append}
use Rattle.sg_names.specs.Grammar.{lacks}
use Rattle.sg_history.specs.Pieces.{pieces, begin_with}

not_true : (x : Bool) → not x ≡ true → x ≡ false
not_true true h = cc
not_true false h = refl

-- a text without the byte is one piece
pub pieces-lacking : (at : ℕ) (text : List ℕ) → lacks at text ≡ true → pieces at text ≡ text ∷ []
pieces-lacking at [] h = refl
pieces-lacking at (b ∷ bs) h =
    let parts = and_parts (not (nat_eq b at)) (lacks at bs) h in
    rw (not_true (nat_eq b at) parts.0, pieces-lacking at bs parts.1) refl

-- the first piece ends at the first such byte
pub pieces-cut : (at : ℕ) (front back : List ℕ) → lacks at front ≡ true → pieces at (front ++ at ∷ back) ≡ front ∷ pieces at back
pieces-cut at [] back h = rw (eq-eqb at at refl) refl
pieces-cut at (b ∷ bs) back h =
    let parts = and_parts (not (nat_eq b at)) (lacks at bs) h in
    rw (not_true (nat_eq b at) parts.0, pieces-cut at bs back parts.1) refl

begin_with-length : (b : ℕ) (ps : List (List ℕ)) → 0 < length (begin_with b ps)
begin_with-length b [] = omega arith
begin_with-length b (p ∷ ps) = omega arith

-- there is always a piece
pub pieces-some : (at : ℕ) (text : List ℕ) → 0 < length (pieces at text)
pieces-some at [] = omega arith
pieces-some at (b ∷ bs) = elim (nat_eq b at) as (λ t. 0 < length (if t then [] ∷ pieces at bs else begin_with b (pieces at bs))) [ true ↦ omega arith | false ↦ begin_with-length b (pieces at bs) ]

-- the last piece of all
pub pieces-end : {X : Type 0} (now : X → List ℕ) (at : ℕ) (text : List ℕ) (found items : List X) (rest : X) → map now found ++ pieces at (now rest) ≡ pieces at text → lacks at (now rest) ≡ true → items ≡ found ++ rest ∷ [] → map now items ≡ pieces at text
pieces-end now at text found items rest all lacking e =
    rw (e, map-append) (rw (pieces-lacking at (now rest) lacking) at all)

-- one piece more
pub pieces-next : {X : Type 0} (now : X → List ℕ) (at : ℕ) (text : List ℕ) (found items : List X) (front : X) (rest back : List ℕ) → map now found ++ pieces at rest ≡ pieces at text → rest ≡ now front ++ at ∷ back → lacks at (now front) ≡ true → items ≡ found ++ front ∷ [] → map now items ++ pieces at back ≡ pieces at text
pieces-next now at text found items front rest back all cut lacking e =
    rw (e, map-append, append_assoc) (rw (cut, pieces-cut at (now front) back lacking) at all)
