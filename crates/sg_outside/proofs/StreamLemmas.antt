-- readers and writers of which the bytes are known
use Rattle.std.proofs.Common.{◌≡◌, ℕ, zero, suc, ◌+◌, ◌-◌, List, [], ◌∷◌, ◌++◌, length, take, drop, refl, sym, ap, ◌∙◌, subst, arith, append_assoc, Option, Some, None}
use Rattle.std.proofs.lemmas.List.{take-append-drop, take_rest}
use Rattle.std.specs.Io.KnownBytes.{Appends as Grows, Consumes, Keeps}
use Rattle.sg_outside.specs.declared.sink.Gave.{Gave}
use Rattle.sg_outside.specs.declared.sink.Gave.TheVariants as gave
use Rattle.sg_outside.specs.Streams.{Writes}

-- what was appended so far is what the reader gave
pub record IsReadSoFar (rest now : Option (List ℕ)) (before after : List ℕ) (count : ℕ) : Type 0 where
  pub part : List ℕ
  pub appended : after ≡ before ++ part
  pub counted : length part ≡ count
  pub consumed : Consumes rest now part

take_none : (n : ℕ) → take {A = ℕ} n [] ≡ []
take_none zero = refl
take_none (suc n) = refl

take_both : (m n : ℕ) (xs : List ℕ) → take m xs ++ take n (drop m xs) ≡ take (m + n) xs
take_both zero n xs = let e : n ≡ 0 + n = omega arith in ap (λ k. take k xs) e
take_both (suc m) n [] = take_none n ∙ sym (take_none (suc m + n))
take_both (suc m) n (x ∷ xs) =
    let e : suc (m + n) ≡ suc m + n = omega arith in
    ap (λ rest. x ∷ rest) (take_both m n xs) ∙ ap (λ k. take k (x ∷ xs)) e

written_next : (held now new : Option (List ℕ)) (part piece : List ℕ) → Grows held now part → Grows now new piece → Grows held new (part ++ piece)
written_next None now new part piece first second = tt
written_next (Some xs) None new part piece first second = absurd first
written_next (Some xs) (Some ys) None part piece first second = absurd second
written_next (Some xs) (Some ys) (Some zs) part piece first second = second ∙ ap (λ l. l ++ piece) first ∙ append_assoc xs part piece

-- one part more was written
pub written_more : (held now new : Option (List ℕ)) (bytes : List ℕ) (count n : ℕ) → Grows held now (take count bytes)
    → Grows now new (take n (take (length bytes - count) (drop count bytes))) → Grows held new (take (count + n) bytes)
written_more held now new bytes count n first second =
    subst (Grows held new) (take_both count n bytes)
    (written_next held now new (take count bytes) (take n (drop count bytes)) first (subst (λ rest. Grows now new (take n rest)) (take_rest bytes count) second))

-- a write that took nothing
pub written_nothing : (held now new : Option (List ℕ)) (part : List ℕ) → Grows held now part → Keeps now new → Grows held new part
written_nothing None now new part first kept = tt
written_nothing (Some xs) None new part first kept = absurd first
written_nothing (Some xs) (Some ys) None part first kept = absurd kept
written_nothing (Some xs) (Some ys) (Some zs) part first kept = kept ∙ first

-- a beginning was written
pub written_part : (held now : Option (List ℕ)) (bytes : List ℕ) (count : ℕ) (answer : Gave) → Grows held now (take count bytes) → answer ≡ gave.Failed → Writes held bytes answer now
written_part None now bytes count answer written failed = tt
written_part (Some xs) None bytes count answer written failed = absurd written
written_part (Some xs) (Some ys) bytes count answer written failed =
    subst (λ a. Writes (Some xs) bytes a (Some ys)) (sym failed) (ys, refl, (take count bytes, drop count bytes, sym (take-append-drop count bytes), written))
