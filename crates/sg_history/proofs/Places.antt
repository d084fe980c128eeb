-- the first place of a byte, and what stands around it
use Rattle.std.proofs.Common.{◌≡◌, ℕ, ◌+◌, ◌-◌, ◌<◌, true, List, ◌∷◌, ◌++◌, length, get_or, take, drop, sym, ap, ◌∙◌, arith, add-one, drop-cons}
use Rattle.std.specs.Prelude.{IfNone, IsTrue, Option, Some, None}
use Rattle.std.proofs.lemmas.Bool.{eq-eqb, eqb-true}
use Rattle.std.proofs.lemmas.List.{get_or-take, length-take-le, take-append-drop, take_rest}
use Rattle.memchr.specs.Find.{Nowhere, NoneBefore, Passes, is_byte}
use Rattle.sg_names.proofs.Cuts.{lacks-from_places}
use Rattle.sg_names.specs.Grammar.{lacks}

-- a byte that stands nowhere
pub lacks_everywhere : (at : ℕ) (text : List ℕ) → Nowhere (Passes (is_byte at) text) 0 (length text) → lacks at text ≡ true
lacks_everywhere at text apart = lacks-from_places at text (λ i inside e. apart i (omega arith) inside (eq-eqb (get_or text i 0) at e))

pub if_none : {X P : Type 0} (r : Option X) → P → IfNone r P
if_none None h = h
if_none (Some x) h = tt

around : (text : List ℕ) (k : ℕ) → k < length text → text ≡ take k text ++ get_or text k 0 ∷ take (length text - (k + 1)) (drop (k + 1) text)
around text k inside =
    sym (take-append-drop k text) ∙ ap (λ rest. take k text ++ rest) (rw (take_rest, add-one) (drop-cons text k 0 inside))

lacks_front : (at : ℕ) (text : List ℕ) (k : ℕ) → k < length text → Nowhere (Passes (is_byte at) text) 0 k → lacks at (take k text) ≡ true
lacks_front at text k inside apart =
    let long = length-take-le k text (omega arith) in
    lacks-from_places at (take k text)
    (λ i below e. let low : i < k = omega (arith, long, below) in apart i (omega arith) low (eq-eqb (get_or text i 0) at (sym (get_or-take k text i 0 low) ∙ e)))

-- what stands around the first place
pub cut_at : (at : ℕ) (text : List ℕ) (k : ℕ) → NoneBefore (Passes (is_byte at) text) 0 (length text) k → Passes (is_byte at) text k
    → (text ≡ take k text ++ at ∷ take (length text - (k + 1)) (drop (k + 1) text)) × IsTrue (lacks at (take k text))
cut_at at text k first here =
    let byte = eqb-true (get_or text k 0) at here in
    (around text k first.high ∙ ap (λ b. take k text ++ b ∷ take (length text - (k + 1)) (drop (k + 1) text)) byte, lacks_front at text k first.high first.before)
