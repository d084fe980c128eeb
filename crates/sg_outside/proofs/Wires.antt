-- what a wire with a script of results records
use Rattle.std.proofs.Common.{◌≡◌, ◌≢◌, ℕ, zero, suc, ◌+◌, ◌∷◌, ◌++◌, [], List, map, drop, Some, refl, ap, sym, subst, ◌∙◌, le_refl, ◌<◌, ◌≤◌, length, slice_index_or, le_of_suc-le-suc, not-suc-le-zero}
use Rattle.sg_outside.specs.declared.wire.Got.{Got}
use Rattle.sg_outside.specs.declared.wire.Got.TheVariants as got
use native.Mathlib.Numerals.{unary_clauses}
use Rattle.sg_outside.specs.declared.sink.Gave.{Gave}
use Rattle.sg_outside.specs.declared.mem_wire.Input.{Input}
use Rattle.sg_outside.specs.Wire.{Traffic, no_line, CountsGot, Receives, next_of, after_next, received}
use Rattle.sg_outside.specs.MemWire.{got_of, results, traffic}

-- the input at a place gives the next result
pub next_input : (inputs : List Input) (k : ℕ) (input : Input) → k < length inputs → input ≡ slice_index_or inputs k input → next_of (drop k (map got_of inputs)) ≡ got_of input
next_input [] k input h e = absurd (not-suc-le-zero h)
next_input (x ∷ xs) zero input h e = ap got_of (sym e)
next_input (x ∷ xs) (suc k) input h e = next_input xs k input (le_of_suc-le-suc h) e

-- past the last input the next result is the end
pub no_input : (inputs : List Input) (k : ℕ) → length inputs ≤ k → next_of (drop k (map got_of inputs)) ≡ got.End
no_input [] zero h = refl
no_input [] (suc k) h = refl
no_input (x ∷ xs) zero h = absurd (not-suc-le-zero h)
no_input (x ∷ xs) (suc k) h = no_input xs k (le_of_suc-le-suc h)

after_drop : (xs : List Got) (k : ℕ) → after_next (drop k xs) ≡ drop (suc k) xs
after_drop [] zero = refl
after_drop [] (suc k) = refl
after_drop (x ∷ xs) zero = refl
after_drop (x ∷ xs) (suc k) = after_drop xs k

results_next : (xs : List Got) (k : ℕ) → results (suc k) xs ≡ results k xs ++ next_of (drop k xs) ∷ []
results_next [] zero = refl
results_next [] (suc zero) = refl
results_next [] (suc (suc k)) = ap (λ rs. got.End ∷ rs) (results_next [] (suc k))
results_next (x ∷ xs) zero = refl
results_next (x ∷ xs) (suc k) = ap (λ rs. x ∷ rs) (results_next xs k)

same_traffic : {a b c d : List Got} (sent : List (List ℕ)) (gave : List Gave) → a ≡ b → c ≡ d → ◌≡◌ {A = Traffic} (record { got = a; sent = sent; gave = gave; coming = c; line = no_line }) (record { got = b; sent = sent; gave = gave; coming = d; line = no_line })
same_traffic sent gave p q = rw (p, q) refl

-- once a result was received the wire records one result more
pub traffic_next : (script : List Got) (calls : ℕ) (sent : List (List ℕ)) (gave : List Gave) → traffic script (calls + 1) sent gave ≡ received (traffic script calls sent gave) (next_of (drop calls script))
traffic_next script calls sent gave = simp unary_clauses (same_traffic sent gave (results_next script calls) (sym (after_drop script calls)))

-- the next result, which is not that memory ran out, is received
pub receives : (before : Traffic) (result : Got) → result ≢ got.Memory → result ≡ next_of before.coming → Receives before result (received before result)
receives before (got.Frame frame) fine next = (next, refl)
receives before got.Text fine next = (next, refl)
receives before got.Idle fine next = (next, refl)
receives before got.End fine next = (next, refl)
receives before got.Failed fine next = (next, refl)
receives before got.Memory fine next = absurd (fine refl)

-- a result that is no fault leaves the count as it was
pub not_counted : (n : ℕ) (result : Got) → result ≢ got.Failed → CountsGot n result n
not_counted n (got.Frame frame) fine = le_refl n
not_counted n got.Text fine = le_refl n
not_counted n got.Idle fine = le_refl n
not_counted n got.End fine = le_refl n
not_counted n got.Failed fine = absurd (fine refl)
not_counted n got.Memory fine = le_refl n

-- a wire with a script of results receives its next one, which is not that memory ran out
pub script_receives : (script : List Got) (calls : ℕ) (sent : List (List ℕ)) (gave : List Gave) (result : Got) → result ≢ got.Memory → result ≡ next_of (drop calls script)
    → (after : Traffic) × (Some (traffic script (calls + 1) sent gave) ≡ Some after) × Receives (traffic script calls sent gave) result after
script_receives script calls sent gave result fine next = (
  traffic script (calls + 1) sent gave,
  refl,
  (let P : Traffic → Type 0 = λ after. Receives (traffic script calls sent gave) result after in
      subst P (sym (traffic_next script calls sent gave ∙ ap (received (traffic script calls sent gave)) (sym next))) (receives (traffic script calls sent gave) result fine next)),
)
