-- What evaluating does: it gives a value and leaves a state, or something stops it.
use Rattle.std.specs.Prelude.{◌≡◌, ◌≢◌, ℕ, ◌-◌, nat_lt, if◌then◌else◌, Ok, Err}
use Rattle.sync_tokens.specs.declared.place.Place.{Place}
use Rattle.sync_values.specs.declared.fault.RuleKind.TheVariants.{Fuel}
use Rattle.sync_values.specs.declared.fault.Stop.TheVariants.{Memory}
use Rattle.sync_values.specs.Found.{Found, denial}
use Rattle.sync_meaning.specs.declared.state.State.{State}

-- what is found in a state, and the state after
abbrev pub Act : Type 0 → Type 0
Act A = State → Found (A × State)

-- what was found, and what is made of it in its state
abbrev pub and_then : {A B : Type 0} → Found (A × State) → (A → Act B) → Found (B × State)
and_then (Ok p) f = f p.0 p.1
and_then (Err e) f = Err e

-- one after the other; what stops first stops both
infixl 10 ◌>>=◌
abbrev pub ◌>>=◌ : {A B : Type 0} → Act A → (A → Act B) → Act B
p >>= f = λ s. and_then (p s) f

infixl 10 ◌>>◌
abbrev pub ◌>>◌ : {A B : Type 0} → Act A → Act B → Act B
p >> q = p >>= (λ _. q)

-- a value, in any state as it is
abbrev pub pure : {A : Type 0} → A → Act A
pure a = λ s. Ok (a, s)

-- what was found, beside a state that stays
abbrev pub in_state : {A : Type 0} → Found A → State → Found (A × State)
in_state (Ok a) s = Ok (a, s)
in_state (Err e) s = Err e

-- what needs no state
abbrev pub lift : {A : Type 0} → Found A → Act A
lift r = λ s. in_state r s

-- ---- visits

-- no visit is left
abbrev pub out_of_visits : {A : Type 0} → Place → Act A
out_of_visits p = λ s. Err (denial Fuel p)

-- so many visits at a place, or as many as there are left
unfoldable pub visits : ℕ → Place → Act (Unit {0})
visits n p = λ s. if nat_lt s.visits n then Err (denial Fuel p) else Ok (tt, record s { visits = s.visits - n })

-- one visit at a place
abbrev pub visit : Place → Act (Unit {0})
visit p = visits 1 p

-- ---- what a function that evaluates ensures: what the meaning says, unless memory fails

-- the result is this outcome with the state after, or memory failed
abbrev pub Does : {A : Type 0} → Found (A × State) → Found A → State → Type 0
Does outcome (Ok a) new = outcome ≡ Ok (a, new)
Does outcome (Err e) new = e ≢ Memory → outcome ≡ Err e
