-- Which channels were asked for last.
use Rattle.std.specs.Prelude.{ℕ, ◌+◌, List, [], ◌∷◌, filter, take, not, if◌then◌else◌}
use Rattle.std.specs.Str.{bytes_eq}
use Rattle.sg_history.specs.History.{among}

-- the other channels among these
abbrev pub others : List ℕ → List (List ℕ) → List (List ℕ)
others channel asked = filter (λ c. not (bytes_eq c channel)) asked

-- the channels that were asked for last, at most so many, the last one first, once this one was asked for
abbrev pub asked_after : ℕ → List ℕ → List (List ℕ) → List (List ℕ)
asked_after most channel asked = take most (channel ∷ others channel asked)

-- the same once these were asked for, in turn
abbrev pub asked_after_all : ℕ → List (List ℕ) → List (List ℕ) → List (List ℕ)
asked_after_all most [] asked = asked
asked_after_all most (channel ∷ channels) asked = asked_after_all most channels (asked_after most channel asked)

-- how many of these are not among the asked at their turn
abbrev pub refills_of : ℕ → List (List ℕ) → List (List ℕ) → ℕ
refills_of most [] asked = 0
refills_of most (channel ∷ channels) asked =
    (if among asked channel then 0 else 1) + refills_of most channels (asked_after most channel asked)

-- the distinct ones of these, given the last one first, each where it stands last
abbrev pub last_distinct : List (List ℕ) → List (List ℕ)
last_distinct [] = []
last_distinct (channel ∷ earlier) = channel ∷ others channel (last_distinct earlier)
