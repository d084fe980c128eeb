-- Places in a text.
use Rattle.std.specs.Prelude.{◌≡◌, ◌⊎◌, ℕ, ◌+◌, ◌-◌, ◌^◌, ◌<◌, ◌==◌, min, if◌then◌else◌}
use Rattle.sync_tokens.specs.declared.place.Place.{Place}

-- the next number, as far as 32 bits go
abbrev pub next_number : ℕ → ℕ
next_number n = min (n + 1) (2 ^ 32 - 1)

-- the place after a character: a line feed ends its line
abbrev pub step : Place → ℕ → Place
step p c = if c == 10 then record { line = next_number p.line; column = 1 } else record { line = p.line; column = next_number p.column }

-- the place of a text's first character
abbrev pub first_place : Place
first_place = record { line = 1; column = 1 }

-- one place stands before another: in an earlier line, or further left in the same
abbrev pub IsBefore : Place → Place → Type 0
IsBefore p q = (p.line < q.line) ⊎ ((p.line ≡ q.line) × (p.column < q.column))
