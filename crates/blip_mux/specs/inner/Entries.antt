-- Messages beside their stamps.
use Rattle.std.specs.Prelude.{ℕ, List, Option}
use Rattle.std.specs.Map.{lookup, set_value, remove_entry}
use Rattle.std.specs.BTreeMap.{is_at}
use Rattle.std.specs.Ordering.{nat_cmp}
use Rattle.blip_mux.specs.Sending.{Waiting}

-- messages, each beside its stamp, in the order of the stamps
abbrev pub Entries : Type 0
Entries = List (ℕ × Waiting)

-- the message of a stamp
abbrev pub look : Entries → ℕ → Option Waiting
look es stamp = lookup (is_at (nat_cmp stamp)) es

-- the others
abbrev pub without : ℕ → Entries → Entries
without stamp es = remove_entry (is_at (nat_cmp stamp)) es

-- with this message in the place of the one of a stamp
abbrev pub with_message : ℕ → Entries → Waiting → Entries
with_message stamp es w = set_value (is_at (nat_cmp stamp)) es w
