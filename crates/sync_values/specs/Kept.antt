-- The bytes of a text, however it is kept.
use Rattle.std.specs.Prelude.{List, ℕ}
use Rattle.sync_values.specs.declared.text.Kept.{Kept}
use Rattle.sync_values.specs.declared.text.Kept.TheVariants as kept

unfoldable pub bytes_of : Kept → List ℕ
bytes_of (kept.Short text) = text.bytes
bytes_of (kept.Long text) = text
