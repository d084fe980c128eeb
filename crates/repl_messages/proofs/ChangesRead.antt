-- A `changes` that is written is read as the offers of its rows.
use native.Mathlib.Omega.{arith}
use Rattle.std.specs.Prelude.{codes}
use Rattle.std.proofs.Common.{◌≡◌, ℕ, suc, ◌≤◌, Bool, true, false, nat_eq, if◌then◌else◌, IsTrue, List, [], ◌∷◌, map, length, Some, None, refl, ap}
use Rattle.blip_frame.specs.Props.{Pair}
use Rattle.serde_json.specs.Data.{string, number, boolean, unsigned, depth, items_depth}
use Rattle.serde_json.specs.View.{items_of}
use Rattle.sg_names.specs.Key.{key_text}
use Rattle.sg_names.specs.RevId.{rev_text}
use Rattle.sg_history.specs.Feed.{is_deleted}
use Rattle.sg_history.specs.declared.row.Row.{Row}
use Rattle.repl_messages.specs.declared.request.Version.{Version}
use Rattle.repl_messages.specs.declared.request.Version.TheVariants.{Two, Three}
use Rattle.repl_messages.specs.declared.rows.Form.TheVariants as form
use Rattle.repl_messages.specs.Changes.{sequence_data, mark, row_data, changes_data}
use Rattle.repl_messages.specs.Json.{json_of}
use Rattle.repl_messages.specs.Offers.{is_sequence, IsRow, AreRows}
use Rattle.repl_messages.specs.ReadAgain.{IsInGrammar, AreInGrammar, offers_of, IsReadAsOffers}

-- ---- rows nest little

plain_or_text : (plain : Bool) (n : ℕ) (text : List ℕ) → depth (if plain then number (unsigned n) else string text) ≡ 0
plain_or_text true n text = refl
plain_or_text false n text = refl

truth_or_none : (deleted : Bool) → items_depth (items_of (if deleted then boolean true ∷ [] else [])) ≡ 0
truth_or_none true = refl
truth_or_none false = refl

none_or_number : (zero : Bool) (n : ℕ) → items_depth (items_of (if zero then [] else number (unsigned n) ∷ [])) ≡ 0
none_or_number true n = refl
none_or_number false n = refl

mark_depth : (version : Version) (bits : ℕ) → items_depth (items_of (mark version bits)) ≡ 0
mark_depth Two bits = truth_or_none (is_deleted bits)
mark_depth Three bits = none_or_number (nat_eq bits 0) bits

row_depth : (version : Version) (row : Row) → depth (row_data version row) ≡ 1
row_depth version row = rw (plain_or_text (nat_eq row.key.by row.key.seq) row.key.seq (key_text row.key), mark_depth version row.bits) refl

rows_depth : (version : Version) (rows : List Row) → items_depth (items_of (map (λ row. row_data version row) rows)) ≤ 1
rows_depth version [] = omega arith
rows_depth version (row ∷ rows) = rw (row_depth version row) (omega (arith, rows_depth version rows))

-- no deeper than what is read
pub changes_depth : (version : Version) (rows : List Row) → depth (changes_data version rows) ≤ 127
changes_depth version rows = omega (arith, rows_depth version rows)

-- ---- and are those of their offers

sequence_seen : (plain : Bool) (n : ℕ) (text : List ℕ) → IsTrue (is_sequence (if plain then number (unsigned n) else string text))
sequence_seen true n text = refl
sequence_seen false n text = refl

row_offers : (version : Version) (row : Row) → IsInGrammar row → IsRow form.Change (row_data version row) (record { doc = row.doc; rev = row.rev; parent = None })
row_offers version row names = (
  sequence_data row.key ∷ string row.doc ∷ string (rev_text row.rev) ∷ mark version row.bits,
  refl,
  (sequence_seen (nat_eq row.key.by row.key.seq) row.key.seq (key_text row.key), (refl, names.doc), (refl, names.rev), refl),
)

rows_offer : (version : Version) (rows : List Row) → AreInGrammar rows → AreRows form.Change (map (λ row. row_data version row) rows) (offers_of rows)
rows_offer version [] names = tt
rows_offer version (row ∷ rows) names = (row_offers version row names.0, rows_offer version rows names.1)

as_many : (rows : List Row) → length (offers_of rows) ≡ length rows
as_many [] = refl
as_many (row ∷ rows) = ap suc (as_many rows)

pub offered : (props : List Pair) (body : List ℕ) (version : Version) (rows : List Row) → props ≡ (codes "Profile", codes "changes") ∷ [] → json_of body ≡ Some (changes_data version rows)
    → IsReadAsOffers (record { props = props; body = body }) rows version
offered props body version rows named json names few =
    let count : length (offers_of rows) ≤ 10000 = rw (as_many rows) few in
    rw named (Some (offers_of rows), (changes_data version rows, json, (map (λ row. row_data version row) rows, refl, rows_offer version rows names, count)), refl)
