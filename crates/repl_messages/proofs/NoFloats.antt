-- Rows and answers have no floats.
use Rattle.std.proofs.Common.{◌≡◌, ℕ, Bool, true, false, nat_eq, if◌then◌else◌, List, [], ◌∷◌, map, refl}
use Rattle.serde_json.specs.Data.{number, string, unsigned, boolean}
use Rattle.serde_json.specs.View.{items_of}
use Rattle.serde_json.specs.Written.{has_float, items_have_float}
use Rattle.sg_names.specs.Key.{key_text}
use Rattle.sg_names.specs.RevId.{rev_text}
use Rattle.sg_names.specs.declared.rev_id.RevId.{RevId}
use Rattle.sg_history.specs.Feed.{is_deleted}
use Rattle.sg_history.specs.declared.row.Row.{Row}
use Rattle.repl_messages.specs.declared.request.Version.{Version}
use Rattle.repl_messages.specs.declared.request.Version.TheVariants.{Two, Three}
use Rattle.repl_messages.specs.declared.offers.OfferAnswer.{OfferAnswer}
use Rattle.repl_messages.specs.Answers.{revs_data, answer_data, answers_data}
use Rattle.repl_messages.specs.Changes.{mark, row_data, changes_data}

number_or_text : (plain : Bool) (n : ℕ) (text : List ℕ) → has_float (if plain then number (unsigned n) else string text) ≡ false
number_or_text true n text = refl
number_or_text false n text = refl

truth_or_none : (deleted : Bool) → items_have_float (items_of (if deleted then boolean true ∷ [] else [])) ≡ false
truth_or_none true = refl
truth_or_none false = refl

none_or_number : (zero : Bool) (n : ℕ) → items_have_float (items_of (if zero then [] else number (unsigned n) ∷ [])) ≡ false
none_or_number true n = refl
none_or_number false n = refl

mark_float : (version : Version) (bits : ℕ) → items_have_float (items_of (mark version bits)) ≡ false
mark_float Two bits = truth_or_none (is_deleted bits)
mark_float Three bits = none_or_number (nat_eq bits 0) bits

row_float : (version : Version) (row : Row) → has_float (row_data version row) ≡ false
row_float version row = rw (number_or_text (nat_eq row.key.by row.key.seq) row.key.seq (key_text row.key)) (mark_float version row.bits)

rows_float : (version : Version) (rows : List Row) → items_have_float (items_of (map (λ row. row_data version row) rows)) ≡ false
rows_float version [] = refl
rows_float version (row ∷ rows) = rw (row_float version row) (rows_float version rows)

pub changes_float : (version : Version) (rows : List Row) → has_float (changes_data version rows) ≡ false
changes_float version rows = rows_float version rows

revs_float : (revs : List RevId) → items_have_float (items_of (map (λ r. string (rev_text r)) revs)) ≡ false
revs_float [] = refl
revs_float (r ∷ rs) = revs_float rs

known_float : (known : Bool) (revs : List RevId) → has_float (if known then number (unsigned 0) else revs_data revs) ≡ false
known_float true revs = refl
known_float false revs = revs_float revs

answer_float : (proposed : Bool) (a : OfferAnswer) → has_float (answer_data proposed a) ≡ false
answer_float true a = refl
answer_float false a = known_float a.known a.ancestors

items_float : (proposed : Bool) (answers : List OfferAnswer) → items_have_float (items_of (map (λ a. answer_data proposed a) answers)) ≡ false
items_float proposed [] = refl
items_float proposed (a ∷ more) = rw (answer_float proposed a) (items_float proposed more)

pub answers_float : (proposed : Bool) (answers : List OfferAnswer) → has_float (answers_data proposed answers) ≡ false
answers_float proposed answers = items_float proposed answers
