-- lines of what a wire gave, cut one after another
use Rattle.std.proofs.Common.{◌≡◌, ◌≢◌, ℕ, ◌<◌, Bool, true, false, ◌&&◌, cond, List, [], ◌∷◌, length, refl, sym, ap, ◌∙◌, arith, codes, None, map}
use Rattle.std.specs.Prelude.{nat_lt}
use Rattle.std.specs.List.{list_all}
use Rattle.std.specs.Str.{bytes_eq}
use Rattle.std.proofs.lemmas.Bool.{and_parts}
use Rattle.sg_names.proofs.OneText.{hex_same, hex_digits}
use Rattle.sg_names.proofs.PlainTexts.{plain_hex, plain_lacks}
use Rattle.sg_names.specs.Grammar.{lacks}
use Rattle.sg_names.specs.Hex.{hex_text, is_hex, is_hex_digit, are_bytes}
use Rattle.sg_history.proofs.WriteFields.{body_is}
use Rattle.record_file.specs.declared.item.Item.{Item}
use Rattle.record_file.specs.declared.item.Item.TheVariants as item
use Rattle.record_file.specs.Record.{item_text, is_item, input_of, result_of, results_of}
use Rattle.sg_outside.specs.declared.mem_wire.Input.{Input}
use Rattle.sg_outside.specs.MemWire.{got_of}
use Rattle.record_file.specs.Faults.{frame_fault, item_fault}

bytes_of : (bytes : List ℕ) → nat_lt 0 (length bytes) && are_bytes bytes ≡ true → are_bytes bytes ≡ true
bytes_of bytes h = (and_parts (nat_lt 0 (length bytes)) (are_bytes bytes) h).1

-- the line of an item has neither a TAB nor a line feed
pub item_lacks : (c : ℕ) → c < 32 → (i : Item) → is_item i ≡ true → lacks c (item_text i) ≡ true
item_lacks c low (item.Frame bytes) is = plain_lacks c (hex_text bytes) low (plain_hex bytes (bytes_of bytes is))
item_lacks c low item.Idle is = plain_lacks c (codes "idle") low refl

frame_fine : (line : List ℕ) → is_hex line ≡ true → (idle : Bool) → cond idle None (frame_fault line) ≡ None
frame_fine line is true = refl
frame_fine line is false = rw is refl

-- nothing is wrong with the line of an item
pub item_fine : (i : Item) → is_item i ≡ true → item_fault (item_text i) ≡ None
item_fine (item.Frame bytes) is =
    rw (item_lacks 9 (omega arith) (item.Frame bytes) is) (frame_fine (hex_text bytes) (body_is bytes is) (bytes_eq (hex_text bytes) (codes "idle")))
item_fine item.Idle is = refl

pub idle_fine : (line : List ℕ) → line ≡ codes "idle" → item_fault line ≡ None
idle_fine line is = ap item_fault is

-- no frame is written as `idle`
no_idle : (bytes : List ℕ) → are_bytes bytes ≡ true → hex_text bytes ≢ codes "idle"
no_idle bytes is e = cc (sym (ap (λ t. list_all (λ b. is_hex_digit b) t) e) ∙ hex_digits bytes is)

-- a line is that of one item
pub item_same : (i j : Item) → is_item i ≡ true → is_item j ≡ true → item_text i ≡ item_text j → i ≡ j
item_same (item.Frame a) (item.Frame b) h g e = ap item.Frame (hex_same a b (bytes_of a h) (bytes_of b g) e)
item_same (item.Frame a) item.Idle h g e = absurd (no_idle a (bytes_of a h) e)
item_same item.Idle (item.Frame b) h g e = absurd (no_idle b (bytes_of b g) (sym e))
item_same item.Idle item.Idle h g e = refl

gives : (i : Item) → got_of (input_of i) ≡ result_of i
gives (item.Frame bytes) = refl
gives item.Idle = refl

each_gives : (items : List Item) → map (λ i. got_of i) (map (λ i. input_of i) items) ≡ results_of items
each_gives [] = refl
each_gives (i ∷ items) = let one = gives i in let more = each_gives items in λ k. one k ∷ more k

-- the inputs of a wire in memory give what was recorded
pub inputs_give : (items : List Item) (inputs : List Input) → inputs ≡ map (λ i. input_of i) items → map (λ i. got_of i) inputs ≡ results_of items
inputs_give items inputs is = ap (map (λ i. got_of i)) is ∙ each_gives items
