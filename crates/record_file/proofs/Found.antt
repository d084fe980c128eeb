-- what a later line says with which nothing is wrong
use Rattle.std.proofs.Common.{◌≡◌, ℕ, Bool, true, false, cond, List, refl, codes, Some, None}
use Rattle.std.specs.Str.{bytes_eq}
use Rattle.std.proofs.lemmas.Slice.Eq.{bytes_eq-Decides}
use Rattle.sg_names.specs.Grammar.{lacks}
use Rattle.sg_names.specs.Hex.{is_hex}
use Rattle.sg_history.specs.declared.fault.Why.TheVariants as reason
use Rattle.sg_history.proofs.DecidedTexts.{hex_of}
use Rattle.sg_history.proofs.WriteFields.{body_read}
use Rattle.record_file.specs.declared.item.Item.{Item}
use Rattle.record_file.specs.declared.item.Item.TheVariants as item
use Rattle.record_file.specs.Record.{item_text, is_item}
use Rattle.record_file.specs.Faults.{item_fault}

-- an item with this line
pub record HasItem (line : List ℕ) : Type 0 where
  pub item : Item
  pub is : is_item item ≡ true
  pub text : line ≡ item_text item

frame_of : (line : List ℕ) → is_hex line ≡ true → HasItem line
frame_of line h =
    let found = hex_of line h in
    record { item = item.Frame found.0; is = body_read line found.0 found.1 h; text = found.1 }

item_under : (line : List ℕ) (whole idle hex : Bool) → bytes_eq line (codes "idle") ≡ idle → is_hex line ≡ hex
    → cond whole (cond idle None (cond hex None (Some (reason.Field 1)))) (Some reason.Fields) ≡ None → HasItem line
item_under line false idle hex i x none = absurd (cc (none))
item_under line true true hex i x none = record { item = item.Idle; is = refl; text = (bytes_eq-Decides line (codes "idle")).0 i }
item_under line true false false i x none = absurd (cc (none))
item_under line true false true i x none = frame_of line x

pub item_found : (line : List ℕ) → item_fault line ≡ None → HasItem line
item_found line none = item_under line (lacks 9 line) (bytes_eq line (codes "idle")) (is_hex line) refl refl none
