use Rattle.std.proofs.Common.{◌≡◌, arith, ℕ, List, Some, if◌then◌else◌}
use Rattle.std.specs.Prelude.{string_bytes}
use Rattle.std.specs.BTreeMap.{get_by_text}
use Rattle.std.specs.Str.{bytes_eq}
use Rattle.std.proofs.lemmas.Map.Text.{text_keys}
use Rattle.feed_rows.proofs.Lastings.{switches_put}
use Rattle.feed_rows.proofs.by_channels.put.Goals as goal

pub returns : goal.returns
returns c = λ viewer start to are right.
    let updated : (text : List ℕ) → get_by_text c.insert.new.self text ≡ (if bytes_eq (string_bytes c.args.text) text then Some c.args.kept else get_by_text c.args.map.now text) = λ text. grind (arith, text_keys) in
    switches_put viewer start to c.args.map.now c.insert.new.self (string_bytes c.args.text) c.args.kept are right updated
