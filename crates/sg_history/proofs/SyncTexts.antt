-- the text of a sync function, and its hexadecimal text
use Rattle.std.proofs.Common.{◌≡◌, ℕ, suc, ◌<◌, Bool, true, false, ◌&&◌, List, [], ◌∷◌, length, get_or, refl, sym, ap, ◌∙◌, subst, decimal, IsUtf8, IsTrue}
use Rattle.std.specs.Prelude.{nat_lt, nat_le, Result, Ok, Err, IfOk}
use Rattle.std.proofs.lemmas.Bool.{and_parts, and_from, lt-ltb}
use Rattle.std.proofs.lemmas.Fmt.{IsAscii-decimal}
use Rattle.std.proofs.lemmas.Str.{IsUtf8-from_ascii}
use Rattle.sg_names.proofs.OneText.{hex_same}
use Rattle.sg_names.specs.declared.fault.TextFault.{TextFault}
use Rattle.sg_names.specs.Hex.{are_bytes, hex_text, is_hex}
use Rattle.sg_history.specs.Journal.{is_body}
use Rattle.sg_history.specs.Faults.{IsText, number, sync_text}
use Rattle.sg_history.specs.SyncText.{is_sync_text}
use Rattle.sg_history.proofs.WriteFields.{body_is, body_read}

-- such a text is one of bytes
pub sync_bytes : (v : List ℕ) → is_sync_text v ≡ true → are_bytes v ≡ true
sync_bytes v h = (and_parts (nat_lt 0 (length v) && nat_le (length v) 65536) (are_bytes v) h).1

sync_body : (v : List ℕ) → is_sync_text v ≡ true → is_body v ≡ true
sync_body v h =
    let parts = and_parts (nat_lt 0 (length v) && nat_le (length v) 65536) (are_bytes v) h in
    and_from _ _ (and_parts (nat_lt 0 (length v)) (nat_le (length v) 65536) parts.0).0 parts.1

pub sync_is_hex : (v : List ℕ) → is_sync_text v ≡ true → is_hex (hex_text v) ≡ true
sync_is_hex v h = body_is v (sync_body v h)

-- what was read of a text is the sync function's text that it spells, if it spells one
pub same_sync : (text bytes v : List ℕ) → is_hex text ≡ true → text ≡ hex_text bytes → is_sync_text v ≡ true → text ≡ hex_text v → v ≡ bytes
same_sync text bytes v hex read is spelled =
    hex_same v bytes (sync_bytes v is) (and_parts (nat_lt 0 (length bytes)) (are_bytes bytes) (body_read text bytes read hex)).1 (sym spelled ∙ read)

below : (xs : List ℕ) → ((k : ℕ) → get_or xs k 0 < 256) → are_bytes xs ≡ true
below [] small = refl
below (x ∷ xs) small = and_from _ _ (lt-ltb x 256 (small 0)) (below xs (λ k. small (suc k)))

and_true : (a : Bool) → (a && true) ≡ a
and_true true = refl
and_true false = refl

-- of bytes the length alone is asked
pub sync_text_is : (xs : List ℕ) → ((k : ℕ) → get_or xs k 0 < 256) → is_sync_text xs ≡ (nat_lt 0 (length xs) && nat_le (length xs) 65536)
sync_text_is xs small =
    ap (λ (b : Bool). (nat_lt 0 (length xs) && nat_le (length xs) 65536) && b) (below xs small) ∙ and_true (nat_lt 0 (length xs) && nat_le (length xs) 65536)

-- what was read of the bytes that a text spells
pub sync_read : (r : Result (List ℕ) TextFault) (field bytes : List ℕ) → field ≡ hex_text bytes
    → IfOk r (λ t. (t ≡ bytes) × IsTrue (is_sync_text t) × IsUtf8 t) → IfOk r (λ v. (field ≡ hex_text v) × IsTrue (is_sync_text v) × IsUtf8 v)
sync_read (Ok t) field bytes spelled h = (spelled ∙ ap hex_text (sym h.0), h.1, h.2)
sync_read (Err e) field bytes spelled h = tt

pub sync_is_text : (r : Result (List ℕ) TextFault) (field bytes : List ℕ) → field ≡ hex_text bytes
    → IfOk r (λ t. (t ≡ bytes) × IsTrue (is_sync_text t) × IsUtf8 t) → IfOk r (λ v. IsText sync_text field)
sync_is_text (Ok t) field bytes spelled h = (t, h.1, h.2, spelled ∙ ap hex_text (sym h.0))
sync_is_text (Err e) field bytes spelled h = tt

pub sync_bad : (field bytes : List ℕ) → is_hex field ≡ true → field ≡ hex_text bytes → ¬ (IsUtf8 bytes × IsTrue (is_sync_text bytes)) → ¬ (IsText sync_text field)
sync_bad field bytes hex spelled none h =
    let same = same_sync field bytes h.0 hex spelled h.1 h.3 in
    none (subst IsUtf8 same h.2, sym (ap is_sync_text same) ∙ h.1)

pub hex_bad : (field : List ℕ) → ¬ (IsTrue (is_hex field)) → ¬ (IsText sync_text field)
hex_bad field none h = none (ap is_hex h.3 ∙ sync_is_hex h.0 h.1)

-- a decimal is UTF-8
pub number_utf8 : (text : List ℕ) → IsText number text → IsUtf8 text
number_utf8 text h = subst IsUtf8 (sym h.2) (IsUtf8-from_ascii (decimal h.0) (IsAscii-decimal h.0 h.1))
