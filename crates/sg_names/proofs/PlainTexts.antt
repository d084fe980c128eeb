-- texts without control characters
use Rattle.std.proofs.Common.{◌≡◌, ℕ, ◌<◌, ◌≤◌, ◌^◌, Bool, true, ◌&&◌, not, cond, List, [], ◌∷◌, ◌++◌, length, map, refl, sym, ap, ◌∙◌, arith, inl, inr}
use Rattle.std.specs.Prelude.{decimal, nat_le, nat_lt, nat_eq, codes}
use Rattle.std.specs.List.{list_all}
use Rattle.std.proofs.lemmas.Bool.{and_parts, and_from, or_cases, not_from_false, ne_eqb, leb-true, le-leb, cases_Bool}
use Rattle.std.proofs.lemmas.List.{map-id}
use Rattle.std.proofs.lemmas.List.Folds.{list_all-append}
use Rattle.sg_names.proofs.Decimals.{is_decimal-decimal, decimal_digits, digit_range}
use Rattle.sg_names.proofs.ItemTexts.{grant_parts, role_grant_parts, name_channel}
use Rattle.sg_names.proofs.KeyTexts.{key_parts}
use Rattle.sg_names.proofs.OneText.{hex_digits}
use Rattle.sg_names.proofs.RevTexts.{rev_parts}
use Rattle.sg_names.specs.Channels.{channels_text, is_channels}
use Rattle.sg_names.specs.Decimal.{is_digit}
use Rattle.sg_names.specs.Grammar.{is_plain, is_plain_byte, is_plain_text, is_dash, lacks, is_channel_name, is_name, is_digest_byte}
use Rattle.sg_names.specs.Grants.{grants_text, is_grants, grant_text, is_grant, grantee_text, is_grantee}
use Rattle.sg_names.specs.Hex.{hex_text, is_hex_digit, are_bytes}
use Rattle.sg_names.specs.ItemList.{list_text}
use Rattle.sg_names.specs.Key.{key_text, is_key, pair_text}
use Rattle.sg_names.specs.Names.{names_text, is_names}
use Rattle.sg_names.specs.RevId.{rev_text, is_rev}
use Rattle.sg_names.specs.Revs.{revs_text, is_revs}
use Rattle.sg_names.specs.RoleGrants.{role_grants_text, is_role_grants, role_grant_text, is_role_grant}
use Rattle.sg_names.specs.declared.grants.Grantee.{Grantee}
use Rattle.sg_names.specs.declared.grants.Grantee.TheVariants.{User, Role}
use Rattle.sg_names.specs.declared.grants.Grant.{Grant}
use Rattle.sg_names.specs.declared.key.Key.{Key}
use Rattle.sg_names.specs.declared.rev_id.RevId.{RevId}
use Rattle.sg_names.specs.declared.role_grants.RoleGrant.{RoleGrant}

-- a test that each byte passes says what it implies of each
implied : (p q : ℕ → Bool) → ((b : ℕ) → p b ≡ true → q b ≡ true) → (text : List ℕ) → list_all p text ≡ true → list_all q text ≡ true
implied p q f [] h = refl
implied p q f (b ∷ bs) h = let both = and_parts (p b) (list_all p bs) h in and_from _ _ (f b both.0) (implied p q f bs both.1)

plain_from_range : (b : ℕ) → 32 ≤ b → b < 127 → is_plain_byte b ≡ true
plain_from_range b low high = and_from _ _ (le-leb 32 b low) (not_from_false (nat_eq b 127) (ne_eqb b 127 (λ e. omega (arith, e))))

joined : (front back : List ℕ) (c : ℕ) → is_plain_byte c ≡ true → is_plain front ≡ true → is_plain back ≡ true → is_plain (front ++ c ∷ back) ≡ true
joined front back c byte first second = list_all-append is_plain_byte front (c ∷ back) ∙ and_from _ _ first (and_from _ _ byte second)

digit_plain : (b : ℕ) → is_digit b ≡ true → is_plain_byte b ≡ true
digit_plain b h = let range = digit_range b h in plain_from_range b (omega (arith, range.0)) (omega (arith, range.1))

pub plain_decimal : (n : ℕ) → n < 2 ^ 64 → is_plain (decimal n) ≡ true
plain_decimal n small = implied is_digit is_plain_byte digit_plain (decimal n) (decimal_digits (decimal n) (is_decimal-decimal n small))

hex_plain : (b : ℕ) → is_hex_digit b ≡ true → is_plain_byte b ≡ true
hex_plain b h = elim (or_cases (nat_le 48 b && nat_le b 57) (nat_le 97 b && nat_le b 102) h) [
  | inl a ↦ let range = and_parts (nat_le 48 b) (nat_le b 57) a in plain_from_range b (omega (arith, leb-true 48 b range.0)) (omega (arith, leb-true b 57 range.1))
  | inr a ↦ let range = and_parts (nat_le 97 b) (nat_le b 102) a in plain_from_range b (omega (arith, leb-true 97 b range.0)) (omega (arith, leb-true b 102 range.1))
]

pub plain_hex : (bytes : List ℕ) → are_bytes bytes ≡ true → is_plain (hex_text bytes) ≡ true
plain_hex bytes h = implied is_hex_digit is_plain_byte hex_plain (hex_text bytes) (hex_digits bytes h)

pub plain_key : (k : Key) → is_key k ≡ true → is_plain (key_text k) ≡ true
plain_key k h =
    let parts = key_parts k h in
    elim (cases_Bool (nat_eq k.by k.seq)) [
      | inl same ↦ ap (λ b. is_plain (cond b (decimal k.seq) (pair_text k))) same ∙ plain_decimal k.seq parts.seq_high
      | inr apart ↦ ap (λ b. is_plain (cond b (decimal k.seq) (pair_text k))) apart
          ∙ joined (decimal k.by) (decimal k.seq) 58 refl (plain_decimal k.by parts.high) (plain_decimal k.seq parts.seq_high)
    ]

digest_plain : (b : ℕ) → is_digest_byte b ≡ true → is_plain_byte b ≡ true
digest_plain b h =
    let range = and_parts (nat_le 33 b) (nat_le b 126) (and_parts (nat_le 33 b && nat_le b 126) (not (nat_eq b 44)) h).0 in
    plain_from_range b (omega (arith, leb-true 33 b range.0)) (omega (arith, leb-true b 126 range.1))

pub plain_rev : (r : RevId) → is_rev r ≡ true → is_plain (rev_text r) ≡ true
plain_rev r h =
    let parts = rev_parts r h in
    let digest = (and_parts (nat_lt 0 (length r.digest) && nat_le (length r.digest) 64) (list_all is_digest_byte r.digest) parts.digest).1 in
    joined (decimal r.generation) r.digest 45 refl (plain_decimal r.generation (omega (arith, parts.high)))
    (implied is_digest_byte is_plain_byte digest_plain r.digest digest)

plain_channel : (n : List ℕ) → is_channel_name n ≡ true → is_plain n ≡ true
plain_channel n h =
    let whole = (and_parts (is_plain_text n) (lacks 44 n) (and_parts (is_plain_text n && lacks 44 n) (not (is_dash n)) h).0).0 in
    (and_parts (nat_lt 0 (length n) && nat_le (length n) 250) (is_plain n) whole).1

pub plain_name : (n : List ℕ) → is_name n ≡ true → is_plain n ≡ true
plain_name n h = plain_channel n (name_channel n h)

plain_grantee : (g : Grantee) → is_grantee g ≡ true → is_plain (grantee_text g) ≡ true
plain_grantee (User name) h = plain_name name h
plain_grantee (Role name) h = joined (codes "role") name 58 refl refl (plain_name name h)

plain_grant : (g : Grant) → is_grant g ≡ true → is_plain (grant_text g) ≡ true
plain_grant g h =
    let parts = grant_parts g h in joined (grantee_text g.to) g.channel 61 refl (plain_grantee g.to parts.to) (plain_channel g.channel parts.channel)

plain_role_grant : (g : RoleGrant) → is_role_grant g ≡ true → is_plain (role_grant_text g) ≡ true
plain_role_grant g h =
    let parts = role_grant_parts g h in joined g.user g.role 61 refl (plain_name g.user parts.user) (plain_name g.role parts.role)

-- a list's text is plain where its items' are
plain_list : {X : Type 0} (text : X → List ℕ) (admits : X → Bool) → ((x : X) → admits x ≡ true → is_plain (text x) ≡ true)
    → (xs : List X) → list_all admits xs ≡ true → is_plain (list_text (map text xs)) ≡ true
plain_list text admits each [] h = refl
plain_list text admits each (x ∷ []) h = each x (and_parts (admits x) true h).0
plain_list text admits each (x ∷ y ∷ ys) h =
    let parts = and_parts (admits x) (list_all admits (y ∷ ys)) h in
    joined (text x) (list_text (map text (y ∷ ys))) 44 refl (each x parts.0) (plain_list text admits each (y ∷ ys) parts.1)

pub plain_channels : (l : List (List ℕ)) → is_channels l ≡ true → is_plain (channels_text l) ≡ true
plain_channels l h = ap (λ texts. is_plain (list_text texts)) (sym (map-id l)) ∙ plain_list (λ n. n) is_channel_name plain_channel l (and_parts _ _ h).0

pub plain_names : (l : List (List ℕ)) → is_names l ≡ true → is_plain (names_text l) ≡ true
plain_names l h = ap (λ texts. is_plain (list_text texts)) (sym (map-id l)) ∙ plain_list (λ n. n) is_name plain_name l (and_parts _ _ h).0

pub plain_revs : (l : List RevId) → is_revs l ≡ true → is_plain (revs_text l) ≡ true
plain_revs l h = plain_list (λ r. rev_text r) (λ r. is_rev r) plain_rev l h

pub plain_grants : (l : List Grant) → is_grants l ≡ true → is_plain (grants_text l) ≡ true
plain_grants l h = plain_list (λ g. grant_text g) (λ g. is_grant g) plain_grant l (and_parts _ _ h).0

pub plain_role_grants : (l : List RoleGrant) → is_role_grants l ≡ true → is_plain (role_grants_text l) ≡ true
plain_role_grants l h = plain_list (λ g. role_grant_text g) (λ g. is_role_grant g) plain_role_grant l (and_parts _ _ h).0

pub plain_lacks : (c : ℕ) (text : List ℕ) → c < 32 → is_plain text ≡ true → lacks c text ≡ true
plain_lacks c text low h = implied is_plain_byte (λ b. not (nat_eq b c)) each text h
  where
    each : (b : ℕ) → is_plain_byte b ≡ true → not (nat_eq b c) ≡ true
    each b byte =
        let high = leb-true 32 b (and_parts (nat_le 32 b) (not (nat_eq b 127)) byte).0 in
        not_from_false (nat_eq b c) (ne_eqb b c (λ e. omega (arith, e, high)))
