-- the fields of a write
use Rattle.std.proofs.Common.{◌≡◌, ℕ, ◌+◌, ◌<◌, ◌^◌, ◌/◌, ◌%◌, true, ◌&&◌, cond, List, [], ◌∷◌, length, refl, sym, ap, ◌∙◌, subst, arith, inl, inr, decimal, IsUtf8, IsTrue}
use Rattle.std.specs.Prelude.{nat_lt, nat_le}
use Rattle.std.specs.List.{list_all}
use Rattle.std.proofs.lemmas.Bool.{and_parts, and_from, or_cases, lt-ltb, leb-true, cases_lt, le-ltb}
use Rattle.sg_names.proofs.OneText.{hex_is}
use Rattle.sg_names.specs.Hex.{hex_digit, hex_text, is_hex, is_hex_digit}
use Rattle.sg_names.specs.Grammar.{is_doc_id}
use Rattle.sg_names.specs.RevId.{rev_text, is_rev}
use Rattle.sg_names.specs.Revs.{revs_text, is_revs}
use Rattle.sg_names.specs.Channels.{channels_text, is_channels}
use Rattle.sg_names.specs.Grants.{grants_text, is_grants}
use Rattle.sg_names.specs.RoleGrants.{role_grants_text, is_role_grants}
use Rattle.sg_history.specs.declared.entries.Write.{Write}
use Rattle.sg_history.specs.declared.line_of_write.WriteTexts.{WriteTexts}
use Rattle.sg_history.specs.Journal.{IsWrite, is_body, is_by, by_text, deleted_text, write_fields}
use Rattle.sg_history.specs.Line.{texts_of, ReadsWrite}
use Rattle.sg_history.specs.Faults.{AreTexts, write_grammars}

pub body_is : (body : List ℕ) → is_body body ≡ true → is_hex (hex_text body) ≡ true
body_is [] h = absurd (cc (h))
body_is (b ∷ bs) h = hex_is b bs (and_parts (nat_lt 0 (length (b ∷ bs))) (list_all (λ c. nat_lt c 256) (b ∷ bs)) h).1

-- the fields of a write are in their grammars
pub write_texts : (w : Write) → IsWrite w → AreTexts write_grammars (write_fields w)
write_texts w is = (
  (is.doc.1, is.doc.0),
  (
    (is.rev.1, w.rev, is.rev.0, refl),
    (
      (is.ancestors.1, w.ancestors, is.ancestors.0, refl),
      (
        (w.deleted, refl),
        (
          body_is w.body is.body,
          (
            (is.by.1, w.by, is.by.0, refl),
            (
              (w.at, is.at, refl),
              (
                (is.winner.1, w.winner, is.winner.0, refl),
                (
                  (is.channels.1, w.channels, is.channels.0, refl),
                  ((is.grants.1, w.grants, is.grants.0, refl), ((is.roles.1, w.roles, is.roles.0, refl), tt)),
                ),
              ),
            ),
          ),
        ),
      ),
    ),
  ),
)

-- the digit of what is below 16
digit_small : (n : ℕ) → is_hex_digit (hex_digit n) ≡ true → n < 16
digit_small n h = elim (cases_lt n 10) [
  | inl low ↦ omega arith
  | inr high ↦
      let digit : hex_digit n ≡ 87 + n = ap (λ b. cond b (48 + n) (87 + n)) (le-ltb n 10 high) in
      elim (or_cases (nat_le 48 (87 + n) && nat_le (87 + n) 57) (nat_le 97 (87 + n) && nat_le (87 + n) 102) (sym (ap is_hex_digit digit) ∙ h)) [
        | inl a ↦ let range = leb-true (87 + n) 57 (and_parts (nat_le 48 (87 + n)) (nat_le (87 + n) 57) a).1 in omega (arith, range)
        | inr a ↦ let range = leb-true (87 + n) 102 (and_parts (nat_le 97 (87 + n)) (nat_le (87 + n) 102) a).1 in omega (arith, range)
      ]
]

-- what is written in hexadecimal digits are bytes
bytes_of_hex : (bytes : List ℕ) → list_all (λ b. is_hex_digit b) (hex_text bytes) ≡ true → list_all (λ b. nat_lt b 256) bytes ≡ true
bytes_of_hex [] h = refl
bytes_of_hex (b ∷ bs) h =
    let outer = and_parts (is_hex_digit (hex_digit (b / 16))) (list_all (λ c. is_hex_digit c) (hex_digit (b % 16) ∷ hex_text bs)) h in
    let inner = and_parts (is_hex_digit (hex_digit (b % 16))) (list_all (λ c. is_hex_digit c) (hex_text bs)) outer.1 in
    let high = digit_small (b / 16) outer.0 in
    and_from _ _ (lt-ltb b 256 (omega arith)) (bytes_of_hex bs inner.1)

pub body_from_hex : (body : List ℕ) → is_hex (hex_text body) ≡ true → is_body body ≡ true
body_from_hex [] h = absurd (cc (h))
body_from_hex (b ∷ bs) h =
    and_from _ _ (lt-ltb 0 (length (b ∷ bs)) (omega arith)) (bytes_of_hex (b ∷ bs) (and_parts _ _ h).1)

-- what was read of a text is a body
pub body_read : (text body : List ℕ) → text ≡ hex_text body → is_hex text ≡ true → is_body body ≡ true
body_read text body is hex = body_from_hex body (sym (ap is_hex is) ∙ hex)

-- what was read of the fields
pub record HoldsFields (t : WriteTexts) (w : Write) : Type 0 where
  pub doc : (w.doc ≡ t.doc.now) × IsTrue (is_doc_id w.doc) × IsUtf8 t.doc.now
  pub rev : (t.rev.now ≡ rev_text w.rev) × IsTrue (is_rev w.rev) × IsUtf8 t.rev.now
  pub ancestors : (t.ancestors.now ≡ revs_text w.ancestors) × IsTrue (is_revs w.ancestors) × IsUtf8 t.ancestors.now
  pub deleted : t.deleted.now ≡ deleted_text w.deleted
  pub body : (t.body.now ≡ hex_text w.body) × IsTrue (is_hex t.body.now)
  pub by : (t.by.now ≡ by_text w.by) × IsTrue (is_by w.by) × IsUtf8 t.by.now
  pub at : (w.at < 2 ^ 64) × (t.at.now ≡ decimal w.at)
  pub winner : (t.winner.now ≡ rev_text w.winner) × IsTrue (is_rev w.winner) × IsUtf8 t.winner.now
  pub channels : (t.channels.now ≡ channels_text w.channels) × IsTrue (is_channels w.channels) × IsUtf8 t.channels.now
  pub grants : (t.grants.now ≡ grants_text w.grants) × IsTrue (is_grants w.grants) × IsUtf8 t.grants.now
  pub roles : (t.roles.now ≡ role_grants_text w.roles) × IsTrue (is_role_grants w.roles) × IsUtf8 t.roles.now

write_is : (t : WriteTexts) (w : Write) → HoldsFields t w → IsWrite w
write_is t w holds = record {
  doc = (holds.doc.1, subst IsUtf8 (sym holds.doc.0) holds.doc.2);
  rev = (holds.rev.1, subst IsUtf8 holds.rev.0 holds.rev.2);
  ancestors = (holds.ancestors.1, subst IsUtf8 holds.ancestors.0 holds.ancestors.2);
  body = body_from_hex w.body (sym (ap is_hex holds.body.0) ∙ holds.body.1);
  by = (holds.by.1, subst IsUtf8 holds.by.0 holds.by.2);
  at = holds.at.0;
  winner = (holds.winner.1, subst IsUtf8 holds.winner.0 holds.winner.2);
  channels = (holds.channels.1, subst IsUtf8 holds.channels.0 holds.channels.2);
  grants = (holds.grants.1, subst IsUtf8 holds.grants.0 holds.grants.2);
  roles = (holds.roles.1, subst IsUtf8 holds.roles.0 holds.roles.2);
}

fields_are : (t : WriteTexts) (w : Write) → HoldsFields t w → texts_of t ≡ write_fields w
fields_are t w holds = λ i.
    sym holds.doc.0 i ∷ holds.rev.0 i ∷ holds.ancestors.0 i ∷ holds.deleted i ∷ holds.body.0 i ∷ holds.by.0 i ∷ holds.at.1 i
    ∷ holds.winner.0 i ∷ holds.channels.0 i ∷ holds.grants.0 i ∷ holds.roles.0 i ∷ []

-- the fields are read as the write
pub reads_write : (t : WriteTexts) (w : Write) → HoldsFields t w → ReadsWrite (texts_of t) w
reads_write t w holds = (write_is t w holds, fields_are t w holds)
