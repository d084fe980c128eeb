-- each text is in a grammar or it is not
use Rattle.std.proofs.Common.{◌≡◌, ◌≢◌, ◌⊎◌, ℕ, ◌+◌, ◌-◌, ◌*◌, ◌/◌, ◌%◌, ◌<◌, ◌≤◌, ◌^◌, Bool, true, false, ◌&&◌, ◌||◌, not, List, [], ◌∷◌, ◌++◌, length, get_or, map, arith, refl, sym, ap, ◌∙◌, subst, inl, inr, codes, decimal, IsUtf8, Option, Some, None}
use Rattle.std.specs.Prelude.{nat_eq, nat_lt, nat_le, if◌then◌else◌}
use Rattle.std.specs.List.{join_with_byte, list_all}
use Rattle.std.specs.Ordering.{nat_cmp}
use Rattle.std.specs.Cmp.Lexicographic.{bytes_decides, slice_cmp}
use Rattle.std.specs.Str.{bytes_eq, is_utf8}
use Rattle.std.specs.Str.Parse.{AllDigits, digits_value}
use Rattle.std.proofs.lemmas.Bool.{and_parts, and_from, cases_Bool, cases_lt, eq-eqb, eqb-true, false≢true, le-leb, leb-true, lt-ltb, or_cases}
use Rattle.std.proofs.lemmas.Fmt.{decimal-digits_value, decimal_injective, digits_value-decimal}
use Rattle.std.proofs.lemmas.Str.{is_utf8-from_IsUtf8, IsUtf8-from_is_utf8}
use Rattle.std.proofs.lemmas.Str.Parse.{IsNumeralModel, numerals_by_value, tells_digits}
use Rattle.sg_names.proofs.Cuts.{cut_same, lacks_seam}
use Rattle.sg_names.proofs.Decimals.{decimal_digits, digit_range, is_decimal-decimal}
use Rattle.sg_names.proofs.ItemTexts.{channels_apart, grant_cut, grant_parts, grants_apart, names_apart, revs_apart, role_grant_cut, role_grant_parts, role_grants_apart}
use Rattle.sg_names.proofs.RevTexts.{rev_cut, rev_parts}
use Rattle.sg_names.specs.Channels.{channels_text, is_channels}
use Rattle.sg_names.specs.Decimal.{is_decimal, is_digit, is_empty}
use Rattle.sg_names.specs.Grammar.{is_channel_name, is_digest, is_doc_id, is_name, lacks}
use Rattle.sg_names.specs.Grants.{grant_cmp, grant_text, grantee_text, grants_text, is_grant, is_grantee, is_grants}
use Rattle.sg_names.specs.Hex.{hex_digit, hex_text, is_hex, is_hex_digit}
use Rattle.sg_names.specs.ItemList.{list_text, rises, AreApart}
use Rattle.sg_names.specs.Names.{is_names, names_text}
use Rattle.sg_names.specs.RevId.{is_rev, rev_text}
use Rattle.sg_names.specs.Revs.{is_revs, revs_text}
use Rattle.sg_names.specs.RoleGrants.{is_role_grant, is_role_grants, role_grant_cmp, role_grant_text, role_grants_text}
use Rattle.sg_names.specs.declared.grants.Grant.{Grant}
use Rattle.sg_names.specs.declared.grants.Grantee.{Grantee}
use Rattle.sg_names.specs.declared.grants.Grantee.TheVariants.{User, Role}
use Rattle.sg_names.specs.declared.rev_id.RevId.{RevId}
use Rattle.sg_names.specs.declared.role_grants.RoleGrant.{RoleGrant}
use Rattle.sg_history.specs.Faults.{Grammar, IsText, document, revision, revisions, deleted, body, writer, number, name, names, channels, grants, role_grants, sync_text}
use Rattle.sg_history.specs.Journal.{by_text, is_by, deleted_text}
use Rattle.sg_history.specs.SyncText.{is_sync_text}
use Rattle.sg_history.specs.Pieces.{pieces}
use Rattle.sg_history.proofs.LineTexts.{joined_pieces, pieces_joined}
use Rattle.sg_history.proofs.PieceLemmas.{pieces-some}
use Rattle.sg_history.proofs.SyncTexts.{same_sync, sync_is_hex}

-- a statement holds, or it does not
abbrev pub Decided : Type 0 → Type 0
Decided P = P ⊎ ¬ P

truth : (b : Bool) → Decided (b ≡ true)
truth true = inl refl
truth false = inr false≢true

pub both : (P Q : Type 0) → Decided P → Decided Q → Decided (P × Q)
both P Q p q = elim p [
  | inl x ↦ elim q [ inl y ↦ inl (x, y) | inr none ↦ inr (λ h. none h.1) ]
  | inr none ↦ inr (λ h. none h.0)
]

pub utf8 : (text : List ℕ) → Decided (IsUtf8 text)
utf8 text = elim (cases_Bool (is_utf8 text)) [
  | inl is ↦ inl (IsUtf8-from_is_utf8 text is)
  | inr other ↦ inr (λ h. false≢true (sym other ∙ is_utf8-from_IsUtf8 text h))
]

pub same_text : (text other : List ℕ) → Decided (text ≡ other)
same_text text other = elim (cases_Bool (bytes_eq text other)) [
  | inl is ↦ inl ((bytes_decides text other).0 is)
  | inr apart ↦ inr (λ e. false≢true (sym apart ∙ (bytes_decides text other).1 e))
]

-- where a byte stands first, if it does
pub record CutAt (at : ℕ) (bytes : List ℕ) : Type 0 where
  pub whole : List ℕ
  pub after : List ℕ
  pub is : bytes ≡ whole ++ at ∷ after
  pub lacking : lacks at whole ≡ true

pub cut_at : (at : ℕ) (bytes : List ℕ) → (lacks at bytes ≡ true) ⊎ CutAt at bytes
cut_at at [] = inl refl
cut_at at (b ∷ bs) = by (nat_eq b at) refl (cut_at at bs)
  where
    by : (e : Bool) → nat_eq b at ≡ e → (lacks at bs ≡ true) ⊎ CutAt at bs → (lacks at (b ∷ bs) ≡ true) ⊎ CutAt at (b ∷ bs)
    by true is rest = inr (record { whole = []; after = bs; is = ap (λ (n : ℕ). n ∷ bs) (eqb-true b at is); lacking = refl })
    by false is (inl h) = inl (and_from (not (nat_eq b at)) (lacks at bs) (ap not is) h)
    by false is (inr c) = inr (record { whole = b ∷ c.whole; after = c.after; is = ap (λ (l : List ℕ). b ∷ l) c.is; lacking = and_from (not (nat_eq b at)) (lacks at c.whole) (ap not is) c.lacking })

own : IsNumeralModel (AllDigits 10) (digits_value 10)
own = numerals_by_value (AllDigits 10) tells_digits

all_digits : (ds : List ℕ) → list_all is_digit ds ≡ true → AllDigits 10 ds
all_digits [] h = tells_digits.empty
all_digits (d ∷ ds) h =
    let parts = and_parts (is_digit d) (list_all is_digit ds) h in
    tells_digits.more d ds (digit_range d parts.0) (all_digits ds parts.1)

some_digits : (ds : List ℕ) → is_decimal ds ≡ true → 0 < length ds
some_digits [] h = absurd (false≢true h)
some_digits (d ∷ ds) h = omega arith

lone_zero : (d : ℕ) (ds : List ℕ) → (not (nat_eq d 48) || is_empty ds) ≡ true → d ≡ 48 → length (d ∷ ds) ≡ 1
lone_zero d [] h e = refl
lone_zero d (x ∷ xs) h e = absurd (false≢true (rw (eq-eqb d 48 e) at h))

no_leading_zero : (ds : List ℕ) → is_decimal ds ≡ true → get_or ds 0 0 ≡ 48 → length ds ≡ 1
no_leading_zero [] h e = absurd (false≢true h)
no_leading_zero (d ∷ ds) h e = lone_zero d ds (and_parts (is_digit d && list_all is_digit ds) (not (nat_eq d 48) || is_empty ds) h).1 e

decimal_back : (ds : List ℕ) → is_decimal ds ≡ true → digits_value 10 ds < 2 ^ 64 → decimal (digits_value 10 ds) ≡ ds
decimal_back ds h small = decimal-digits_value own ds (all_digits ds (decimal_digits ds h)) (some_digits ds h) (no_leading_zero ds h) small

-- the number below a bound that a text spells, if it does one
pub number_below : (bound : ℕ) (text : List ℕ) → bound ≤ 2 ^ 64 → ((n : ℕ) × (n < bound) × (text ≡ decimal n)) ⊎ ((n : ℕ) → n < bound → text ≢ decimal n)
number_below bound text low = elim (cases_Bool (is_decimal text)) [
  | inl is ↦ elim (cases_lt (digits_value 10 text) bound) [
    | inl small ↦ inl (digits_value 10 text, small, sym (decimal_back text is (omega (arith, low, small))))
    | inr large ↦
        inr (λ n small e.
        let value : digits_value 10 text ≡ n = ap (digits_value 10) e ∙ digits_value-decimal own n (omega (arith, low, small)) in
        omega (arith, value, small, large))
  ]
  | inr other ↦ inr (λ n small e. false≢true (sym other ∙ ap is_decimal e ∙ is_decimal-decimal n (omega (arith, low, small))))
]

-- an item with this text
pub record IsItem {X : Type 0} (text : X → List ℕ) (admits : X → Bool) (part : List ℕ) : Type 0 where
  pub item : X
  pub admitted : admits item ≡ true
  pub spelled : part ≡ text item

pub one_text : (admits : List ℕ → Bool) (part : List ℕ) → Decided (IsItem (λ n. n) admits part)
one_text admits part = elim (cases_Bool (admits part)) [
  | inl is ↦ inl (record { item = part; admitted = is; spelled = refl })
  | inr other ↦ inr (λ h. false≢true (sym other ∙ ap admits h.spelled ∙ h.admitted))
]

pub rev_item : (part : List ℕ) → Decided (IsItem rev_text is_rev part)
rev_item part = elim (cut_at 45 part) [
  | inl lacking ↦ inr (λ h. lacks_seam 45 part (decimal h.item.generation) h.item.digest lacking h.spelled)
  | inr cut ↦ elim (number_below (2 ^ 32) cut.whole (omega arith)) [
    | inr none ↦
        inr (λ h. none h.item.generation (rev_parts h.item h.admitted).high
        (rev_cut part cut.whole cut.after h.item cut.is cut.lacking h.admitted h.spelled).0)
    | inl found ↦ elim (cases_Bool (nat_le 1 found.0 && is_digest cut.after)) [
      | inl fits ↦
          let parts = and_parts (nat_le 1 found.0) (is_digest cut.after) fits in
          inl (record {
            item = record { generation = found.0; digest = cut.after };
            admitted = and_from _ _ (and_from _ _ parts.0 (lt-ltb found.0 4294967296 (omega (arith, found.1)))) parts.1;
            spelled = cut.is ∙ ap (λ f. f ++ 45 ∷ cut.after) found.2;
          })
      | inr other ↦ inr (λ h. false≢true (sym other ∙ rev_fits part cut.whole cut.after found.0 h.item cut.is cut.lacking found.1 found.2 h.admitted h.spelled))
    ]
  ]
]
  where
    rev_fits : (text front back : List ℕ) (n : ℕ) (r : RevId) → text ≡ front ++ 45 ∷ back → lacks 45 front ≡ true → n < 2 ^ 32 → front ≡ decimal n
        → is_rev r ≡ true → text ≡ rev_text r → (nat_le 1 n && is_digest back) ≡ true
    rev_fits text front back n r cut first low spelled is e =
        let both = rev_cut text front back r cut first is e in
        let parts = rev_parts r is in
        let same : n ≡ r.generation = decimal_injective n r.generation (omega (arith, low)) (omega (arith, parts.high)) (sym spelled ∙ both.0) in
        and_from _ _ (le-leb 1 n (omega (arith, same, parts.low))) (ap is_digest both.1 ∙ parts.digest)

-- items whose texts these are
record AreItems {X : Type 0} (text : X → List ℕ) (admits : X → Bool) (parts : List (List ℕ)) : Type 0 where
  items : List X
  admitted : list_all admits items ≡ true
  spelled : parts ≡ map text items

module _ {X : Type 0} (text : X → List ℕ) (admits : X → Bool) (apart : AreApart text admits) (item : (part : List ℕ) → Decided (IsItem text admits part)) where
  first_item : (part : List ℕ) (parts : List (List ℕ)) (items : List X) → list_all admits items ≡ true → part ∷ parts ≡ map text items → IsItem text admits part
  first_item part parts [] all e = absurd (cc (e))
  first_item part parts (x ∷ xs) all e = record { item = x; admitted = (and_parts (admits x) (list_all admits xs) all).0; spelled = cc (e) }

  further_items : (part : List ℕ) (parts : List (List ℕ)) (items : List X) → list_all admits items ≡ true → part ∷ parts ≡ map text items
      → AreItems text admits parts
  further_items part parts [] all e = absurd (cc (e))
  further_items part parts (x ∷ xs) all e =
      record { items = xs; admitted = (and_parts (admits x) (list_all admits xs) all).1; spelled = cc (e) }

  items_of : (parts : List (List ℕ)) → Decided (AreItems text admits parts)
  items_of [] = inl (record { items = []; admitted = refl; spelled = refl })
  items_of (part ∷ parts) = elim (item part) [
    | inr none ↦ inr (λ h. none (first_item part parts h.items h.admitted h.spelled))
    | inl one ↦ elim (items_of parts) [
      | inr none ↦ inr (λ h. none (further_items part parts h.items h.admitted h.spelled))
      | inl more ↦ inl (record {
        items = one.item ∷ more.items;
        admitted = and_from (admits one.item) (list_all admits more.items) one.admitted more.admitted;
        spelled = λ i. one.spelled i ∷ more.spelled i;
      })
    ]
  ]

  all_lack : (items : List X) → list_all admits items ≡ true → list_all (λ f. lacks 44 f) (map text items) ≡ true
  all_lack [] all = refl
  all_lack (x ∷ xs) all =
      let parts = and_parts (admits x) (list_all admits xs) all in
      and_from (lacks 44 (text x)) (list_all (λ f. lacks 44 f) (map text xs)) (apart.lacks_comma x parts.0) (all_lack xs parts.1)

  items_same : (xs ys : List X) → list_all admits xs ≡ true → list_all admits ys ≡ true → map text xs ≡ map text ys → xs ≡ ys
  items_same [] [] a b e = refl
  items_same [] (y ∷ ys) a b e = absurd (cc (e))
  items_same (x ∷ xs) [] a b e = absurd (cc (e))
  items_same (x ∷ xs) (y ∷ ys) a b e =
      let p = and_parts (admits x) (list_all admits xs) a in
      let q = and_parts (admits y) (list_all admits ys) b in
      let heads : text x ≡ text y = cc (e) in
      let tails : map text xs ≡ map text ys = cc (e) in
      let one = apart.has_one_text x y p.0 q.0 heads in
      let more = items_same xs ys p.1 q.1 tails in
      λ i. one i ∷ more i

  -- a list of items that passes a test, with this text
  pub record IsList (test : List X → Bool) (whole : List ℕ) : Type 0 where
    pub items : List X
    pub admitted : list_all admits items ≡ true
    pub tested : test items ≡ true
    pub spelled : whole ≡ list_text (map text items)

  -- the parts of the text of some items are their texts
  parts_of_list : (items : List X) (whole : List ℕ) → list_all admits items ≡ true → whole ≢ 45 ∷ [] → whole ≡ list_text (map text items) → pieces 44 whole ≡ map text items
  parts_of_list [] whole all other e = absurd (other e)
  parts_of_list (x ∷ xs) whole all other e =
      ap (pieces 44) e ∙ pieces_joined 44 (map text (x ∷ xs)) (omega arith) (all_lack (x ∷ xs) all)

  joined_list : (parts : List (List ℕ)) → 0 < length parts → list_text parts ≡ join_with_byte 44 parts
  joined_list [] some = absurd (omega (arith, some))
  joined_list (p ∷ ps) some = refl

  list_under : (test : List X → Bool) (whole : List ℕ) → whole ≢ 45 ∷ [] → Decided (IsList test whole)
  list_under test whole other = elim (items_of (pieces 44 whole)) [
    | inr none ↦ inr (λ h. none (record { items = h.items; admitted = h.admitted; spelled = parts_of_list h.items whole h.admitted other h.spelled }))
    | inl found ↦ elim (cases_Bool (test found.items)) [
      | inl passes ↦ inl (record {
        items = found.items;
        admitted = found.admitted;
        tested = passes;
        spelled = sym (joined_pieces 44 whole) ∙ sym (joined_list (pieces 44 whole) (pieces-some 44 whole)) ∙ ap list_text found.spelled;
      })
      | inr fails ↦
          inr (λ h. false≢true (sym fails
          ∙ ap test (items_same found.items h.items found.admitted h.admitted (sym found.spelled ∙ parts_of_list h.items whole h.admitted other h.spelled)) ∙ h.tested))
    ]
  ]

  pub list_of : (test : List X → Bool) → test [] ≡ true → (whole : List ℕ) → Decided (IsList test whole)
  list_of test empty whole = elim (same_text whole (45 ∷ [])) [
    | inl dash ↦ inl (record { items = []; admitted = refl; tested = empty; spelled = dash })
    | inr other ↦ list_under test whole other
  ]

either_way : (P Q : Type 0) → (P → Q) → (Q → P) → Decided P → Decided Q
either_way P Q to from (inl p) = inl (to p)
either_way P Q to from (inr none) = inr (λ q. none (from q))

map_id : (v : List (List ℕ)) → map (λ n. n) v ≡ v
map_id [] = refl
map_id (n ∷ ns) = let again = map_id ns in λ i. n ∷ again i

-- a list of names that rises
abbrev Names : (List ℕ → Bool) → List ℕ → Type 0
Names admits text = (v : List (List ℕ)) × ((list_all admits v && rises (slice_cmp nat_cmp) v) ≡ true) × (text ≡ list_text v)

names_of : (admits : List ℕ → Bool) (apart : AreApart (λ n. n) admits) (text : List ℕ) → Decided (Names admits text)
names_of admits apart text =
    either_way _ (Names admits text) (λ l. (l.items, and_from _ _ l.admitted l.tested, l.spelled ∙ ap list_text (map_id l.items)))
    (λ h. let parts = and_parts (list_all admits h.0) (rises (slice_cmp nat_cmp) h.0) h.1 in
    record { items = h.0; admitted = parts.0; tested = parts.1; spelled = h.2 ∙ ap list_text (sym (map_id h.0)) })
    (list_of (λ n. n) admits apart (one_text admits) (λ v. rises (slice_cmp nat_cmp) v) refl text)

deleted_of : (text : List ℕ) → Decided ((v : Bool) × (text ≡ deleted_text v))
deleted_of text = elim (same_text text (deleted_text false)) [
  | inl is ↦ inl (false, is)
  | inr apart_from ↦ elim (same_text text (deleted_text true)) [
    | inl is ↦ inl (true, is)
    | inr none ↦ inr (λ h. neither h.0 apart_from none h.1)
  ]
]
  where
    neither : (v : Bool) → text ≢ deleted_text false → text ≢ deleted_text true → text ≢ deleted_text v
    neither false apart_from none e = apart_from e
    neither true apart_from none e = none e

writer_of : (text : List ℕ) → Decided ((v : Option (List ℕ)) × (is_by v ≡ true) × (text ≡ by_text v))
writer_of text = elim (same_text text (45 ∷ [])) [
  | inl dash ↦ inl (None, refl, dash)
  | inr other ↦ elim (cases_Bool (is_name text)) [
    | inl is ↦ inl (Some text, is, refl)
    | inr apart_from ↦ inr (λ h. neither h.0 h.1 h.2 other apart_from)
  ]
]
  where
    neither : (v : Option (List ℕ)) → is_by v ≡ true → text ≡ by_text v → text ≢ 45 ∷ [] → is_name text ≡ false → ⊥
    neither None is e other apart_from = other e
    neither (Some n) is e other apart_from = false≢true (sym apart_from ∙ ap is_name e ∙ is)

-- a grantee that is no user is a role
role_of : (part : List ℕ) (g : Grantee) → is_grantee g ≡ true → part ≡ grantee_text g → is_name part ≡ false
    → (n : List ℕ) × (is_name n ≡ true) × (part ≡ codes "role" ++ 58 ∷ n)
role_of part (User n) is e other = absurd (false≢true (sym other ∙ ap is_name e ∙ is))
role_of part (Role n) is e other = (n, is, e)

grantee_of : (part : List ℕ) → Decided (IsItem grantee_text is_grantee part)
grantee_of part = elim (cases_Bool (is_name part)) [
  | inl is ↦ inl (record { item = User part; admitted = is; spelled = refl })
  | inr apart_from ↦ elim (cut_at 58 part) [
    | inl lacking ↦
        inr (λ h. let role = role_of part h.item h.admitted h.spelled apart_from in lacks_seam 58 part (codes "role") role.0 lacking role.2)
    | inr cut ↦ elim (both _ _ (same_text cut.whole (codes "role")) (truth (is_name cut.after))) [
      | inl is ↦ inl (record { item = Role cut.after; admitted = is.1; spelled = cut.is ∙ ap (λ f. f ++ 58 ∷ cut.after) is.0 })
      | inr none ↦
          inr (λ h. let role = role_of part h.item h.admitted h.spelled apart_from in
          let same = cut_same 58 cut.whole cut.after (codes "role") role.0 cut.lacking refl (sym cut.is ∙ role.2) in
          none (same.0, ap is_name same.1 ∙ role.1))
    ]
  ]
]

grant_of : (part : List ℕ) → Decided (IsItem grant_text is_grant part)
grant_of part = elim (cut_at 61 part) [
  | inl lacking ↦ inr (λ h. lacks_seam 61 part (grantee_text h.item.to) h.item.channel lacking h.spelled)
  | inr cut ↦ elim (both _ _ (grantee_of cut.whole) (truth (is_channel_name cut.after))) [
    | inl is ↦ inl (record {
      item = record { to = is.0.item; channel = cut.after };
      admitted = and_from _ _ is.0.admitted is.1;
      spelled = cut.is ∙ ap (λ f. f ++ 61 ∷ cut.after) is.0.spelled;
    })
    | inr none ↦
        inr (λ h. let parts = grant_parts h.item h.admitted in
        let same = grant_cut part cut.whole cut.after h.item cut.is cut.lacking h.admitted h.spelled in
        none (record { item = h.item.to; admitted = parts.to; spelled = same.0 }, ap is_channel_name same.1 ∙ parts.channel))
  ]
]

role_grant_of : (part : List ℕ) → Decided (IsItem role_grant_text is_role_grant part)
role_grant_of part = elim (cut_at 61 part) [
  | inl lacking ↦ inr (λ h. lacks_seam 61 part h.item.user h.item.role lacking h.spelled)
  | inr cut ↦ elim (both _ _ (truth (is_name cut.whole)) (truth (is_name cut.after))) [
    | inl is ↦ inl (record { item = record { user = cut.whole; role = cut.after }; admitted = and_from _ _ is.0 is.1; spelled = cut.is })
    | inr none ↦
        inr (λ h. let parts = role_grant_parts h.item h.admitted in
        let same = role_grant_cut part cut.whole cut.after h.item cut.is cut.lacking h.admitted h.spelled in
        none (ap is_name same.0 ∙ parts.user, ap is_name same.1 ∙ parts.role))
  ]
]

revision_of : (text : List ℕ) → Decided ((v : RevId) × (is_rev v ≡ true) × (text ≡ rev_text v))
revision_of text =
    either_way _ _ (λ r. (r.item, r.admitted, r.spelled)) (λ h. record { item = h.0; admitted = h.1; spelled = h.2 }) (rev_item text)

-- a text that is UTF-8 and that of some value
pub with_utf8 : {V : Type 0} (Is Spells : V → Type 0) (text : List ℕ) → Decided ((v : V) × Is v × Spells v) → Decided (IsUtf8 text × (v : V) × Is v × Spells v)
with_utf8 Is Spells text found = elim (utf8 text) [
  | inr other ↦ inr (λ h. other h.0)
  | inl is ↦ elim found [
    | inl v ↦ inl (is, v.0, v.1, v.2)
    | inr none ↦ inr (λ h. none (h.1, h.2, h.3))
  ]
]

-- hexadecimal digits are those of bytes
abbrev digit_of : ℕ → ℕ
digit_of c = if nat_lt c 58 then c - 48 else c - 87

digit_back : (c : ℕ) → is_hex_digit c ≡ true → (hex_digit (digit_of c) ≡ c) × (digit_of c < 16)
digit_back c h = elim (or_cases (nat_le 48 c && nat_le c 57) (nat_le 97 c && nat_le c 102) h) [
  | inl a ↦
      let range = and_parts (nat_le 48 c) (nat_le c 57) a in
      let low = leb-true 48 c range.0 in
      let high = leb-true c 57 range.1 in
      (grind (arith, low, high), grind (arith, low, high))
  | inr a ↦
      let range = and_parts (nat_le 97 c) (nat_le c 102) a in
      let low = leb-true 97 c range.0 in
      let high = leb-true c 102 range.1 in
      (grind (arith, low, high), grind (arith, low, high))
]

pairs : (text : List ℕ) → length text % 2 ≡ 0 → list_all (λ b. is_hex_digit b) text ≡ true → (bytes : List ℕ) × (text ≡ hex_text bytes)
pairs [] even all = ([], refl)
pairs (a ∷ []) even all = absurd (omega (arith, even))
pairs (a ∷ b ∷ more) even all =
    let outer = and_parts (is_hex_digit a) (list_all (λ c. is_hex_digit c) (b ∷ more)) all in
    let inner = and_parts (is_hex_digit b) (list_all (λ c. is_hex_digit c) more) outer.1 in
    let high = digit_back a outer.0 in
    let low = digit_back b inner.0 in
    let rest = pairs more (omega (arith, even)) inner.1 in
    let byte = 16 * digit_of a + digit_of b in
    let first : byte / 16 ≡ digit_of a = omega (arith, high.1, low.1) in
    let second : byte % 16 ≡ digit_of b = omega (arith, high.1, low.1) in (
      byte ∷ rest.0,
      ap (λ (c : ℕ). c ∷ b ∷ more) (sym high.0 ∙ ap hex_digit (sym first))
          ∙ ap (λ (c : ℕ). hex_digit (byte / 16) ∷ c ∷ more) (sym low.0 ∙ ap hex_digit (sym second))
          ∙ ap (λ (l : List ℕ). hex_digit (byte / 16) ∷ hex_digit (byte % 16) ∷ l) rest.1,
    )

-- the bytes that a text spells
pub hex_of : (text : List ℕ) → is_hex text ≡ true → (bytes : List ℕ) × (text ≡ hex_text bytes)
hex_of text h =
    let parts = and_parts (nat_lt 0 (length text) && nat_eq (length text % 2) 0) (list_all (λ b. is_hex_digit b) text) h in
    let even = (and_parts (nat_lt 0 (length text)) (nat_eq (length text % 2) 0) parts.0).1 in
    pairs text (grind (arith, even)) parts.1

number_of : (text : List ℕ) → Decided ((v : ℕ) × (v < 2 ^ 64) × (text ≡ decimal v))
number_of text = elim (number_below (2 ^ 64) text (omega arith)) [
  | inl found ↦ inl found
  | inr none ↦ inr (λ h. none h.0 h.1 h.2)
]

-- the text of a sync function that a text spells, if it spells one
sync_text_of : (text : List ℕ) → Decided ((v : List ℕ) × (is_sync_text v ≡ true) × IsUtf8 v × (text ≡ hex_text v))
sync_text_of text = elim (cases_Bool (is_hex text)) [
  | inr other ↦ inr (λ h. false≢true (sym other ∙ ap is_hex h.3 ∙ sync_is_hex h.0 h.1))
  | inl is ↦
      let bytes = hex_of text is in
      elim (both _ _ (truth (is_sync_text bytes.0)) (utf8 bytes.0)) [
        | inl fits ↦ inl (bytes.0, fits.0, fits.1, bytes.1)
        | inr none ↦
            inr (λ h. let same = same_sync text bytes.0 h.0 is bytes.1 h.1 h.3 in
            none (sym (ap is_sync_text same) ∙ h.1, subst IsUtf8 same h.2))
      ]
]

-- each text is in a grammar or it is not
pub text_decided : (g : Grammar) (text : List ℕ) → Decided (IsText g text)
text_decided document text = both _ _ (utf8 text) (truth (is_doc_id text))
text_decided revision text = with_utf8 (λ v. is_rev v ≡ true) (λ v. text ≡ rev_text v) text (revision_of text)
text_decided revisions text =
    with_utf8 (λ v. is_revs v ≡ true) (λ v. text ≡ revs_text v) text
    (either_way _ ((v : List RevId) × (is_revs v ≡ true) × (text ≡ revs_text v)) (λ l. (l.items, l.admitted, l.spelled))
    (λ h. record { items = h.0; admitted = h.1; tested = refl; spelled = h.2 }) (list_of rev_text is_rev revs_apart rev_item (λ v. true) refl text))
text_decided deleted text = deleted_of text
text_decided body text = truth (is_hex text)
text_decided writer text = with_utf8 (λ v. is_by v ≡ true) (λ v. text ≡ by_text v) text (writer_of text)
text_decided number text = number_of text
text_decided name text = both _ _ (utf8 text) (truth (is_name text))
text_decided names text = with_utf8 (λ v. is_names v ≡ true) (λ v. text ≡ names_text v) text (names_of is_name names_apart text)
text_decided channels text = with_utf8 (λ v. is_channels v ≡ true) (λ v. text ≡ channels_text v) text (names_of is_channel_name channels_apart text)
text_decided grants text =
    with_utf8 (λ v. is_grants v ≡ true) (λ v. text ≡ grants_text v) text
    (either_way _ ((v : List Grant) × (is_grants v ≡ true) × (text ≡ grants_text v)) (λ l. (l.items, and_from _ _ l.admitted l.tested, l.spelled))
    (λ h. let parts = and_parts (list_all is_grant h.0) (rises grant_cmp h.0) h.1 in
    record { items = h.0; admitted = parts.0; tested = parts.1; spelled = h.2 })
    (list_of grant_text is_grant grants_apart grant_of (λ v. rises grant_cmp v) refl text))
text_decided role_grants text =
    with_utf8 (λ v. is_role_grants v ≡ true) (λ v. text ≡ role_grants_text v) text
    (either_way _ ((v : List RoleGrant) × (is_role_grants v ≡ true) × (text ≡ role_grants_text v)) (λ l. (l.items, and_from _ _ l.admitted l.tested, l.spelled))
    (λ h. let parts = and_parts (list_all is_role_grant h.0) (rises role_grant_cmp h.0) h.1 in
    record { items = h.0; admitted = parts.0; tested = parts.1; spelled = h.2 })
    (list_of role_grant_text is_role_grant role_grants_apart role_grant_of (λ v. rises role_grant_cmp v) refl text))
text_decided sync_text text = sync_text_of text
