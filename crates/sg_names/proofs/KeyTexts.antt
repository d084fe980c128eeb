-- texts of keys
use Rattle.std.proofs.Common.{◌≡◌, ℕ, ◌<◌, ◌≤◌, ◌^◌, true, false, ◌&&◌, ◌||◌, cond, List, [], ◌∷◌, ◌++◌, refl, sym, ap, ◌∙◌, arith, append_assoc, ◌⊎◌, inl, inr, Ok, Err, Result}
use Rattle.std.specs.Prelude.{decimal, nat_le, nat_lt, nat_eq, IfOk, ◌↔◌}
use Rattle.std.proofs.lemmas.Bool.{and_parts, or_cases, leb-true, eq-eqb, eqb-true, cases_eq, ne_eqb}
use Rattle.std.proofs.lemmas.Fmt.{decimal_injective}
use borrow.Author.Tests.{ltb-true}
use Rattle.sg_names.proofs.Cuts.{cut_same, lacks_seam}
use Rattle.sg_names.proofs.Decimals.{lacks-decimal, decimals_lack}
use Rattle.sg_names.specs.Decimal.{is_decimal, is_empty}
use Rattle.sg_names.specs.Grammar.{lacks}
use Rattle.sg_names.specs.Key.{is_key, pair_text, are_low_parts, ReadsKey, IsLowForm}
use Rattle.sg_names.specs.declared.key.Key.{Key}
use Rattle.sg_names.specs.declared.key.KeyFault.{KeyFault}
use Rattle.sg_names.specs.declared.key.KeyFault.TheVariants.{LowForm, BadKey}

-- the parts of the test
pub record HasKeyParts (k : Key) : Type 0 where
  pub above : k.seq ≤ k.by
  pub positive : (1 ≤ k.seq) ⊎ (k.by ≡ 0)
  pub high : k.by < 2 ^ 64
  pub seq_high : k.seq < 2 ^ 64

pub key_parts : (k : Key) → is_key k ≡ true → HasKeyParts k
key_parts k h =
    let outer = and_parts (nat_le k.seq k.by && (nat_le 1 k.seq || nat_eq k.by 0)) (nat_lt k.by 18446744073709551616) h in
    let inner = and_parts (nat_le k.seq k.by) (nat_le 1 k.seq || nat_eq k.by 0) outer.0 in
    let above = leb-true k.seq k.by inner.0 in
    let high = ltb-true k.by 18446744073709551616 outer.1 in
    let positive : (1 ≤ k.seq) ⊎ (k.by ≡ 0) =
    elim (or_cases (nat_le 1 k.seq) (nat_eq k.by 0) inner.1) [ inl a ↦ inl (leb-true 1 k.seq a) | inr b ↦ inr (eqb-true k.by 0 b) ] in
    record { above = above; positive = positive; high = high; seq_high = omega arith }

-- the two ways in which a text is read as a key
pub record ReadsPlain (text : List ℕ) (k : Key) : Type 0 where
  pub same : k.by ≡ k.seq
  pub spelled : text ≡ decimal k.seq

pub record ReadsPair (text : List ℕ) (k : Key) : Type 0 where
  pub positive : 1 ≤ k.seq
  pub spelled : text ≡ decimal k.by ++ 58 ∷ decimal k.seq

pub reading_cases : (text : List ℕ) (k : Key) → ReadsKey text k → ReadsPlain text k ⊎ ReadsPair text k
reading_cases text k (h, inr pair) = inr (record { positive = leb-true 1 k.seq pair.0; spelled = pair.1 })
reading_cases text k (h, inl written) =
    elim (cases_eq k.by k.seq) [
      | inl same ↦ inl (record { same = same; spelled = written ∙ ap (λ b. cond b (decimal k.seq) (pair_text k)) (eq-eqb k.by k.seq same) })
      | inr apart ↦
          let parts = key_parts k h in
          let positive : 1 ≤ k.seq = elim parts.positive [ inl p ↦ p | inr zero ↦ absurd (apart (omega (arith, parts.above))) ] in
          inr (record { positive = positive; spelled = written ∙ ap (λ b. cond b (decimal k.seq) (pair_text k)) (ne_eqb k.by k.seq apart) })
    ]

colon_lacks : (n : ℕ) → n < 2 ^ 64 → lacks 58 (decimal n) ≡ true
colon_lacks n small = lacks-decimal 58 n refl small

-- a text that has its first `:` between two parts, read as a key
pub record IsPair (front back : List ℕ) (k : Key) : Type 0 where
  pub parts : HasKeyParts k
  pub positive : 1 ≤ k.seq
  pub front_is : front ≡ decimal k.by
  pub back_is : back ≡ decimal k.seq

pub pair_from_reading : (front back : List ℕ) (k : Key) → lacks 58 front ≡ true → ReadsKey (front ++ 58 ∷ back) k → IsPair front back k
pair_from_reading front back k first reads =
    let parts = key_parts k reads.0 in
    elim (reading_cases (front ++ 58 ∷ back) k reads) [
      | inl plain ↦ absurd (lacks_seam 58 (decimal k.seq) front back (colon_lacks k.seq parts.seq_high) (sym plain.spelled))
      | inr pair ↦
          let both = cut_same 58 front back (decimal k.by) (decimal k.seq) first (colon_lacks k.by parts.high) pair.spelled in
          record { parts = parts; positive = pair.positive; front_is = both.0; back_is = both.1 }
    ]

-- the parts of a low form lack `:`
empty_lacks : (text : List ℕ) → (is_empty text || is_decimal text) ≡ true → lacks 58 text ≡ true
empty_lacks [] h = refl
empty_lacks (b ∷ bs) h = decimals_lack 58 (b ∷ bs) refl h

pub record IsLowPair (front back : List ℕ) : Type 0 where
  pub by : List ℕ
  pub seq : List ℕ
  pub decimals : are_low_parts front by seq ≡ true
  pub by_lacks : lacks 58 by ≡ true
  pub back_is : back ≡ by ++ 58 ∷ seq

pub low_pair : (front back : List ℕ) → lacks 58 front ≡ true → IsLowForm (front ++ 58 ∷ back) → IsLowPair front back
low_pair front back first low =
    let outer = and_parts (is_decimal low.low && (is_empty low.by || is_decimal low.by)) (is_decimal low.seq) low.decimals in
    let inner = and_parts (is_decimal low.low) (is_empty low.by || is_decimal low.by) outer.0 in
    let split : front ++ 58 ∷ back ≡ low.low ++ 58 ∷ (low.by ++ 58 ∷ low.seq) = low.spelled ∙ append_assoc low.low (58 ∷ low.by) (58 ∷ low.seq) in
    let both = cut_same 58 front back low.low (low.by ++ 58 ∷ low.seq) first (decimals_lack 58 low.low refl inner.0) split in
    record {
      by = low.by;
      seq = low.seq;
      decimals = ap (λ x. are_low_parts x low.by low.seq) both.0 ∙ low.decimals;
      by_lacks = empty_lacks low.by inner.1;
      back_is = both.1;
    }

-- two parts with no further `:` are no low form
pub only_pair : (front back : List ℕ) → lacks 58 front ≡ true → lacks 58 back ≡ true → ((k : Key) → ¬ (IsPair front back k))
    → ((k : Key) → ¬ (ReadsKey (front ++ 58 ∷ back) k)) × ¬ (IsLowForm (front ++ 58 ∷ back))
only_pair front back first second none = (
  λ k reads. none k (pair_from_reading front back k first reads),
  λ low. let pair = low_pair front back first low in lacks_seam 58 back pair.by pair.seq second pair.back_is,
)

-- three parts or more are a low form or nothing
pub only_low : (front back by seq : List ℕ) → lacks 58 front ≡ true → back ≡ by ++ 58 ∷ seq → lacks 58 by ≡ true → are_low_parts front by seq ≡ false
    → ((k : Key) → ¬ (ReadsKey (front ++ 58 ∷ back) k)) × ¬ (IsLowForm (front ++ 58 ∷ back))
only_low front back by seq first split second other = (
  λ k reads.
      let pair = pair_from_reading front back k first reads in
      lacks_seam 58 (decimal k.seq) by seq (colon_lacks k.seq pair.parts.seq_high) (sym pair.back_is ∙ split),
  λ low.
      let pair = low_pair front back first low in
      let both = cut_same 58 by seq pair.by pair.seq second pair.by_lacks (sym split ∙ pair.back_is) in
      let same : are_low_parts front by seq ≡ are_low_parts front pair.by pair.seq = λ i. are_low_parts front (both.0 i) (both.1 i) in
      cc (same, pair.decimals, other),
)

-- one number has one decimal
pub pair_by : (front back : List ℕ) (by : ℕ) (k : Key) → by < 2 ^ 64 → front ≡ decimal by → IsPair front back k → by ≡ k.by
pair_by front back by k high front_is pair = decimal_injective by k.by high pair.parts.high (sym front_is ∙ pair.front_is)

pub pair_seq : (front back : List ℕ) (seq : ℕ) (k : Key) → seq < 2 ^ 64 → back ≡ decimal seq → IsPair front back k → seq ≡ k.seq
pair_seq front back seq k high back_is pair = decimal_injective seq k.seq high pair.parts.seq_high (sym back_is ∙ pair.back_is)

-- a text is read as one key at most
pub reads_same : (text : List ℕ) (k l : Key) → ReadsKey text k → ReadsKey text l → k ≡ l
reads_same text k l h g =
    let a = key_parts k h.0 in
    let b = key_parts l g.0 in
    elim (reading_cases text k h) [
      | inl p ↦ elim (reading_cases text l g) [
        | inl q ↦
            let seq : k.seq ≡ l.seq = decimal_injective k.seq l.seq a.seq_high b.seq_high (sym p.spelled ∙ q.spelled) in
            let by : k.by ≡ l.by = p.same ∙ seq ∙ sym q.same in
            λ i. record { by = by i; seq = seq i }
        | inr q ↦ absurd (lacks_seam 58 (decimal k.seq) (decimal l.by) (decimal l.seq) (colon_lacks k.seq a.seq_high) (sym p.spelled ∙ q.spelled))
      ]
      | inr p ↦ elim (reading_cases text l g) [
        | inl q ↦ absurd (lacks_seam 58 (decimal l.seq) (decimal k.by) (decimal k.seq) (colon_lacks l.seq b.seq_high) (sym q.spelled ∙ p.spelled))
        | inr q ↦
            let both = cut_same 58 (decimal k.by) (decimal k.seq) (decimal l.by) (decimal l.seq) (colon_lacks k.by a.high) (colon_lacks l.by b.high) (sym p.spelled ∙ q.spelled) in
            let by : k.by ≡ l.by = decimal_injective k.by l.by a.high b.high both.0 in
            let seq : k.seq ≡ l.seq = decimal_injective k.seq l.seq a.seq_high b.seq_high both.1 in
            λ i. record { by = by i; seq = seq i }
      ]
    ]

-- a key's text is no low form
pub reads_not_low : (text : List ℕ) (k : Key) → ReadsKey text k → ¬ (IsLowForm text)
reads_not_low text k h low =
    let parts = key_parts k h.0 in
    elim (reading_cases text k h) [
      | inl p ↦ lacks_seam 58 (decimal k.seq) (low.low ++ 58 ∷ low.by) low.seq (colon_lacks k.seq parts.seq_high) (sym p.spelled ∙ low.spelled)
      | inr p ↦
          let moved : IsLowForm (decimal k.by ++ 58 ∷ decimal k.seq) = record { low = low.low; by = low.by; seq = low.seq; decimals = low.decimals; spelled = sym p.spelled ∙ low.spelled } in
          let pair = low_pair (decimal k.by) (decimal k.seq) (colon_lacks k.by parts.high) moved in
          lacks_seam 58 (decimal k.seq) pair.by pair.seq (colon_lacks k.seq parts.seq_high) pair.back_is
    ]

-- an answer that is right wherever it is given is given wherever it is right
pub key_read : (text : List ℕ) (r : Result Key KeyFault) → IfOk r (λ k. ReadsKey text k) → (r ≡ Err LowForm → IsLowForm text)
    → (r ≡ Err BadKey → ((k : Key) → ¬ (ReadsKey text k)) × ¬ (IsLowForm text)) → (k : Key) → ReadsKey text k → r ≡ Ok k
key_read text (Ok l) ok low bad k reads = ap Ok (reads_same text l k ok reads)
key_read text (Err LowForm) ok low bad k reads = absurd (reads_not_low text k reads (low refl))
key_read text (Err BadKey) ok low bad k reads = absurd ((bad refl).0 k reads)

pub key_low : (text : List ℕ) (r : Result Key KeyFault) → IfOk r (λ k. ReadsKey text k) → (r ≡ Err LowForm → IsLowForm text)
    → (r ≡ Err BadKey → ((k : Key) → ¬ (ReadsKey text k)) × ¬ (IsLowForm text)) → (r ≡ Err LowForm) ↔ IsLowForm text
key_low text (Ok l) ok low bad = (low, λ form. absurd (reads_not_low text l ok form))
key_low text (Err LowForm) ok low bad = (low, λ form. refl)
key_low text (Err BadKey) ok low bad = (low, λ form. absurd ((bad refl).1 form))

pub key_bad : (text : List ℕ) (r : Result Key KeyFault) → IfOk r (λ k. ReadsKey text k) → (r ≡ Err LowForm → IsLowForm text)
    → (r ≡ Err BadKey → ((k : Key) → ¬ (ReadsKey text k)) × ¬ (IsLowForm text)) → (r ≡ Err BadKey) ↔ (((k : Key) → ¬ (ReadsKey text k)) × ¬ (IsLowForm text))
key_bad text (Ok l) ok low bad = (bad, λ none. absurd (none.0 l ok))
key_bad text (Err LowForm) ok low bad = (bad, λ none. absurd (none.1 (low refl)))
key_bad text (Err BadKey) ok low bad = (bad, λ none. refl)
