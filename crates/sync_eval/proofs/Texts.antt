-- A rule is known by its text.
use Rattle.std.proofs.Common.{◌≡◌, ℕ, ◌<◌, ◌^◌, ◌==◌, if◌then◌else◌, true, ◌⊎◌, inl, inr, List, [], ◌∷◌, ◌++◌, refl, sym, ap, ◌∙◌, append_assoc, arith}
use Rattle.std.specs.Prelude.{codes, decimal}
use Rattle.std.proofs.lemmas.Fmt.{decimal_injective}
use Rattle.std.proofs.lemmas.List.{append_cancel_left, append-nil}
use Rattle.sg_names.proofs.Cuts.{cut_same}
use Rattle.sg_names.proofs.Decimals.{lacks-decimal}
use Rattle.sg_names.specs.Grammar.{lacks}
use Rattle.sync_tokens.specs.declared.place.Place.{Place}
use Rattle.sync_values.specs.declared.fault.FaultKind.TheVariants as faults
use Rattle.sync_values.specs.declared.fault.RuleKind.{RuleKind}
use Rattle.sync_values.specs.declared.fault.RuleKind.TheVariants as rules
use Rattle.sync_values.specs.declared.fault.Rule.{Rule}
use Rattle.sync_values.specs.Texts.{rule_name, place_text, thrown_text, rule_text}
use Rattle.sync_eval.specs.Verdicts.{RulesHaveTextsOfTheirOwn}

-- a kind without the text that was thrown
abbrev bare : RuleKind → RuleKind
bare (rules.Forbidden s) = rules.Forbidden []
bare rules.User = rules.User
bare rules.Role = rules.Role
bare rules.Access = rules.Access
bare rules.Admin = rules.Admin
bare (rules.Fault kind) = rules.Fault kind
bare rules.Fuel = rules.Fuel

-- the kind whose name begins with two letters
abbrev kind_of : ℕ → ℕ → RuleKind
kind_of a b =
    if a == 102 then (if b == 111 then rules.Forbidden [] else rules.Fuel)
    else (if a == 117 then rules.User
    else (if a == 114 then (if b == 111 then rules.Role else rules.Fault faults.Range)
    else (if a == 97 then (if b == 99 then rules.Access else (if b == 100 then rules.Admin else rules.Fault faults.Argument))
    else (if a == 116 then (if b == 121 then rules.Fault faults.TypeFault else rules.Fault faults.Thrown)
    else (if a == 110 then rules.Fault faults.NullMember
    else (if a == 98 then rules.Fault faults.BadName else rules.Fault faults.Size))))))

abbrev kind_in : List ℕ → RuleKind
kind_in [] = rules.Fuel
kind_in (a ∷ []) = rules.Fuel
kind_in (a ∷ b ∷ rest) = kind_of a b

kind_in-name : (k : RuleKind) (rest : List ℕ) → kind_in (rule_name k ++ rest) ≡ bare k
kind_in-name (rules.Forbidden s) rest = refl
kind_in-name rules.User rest = refl
kind_in-name rules.Role rest = refl
kind_in-name rules.Access rest = refl
kind_in-name rules.Admin rest = refl
kind_in-name (rules.Fault faults.TypeFault) rest = refl
kind_in-name (rules.Fault faults.NullMember) rest = refl
kind_in-name (rules.Fault faults.Range) rest = refl
kind_in-name (rules.Fault faults.Argument) rest = refl
kind_in-name (rules.Fault faults.BadName) rest = refl
kind_in-name (rules.Fault faults.Size) rest = refl
kind_in-name (rules.Fault faults.Thrown) rest = refl
kind_in-name rules.Fuel rest = refl

name_of_bare : (k : RuleKind) → rule_name (bare k) ≡ rule_name k
name_of_bare (rules.Forbidden s) = refl
name_of_bare rules.User = refl
name_of_bare rules.Role = refl
name_of_bare rules.Access = refl
name_of_bare rules.Admin = refl
name_of_bare (rules.Fault kind) = refl
name_of_bare rules.Fuel = refl

-- a kind with a text, or one without
record IsPlain (k : RuleKind) : Type 0 where
  same : bare k ≡ k
  none : thrown_text k ≡ []

shape : (k : RuleKind) → ((s : List ℕ) × (k ≡ rules.Forbidden s)) ⊎ IsPlain k
shape (rules.Forbidden s) = inl (s, refl)
shape rules.User = inr (record { same = refl; none = refl })
shape rules.Role = inr (record { same = refl; none = refl })
shape rules.Access = inr (record { same = refl; none = refl })
shape rules.Admin = inr (record { same = refl; none = refl })
shape (rules.Fault kind) = inr (record { same = refl; none = refl })
shape rules.Fuel = inr (record { same = refl; none = refl })

colon_lacks : (n : ℕ) → n < 2 ^ 32 → lacks 58 (decimal n) ≡ true
colon_lacks n small = lacks-decimal 58 n refl (omega (arith, small))

record SameEnd (k m : RuleKind) (c d : ℕ) : Type 0 where
  columns : c ≡ d
  kinds : k ≡ m

both_thrown : (s t : List ℕ) (c d : ℕ) → c < 2 ^ 32 → d < 2 ^ 32 → decimal c ++ thrown_text (rules.Forbidden s) ≡ decimal d ++ thrown_text (rules.Forbidden t)
    → SameEnd (rules.Forbidden s) (rules.Forbidden t) c d
both_thrown s t c d small small' e =
    let cut = cut_same 58 (decimal c) (32 ∷ s) (decimal d) (32 ∷ t) (colon_lacks c small) (colon_lacks d small') e in
    let behind = cut.1 in
    let texts : s ≡ t = cc (behind) in
    record { columns = decimal_injective c d (omega (arith, small)) (omega (arith, small')) cut.0; kinds = ap rules.Forbidden texts }

both_plain : (k m : RuleKind) (c d : ℕ) → c < 2 ^ 32 → d < 2 ^ 32 → IsPlain k → IsPlain m → bare k ≡ bare m → decimal c ++ thrown_text k ≡ decimal d ++ thrown_text m → SameEnd k m c d
both_plain k m c d small small' p q b e =
    let alone : decimal c ≡ decimal d =
    sym (append-nil (decimal c)) ∙ ap (λ w. decimal c ++ w) (sym p.none) ∙ e ∙ ap (λ w. decimal d ++ w) q.none ∙ append-nil (decimal d) in
    record { columns = decimal_injective c d (omega (arith, small)) (omega (arith, small')) alone; kinds = sym p.same ∙ b ∙ q.same }

one_thrown : (m : RuleKind) → IsPlain m → rules.Forbidden [] ≡ bare m → ⊥
one_thrown m q b =
    let is : rules.Forbidden [] ≡ m = b ∙ q.same in
    let none : thrown_text (rules.Forbidden []) ≡ [] = ap thrown_text is ∙ q.none in
    cc (none)

same_by : (k m : RuleKind) (c d : ℕ) → c < 2 ^ 32 → d < 2 ^ 32 → bare k ≡ bare m → decimal c ++ thrown_text k ≡ decimal d ++ thrown_text m
    → ((s : List ℕ) × (k ≡ rules.Forbidden s)) ⊎ IsPlain k → ((t : List ℕ) × (m ≡ rules.Forbidden t)) ⊎ IsPlain m → SameEnd k m c d
same_by k m c d small small' b e (inl h) (inl g) =
    let ends = both_thrown h.0 g.0 c d small small' (sym (ap (λ q. decimal c ++ thrown_text q) h.1) ∙ e ∙ ap (λ q. decimal d ++ thrown_text q) g.1) in
    record { columns = ends.columns; kinds = h.1 ∙ ends.kinds ∙ sym g.1 }
same_by k m c d small small' b e (inl h) (inr q) = absurd (one_thrown m q (sym (ap bare h.1) ∙ b))
same_by k m c d small small' b e (inr p) (inl g) = absurd (one_thrown k p (sym (b ∙ ap bare g.1)))
same_by k m c d small small' b e (inr p) (inr q) = both_plain k m c d small small' p q b e

same_end : (k m : RuleKind) (c d : ℕ) → c < 2 ^ 32 → d < 2 ^ 32 → bare k ≡ bare m → decimal c ++ thrown_text k ≡ decimal d ++ thrown_text m → SameEnd k m c d
same_end k m c d small small' b e = same_by k m c d small small' b e (shape k) (shape m)

spread : (p : Place) (w : List ℕ) → place_text p ++ w ≡ decimal p.line ++ 58 ∷ (decimal p.column ++ w)
spread p w = append_assoc (decimal p.line ++ codes ":") (decimal p.column) w ∙ append_assoc (decimal p.line) (codes ":") (decimal p.column ++ w)

-- what stands behind the name of a rule
abbrev behind : Rule → List ℕ
behind r = codes " at " ++ (place_text r.place ++ thrown_text r.kind)

whole : (r : Rule) → rule_text r ≡ rule_name r.kind ++ behind r
whole r = append_assoc (rule_name r.kind ++ codes " at ") (place_text r.place) (thrown_text r.kind) ∙ append_assoc (rule_name r.kind) (codes " at ") (place_text r.place ++ thrown_text r.kind)

pub same_rule : RulesHaveTextsOfTheirOwn
same_rule r s h g e =
    let texts : rule_name r.kind ++ behind r ≡ rule_name s.kind ++ behind s = sym (whole r) ∙ e ∙ whole s in
    let kinds : bare r.kind ≡ bare s.kind = sym (kind_in-name r.kind (behind r)) ∙ ap kind_in texts ∙ kind_in-name s.kind (behind s) in
    let names : rule_name r.kind ≡ rule_name s.kind = sym (name_of_bare r.kind) ∙ ap rule_name kinds ∙ name_of_bare s.kind in
    let rest : behind r ≡ behind s = append_cancel_left (rule_name r.kind) (behind r) (behind s) (texts ∙ ap (λ n. n ++ behind s) (sym names)) in
    let places : place_text r.place ++ thrown_text r.kind ≡ place_text s.place ++ thrown_text s.kind = append_cancel_left (codes " at ") _ _ rest in
    let cut = cut_same 58 (decimal r.place.line) (decimal r.place.column ++ thrown_text r.kind) (decimal s.place.line) (decimal s.place.column ++ thrown_text s.kind)
    (colon_lacks r.place.line h.0) (colon_lacks s.place.line g.0) (sym (spread r.place (thrown_text r.kind)) ∙ places ∙ spread s.place (thrown_text s.kind)) in
    let lines = decimal_injective r.place.line s.place.line (omega (arith, h.0)) (omega (arith, g.0)) cut.0 in
    let end = same_end r.kind s.kind r.place.column s.place.column h.1 g.1 kinds cut.1 in
    λ i. record { kind = end.kinds i; place = record { line = lines i; column = end.columns i } }
