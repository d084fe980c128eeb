-- side maps whose texts rise: what they have under each text is all that they are
use Rattle.std.proofs.Common.{◌≡◌, ℕ, ◌≤◌, Bool, true, false, ◌||◌, List, [], ◌∷◌, length, Option, Some, None, refl, sym, ap, subst, ◌∙◌, arith}
use Rattle.std.specs.Prelude.{is_some, if◌then◌else◌}
use Rattle.std.specs.Str.{bytes_eq}
use Rattle.std.specs.declared.cmp.Ordering.{Ordering}
use Rattle.std.specs.Ordering.{nat_cmp, is_eq, eq_by_cmp, ordering_reverse}
use Rattle.std.specs.declared.cmp.Ordering.TheVariants.{Less, Equal, Greater}
use Rattle.std.specs.Cmp.Lexicographic.{slice_cmp, bytes_decides, nat_list_eq_equiv}
use Rattle.std.specs.List.{AllByRecursion, list_any}
use Rattle.std.proofs.lemmas.Bool.{true≢false}
use Rattle.std.proofs.lemmas.Cmp.{nat_list_cmp_total, eq_by_cmp_equiv}
use Rattle.std.proofs.lemmas.List.{length-map}
use Rattle.std.proofs.lemmas.Map.Keys.{sorted_head, sorted_tail, IsDistinct-from_sorted}
use Rattle.std.proofs.lemmas.Map.Lookups.{exact_bytes}
use Rattle.std.proofs.lemmas.Map.Made.{length-le_from_is_member}
use Rattle.std.proofs.lemmas.Map.Text.{is_eq-slice_cmp}
use Rattle.std.proofs.lemmas.Option.{none-some, same_Some}
use Rattle.sg_history.specs.Board.{SideEntry, SideValue, side_at, SideFollows}
use Rattle.checkpoint_store.specs.SideMaps.{texts, IsRising}

-- the texts of a side map are above this one
abbrev AreAbove : List ℕ → List SideEntry → Type 0
AreAbove text side = AllByRecursion (λ (y : List ℕ). slice_cmp nat_cmp text y ≡ Less) (texts side)

first_above : (e : SideEntry) (side : List SideEntry) → IsRising (e ∷ side) → AreAbove e.text side
first_above e side up = sorted_head (slice_cmp nat_cmp) e.text (texts side) up

rest_rising : (e : SideEntry) (side : List SideEntry) → IsRising (e ∷ side) → IsRising side
rest_rising e side up = sorted_tail (slice_cmp nat_cmp) e.text (texts side) up

at_first : (e : SideEntry) (side : List SideEntry) → side_at (e ∷ side) e.text ≡ Some e.value
at_first e side = ap (λ (b : Bool). if b then Some e.value else side_at side e.text) ((bytes_decides e.text e.text).1 refl)

-- nothing stands under a text that is below all
above_none : (text : List ℕ) (side : List SideEntry) → AreAbove text side → side_at side text ≡ None
above_none text [] above = refl
above_none text (f ∷ fs) above =
    ap (λ (b : Bool). if b then Some f.value else side_at fs text)
    (nat_list_eq_equiv.symm f.text text ∙ sym (is_eq-slice_cmp text f.text) ∙ ap is_eq above.0)
    ∙ above_none text fs above.1

lower_rest : (text : List ℕ) (e : SideEntry) (side : List SideEntry) → slice_cmp nat_cmp text e.text ≡ Less → AreAbove e.text side → AreAbove text side
lower_rest text e [] less all = tt
lower_rest text e (f ∷ fs) less all = (nat_list_cmp_total.trans text e.text f.text less all.0, lower_rest text e fs less all.1)

lower_none : (text : List ℕ) (e : SideEntry) (side : List SideEntry) → slice_cmp nat_cmp text e.text ≡ Less → IsRising (e ∷ side) → side_at (e ∷ side) text ≡ None
lower_none text e side less up = above_none text (e ∷ side) (less, lower_rest text e side less (first_above e side up))

module _ (e f : SideEntry) (es fs : List SideEntry) (up : IsRising (e ∷ es)) (high : IsRising (f ∷ fs))
    (same : (text : List ℕ) → side_at (e ∷ es) text ≡ side_at (f ∷ fs) text) where
  first_text : (r : Ordering) → slice_cmp nat_cmp e.text f.text ≡ r → e.text ≡ f.text
  first_text Less is = absurd (none-some e.value (sym (lower_none e.text f fs is high) ∙ sym (same e.text) ∙ at_first e es))
  first_text Equal is = exact_bytes e.text f.text is
  first_text Greater is =
      absurd (none-some f.value (sym (lower_none f.text e es (nat_list_cmp_total.antisymm f.text e.text ∙ ap ordering_reverse is) up) ∙ same f.text ∙ at_first f fs))

  text_same : e.text ≡ f.text
  text_same = first_text (slice_cmp nat_cmp e.text f.text) refl

  value_same : e.value ≡ f.value
  value_same = same_Some e.value f.value (sym (at_first e es) ∙ same e.text ∙ ap (side_at (f ∷ fs)) text_same ∙ at_first f fs)

  rest_same : (text : List ℕ) → side_at es text ≡ side_at fs text
  rest_same text = go (bytes_eq e.text text) refl
    where
      here : side_at es e.text ≡ side_at fs e.text
      here =
          above_none e.text es (first_above e es up)
          ∙ sym (ap (side_at fs) text_same ∙ above_none f.text fs (first_above f fs high))

      go : (b : Bool) → bytes_eq e.text text ≡ b → side_at es text ≡ side_at fs text
      go true is = subst (λ (t : List ℕ). side_at es t ≡ side_at fs t) ((bytes_decides e.text text).0 is) here
      go false is =
          sym (ap (λ (b : Bool). if b then Some e.value else side_at es text) is)
          ∙ same text
          ∙ ap (λ (b : Bool). if b then Some f.value else side_at fs text) (ap (λ (t : List ℕ). bytes_eq t text) (sym text_same) ∙ is)

pub rising_same : (one other : List SideEntry) → IsRising one → IsRising other → ((text : List ℕ) → side_at one text ≡ side_at other text) → one ≡ other
rising_same [] [] up high same = refl
rising_same [] (f ∷ fs) up high same = absurd (none-some f.value (same f.text ∙ at_first f fs))
rising_same (e ∷ es) [] up high same = absurd (none-some e.value (sym (same e.text) ∙ at_first e es))
rising_same (e ∷ es) (f ∷ fs) up high same =
    let rest = rising_same es fs (rest_rising e es up) (rest_rising f fs high) (rest_same e f es fs up high same) in
    let text = text_same e f es fs up high same in
    let value = value_same e f es fs up high same in
    λ i. record { text = text i; value = value i } ∷ rest i

-- a text stands in a side map where something stands under it
member : (side : List SideEntry) (q : List ℕ) → list_any (eq_by_cmp (slice_cmp nat_cmp) q) (texts side) ≡ is_some (side_at side q)
member [] q = refl
member (e ∷ es) q =
    go (is_eq (slice_cmp nat_cmp q e.text)) (member es q)
    ∙ ap (λ (b : Bool). is_some (if b then Some e.value else side_at es q)) (is_eq-slice_cmp q e.text ∙ nat_list_eq_equiv.symm q e.text)
  where
    go : (b : Bool) → list_any (eq_by_cmp (slice_cmp nat_cmp) q) (texts es) ≡ is_some (side_at es q)
        → (b || list_any (eq_by_cmp (slice_cmp nat_cmp) q) (texts es)) ≡ is_some (if b then Some e.value else side_at es q)
    go true more = refl
    go false more = more

pub rising_count : (earlier later : List SideEntry) → IsRising earlier → SideFollows earlier later → length earlier ≤ length later
rising_count earlier later up follows =
    let most = length-le_from_is_member (eq_by_cmp_equiv nat_list_cmp_total) (texts earlier) (texts later) (IsDistinct-from_sorted (slice_cmp nat_cmp) (texts earlier) up) kept in
    let few = length-map earlier (λ (e : SideEntry). e.text) in
    let many = length-map later (λ (e : SideEntry). e.text) in
    omega (arith, most, few, many)
  where
    kept : (q : List ℕ) → list_any (eq_by_cmp (slice_cmp nat_cmp) q) (texts earlier) ≡ true → list_any (eq_by_cmp (slice_cmp nat_cmp) q) (texts later) ≡ true
    kept q there = member later q ∙ go (side_at earlier q) refl (sym (member earlier q) ∙ there)
      where
        go : (o : Option SideValue) → side_at earlier q ≡ o → is_some (side_at earlier q) ≡ true → is_some (side_at later q) ≡ true
        go None is some = absurd (true≢false (sym some ∙ ap is_some is))
        go (Some old) is some = let next = follows q old is in ap is_some next.1
