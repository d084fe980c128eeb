-- spans that have ended, in their order
use Rattle.std.proofs.Common.{◌≡◌, ◌<◌, ◌≤◌, ℕ, zero, suc, refl, sym, ◌∙◌, ap, subst, arith, Bool, true, false, ◌&&◌, ◌||◌, if◌then◌else◌, nat_le, nat_lt, List, [], ◌∷◌, ◌++◌, length, length-append}
use Rattle.std.specs.Prelude.{slice_index_or}
use Rattle.std.specs.List.{list_any}
use Rattle.std.specs.List.Sorted.{IsNonDecreasingBy}
use Rattle.std.proofs.lemmas.Bool.{lt-leb, le-leb}
use Rattle.grant_tracks.specs.declared.track.Span.{Span}
use Rattle.grant_tracks.specs.Tracks.{closed_with, has_place}
use Rattle.grant_tracks.proofs.Gathered.{any_end, each_more}

abbrev pub AreApartBy : List Span → Type 0
AreApartBy ss = (i j : ℕ) (d : Span) → i < j → j < length ss → (slice_index_or ss i d).to ≤ (slice_index_or ss j d).from

abbrev pub HaveEnded : List Span → ℕ → Type 0
HaveEnded ss n = (i : ℕ) (d : Span) → i < length ss → (slice_index_or ss i d).to ≤ n

abbrev pub ArePlaced : List Span → Type 0
ArePlaced ss = (i : ℕ) (d : Span) → i < length ss → (slice_index_or ss i d).from ≤ (slice_index_or ss i d).to

and_none : (b : Bool) → (b && false) ≡ false
and_none true = refl
and_none false = refl

ended_has : (s : Span) (k : ℕ) → s.to ≤ k → has_place k s ≡ false
ended_has s k le = ap (λ (b : Bool). nat_le s.from k && b) (lt-leb (suc k) s.to (omega (arith, le))) ∙ and_none (nat_le s.from k)

later_has : (s : Span) (k : ℕ) → k < s.from → has_place k s ≡ false
later_has s k lt = ap (λ (b : Bool). b && nat_lt k s.to) (lt-leb s.from k lt)

none_later : (ss : List Span) (k : ℕ) → ((i : ℕ) (d : Span) → i < length ss → k < (slice_index_or ss i d).from) → list_any (has_place k) ss ≡ false
none_later [] k h = refl
none_later (s ∷ ss) k h =
    ap (λ (b : Bool). b || list_any (has_place k) ss) (later_has s k (h 0 s (omega arith)))
    ∙ none_later ss k (λ i d w. h (suc i) d (omega (arith, w)))

-- at a place up to which all have ended none has it
pub none_left : (ss : List Span) (k : ℕ) → HaveEnded ss k → list_any (has_place k) ss ≡ false
none_left [] k h = refl
none_left (s ∷ ss) k h =
    ap (λ (b : Bool). b || list_any (has_place k) ss) (ended_has s k (h 0 s (omega arith)))
    ∙ none_left ss k (λ i d w. h (suc i) d (omega (arith, w)))

-- the first that has not ended at a place is the only one that may have it
pub by_first : (ss : List Span) (n k : ℕ) (x : Span) → ((i : ℕ) (d : Span) → i < n → (slice_index_or ss i d).to ≤ k) → ((i : ℕ) (d : Span) → n ≤ i → i < length ss → k < (slice_index_or ss i d).to) → AreApartBy ss → n < length ss
    → list_any (has_place k) ss ≡ nat_le (slice_index_or ss n x).from k
by_first [] n k x before after apart within = absurd (omega (arith, within))
by_first (s ∷ ss) zero k x before after apart within =
    ap (λ (b : Bool). (nat_le s.from k && b) || list_any (has_place k) ss) (le-leb (suc k) s.to (omega (arith, last)))
    ∙ ap (λ (b : Bool). (nat_le s.from k && true) || b)
    (none_later ss k (λ i d w. omega (arith, last, apart 0 (suc i) d (omega arith) (omega (arith, w)))))
    ∙ alone (nat_le s.from k)
  where
    last : k < s.to
    last = after 0 s (omega arith) (omega arith)

    alone : (b : Bool) → ((b && true) || false) ≡ b
    alone true = refl
    alone false = refl
by_first (s ∷ ss) (suc n) k x before after apart within =
    ap (λ (b : Bool). b || list_any (has_place k) ss) (ended_has s k (before 0 s (omega arith)))
    ∙ by_first ss n k x (λ i d h. before (suc i) d (omega (arith, h))) (λ i d h w. after (suc i) d (omega (arith, h)) (omega (arith, w)))
    (λ i j d h w. apart (suc i) (suc j) d (omega (arith, h)) (omega (arith, w))) (omega (arith, within))

-- where none is left at a place
pub by_none : (ss : List Span) (n k : ℕ) → ((i : ℕ) (d : Span) → i < n → (slice_index_or ss i d).to ≤ k) → length ss ≤ n → list_any (has_place k) ss ≡ false
by_none ss n k before le = none_left ss k (λ i d w. before i d (omega (arith, w, le)))

-- spans rise by where they end
pub rise_by_end : (ss : List Span) → ArePlaced ss → AreApartBy ss → IsNonDecreasingBy (λ (s : Span). s.to) ss
rise_by_end ss placed apart i j d le within = by (nat_lt i j) refl
  where
    by : (b : Bool) → nat_lt i j ≡ b → (slice_index_or ss i d).to ≤ (slice_index_or ss j d).to
    by true is =
        let less : i < j = grind (arith, is) in
        omega (arith, apart i j d less within, placed j d within)
    by false is =
        let same : i ≡ j = grind (arith, is, le) in
        subst (λ (m : ℕ). (slice_index_or ss i d).to ≤ (slice_index_or ss m d).to) same (omega arith)

-- one more behind those that have ended where it begins
apart_more : (ss : List Span) (s : Span) → AreApartBy ss → HaveEnded ss s.from → AreApartBy (ss ++ s ∷ [])
apart_more ss s apart ended i j d below within = each_more (λ (n : ℕ) (y : Span). (m : ℕ) → m < n → (slice_index_or (ss ++ s ∷ []) m d).to ≤ y.from) ss s d
    (λ n low m less. each_more (λ (l : ℕ) (x : Span). l < n → x.to ≤ (slice_index_or ss n d).from) ss s d (λ l inside first. apart l n d first low) (λ first. absurd (omega (arith, low, first))) m (long m n low less) less)
    (λ m less. each_more (λ (l : ℕ) (x : Span). l < length ss → x.to ≤ s.from) ss s d (λ l inside first. ended l d inside) (λ first. absurd (omega (arith, first))) m (omega (arith, less, length-append ss (s ∷ []))) less)
    j within i below
  where
    long : (m n : ℕ) → n < length ss → m < n → m < length (ss ++ s ∷ [])
    long m n low less = omega (arith, low, less, length-append ss (s ∷ []))

-- the last span, which ended, is put behind those before it
module _ (ss : List Span) (from to : ℕ) where
  abbrev last : Span
  last = record { from = from; to = to }

  pub closed_placed : ArePlaced ss → ArePlaced (closed_with ss from to)
  closed_placed placed = by (nat_lt from to) refl
    where
      by : (b : Bool) → nat_lt from to ≡ b → ArePlaced (if b then ss ++ last ∷ [] else ss)
      by true is =
          let le : from ≤ to = grind (arith, is) in
          λ i d. each_more (λ (j : ℕ) (x : Span). x.from ≤ x.to) ss last d (λ j low. placed j d low) le i
      by false is = placed

  pub closed_apart : AreApartBy ss → HaveEnded ss from → AreApartBy (closed_with ss from to)
  closed_apart apart ended = by (nat_lt from to)
    where
      by : (b : Bool) → AreApartBy (if b then ss ++ last ∷ [] else ss)
      by true = apart_more ss last apart ended
      by false = apart

  pub closed_ended : (n at : ℕ) → HaveEnded ss n → to ≤ n → n ≤ at → HaveEnded (closed_with ss from to) at
  closed_ended n at ended until le = by (nat_lt from to)
    where
      by : (b : Bool) → HaveEnded (if b then ss ++ last ∷ [] else ss) at
      by true = λ i d. each_more (λ (j : ℕ) (x : Span). x.to ≤ at) ss last d (λ j low. omega (arith, le, ended j d low)) (omega (arith, until, le)) i
      by false = λ i d low. omega (arith, le, ended i d low)

  pub closed_any : (k : ℕ) → list_any (has_place k) (closed_with ss from to) ≡ (list_any (has_place k) ss || (nat_le from k && nat_lt k to))
  closed_any k = by (nat_lt from to) refl
    where
      none : (b : Bool) → b ≡ (b || false)
      none true = refl
      none false = refl

      by : (b : Bool) → nat_lt from to ≡ b → list_any (has_place k) (if b then ss ++ last ∷ [] else ss) ≡ (list_any (has_place k) ss || (nat_le from k && nat_lt k to))
      by true is = any_end (has_place k) ss last
      by false is =
          let never : (nat_le from k && nat_lt k to) ≡ false = grind (arith, is) in
          none (list_any (has_place k) ss) ∙ ap (λ (b : Bool). list_any (has_place k) ss || b) (sym never)
