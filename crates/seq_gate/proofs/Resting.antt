-- What passes and turns keep of their seats, step by step.
use Rattle.std.proofs.Common.{◌≡◌, ◌≤◌, ◌<◌, ◌-◌, ◌^◌, ◌%◌, ℕ, refl, sym, ap, subst, ◌∙◌, arith, List, [], ◌∷◌, Option, Some, None}
use mathlib.Core.Option.{none}
use Rattle.std.proofs.lemmas.Option.{same_Some}
use Rattle.atomic_table.specs.Table.{Me, step, rest}
use Rattle.sg_history.specs.Board.{BoardState}
use Rattle.seq_gate.specs.Passes.{drawn, drawn_in_turn, with_lowest_front, after_turn, split_from, split_off, Finds}
use Rattle.seq_gate.specs.Resting.{HasDraws, IsResting, IsServed, found_of}
use Rattle.seq_gate.specs.Rule.{idle}
use Rattle.seq_gate.specs.Turns.{knowing, ticketed, in_turn, leaving, passing, passed, Looks, Raises, Passes}
use Rattle.seq_gate.specs.declared.known.Known.{Known}
use Rattle.seq_gate.specs.declared.known.View.{View}

-- ---- draws

pub draws_less : (p : Known) (count n : ℕ) → HasDraws p count → 0 < p.left → HasDraws (drawn p n) (count - 1)
draws_less p count n has some =
    let least = has.least in
    let most = has.most in
    let left = has.left in
    record { least = omega (arith, least, some); most = omega (arith, most, some); left = omega (arith, left) }

pub draws_less_in_turn : (p : Known) (count n : ℕ) → HasDraws p count → 0 < p.left → HasDraws (drawn_in_turn p n) (count - 1)
draws_less_in_turn p count n has some =
    let least = has.least in
    let most = has.most in
    let left = has.left in
    record { least = omega (arith, least, some); most = omega (arith, most, some); left = omega (arith, left) }

pub draws_split : (p : Known) (count : ℕ) → HasDraws p count → 2 ^ 33 ≤ p.left → HasDraws (split_from p) (count - 2 ^ 32)
draws_split p count has some =
    let least = has.least in
    let most = has.most in
    let left = has.left in
    record { least = omega (arith, some); most = omega (arith, most); left = omega (arith, left) }

pub draws_off : (p : Known) → HasDraws (split_off p) (2 ^ 32)
draws_off p = record { least = omega arith; most = omega arith; left = refl }

pub draws_after : (p : Known) (count : ℕ) (found left : BoardState) → HasDraws p count → HasDraws (after_turn p found left) count
draws_after p count found left has = record { least = has.least; most = has.most; left = has.left }

pub draws_lowest_front : (p : Known) (count front : ℕ) → HasDraws p count → HasDraws (with_lowest_front p front) count
draws_lowest_front p count front has = record { least = has.least; most = has.most; left = has.left }

module _ {B : Type 0} where
  -- ---- out of turn

  -- a seat that knows something else now
  pub rests_as : (m n : Me (Option B) View) (q : Known) → m ≡ (idle m.0.knows, []) → n ≡ (knowing m.0 q, m.1) → n ≡ (idle q, [])
  rests_as m n q rest is = is ∙ ap (λ (x : Me (Option B) View). (knowing x.0 q, x.1)) rest

  pub rests : (n : Me (Option B) View) (q : Known) (count : ℕ) → n ≡ (idle q, []) → HasDraws q count → IsResting n count
  rests n q count is draws =
      let knows : n.0.knows ≡ q = ap (λ (x : Me (Option B) View). x.0.knows) is in
      record {
        me = is ∙ ap (λ (p : Known). (idle p, [])) (sym knows);
        draws = subst (λ (p : Known). HasDraws p count) (sym knows) draws;
      }

  -- ---- in turn

  pub serves_as : (m n : Me (Option B) View) (q : Known) (ticket : ℕ) (found : BoardState) → m ≡ (in_turn (ticketed (idle m.0.knows) ticket) found, (0, None) ∷ [])
      → n ≡ (knowing m.0 q, m.1) → n ≡ (in_turn (ticketed (idle q) ticket) found, (0, None) ∷ [])
  serves_as m n q ticket found rest is = is ∙ ap (λ (x : Me (Option B) View). (knowing x.0 q, x.1)) rest

  pub serves : (n : Me (Option B) View) (q : Known) (ticket : ℕ) (found : BoardState) (count : ℕ) → n ≡ (in_turn (ticketed (idle q) ticket) found, (0, None) ∷ []) → HasDraws q count → IsServed n count
  serves n q ticket found count is draws =
      let knows : n.0.knows ≡ q = ap (λ (x : Me (Option B) View). x.0.knows) is in
      let board : found_of n.0.found ≡ found = ap (λ (x : Me (Option B) View). found_of x.0.found) is in
      record {
        ticket = ticket;
        me = is ∙ (λ i. (in_turn (ticketed (idle (sym knows i)) ticket) (sym board i), (0, None) ∷ []));
        draws = subst (λ (p : Known). HasDraws p count) (sym knows) draws;
      }

module _ {B : Type 0} (seen : B → BoardState) where
  -- what a pass finds whose turn has come
  pub found_turn : (p : Known) (slots ticket word : ℕ) (m n : Me (Option B) View) → m ≡ (ticketed (idle p) ticket, []) → word ≡ ticket % 2 ^ 64 → Looks seen (step slots 2 0 0 none) m word n
      → (board : B) × Finds p (seen board) × (n ≡ (in_turn (ticketed (idle p) ticket) (seen board), (0, Some board) ∷ []))
  found_turn p slots ticket word m n is now fits =
      let t = (fits ticket (ap (λ (x : Me (Option B) View). x.0.ticket) is)).0 now in (
        t.0,
        subst (λ (x : Me (Option B) View). Finds x.0.knows (seen t.0)) is t.1,
        t.2 ∙ ap (λ (x : Me (Option B) View). (in_turn x.0 (seen t.0), (0, Some t.0) ∷ x.1)) is,
      )

  -- the board that is taken out of the slot
  pub entered : (p : Known) (slots ticket word : ℕ) (m n : Me (Option B) View) → m ≡ (ticketed (idle p) ticket, []) → word ≡ ticket % 2 ^ 64 → Looks seen (step slots 2 0 0 none) m word n
      → (board : B) (last : Me (Option B) View) → n.1 ≡ (0, Some board) ∷ rest n.1 → last ≡ (n.0, (0, None) ∷ rest n.1)
      → (last ≡ (in_turn (ticketed (idle p) ticket) (seen board), (0, None) ∷ [])) × Finds p (seen board)
  entered p slots ticket word m n is now fits board last out left =
      let t = found_turn p slots ticket word m n is now fits in
      let held : n.1 ≡ (0, Some t.0) ∷ [] = ap (λ (x : Me (Option B) View). x.1) t.2 in
      let pair : ◌≡◌ {A = ℕ × Option B} (0, Some t.0) (0, Some board) = first_is (sym held ∙ out) in
      let same : t.0 ≡ board = same_Some t.0 board (ap (λ (x : ℕ × Option B). x.1) pair) in (
        left ∙ (λ i. ((ap (λ (x : Me (Option B) View). x.0) t.2 ∙ ap (λ (b : B). in_turn (ticketed (idle p) ticket) (seen b)) same) i, (0, None) ∷ rest (held i))),
        subst (λ (b : B). Finds p (seen b)) same t.1,
      )
    where
      first_is : {X : Type 0} {x y : X} {xs ys : List X} → x ∷ xs ≡ y ∷ ys → x ≡ y
      first_is e = cc

  -- ---- leaving

  -- the board is put into the slot
  pub put_in : (p : Known) (ticket : ℕ) (found : BoardState) (board : B) (m n : Me (Option B) View) → m ≡ (in_turn (ticketed (idle p) ticket) found, (0, None) ∷ []) → n ≡ (m.0, (0, Some board) ∷ rest m.1)
      → n ≡ (in_turn (ticketed (idle p) ticket) found, (0, Some board) ∷ [])
  put_in p ticket found board m n is put = put ∙ ap (λ (x : Me (Option B) View). (x.0, (0, Some board) ∷ rest x.1)) is

  -- the front is raised
  pub raised_seat : (p : Known) (ticket : ℕ) (found : BoardState) (board : B) (slots front word : ℕ) (m n : Me (Option B) View) → m ≡ (in_turn (ticketed (idle p) ticket) found, (0, Some board) ∷ [])
      → Raises seen (step slots 3 front 0 none) m word n → n ≡ (passing (after_turn p found (seen board)) ticket, [])
  raised_seat p ticket found board slots front word m n is fits =
      fits board found (ap (λ (x : Me (Option B) View). x.1) is) (ap (λ (x : Me (Option B) View). x.0.found) is) ∙ ap (λ (x : Me (Option B) View). (leaving x.0 found (seen board), [])) is

  -- the turn is passed on
  pub passed_seat : (q : Known) (ticket slots word : ℕ) (m n : Me (Option B) View) → m ≡ (passing q ticket, []) → Passes (step slots 2 1 0 none) m word n → n ≡ (idle q, [])
  passed_seat q ticket slots word m n is fits = fits ∙ ap (λ (x : Me (Option B) View). (passed x.0, x.1)) is
