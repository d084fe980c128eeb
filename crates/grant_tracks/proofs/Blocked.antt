-- lists of what may be held at places
use Rattle.std.proofs.Common.{◌≡◌, inl, inr, ◌<◌, ◌≤◌, ℕ, zero, suc, refl, sym, ◌∙◌, ap, arith, Bool, true, false, ◌||◌, nat_lt, List, [], ◌∷◌, ◌++◌, length, cond, eqb, if◌then◌else◌}
use Rattle.std.specs.Prelude.{nat_eq, slice_index_or}
use Rattle.std.specs.List.{dedup, dedup_from}
use Rattle.std.proofs.lemmas.Bool.{lt-leb, le-leb, false≢true, eqb-true, cases_lt}
use Rattle.grant_tracks.specs.declared.blocks.Block.{Block}
use Rattle.grant_tracks.specs.Listed.{is_in}
use Rattle.grant_tracks.specs.Blocks.{covering}
use Rattle.grant_tracks.proofs.Gathered.{each_more}

-- the first that ends after a place
pub covered : (bs : List Block) (last : List ℕ) (n k : ℕ) (x : Block) → ((i : ℕ) (d : Block) → i < n → (slice_index_or bs i d).to ≤ k) → ((i : ℕ) (d : Block) → n ≤ i → i < length bs → k < (slice_index_or bs i d).to) → n < length bs
    → (slice_index_or bs n x).list.items ≡ covering bs last k
covered [] last n k x before after within = absurd (omega (arith, within))
covered (b ∷ bs) last zero k x before after within =
    sym (ap (λ (c : Bool). if c then b.list.items else covering bs last k) (le-leb (suc k) b.to (omega (arith, after 0 b (omega arith) (omega arith)))))
covered (b ∷ bs) last (suc n) k x before after within =
    covered bs last n k x (λ i d h. before (suc i) d (omega (arith, h))) (λ i d h w. after (suc i) d (omega (arith, h)) (omega (arith, w))) (omega (arith, within))
    ∙ sym (ap (λ (c : Bool). if c then b.list.items else covering bs last k) (lt-leb (suc k) b.to (omega (arith, before 0 b (omega arith)))))

-- where all have ended the last covers a place
pub covered_last : (bs : List Block) (last : List ℕ) (k : ℕ) → ((i : ℕ) (d : Block) → i < length bs → (slice_index_or bs i d).to ≤ k) → covering bs last k ≡ last
covered_last [] last k ended = refl
covered_last (b ∷ bs) last k ended =
    ap (λ (c : Bool). if c then b.list.items else covering bs last k) (lt-leb (suc k) b.to (omega (arith, ended 0 b (omega arith))))
    ∙ covered_last bs last k (λ i d w. ended (suc i) d (omega (arith, w)))

in_more : (xs : List ℕ) (y x : ℕ) → is_in xs x ≡ true → is_in (xs ++ y ∷ []) x ≡ true
in_more [] y x h = absurd (false≢true h)
in_more (z ∷ zs) y x h = by (nat_eq x z) h (in_more zs y x)
  where
    by : (b : Bool) → (b || is_in zs x) ≡ true → (is_in zs x ≡ true → is_in (zs ++ y ∷ []) x ≡ true) → (b || is_in (zs ++ y ∷ []) x) ≡ true
    by true h rest = refl
    by false h rest = rest h

pub in_end : (xs : List ℕ) (y : ℕ) → is_in (xs ++ y ∷ []) y ≡ true
in_end [] y = ap (λ (b : Bool). b || false) (same y)
  where
    same : (m : ℕ) → nat_eq m m ≡ true
    same m = grind arith
in_end (z ∷ zs) y = by (nat_eq y z) (in_end zs y)
  where
    by : (b : Bool) → is_in (zs ++ y ∷ []) y ≡ true → (b || is_in (zs ++ y ∷ []) y) ≡ true
    by true h = refl
    by false h = h

-- the last list with one more has all that it had
pub kept_more : (bs : List Block) (last : List ℕ) (y k x : ℕ) → is_in (covering bs last k) x ≡ true → is_in (covering bs (last ++ y ∷ []) k) x ≡ true
kept_more [] last y k x h = in_more last y x h
kept_more (b ∷ bs) last y k x h = by (nat_lt k b.to) h (kept_more bs last y k x)
  where
    by : (c : Bool) → is_in (if c then b.list.items else covering bs last k) x ≡ true → (is_in (covering bs last k) x ≡ true → is_in (covering bs (last ++ y ∷ []) k) x ≡ true) → is_in (if c then b.list.items else covering bs (last ++ y ∷ []) k) x ≡ true
    by true h rest = h
    by false h rest = rest h

-- one block more, of what was last
pub pushed_before : (bs : List Block) (b : Block) (last new : List ℕ) (k : ℕ) → b.list.items ≡ last → k < b.to → covering (bs ++ b ∷ []) new k ≡ covering bs last k
pushed_before [] b last new k was below = ap (λ (c : Bool). if c then b.list.items else new) (le-leb (suc k) b.to (omega (arith, below))) ∙ was
pushed_before (c ∷ bs) b last new k was below = ap (λ (l : List ℕ). if nat_lt k c.to then c.list.items else l) (pushed_before bs b last new k was below)

pub pushed_after : (bs : List Block) (b : Block) (new : List ℕ) (k : ℕ) → ((i : ℕ) (d : Block) → i < length bs → (slice_index_or bs i d).to ≤ k) → b.to ≤ k → covering (bs ++ b ∷ []) new k ≡ new
pushed_after [] b new k ended le = ap (λ (c : Bool). if c then b.list.items else new) (lt-leb (suc k) b.to (omega (arith, le)))
pushed_after (c ∷ bs) b new k ended le =
    ap (λ (d : Bool). if d then c.list.items else covering (bs ++ b ∷ []) new k) (lt-leb (suc k) c.to (omega (arith, ended 0 c (omega arith))))
    ∙ pushed_after bs b new k (λ i d w. ended (suc i) d (omega (arith, w))) le

-- a list without neighbours that are the same has all that it had
in_from : (xs : List ℕ) (k x : ℕ) → is_in (k ∷ xs) x ≡ true → is_in (dedup_from eqb k xs) x ≡ true
in_from [] k x h = h
in_from (y ∷ ys) k x h = by (eqb y k) refl h (in_from ys k x) (in_from ys y x)
  where
    fewer : (a b : Bool) → (a || (a || b)) ≡ true → (a || b) ≡ true
    fewer true b h = refl
    fewer false b h = h

    later : (a b : Bool) → (a || b) ≡ true → (b ≡ true → is_in (dedup_from eqb y ys) x ≡ true) → (a || is_in (dedup_from eqb y ys) x) ≡ true
    later true b h rest = refl
    later false b h rest = rest h

    by : (b : Bool) → eqb y k ≡ b → is_in (k ∷ y ∷ ys) x ≡ true → (is_in (k ∷ ys) x ≡ true → is_in (dedup_from eqb k ys) x ≡ true)
        → (is_in (y ∷ ys) x ≡ true → is_in (dedup_from eqb y ys) x ≡ true) → is_in (cond b (dedup_from eqb k ys) (k ∷ dedup_from eqb y ys)) x ≡ true
    by true same h here there = here (fewer (nat_eq x k) (is_in ys x) (ap (λ (m : ℕ). nat_eq x k || (nat_eq x m || is_in ys x)) (sym (eqb-true y k same)) ∙ h))
    by false apart h here there = later (nat_eq x k) (is_in (y ∷ ys) x) h there

pub in_dedup : (xs : List ℕ) (x : ℕ) → is_in xs x ≡ true → is_in (dedup eqb xs) x ≡ true
in_dedup [] x h = h
in_dedup (k ∷ xs) x h = in_from xs k x h

-- what may be held stays so once a block is begun, but for what its list has not
pub begun_kept : (bs : List Block) (b : Block) (last given : List ℕ) (k x : ℕ) → ((i : ℕ) (d : Block) → i < length bs → (slice_index_or bs i d).to ≤ b.to) → b.list.items ≡ last
    → is_in (covering bs last k) x ≡ true → (b.to ≤ k → is_in given x ≡ true) → is_in (covering (bs ++ b ∷ []) given k) x ≡ true
begun_kept bs b last given k x ended was h has = elim (cases_lt k b.to) [
  | inl below ↦ ap (λ (l : List ℕ). is_in l x) (pushed_before bs b last given k was below) ∙ h
  | inr above ↦ ap (λ (l : List ℕ). is_in l x) (pushed_after bs b given k (λ i d w. omega (arith, above, ended i d w)) above) ∙ has above
]

-- with one block more all have ended where it does
pub more_ended : (bs : List Block) (b : Block) (n : ℕ) → ((i : ℕ) (d : Block) → i < length bs → (slice_index_or bs i d).to ≤ n) → n ≤ b.to → (i : ℕ) (d : Block) → i < length (bs ++ b ∷ []) → (slice_index_or (bs ++ b ∷ []) i d).to ≤ b.to
more_ended bs b n ended le i d = each_more (λ (j : ℕ) (x : Block). x.to ≤ b.to) bs b d (λ j low. omega (arith, le, ended j d low)) (omega arith) i
