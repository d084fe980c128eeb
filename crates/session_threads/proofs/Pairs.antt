-- Pairs of lists, one more at the end.
use Rattle.std.proofs.Common.{◌<◌, slice_index_or, take, drop, map, arith, ◌≡◌, ◌∙◌, ℕ, suc, List, [], ◌∷◌, ◌++◌, length, refl, sym, ap, subst, append-nil, Result, Ok, Err, MatchResult}
use Rattle.std.proofs.lemmas.List.{append_assoc}
use Rattle.session_threads.specs.Pairs.{AllOf, AllPairs}

module _ {X Y : Type 0} (Goes : X → Y → Type 0) where
  pub pairs_more : (xs : List X) (ys : List Y) (x : X) (y : Y) → AllPairs Goes xs ys → Goes x y → AllPairs Goes (xs ++ x ∷ []) (ys ++ y ∷ [])
  pairs_more [] [] x y all one = (one, tt)
  pairs_more (a ∷ xs) (b ∷ ys) x y all one = (all.0, pairs_more xs ys x y all.1 one)
  pairs_more [] (b ∷ ys) x y all one = absurd all
  pairs_more (a ∷ xs) [] x y all one = absurd all

  -- lists of pairs are as long as each other
  pub as_long : (xs : List X) (ys : List Y) → AllPairs Goes xs ys → length ys ≡ length xs
  as_long [] [] all = refl
  as_long (x ∷ xs) (y ∷ ys) all = ap (λ (n : ℕ). suc n) (as_long xs ys all.1)
  as_long [] (y ∷ ys) all = absurd all
  as_long (x ∷ xs) [] all = absurd all

-- by way of the one between
pub through : {X Y Z : Type 0} (First : X → Y → Type 0) (Second : Y → Z → Type 0) (Both : X → Z → Type 0) → ((x : X) (y : Y) (z : Z) → First x y → Second y z → Both x z)
    → (xs : List X) (ys : List Y) (zs : List Z) → AllPairs First xs ys → AllPairs Second ys zs → AllPairs Both xs zs
through First Second Both on [] [] [] a b = tt
through First Second Both on (x ∷ xs) (y ∷ ys) (z ∷ zs) a b = (on x y z a.0 b.0, through First Second Both on xs ys zs a.1 b.1)
through First Second Both on [] (y ∷ ys) zs a b = absurd a
through First Second Both on (x ∷ xs) [] zs a b = absurd a
through First Second Both on [] [] (z ∷ zs) a b = absurd b
through First Second Both on (x ∷ xs) (y ∷ ys) [] a b = absurd b

-- where the one list ends with these, and both go together, the other has a first one that goes with the first of these
pub first_pair : {X Y : Type 0} (Goes : X → Y → Type 0) (xs : List X) (y : Y) (ys : List Y) → AllPairs Goes xs (y ∷ ys) → (x : X) × (rest : List X) × (xs ≡ x ∷ rest) × Goes x y × AllPairs Goes rest ys
first_pair Goes [] y ys all = absurd all
first_pair Goes (x ∷ xs) y ys all = (x, xs, refl, all.0, all.1)

-- what a job gave goes with it, whether it ran in a thread or was called
pub ended : {X H D : Type 0} (R : X → D → Type 0) (job_of : H → X) (y : Result H D) (x : X) (d : D) → MatchResult y (λ h. job_of h ≡ x) (λ e. R x e) → MatchResult y (λ h. R (job_of h) d) (λ e. d ≡ e) → R x d
ended R job_of (Ok h) x d is r = subst (λ j. R j d) is r
ended R job_of (Err e) x d r is = subst (λ v. R x v) (sym is) r

-- some of the first list are done, with what they gave, and the others go with what is left
abbrev pub Done : {X Y D : Type 0} → (X → Y → Type 0) → (X → D → Type 0) → List X → List Y → List D → Type 0
Done {X} Goes Gave xs ys ds = (done : List X) × (left : List X) × (xs ≡ done ++ left) × AllPairs Goes left ys × AllPairs Gave done ds

pub done_more : {X Y D : Type 0} (Goes : X → Y → Type 0) (Gave : X → D → Type 0) (xs : List X) (ys rest : List Y) (y : Y) (ds ds_after : List D) (d : D)
    → ys ≡ y ∷ rest → ds_after ≡ ds ++ d ∷ [] → ((x : X) → Goes x y → Gave x d) → Done Goes Gave xs ys ds → Done Goes Gave xs rest ds_after
done_more Goes Gave xs ys rest y ds ds_after d is more gives (done, left, split, waiting, got) =
    let p = first_pair Goes left y rest (subst (λ l. AllPairs Goes left l) is waiting) in
    (done ++ p.0 ∷ [], p.1, split ∙ ap (λ l. done ++ l) p.2 ∙ sym (append_assoc done (p.0 ∷ []) p.1), p.4, rw more (pairs_more Gave done ds p.0 d got (gives p.0 p.3)))

pub none_done : {X Y D : Type 0} (Goes : X → Y → Type 0) (Gave : X → D → Type 0) (xs : List X) (ys : List Y) → AllPairs Goes xs ys → Done Goes Gave xs ys []
none_done Goes Gave xs ys all = ([], xs, refl, all, tt)

pub all_done : {X Y D : Type 0} (Goes : X → Y → Type 0) (Gave : X → D → Type 0) (xs : List X) (ys : List Y) (ds : List D) → Done Goes Gave xs ys ds → ys ≡ [] → AllPairs Gave xs ds
all_done Goes Gave xs ys ds (done, [], split, waiting, got) none = subst (λ l. AllPairs Gave l ds) (sym (split ∙ append-nil done)) got
all_done Goes Gave xs ys ds (done, x ∷ left, split, waiting, got) none = absurd (subst (λ l. AllPairs Goes (x ∷ left) l) none waiting)

-- the first one is taken out
pub first_out : {Y : Type 0} (ys zs : List Y) (y : Y) → 0 < length ys → y ≡ slice_index_or ys 0 y → zs ≡ take 0 ys ++ drop 1 ys → ys ≡ y ∷ zs
first_out [] zs y some is others = absurd (omega (arith, some))
first_out (x ∷ ys) zs y some is others = rw (is, others) refl

-- ---- one list made of another

pub map_more : {X Y : Type 0} (f : X → Y) (xs : List X) (x : X) → map f (xs ++ x ∷ []) ≡ map f xs ++ f x ∷ []
map_more f [] x = refl
map_more f (y ∷ xs) x = ap (λ (ys : List _). f y ∷ ys) (map_more f xs x)

pub mapped : {X Y A B : Type 0} (Goes : X → Y → Type 0) (Then : A → B → Type 0) (f : X → A) (g : Y → B) → ((x : X) (y : Y) → Goes x y → Then (f x) (g y))
    → (xs : List X) (ys : List Y) → AllPairs Goes xs ys → AllPairs Then (map f xs) (map g ys)
mapped Goes Then f g on [] [] all = tt
mapped Goes Then f g on (x ∷ xs) (y ∷ ys) all = (on x y all.0, mapped Goes Then f g on xs ys all.1)
mapped Goes Then f g on [] (y ∷ ys) all = absurd all
mapped Goes Then f g on (x ∷ xs) [] all = absurd all

-- each of the second list is as its partner makes it
pub of_second : {X Y : Type 0} (Goes : X → Y → Type 0) (Holds : Y → Type 0) → ((x : X) (y : Y) → Goes x y → Holds y) → (xs : List X) (ys : List Y) → AllPairs Goes xs ys → AllOf Holds ys
of_second Goes Holds on [] [] all = tt
of_second Goes Holds on (x ∷ xs) (y ∷ ys) all = (on x y all.0, of_second Goes Holds on xs ys all.1)
of_second Goes Holds on [] (y ∷ ys) all = absurd all
of_second Goes Holds on (x ∷ xs) [] all = absurd all
