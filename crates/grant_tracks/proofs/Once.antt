-- lists in which each thing stands once
use Rattle.std.proofs.Common.{◌≡◌, ◌+◌, ◌<◌, ℕ, zero, suc, refl, sym, ◌∙◌, ap, subst, arith, Bool, true, false, ◌&&◌, ◌||◌, if◌then◌else◌, List, [], ◌∷◌, ◌++◌, length, get_or, Option, Some, None}
use Rattle.std.specs.Prelude.{option_map, slice_get, slice_set}
use Rattle.std.specs.List.{list_any}
use Rattle.std.proofs.lemmas.Bool.{false≢true}
use Rattle.std.proofs.lemmas.Option.{none-some, same_Some, get_or_from_slice_get}
use Rattle.grant_tracks.specs.declared.things.What.{What}
use Rattle.grant_tracks.specs.declared.things.What.TheVariants as what
use Rattle.grant_tracks.specs.declared.held.Held.{Held}
use Rattle.grant_tracks.specs.declared.places.Places.{Places}
use Rattle.grant_tracks.specs.Tracks.{held_at}
use Rattle.grant_tracks.specs.What.{same_what}
use Rattle.grant_tracks.specs.Holdings.{place_of, held_in, AreUpTo}
use Rattle.grant_tracks.specs.Places.{found, ArePlaces, StandOnce}
use Rattle.grant_tracks.specs.Reads.{is_channel, channel_among}
use Rattle.grant_tracks.proofs.Same.{whats, what_itself}
use Rattle.grant_tracks.proofs.Tracked.{whats_swap, set_place, state, apart_from, place_append}

pub any_same : {X : Type 0} (p q : X → Bool) → ((x : X) → p x ≡ q x) → (xs : List X) → list_any p xs ≡ list_any q xs
any_same p q same [] = refl
any_same p q same (x ∷ xs) = ap (λ (b : Bool). b || list_any p xs) (same x) ∙ ap (λ (b : Bool). q x || b) (any_same p q same xs)

and_swap : (a b : Bool) → (a && b) ≡ (b && a)
and_swap true true = refl
and_swap true false = refl
and_swap false true = refl
and_swap false false = refl

pub once_of : (list : List Held) (n : ℕ) → AreUpTo list n → StandOnce list
once_of [] n up = tt
once_of (h ∷ hs) n up = (up.1, once_of hs n up.2)

-- where a thing stands nowhere, no track is of it
pub none_of : (list : List Held) (w : What) (k : ℕ) → place_of list w ≡ None → list_any (λ h. same_what h.what w && held_at h.track k) list ≡ false
none_of [] w k h = refl
none_of (x ∷ xs) w k h = by (same_what x.what w) refl h (λ p. none_of xs w k p)
  where
    next : (o : Option ℕ) → option_map (λ (n : ℕ). n + 1) o ≡ None → o ≡ None
    next None p = refl
    next (Some n) p = absurd (none-some (n + 1) (sym p))

    by : (b : Bool) → same_what x.what w ≡ b → (if b then Some 0 else option_map (λ (n : ℕ). n + 1) (place_of xs w)) ≡ None → (place_of xs w ≡ None → list_any (λ h. same_what h.what w && held_at h.track k) xs ≡ false)
        → ((same_what x.what w && held_at x.track k) || list_any (λ h. same_what h.what w && held_at h.track k) xs) ≡ false
    by true same h rest = absurd (none-some 0 (sym h))
    by false same h rest = ap (λ (b : Bool). (b && held_at x.track k) || list_any (λ h. same_what h.what w && held_at h.track k) xs) same ∙ rest (next (place_of xs w) h)

-- each thing stands once, so that its track is that of any
pub any_of : (list : List Held) (k : ℕ) (w : What) → StandOnce list → list_any (λ h. same_what h.what w && held_at h.track k) list ≡ held_in list w k
any_of [] k w once = refl
any_of (x ∷ xs) k w once = by (same_what x.what w) refl (any_of xs k w once.1)
  where
    or_none : (b : Bool) → (b || false) ≡ b
    or_none true = refl
    or_none false = refl

    by : (b : Bool) → same_what x.what w ≡ b → list_any (λ h. same_what h.what w && held_at h.track k) xs ≡ held_in xs w k
        → ((same_what x.what w && held_at x.track k) || list_any (λ h. same_what h.what w && held_at h.track k) xs) ≡ (if same_what x.what w then held_at x.track k else held_in xs w k)
    by true same rest =
        ap (λ (b : Bool). (b && held_at x.track k) || list_any (λ h. same_what h.what w && held_at h.track k) xs) same
        ∙ ap (λ (b : Bool). held_at x.track k || b) (none_of xs w k (ap (λ (v : What). place_of xs v) (sym (whats x.what w same)) ∙ once.0))
        ∙ or_none (held_at x.track k)
        ∙ ap (λ (b : Bool). if b then held_at x.track k else held_in xs w k) (sym same)
    by false same rest =
        ap (λ (b : Bool). (b && held_at x.track k) || list_any (λ h. same_what h.what w && held_at h.track k) xs) same
        ∙ rest ∙ ap (λ (b : Bool). if b then held_at x.track k else held_in xs w k) (sym same)

channel_is : (w : What) (x : List ℕ) → is_channel w x ≡ same_what w (what.Channel x)
channel_is what.Exists x = refl
channel_is (what.Channel c) x = refl
channel_is (what.Role r) x = refl

pub channel_any : (list : List Held) (k : ℕ) (x : List ℕ) → StandOnce list → channel_among list k x ≡ held_in list (what.Channel x) k
channel_any list k x once =
    any_same (λ h. held_at h.track k && is_channel h.what x) (λ h. same_what h.what (what.Channel x) && held_at h.track k)
    (λ h. and_swap (held_at h.track k) (is_channel h.what x) ∙ ap (λ (b : Bool). b && held_at h.track k) (channel_is h.what x)) list
    ∙ any_of list k (what.Channel x) once

-- the list with one more, which stood nowhere
place_added : (list : List Held) (x : Held) (w : What) → place_of list x.what ≡ None → place_of (list ++ x ∷ []) w ≡ (if same_what x.what w then Some (length list) else place_of list w)
place_added [] x w none = refl
place_added (y ∷ ys) x w none =
    let parts = apart_from y ys x.what none in
    ap (λ (o : Option ℕ). if same_what y.what w then Some 0 else option_map (λ (n : ℕ). n + 1) o) (place_added ys x w parts.1)
    ∙ by (same_what y.what w) (same_what x.what w) refl refl parts.0
  where
    by : (b c : Bool) → same_what y.what w ≡ b → same_what x.what w ≡ c → same_what y.what x.what ≡ false
        → (if b then Some 0 else option_map (λ (n : ℕ). n + 1) (if c then Some (length ys) else place_of ys w)) ≡ (if c then Some (length (y ∷ ys)) else (if b then Some 0 else option_map (λ (n : ℕ). n + 1) (place_of ys w)))
    by true true p q apart = absurd (false≢true (sym apart ∙ subst (λ (v : What). same_what y.what v ≡ true) (whats y.what w p ∙ sym (whats x.what w q)) (what_itself y.what)))
    by true false p q apart = refl
    by false true p q apart = ap (λ (n : ℕ). Some n) (omega arith)
    by false false p q apart = refl

pub once_added : (list : List Held) (x : Held) → place_of list x.what ≡ None → StandOnce list → StandOnce (list ++ x ∷ [])
once_added [] x none once = (refl, tt)
once_added (y ∷ ys) x none once =
    let parts = apart_from y ys x.what none in
    (place_append ys x y.what once.0 (whats_swap x.what y.what ∙ parts.0), once_added ys x parts.1 once.1)

pub places_added : (old new : Places) (list : List Held) (x : Held) → ArePlaces old list → place_of list x.what ≡ None → ((w : What) → found new w ≡ (if same_what x.what w then Some (length list) else found old w)) → ArePlaces new (list ++ x ∷ [])
places_added old new list x are none put w =
    put w ∙ ap (λ (o : Option ℕ). if same_what x.what w then Some (length list) else o) (are w) ∙ sym (place_added list x w none)

-- the list in which one track moved
pub once_set : (list : List Held) (w : What) (i : ℕ) (new : Held) → place_of list w ≡ Some i → new.what ≡ w → StandOnce list → StandOnce (slice_set list i new)
once_set [] w i new h is once = absurd (none-some i h)
once_set (y ∷ ys) w i new h is once = by (same_what y.what w) refl i h (λ j p. once_set ys w j new p is once.1)
  where
    zero_place : (o : Option ℕ) → option_map (λ (n : ℕ). n + 1) o ≡ Some 0 → ⊥
    zero_place None h = none-some _ h
    zero_place (Some n) h = absurd (omega (arith, same_Some (n + 1) 0 h))

    next : (o : Option ℕ) (j : ℕ) → option_map (λ (n : ℕ). n + 1) o ≡ Some (suc j) → o ≡ Some j
    next None j h = absurd (none-some _ h)
    next (Some n) j h = ap (λ (m : ℕ). Some m) (omega (arith, same_Some (n + 1) (suc j) h))

    by : (b : Bool) → same_what y.what w ≡ b → (i : ℕ) → (if b then Some 0 else option_map (λ (n : ℕ). n + 1) (place_of ys w)) ≡ Some i → ((j : ℕ) → place_of ys w ≡ Some j → StandOnce (slice_set ys j new)) → StandOnce (slice_set (y ∷ ys) i new)
    by true same zero h rest = (ap (λ (v : What). place_of ys v) (is ∙ sym (whats y.what w same)) ∙ once.0, once.1)
    by true same (suc i) h rest = absurd (omega (arith, same_Some 0 (suc i) h))
    by false same zero h rest = absurd (zero_place (place_of ys w) h)
    by false same (suc i) h rest =
        let p = next (place_of ys w) i h in
        (set_place w new is ys i p y.what ∙ once.0, rest i p)

pub places_set : (places : Places) (list : List Held) (w : What) (i : ℕ) (new : Held) → place_of list w ≡ Some i → new.what ≡ w → ArePlaces places list → ArePlaces places (slice_set list i new)
places_set places list w i new h is are v = are v ∙ sym (set_place w new is list i h v)

-- where something stands is a place of the list
pub place_within : (list : List Held) (w : What) (i : ℕ) → place_of list w ≡ Some i → i < length list
place_within list w i h = (state list w i h).within

pub length_added : (list : List Held) (x : Held) → length (list ++ x ∷ []) ≡ length list + 1
length_added [] x = refl
length_added (y ∷ ys) x = let again = length_added ys x in omega (arith, again)

pub length_set : (list : List Held) (i : ℕ) (x : Held) → length (slice_set list i x) ≡ length list
length_set [] zero x = refl
length_set [] (suc i) x = refl
length_set (y ∷ ys) zero x = refl
length_set (y ∷ ys) (suc i) x = ap suc (length_set ys i x)

-- what stands at the place of a thing is that thing
pub what_here : (list : List Held) (w : What) (i : ℕ) (old : Held) → place_of list w ≡ Some i → old ≡ get_or list i old → old.what ≡ w
what_here list w i old place is =
    let stands = state list w i place in
    ap (λ (h : Held). h.what) (is ∙ get_or_from_slice_get list i stands.held old stands.got) ∙ stands.what_is

-- the place of what stands at a place of a list in which each thing stands once
pub place_here : (list : List Held) (w : What) (i : ℕ) (h : Held) → StandOnce list → slice_get list i ≡ Some h → same_what h.what w ≡ true → place_of list w ≡ Some i
place_here [] w i h once is same = absurd (none-some h is)
place_here (x ∷ xs) w zero h once is same =
    ap (λ (b : Bool). if b then Some 0 else option_map (λ (n : ℕ). n + 1) (place_of xs w)) (ap (λ (y : Held). same_what y.what w) (same_Some x h is) ∙ same)
place_here (x ∷ xs) w (suc i) h once is same = by (same_what x.what w) refl (place_here xs w i h once.1 is same)
  where
    by : (b : Bool) → same_what x.what w ≡ b → place_of xs w ≡ Some i → place_of (x ∷ xs) w ≡ Some (suc i)
    by true first rest = absurd (none-some i (sym (ap (λ (v : What). place_of xs v) (sym (whats x.what w first)) ∙ once.0) ∙ rest))
    by false first rest =
        ap (λ (b : Bool). if b then Some 0 else option_map (λ (n : ℕ). n + 1) (place_of xs w)) first
        ∙ ap (λ (o : Option ℕ). option_map (λ (n : ℕ). n + 1) o) rest
        ∙ ap (λ (n : ℕ). Some n) (omega arith)
