-- the entries up to places of a history, and of one that extends it
use Rattle.std.proofs.Common.{◌≡◌, ℕ, zero, suc, ◌+◌, ◌<◌, ◌≤◌, refl, sym, ◌∙◌, ap, subst, arith, Bool, List, [], ◌∷◌, ◌++◌, length, take, drop, reverse, Some}
use Rattle.std.specs.Prelude.{slice_get}
use Rattle.std.proofs.lemmas.Option.{none-some}
use Rattle.std.proofs.lemmas.List.{reverse-append, take-append-drop, take-take, take-append-le, length-reverse, length-take-le}
use Rattle.sg_history.specs.declared.entries.Entry.{Entry}
use Rattle.sg_history.specs.History.{past}
use Rattle.sg_history.specs.Principals.{has_channel}
use Rattle.feed_rows.specs.PassAt.{Dated, IsNow}

pub past_length : (xs : List Entry) (f : ℕ) → f ≤ length xs → length (past xs f) ≡ f
past_length xs f h = length-reverse (take f xs) ∙ length-take-le f xs h

-- the entries up to a later place end with those up to an earlier one
pub past_extends : (xs more : List Entry) (f g : ℕ) → f ≤ g → f ≤ length xs → (newer : List Entry) × (past (xs ++ more) g ≡ newer ++ past xs f)
past_extends xs more f g h k =
    let upto : List Entry = take g (xs ++ more) in
    let first : take f upto ≡ take f xs = take-take f g (xs ++ more) h ∙ take-append-le f xs more k in
    let split : upto ≡ take f xs ++ drop f upto = sym (take-append-drop f upto) ∙ ap (λ (ys : List Entry). ys ++ drop f upto) first in
    (reverse (drop f upto), ap (λ (ys : List Entry). reverse ys) split ∙ reverse-append (take f xs) (drop f upto))

-- the entries up to one place more
take_more : (xs : List Entry) (n : ℕ) → n < length xs → (e : Entry) × (take (suc n) xs ≡ take n xs ++ e ∷ [])
take_more [] n h = absurd (omega (arith, h))
take_more (x ∷ xs) zero h = (x, refl)
take_more (x ∷ xs) (suc n) h = let rest = take_more xs n (omega (arith, h)) in (rest.0, ap (λ (l : List Entry). x ∷ l) rest.1)

pub past_more : (xs : List Entry) (n : ℕ) → n < length xs → (e : Entry) × (past xs (suc n) ≡ e ∷ past xs n)
past_more xs n h =
    let more = take_more xs n h in
    (more.0, ap (λ (l : List Entry). reverse l) more.1 ∙ reverse-append (take n xs) (more.0 ∷ []))

-- what holds at each place holds at each of the entries up to one
pub dated : (has : List ℕ → ℕ → Bool) (user : List ℕ) (xs : List Entry) (front : ℕ) → front ≤ length xs → ((c : List ℕ) (k : ℕ) → k ≤ front → has c k ≡ has_channel (past xs k) user c) → (n : ℕ) → n ≤ front → Dated has user (past xs n)
dated has user xs front high says zero le = λ c. says c 0 le
dated has user xs front high says (suc n) le =
    let more = past_more xs n (omega (arith, high, le)) in
    let count : length (more.0 ∷ past xs n) ≡ suc n = sym (ap length more.1) ∙ past_length xs (suc n) (omega (arith, high, le)) in
    let now : IsNow has user (more.0 ∷ past xs n) = λ c.
    ap (has c) count ∙ says c (suc n) le ∙ ap (λ (es : List Entry). has_channel es user c) more.1 in
    subst (λ (es : List Entry). Dated has user es) (sym more.1) (now, dated has user xs front high says n (omega (arith, le)))

-- what is dated is so at earlier places
dated_before : (has : List ℕ → ℕ → Bool) (user : List ℕ) (newer older : List Entry) → Dated has user (newer ++ older) → Dated has user older
dated_before has user [] older h = h
dated_before has user (e ∷ newer) older h = dated_before has user newer older h.1

pub dated_within : (has : List ℕ → ℕ → Bool) (user : List ℕ) (xs : List Entry) (m : ℕ) → Dated has user (reverse xs) → Dated has user (reverse (take m xs))
dated_within has user xs m h =
    dated_before has user (reverse (drop m xs)) (reverse (take m xs))
    (subst (λ (es : List Entry). Dated has user es) (ap (λ (l : List Entry). reverse l) (sym (take-append-drop m xs)) ∙ reverse-append (take m xs) (drop m xs)) h)

pub take_all : (xs : List Entry) → take (length xs) xs ≡ xs
take_all [] = refl
take_all (x ∷ xs) = ap (λ (l : List Entry). x ∷ l) (take_all xs)

-- the entry at a place, and those up to it
next_is : (xs : List Entry) (n : ℕ) (e x : Entry) → slice_get xs n ≡ Some e → take (suc n) xs ≡ take n xs ++ x ∷ [] → x ≡ e
next_is [] n e x h is = absurd (none-some e h)
next_is (y ∷ ys) zero e x h is = cc
next_is (y ∷ ys) (suc n) e x h is = let rest : take (suc n) ys ≡ take n ys ++ x ∷ [] = cc in next_is ys n e x h rest

within : (xs : List Entry) (n : ℕ) (e : Entry) → slice_get xs n ≡ Some e → n < length xs
within [] n e h = absurd (none-some e h)
within (y ∷ ys) zero e h = omega arith
within (y ∷ ys) (suc n) e h = omega (arith, within ys n e h)

pub past_next : (xs : List Entry) (n : ℕ) (e : Entry) → slice_get xs n ≡ Some e → past xs (n + 1) ≡ e ∷ past xs n
past_next xs n e h =
    let one : ◌≡◌ {A = ℕ} (n + 1) (suc n) = omega arith in
    let more = take_more xs n (within xs n e h) in
    ap (λ (m : ℕ). past xs m) one
    ∙ ap (λ (l : List Entry). reverse l) more.1
    ∙ reverse-append (take n xs) (more.0 ∷ [])
    ∙ ap (λ (x : Entry). x ∷ past xs n) (next_is xs n e more.0 h more.1)
