-- places that are put in from the last one on
use Rattle.std.proofs.Common.{◌≡◌, ◌<◌, ◌≤◌, ◌+◌, ℕ, zero, suc, refl, sym, ◌∙◌, ap, arith, Bool, true, false, true≢false, ◌&&◌, ◌||◌, if◌then◌else◌, List, [], ◌∷◌, length, drop, Option, Some, None, nat_eq}
use Rattle.std.specs.Prelude.{slice_index_or}
use Rattle.std.proofs.lemmas.Bool.{eqb-true}
use Rattle.std.proofs.lemmas.List.{drop_more, drop_all}
use Rattle.log_index.specs.Representation.{is_seq, has_seq, seq_place}

-- the places of the marks from one on are put in, by what was kept before
pub record SomePut (old now : ℕ → ℕ → Option ℕ) (firsts : List (Option ℕ)) (sync left : ℕ) : Type 0 where
  pub within : left ≤ length firsts
  pub put : ((f : ℕ) → old f sync ≡ None) → (f s : ℕ) → now f s ≡ (if nat_eq sync s then seq_place left (drop left firsts) f else old f s)
  pub others : (f s : ℕ) → (nat_eq sync s && has_seq firsts f) ≡ false → now f s ≡ old f s

pub none_put : (old : ℕ → ℕ → Option ℕ) (firsts : List (Option ℕ)) (sync : ℕ) → SomePut old old firsts sync (length firsts)
none_put old firsts sync = record {
  within = omega arith;
  put = λ free f s. by free f s (nat_eq sync s) refl;
  others = λ f s h. refl;
}
  where
    none : (f : ℕ) → seq_place (length firsts) (drop (length firsts) firsts) f ≡ None
    none f = ap (λ (xs : List (Option ℕ)). seq_place (length firsts) xs f) (drop_all (length firsts) firsts (omega arith))

    by : ((f : ℕ) → old f sync ≡ None) → (f s : ℕ) (b : Bool) → nat_eq sync s ≡ b → old f s ≡ (if b then seq_place (length firsts) (drop (length firsts) firsts) f else old f s)
    by free f s true h = ap (λ (n : ℕ). old f n) (sym (eqb-true sync s h)) ∙ free f ∙ sym (none f)
    by free f s false h = refl

has_at : (xs : List (Option ℕ)) (i : ℕ) (d : Option ℕ) (f : ℕ) → i < length xs → is_seq (slice_index_or xs i d) f ≡ true → has_seq xs f ≡ true
has_at [] i d f low is = absurd (omega (arith, low))
has_at (x ∷ xs) zero d f low is = ap (λ (b : Bool). b || has_seq xs f) is
has_at (x ∷ xs) (suc i) d f low is = ap (λ (b : Bool). is_seq x f || b) (has_at xs i d f (omega (arith, low)) is) ∙ or_true (is_seq x f)
  where
    or_true : (b : Bool) → (b || true) ≡ true
    or_true true = refl
    or_true false = refl

-- one that none is apart from is none of these
pub not_one : (xs : List (Option ℕ)) (i : ℕ) (d : Option ℕ) (f : ℕ) (at : Bool) → i < length xs → (at && has_seq xs f) ≡ false → (at && is_seq (slice_index_or xs i d) f) ≡ false
not_one xs i d f false low h = refl
not_one xs i d f true low h = by (is_seq (slice_index_or xs i d) f) refl
  where
    by : (b : Bool) → is_seq (slice_index_or xs i d) f ≡ b → b ≡ false
    by true is = absurd (true≢false (sym (has_at xs i d f low is) ∙ h))
    by false is = refl

pub one_put : (old now new : ℕ → ℕ → Option ℕ) (firsts : List (Option ℕ)) (sync left i : ℕ) (d : Option ℕ) → SomePut old now firsts sync left → left ≡ i + 1
    → ((f s : ℕ) → new f s ≡ (if nat_eq sync s && is_seq (slice_index_or firsts i d) f then Some i else now f s))
    → SomePut old new firsts sync i
one_put old now new firsts sync left i d before next each = record {
  within = omega (arith, next, before.within);
  put = λ free f s. each f s ∙ by free f s (nat_eq sync s) refl;
  others = λ f s h.
      each f s
      ∙ ap (λ (b : Bool). if b then Some i else now f s) (not_one firsts i d f (nat_eq sync s) low h)
      ∙ before.others f s h;
}
  where
    low : i < length firsts
    low = omega (arith, next, before.within)

    split : drop i firsts ≡ slice_index_or firsts i d ∷ drop (i + 1) firsts
    split = drop_more firsts i d low

    rest : (f : ℕ) → seq_place left (drop left firsts) f ≡ seq_place (suc i) (drop (i + 1) firsts) f
    rest f =
        let number : left ≡ suc i = omega (arith, next) in
        ap (λ (n : ℕ). seq_place n (drop left firsts) f) number ∙ ap (λ (n : ℕ). seq_place (suc i) (drop n firsts) f) next

    by : ((f : ℕ) → old f sync ≡ None) → (f s : ℕ) (b : Bool) → nat_eq sync s ≡ b
        → (if b && is_seq (slice_index_or firsts i d) f then Some i else now f s) ≡ (if b then seq_place i (drop i firsts) f else old f s)
    by free f s true h =
        ap (λ (o : Option ℕ). if is_seq (slice_index_or firsts i d) f then Some i else o)
        (before.put free f s ∙ ap (λ (b : Bool). if b then seq_place left (drop left firsts) f else old f s) h ∙ rest f)
        ∙ sym (ap (λ (xs : List (Option ℕ)). seq_place i xs f) split)
    by free f s false h = before.put free f s ∙ ap (λ (b : Bool). if b then seq_place left (drop left firsts) f else old f s) h

-- what was put is taken back
pub taken_back : (old now new : ℕ → ℕ → Option ℕ) (firsts : List (Option ℕ)) (sync : ℕ)
    → ((f s : ℕ) → (nat_eq sync s && has_seq firsts f) ≡ false → now f s ≡ old f s)
    → ((f s : ℕ) → new f s ≡ (if nat_eq sync s && has_seq firsts f then None else now f s))
    → ((f : ℕ) → old f sync ≡ None) → (f s : ℕ) → new f s ≡ old f s
taken_back old now new firsts sync kept removed free f s = removed f s ∙ by (nat_eq sync s) (has_seq firsts f) refl refl
  where
    by : (a b : Bool) → nat_eq sync s ≡ a → has_seq firsts f ≡ b → (if a && b then None else now f s) ≡ old f s
    by true true at has = sym (ap (λ (n : ℕ). old f n) (sym (eqb-true sync s at)) ∙ free f)
    by true false at has = kept f s (ap (λ (x : Bool). x && has_seq firsts f) at ∙ has)
    by false b at has = kept f s (ap (λ (x : Bool). x && has_seq firsts f) at)
