-- files that are loaded one after another
use Rattle.std.proofs.Common.{◌≡◌, ◌∙◌, ℕ, ◌+◌, ◌<◌, suc, List, [], ◌∷◌, ◌++◌, length, take, drop, get_or, refl, sym, ap, subst, arith, inl, inr, ◌⊎◌, Option, Ok, Err, append-nil}
use Rattle.std.proofs.lemmas.List.{append_assoc, length-take-le, take-append-drop, take_more}
use Rattle.sg_outside.specs.Files.{Load}
use Rattle.sg_outside.specs.declared.files.Loaded.{Loaded}
use Rattle.sg_outside.specs.declared.files.Loaded.TheVariants.{Whole, Longer, Failed, Memory}
use Rattle.sg_history.specs.declared.fault.Why.{Why}
use Rattle.command_line.specs.declared.status.Status.{Status}
use Rattle.command_line.specs.declared.status.Status.TheVariants as status
use Rattle.command_line.specs.Loads.{AreAcceptedLoads, IsLoadAnswer, IsStopped, NeedsFile, TellsOf}
use Rattle.command_line.specs.Run.{HasFile}

module _ (recorded : Option (List ℕ → Option (List ℕ))) (IsGood : ℕ → List ℕ → Type 0) (IsBad : ℕ → List ℕ → ℕ → Why → Type 0) where
  -- ---- one file

  -- how a file that was loaded whole is refused
  abbrev pub Refuses : ℕ → List ℕ → Status → Type 0
  Refuses number name s =
      (s ≡ status.Memory) ⊎ ((place : ℕ) × (why : Why) × (s ≡ status.BadInput number place why) × ((bytes : List ℕ) → HasFile recorded name bytes → IsBad number bytes place why))

  pub not_loaded : (X : Type 0) (number : ℕ) (name : List ℕ) (answer : Loaded) (s : Status) → IsLoadAnswer {X = X} number answer (Err s) → NeedsFile recorded name answer → IsStopped recorded IsGood IsBad number (name ∷ []) (record { name = name; answer = answer } ∷ []) s
  not_loaded X number name Whole s is needs = absurd is
  not_loaded X number name Longer s is needs = (refl, (is, needs))
  not_loaded X number name Failed s is needs = (refl, is)
  not_loaded X number name Memory s is needs = (refl, is)

  pub accepted : {X : Type 0} (number : ℕ) (name : List ℕ) (answer : Loaded) (x : X) → IsLoadAnswer number answer (Ok x) → NeedsFile recorded name answer → ((bytes : List ℕ) → HasFile recorded name bytes → IsGood number bytes)
      → AreAcceptedLoads recorded IsGood IsBad number (name ∷ []) (record { name = name; answer = answer } ∷ [])
  accepted number name Whole x is needs good = (record { load_is = refl; there = needs; good = good }, tt)
  accepted number name Longer x is needs good = absurd is
  accepted number name Failed x is needs good = absurd is
  accepted number name Memory x is needs good = absurd is

  pub refused : {X : Type 0} (number : ℕ) (name : List ℕ) (answer : Loaded) (x : X) (s : Status) → IsLoadAnswer number answer (Ok x) → NeedsFile recorded name answer → Refuses number name s
      → IsStopped recorded IsGood IsBad number (name ∷ []) (record { name = name; answer = answer } ∷ []) s
  refused number name Whole x s is needs (inl out) = (refl, inl out)
  refused number name Whole x s is needs (inr bad) = (refl, inr (bad.0, bad.1, bad.2, needs, bad.3))
  refused number name Longer x s is needs why = absurd is
  refused number name Failed x s is needs why = absurd is
  refused number name Memory x s is needs why = absurd is

  -- ---- one after another

  pub accepted_all : (number : ℕ) (names more : List (List ℕ)) (loads later : List Load) → AreAcceptedLoads recorded IsGood IsBad number names loads → AreAcceptedLoads recorded IsGood IsBad (number + length names) more later
      → AreAcceptedLoads recorded IsGood IsBad number (names ++ more) (loads ++ later)
  accepted_all number [] more [] later are then = subst (λ (n : ℕ). AreAcceptedLoads recorded IsGood IsBad n more later) (omega arith) then
  accepted_all number [] more (l ∷ loads) later are then = absurd are
  accepted_all number (n ∷ names) more [] later are then = absurd are
  accepted_all number (n ∷ names) more (l ∷ loads) later are then =
      (are.0, accepted_all (number + 1) names more loads later are.1 (subst (λ (k : ℕ). AreAcceptedLoads recorded IsGood IsBad k more later) (omega arith) then))

  -- out of memory behind files that were accepted
  pub out_of_memory : (number : ℕ) (name : List ℕ) (names : List (List ℕ)) (loads : List Load) → AreAcceptedLoads recorded IsGood IsBad number (name ∷ names) loads → IsStopped recorded IsGood IsBad number (name ∷ names) loads status.Memory
  out_of_memory number name [] [] are = absurd are
  out_of_memory number name [] (l ∷ []) are =
      subst (λ (x : Load). (x.name ≡ name) × TellsOf recorded IsGood IsBad number name x.answer status.Memory) (sym are.0.load_is) (refl, inl refl)
  out_of_memory number name [] (l ∷ m ∷ loads) are = absurd are.1
  out_of_memory number name (n ∷ names) [] are = absurd are
  out_of_memory number name (n ∷ names) (l ∷ []) are = absurd are.1
  out_of_memory number name (n ∷ names) (l ∷ m ∷ loads) are = (are.0, out_of_memory (number + 1) n names (m ∷ loads) are.1)

  -- a stop is one, whatever files were to follow
  pub stopped_before : (number : ℕ) (names more : List (List ℕ)) (loads : List Load) (s : Status) → IsStopped recorded IsGood IsBad number names loads s → IsStopped recorded IsGood IsBad number (names ++ more) loads s
  stopped_before number [] more loads s stopped = absurd stopped
  stopped_before number (n ∷ names) more [] s stopped = stopped
  stopped_before number (n ∷ names) more (l ∷ []) s stopped = stopped
  stopped_before number (n ∷ names) more (l ∷ m ∷ loads) s stopped = (stopped.0, stopped_before (number + 1) names more (m ∷ loads) s stopped.1)

  -- a stop behind files that were accepted
  pub stopped_behind : (number : ℕ) (names more : List (List ℕ)) (loads later : List Load) (s : Status) → AreAcceptedLoads recorded IsGood IsBad number names loads → IsStopped recorded IsGood IsBad (number + length names) more later s
      → IsStopped recorded IsGood IsBad number (names ++ more) (loads ++ later) s
  stopped_behind number [] more [] later s are stopped = subst (λ (n : ℕ). IsStopped recorded IsGood IsBad n more later s) (omega arith) stopped
  stopped_behind number [] more (l ∷ loads) later s are stopped = absurd are
  stopped_behind number (n ∷ names) more [] later s are stopped = absurd are
  stopped_behind number (n ∷ names) more (l ∷ m ∷ loads) later s are stopped =
      (are.0, stopped_behind (number + 1) names more (m ∷ loads) later s are.1 (subst (λ (k : ℕ). IsStopped recorded IsGood IsBad k more later s) (omega arith) stopped))
  stopped_behind number (n ∷ m ∷ names) more (l ∷ []) later s are stopped = absurd are.1
  stopped_behind number (n ∷ []) [] (l ∷ []) later s are stopped = absurd stopped
  stopped_behind number (n ∷ []) (q ∷ more) (l ∷ []) [] s are stopped =
      subst (λ (x : Load). (x.name ≡ n) × TellsOf recorded IsGood IsBad number n x.answer s) (sym are.0.load_is) (refl, inl stopped)
  stopped_behind number (n ∷ []) (q ∷ more) (l ∷ []) (m ∷ later) s are stopped =
      (are.0, subst (λ (k : ℕ). IsStopped recorded IsGood IsBad k (q ∷ more) (m ∷ later) s) (omega arith) stopped)

-- ---- two parts, one after the other

-- what was done before and then is done in all
pub both : (A B C : List Load → Type 0) (x y z : List Load) → ((d e : List Load) → A d → B e → C (d ++ e)) → ((d : List Load) × (y ≡ x ++ d) × A d) → ((e : List Load) × (z ≡ y ++ e) × B e) → (f : List Load) × (z ≡ x ++ f) × C f
both A B C x y z join a b =
    (a.0 ++ b.0, b.1 ∙ ap (λ (l : List Load). l ++ b.0) a.1 ∙ append_assoc x a.0 b.0, join a.0 b.0 a.2 b.2)

-- the same of one part
pub only : (A C : List Load → Type 0) (x y : List Load) → ((d : List Load) → A d → C d) → ((d : List Load) × (y ≡ x ++ d) × A d) → (f : List Load) × (y ≡ x ++ f) × C f
only A C x y so a = (a.0, a.1, so a.0 a.2)

-- nothing was loaded
pub nothing : (C : List Load → Type 0) (x : List Load) → C [] → (f : List Load) × (x ≡ x ++ f) × C f
nothing C x holds = ([], sym (append-nil x), holds)

-- ---- the next file of a list

next_split : (names : List (List ℕ)) (i : ℕ) (name : List ℕ) → i < length names → name ≡ get_or names i name → take i names ++ name ∷ [] ≡ take (i + 1) names
next_split names i name low is = ap (λ (x : List ℕ). take i names ++ x ∷ []) is ∙ sym (take_more names i name low)

next_length : (number : ℕ) (names : List (List ℕ)) (i : ℕ) → i < length names → number + i ≡ number + length (take i names)
next_length number names i low = omega (arith, length-take-le i names (omega (arith, low)))

module _ (recorded : Option (List ℕ → Option (List ℕ))) (IsGood : ℕ → List ℕ → Type 0) (IsBad : ℕ → List ℕ → ℕ → Why → Type 0) where
  pub accepted_next : (number : ℕ) (names : List (List ℕ)) (i : ℕ) (name : List ℕ) (before between after : List Load) → i < length names → name ≡ get_or names i name
      → ((d : List Load) × (between ≡ before ++ d) × AreAcceptedLoads recorded IsGood IsBad number (take i names) d)
      → ((e : List Load) × (after ≡ between ++ e) × AreAcceptedLoads recorded IsGood IsBad (number + i) (name ∷ []) e)
      → (f : List Load) × (after ≡ before ++ f) × AreAcceptedLoads recorded IsGood IsBad number (take (i + 1) names) f
  accepted_next number names i name before between after low is a b =
      both (λ d. AreAcceptedLoads recorded IsGood IsBad number (take i names) d) (λ e. AreAcceptedLoads recorded IsGood IsBad (number + i) (name ∷ []) e) (λ f. AreAcceptedLoads recorded IsGood IsBad number (take (i + 1) names) f) before between after
      (λ d e are next. subst (λ (ns : List (List ℕ)). AreAcceptedLoads recorded IsGood IsBad number ns (d ++ e)) (next_split names i name low is)
      (accepted_all recorded IsGood IsBad number (take i names) (name ∷ []) d e are (subst (λ (k : ℕ). AreAcceptedLoads recorded IsGood IsBad k (name ∷ []) e) (next_length number names i low) next)))
      a b

  pub stopped_next : (number : ℕ) (names : List (List ℕ)) (i : ℕ) (name : List ℕ) (s : Status) (before between after : List Load) → i < length names → name ≡ get_or names i name
      → ((d : List Load) × (between ≡ before ++ d) × AreAcceptedLoads recorded IsGood IsBad number (take i names) d)
      → ((e : List Load) × (after ≡ between ++ e) × IsStopped recorded IsGood IsBad (number + i) (name ∷ []) e s)
      → (f : List Load) × (after ≡ before ++ f) × IsStopped recorded IsGood IsBad number names f s
  stopped_next number names i name s before between after low is a b =
      both (λ d. AreAcceptedLoads recorded IsGood IsBad number (take i names) d) (λ e. IsStopped recorded IsGood IsBad (number + i) (name ∷ []) e s) (λ f. IsStopped recorded IsGood IsBad number names f s) before between after
      (λ d e are stopped. subst (λ (ns : List (List ℕ)). IsStopped recorded IsGood IsBad number ns (d ++ e) s) (take-append-drop (i + 1) names)
      (stopped_before recorded IsGood IsBad number (take (i + 1) names) (drop (i + 1) names) (d ++ e) s
      (subst (λ (ns : List (List ℕ)). IsStopped recorded IsGood IsBad number ns (d ++ e) s) (next_split names i name low is)
      (stopped_behind recorded IsGood IsBad number (take i names) (name ∷ []) d e s are (subst (λ (k : ℕ). IsStopped recorded IsGood IsBad k (name ∷ []) e s) (next_length number names i low) stopped)))))
      a b

  -- out of memory behind the next file
  memory_next : (number : ℕ) (names : List (List ℕ)) (i : ℕ) (done : List Load) → i < length names → AreAcceptedLoads recorded IsGood IsBad number (take (i + 1) names) done → IsStopped recorded IsGood IsBad number names done status.Memory
  memory_next number [] i done low are = absurd (omega (arith, low))
  memory_next number (n ∷ names) i done low are =
      let more : i + 1 ≡ suc i = omega arith in
      let cons : take (i + 1) (n ∷ names) ≡ n ∷ take i names = ap (λ (k : ℕ). take k (n ∷ names)) more in
      let here : IsStopped recorded IsGood IsBad number (n ∷ take i names) done status.Memory = out_of_memory recorded IsGood IsBad number n (take i names) done (subst (λ (ns : List (List ℕ)). AreAcceptedLoads recorded IsGood IsBad number ns done) cons are) in
      subst (λ (ns : List (List ℕ)). IsStopped recorded IsGood IsBad number ns done status.Memory) (ap (λ (ns : List (List ℕ)). n ∷ ns) (take-append-drop i names))
      (stopped_before recorded IsGood IsBad number (n ∷ take i names) (drop i names) done status.Memory here)

  pub out_of_memory_next : (number : ℕ) (names : List (List ℕ)) (i : ℕ) (before after : List Load) → i < length names → ((d : List Load) × (after ≡ before ++ d) × AreAcceptedLoads recorded IsGood IsBad number (take (i + 1) names) d)
      → (f : List Load) × (after ≡ before ++ f) × IsStopped recorded IsGood IsBad number names f status.Memory
  out_of_memory_next number names i before after low a =
      only (λ d. AreAcceptedLoads recorded IsGood IsBad number (take (i + 1) names) d) (λ f. IsStopped recorded IsGood IsBad number names f status.Memory) before after (λ d are. memory_next number names i d low are) a
