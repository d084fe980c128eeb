-- Messages, their index and their turns, as messages come, change and go.
use Rattle.std.proofs.Common.{◌≡◌, ℕ, ◌+◌, ◌<◌, ◌≤◌, Bool, true, false, ◌&&◌, cond, eqb, [], ◌∷◌, ◌++◌, length, Some, None, refl, sym, ap, subst, ◌∙◌, arith}
use Rattle.std.specs.Prelude.{Option, is_some}
use Rattle.std.specs.Option.{option_map_or}
use Rattle.std.specs.List.{sum_by, AllByRecursion}
use Rattle.std.specs.List.Sorted.{IsStrictlySortedBy}
use Rattle.std.specs.Map.{keys_of, values_of}
use Rattle.std.specs.BTreeMap.{is_at}
use Rattle.std.specs.Ordering.{nat_cmp, eq_by_cmp}
use Rattle.std.specs.declared.cmp.Ordering.TheVariants.{Less}
use Rattle.std.proofs.lemmas.Cmp.{nat_cmp_total, eq_by_cmp_equiv}
use Rattle.std.proofs.lemmas.Bool.{eqb-true, eq-eqb}
use Rattle.std.proofs.lemmas.List.{length-append}
use Rattle.std.proofs.lemmas.List.Sums.{sum_by-append, sum_by-cons}
use Rattle.std.proofs.lemmas.Map.{lookup-remove_entry, lookup-set_value}
use Rattle.std.proofs.lemmas.Map.Keys.{IsDistinct-from_sorted}
use Rattle.blip_frame.specs.Frame.{has_checksum}
use Rattle.blip_frame.specs.declared.frame.Kind.{Kind}
use Rattle.blip_frame.specs.declared.frame.Kind.TheVariants as kinds
use Rattle.blip_mux.specs.declared.class.Class.{Class}
use Rattle.blip_mux.specs.declared.class.Class.TheVariants as classes
use Rattle.blip_mux.specs.declared.ready.Ready.{Ready}
use Rattle.blip_mux.specs.Sending.{Waiting, may_send}
use Rattle.blip_mux.specs.inner.Class.{class_of, is_in, is_same}
use Rattle.blip_mux.specs.inner.Stamps.{times, same_flag}
use Rattle.blip_mux.specs.inner.Ready.{stamps_in, count_in, room_in}
use Rattle.blip_mux.specs.inner.Entries.{Entries, look, with_message, without}
use Rattle.blip_mux.specs.inner.Stamped.{is_message, turns, IsKept}
use Rattle.blip_mux.proofs.Listed.{at_is, at_same, at_other, AreBelow, are_below, below_without, values_last, some_none, parted}

-- ---- the keys of messages

pub self_same : (c : Class) (n : ℕ) → is_same c n c n ≡ true
self_same classes.Request n = eq-eqb n n refl
self_same classes.Reply n = eq-eqb n n refl

-- a fact of one key is one of a key that is the same
pub same_key : (c d : Class) (n m : ℕ) (P : Class → ℕ → Type 0) → is_same c n d m ≡ true → P c n → P d m
same_key classes.Request classes.Request n m P e p = subst (P classes.Request) (eqb-true n m e) p
same_key classes.Reply classes.Reply n m P e p = subst (P classes.Reply) (eqb-true n m e) p
same_key classes.Request classes.Reply n m P e p = absurd cc
same_key classes.Reply classes.Request n m P e p = absurd cc

pub its_key : (k : Kind) (m : ℕ) (c : Class) (n : ℕ) → (is_in c k && eqb m n) ≡ true → is_same (class_of k) m c n ≡ true
its_key kinds.Msg m classes.Request n e = e
its_key kinds.Rpy m classes.Request n e = absurd cc
its_key kinds.Err m classes.Request n e = absurd cc
its_key kinds.AckMsg m classes.Request n e = absurd cc
its_key kinds.AckRpy m classes.Request n e = absurd cc
its_key kinds.Msg m classes.Reply n e = absurd cc
its_key kinds.Rpy m classes.Reply n e = e
its_key kinds.Err m classes.Reply n e = e
its_key kinds.AckMsg m classes.Reply n e = absurd cc
its_key kinds.AckRpy m classes.Reply n e = absurd cc

pub own_key : (k : Kind) (m : ℕ) → has_checksum k ≡ true → (is_in (class_of k) k && eqb m m) ≡ true
own_key kinds.Msg m e = eq-eqb m m refl
own_key kinds.Rpy m e = eq-eqb m m refl
own_key kinds.Err m e = eq-eqb m m refl
own_key kinds.AckMsg m e = absurd cc
own_key kinds.AckRpy m e = absurd cc

-- ---- the messages of stamps

pub look_last : (s : ℕ) (w : Waiting) (es : Entries) → AreBelow s es → (q : ℕ) → look (es ++ (s, w) ∷ []) q ≡ cond (is_at (nat_cmp s) q) (Some w) (look es q)
look_last s w [] below q = ap (λ (b : Bool). cond b (Some w) None) (turned s q) where
  turned : (s q : ℕ) → is_at (nat_cmp q) s ≡ is_at (nat_cmp s) q
  turned s q = (eq_by_cmp_equiv nat_cmp_total).symm q s
look_last s w (e ∷ es) below q = go (is_at (nat_cmp q) e.0) (λ t. eqb-true q e.0 (sym (at_is q e.0) ∙ t)) (look_last s w es below.1 q) where
  go : (b : Bool) → (b ≡ true → q ≡ e.0) → look (es ++ (s, w) ∷ []) q ≡ cond (is_at (nat_cmp s) q) (Some w) (look es q)
      → cond b (Some e.1) (look (es ++ (s, w) ∷ []) q) ≡ cond (is_at (nat_cmp s) q) (Some w) (cond b (Some e.1) (look es q))
  go true same rest = ap (λ (b : Bool). cond b (Some w) (Some e.1)) (sym (at_other s q (λ x. absurd (let h = same refl in let k = below.0 in omega arith))))
  go false same rest = rest

one_test : (s x y : ℕ) → is_at (nat_cmp s) x ≡ true → is_at (nat_cmp s) y ≡ eq_by_cmp nat_cmp x y
one_test s x y t = ap (λ n. is_at (nat_cmp n) y) (eqb-true s x (sym (at_is s x) ∙ t))

pub look_without : (s : ℕ) (es : Entries) → IsStrictlySortedBy nat_cmp (keys_of es) → (q : ℕ) → look (without s es) q ≡ cond (is_at (nat_cmp s) q) None (look es q)
look_without s es sorted q = lookup-remove_entry (eq_by_cmp_equiv nat_cmp_total) (is_at (nat_cmp s)) (one_test s) q es (IsDistinct-from_sorted nat_cmp (keys_of es) sorted)

pub look_with : (s : ℕ) (w v : Waiting) (es : Entries) → look es s ≡ Some w → (q : ℕ) → look (with_message s es v) q ≡ cond (is_at (nat_cmp s) q) (Some v) (look es q)
look_with s w v es at q = lookup-set_value (eq_by_cmp_equiv nat_cmp_total) (is_at (nat_cmp s)) (one_test s) q v es (ap is_some at)

pub length_without : (s : ℕ) (w : Waiting) (es : Entries) → IsStrictlySortedBy nat_cmp (keys_of es) → look es s ≡ Some w → length (without s es) + 1 ≡ length es
length_without s w es sorted at =
    let cut = parted s w es sorted at in
    let a = length-append cut.front cut.rear in
    let b = length-append cut.front ((s, w) ∷ cut.rear) in
    let c = ap (λ (xs : Entries). length xs) cut.whole in
    let d = ap (λ (xs : Entries). length xs) cut.others in
    omega arith

pub sorted_front : (xs ys : Entries) → IsStrictlySortedBy nat_cmp (keys_of (xs ++ ys)) → IsStrictlySortedBy nat_cmp (keys_of xs)
unfolding IsStrictlySortedBy
sorted_front [] ys s = tt
sorted_front (x ∷ xs) ys s = (fewer xs s.0, sorted_front xs ys s.1) where
  fewer : (xs : Entries) → AllByRecursion (λ y. nat_cmp x.0 y ≡ Less) (keys_of (xs ++ ys)) → AllByRecursion (λ y. nat_cmp x.0 y ≡ Less) (keys_of xs)
  fewer [] all = tt
  fewer (z ∷ zs) all = (all.0, fewer zs all.1)

-- ---- a message comes

module _ (es es' : Entries) (s next : ℕ) (w : Waiting) (at at' : Class → ℕ → Option ℕ) (r r' : Ready) where
  abbrev Indexes : Type 0
  Indexes = (c : Class) (n : ℕ) → at' c n ≡ cond (is_same (class_of w.kind) w.number c n) (Some s) (at c n)

  found_put : IsKept es s at r → has_checksum w.kind ≡ true → es' ≡ es ++ (s, w) ∷ [] → Indexes
      → (c : Class) (n q : ℕ) → at' c n ≡ Some q → (x : Waiting) × (look es' q ≡ Some x) × (is_message c n x ≡ true)
  found_put kept own e indexes c n q has = go (is_same (class_of w.kind) w.number c n) refl (sym (indexes c n) ∙ has) where
    looks : (q : ℕ) → look es' q ≡ cond (is_at (nat_cmp s) q) (Some w) (look es q)
    looks q = ap (λ (xs : Entries). look xs q) e ∙ look_last s w es (are_below s es kept.sorted kept.below) q

    go : (b : Bool) → is_same (class_of w.kind) w.number c n ≡ b → cond b (Some s) (at c n) ≡ Some q → (x : Waiting) × (look es' q ≡ Some x) × (is_message c n x ≡ true)
    go true is same =
        let it : s ≡ q = cc in
        (w, looks q ∙ ap (λ (b : Bool). cond b (Some w) (look es q)) (at_same s q it), same_key (class_of w.kind) c w.number n (λ d m. is_message d m w ≡ true) is (own_key w.kind w.number own))
    go false is same =
        let old = kept.found c n q same in
        (old.0, looks q ∙ ap (λ (b : Bool). cond b (Some w) (look es q)) (at_other s q (λ it. absurd (let gone = kept.below q (omega arith) in let there = old.1 in cc))) ∙ old.1, old.2)

  known_put : IsKept es s at r → at (class_of w.kind) w.number ≡ None → es' ≡ es ++ (s, w) ∷ [] → Indexes
      → (c : Class) (n q : ℕ) (x : Waiting) → look es' q ≡ Some x → is_message c n x ≡ true → at' c n ≡ Some q
  known_put kept absent e indexes c n q x there is = go (is_at (nat_cmp s) q) (λ t. eqb-true s q (sym (at_is s q) ∙ t)) (sym looks ∙ there) where
    looks : look es' q ≡ cond (is_at (nat_cmp s) q) (Some w) (look es q)
    looks = ap (λ (xs : Entries). look xs q) e ∙ look_last s w es (are_below s es kept.sorted kept.below) q

    old : (b : Bool) → is_same (class_of w.kind) w.number c n ≡ b → at c n ≡ Some q → cond b (Some s) (at c n) ≡ Some q
    old true same known = some_none (sym known ∙ same_key (class_of w.kind) c w.number n (λ d m. at d m ≡ None) same absent)
    old false same known = known

    go : (b : Bool) → (b ≡ true → s ≡ q) → cond b (Some w) (look es q) ≡ Some x → at' c n ≡ Some q
    go true it got =
        let same : w ≡ x = cc in
        indexes c n ∙ ap (λ (b : Bool). cond b (Some s) (at c n)) (its_key w.kind w.number c n (ap (is_message c n) same ∙ is)) ∙ ap Some (it refl)
    go false it got = indexes c n ∙ old (is_same (class_of w.kind) w.number c n) refl (kept.known c n q x got is)

  ready_put : IsKept es s at r → es' ≡ es ++ (s, w) ∷ []
      → ((u : Bool) (q : ℕ) → times q (stamps_in u r') ≡ cond ((same_flag w.urgent u && may_send w) && eqb s q) 1 0 + times q (stamps_in u r))
      → (u : Bool) (q : ℕ) → times q (stamps_in u r') ≡ option_map_or (turns u) (look es' q) 0
  ready_put kept e more u q = more u q ∙ ap (λ n. cond ((same_flag w.urgent u && may_send w) && eqb s q) 1 0 + n) (kept.ready u q) ∙ go (eqb s q) (λ t. eqb-true s q t) ∙ ap (λ (o : Option Waiting). option_map_or (turns u) o 0) (sym looks) where
    looks : look es' q ≡ cond (eqb s q) (Some w) (look es q)
    looks = ap (λ (xs : Entries). look xs q) e ∙ look_last s w es (are_below s es kept.sorted kept.below) q ∙ ap (λ (b : Bool). cond b (Some w) (look es q)) (at_is s q)

    only : (m : Bool) → cond {A = ℕ} (m && true) 1 0 + 0 ≡ cond m 1 0
    only true = refl
    only false = refl

    none : (m : Bool) (n : ℕ) → cond {A = ℕ} (m && false) 1 0 + n ≡ n
    none true n = omega arith
    none false n = omega arith

    go : (b : Bool) → (b ≡ true → s ≡ q) → cond ((same_flag w.urgent u && may_send w) && b) 1 0 + option_map_or (turns u) (look es q) 0 ≡ option_map_or (turns u) (cond b (Some w) (look es q)) 0
    go true it =
        ap (λ (o : Option Waiting). cond ((same_flag w.urgent u && may_send w) && true) 1 0 + option_map_or (turns u) o 0) (kept.below q (let h = it refl in omega arith))
        ∙ only (same_flag w.urgent u && may_send w)
    go false it = none (same_flag w.urgent u && may_send w) (option_map_or (turns u) (look es q) 0)

  pub put_kept : IsKept es s at r → has_checksum w.kind ≡ true → at (class_of w.kind) w.number ≡ None → es' ≡ es ++ (s, w) ∷ [] → IsStrictlySortedBy nat_cmp (keys_of es') → Indexes
      → ((u : Bool) (q : ℕ) → times q (stamps_in u r') ≡ cond ((same_flag w.urgent u && may_send w) && eqb s q) 1 0 + times q (stamps_in u r))
      → ((u : Bool) → count_in u r' ≡ cond (same_flag w.urgent u && may_send w) 1 0 + count_in u r)
      → ((u : Bool) → length es' ≤ room_in u r') → next ≡ s + 1 → IsKept es' next at' r'
  put_kept kept own absent e sorted indexes more counts room above = record {
    sorted = sorted;
    below = below;
    found = found_put kept own e indexes;
    known = known_put kept absent e indexes;
    ready = ready_put kept e more;
    counted = counted;
    room = room;
  } where
    below : (q : ℕ) → next ≤ q → look es' q ≡ None
    below q past =
        ap (λ (xs : Entries). look xs q) e ∙ look_last s w es (are_below s es kept.sorted kept.below) q
        ∙ ap (λ (b : Bool). cond b (Some w) (look es q)) (at_other s q (λ it. absurd (omega arith)))
        ∙ kept.below q (omega arith)

    counted : (u : Bool) → count_in u r' ≡ sum_by (turns u) (values_of es')
    counted u =
        let a = counts u in
        let b = kept.counted u in
        let c = ap (λ (xs : Entries). sum_by (turns u) (values_of xs)) e ∙ ap (sum_by (turns u)) (values_last es s w) ∙ sum_by-append (turns u) (values_of es) (w ∷ []) in
        let d = sum_by-cons (turns u) w [] in
        omega arith

-- each message has one turn at most
pub turns_within : (u : Bool) (es : Entries) → sum_by (turns u) (values_of es) ≤ length es
turns_within u [] = omega arith
turns_within u (e ∷ es) =
    let rest = turns_within u es in
    let all = sum_by-cons (turns u) e.1 (values_of es) in
    let one = at_most (same_flag e.1.urgent u && may_send e.1) in
    omega arith where
      at_most : (b : Bool) → cond {A = ℕ} b 1 0 ≤ 1
      at_most true = omega arith
      at_most false = omega arith

pub put_kept_by : (es es' : Entries) (s next : ℕ) (w : Waiting) (class : Class) (number : ℕ) (urgent may : Bool) (at at' : Class → ℕ → Option ℕ) (r r' : Ready)
    → class ≡ class_of w.kind → number ≡ w.number → urgent ≡ w.urgent → may ≡ may_send w
    → IsKept es s at r → has_checksum w.kind ≡ true → at (class_of w.kind) w.number ≡ None → es' ≡ es ++ (s, w) ∷ [] → IsStrictlySortedBy nat_cmp (keys_of es')
    → ((c : Class) (n : ℕ) → at' c n ≡ cond (is_same class number c n) (Some s) (at c n))
    → ((u : Bool) (q : ℕ) → times q (stamps_in u r') ≡ cond ((same_flag urgent u && may) && eqb s q) 1 0 + times q (stamps_in u r))
    → ((u : Bool) → count_in u r' ≡ cond (same_flag urgent u && may) 1 0 + count_in u r)
    → ((u : Bool) → length es' ≤ room_in u r') → next ≡ s + 1 → IsKept es' next at' r'
put_kept_by es es' s next w class number urgent may at at' r r' class_is number_is urgent_is may_is kept own absent e sorted indexes more counts room above =
    put_kept es es' s next w at at' r r' kept own absent e sorted
    (λ c n. indexes c n ∙ ap (λ d. cond (is_same d number c n) (Some s) (at c n)) class_is ∙ ap (λ m. cond (is_same (class_of w.kind) m c n) (Some s) (at c n)) number_is)
    (λ u q. more u q ∙ ap (λ b. cond ((same_flag b u && may) && eqb s q) 1 0 + times q (stamps_in u r)) urgent_is ∙ ap (λ m. cond ((same_flag w.urgent u && m) && eqb s q) 1 0 + times q (stamps_in u r)) may_is)
    (λ u. counts u ∙ ap (λ b. cond (same_flag b u && may) 1 0 + count_in u r) urgent_is ∙ ap (λ m. cond (same_flag w.urgent u && m) 1 0 + count_in u r) may_is)
    room above

-- a message comes at the next stamp, where there is room for its turn
pub put_next : (es es' : Entries) (s : ℕ) (w : Waiting) (urgent may : Bool) (at at' : Class → ℕ → Option ℕ) (r r' : Ready)
    → urgent ≡ w.urgent → may ≡ may_send w
    → IsKept es s at r → has_checksum w.kind ≡ true → at (class_of w.kind) w.number ≡ None → ((u : Bool) → length es < room_in u r)
    → es' ≡ es ++ (s, w) ∷ [] → IsStrictlySortedBy nat_cmp (keys_of es')
    → ((c : Class) (n : ℕ) → at' c n ≡ cond (is_same (class_of w.kind) w.number c n) (Some s) (at c n))
    → ((u : Bool) (q : ℕ) → times q (stamps_in u r') ≡ cond ((same_flag urgent u && may) && eqb s q) 1 0 + times q (stamps_in u r))
    → ((u : Bool) → count_in u r' ≡ cond (same_flag urgent u && may) 1 0 + count_in u r)
    → ((u : Bool) → room_in u r ≤ room_in u r') → IsKept es' (s + 1) at' r'
put_next es es' s w urgent may at at' r r' urgent_is may_is kept own absent space put sorted indexes more counts room =
    put_kept_by es es' s (s + 1) w (class_of w.kind) w.number urgent may at at' r r' refl refl urgent_is may_is kept own absent put sorted indexes more counts
    (λ u. let a = space u in let b = room u in let c = ap (λ (xs : Entries). length xs) put in let d = length-append es ((s, w) ∷ []) in omega arith)
    refl

-- nothing of them changes
pub same_kept : (es es' : Entries) (next : ℕ) (at at' : Class → ℕ → Option ℕ) (r : Ready) → IsKept es next at r → es' ≡ es → ((c : Class) (n : ℕ) → at' c n ≡ at c n) → IsKept es' next at' r
same_kept es es' next at at' r kept e same = subst (λ (xs : Entries). IsKept xs next at' r) (sym e) (record {
  sorted = kept.sorted;
  below = kept.below;
  found = λ c n q has. kept.found c n q (sym (same c n) ∙ has);
  known = λ c n q w there is. same c n ∙ kept.known c n q w there is;
  ready = kept.ready;
  counted = kept.counted;
  room = kept.room;
})

-- a message that was moved to the next stamp is there
pub moved_there : (es es' : Entries) (s last : ℕ) (v : Waiting) (at : Class → ℕ → Option ℕ) (r : Ready) → IsKept es last at r → es' ≡ without s es ++ (last, v) ∷ [] → look es' last ≡ Some v
moved_there es es' s last v at r kept e =
    ap (λ (xs : Entries). look xs last) e ∙ look_last last v (without s es) (below_without last s es (are_below last es kept.sorted kept.below)) last
    ∙ ap (λ (b : Bool). cond b (Some v) (look (without s es) last)) (at_same last last refl)

-- there is room for the turn of a message whose turn was taken away
pub room_again : (es : Entries) (next : ℕ) (at : Class → ℕ → Option ℕ) (u : Bool) (r r' : Ready) → IsKept es next at r → count_in u r' + cond (same_flag u u) 1 0 ≡ count_in u r → room_in u r' ≡ room_in u r → count_in u r' < room_in u r'
room_again es next at u r r' kept less same =
    let one = own u in let counted = kept.counted u in let within = turns_within u es in let room = kept.room u in omega arith where
      own : (u : Bool) → cond {A = ℕ} (same_flag u u) 1 0 ≡ 1
      own true = refl
      own false = refl
