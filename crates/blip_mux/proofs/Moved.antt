-- Messages, their index and their turns, as a message goes or is put last again.
use Rattle.std.proofs.Common.{◌≡◌, ℕ, ◌+◌, ◌-◌, ◌<◌, ◌≤◌, Bool, true, false, ◌&&◌, cond, eqb, max, [], ◌∷◌, ◌++◌, length, Some, None, refl, sym, ap, subst, ◌∙◌, arith}
use Rattle.std.specs.Prelude.{Option, IsSome, Result, Ok, Err, OnOk, OnErr, not, option_map, unwrap_or}
use Rattle.std.specs.Option.{option_map_or}
use Rattle.std.specs.List.{sum_by}
use Rattle.std.specs.List.Sorted.{IsStrictlySortedBy}
use Rattle.std.specs.Map.{keys_of, values_of}
use Rattle.std.specs.BTreeMap.{is_at, insert_entry}
use Rattle.std.specs.Ordering.{nat_cmp}
use Rattle.std.proofs.lemmas.Bool.{eqb-true, le-leb, leb-true}
use Rattle.std.proofs.lemmas.List.{length-append}
use Rattle.std.proofs.lemmas.Map.Entries.{sum_by-remove_entry, sum_by-set_value}
use Rattle.blip_frame.specs.Frame.{has_checksum}
use Rattle.blip_mux.specs.declared.class.Class.{Class}
use Rattle.blip_mux.specs.declared.ready.Ready.{Ready}
use Rattle.blip_mux.specs.declared.ready.ReadyMessage.{ReadyMessage}
use Rattle.blip_mux.specs.Sending.{Waiting, may_send, pause_above, acked, without_piece}
use Rattle.blip_mux.specs.inner.Class.{class_of, is_same}
use Rattle.blip_mux.specs.inner.Stamps.{times, same_flag}
use Rattle.blip_mux.specs.inner.Ready.{stamps_in, count_in, room_in}
use Rattle.blip_mux.specs.inner.Entries.{Entries, look, with_message, without}
use Rattle.blip_mux.specs.inner.Stamped.{is_message, turns, IsKept}
use Rattle.blip_mux.proofs.Listed.{at_is, at_same, some_none, below_without, are_below, put_last, put_over, without_last, without_front, parted}
use Rattle.blip_mux.proofs.Cuts.{some_same}
use Rattle.blip_mux.proofs.Kept.{self_same, same_key, its_key, own_key, look_last, look_without, look_with, length_without, sorted_front, turns_within, put_kept_by}

-- ---- a message goes

module _ (es es' : Entries) (s next : ℕ) (w : Waiting) (at at' : Class → ℕ → Option ℕ) (r r' : Ready) (kept : IsKept es next at r) (own : has_checksum w.kind ≡ true) (there : look es s ≡ Some w)
    (e : es' ≡ without s es) (indexes : (c : Class) (n : ℕ) → at' c n ≡ cond (is_same (class_of w.kind) w.number c n) None (at c n)) where
  looks : (q : ℕ) → look es' q ≡ cond (is_at (nat_cmp s) q) None (look es q)
  looks q = ap (λ (xs : Entries). look xs q) e ∙ look_without s es kept.sorted q

  found_drop : (c : Class) (n q : ℕ) → at' c n ≡ Some q → (x : Waiting) × (look es' q ≡ Some x) × (is_message c n x ≡ true)
  found_drop c n q has = go (is_same (class_of w.kind) w.number c n) refl (sym (indexes c n) ∙ has) where
    other : (x : Waiting) → look es q ≡ Some x → is_message c n x ≡ true → is_same (class_of w.kind) w.number c n ≡ false → (b : Bool) → is_at (nat_cmp s) q ≡ b → b ≡ false
    other x at is differs false t = refl
    other x at is differs true t =
        let it : s ≡ q = eqb-true s q (sym (at_is s q) ∙ t) in
        let same : Some w ≡ Some x = sym there ∙ ap (look es) it ∙ at in
        let its : w ≡ x = cc in
        absurd (let h = its_key w.kind w.number c n (ap (is_message c n) its ∙ is) in cc)

    go : (b : Bool) → is_same (class_of w.kind) w.number c n ≡ b → cond b None (at c n) ≡ Some q → (x : Waiting) × (look es' q ≡ Some x) × (is_message c n x ≡ true)
    go true is same = absurd cc
    go false is same =
        let old = kept.found c n q same in
        (old.0, looks q ∙ ap (λ (b : Bool). cond b None (look es q)) (other old.0 old.1 old.2 is (is_at (nat_cmp s) q) refl) ∙ old.1, old.2)

  known_drop : (c : Class) (n q : ℕ) (x : Waiting) → look es' q ≡ Some x → is_message c n x ≡ true → at' c n ≡ Some q
  known_drop c n q x at_q is = go (is_at (nat_cmp s) q) refl (sym (looks q) ∙ at_q) where
    other : (b : Bool) → is_same (class_of w.kind) w.number c n ≡ b → is_at (nat_cmp s) q ≡ false → at c n ≡ Some q → cond b None (at c n) ≡ Some q
    other false t off known = known
    other true t off known =
        let its : at (class_of w.kind) w.number ≡ Some s = kept.known (class_of w.kind) w.number s w there (own_key w.kind w.number own) in
        let here : at c n ≡ Some s = same_key (class_of w.kind) c w.number n (λ d m. at d m ≡ Some s) t its in
        let it : s ≡ q = cc in
        absurd (let h = at_same s q it in cc)

    go : (b : Bool) → is_at (nat_cmp s) q ≡ b → cond b None (look es q) ≡ Some x → at' c n ≡ Some q
    go true t got = absurd cc
    go false t got = indexes c n ∙ other (is_same (class_of w.kind) w.number c n) refl t (kept.known c n q x got is)

  ready_drop : ((u : Bool) (q : ℕ) → times q (stamps_in u r') + cond ((same_flag w.urgent u && may_send w) && eqb s q) 1 0 ≡ times q (stamps_in u r))
      → (u : Bool) (q : ℕ) → times q (stamps_in u r') ≡ option_map_or (turns u) (look es' q) 0
  ready_drop less u q =
      go (eqb s q) (λ t. ap (look es) (sym (eqb-true s q t)) ∙ there) (less u q ∙ kept.ready u q)
      ∙ ap (λ (o : Option Waiting). option_map_or (turns u) o 0) (sym (looks q ∙ ap (λ (b : Bool). cond b None (look es q)) (at_is s q))) where
        only : (m : Bool) (t : ℕ) → t + cond (m && true) 1 0 ≡ cond m 1 0 → t ≡ 0
        only true t h = omega arith
        only false t h = omega arith

        none : (m : Bool) (t n : ℕ) → t + cond (m && false) 1 0 ≡ n → t ≡ n
        none true t n h = omega arith
        none false t n h = omega arith

        go : (b : Bool) → (b ≡ true → look es q ≡ Some w) → times q (stamps_in u r') + cond ((same_flag w.urgent u && may_send w) && b) 1 0 ≡ option_map_or (turns u) (look es q) 0
            → times q (stamps_in u r') ≡ option_map_or (turns u) (cond b None (look es q)) 0
        go true it h = only (same_flag w.urgent u && may_send w) (times q (stamps_in u r')) (h ∙ ap (λ (o : Option Waiting). option_map_or (turns u) o 0) (it refl))
        go false it h = none (same_flag w.urgent u && may_send w) (times q (stamps_in u r')) (option_map_or (turns u) (look es q) 0) h

  pub drop_kept : IsStrictlySortedBy nat_cmp (keys_of es')
      → ((u : Bool) (q : ℕ) → times q (stamps_in u r') + cond ((same_flag w.urgent u && may_send w) && eqb s q) 1 0 ≡ times q (stamps_in u r))
      → ((u : Bool) → count_in u r' + cond (same_flag w.urgent u && may_send w) 1 0 ≡ count_in u r)
      → ((u : Bool) → room_in u r' ≡ room_in u r) → IsKept es' next at' r'
  drop_kept sorted less counts room = record {
    sorted = sorted;
    below = λ q past. looks q ∙ none (is_at (nat_cmp s) q) (look es q) (kept.below q past);
    found = found_drop;
    known = known_drop;
    ready = ready_drop less;
    counted = counted;
    room = λ u. let a = kept.room u in let b = room u in let c = length_without s w es kept.sorted there in let d = ap (λ (xs : Entries). length xs) e in omega arith;
  } where
    none : (b : Bool) (o : Option Waiting) → o ≡ None → cond b None o ≡ None
    none true o h = refl
    none false o h = h

    counted : (u : Bool) → count_in u r' ≡ sum_by (turns u) (values_of es')
    counted u =
        let a = counts u in
        let b = kept.counted u in
        let c = sum_by-remove_entry (turns u) (is_at (nat_cmp s)) es in
        let d = ap (λ (o : Option Waiting). unwrap_or (option_map (turns u) o) 0) there in
        let f = ap (λ (xs : Entries). sum_by (turns u) (values_of xs)) e in
        omega arith

-- the clauses of a turn that goes, of a message that may send
pub with_may : (urgent m : Bool) (s q : ℕ) (t n : ℕ) → m ≡ true → t + cond (urgent && eqb s q) 1 0 ≡ n → t + cond ((urgent && m) && eqb s q) 1 0 ≡ n
with_may true m s q t n may e = ap (λ (b : Bool). t + cond (b && eqb s q) 1 0) may ∙ e
with_may false m s q t n may e = e

pub count_may : (urgent m : Bool) (t n : ℕ) → m ≡ true → t + cond urgent 1 0 ≡ n → t + cond (urgent && m) 1 0 ≡ n
count_may true m t n may e = ap (λ (b : Bool). t + cond b 1 0) may ∙ e
count_may false m t n may e = e

pub turn_kept : (es es' : Entries) (next : ℕ) (w : Waiting) (turn : ReadyMessage) (at at' : Class → ℕ → Option ℕ) (r r' : Ready) → IsKept es next at r → has_checksum w.kind ≡ true → look es turn.stamp ≡ Some w
    → w.urgent ≡ turn.urgent → may_send w ≡ true → es' ≡ without turn.stamp es → ((c : Class) (n : ℕ) → at' c n ≡ cond (is_same (class_of w.kind) w.number c n) None (at c n))
    → IsStrictlySortedBy nat_cmp (keys_of es')
    → ((u : Bool) (q : ℕ) → times q (stamps_in u r') + cond (same_flag turn.urgent u && eqb turn.stamp q) 1 0 ≡ times q (stamps_in u r))
    → ((u : Bool) → count_in u r' + cond (same_flag turn.urgent u) 1 0 ≡ count_in u r)
    → ((u : Bool) → room_in u r' ≡ room_in u r) → IsKept es' next at' r'
turn_kept es es' next w turn at at' r r' kept own there mark may e indexes sorted less counts room =
    drop_kept es es' turn.stamp next w at at' r r' kept own there e indexes sorted
    (λ u q. with_may (same_flag w.urgent u) (may_send w) turn.stamp q (times q (stamps_in u r')) (times q (stamps_in u r)) may
    (ap (λ b. times q (stamps_in u r') + cond (same_flag b u && eqb turn.stamp q) 1 0) mark ∙ less u q))
    (λ u. count_may (same_flag w.urgent u) (may_send w) (count_in u r') (count_in u r) may (ap (λ b. count_in u r' + cond (same_flag b u) 1 0) mark ∙ counts u))
    room

-- ---- a message is put last again

pub present_ok : {A E P : Type 0} {X : Type 0} {v : X} (o : Option X) (r : Result A E) → o ≡ Some v → OnErr r (o ≡ None) → OnOk r P → P
present_ok o (Ok x) there absent p = p
present_ok o (Err e) there absent p = some_none (sym there ∙ absent)

-- what stands at the numbers of the other messages
abbrev at_others : Waiting → (Class → ℕ → Option ℕ) → Class → ℕ → Option ℕ
at_others w at c n = cond (is_same (class_of w.kind) w.number c n) None (at c n)

pub move_kept : (es es' : Entries) (last next : ℕ) (w : Waiting) (turn : ReadyMessage) (class : Class) (number : ℕ) (urgent may_then : Bool) (at at' : Class → ℕ → Option ℕ) (r r' r'' : Ready)
    → class ≡ class_of w.kind → number ≡ w.number → urgent ≡ w.urgent → may_then ≡ may_send (without_piece w)
    → IsKept es last at r → has_checksum w.kind ≡ true → look es turn.stamp ≡ Some w → w.urgent ≡ turn.urgent → may_send w ≡ true
    → es' ≡ without turn.stamp es ++ (last, without_piece w) ∷ [] → IsStrictlySortedBy nat_cmp (keys_of (without turn.stamp es)) → IsStrictlySortedBy nat_cmp (keys_of es')
    → ((c : Class) (n : ℕ) → at' c n ≡ cond (is_same class number c n) (Some last) (at c n))
    → ((u : Bool) (q : ℕ) → times q (stamps_in u r') + cond (same_flag turn.urgent u && eqb turn.stamp q) 1 0 ≡ times q (stamps_in u r))
    → ((u : Bool) → count_in u r' + cond (same_flag turn.urgent u) 1 0 ≡ count_in u r)
    → ((u : Bool) → room_in u r' ≡ room_in u r)
    → ((u : Bool) (q : ℕ) → times q (stamps_in u r'') ≡ cond ((same_flag urgent u && may_then) && eqb last q) 1 0 + times q (stamps_in u r'))
    → ((u : Bool) → count_in u r'' ≡ cond (same_flag urgent u && may_then) 1 0 + count_in u r')
    → ((u : Bool) → room_in u r' ≤ room_in u r'') → next ≡ last + 1 → IsKept es' next at' r''
move_kept es es' last next w turn class number urgent may_then at at' r r' r'' class_is number_is urgent_is may_is kept own there mark may e sorted_others sorted indexes less counts room more counts' room' above =
    put_kept_by (without turn.stamp es) es' last next (without_piece w) class number urgent may_then (at_others w at) at' r' r'' class_is number_is urgent_is may_is
    (turn_kept es (without turn.stamp es) last w turn at (at_others w at) r r' kept own there mark may refl (λ c n. refl) sorted_others less counts room)
    own (ap (λ (b : Bool). cond b None (at (class_of w.kind) w.number)) (self_same (class_of w.kind) w.number)) e sorted
    (λ c n. indexes c n ∙ both (is_same class number c n) (is_same (class_of w.kind) w.number c n) (at c n) (ap (λ d. is_same d number c n) class_is ∙ ap (λ m. is_same (class_of w.kind) m c n) number_is))
    more counts'
    (λ u. let a = kept.room u in let b = room u in let d = room' u in let f = length_without turn.stamp w es kept.sorted there in
    let g = ap (λ (xs : Entries). length xs) e in let h = length-append (without turn.stamp es) ((last, without_piece w) ∷ []) in omega arith)
    above where
      both : (a b : Bool) (o : Option ℕ) → a ≡ b → cond a (Some last) o ≡ cond a (Some last) (cond b None o)
      both true b o same = refl
      both false b o same = ap (λ (x : Bool). cond x None o) same

-- the same of a message that stands last already
pub follow_kept : (es es' : Entries) (last : ℕ) (w v : Waiting) (turn : ReadyMessage) (class : Class) (number : ℕ) (may_then : Bool) {A E : Type 0} (stood : Result A E) (at at' : Class → ℕ → Option ℕ) (r r' r'' : Ready)
    → v ≡ without_piece w → class ≡ class_of v.kind → number ≡ v.number → may_then ≡ may_send v → has_checksum v.kind ≡ true
    → IsKept es last at r → look es turn.stamp ≡ Some w → w.urgent ≡ turn.urgent → may_send w ≡ true
    → es' ≡ without turn.stamp es ++ (last, without_piece w) ∷ [] → IsStrictlySortedBy nat_cmp (keys_of es')
    → OnErr stood (at class number ≡ None) → OnOk stood ((c : Class) (n : ℕ) → at' c n ≡ cond (is_same class number c n) (Some last) (at c n))
    → ((u : Bool) (q : ℕ) → times q (stamps_in u r') + cond (same_flag turn.urgent u && eqb turn.stamp q) 1 0 ≡ times q (stamps_in u r))
    → ((u : Bool) → count_in u r' + cond (same_flag turn.urgent u) 1 0 ≡ count_in u r)
    → ((u : Bool) → room_in u r' ≡ room_in u r)
    → ((u : Bool) (q : ℕ) → times q (stamps_in u r'') ≡ cond ((same_flag turn.urgent u && may_then) && eqb last q) 1 0 + times q (stamps_in u r'))
    → ((u : Bool) → count_in u r'' ≡ cond (same_flag turn.urgent u && may_then) 1 0 + count_in u r')
    → ((u : Bool) → room_in u r' ≤ room_in u r'') → IsKept es' (last + 1) at' r''
follow_kept es es' last w v turn class number may_then stood at at' r r' r'' its class_is number_is may_is own kept there mark may e sorted absent put less counts room more counts' room' =
    move_kept es es' last (last + 1) w turn class number turn.urgent may_then at at' r r' r'' class_so number_so (sym mark) (may_is ∙ ap may_send its) kept own_so there mark may e
    (sorted_front (without turn.stamp es) ((last, without_piece w) ∷ []) (subst (λ (xs : Entries). IsStrictlySortedBy nat_cmp (keys_of xs)) e sorted)) sorted
    (present_ok (at class number) stood known absent put) less counts room more counts' room' refl where
      own_so : has_checksum w.kind ≡ true
      own_so = subst (λ (x : Waiting). has_checksum x.kind ≡ true) its own

      class_so : class ≡ class_of w.kind
      class_so = class_is ∙ ap (λ (x : Waiting). class_of x.kind) its

      number_so : number ≡ w.number
      number_so = number_is ∙ ap (λ (x : Waiting). x.number) its

      known : at class number ≡ Some turn.stamp
      known = ap (λ d. at d number) class_so ∙ ap (at (class_of w.kind)) number_so ∙ kept.known (class_of w.kind) w.number turn.stamp w there (own_key w.kind w.number own_so)

-- the index without a number of a class, where they are those of a message
pub removes : (class : Class) (number : ℕ) (w : Waiting) (at at' : Class → ℕ → Option ℕ) → class ≡ class_of w.kind → number ≡ w.number
    → ((c : Class) (n : ℕ) → at' c n ≡ cond (is_same class number c n) None (at c n)) → (c : Class) (n : ℕ) → at' c n ≡ cond (is_same (class_of w.kind) w.number c n) None (at c n)
removes class number w at at' class_is number_is indexes c n =
    indexes c n ∙ ap (λ d. cond (is_same d number c n) None (at c n)) class_is ∙ ap (λ m. cond (is_same (class_of w.kind) m c n) None (at c n)) number_is

-- ---- a place is made for a message before it is moved there

pub some_there : (o : Option Waiting) → IsSome o → (w : Waiting) × (o ≡ Some w)
some_there None h = absurd cc
some_there (Some w) h = (w, refl)

pub is_there : (o : Option Waiting) (w : Waiting) → o ≡ Some w → IsSome o
is_there None w e = some_none (sym e)
is_there (Some x) w e = refl

look_front : (s : ℕ) (w : Waiting) (es ys : Entries) → look es s ≡ Some w → look (es ++ ys) s ≡ Some w
look_front s w [] ys at = absurd cc
look_front s w (e ∷ es) ys at = go (is_at (nat_cmp s) e.0) at (λ h. look_front s w es ys h) where
  go : (b : Bool) → cond b (Some e.1) (look es s) ≡ Some w → (look es s ≡ Some w → look (es ++ ys) s ≡ Some w) → cond b (Some e.1) (look (es ++ ys) s) ≡ Some w
  go true at rest = at
  go false at rest = rest at

module _ (es placed : Entries) (last : ℕ) (empty : Waiting) (sorted : IsStrictlySortedBy nat_cmp (keys_of es)) (none : (q : ℕ) → last ≤ q → look es q ≡ None) (place : placed ≡ insert_entry nat_cmp es last empty) where
  with_place : placed ≡ es ++ (last, empty) ∷ []
  with_place = place ∙ put_last last empty es (are_below last es sorted none)

  pub place_gone : without last placed ≡ es
  place_gone = ap (without last) with_place ∙ without_last last empty es (are_below last es sorted none)

  pub still_there : (s : ℕ) (w : Waiting) → look es s ≡ Some w → look placed s ≡ Some w
  still_there s w at = ap (λ (xs : Entries). look xs s) with_place ∙ look_front s w es ((last, empty) ∷ []) at

  pub others_placed : (s : ℕ) (w : Waiting) → look es s ≡ Some w → without s placed ≡ without s es ++ (last, empty) ∷ []
  others_placed s w at = ap (without s) with_place ∙ without_front s w es ((last, empty) ∷ []) at

  pub place_there : (s : ℕ) (w : Waiting) → look es s ≡ Some w → look (without s placed) last ≡ Some empty
  place_there s w at =
      ap (λ (xs : Entries). look xs last) (others_placed s w at) ∙ look_last last empty (without s es) (below_without last s es (are_below last es sorted none)) last
      ∙ ap (λ (b : Bool). cond b (Some empty) (look (without s es) last)) (at_same last last refl)

  pub put_in_place : (s : ℕ) (w v : Waiting) → look es s ≡ Some w → insert_entry nat_cmp (without s placed) last v ≡ without s es ++ (last, v) ∷ []
  put_in_place s w v at =
      ap (λ (xs : Entries). insert_entry nat_cmp xs last v) (others_placed s w at) ∙ put_over last empty v (without s es) (below_without last s es (are_below last es sorted none))

-- ---- an acknowledgement has come

-- what an acknowledgement adds to the turns of a message: one where the message paused
released : (bytes : ℕ) (w : Waiting) → may_send w ≡ true → may_send (acked bytes w) ≡ true
released bytes w may = le-leb (w.sent - max bytes w.acknowledged) pause_above (let h = leb-true (w.sent - w.acknowledged) pause_above may in omega arith)

turns_more : (u m n : Bool) → (m ≡ true → n ≡ true) → cond {A = ℕ} (u && n) 1 0 ≡ cond (u && (not m && n)) 1 0 + cond (u && m) 1 0
turns_more true true true on = refl
turns_more true true false on = absurd (let h = on refl in cc)
turns_more true false true on = refl
turns_more true false false on = refl
turns_more false m n on = refl

pub more_turns : (bytes : ℕ) (w : Waiting) (u : Bool) → turns u (acked bytes w) ≡ cond (same_flag w.urgent u && (not (may_send w) && may_send (acked bytes w))) 1 0 + turns u w
more_turns bytes w u = turns_more (same_flag w.urgent u) (may_send w) (may_send (acked bytes w)) (released bytes w)

module _ (es es' : Entries) (s next : ℕ) (w : Waiting) (bytes : ℕ) (at : Class → ℕ → Option ℕ) (r r' : Ready) (kept : IsKept es next at r) (there : look es s ≡ Some w) (e : es' ≡ with_message s es (acked bytes w)) where
  as_long : length es' ≡ length es
  as_long =
      let cut = parted s w es kept.sorted there in
      let a = ap (λ (xs : Entries). length xs) (e ∙ cut.changed (acked bytes w)) in
      let b = ap (λ (xs : Entries). length xs) cut.whole in
      let c = length-append cut.front ((s, w) ∷ cut.rear) in
      let d = length-append cut.front ((s, acked bytes w) ∷ cut.rear) in
      omega arith

  looks_acked : (q : ℕ) → look es' q ≡ cond (is_at (nat_cmp s) q) (Some (acked bytes w)) (look es q)
  looks_acked q = ap (λ (xs : Entries). look xs q) e ∙ look_with s w (acked bytes w) es there q

  summed : (u : Bool) → sum_by (turns u) (values_of es') + turns u w ≡ sum_by (turns u) (values_of es) + turns u (acked bytes w)
  summed u = ap (λ (xs : Entries). sum_by (turns u) (values_of xs) + turns u w) e ∙ sum_by-set_value (turns u) (is_at (nat_cmp s)) es w (acked bytes w) there

  -- there is room for the turn of a message that paused
  pub room_for : (not (may_send w) && may_send (acked bytes w)) ≡ true → count_in w.urgent r < room_in w.urgent r
  room_for off =
      let a = summed w.urgent in
      let b = more_turns bytes w w.urgent in
      let c = turns_within w.urgent es' in
      let d = kept.counted w.urgent in
      let f = kept.room w.urgent in
      let g = as_long in
      let h = ap (λ (b : Bool). cond {A = ℕ} b 1 0) (own_flag w.urgent (not (may_send w) && may_send (acked bytes w)) ∙ off) in
      omega arith where
        own_flag : (u m : Bool) → (same_flag u u && m) ≡ m
        own_flag true m = refl
        own_flag false m = refl

  pub acked_kept : IsStrictlySortedBy nat_cmp (keys_of es')
      → ((u : Bool) (q : ℕ) → times q (stamps_in u r') ≡ cond ((same_flag w.urgent u && (not (may_send w) && may_send (acked bytes w))) && eqb s q) 1 0 + times q (stamps_in u r))
      → ((u : Bool) → count_in u r' ≡ cond (same_flag w.urgent u && (not (may_send w) && may_send (acked bytes w))) 1 0 + count_in u r)
      → ((u : Bool) → room_in u r ≤ room_in u r') → IsKept es' next at r'
  acked_kept sorted more counts room = record {
    sorted = sorted;
    below = below;
    found = found;
    known = known;
    ready = ready;
    counted = λ u. let a = counts u in let b = kept.counted u in let c = summed u in let d = more_turns bytes w u in omega arith;
    room = λ u. let a = kept.room u in let b = room u in let c = as_long in omega arith;
  } where
    below : (q : ℕ) → next ≤ q → look es' q ≡ None
    below q past = looks_acked q ∙ go (is_at (nat_cmp s) q) (λ t. eqb-true s q (sym (at_is s q) ∙ t)) where
      go : (b : Bool) → (b ≡ true → s ≡ q) → cond b (Some (acked bytes w)) (look es q) ≡ None
      go true it = some_none (sym there ∙ ap (look es) (it refl) ∙ kept.below q past)
      go false it = kept.below q past

    found : (c : Class) (n q : ℕ) → at c n ≡ Some q → (x : Waiting) × (look es' q ≡ Some x) × (is_message c n x ≡ true)
    found c n q has = go (is_at (nat_cmp s) q) (λ t. eqb-true s q (sym (at_is s q) ∙ t)) (looks_acked q) where
      go : (b : Bool) → (b ≡ true → s ≡ q) → look es' q ≡ cond b (Some (acked bytes w)) (look es q) → (x : Waiting) × (look es' q ≡ Some x) × (is_message c n x ≡ true)
      go true it at_q =
          let old = kept.found c n q has in
          let same : Some w ≡ Some old.0 = sym there ∙ ap (look es) (it refl) ∙ old.1 in
          (acked bytes w, at_q, ap (is_message c n) (some_same w old.0 same) ∙ old.2)
      go false it at_q = let old = kept.found c n q has in (old.0, at_q ∙ old.1, old.2)

    known : (c : Class) (n q : ℕ) (x : Waiting) → look es' q ≡ Some x → is_message c n x ≡ true → at c n ≡ Some q
    known c n q x at_q is = go (is_at (nat_cmp s) q) (λ t. eqb-true s q (sym (at_is s q) ∙ t)) (sym (looks_acked q) ∙ at_q) where
      go : (b : Bool) → (b ≡ true → s ≡ q) → cond b (Some (acked bytes w)) (look es q) ≡ Some x → at c n ≡ Some q
      go true it got = kept.known c n q w (ap (look es) (sym (it refl)) ∙ there) (ap (is_message c n) (some_same (acked bytes w) x got) ∙ is)
      go false it got = kept.known c n q x got is

    ready : (u : Bool) (q : ℕ) → times q (stamps_in u r') ≡ option_map_or (turns u) (look es' q) 0
    ready u q = more u q ∙ ap (λ n. cond ((same_flag w.urgent u && (not (may_send w) && may_send (acked bytes w))) && eqb s q) 1 0 + n) (kept.ready u q)
        ∙ go (eqb s q) (λ t. eqb-true s q t) ∙ ap (λ (o : Option Waiting). option_map_or (turns u) o 0) (sym (looks_acked q ∙ ap (λ (b : Bool). cond b (Some (acked bytes w)) (look es q)) (at_is s q))) where
          on : (m : Bool) → cond {A = ℕ} (m && true) 1 0 ≡ cond m 1 0
          on true = refl
          on false = refl

          off : (m : Bool) (n : ℕ) → cond {A = ℕ} (m && false) 1 0 + n ≡ n
          off true n = omega arith
          off false n = omega arith

          go : (b : Bool) → (b ≡ true → s ≡ q) → cond ((same_flag w.urgent u && (not (may_send w) && may_send (acked bytes w))) && b) 1 0 + option_map_or (turns u) (look es q) 0
              ≡ option_map_or (turns u) (cond b (Some (acked bytes w)) (look es q)) 0
          go true it =
              ap (λ n. n + option_map_or (turns u) (look es q) 0) (on (same_flag w.urgent u && (not (may_send w) && may_send (acked bytes w))))
              ∙ ap (λ (o : Option Waiting). cond (same_flag w.urgent u && (not (may_send w) && may_send (acked bytes w))) 1 0 + option_map_or (turns u) o 0) (ap (look es) (sym (it refl)) ∙ there)
              ∙ sym (more_turns bytes w u)
          go false it = off (same_flag w.urgent u && (not (may_send w) && may_send (acked bytes w))) (option_map_or (turns u) (look es q) 0)

  -- the message paused, and has its turn again
  pub acked_kept_on : (turn : ReadyMessage) → turn ≡ record { urgent = w.urgent; stamp = s } → (not (may_send w) && may_send (acked bytes w)) ≡ true → IsStrictlySortedBy nat_cmp (keys_of es')
      → ((u : Bool) (q : ℕ) → times q (stamps_in u r') ≡ cond (same_flag turn.urgent u && eqb turn.stamp q) 1 0 + times q (stamps_in u r))
      → ((u : Bool) → count_in u r' ≡ cond (same_flag turn.urgent u) 1 0 + count_in u r)
      → ((u : Bool) → room_in u r ≤ room_in u r') → IsKept es' next at r'
  acked_kept_on turn its on sorted more counts room =
      acked_kept sorted
      (λ u q. more u q ∙ ap (λ (t : ReadyMessage). cond (same_flag t.urgent u && eqb t.stamp q) 1 0 + times q (stamps_in u r)) its
      ∙ ap (λ b. cond (b && eqb s q) 1 0 + times q (stamps_in u r)) (sym (with_on (same_flag w.urgent u) (not (may_send w) && may_send (acked bytes w)) on)))
      (λ u. counts u ∙ ap (λ (t : ReadyMessage). cond (same_flag t.urgent u) 1 0 + count_in u r) its
      ∙ ap (λ b. cond b 1 0 + count_in u r) (sym (with_on (same_flag w.urgent u) (not (may_send w) && may_send (acked bytes w)) on)))
      room where
        with_on : (u m : Bool) → m ≡ true → (u && m) ≡ u
        with_on true m e = e
        with_on false m e = refl

zero_and : (n : ℕ) → 0 + n ≡ n
zero_and n = omega arith

-- it did not pause, or pauses still
pub acked_kept_off : (es es' : Entries) (s next : ℕ) (w : Waiting) (bytes : ℕ) (at : Class → ℕ → Option ℕ) (r : Ready) → IsKept es next at r → look es s ≡ Some w → es' ≡ with_message s es (acked bytes w)
    → (not (may_send w) && may_send (acked bytes w)) ≡ false → IsStrictlySortedBy nat_cmp (keys_of es') → IsKept es' next at r
acked_kept_off es es' s next w bytes at r kept there e off sorted =
    acked_kept es es' s next w bytes at r r kept there e sorted
    (λ u q. sym (none (same_flag w.urgent u) (not (may_send w) && may_send (acked bytes w)) (eqb s q) (times q (stamps_in u r)) off))
    (λ u. sym (nothing (same_flag w.urgent u) (not (may_send w) && may_send (acked bytes w)) (count_in u r) off))
    (λ u. omega arith) where
      none : (u m b : Bool) (n : ℕ) → m ≡ false → cond ((u && m) && b) 1 0 + n ≡ n
      none true m b n e = ap (λ (x : Bool). cond (x && b) 1 0 + n) e ∙ zero_and n
      none false m b n e = zero_and n

      nothing : (u m : Bool) (n : ℕ) → m ≡ false → cond (u && m) 1 0 + n ≡ n
      nothing true m n e = ap (λ (x : Bool). cond x 1 0 + n) e ∙ zero_and n
      nothing false m n e = zero_and n

pub turn_on : (m : Bool) (turn t : ReadyMessage) → Some turn ≡ cond m (Some t) None → (m ≡ true) × (turn ≡ t)
turn_on true turn t e = (refl, cc)
turn_on false turn t e = some_none e

pub turn_off : (m : Bool) (t : ReadyMessage) → None ≡ cond m (Some t) None → m ≡ false
turn_off true t e = some_none (sym e)
turn_off false t e = refl
