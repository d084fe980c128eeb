-- the channels that have lists, once one is asked for
use Rattle.std.proofs.Common.{◌≡◌, ◌<◌, ◌≤◌, ◌+◌, ◌-◌, ℕ, zero, suc, refl, sym, ◌∙◌, ap, arith, Bool, true, false, ◌&&◌, ◌||◌, not, cond, if◌then◌else◌, List, [], ◌∷◌, length, map, take, Option, Some, None}
use Rattle.std.specs.Prelude.{is_some, string_bytes, String}
use Rattle.std.specs.Global.{Global}
use Rattle.std.specs.List.{AllByRecursion, IsDistinct}
use Rattle.std.specs.Map.{keys_of, lookup_entry, remove_entry, set_value}
use Rattle.std.specs.Option.{option_map_or}
use Rattle.std.specs.String.{string_eq}
use Rattle.std.specs.Str.{bytes_eq}
use Rattle.std.specs.Cmp.Lexicographic.{bytes_decides}
use Rattle.std.proofs.lemmas.Bool.{false≢true, true≢false}
use Rattle.std.proofs.lemmas.List.{take_all}
use Rattle.lru.specs.LruCache.{lru_cache, promoted, put_entries}
use Rattle.sg_history.specs.History.{among}
use Rattle.channel_cache.specs.Asked.{asked_after, others}
use Rattle.channel_cache.specs.inner.Asking.{Apart, names_of}
use Rattle.channel_cache.specs.Sequences.{Lists, holds, holds_in, holds_of, is_kept, list_of}
use Rattle.channel_cache.specs.declared.sequences.Sequences.{Sequences}
use Rattle.channel_cache.proofs.Changing.{list_set, named, names_apart, same_name}

pub eq_back : (a b : List ℕ) → bytes_eq a b ≡ bytes_eq b a
eq_back a b = by (bytes_eq a b) (bytes_eq b a) refl refl
  where
    by : (x y : Bool) → bytes_eq a b ≡ x → bytes_eq b a ≡ y → x ≡ y
    by true true one other = refl
    by false false one other = refl
    by true false one other = absurd (true≢false (sym ((bytes_decides b a).1 (sym (same_name a b one))) ∙ other))
    by false true one other = absurd (false≢true (sym one ∙ (bytes_decides a b).1 (sym (same_name b a other))))

names_by_keys : (es : Lists) → names_of es ≡ map string_bytes (keys_of es)
names_by_keys [] = refl
names_by_keys (e ∷ es) = ap (λ (l : List (List ℕ)). string_bytes e.0 ∷ l) (names_by_keys es)

pub same_names : (old new : Lists) → keys_of new ≡ keys_of old → names_of new ≡ names_of old
same_names old new keys = names_by_keys new ∙ ap (λ (l : List (String Global)). map string_bytes l) keys ∙ sym (names_by_keys old)

pub names_count : (es : Lists) → length (names_of es) ≡ length es
names_count [] = refl
names_count (e ∷ es) = ap (λ (n : ℕ). suc n) (names_count es)

-- no two channels are the same
pub apart_names : (es : Lists) → IsDistinct string_eq (keys_of es) → Apart (names_of es)
unfolding IsDistinct
apart_names [] h = tt
apart_names (e ∷ es) h = (none es h.0, apart_names es h.1)
  where
    none : (fs : Lists) → AllByRecursion (λ y. string_eq e.0 y ≡ false) (keys_of fs) → among (names_of fs) (string_bytes e.0) ≡ false
    none [] h = refl
    none (f ∷ fs) h =
        ap (λ (b : Bool). b || among (names_of fs) (string_bytes e.0)) (eq_back (string_bytes f.0) (string_bytes e.0) ∙ h.0) ∙ none fs h.1

pub kept_among : (es : Lists) (c : List ℕ) → is_kept es c ≡ among (names_of es) c
kept_among [] c = refl
kept_among (e ∷ es) c = by (bytes_eq c (string_bytes e.0)) refl (kept_among es c)
  where
    by : (b : Bool) → bytes_eq c (string_bytes e.0) ≡ b → is_kept es c ≡ among (names_of es) c → is_some (cond b (Some e.1) (list_of es c)) ≡ (bytes_eq (string_bytes e.0) c || among (names_of es) c)
    by true is rest = ap (λ (b : Bool). b || among (names_of es) c) (sym (eq_back (string_bytes e.0) c ∙ is))
    by false is rest = rest ∙ ap (λ (b : Bool). b || among (names_of es) c) (sym (eq_back (string_bytes e.0) c ∙ is))

pub others_none : (xs : List (List ℕ)) (c : List ℕ) → among xs c ≡ false → others c xs ≡ xs
others_none [] c none = refl
others_none (x ∷ xs) c none = by (bytes_eq x c) refl none (λ h. others_none xs c h)
  where
    by : (b : Bool) → bytes_eq x c ≡ b → (b || among xs c) ≡ false → (among xs c ≡ false → others c xs ≡ xs) → cond (not (bytes_eq x c)) (x ∷ others c xs) (others c xs) ≡ x ∷ xs
    by true is none rest = absurd (true≢false none)
    by false is none rest = ap (λ (b : Bool). cond (not b) (x ∷ others c xs) (others c xs)) is ∙ ap (λ (l : List (List ℕ)). x ∷ l) (rest none)

-- the others, and how many they are
names_without : (es : Lists) (c : List ℕ) → Apart (names_of es) → is_kept es c ≡ true → names_of (remove_entry (named c) es) ≡ others c (names_of es)
names_without [] c apart kept = absurd (false≢true kept)
names_without (e ∷ es) c apart kept = by (bytes_eq c (string_bytes e.0)) refl kept (λ h. names_without es c apart.1 h)
  where
    n : List ℕ
    n = string_bytes e.0

    by : (b : Bool) → bytes_eq c n ≡ b → is_some (cond b (Some e.1) (list_of es c)) ≡ true → (is_kept es c ≡ true → names_of (remove_entry (named c) es) ≡ others c (names_of es))
        → names_of (cond b es (e ∷ remove_entry (named c) es)) ≡ cond (not (bytes_eq n c)) (n ∷ others c (names_of es)) (others c (names_of es))
    by true is kept rest =
        let none : among (names_of es) c ≡ false = ap (among (names_of es)) (same_name c n is) ∙ apart.0 in
        sym (others_none (names_of es) c none)
        ∙ ap (λ (b : Bool). cond (not b) (n ∷ others c (names_of es)) (others c (names_of es))) (sym (eq_back n c ∙ is))
    by false is kept rest =
        ap (λ (l : List (List ℕ)). n ∷ l) (rest kept)
        ∙ ap (λ (b : Bool). cond (not b) (n ∷ others c (names_of es)) (others c (names_of es))) (sym (eq_back n c ∙ is))

count_without : (es : Lists) (c : List ℕ) → is_kept es c ≡ true → length (remove_entry (named c) es) + 1 ≡ length es
count_without [] c kept = absurd (false≢true kept)
count_without (e ∷ es) c kept = by (bytes_eq c (string_bytes e.0)) kept (λ h. count_without es c h)
  where
    by : (b : Bool) → is_some (cond b (Some e.1) (list_of es c)) ≡ true → (is_kept es c ≡ true → length (remove_entry (named c) es) + 1 ≡ length es)
        → length (cond b es (e ∷ remove_entry (named c) es)) + 1 ≡ length (e ∷ es)
    by true kept rest = omega arith
    by false kept rest = omega (arith, rest kept)

-- the entry of a channel
pub record Entry (es : Lists) (c : List ℕ) : Type 0 where
  pub entry : String Global × Sequences
  pub found : lookup_entry (named c) es ≡ Some entry
  pub name : string_bytes entry.0 ≡ c
  pub list : list_of es c ≡ Some entry.1

pub entry_of : (es : Lists) (c : List ℕ) → is_kept es c ≡ true → Entry es c
entry_of [] c kept = absurd (false≢true kept)
entry_of (e ∷ es) c kept = by (bytes_eq c (string_bytes e.0)) refl kept (λ h. entry_of es c h)
  where
    by : (b : Bool) → bytes_eq c (string_bytes e.0) ≡ b → is_some (cond b (Some e.1) (list_of es c)) ≡ true → (is_kept es c ≡ true → Entry es c) → Entry (e ∷ es) c
    by true is kept rest = record {
      entry = e;
      found = ap (λ (b : Bool). cond b (Some e) (lookup_entry (named c) es)) is;
      name = sym (same_name c (string_bytes e.0) is);
      list = ap (λ (b : Bool). cond b (Some e.1) (list_of es c)) is;
    }
    by false is kept rest =
        let one = rest kept in
        record {
          entry = one.entry;
          found = ap (λ (b : Bool). cond b (Some e) (lookup_entry (named c) es)) is ∙ one.found;
          name = one.name;
          list = ap (λ (b : Bool). cond b (Some e.1) (list_of es c)) is ∙ one.list;
        }

none_found : (es : Lists) (c : List ℕ) → is_kept es c ≡ false → lookup_entry (named c) es ≡ None
none_found [] c none = refl
none_found (e ∷ es) c none = by (bytes_eq c (string_bytes e.0)) none (λ h. none_found es c h)
  where
    by : (b : Bool) → is_some (cond b (Some e.1) (list_of es c)) ≡ false → (is_kept es c ≡ false → lookup_entry (named c) es ≡ None) → cond b (Some e) (lookup_entry (named c) es) ≡ None
    by true none rest = absurd (true≢false none)
    by false none rest = rest none

-- the others keep their lists
without_apart : (es : Lists) (c b : List ℕ) → bytes_eq c b ≡ false → list_of (remove_entry (named c) es) b ≡ list_of es b
without_apart [] c b other = refl
without_apart (e ∷ es) c b other = by (named c e.0) refl (without_apart es c b other)
  where
    by : (x : Bool) → named c e.0 ≡ x → list_of (remove_entry (named c) es) b ≡ list_of es b → list_of (cond x es (e ∷ remove_entry (named c) es)) b ≡ cond (named b e.0) (Some e.1) (list_of es b)
    by true is rest = ap (λ (x : Bool). cond x (Some e.1) (list_of es b)) (sym (names_apart c b other e.0 is))
    by false is rest = ap (λ (o : Option Sequences). cond (named b e.0) (Some e.1) o) rest

-- the lists once that of a channel is first, with this in it
first_with : (es : Lists) (c b : List ℕ) (one : Entry es c) (w : Sequences) → list_of ((one.entry.0, w) ∷ remove_entry (named c) es) b ≡ cond (bytes_eq c b) (Some w) (list_of es b)
first_with es c b one w = by (bytes_eq c b) refl
  where
    here : bytes_eq c (string_bytes one.entry.0) ≡ true
    here = (bytes_decides c (string_bytes one.entry.0)).1 (sym one.name)

    by : (x : Bool) → bytes_eq c b ≡ x → list_of ((one.entry.0, w) ∷ remove_entry (named c) es) b ≡ cond x (Some w) (list_of es b)
    by true is =
        ap (λ (x : Bool). cond x (Some w) (list_of (remove_entry (named c) es) b)) (ap (λ (a : List ℕ). bytes_eq a (string_bytes one.entry.0)) (sym (same_name c b is)) ∙ here)
    by false is =
        ap (λ (x : Bool). cond x (Some w) (list_of (remove_entry (named c) es) b)) (names_apart c b is one.entry.0 here) ∙ without_apart es c b is

first_names : (es : Lists) (c : List ℕ) (one : Entry es c) (w : Sequences) (most : ℕ) → Apart (names_of es) → length es ≤ most → is_kept es c ≡ true
    → names_of ((one.entry.0, w) ∷ remove_entry (named c) es) ≡ asked_after most c (names_of es)
first_names es c one w most apart room kept =
    let rest = remove_entry (named c) es in
    let names : names_of ((one.entry.0, w) ∷ rest) ≡ c ∷ others c (names_of es) =
    ap (λ (n : List ℕ). n ∷ names_of rest) one.name ∙ ap (λ (l : List (List ℕ)). c ∷ l) (names_without es c apart kept) in
    let count : length (c ∷ others c (names_of es)) ≤ most =
    omega (arith, ap length (sym names), names_count rest, count_without es c kept, room) in
    names ∙ sym (take_all most (c ∷ others c (names_of es)) count)

pub promoted_names : (es : Lists) (c : List ℕ) (most : ℕ) → Apart (names_of es) → length es ≤ most → is_kept es c ≡ true → names_of (promoted (named c) es) ≡ asked_after most c (names_of es)
promoted_names es c most apart room kept =
    let one = entry_of es c kept in
    ap (λ (o : Option (String Global × Sequences)). names_of (option_map_or (λ e. e ∷ remove_entry (named c) es) o es)) one.found
    ∙ first_names es c one one.entry.1 most apart room kept

pub promoted_lists : (es : Lists) (c b : List ℕ) → list_of (promoted (named c) es) b ≡ list_of es b
promoted_lists es c b = by (is_kept es c) refl
  where
    own : (one : Entry es c) (x : Bool) → bytes_eq c b ≡ x → cond x (Some one.entry.1) (list_of es b) ≡ list_of es b
    own one true is = sym one.list ∙ ap (list_of es) (same_name c b is)
    own one false is = refl

    by : (x : Bool) → is_kept es c ≡ x → list_of (promoted (named c) es) b ≡ list_of es b
    by true kept =
        let one = entry_of es c kept in
        ap (λ (o : Option (String Global × Sequences)). list_of (option_map_or (λ e. e ∷ remove_entry (named c) es) o es) b) one.found
        ∙ first_with es c b one one.entry.1
        ∙ own one (bytes_eq c b) refl
    by false none = ap (λ (o : Option (String Global × Sequences)). list_of (option_map_or (λ e. e ∷ remove_entry (named c) es) o es) b) (none_found es c none)

pub promoted_none : (es : Lists) (c : List ℕ) → is_kept es c ≡ false → promoted (named c) es ≡ es
promoted_none es c none = ap (λ (o : Option (String Global × Sequences)). option_map_or (λ e. e ∷ remove_entry (named c) es) o es) (none_found es c none)

-- the first ones
names_taken : (n : ℕ) (es : Lists) → names_of (take n es) ≡ take n (names_of es)
names_taken zero es = refl
names_taken (suc n) [] = refl
names_taken (suc n) (e ∷ es) = ap (λ (l : List (List ℕ)). string_bytes e.0 ∷ l) (names_taken n es)

list_taken : (n : ℕ) (es : Lists) (c : List ℕ) → is_kept (take n es) c ≡ true → list_of (take n es) c ≡ list_of es c
list_taken zero es c kept = absurd (false≢true kept)
list_taken (suc n) [] c kept = refl
list_taken (suc n) (e ∷ es) c kept = by (bytes_eq c (string_bytes e.0)) kept (λ h. list_taken n es c h)
  where
    by : (b : Bool) → is_some (cond b (Some e.1) (list_of (take n es) c)) ≡ true → (is_kept (take n es) c ≡ true → list_of (take n es) c ≡ list_of es c)
        → cond b (Some e.1) (list_of (take n es) c) ≡ cond b (Some e.1) (list_of es c)
    by true kept rest = refl
    by false kept rest = rest kept

-- a list that is put
module _ (es : Lists) (most : ℕ) (k : String Global) (v : Sequences) where
  put_found : (one : Entry es (string_bytes k)) → put_entries string_eq (lru_cache es most) k v ≡ (one.entry.0, v) ∷ remove_entry (named (string_bytes k)) es
  put_found one = ap (λ (o : Option (String Global × Sequences)). option_map_or (λ e. (e.0, v) ∷ remove_entry (named (string_bytes k)) es) o ((k, v) ∷ take (most - 1) es)) one.found

  put_new : is_kept es (string_bytes k) ≡ false → put_entries string_eq (lru_cache es most) k v ≡ (k, v) ∷ take (most - 1) es
  put_new none = ap (λ (o : Option (String Global × Sequences)). option_map_or (λ e. (e.0, v) ∷ remove_entry (named (string_bytes k)) es) o ((k, v) ∷ take (most - 1) es)) (none_found es (string_bytes k) none)

  pub put_names : Apart (names_of es) → length es ≤ most → 0 < most → names_of (put_entries string_eq (lru_cache es most) k v) ≡ asked_after most (string_bytes k) (names_of es)
  put_names apart room some = by (is_kept es (string_bytes k)) refl
    where
      by : (b : Bool) → is_kept es (string_bytes k) ≡ b → names_of (put_entries string_eq (lru_cache es most) k v) ≡ asked_after most (string_bytes k) (names_of es)
      by true kept = let one = entry_of es (string_bytes k) kept in ap names_of (put_found one) ∙ first_names es (string_bytes k) one v most apart room kept
      by false none =
          let c = string_bytes k in
          let count : suc (most - 1) ≡ most = omega (arith, some) in
          let other : others c (names_of es) ≡ names_of es = others_none (names_of es) c (sym (kept_among es c) ∙ none) in
          ap names_of (put_new none)
          ∙ ap (λ (l : List (List ℕ)). c ∷ l) (names_taken (most - 1) es ∙ ap (take (most - 1)) (sym other))
          ∙ ap (λ (n : ℕ). take n (c ∷ others c (names_of es))) count

  -- what the lists are then
  pub put_lists : (b : List ℕ) → is_kept (put_entries string_eq (lru_cache es most) k v) b ≡ true → list_of (put_entries string_eq (lru_cache es most) k v) b ≡ cond (bytes_eq (string_bytes k) b) (Some v) (list_of es b)
  put_lists b kept = by (is_kept es (string_bytes k)) refl
    where
      c : List ℕ
      c = string_bytes k

      fresh : (x : Bool) → bytes_eq b c ≡ x → is_some (cond x (Some v) (list_of (take (most - 1) es) b)) ≡ true → cond x (Some v) (list_of (take (most - 1) es) b) ≡ cond x (Some v) (list_of es b)
      fresh true is kept = refl
      fresh false is kept = list_taken (most - 1) es b kept

      by : (x : Bool) → is_kept es c ≡ x → list_of (put_entries string_eq (lru_cache es most) k v) b ≡ cond (bytes_eq c b) (Some v) (list_of es b)
      by true had = let one = entry_of es c had in ap (λ (l : Lists). list_of l b) (put_found one) ∙ first_with es c b one v
      by false none =
          ap (λ (l : Lists). list_of l b) (put_new none)
          ∙ fresh (bytes_eq b c) refl (sym (ap (λ (l : Lists). is_kept l b) (put_new none)) ∙ kept)
          ∙ ap (λ (x : Bool). cond x (Some v) (list_of es b)) (eq_back b c)

  -- with room nothing goes
  pub put_room : length es < most → (b : List ℕ) → list_of (put_entries string_eq (lru_cache es most) k v) b ≡ cond (bytes_eq (string_bytes k) b) (Some v) (list_of es b)
  put_room room b = by (is_kept es (string_bytes k)) refl
    where
      c : List ℕ
      c = string_bytes k

      by : (x : Bool) → is_kept es c ≡ x → list_of (put_entries string_eq (lru_cache es most) k v) b ≡ cond (bytes_eq c b) (Some v) (list_of es b)
      by true had = let one = entry_of es c had in ap (λ (l : Lists). list_of l b) (put_found one) ∙ first_with es c b one v
      by false none =
          ap (λ (l : Lists). list_of l b) (put_new none)
          ∙ ap (λ (l : Lists). cond (bytes_eq b c) (Some v) (list_of l b)) (take_all (most - 1) es (omega (arith, room)))
          ∙ ap (λ (x : Bool). cond x (Some v) (list_of es b)) (eq_back b c)

-- the list of a channel has only what counts
pub counted_one : (counts : ℕ → Bool) (old : Lists) (a : List ℕ) (was w : Sequences) → list_of old a ≡ Some was → ((s : ℕ) → holds w s ≡ (holds was s && counts s)) → (c : List ℕ) (s : ℕ)
    → holds_of (set_value (named a) old w) c s ≡ (holds_of old c s && (not (bytes_eq a c) || counts s))
counted_one counts old a was w there made c s = ap (λ (o : Option Sequences). holds_in o s) (list_set old a w (ap is_some there) c) ∙ by (bytes_eq a c) refl
  where
    by : (x : Bool) → bytes_eq a c ≡ x → holds_in (if x then Some w else list_of old c) s ≡ (holds_of old c s && (not x || counts s))
    by true same = made s ∙ ap (λ (o : Option Sequences). holds_in o s && counts s) (sym there) ∙ ap (λ (n : List ℕ). holds_of old n s && counts s) (same_name a c same)
    by false same = plain (holds_of old c s)
      where
        plain : (b : Bool) → b ≡ (b && true)
        plain true = refl
        plain false = refl

pub counted_none : (counts : ℕ → Bool) (old : Lists) (a : List ℕ) → list_of old a ≡ None → (c : List ℕ) (s : ℕ) → holds_of old c s ≡ (holds_of old c s && (not (bytes_eq a c) || counts s))
counted_none counts old a none c s = by (bytes_eq a c) refl
  where
    by : (x : Bool) → bytes_eq a c ≡ x → holds_of old c s ≡ (holds_of old c s && (not x || counts s))
    by true same =
        let nothing : holds_of old c s ≡ false = ap (λ (n : List ℕ). holds_of old n s) (sym (same_name a c same)) ∙ ap (λ (o : Option Sequences). holds_in o s) none in
        nothing ∙ ap (λ (b : Bool). b && counts s) (sym nothing)
    by false same = plain (holds_of old c s)
      where
        plain : (b : Bool) → b ≡ (b && true)
        plain true = refl
        plain false = refl

-- the list that is set is that of its channel
pub holds_set : (old : Lists) (a : List ℕ) (was w : Sequences) → list_of old a ≡ Some was → (s : ℕ) → holds_of (set_value (named a) old w) a s ≡ holds w s
holds_set old a was w there s =
    ap (λ (o : Option Sequences). holds_in o s) (list_set old a w (ap is_some there) a)
    ∙ ap (λ (x : Bool). holds_in (if x then Some w else list_of old a) s) ((bytes_decides a a).1 refl)

without_it : (es : Lists) (c : List ℕ) → Apart (names_of es) → is_kept (remove_entry (named c) es) c ≡ false
without_it [] c apart = refl
without_it (e ∷ es) c apart = by (bytes_eq c (string_bytes e.0)) refl (without_it es c apart.1)
  where
    by : (x : Bool) → bytes_eq c (string_bytes e.0) ≡ x → is_kept (remove_entry (named c) es) c ≡ false → is_kept (cond x es (e ∷ remove_entry (named c) es)) c ≡ false
    by true is rest = kept_among es c ∙ ap (among (names_of es)) (same_name c (string_bytes e.0) is) ∙ apart.0
    by false is rest = ap (λ (x : Bool). is_some (cond x (Some e.1) (list_of (remove_entry (named c) es) c))) is ∙ rest

-- every one but this one
pub without_kept : (es : Lists) (c b : List ℕ) → Apart (names_of es) → is_kept (remove_entry (named c) es) b ≡ (is_kept es b && not (bytes_eq c b))
without_kept es c b apart = by (bytes_eq c b) refl
  where
    plain : (b : Bool) → b ≡ (b && true)
    plain true = refl
    plain false = refl

    nothing : (b : Bool) → false ≡ (b && false)
    nothing true = refl
    nothing false = refl

    by : (x : Bool) → bytes_eq c b ≡ x → is_kept (remove_entry (named c) es) b ≡ (is_kept es b && not x)
    by true is = ap (is_kept (remove_entry (named c) es)) (sym (same_name c b is)) ∙ without_it es c apart ∙ nothing (is_kept es b)
    by false is = ap is_some (without_apart es c b is) ∙ plain (is_kept es b)

pub without_lists : (es : Lists) (c b : List ℕ) → bytes_eq c b ≡ false → list_of (remove_entry (named c) es) b ≡ list_of es b
without_lists es c b other = without_apart es c b other

-- a list of nothing that is put
module _ (es : Lists) (most : ℕ) (k : String Global) (v : Sequences) where
  pub put_kept : (a : List ℕ) → string_bytes k ≡ a → (new : Lists) → new ≡ put_entries string_eq (lru_cache es most) k v → (b : List ℕ) → is_kept new b ≡ true → (bytes_eq a b || is_kept es b) ≡ true
  put_kept a name new is b kept =
      let there : is_kept (put_entries string_eq (lru_cache es most) k v) b ≡ true = sym (ap (λ (l : Lists). is_kept l b) is) ∙ kept in
      by (bytes_eq a b)
      (sym (ap is_some (put_lists es most k v b there) ∙ ap (λ (n : List ℕ). is_some (cond (bytes_eq n b) (Some v) (list_of es b))) name) ∙ there)
    where
      by : (x : Bool) → is_some (cond x (Some v) (list_of es b)) ≡ true → (x || is_kept es b) ≡ true
      by true h = refl
      by false h = h

  pub put_holds : ((s : ℕ) → holds v s ≡ false) → (a : List ℕ) → string_bytes k ≡ a → (new : Lists) → new ≡ put_entries string_eq (lru_cache es most) k v → (b : List ℕ) (s : ℕ) → is_kept new b ≡ true
      → holds_of new b s ≡ (holds_of es b s && not (bytes_eq a b))
  put_holds none a name new is b s kept =
      let there : is_kept (put_entries string_eq (lru_cache es most) k v) b ≡ true = sym (ap (λ (l : Lists). is_kept l b) is) ∙ kept in
      ap (λ (l : Lists). holds_of l b s) is
      ∙ ap (λ (o : Option Sequences). holds_in o s) (put_lists es most k v b there)
      ∙ ap (λ (n : List ℕ). holds_in (cond (bytes_eq n b) (Some v) (list_of es b)) s) name
      ∙ by (bytes_eq a b)
    where
      by : (x : Bool) → holds_in (cond x (Some v) (list_of es b)) s ≡ (holds_of es b s && not x)
      by true = none s ∙ nothing (holds_of es b s)
        where
          nothing : (x : Bool) → false ≡ (x && false)
          nothing true = refl
          nothing false = refl
      by false = plain (holds_of es b s)
        where
          plain : (x : Bool) → x ≡ (x && true)
          plain true = refl
          plain false = refl

  pub put_kept_room : (a : List ℕ) → string_bytes k ≡ a → (new : Lists) → new ≡ put_entries string_eq (lru_cache es most) k v → length es < most → (b : List ℕ) → is_kept new b ≡ (bytes_eq a b || is_kept es b)
  put_kept_room a name new is room b =
      ap (λ (l : Lists). is_kept l b) is
      ∙ ap is_some (put_room es most k v room b)
      ∙ ap (λ (n : List ℕ). is_some (cond (bytes_eq n b) (Some v) (list_of es b))) name
      ∙ by (bytes_eq a b)
    where
      by : (x : Bool) → is_some (cond x (Some v) (list_of es b)) ≡ (x || is_kept es b)
      by true = refl
      by false = refl

-- the list of a channel is another
pub filled_one : (old : Lists) (a : List ℕ) (was w list : Sequences) → list_of old a ≡ Some was → w ≡ list → (c : List ℕ) (s : ℕ) → is_kept old c ≡ true
    → holds_of (set_value (named a) old w) c s ≡ (if bytes_eq a c then holds list s else holds_of old c s)
filled_one old a was w list there same c s kept =
    ap (λ (o : Option Sequences). holds_in o s) (list_set old a w (ap is_some there) c) ∙ by (bytes_eq a c)
  where
    by : (x : Bool) → holds_in (if x then Some w else list_of old c) s ≡ (if x then holds list s else holds_of old c s)
    by true = ap (λ (l : Sequences). holds l s) same
    by false = refl

pub filled_none : (old : Lists) (a : List ℕ) (list : Sequences) → list_of old a ≡ None → (c : List ℕ) (s : ℕ) → is_kept old c ≡ true → holds_of old c s ≡ (if bytes_eq a c then holds list s else holds_of old c s)
filled_none old a list none c s kept = by (bytes_eq a c) refl
  where
    by : (x : Bool) → bytes_eq a c ≡ x → holds_of old c s ≡ (if x then holds list s else holds_of old c s)
    by true same = absurd (false≢true (sym (ap is_some none) ∙ ap (is_kept old) (same_name a c same) ∙ kept))
    by false same = refl
