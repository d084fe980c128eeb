-- lists of channels that changed
use Rattle.std.proofs.Common.{◌≡◌, ◌<◌, ◌≤◌, ◌+◌, ℕ, zero, suc, refl, sym, ◌∙◌, ap, arith, Bool, true, false, ◌&&◌, ◌||◌, not, cond, if◌then◌else◌, List, [], ◌∷◌, ◌++◌, length, drop, take, get_or, map, Option, Some, None, nat_eq}
use Rattle.std.specs.Prelude.{is_some, string_bytes, Result, Ok, Err, OnOk, String}
use Rattle.std.specs.Global.{Global}
use Rattle.std.specs.List.{list_any}
use Rattle.std.specs.Map.{keys_of, lookup, set_value}
use Rattle.std.specs.Str.{bytes_eq}
use Rattle.std.specs.Cmp.Lexicographic.{bytes_decides}
use Rattle.std.proofs.lemmas.Bool.{false≢true, true≢false}
use Rattle.std.proofs.lemmas.List.{drop_more, drop_all}
use Rattle.sg_history.specs.History.{among}
use Rattle.sg_history.specs.View.{every}
use Rattle.channel_cache.specs.inner.Moves.{Move, enters, entered_by, leaves, left_by}
use Rattle.channel_cache.specs.Sequences.{Changed, Counted, Lists, entered, holds, holds_in, holds_of, is_kept, left, list_of}
use Rattle.channel_cache.specs.declared.sequences.Sequences.{Sequences}

pub on_ok : {A E : Type 0} (r : Result A E) (P Q : Type 0) → (P → Q) → OnOk r P → OnOk r Q
on_ok (Ok x) P Q f h = f h
on_ok (Err e) P Q f h = h

pub on_three : {A E : Type 0} (r : Result A E) (P Q R S : Type 0) → (P → Q → R → S) → OnOk r P → OnOk r Q → OnOk r R → OnOk r S
on_three (Ok x) P Q R S f p q r = f p q r
on_three (Err e) P Q R S f p q r = p

pub on_two : {A E : Type 0} (r : Result A E) (P Q R : Type 0) → (P → Q → R) → OnOk r P → OnOk r Q → OnOk r R
on_two (Ok x) P Q R f p q = f p q
on_two (Err e) P Q R f p q = p

-- what is left is the next and those behind it
pub split : {X : Type 0} (xs : List X) (i : ℕ) (x : X) → i < length xs → x ≡ get_or xs i x → x ∷ drop (i + 1) xs ≡ drop i xs
split {X = X} xs i x within is = ap (λ (y : X). y ∷ drop (i + 1) xs) is ∙ sym (drop_more xs i x within)

pub taken_more : {X : Type 0} (xs : List X) (i : ℕ) (x : X) → i < length xs → x ≡ get_or xs i x → take i xs ++ x ∷ [] ≡ take (i + 1) xs
taken_more [] i x within is = absurd (omega (arith, within))
taken_more (y ∷ ys) zero x within is = ap (λ z. z ∷ []) is
taken_more (y ∷ ys) (suc i) x within is =
    let one : ◌≡◌ {A = ℕ} (suc i + 1) (suc (i + 1)) = omega arith in
    ap (λ l. y ∷ l) (taken_more ys i x (omega (arith, within)) is) ∙ ap (λ (n : ℕ). take n (y ∷ ys)) (sym one)

pub mapped_is : {X Y : Type 0} (f : X → Y) (xs : List X) (i : ℕ) (x : X) → i < length xs → x ≡ get_or xs i x → f x ≡ get_or (map f xs) i (f x)
mapped_is f [] i x within is = absurd (omega (arith, within))
mapped_is f (y ∷ ys) zero x within is = ap f is
mapped_is f (y ∷ ys) (suc i) x within is = mapped_is f ys i x (omega (arith, within)) is

pub mapped_count : {X Y : Type 0} (f : X → Y) (xs : List X) → length (map f xs) ≡ length xs
mapped_count f [] = refl
mapped_count f (x ∷ xs) = ap (λ (n : ℕ). suc n) (mapped_count f xs)

pub mapped_append : {X Y : Type 0} (f : X → Y) (xs ys : List X) → map f (xs ++ ys) ≡ map f xs ++ map f ys
mapped_append f [] ys = refl
mapped_append f (x ∷ xs) ys = ap (λ l. f x ∷ l) (mapped_append f xs ys)

-- a value that is set
abbrev pub Test : Type 0
Test = String Global → Bool

abbrev pub named : List ℕ → Test
named channel name = bytes_eq channel (string_bytes name)

pub keys_set : (t : Test) (w : Sequences) (es : Lists) → keys_of (set_value t es w) ≡ keys_of es
keys_set t w [] = refl
keys_set t w (e ∷ es) = by (t e.0) (keys_set t w es)
  where
    by : (b : Bool) → keys_of (set_value t es w) ≡ keys_of es → keys_of (cond b ((e.0, w) ∷ es) (e ∷ set_value t es w)) ≡ keys_of (e ∷ es)
    by true rest = refl
    by false rest = ap (λ (l : List (String Global)). e.0 ∷ l) rest

set_same : (t : Test) (w : Sequences) (es : Lists) → is_some (lookup t es) ≡ true → lookup t (set_value t es w) ≡ Some w
set_same t w [] there = absurd (false≢true there)
set_same t w (e ∷ es) there = by (t e.0) refl there (set_same t w es)
  where
    by : (b : Bool) → t e.0 ≡ b → is_some (cond b (Some e.1) (lookup t es)) ≡ true → (is_some (lookup t es) ≡ true → lookup t (set_value t es w) ≡ Some w)
        → lookup t (cond b ((e.0, w) ∷ es) (e ∷ set_value t es w)) ≡ Some w
    by true is there rest = ap (λ (b : Bool). cond b (Some w) (lookup t es)) is
    by false is there rest = ap (λ (b : Bool). cond b (Some e.1) (lookup t (set_value t es w))) is ∙ rest there

set_apart : (t u : Test) (w : Sequences) → ((k : String Global) → t k ≡ true → u k ≡ false) → (es : Lists) → lookup u (set_value t es w) ≡ lookup u es
set_apart t u w apart [] = refl
set_apart t u w apart (e ∷ es) = by (t e.0) refl (set_apart t u w apart es)
  where
    by : (b : Bool) → t e.0 ≡ b → lookup u (set_value t es w) ≡ lookup u es → lookup u (cond b ((e.0, w) ∷ es) (e ∷ set_value t es w)) ≡ cond (u e.0) (Some e.1) (lookup u es)
    by true is rest =
        let none : u e.0 ≡ false = apart e.0 is in
        ap (λ (b : Bool). cond b (Some w) (lookup u es)) none ∙ sym (ap (λ (b : Bool). cond b (Some e.1) (lookup u es)) none)
    by false is rest = ap (λ (o : Option Sequences). cond (u e.0) (Some e.1) o) rest

pub names_apart : (a b : List ℕ) → bytes_eq a b ≡ false → (k : String Global) → named a k ≡ true → named b k ≡ false
names_apart a b other k is = by (named b k) refl
  where
    by : (x : Bool) → named b k ≡ x → x ≡ false
    by false other = refl
    by true same = absurd (true≢false (sym ((bytes_decides a b).1 ((bytes_decides a (string_bytes k)).0 is ∙ sym ((bytes_decides b (string_bytes k)).0 same))) ∙ other))

pub same_name : (a b : List ℕ) → bytes_eq a b ≡ true → a ≡ b
same_name a b is = (bytes_decides a b).0 is

-- the lists once that of a channel is this
pub list_set : (es : Lists) (a : List ℕ) (w : Sequences) → is_kept es a ≡ true → (b : List ℕ) → list_of (set_value (named a) es w) b ≡ (if bytes_eq a b then Some w else list_of es b)
list_set es a w there b = by (bytes_eq a b) refl
  where
    by : (x : Bool) → bytes_eq a b ≡ x → list_of (set_value (named a) es w) b ≡ (if x then Some w else list_of es b)
    by true is = ap (λ (c : List ℕ). list_of (set_value (named a) es w) c) (sym (same_name a b is)) ∙ set_same (named a) w es there
    by false is = set_apart (named a) (named b) w (names_apart a b is) es

-- the list of one channel changed
pub changed_one : (old new : Lists) (a : List ℕ) (was w : Sequences) (after : ℕ → Bool → Bool) → list_of old a ≡ Some was → new ≡ set_value (named a) old w → ((s : ℕ) → holds w s ≡ after s (holds was s))
    → Changed old new (λ c s b. if bytes_eq a c then after s b else b)
changed_one old new a was w after there is made = record {
  keys = ap keys_of is ∙ keys_set (named a) w old;
  holds = λ c s kept.
      ap (λ (l : Lists). holds_of l c s) is
      ∙ ap (λ (o : Option Sequences). holds_in o s) (list_set old a w (ap is_some there) c)
      ∙ by c s (bytes_eq a c) refl;
}
  where
    by : (c : List ℕ) (s : ℕ) (x : Bool) → bytes_eq a c ≡ x → holds_in (if x then Some w else list_of old c) s ≡ (if x then after s (holds_of old c s) else holds_of old c s)
    by c s true same =
        made s ∙ ap (λ (o : Option Sequences). after s (holds_in o s)) (sym there) ∙ ap (λ (c : List ℕ). after s (holds_of old c s)) (same_name a c same)
    by c s false same = refl

-- there is none
pub changed_none : (old : Lists) (a : List ℕ) (after : ℕ → Bool → Bool) → list_of old a ≡ None → Changed old old (λ c s b. if bytes_eq a c then after s b else b)
changed_none old a after none = record { keys = refl; holds = λ c s kept. by c s kept (bytes_eq a c) refl }
  where
    by : (c : List ℕ) (s : ℕ) → is_kept old c ≡ true → (x : Bool) → bytes_eq a c ≡ x → holds_of old c s ≡ (if x then after s (holds_of old c s) else holds_of old c s)
    by c s kept false same = refl
    by c s kept true same = absurd (false≢true (sym (ap is_some none) ∙ ap (λ (c : List ℕ). is_kept old c) (same_name a c same) ∙ kept))

kept_by : (t : Test) (xs ys : Lists) → keys_of xs ≡ keys_of ys → is_some (lookup t xs) ≡ is_some (lookup t ys)
kept_by t xs ys same = any xs ∙ ap (λ (ks : List (String Global)). list_any t ks) same ∙ sym (any ys)
  where
    any : (es : Lists) → is_some (lookup t es) ≡ list_any t (keys_of es)
    any [] = refl
    any (e ∷ es) = by (t e.0) (any es)
      where
        by : (b : Bool) → is_some (lookup t es) ≡ list_any t (keys_of es) → is_some (cond b (Some e.1) (lookup t es)) ≡ (b || list_any t (keys_of es))
        by true rest = refl
        by false rest = rest

pub kept_same : (old new : Lists) → keys_of new ≡ keys_of old → (c : List ℕ) → is_kept new c ≡ is_kept old c
kept_same old new keys c = kept_by (named c) new old keys

pub changed_as : (old new : Lists) (f g : List ℕ → ℕ → Bool → Bool) → ((c : List ℕ) (s : ℕ) (b : Bool) → f c s b ≡ g c s b) → Changed old new f → Changed old new g
changed_as old new f g same changed = record { keys = changed.keys; holds = λ c s kept. changed.holds c s kept ∙ same c s (holds_of old c s) }

pub changed_then : (one two three : Lists) (f g : List ℕ → ℕ → Bool → Bool) → Changed one two f → Changed two three g → Changed one three (λ c s b. g c s (f c s b))
changed_then one two three f g first second = record {
  keys = second.keys ∙ first.keys;
  holds = λ c s kept. second.holds c s (kept_same one two first.keys c ∙ kept) ∙ ap (λ (b : Bool). g c s b) (first.holds c s kept);
}

pub unchanged : (one : Lists) (f : List ℕ → ℕ → Bool → Bool) → ((c : List ℕ) (s : ℕ) (b : Bool) → b ≡ f c s b) → Changed one one f
unchanged one f same = record { keys = refl; holds = λ c s kept. same c s (holds_of one c s) }

or_none : (b : Bool) → b ≡ (b || false)
or_none true = refl
or_none false = refl

and_all : (b : Bool) → b ≡ (b && true)
and_all true = refl
and_all false = refl

or_chosen : (x y b : Bool) → (if x then b || y else b) ≡ (b || (x && y))
or_chosen true y b = refl
or_chosen false y b = or_none b

and_chosen : (x y b : Bool) → (if x then b && not y else b) ≡ (b && not (x && y))
and_chosen true y b = refl
and_chosen false y b = and_all b

pub entered_one : (old new : Lists) (a : List ℕ) (seq : ℕ) (was w : Sequences) → list_of old a ≡ Some was → new ≡ set_value (named a) old w → ((s : ℕ) → holds w s ≡ (holds was s || nat_eq s seq))
    → Changed old new (entered (bytes_eq a) seq)
entered_one old new a seq was w there is made =
    changed_as old new (λ c s b. if bytes_eq a c then b || nat_eq s seq else b) (entered (bytes_eq a) seq) (λ c s b. or_chosen (bytes_eq a c) (nat_eq s seq) b)
    (changed_one old new a was w (λ s b. b || nat_eq s seq) there is made)

pub entered_none : (old : Lists) (a : List ℕ) (seq : ℕ) → list_of old a ≡ None → Changed old old (entered (bytes_eq a) seq)
entered_none old a seq none =
    changed_as old old (λ c s b. if bytes_eq a c then b || nat_eq s seq else b) (entered (bytes_eq a) seq) (λ c s b. or_chosen (bytes_eq a c) (nat_eq s seq) b)
    (changed_none old a (λ s b. b || nat_eq s seq) none)

pub left_one : (old new : Lists) (a : List ℕ) (seq : ℕ) (was w : Sequences) → list_of old a ≡ Some was → new ≡ set_value (named a) old w → ((s : ℕ) → holds w s ≡ (holds was s && not (nat_eq s seq)))
    → Changed old new (left (bytes_eq a) seq)
left_one old new a seq was w there is made =
    changed_as old new (λ c s b. if bytes_eq a c then b && not (nat_eq s seq) else b) (left (bytes_eq a) seq) (λ c s b. and_chosen (bytes_eq a c) (nat_eq s seq) b)
    (changed_one old new a was w (λ s b. b && not (nat_eq s seq)) there is made)

pub left_none : (old : Lists) (a : List ℕ) (seq : ℕ) → list_of old a ≡ None → Changed old old (left (bytes_eq a) seq)
left_none old a seq none =
    changed_as old old (λ c s b. if bytes_eq a c then b && not (nat_eq s seq) else b) (left (bytes_eq a) seq) (λ c s b. and_chosen (bytes_eq a c) (nat_eq s seq) b)
    (changed_none old a (λ s b. b && not (nat_eq s seq)) none)

-- the same of one more
or_more : (b x y n : Bool) → ((b || (x && n)) || (y && n)) ≡ (b || ((x || y) && n))
or_more true x y n = refl
or_more false true y true = refl
or_more false false y n = refl
or_more false true y false = and_false y
  where
    and_false : (y : Bool) → (false || (y && false)) ≡ false
    and_false true = refl
    and_false false = refl

and_more : (b x y n : Bool) → ((b && not (x && n)) && not (y && n)) ≡ (b && not ((x || y) && n))
and_more false x y n = refl
and_more true true y true = refl
and_more true false y n = refl
and_more true true y false = and_true y
  where
    and_true : (y : Bool) → not (y && false) ≡ true
    and_true true = refl
    and_true false = refl

pub entered_more : (one two three : Lists) (x y : List ℕ → Bool) (seq : ℕ) → Changed one two (entered x seq) → Changed two three (entered y seq) → Changed one three (entered (λ c. x c || y c) seq)
entered_more one two three x y seq first second =
    changed_as one three (λ c s b. entered y seq c s (entered x seq c s b)) (entered (λ c. x c || y c) seq) (λ c s b. or_more b (x c) (y c) (nat_eq s seq))
    (changed_then one two three (entered x seq) (entered y seq) first second)

pub left_more : (one two three : Lists) (x y : List ℕ → Bool) (seq : ℕ) → Changed one two (left x seq) → Changed two three (left y seq) → Changed one three (left (λ c. x c || y c) seq)
left_more one two three x y seq first second =
    changed_as one three (λ c s b. left y seq c s (left x seq c s b)) (left (λ c. x c || y c) seq) (λ c s b. and_more b (x c) (y c) (nat_eq s seq))
    (changed_then one two three (left x seq) (left y seq) first second)

-- a loop over channels: what is left of them is done from there on
pub enters_next : (one two : Lists) (channels : List (List ℕ)) (i : ℕ) (a : List ℕ) (seq : ℕ) → i < length channels → a ≡ get_or channels i a → Changed one two (entered (bytes_eq a) seq)
    → (end : Lists) → Changed two end (entered (among (drop (i + 1) channels)) seq) → Changed one end (entered (among (drop i channels)) seq)
enters_next one two channels i a seq within is first end second =
    changed_as one end (entered (among (a ∷ drop (i + 1) channels)) seq) (entered (among (drop i channels)) seq)
    (λ c s b. ap (λ (l : List (List ℕ)). entered (among l) seq c s b) (split channels i a within is))
    (entered_more one two end (bytes_eq a) (among (drop (i + 1) channels)) seq first second)

pub enters_end : (one : Lists) (channels : List (List ℕ)) (i seq : ℕ) → length channels ≤ i → Changed one one (entered (among (drop i channels)) seq)
enters_end one channels i seq high =
    unchanged one (entered (among (drop i channels)) seq) (λ c s b. or_none b ∙ ap (λ (l : List (List ℕ)). entered (among l) seq c s b) (sym (drop_all i channels high)))

abbrev pub leaving : List (List ℕ) → List ℕ → Bool
leaving channels c = among channels c && not (bytes_eq every c)

spread : (x y n : Bool) → ((x && n) || (y && n)) ≡ ((x || y) && n)
spread true true true = refl
spread true true false = refl
spread true false true = refl
spread true false false = refl
spread false y n = refl

pub leaves_next : (one two : Lists) (channels : List (List ℕ)) (i : ℕ) (a : List ℕ) (seq : ℕ) → i < length channels → a ≡ get_or channels i a
    → Changed one two (left (λ c. bytes_eq a c && not (bytes_eq every c)) seq)
    → (end : Lists) → Changed two end (left (leaving (drop (i + 1) channels)) seq) → Changed one end (left (leaving (drop i channels)) seq)
leaves_next one two channels i a seq within is first end second =
    changed_as one end (left (λ c. (bytes_eq a c && not (bytes_eq every c)) || leaving (drop (i + 1) channels) c) seq) (left (leaving (drop i channels)) seq)
    (λ c s b.
    ap (λ (x : Bool). b && not (x && nat_eq s seq)) (spread (bytes_eq a c) (among (drop (i + 1) channels) c) (not (bytes_eq every c)))
    ∙ ap (λ (l : List (List ℕ)). left (leaving l) seq c s b) (split channels i a within is))
    (left_more one two end (λ c. bytes_eq a c && not (bytes_eq every c)) (leaving (drop (i + 1) channels)) seq first second)

pub leaves_end : (one : Lists) (channels : List (List ℕ)) (i seq : ℕ) → length channels ≤ i → Changed one one (left (leaving (drop i channels)) seq)
leaves_end one channels i seq high =
    unchanged one (left (leaving (drop i channels)) seq) (λ c s b. and_all b ∙ ap (λ (l : List (List ℕ)). left (leaving l) seq c s b) (sym (drop_all i channels high)))

-- nothing leaves `*`
pub stays : (one : Lists) (a : List ℕ) (seq : ℕ) → bytes_eq a every ≡ true → Changed one one (left (λ c. bytes_eq a c && not (bytes_eq every c)) seq)
stays one a seq is = unchanged one (left (λ c. bytes_eq a c && not (bytes_eq every c)) seq) (λ c s b. by (bytes_eq every c) b s ∙ ap (λ (x : List ℕ). b && not ((bytes_eq x c && not (bytes_eq every c)) && nat_eq s seq)) (sym (same_name a every is)))
  where
    by : (x b : Bool) (s : ℕ) → b ≡ (b && not ((x && not x) && nat_eq s seq))
    by true b s = and_all b
    by false b s = and_all b

pub leaves_other : (one two : Lists) (a : List ℕ) (seq : ℕ) → bytes_eq a every ≡ false → Changed one two (left (bytes_eq a) seq) → Changed one two (left (λ c. bytes_eq a c && not (bytes_eq every c)) seq)
leaves_other one two a seq other changed =
    changed_as one two (left (bytes_eq a) seq) (left (λ c. bytes_eq a c && not (bytes_eq every c)) seq) (λ c s b. ap (λ (x : Bool). b && not (x && nat_eq s seq)) (by c (bytes_eq a c) (bytes_eq every c) refl refl)) changed
  where
    by : (c : List ℕ) (x y : Bool) → bytes_eq a c ≡ x → bytes_eq every c ≡ y → x ≡ (x && not y)
    by c false y is at = refl
    by c true false is at = refl
    by c true true is at = absurd (true≢false (sym ((bytes_decides a every).1 (same_name a c is ∙ sym (same_name every c at))) ∙ other))

-- a loop over moved documents
or_any : (b x y : Bool) → ((b || x) || y) ≡ (b || (x || y))
or_any true x y = refl
or_any false x y = refl

and_any : (b x y : Bool) → ((b && not x) && not y) ≡ (b && not (x || y))
and_any false x y = refl
and_any true true y = refl
and_any true false y = refl

pub all_leave_next : (one two : Lists) (moves : List Move) (i : ℕ) (m : Move) → i < length moves → m ≡ get_or moves i m → Changed one two (left (leaving m.before) m.last)
    → (end : Lists) → Changed two end (left_by (drop (i + 1) moves)) → Changed one end (left_by (drop i moves))
all_leave_next one two moves i m within is first end second =
    changed_as one end (λ c s b. left_by (drop (i + 1) moves) c s (left (leaving m.before) m.last c s b)) (left_by (drop i moves))
    (λ c s b. and_any b (leaving m.before c && nat_eq s m.last) (leaves (drop (i + 1) moves) c s) ∙ ap (λ (l : List Move). left_by l c s b) (split moves i m within is))
    (changed_then one two end (left (leaving m.before) m.last) (left_by (drop (i + 1) moves)) first second)

pub all_leave_end : (one : Lists) (moves : List Move) (i : ℕ) → length moves ≤ i → Changed one one (left_by (drop i moves))
all_leave_end one moves i high = unchanged one (left_by (drop i moves)) (λ c s b. and_all b ∙ ap (λ (l : List Move). left_by l c s b) (sym (drop_all i moves high)))

-- what counts in lists that changed
pub counted_by : (counts : ℕ → Bool) (old new : Lists) (f : List ℕ → ℕ → Bool → Bool) → Changed old new f → Counted counts old new f
counted_by counts old new f changed = record { keys = changed.keys; holds = λ c s kept. ap (λ (b : Bool). b && counts s) (changed.holds c s kept) }

counted_as : (counts : ℕ → Bool) (old new : Lists) (f g : List ℕ → ℕ → Bool → Bool) → ((c : List ℕ) (s : ℕ) (b : Bool) → f c s b ≡ g c s b) → Counted counts old new f → Counted counts old new g
counted_as counts old new f g same counted = record {
  keys = counted.keys;
  holds = λ c s kept. counted.holds c s kept ∙ ap (λ (b : Bool). b && counts s) (same c s (holds_of old c s));
}

none_of : (b : Bool) → (b && false) ≡ false
none_of true = refl
none_of false = refl

-- what enters lists of which the same counts
or_within : (k x y z : Bool) → (x && k) ≡ (y && k) → ((x || z) && k) ≡ ((y || z) && k)
or_within true x y z same = ap (λ (b : Bool). (b || z) && true) (and_all x ∙ same ∙ sym (and_all y))
or_within false x y z same = none_of (x || z) ∙ sym (none_of (y || z))

counted_then : (counts : ℕ → Bool) (one two three : Lists) (f g : List ℕ → ℕ → Bool) → Counted counts one two (λ c s b. b || f c s) → Counted counts two three (λ c s b. b || g c s)
    → Counted counts one three (λ c s b. (b || f c s) || g c s)
counted_then counts one two three f g first second = record {
  keys = second.keys ∙ first.keys;
  holds = λ c s kept.
      second.holds c s (kept_same one two first.keys c ∙ kept) ∙ or_within (counts s) (holds_of two c s) (holds_of one c s || f c s) (g c s) (first.holds c s kept);
}

pub counted_one : (counts : ℕ → Bool) (old new : Lists) (a : List ℕ) (seq : ℕ) (was w : Sequences) → list_of old a ≡ Some was → new ≡ set_value (named a) old w
    → ((s : ℕ) → (holds w s && counts s) ≡ ((holds was s || nat_eq s seq) && counts s)) → Counted counts old new (entered (bytes_eq a) seq)
counted_one counts old new a seq was w there is made = record {
  keys = ap keys_of is ∙ keys_set (named a) w old;
  holds = λ c s kept.
      ap (λ (l : Lists). holds_of l c s && counts s) is
      ∙ ap (λ (o : Option Sequences). holds_in o s && counts s) (list_set old a w (ap is_some there) c)
      ∙ by c s (bytes_eq a c) refl;
}
  where
    by : (c : List ℕ) (s : ℕ) (x : Bool) → bytes_eq a c ≡ x → (holds_in (if x then Some w else list_of old c) s && counts s) ≡ ((holds_of old c s || (x && nat_eq s seq)) && counts s)
    by c s true same =
        made s
        ∙ ap (λ (o : Option Sequences). (holds_in o s || nat_eq s seq) && counts s) (sym there)
        ∙ ap (λ (c : List ℕ). (holds_of old c s || nat_eq s seq) && counts s) (same_name a c same)
    by c s false same = ap (λ (b : Bool). b && counts s) (or_none (holds_of old c s))

pub counted_none : (counts : ℕ → Bool) (old : Lists) (a : List ℕ) (seq : ℕ) → list_of old a ≡ None → Counted counts old old (entered (bytes_eq a) seq)
counted_none counts old a seq none = counted_by counts old old (entered (bytes_eq a) seq) (entered_none old a seq none)

pub counted_more : (counts : ℕ → Bool) (one two three : Lists) (x y : List ℕ → Bool) (seq : ℕ) → Counted counts one two (entered x seq) → Counted counts two three (entered y seq)
    → Counted counts one three (entered (λ c. x c || y c) seq)
counted_more counts one two three x y seq first second =
    counted_as counts one three (λ c s b. (b || (x c && nat_eq s seq)) || (y c && nat_eq s seq)) (entered (λ c. x c || y c) seq) (λ c s b. or_more b (x c) (y c) (nat_eq s seq))
    (counted_then counts one two three (λ c s. x c && nat_eq s seq) (λ c s. y c && nat_eq s seq) first second)

pub counted_next : (counts : ℕ → Bool) (one two : Lists) (channels : List (List ℕ)) (i : ℕ) (a : List ℕ) (seq : ℕ) → i < length channels → a ≡ get_or channels i a
    → Counted counts one two (entered (bytes_eq a) seq)
    → (end : Lists) → Counted counts two end (entered (among (drop (i + 1) channels)) seq) → Counted counts one end (entered (among (drop i channels)) seq)
counted_next counts one two channels i a seq within is first end second =
    counted_as counts one end (entered (among (a ∷ drop (i + 1) channels)) seq) (entered (among (drop i channels)) seq)
    (λ c s b. ap (λ (l : List (List ℕ)). entered (among l) seq c s b) (split channels i a within is))
    (counted_more counts one two end (bytes_eq a) (among (drop (i + 1) channels)) seq first second)

pub counted_end : (counts : ℕ → Bool) (one : Lists) (channels : List (List ℕ)) (i seq : ℕ) → length channels ≤ i → Counted counts one one (entered (among (drop i channels)) seq)
counted_end counts one channels i seq high = counted_by counts one one (entered (among (drop i channels)) seq) (enters_end one channels i seq high)

pub all_counted_next : (counts : ℕ → Bool) (one two : Lists) (moves : List Move) (i : ℕ) (m : Move) → i < length moves → m ≡ get_or moves i m → Counted counts one two (entered (among m.after) m.last)
    → (end : Lists) → Counted counts two end (entered_by (drop (i + 1) moves)) → Counted counts one end (entered_by (drop i moves))
all_counted_next counts one two moves i m within is first end second =
    counted_as counts one end (λ c s b. (b || (among m.after c && nat_eq s m.last)) || enters (drop (i + 1) moves) c s) (entered_by (drop i moves))
    (λ c s b. or_any b (among m.after c && nat_eq s m.last) (enters (drop (i + 1) moves) c s) ∙ ap (λ (l : List Move). entered_by l c s b) (split moves i m within is))
    (counted_then counts one two end (λ c s. among m.after c && nat_eq s m.last) (λ c s. enters (drop (i + 1) moves) c s) first second)

pub all_counted_end : (counts : ℕ → Bool) (one : Lists) (moves : List Move) (i : ℕ) → length moves ≤ i → Counted counts one one (entered_by (drop i moves))
all_counted_end counts one moves i high =
    counted_by counts one one (entered_by (drop i moves)) (unchanged one (entered_by (drop i moves)) (λ c s b. or_none b ∙ ap (λ (l : List Move). entered_by l c s b) (sym (drop_all i moves high))))
