-- lists by their texts
use Rattle.std.proofs.Common.{◌≡◌, ◌≢◌, ℕ, Bool, true, false, not, ◌&&◌, List, [], ◌∷◌, ◌++◌, length, map, refl, sym, ap, ◌∙◌, arith, append_assoc, inl, inr, Ordering}
use Rattle.std.specs.Prelude.{nat_eq}
use Rattle.std.specs.List.{list_all, slice_split, onto_first, join_with_byte}
use Rattle.std.proofs.lemmas.Bool.{and_parts, and_from, not_from_true, cases_Bool}
use Rattle.std.proofs.lemmas.List.Folds.{list_all-append}
use Rattle.std.specs.Ordering.{is_lt}
use Rattle.std.proofs.lemmas.List.{map-append}
use Rattle.std.proofs.lemmas.List.Splits.{slice_split-cons_yes, slice_split-cons_no, join_with_byte-slice_split, length-slice_split}
use Rattle.sg_names.specs.Grammar.{lacks}
use Rattle.sg_names.specs.ItemList.{list_text, rises, AreApart, HasItem, HasItems, StartsWith}

abbrev pub is_comma : ℕ → Bool
is_comma b = nat_eq b 44

other_byte : (c b : ℕ) → not (nat_eq b c) ≡ true → nat_eq b c ≡ false
other_byte c b h = elim (cases_Bool (nat_eq b c)) [ inl same ↦ absurd (cc (h, not_from_true (nat_eq b c) same)) | inr other ↦ other ]

-- a text without a comma is one part
split_whole : (text : List ℕ) → lacks 44 text ≡ true → slice_split is_comma text ≡ text ∷ []
split_whole [] h = refl
split_whole (b ∷ bs) h =
    let parts = and_parts (not (nat_eq b 44)) (lacks 44 bs) h in
    slice_split-cons_no is_comma b bs (other_byte 44 b parts.0) ∙ ap (onto_first b) (split_whole bs parts.1)

-- the first part stands before the first comma
split_front : (text rest : List ℕ) → lacks 44 text ≡ true → slice_split is_comma (text ++ 44 ∷ rest) ≡ text ∷ slice_split is_comma rest
split_front [] rest h = slice_split-cons_yes is_comma 44 rest refl
split_front (b ∷ bs) rest h =
    let parts = and_parts (not (nat_eq b 44)) (lacks 44 bs) h in
    slice_split-cons_no is_comma b (bs ++ 44 ∷ rest) (other_byte 44 b parts.0) ∙ ap (onto_first b) (split_front bs rest parts.1)

-- the parts of a list's text are the texts of its items
pub split_joined : {X : Type 0} (text : X → List ℕ) (admits : X → Bool) → AreApart text admits → (x : X) (xs : List X) → list_all admits (x ∷ xs) ≡ true
    → slice_split is_comma (list_text (map text (x ∷ xs))) ≡ map text (x ∷ xs)
split_joined text admits apart x [] h = split_whole (text x) (apart.lacks_comma x (and_parts (admits x) true h).0)
split_joined text admits apart x (y ∷ ys) h =
    let parts = and_parts (admits x) (list_all admits (y ∷ ys)) h in
    split_front (text x) (list_text (map text (y ∷ ys))) (apart.lacks_comma x parts.0)
    ∙ ap (λ rest. text x ∷ rest) (split_joined text admits apart y ys parts.1)

-- items with the same texts are the same
items_same : {X : Type 0} (text : X → List ℕ) (admits : X → Bool) → AreApart text admits → (xs ys : List X) → list_all admits xs ≡ true → list_all admits ys ≡ true
    → map text xs ≡ map text ys → xs ≡ ys
items_same text admits apart [] [] h g e = refl
items_same text admits apart [] (y ∷ ys) h g e = absurd (cc (e))
items_same text admits apart (x ∷ xs) [] h g e = absurd (cc (e))
items_same text admits apart (x ∷ xs) (y ∷ ys) h g e =
    let a = and_parts (admits x) (list_all admits xs) h in
    let b = and_parts (admits y) (list_all admits ys) g in
    let first : text x ≡ text y = cc in
    let others : map text xs ≡ map text ys = cc in
    let head = apart.has_one_text x y a.0 b.0 first in
    let tail = items_same text admits apart xs ys a.1 b.1 others in
    λ i. head i ∷ tail i

-- the text `-` is that of no list with items
no_items : {X : Type 0} (text : X → List ℕ) (admits : X → Bool) → AreApart text admits → (x : X) (xs : List X) → list_all admits (x ∷ xs) ≡ true
    → list_text (map text (x ∷ xs)) ≢ 45 ∷ []
no_items text admits apart x xs h e =
    let parts : map text (x ∷ xs) ≡ (45 ∷ []) ∷ [] = sym (split_joined text admits apart x xs h) ∙ ap (slice_split is_comma) e in
    let first : text x ≡ 45 ∷ [] = cc in
    apart.is_no_dash x (and_parts (admits x) (list_all admits xs) h).0 first

-- a text is that of one list
pub lists_same : {X : Type 0} (text : X → List ℕ) (admits : X → Bool) → AreApart text admits → (xs ys : List X) → list_all admits xs ≡ true → list_all admits ys ≡ true
    → list_text (map text xs) ≡ list_text (map text ys) → xs ≡ ys
lists_same text admits apart [] [] h g e = refl
lists_same text admits apart [] (y ∷ ys) h g e = absurd (no_items text admits apart y ys g (sym e))
lists_same text admits apart (x ∷ xs) [] h g e = absurd (no_items text admits apart x xs h e)
lists_same text admits apart (x ∷ xs) (y ∷ ys) h g e =
    items_same text admits apart (x ∷ xs) (y ∷ ys) h g
    (sym (split_joined text admits apart x xs h) ∙ ap (slice_split is_comma) e ∙ split_joined text admits apart y ys g)

-- the parts of a text between commas, as texts of a list, make up the text
pub list_from_parts : (text : List ℕ) (parts : List (List ℕ)) → slice_split is_comma text ≡ parts → text ≡ list_text parts
list_from_parts text [] e = absurd (omega (arith, ap length e, length-slice_split is_comma text))
list_from_parts text (part ∷ parts) e = sym (join_with_byte-slice_split 44 text) ∙ ap (join_with_byte 44) e

-- a text other than `-` is a list's exactly as its parts are the items' texts
pub parts_from_list : {X : Type 0} (text : X → List ℕ) (admits : X → Bool) → AreApart text admits → (whole : List ℕ) (xs : List X) → whole ≢ 45 ∷ [] → list_all admits xs ≡ true
    → whole ≡ list_text (map text xs) → slice_split is_comma whole ≡ map text xs
parts_from_list text admits apart whole [] other h e = absurd (other e)
parts_from_list text admits apart whole (x ∷ xs) other h e = ap (slice_split is_comma) e ∙ split_joined text admits apart x xs h

item_behind : {X : Type 0} (text : X → List ℕ) (admits : X → Bool) (before : List X) (part : List ℕ) (others : List (List ℕ)) (xs : List X)
    → map text before ++ part ∷ others ≡ map text xs → list_all admits xs ≡ true → HasItem text admits part
item_behind text admits [] part others [] e h = absurd (cc (e))
item_behind text admits [] part others (x ∷ xs) e h = record { item = x; admitted = (and_parts (admits x) (list_all admits xs) h).0; spelled = cc }
item_behind text admits (b ∷ before) part others [] e h = absurd (cc (e))
item_behind text admits (b ∷ before) part others (x ∷ xs) e h =
    let rest : map text before ++ part ∷ others ≡ map text xs = cc in
    item_behind text admits before part others xs rest (and_parts (admits x) (list_all admits xs) h).1

-- the part before the next comma is the text of an item, where the parts are those of items
pub next_item : {X : Type 0} (text : X → List ℕ) (admits : X → Bool) (items : List X) (whole rest part after : List ℕ) (xs : List X)
    → slice_split is_comma whole ≡ map text items ++ slice_split is_comma rest → rest ≡ part ++ 44 ∷ after → lacks 44 part ≡ true
    → slice_split is_comma whole ≡ map text xs → list_all admits xs ≡ true → HasItem text admits part
next_item text admits items whole rest part after xs so_far cut first e h =
    item_behind text admits items part (slice_split is_comma after) xs
    (ap (λ parts. map text items ++ parts) (sym (ap (slice_split is_comma) cut ∙ split_front part after first)) ∙ sym so_far ∙ e) h

-- and so is the last part
pub last_item : {X : Type 0} (text : X → List ℕ) (admits : X → Bool) (items : List X) (whole rest : List ℕ) (xs : List X)
    → slice_split is_comma whole ≡ map text items ++ slice_split is_comma rest → lacks 44 rest ≡ true
    → slice_split is_comma whole ≡ map text xs → list_all admits xs ≡ true → HasItem text admits rest
last_item text admits items whole rest xs so_far none e h =
    item_behind text admits items rest [] xs (ap (λ parts. map text items ++ parts) (sym (split_whole rest none)) ∙ sym so_far ∙ e) h

-- one item more was read
pub parts_more : {X : Type 0} (text : X → List ℕ) (items more : List X) (x : X) (whole rest part after : List ℕ)
    → slice_split is_comma whole ≡ map text items ++ slice_split is_comma rest → rest ≡ part ++ 44 ∷ after → lacks 44 part ≡ true
    → part ≡ text x → more ≡ items ++ x ∷ [] → slice_split is_comma whole ≡ map text more ++ slice_split is_comma after
parts_more text items more x whole rest part after so_far cut first spelled pushed =
    so_far ∙ ap (λ parts. map text items ++ parts) (ap (slice_split is_comma) cut ∙ split_front part after first ∙ ap (λ p. p ∷ slice_split is_comma after) spelled)
    ∙ sym (append_assoc (map text items) (text x ∷ []) (slice_split is_comma after))
    ∙ ap (λ parts. parts ++ slice_split is_comma after) (sym (ap (map text) pushed ∙ map-append text items (x ∷ [])))

-- and the last one
pub parts_last : {X : Type 0} (text : X → List ℕ) (items more : List X) (x : X) (whole rest : List ℕ)
    → slice_split is_comma whole ≡ map text items ++ slice_split is_comma rest → lacks 44 rest ≡ true
    → rest ≡ text x → more ≡ items ++ x ∷ [] → slice_split is_comma whole ≡ map text more
parts_last text items more x whole rest so_far none spelled pushed =
    so_far ∙ ap (λ parts. map text items ++ parts) (split_whole rest none ∙ ap (λ p. p ∷ []) spelled)
    ∙ sym (ap (map text) pushed ∙ map-append text items (x ∷ []))

-- what stands before the rest of a text are parts, each the text of an item
pub record Passed {X : Type 0} (text : X → List ℕ) (admits : X → Bool) (whole rest : List ℕ) : Type 0 where
  pub items : List X
  pub admitted : list_all admits items ≡ true
  pub parts : slice_split is_comma whole ≡ map text items ++ slice_split is_comma rest

all_with : {X : Type 0} (admits : X → Bool) (items : List X) (x : X) → list_all admits items ≡ true → admits x ≡ true → list_all admits (items ++ x ∷ []) ≡ true
all_with admits items x h is = list_all-append admits items (x ∷ []) ∙ and_from _ _ h (and_from _ _ is refl)

pub passed_more : {X : Type 0} (text : X → List ℕ) (admits : X → Bool) (whole rest part after : List ℕ) → Passed text admits whole rest
    → rest ≡ part ++ 44 ∷ after → lacks 44 part ≡ true → HasItem text admits part → Passed text admits whole after
passed_more text admits whole rest part after so_far cut first has = record {
  items = so_far.items ++ has.item ∷ [];
  admitted = all_with admits so_far.items has.item so_far.admitted has.admitted;
  parts = parts_more text so_far.items (so_far.items ++ has.item ∷ []) has.item whole rest part after so_far.parts cut first has.spelled refl;
}

pub passed_all : {X : Type 0} (text : X → List ℕ) (admits : X → Bool) (whole rest : List ℕ) → Passed text admits whole rest
    → lacks 44 rest ≡ true → HasItem text admits rest → HasItems text admits whole
passed_all text admits whole rest so_far none has = record {
  items = so_far.items ++ has.item ∷ [];
  admitted = all_with admits so_far.items has.item so_far.admitted has.admitted;
  parts = parts_last text so_far.items (so_far.items ++ has.item ∷ []) has.item whole rest so_far.parts none has.spelled refl;
}

-- a part that is no item's text is none of a list's
pub no_next : {X : Type 0} (text : X → List ℕ) (admits : X → Bool) (whole rest part after : List ℕ) → Passed text admits whole rest
    → rest ≡ part ++ 44 ∷ after → lacks 44 part ≡ true → ((x : X) → admits x ≡ true → part ≢ text x)
    → (xs : List X) → list_all admits xs ≡ true → slice_split is_comma whole ≢ map text xs
no_next text admits whole rest part after so_far cut first none xs h e =
    let has = next_item text admits so_far.items whole rest part after xs so_far.parts cut first e h in
    none has.item has.admitted has.spelled

pub no_last : {X : Type 0} (text : X → List ℕ) (admits : X → Bool) (whole rest : List ℕ) → Passed text admits whole rest
    → lacks 44 rest ≡ true → ((x : X) → admits x ≡ true → rest ≢ text x)
    → (xs : List X) → list_all admits xs ≡ true → slice_split is_comma whole ≢ map text xs
no_last text admits whole rest so_far lacking none xs h e =
    let has = last_item text admits so_far.items whole rest xs so_far.parts lacking e h in
    none has.item has.admitted has.spelled

-- a text starts with its first part
pub starts_cut : (whole part after : List ℕ) → whole ≡ part ++ 44 ∷ after → lacks 44 part ≡ true → StartsWith part whole
starts_cut whole part after cut first = record { others = slice_split is_comma after; parts = ap (slice_split is_comma) cut ∙ split_front part after first }

pub starts_whole : (whole : List ℕ) → lacks 44 whole ≡ true → StartsWith whole whole
starts_whole whole none = record { others = []; parts = split_whole whole none }

-- the rest of a text is what items of a list make, and the list rises exactly where they do
pub record Behind {X : Type 0} (text : X → List ℕ) (admits : X → Bool) (order : X → X → Ordering) (xs : List X) (rest : List ℕ) : Type 0 where
  pub items : List X
  pub admitted : list_all admits items ≡ true
  pub parts : slice_split is_comma rest ≡ map text items
  pub same : rises order items ≡ rises order xs

-- the first two items of the rest
pub record Two {X : Type 0} (text : X → List ℕ) (admits : X → Bool) (items : List X) (part next : List ℕ) (behind : List (List ℕ)) : Type 0 where
  pub first : X
  pub second : X
  pub more : List X
  pub are : items ≡ first ∷ second ∷ more
  pub first_admitted : admits first ≡ true
  pub second_admitted : admits second ≡ true
  pub first_spelled : part ≡ text first
  pub second_spelled : next ≡ text second
  pub others_admitted : list_all admits (second ∷ more) ≡ true
  pub others_spelled : behind ≡ map text (second ∷ more)

two_of : {X : Type 0} (text : X → List ℕ) (admits : X → Bool) (items : List X) (part next : List ℕ) (others : List (List ℕ)) → list_all admits items ≡ true
    → part ∷ next ∷ others ≡ map text items → Two text admits items part next (next ∷ others)
two_of text admits [] part next others h e = absurd (cc (e))
two_of text admits (x ∷ []) part next others h e = absurd (cc (e))
two_of text admits (x ∷ y ∷ more) part next others h e =
    let outer = and_parts (admits x) (list_all admits (y ∷ more)) h in
    let inner = and_parts (admits y) (list_all admits more) outer.1 in
    record {
      first = x;
      second = y;
      more = more;
      are = refl;
      first_admitted = outer.0;
      second_admitted = inner.0;
      first_spelled = cc;
      second_spelled = cc;
      others_admitted = outer.1;
      others_spelled = cc;
    }

pub two_behind : {X : Type 0} (text : X → List ℕ) (admits : X → Bool) (order : X → X → Ordering) (xs : List X) (rest part after next : List ℕ) (b : Behind text admits order xs rest)
    → rest ≡ part ++ 44 ∷ after → lacks 44 part ≡ true → (s : StartsWith next after) → Two text admits b.items part next (next ∷ s.others)
two_behind text admits order xs rest part after next b cut first s =
    two_of text admits b.items part next s.others b.admitted
    (ap (λ others. part ∷ others) (sym s.parts) ∙ sym (split_front part after first) ∙ sym (ap (slice_split is_comma) cut) ∙ b.parts)

-- two that don't rise
pub falls_there : {X : Type 0} (text : X → List ℕ) (admits : X → Bool) (order : X → X → Ordering) (xs : List X) (rest part next : List ℕ) (others : List (List ℕ)) (b : Behind text admits order xs rest)
    → (two : Two text admits b.items part next others) → is_lt (order two.first two.second) ≡ false → rises order xs ≡ false
falls_there text admits order xs rest part next others b two falls =
    sym b.same ∙ ap (rises order) two.are ∙ ap (λ (l : Bool). l && rises order (two.second ∷ two.more)) falls

-- two that rise
pub behind_more : {X : Type 0} (text : X → List ℕ) (admits : X → Bool) (order : X → X → Ordering) (xs : List X) (rest part after next : List ℕ) (b : Behind text admits order xs rest)
    → (s : StartsWith next after) → (two : Two text admits b.items part next (next ∷ s.others)) → is_lt (order two.first two.second) ≡ true → Behind text admits order xs after
behind_more text admits order xs rest part after next b s two rising = record {
  items = two.second ∷ two.more;
  admitted = two.others_admitted;
  parts = s.parts ∙ two.others_spelled;
  same = sym (ap (rises order) two.are ∙ ap (λ (l : Bool). l && rises order (two.second ∷ two.more)) rising) ∙ b.same;
}

-- the last item rises
one_part : {X : Type 0} (text : X → List ℕ) (order : X → X → Ordering) (items : List X) (rest : List ℕ) → rest ∷ [] ≡ map text items → rises order items ≡ true
one_part text order [] rest e = refl
one_part text order (x ∷ []) rest e = refl
one_part text order (x ∷ y ∷ more) rest e = absurd (cc (e))

pub rises_there : {X : Type 0} (text : X → List ℕ) (admits : X → Bool) (order : X → X → Ordering) (xs : List X) (rest : List ℕ) → Behind text admits order xs rest
    → lacks 44 rest ≡ true → rises order xs ≡ true
rises_there text admits order xs rest b none = sym b.same ∙ one_part text order b.items rest (sym (split_whole rest none) ∙ b.parts)
