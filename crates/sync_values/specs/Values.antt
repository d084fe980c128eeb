-- Values: which a document has, and what the operators and methods make of them.
use Rattle.std.specs.Prelude.{ℕ, ◌+◌, ℤ, pos, negsuc, ◌+ℤ◌, ◌-ℤ◌, ◌*ℤ◌, neg_ℤ, nat_lt, nat_eq, Bool, true, false, not, ◌&&◌, ◌||◌, if◌then◌else◌, codes, List, [], ◌∷◌, ◌++◌, length, slice_get, Option, Some, None, unwrap_or, Ok, Err}
use Rattle.std.specs.Fmt.{signed_decimal}
use Rattle.std.specs.List.{starts_with}
use Rattle.std.specs.Ordering.{nat_cmp, int_cmp, int_eq, is_lt, is_gt}
use Rattle.std.specs.Cmp.Lexicographic.{slice_cmp}
use Rattle.std.specs.Str.{bytes_eq}
use Rattle.std.specs.declared.cmp.Ordering.{Ordering}
use Rattle.json_doc.specs.Tree.{Tree, null, boolean, integer, opaque, text, list, object, Trees, no_trees, tree, Fields, no_fields, field}
use Rattle.json_doc.specs.Reading.{is_safe}
use Rattle.sync_tokens.specs.declared.place.Place.{Place}
use Rattle.sync_syntax.specs.declared.tree.Operator.{Operator}
use Rattle.sync_syntax.specs.declared.tree.Operator.TheVariants as op
use Rattle.sync_syntax.specs.declared.tree.Prefix.{Prefix}
use Rattle.sync_syntax.specs.declared.tree.Prefix.TheVariants as prefix
use Rattle.sync_values.specs.declared.callee.Method.{Method}
use Rattle.sync_values.specs.declared.callee.Method.TheVariants as m
use Rattle.sync_values.specs.declared.fault.FaultKind.TheVariants.{NullMember, Range, Size}
use Rattle.sync_values.specs.declared.value.Value.{Value, out-Value}
use Rattle.sync_values.specs.declared.value.Value.TheOpen.{Value-F}
use Rattle.sync_values.specs.declared.value.Value.TheVariants as v
use Rattle.sync_values.specs.Found.{Found, fails, type_fault}
pub use Rattle.sync_values.specs.Units.{units_of, units}

-- a value as it is seen from outside
abbrev pub Layer : Type 0
Layer = Value-F Value

-- ---- the values of a document

abbrev mutual
  -- what a tree of a document is as a value
  pub value_of : Tree → Value
  value_of null = v.Null
  value_of (boolean b) = v.Bool b
  value_of (integer z) = v.Integer z
  value_of opaque = v.Opaque
  value_of (text s) = v.Text s
  value_of (list ts) = v.List (values_of ts)
  value_of (object fs) = v.Object (members_of fs)

  pub values_of : Trees → List Value
  values_of no_trees = []
  values_of (tree t ts) = value_of t ∷ values_of ts

  pub members_of : Fields → List (List ℕ × Value)
  members_of no_fields = []
  members_of (field name t fs) = (name, value_of t) ∷ members_of fs

-- what stands last under a name, else what was found before
abbrev pub last_from : {A : Type 0} → List ℕ → Option A → List (List ℕ × A) → Option A
last_from name found [] = found
last_from name found (m ∷ ms) = last_from name (if bytes_eq name m.0 then Some m.1 else found) ms

-- what stands last under a name
unfoldable pub last_named : {A : Type 0} → List ℕ → List (List ℕ × A) → Option A
last_named name ms = last_from name None ms

-- ---- truth

-- undefined, null, false, 0 and the empty text are false, an opaque number is a fault, and all else is true
abbrev pub truth_at : Place → Layer → Found Bool
truth_at p Value-F.Undefined = Ok false
truth_at p Value-F.Null = Ok false
truth_at p (Value-F.Bool b) = Ok b
truth_at p (Value-F.Integer z) = Ok (not (int_eq z (pos 0)))
truth_at p Value-F.Opaque = type_fault p
truth_at p (Value-F.Text s) = Ok (nat_lt 0 (length s))
truth_at p (Value-F.List vs) = Ok true
truth_at p (Value-F.Object ms) = Ok true

-- whether a value counts as true
unfoldable pub truth : Place → Value → Found Bool
truth p x = truth_at p (out-Value x)

-- ---- numbers and texts

-- an integer, unless it is outside plus or minus 9007199254740991
unfoldable pub bounded : Place → ℤ → Found Value
bounded p z = if is_safe z then Ok (v.Integer z) else fails Range p

-- a text of two, which has at most 4,096 bytes
unfoldable pub joined_texts : Place → List ℕ → List ℕ → Found Value
joined_texts p a b = if nat_lt 4096 (length a + length b) then fails Size p else Ok (v.Text (a ++ b))

-- `+` adds integers, and joins two texts or a text and an integer in decimal
abbrev pub added_at : Place → Layer → Layer → Found Value
added_at p (Value-F.Integer a) (Value-F.Integer b) = bounded p (a +ℤ b)
added_at p (Value-F.Text a) (Value-F.Text b) = joined_texts p a b
added_at p (Value-F.Text a) (Value-F.Integer b) = joined_texts p a (signed_decimal b)
added_at p (Value-F.Integer a) (Value-F.Text b) = joined_texts p (signed_decimal a) b
added_at p _ _ = type_fault p

-- what `+` makes of two values
unfoldable pub added_values : Place → Value → Value → Found Value
added_values p x y = added_at p (out-Value x) (out-Value y)

-- the integer that a value is
abbrev pub integer_at : Place → Layer → Found ℤ
integer_at p (Value-F.Integer z) = Ok z
integer_at p _ = type_fault p

-- the integer that a value is; another value is a fault
unfoldable pub integer_in : Place → Value → Found ℤ
integer_in p x = integer_at p (out-Value x)

-- what was found, and what is made of it
abbrev pub found_then : {A B : Type 0} → Found A → (A → Found B) → Found B
found_then (Ok a) f = f a
found_then (Err e) f = Err e

-- two integers
unfoldable pub calculated : Place → (ℤ → ℤ → ℤ) → Value → Value → Found Value
calculated p f x y = found_then (integer_in p x) (λ a. found_then (integer_in p y) (λ b. bounded p (f a b)))

-- the integer below 0 by as much as a value is above it
unfoldable pub negated : Place → Value → Found Value
negated p x = found_then (integer_in p x) (λ z. bounded p (neg_ℤ z))

-- ---- order and equality

-- two integers, or two texts by their code points, which UTF-8 orders as it does bytes
abbrev pub compared_at : Place → Layer → Layer → Found Ordering
compared_at p (Value-F.Integer a) (Value-F.Integer b) = Ok (int_cmp a b)
compared_at p (Value-F.Text a) (Value-F.Text b) = Ok (slice_cmp nat_cmp a b)
compared_at p _ _ = type_fault p

-- which of two values comes first
unfoldable pub compared : Place → Value → Value → Found Ordering
compared p x y = compared_at p (out-Value x) (out-Value y)

-- null and undefined, seen from outside
abbrev pub is_nothing_at : Layer → Bool
is_nothing_at Value-F.Undefined = true
is_nothing_at Value-F.Null = true
is_nothing_at _ = false

-- null and undefined
unfoldable pub is_nothing : Value → Bool
is_nothing x = is_nothing_at (out-Value x)

-- whether two truth values are the same
abbrev pub same_truth : Bool → Bool → Bool
same_truth a b = if a then b else not b

-- the same kind and the same value, where the kind is null, undefined, a truth value, an integer or a text
abbrev pub same_at : Layer → Layer → Bool
same_at Value-F.Undefined Value-F.Undefined = true
same_at Value-F.Null Value-F.Null = true
same_at (Value-F.Bool a) (Value-F.Bool b) = same_truth a b
same_at (Value-F.Integer a) (Value-F.Integer b) = int_eq a b
same_at (Value-F.Text a) (Value-F.Text b) = bytes_eq a b
same_at _ _ = false

-- whether two values are of the same kind and value
unfoldable pub same : Value → Value → Bool
same x y = same_at (out-Value x) (out-Value y)

-- two truth values, two integers or two texts
abbrev pub is_alike_at : Layer → Layer → Bool
is_alike_at (Value-F.Bool a) (Value-F.Bool b) = true
is_alike_at (Value-F.Integer a) (Value-F.Integer b) = true
is_alike_at (Value-F.Text a) (Value-F.Text b) = true
is_alike_at _ _ = false

-- whether two values compare by value where neither is null or undefined
unfoldable pub is_alike : Value → Value → Bool
is_alike x y = is_alike_at (out-Value x) (out-Value y)

-- `==`: null and undefined equal one another and nothing else; else two of a kind compare by value
unfoldable pub loosely_equal : Place → Value → Value → Found Bool
loosely_equal p x y =
    if is_nothing x || is_nothing y then Ok (is_nothing x && is_nothing y)
    else (if is_alike x y then Ok (same x y) else type_fault p)

-- two lists, two objects, two opaque numbers, or an integer and an opaque number
abbrev pub cannot_equal_at : Layer → Layer → Bool
cannot_equal_at (Value-F.List a) (Value-F.List b) = true
cannot_equal_at (Value-F.Object a) (Value-F.Object b) = true
cannot_equal_at Value-F.Opaque Value-F.Opaque = true
cannot_equal_at Value-F.Opaque (Value-F.Integer b) = true
cannot_equal_at (Value-F.Integer a) Value-F.Opaque = true
cannot_equal_at _ _ = false

-- whether two values are of kinds that `===` can't compare
unfoldable pub cannot_equal : Value → Value → Bool
cannot_equal x y = cannot_equal_at (out-Value x) (out-Value y)

-- `===`: different kinds are not equal, and the same kind compares by value
unfoldable pub strictly_equal : Place → Value → Value → Found Bool
strictly_equal p x y = if cannot_equal x y then type_fault p else Ok (same x y)

-- a truth as a value
abbrev pub truth_value : Found Bool → Found Value
truth_value r = found_then r (λ b. Ok (v.Bool b))

-- the other truth as a value
abbrev pub not_that : Found Bool → Found Value
not_that r = found_then r (λ b. Ok (v.Bool (not b)))

-- whether the order of two values is as wanted
abbrev pub ordered : Place → (Ordering → Bool) → Value → Value → Found Value
ordered p holds x y = found_then (compared p x y) (λ o. Ok (v.Bool (holds o)))

-- ---- operators, where both operands are evaluated

-- what an operator makes of both operands, of which `||` and `&&` want the second alone
abbrev pub combined : Place → Operator → Value → Value → Found Value
combined p op.Add x y = added_values p x y
combined p op.Subtract x y = calculated p (λ a b. a -ℤ b) x y
combined p op.Multiply x y = calculated p (λ a b. a *ℤ b) x y
combined p op.Less x y = ordered p is_lt x y
combined p op.LessOrEqual x y = ordered p (λ o. not (is_gt o)) x y
combined p op.Greater x y = ordered p is_gt x y
combined p op.GreaterOrEqual x y = ordered p (λ o. not (is_lt o)) x y
combined p op.Equal x y = truth_value (loosely_equal p x y)
combined p op.NotEqual x y = not_that (loosely_equal p x y)
combined p op.Same x y = truth_value (strictly_equal p x y)
combined p op.NotSame x y = not_that (strictly_equal p x y)
combined p op.Or x y = Ok y
combined p op.And x y = Ok y

-- the name of a value's kind
abbrev pub kind_name_at : Layer → List ℕ
kind_name_at Value-F.Undefined = codes "undefined"
kind_name_at Value-F.Null = codes "object"
kind_name_at (Value-F.Bool b) = codes "boolean"
kind_name_at (Value-F.Integer z) = codes "number"
kind_name_at Value-F.Opaque = codes "number"
kind_name_at (Value-F.Text s) = codes "string"
kind_name_at (Value-F.List vs) = codes "object"
kind_name_at (Value-F.Object ms) = codes "object"

-- what `typeof` gives
unfoldable pub kind_name : Value → List ℕ
kind_name x = kind_name_at (out-Value x)

-- what an operator before its operand makes of it
abbrev pub prefixed : Place → Prefix → Value → Found Value
prefixed p prefix.Not x = not_that (truth p x)
prefixed p prefix.Negate x = negated p x
prefixed p prefix.Typeof x = Ok (v.Text (kind_name x))

-- ---- members

-- a value, or undefined where there is none
abbrev pub or_undefined : Option Value → Value
or_undefined x = unwrap_or x v.Undefined

-- a count under the name `length`, and undefined under any other
abbrev pub length_or : List ℕ → ℕ → Value
length_or name n = if bytes_eq name (codes "length") then v.Integer (pos n) else v.Undefined

-- the member of a value that is seen from outside
abbrev pub member_at : Place → List ℕ → Layer → Found Value
member_at p name Value-F.Undefined = fails NullMember p
member_at p name Value-F.Null = fails NullMember p
member_at p name (Value-F.Object ms) = Ok (or_undefined (last_named name ms))
member_at p name (Value-F.List vs) = Ok (length_or name (length vs))
member_at p name (Value-F.Text s) = Ok (length_or name (units s))
member_at p name _ = Ok v.Undefined

-- `.name`: an object's member, the `.length` of a list or of a text in units of UTF-16, else undefined
unfoldable pub member : Place → List ℕ → Value → Found Value
member p name x = member_at p name (out-Value x)

-- the item at a place of a list, from 0 on, or undefined
abbrev pub item_at : List Value → ℤ → Value
item_at vs (pos n) = or_undefined (slice_get vs n)
item_at vs (negsuc n) = v.Undefined

-- what stands at an index, of values that are seen from outside
abbrev pub indexed_at : Place → Layer → Layer → Found Value
indexed_at p Value-F.Undefined i = fails NullMember p
indexed_at p Value-F.Null i = fails NullMember p
indexed_at p (Value-F.Object ms) (Value-F.Text s) = Ok (or_undefined (last_named s ms))
indexed_at p (Value-F.List vs) (Value-F.Integer z) = Ok (item_at vs z)
indexed_at p _ i = type_fault p

-- `[e]`: an object takes a text and a list an integer; what isn't there is undefined
unfoldable pub indexed : Place → Value → Value → Found Value
indexed p x i = indexed_at p (out-Value x) (out-Value i)

-- ---- methods

-- what can be sought in a list, seen from outside
abbrev pub can_be_sought_at : Layer → Bool
can_be_sought_at Value-F.Opaque = false
can_be_sought_at (Value-F.List vs) = false
can_be_sought_at (Value-F.Object ms) = false
can_be_sought_at _ = true

-- neither a list nor an object nor an opaque number
unfoldable pub can_be_sought : Value → Bool
can_be_sought x = can_be_sought_at (out-Value x)

-- the place of the first item that is the same, counted from n, else -1
abbrev pub index_from : ℕ → Value → List Value → ℤ
index_from n x [] = negsuc 0
index_from n x (y ∷ ys) = if same x y then pos n else index_from (n + 1) x ys

-- a list has at most 1,024 items
unfoldable pub listed_values : Place → List Value → Found Value
listed_values p vs = if nat_lt 1024 (length vs) then fails Size p else Ok (v.List vs)

-- where a value stands in a list that is seen from outside
abbrev pub index_at : Place → Layer → Value → Found Value
index_at p (Value-F.List vs) x = if can_be_sought x then Ok (v.Integer (index_from 0 x vs)) else type_fault p
index_at p _ x = type_fault p

-- `list.indexOf(x)`
unfoldable pub index_of : Place → Value → Value → Found Value
index_of p x y = index_at p (out-Value x) y

-- two lists in one, seen from outside
abbrev pub concat_at : Place → Layer → Layer → Found Value
concat_at p (Value-F.List vs) (Value-F.List ws) = listed_values p (vs ++ ws)
concat_at p _ _ = type_fault p

-- `list.concat(list)`
unfoldable pub concat : Place → Value → Value → Found Value
concat p x y = concat_at p (out-Value x) (out-Value y)

-- whether a text begins with another, seen from outside
abbrev pub begins_at : Place → Layer → Layer → Found Value
begins_at p (Value-F.Text s) (Value-F.Text t) = Ok (v.Bool (starts_with nat_eq s t))
begins_at p _ _ = type_fault p

-- `text.startsWith(text)`
unfoldable pub text_begins_with : Place → Value → Value → Found Value
text_begins_with p x y = begins_at p (out-Value x) (out-Value y)

-- a list, seen from outside
abbrev pub is_list_at : Layer → Bool
is_list_at (Value-F.List vs) = true
is_list_at _ = false

-- `Array.isArray(x)`
unfoldable pub is_list : Value → Bool
is_list x = is_list_at (out-Value x)

-- what a method gives; another count of arguments is a fault here
abbrev pub by_method : Place → Method → Value → List Value → Found Value
by_method p m.IndexOf x (y ∷ []) = index_of p x y
by_method p m.Concat x (y ∷ []) = concat p x y
by_method p m.StartsWith x (y ∷ []) = text_begins_with p x y
by_method p _ x _ = type_fault p
