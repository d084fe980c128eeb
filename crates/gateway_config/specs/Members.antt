-- What the members of a configuration are read as, over the values of JSON.
use Rattle.std.specs.Prelude.{ℕ, Bool, List, [], ◌∷◌, Option, Some, None, option_map, option_and_then, unwrap_or, if◌then◌else◌}
use Rattle.std.specs.Str.{is_utf8}
use Rattle.serde_json.specs.Data.{Data, Items, no_items, item, Members, no_members}
use Rattle.serde_json.specs.Find.{as_array, as_number, as_object, as_str, as_u64}
use Rattle.serde_json.specs.Read.{read}
use Rattle.gateway_config.specs.Grammar.{is_count}

-- what the bytes are read as, which are JSON in UTF-8; of two members of one name the last stays
abbrev pub config_json : List ℕ → Option Data
config_json bytes = if is_utf8 bytes then read bytes else None

-- the members of an object; other values have none
abbrev pub members_in : Data → Members
members_in d = unwrap_or (as_object d) no_members

-- what passes a test
abbrev pub passing : {A : Type 0} → (A → Bool) → Option A → Option A
passing test None = None
passing test (Some a) = if test a then Some a else None

-- the text that a value is, where it is one in this grammar
abbrev pub member_text : (List ℕ → Bool) → Data → Option (List ℕ)
member_text grammar d = passing grammar (as_str d)

-- the count that a value is, where it is one: a number that is written without a fraction or an exponent
abbrev pub count_of_value : Data → Option ℕ
count_of_value d = passing is_count (option_and_then as_u64 (as_number d))

-- a text before others
abbrev pub put_first : Option (List ℕ) → Option (List (List ℕ)) → Option (List (List ℕ))
put_first text texts = option_and_then (λ t. option_map (λ ts. t ∷ ts) texts) text

-- the texts that the items of a list are, where each is one in this grammar
abbrev pub grammar_texts : (List ℕ → Bool) → Items → Option (List (List ℕ))
grammar_texts grammar no_items = Some []
grammar_texts grammar (item d ds) = put_first (member_text grammar d) (grammar_texts grammar ds)

-- the texts of a list, in its order, where it is one of texts in this grammar
abbrev pub member_texts : (List ℕ → Bool) → Data → Option (List (List ℕ))
member_texts grammar d = option_and_then (λ ds. grammar_texts grammar ds) (as_array d)

-- what the value of a member is read as, or another value where there is none
abbrev pub read_or : {A : Type 0} → (Data → Option A) → A → Option Data → A
read_or reading other None = other
read_or reading other (Some d) = unwrap_or (reading d) other
