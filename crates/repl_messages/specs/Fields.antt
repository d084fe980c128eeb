-- The properties of requests: how each is named, and how a bad one is refused.
use Rattle.std.specs.Prelude.{◌≡◌, ℕ, Bool, List, Option, Some, None, Result, Ok, Err, IsTrue, codes}
use Rattle.repl_messages.specs.declared.request.Field.{Field}
use Rattle.repl_messages.specs.declared.request.Field.TheVariants as fields
use Rattle.repl_messages.specs.declared.request.RequestFault.{RequestFault}
use Rattle.repl_messages.specs.declared.request.RequestFault.TheVariants.{Bad400}

infixl 10 ◌>>=◌
abbrev pub ◌>>=◌ : {A B : Type 0} → Result A RequestFault → (A → Result B RequestFault) → Result B RequestFault
(Ok x) >>= f = f x
(Err e) >>= f = Err e

-- the word by which a property, or the body, is named
abbrev pub field_text : Field → List ℕ
field_text fields.Client = codes "client"
field_text fields.Rev = codes "rev"
field_text fields.Since = codes "since"
field_text fields.Batch = codes "batch"
field_text fields.Filter = codes "filter"
field_text fields.Channels = codes "channels"
field_text fields.Rows = codes "rows"
field_text fields.Id = codes "id"
field_text fields.History = codes "history"
field_text fields.Body = codes "body"

-- the value found, else that the property is bad
abbrev pub or_bad : {A : Type 0} → Field → Option A → Result A RequestFault
or_bad field (Some x) = Ok x
or_bad field None = Err (Bad400 field)

-- the value of which this holds, or none where it holds of none
abbrev pub IsFound : {A : Type 0} → (A → Type 0) → Option A → Type 0
IsFound P (Some x) = P x
IsFound {A} P None = (x : A) → ¬ P x

-- what a text is read as: the value in its grammar of which it is the text, or none where it is that of no such value
abbrev pub IsReadAs : {A : Type 0} → (A → List ℕ) → (A → Bool) → List ℕ → Option A → Type 0
IsReadAs text_of admits text found = IsFound (λ x. IsTrue (admits x) × (text ≡ text_of x)) found
