-- How many sources give something after some entries: a put, and documents, each as often as it names it.
use Rattle.std.specs.Prelude.{ℕ, ◌+◌, Bool, nat_lt, List, [], ◌∷◌, Option, Some, None, if◌then◌else◌}
use Rattle.sg_names.specs.declared.grants.Grantee.{Grantee}
use Rattle.sg_names.specs.declared.grants.Grantee.TheVariants.{User, Role}
use Rattle.sg_history.specs.declared.entries.Entry.{Entry}
use Rattle.sg_history.specs.declared.entries.Write.{Write}
use Rattle.sg_history.specs.History.{among, as_write}
use Rattle.sg_history.specs.Current.{current}
use Rattle.sg_history.specs.Principals.{PrincipalState, user_at, role_at}
use Rattle.grant_history.specs.declared.facts.Fact.{Fact}
use Rattle.grant_history.specs.Facts.{times, put_facts, document_facts}

-- what a user or a role was given, none where it does not exist
abbrev pub principal_of : List Entry → Grantee → Option PrincipalState
principal_of es (User user) = user_at es user
principal_of es (Role role) = role_at es role

-- documents with that of a write, unless it is there
abbrev pub with_document : Option Write → List (List ℕ) → List (List ℕ)
with_document None docs = docs
with_document (Some w) docs = if among docs w.doc then docs else w.doc ∷ docs

-- the documents that were written, each once
abbrev pub documents_once : List Entry → List (List ℕ)
documents_once [] = []
documents_once (e ∷ older) = with_document (as_write e) (documents_once older)

-- how often these documents give something as they are
abbrev pub given_by : List Entry → List (List ℕ) → Fact → ℕ
given_by es [] f = 0
given_by es (doc ∷ docs) f = times (document_facts (current es doc)) f + given_by es docs f

-- how many sources give something
abbrev pub sources : List Entry → Fact → ℕ
sources es f = times (put_facts f.of (principal_of es f.of)) f + given_by es (documents_once es) f

-- whether any source gives it
abbrev pub is_held : List Entry → Fact → Bool
is_held es f = nat_lt 0 (sources es f)
