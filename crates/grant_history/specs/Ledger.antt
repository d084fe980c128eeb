-- What is kept of sources, and when that is what a history says.
use Rattle.std.specs.Prelude.{◌≡◌, ℕ, ◌+◌, Bool, false, List, [], ◌∷◌, ◌++◌, length, String, Option, Some, None, if◌then◌else◌}
use Rattle.std.specs.BTreeMap.{BTreeMap, get_by_text}
use Rattle.std.specs.Global.{Global}
use Rattle.std.specs.Str.{bytes_eq}
use Rattle.sg_names.specs.declared.grants.Grantee.{Grantee}
use Rattle.sg_names.specs.declared.grants.Grantee.TheVariants.{User, Role}
use Rattle.sg_history.specs.declared.entries.Entry.{Entry}
use Rattle.sg_history.specs.declared.entries.Mark.{Mark}
use Rattle.sg_history.specs.declared.entries.Write.{Write}
use Rattle.sg_history.specs.History.{as_sync, as_write}
use Rattle.sg_history.specs.Current.{current}
use Rattle.sg_history.specs.Principals.{user_at, role_at}
use Rattle.log_index.specs.declared.marks.Marked.{Marked}
use Rattle.log_index.specs.Marks.{mark_in_place}
use Rattle.grant_history.specs.declared.facts.Fact.{Fact}
use Rattle.grant_history.specs.declared.ledger.Ledger.{Ledger}
use Rattle.grant_history.specs.declared.ledger.SourceFacts.{SourceFacts}
use Rattle.grant_history.specs.declared.ledger.Source as code
use Rattle.grant_history.specs.declared.ledger.Source.TheVariants as kind
use Rattle.grant_history.specs.Facts.{times, put_facts, grant_facts, gift_facts, document_facts, mark_facts}
use Rattle.grant_history.specs.Store.{count_at, has_at, IsStore}
use Rattle.grant_history.specs.Sources.{sources, is_held}

-- what gives something: a document, or the last put of a user or a role
pub data Source : Type 0 where
  document : List ℕ → Source
  user : List ℕ → Source
  role : List ℕ → Source

abbrev pub source_in : code.Source → Source
source_in (kind.Document doc) = document doc.now
source_in (kind.User name) = user name.now
source_in (kind.Role name) = role name.now

-- the put of a user or a role as a source
abbrev pub holder : Grantee → Source
holder (User name) = user name
holder (Role name) = role name

-- whether both are the same
abbrev pub same_source : Source → Source → Bool
same_source (document a) (document b) = bytes_eq a b
same_source (document a) (user b) = false
same_source (document a) (role b) = false
same_source (user a) (document b) = false
same_source (user a) (user b) = bytes_eq a b
same_source (user a) (role b) = false
same_source (role a) (document b) = false
same_source (role a) (user b) = false
same_source (role a) (role b) = bytes_eq a b

-- what the document of a write gives where this is the write of its winner
abbrev pub facts_of_write : Option Write → List Fact
facts_of_write None = []
facts_of_write (Some w) = grant_facts w.grants ++ gift_facts w.roles

abbrev pub write_facts : Entry → List Fact
write_facts e = facts_of_write (as_write e)

-- what a mark gives, where there is one
abbrev pub facts_of_mark : Option Mark → List Fact
facts_of_mark None = []
facts_of_mark (Some mark) = mark_facts mark

-- what an entry gives that has the effects of a winner: by its write, or by this one of its marks
abbrev pub facts_read : Entry → Option Marked → List Fact
facts_read e None = write_facts e
facts_read e (Some m) = facts_of_mark (mark_in_place (as_sync e) m.mark)

-- the same where there is such an entry
abbrev pub facts_read_in : Option Entry → Option Marked → List Fact
facts_read_in None marked = []
facts_read_in (Some e) marked = facts_read e marked

-- what a source gives after some entries
abbrev pub given : List Entry → Source → List Fact
given es (document doc) = document_facts (current es doc)
given es (user name) = put_facts (User name) (user_at es name)
given es (role name) = put_facts (Role name) (role_at es name)

-- each source gives the same after these entries and after those
abbrev pub GiveSame : List Entry → List Entry → Type 0
GiveSame later earlier = (s : Source) → given later s ≡ given earlier s

abbrev pub Lists : Type 0
Lists = BTreeMap (String Global) SourceFacts

abbrev pub facts_of_list : Option SourceFacts → List Fact
facts_of_list None = []
facts_of_list (Some list) = list.facts.items

-- what is kept under a name
abbrev pub facts_in : Lists → List ℕ → List Fact
facts_in lists name = facts_of_list (get_by_text lists name)

-- what is kept of a source
abbrev pub facts_from : Ledger → Source → List Fact
facts_from kept (document doc) = facts_in kept.documents doc
facts_from kept (user name) = facts_in kept.users name
facts_from kept (role name) = facts_in kept.roles name

-- what is kept of each document
abbrev pub kept_of : Ledger → List ℕ → List Fact
kept_of kept doc = facts_in kept.documents doc

-- what is kept is what the sources give after these entries
pub record IsLedger (kept : Ledger) (es : List Entry) : Type 0 where
  pub lists : (s : Source) → facts_from kept s ≡ given es s
  pub counts : (f : Fact) → count_at kept.store f ≡ sources es f
  pub up_to : IsStore kept.store (length es + 1)

-- the entry at a place makes one source give other facts
pub record IsStep (kept : Ledger) (at : ℕ) (source : Source) (facts : List Fact) (e : Entry) (es : List Entry) : Type 0 where
  pub place : at ≡ length es + 1
  pub is_kept : IsLedger kept es
  pub others : (s : Source) → given (e ∷ es) s ≡ (if same_source source s then facts else given es s)
  pub sums : (f : Fact) → sources (e ∷ es) f + times (given es source) f ≡ sources es f + times facts f

-- what is kept is right after the entry at this place, and so is what is held there
pub record Took (kept : Ledger) (at : ℕ) (e : Entry) (es : List Entry) : Type 0 where
  pub is_kept : IsLedger kept (e ∷ es)
  pub now : (f : Fact) → has_at kept.store f at ≡ is_held (e ∷ es) f
