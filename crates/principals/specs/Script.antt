-- Administrators' scripts. The first line is `sgadmin 1`, and each further line is a command or a revision. Fields are
-- parted by one TAB, and each line ends with a line feed.
use Rattle.std.specs.Prelude.{◌≡◌, ℕ, Bool, true, ◌&&◌, nat_lt, List, [], ◌∷◌, ◌++◌, Option, Some, None, codes, IsTrue, IsUtf8}
use Rattle.std.specs.List.{join_with_byte}
use Rattle.sg_names.specs.declared.rev_id.RevId.{RevId}
use Rattle.sg_names.specs.Grammar.{is_doc_id}
use Rattle.sg_names.specs.RevId.{rev_text, is_rev}
use Rattle.sg_names.specs.Channels.{channels_text}
use Rattle.sg_names.specs.Names.{names_text}
use Rattle.sg_names.specs.Hex.{hex_text}
use Rattle.sg_history.specs.declared.entries.Entry.{Entry}
use Rattle.sg_history.specs.declared.entries.Entry.TheVariants as entry
use Rattle.sg_history.specs.Journal.{IsEntry, is_body, deleted_text}
use Rattle.principals.specs.declared.command.Command.{Command}
use Rattle.principals.specs.declared.command.Command.TheVariants as command
use Rattle.principals.specs.declared.admin_line.AdminLine.{AdminLine}
use Rattle.principals.specs.declared.admin_line.AdminLine.TheVariants as line

-- the first line, without its line feed
abbrev pub title : List ℕ
title = codes "sgadmin 1"

-- the first line
abbrev pub script_header : List ℕ
script_header = codes "sgadmin 1\n"

-- the entry that records a command
abbrev pub entry_of : Command → Entry
entry_of (command.PutUser name channels roles) = entry.PutUser name channels roles
entry_of (command.PutRole name channels) = entry.PutRole name channels
entry_of (command.DropUser name) = entry.DropUser name
entry_of (command.DropRole name) = entry.DropRole name

-- a revision that another one follows, or `-` where there is none
abbrev pub script_parent : Option RevId → List ℕ
script_parent None = codes "-"
script_parent (Some rev) = rev_text rev

-- a revision that may be followed has a generation below the greatest
abbrev pub may_be_parent : Option RevId → Bool
may_be_parent None = true
may_be_parent (Some rev) = is_rev rev && nat_lt rev.generation 4294967295

-- the fields of a command's line
abbrev pub command_fields : Command → List (List ℕ)
command_fields (command.PutUser name channels roles) = codes "user" ∷ name ∷ channels_text channels ∷ names_text roles ∷ []
command_fields (command.PutRole name channels) = codes "role" ∷ name ∷ channels_text channels ∷ []
command_fields (command.DropUser name) = codes "dropuser" ∷ name ∷ []
command_fields (command.DropRole name) = codes "droprole" ∷ name ∷ []

-- the fields of a line
abbrev pub script_fields : AdminLine → List (List ℕ)
script_fields (line.Command c) = command_fields c
script_fields (line.Doc doc parent deleted body) = codes "doc" ∷ doc ∷ script_parent parent ∷ deleted_text deleted ∷ hex_text body ∷ []

-- a line, without its line feed
abbrev pub script_line : AdminLine → List ℕ
script_line l = join_with_byte 9 (script_fields l)

-- the text of lines
abbrev pub script_text_lines : List AdminLine → List ℕ
script_text_lines [] = []
script_text_lines (l ∷ ls) = script_line l ++ 10 ∷ script_text_lines ls

-- the text of a script
abbrev pub script_text : List AdminLine → List ℕ
script_text ls = script_header ++ script_text_lines ls

-- a revision in its grammar: the document and the parent are, each is UTF-8, and the body has at least one byte
pub record IsDoc (its_doc : List ℕ) (its_parent : Option RevId) (its_body : List ℕ) : Type 0 where
  pub doc : IsTrue (is_doc_id its_doc) × IsUtf8 its_doc
  pub parent : IsTrue (may_be_parent its_parent) × IsUtf8 (script_parent its_parent)
  pub body : IsTrue (is_body its_body)

-- a line in its grammar, where a command is in it as its entry is
abbrev pub IsScriptLine : AdminLine → Type 0
IsScriptLine (line.Command c) = IsEntry (entry_of c)
IsScriptLine (line.Doc doc parent deleted body) = IsDoc doc parent body

-- lines in their grammar
abbrev pub AreLines : List AdminLine → Type 0
AreLines [] = Unit {0}
AreLines (l ∷ ls) = IsScriptLine l × AreLines ls

-- the bytes are the script of these lines
abbrev pub SpellsScript : List ℕ → List AdminLine → Type 0
SpellsScript bytes ls = AreLines ls × (bytes ≡ script_text ls)
