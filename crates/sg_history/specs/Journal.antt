-- The journal: the text of a history. The first line is `sgjournal 1`, or `sgjournal 2 L` where the history has the limit L;
-- line k + 1 is entry k. Fields are parted by one TAB, and each line ends with a line feed.
use Rattle.std.specs.Prelude.{◌≡◌, ℕ, ◌+◌, ◌<◌, ◌^◌, Bool, true, false, ◌&&◌, ◌||◌, not, nat_le, nat_lt, List, [], ◌∷◌, ◌++◌, length, reverse, is_some, Option, Some, None, codes, decimal, IsTrue, IsUtf8}
use Rattle.std.specs.Cmp.Lexicographic.{slice_cmp}
use Rattle.std.specs.List.{flat_map, join_with_byte, list_all}
use Rattle.std.specs.Ordering.{nat_cmp, ordering_then}
use Rattle.std.specs.declared.cmp.Ordering.{Ordering}
use Rattle.sg_names.specs.declared.grants.Grantee.{Grantee}
use Rattle.sg_names.specs.declared.grants.Grantee.TheVariants.{User, Role}
use Rattle.sg_names.specs.declared.rev_id.RevId.{RevId}
use Rattle.sg_names.specs.Grammar.{is_doc_id, is_name}
use Rattle.sg_names.specs.RevId.{rev_text, is_rev, same_rev, rev_cmp}
use Rattle.sg_names.specs.Revs.{revs_text, is_revs}
use Rattle.sg_names.specs.Channels.{channels_text, is_channels}
use Rattle.sg_names.specs.Names.{names_text, is_names}
use Rattle.sg_names.specs.Grants.{grants_text, is_grants}
use Rattle.sg_names.specs.RoleGrants.{role_grants_text, is_role_grants}
use Rattle.sg_names.specs.Hex.{hex_text, are_bytes}
use Rattle.sg_names.specs.ItemList.{rises}
use Rattle.sg_history.specs.declared.entries.Entry.{Entry}
use Rattle.sg_history.specs.declared.entries.Entry.TheVariants as entry
use Rattle.sg_history.specs.declared.entries.Mark.{Mark}
use Rattle.sg_history.specs.declared.entries.Write.{Write}
use Rattle.sg_history.specs.History.{History, SyncEntry, as_sync, as_write}
use Rattle.sg_history.specs.Current.{write_of_rev}
use Rattle.sg_history.specs.SyncText.{is_sync_text}
use Rattle.sg_history.specs.Principals.{Put, PrincipalState, as_put}

-- the first line, without its line feed, by the limit of revisions
abbrev pub title_of : Option ℕ → List ℕ
title_of None = codes "sgjournal 1"
title_of (Some limit) = codes "sgjournal 2 " ++ decimal limit

-- a limit is from 20 to 1,000, where there is one
abbrev pub is_limit : Option ℕ → Bool
is_limit None = true
is_limit (Some limit) = nat_le 20 limit && nat_le limit 1000

-- the first line
abbrev pub header_of : Option ℕ → List ℕ
header_of limit = title_of limit ++ 10 ∷ []

-- `0` or `1`
abbrev pub deleted_text : Bool → List ℕ
deleted_text false = 48 ∷ []
deleted_text true = 49 ∷ []

-- a name, or `-` for the administrator
abbrev pub by_text : Option (List ℕ) → List ℕ
by_text None = 45 ∷ []
by_text (Some name) = name

-- the fields of a write after its kind
abbrev pub write_fields : Write → List (List ℕ)
write_fields w =
    w.doc ∷ rev_text w.rev ∷ revs_text w.ancestors ∷ deleted_text w.deleted ∷ hex_text w.body ∷ by_text w.by
    ∷ decimal w.at ∷ rev_text w.winner ∷ channels_text w.channels ∷ grants_text w.grants ∷ role_grants_text w.roles ∷ []

-- the fields of marks, one mark after another
abbrev pub marks_fields : List Mark → List (List ℕ)
marks_fields [] = []
marks_fields (mark ∷ marks) =
    mark.doc ∷ rev_text mark.rev ∷ channels_text mark.channels ∷ grants_text mark.grants ∷ role_grants_text mark.roles
    ∷ marks_fields marks

-- the fields of an entry's line
abbrev pub fields_of : Entry → List (List ℕ)
fields_of (entry.Write w) = codes "W" ∷ write_fields w
fields_of (entry.PutUser name channels roles) = codes "U" ∷ name ∷ channels_text channels ∷ names_text roles ∷ []
fields_of (entry.PutRole name channels) = codes "R" ∷ name ∷ channels_text channels ∷ []
fields_of (entry.DropUser name) = codes "DU" ∷ name ∷ []
fields_of (entry.DropRole name) = codes "DR" ∷ name ∷ []
fields_of (entry.Sync text marks) = codes "S" ∷ hex_text text ∷ marks_fields marks
fields_of entry.Unused = codes "X" ∷ []

-- an entry's line, without its line feed
abbrev pub line_of : Entry → List ℕ
line_of e = join_with_byte 9 (fields_of e)

-- the lines of entries
abbrev pub lines_of : List Entry → List ℕ
lines_of es = flat_map (λ e. line_of e ++ 10 ∷ []) es

-- the text of a history
abbrev pub journal_text : History → List ℕ
journal_text h = header_of h.limit ++ lines_of h.entries

-- a writer is a name, or the administrator
abbrev pub is_by : Option (List ℕ) → Bool
is_by None = true
is_by (Some name) = is_name name

-- a body is at least one byte
abbrev pub is_body : List ℕ → Bool
is_body body = nat_lt 0 (length body) && are_bytes body

-- a write in its grammar: each field is, each that is no number is UTF-8, and the front fits its type
pub record IsWrite (w : Write) : Type 0 where
  pub doc : IsTrue (is_doc_id w.doc) × IsUtf8 w.doc
  pub rev : IsTrue (is_rev w.rev) × IsUtf8 (rev_text w.rev)
  pub ancestors : IsTrue (is_revs w.ancestors) × IsUtf8 (revs_text w.ancestors)
  pub body : IsTrue (is_body w.body)
  pub by : IsTrue (is_by w.by) × IsUtf8 (by_text w.by)
  pub at : w.at < 2 ^ 64
  pub winner : IsTrue (is_rev w.winner) × IsUtf8 (rev_text w.winner)
  pub channels : IsTrue (is_channels w.channels) × IsUtf8 (channels_text w.channels)
  pub grants : IsTrue (is_grants w.grants) × IsUtf8 (grants_text w.grants)
  pub roles : IsTrue (is_role_grants w.roles) × IsUtf8 (role_grants_text w.roles)

-- a mark in its grammar
pub record IsMark (mark : Mark) : Type 0 where
  pub doc : IsTrue (is_doc_id mark.doc) × IsUtf8 mark.doc
  pub rev : IsTrue (is_rev mark.rev) × IsUtf8 (rev_text mark.rev)
  pub channels : IsTrue (is_channels mark.channels) × IsUtf8 (channels_text mark.channels)
  pub grants : IsTrue (is_grants mark.grants) × IsUtf8 (grants_text mark.grants)
  pub roles : IsTrue (is_role_grants mark.roles) × IsUtf8 (role_grants_text mark.roles)

-- marks in their grammar
abbrev pub AreMarks : List Mark → Type 0
AreMarks [] = Unit {0}
AreMarks (mark ∷ marks) = IsMark mark × AreMarks marks

-- a replacement of the sync function in its grammar
pub record IsSync (sync : SyncEntry) : Type 0 where
  pub text : IsTrue (is_sync_text sync.text) × IsUtf8 sync.text
  pub marks : AreMarks sync.marks

-- a put of a user in its grammar
pub record IsPutUser (user : List ℕ) (its_channels its_roles : List (List ℕ)) : Type 0 where
  pub name : IsTrue (is_name user) × IsUtf8 user
  pub channels : IsTrue (is_channels its_channels) × IsUtf8 (channels_text its_channels)
  pub roles : IsTrue (is_names its_roles) × IsUtf8 (names_text its_roles)

-- a put of a role in its grammar
pub record IsPutRole (role : List ℕ) (its_channels : List (List ℕ)) : Type 0 where
  pub name : IsTrue (is_name role) × IsUtf8 role
  pub channels : IsTrue (is_channels its_channels) × IsUtf8 (channels_text its_channels)

-- a put or a drop in its grammar
abbrev pub IsPutOf : Grantee → Option PrincipalState → Type 0
IsPutOf (User name) (Some state) = IsPutUser name state.channels state.roles
IsPutOf (User name) None = IsTrue (is_name name) × IsUtf8 name
IsPutOf (Role name) (Some state) = IsPutRole name state.channels
IsPutOf (Role name) None = IsTrue (is_name name) × IsUtf8 name

-- an entry in its grammar, by the write, the replacement of the sync function, or else the put or drop that it is: one that is
-- none of these has no fields
abbrev pub IsEntryBy : Option Write → Option SyncEntry → Option Put → Type 0
IsEntryBy (Some w) sync put = IsWrite w
IsEntryBy None (Some sync) put = IsSync sync
IsEntryBy None None (Some put) = IsPutOf put.of put.state
IsEntryBy None None None = Unit {0}

-- an entry in its grammar: each of its fields is, and each that is no number is UTF-8
abbrev pub IsEntry : Entry → Type 0
IsEntry e = IsEntryBy (as_write e) (as_sync e) (as_put e)

-- the generations fall strictly from this one on
abbrev pub falls_from : ℕ → List RevId → Bool
falls_from generation [] = true
falls_from generation (rev ∷ revs) = nat_lt rev.generation generation && falls_from rev.generation revs

-- whether an earlier write of the document has this revision
abbrev pub has_rev : List Entry → List ℕ → RevId → Bool
has_rev older doc rev = is_some (write_of_rev older doc rev)

-- a write follows the rules: its revision is new, its history falls, it was judged before it was written, and its winner was written
abbrev pub follows_rules : List Entry → Write → Bool
follows_rules older w =
    not (has_rev older w.doc w.rev) && falls_from w.rev.generation w.ancestors && nat_lt w.at (length older + 1)
    && (same_rev w.winner w.rev || has_rev older w.doc w.winner)

-- the order of marks: by the document's bytes, then by the revision's generation, then by its digest's bytes
abbrev pub mark_cmp : Mark → Mark → Ordering
mark_cmp a b = ordering_then (slice_cmp nat_cmp a.doc b.doc) (rev_cmp a.rev b.rev)

-- marks follow the rules: they rise, and the revision of each was written
abbrev pub marks_follow_rules : List Entry → List Mark → Bool
marks_follow_rules older marks = rises mark_cmp marks && list_all (λ mark. has_rev older mark.doc mark.rev) marks

-- a write or a replacement of the sync function follows the rules, where there is one
abbrev pub may_follow_by : List Entry → Option Write → Option SyncEntry → Bool
may_follow_by older (Some w) sync = follows_rules older w
may_follow_by older None (Some sync) = marks_follow_rules older sync.marks
may_follow_by older None None = true

-- an entry follows the rules, of which only writes and replacements of the sync function have some
abbrev pub may_follow : List Entry → Entry → Bool
may_follow older e = may_follow_by older (as_write e) (as_sync e)

-- an entry that may be the next after these, the newest first: in its grammar, and by the rules
pub record IsNext (older : List Entry) (e : Entry) : Type 0 where
  pub grammar : IsEntry e
  pub rules : IsTrue (may_follow older e)

-- entries, the newest first, of which each may be the next after the older ones
abbrev pub IsRecord : List Entry → Type 0
IsRecord [] = Unit {0}
IsRecord (e ∷ older) = IsNext older e × IsRecord older

-- the bytes are the journal of this history
abbrev pub Spells : List ℕ → History → Type 0
Spells bytes h = IsTrue (is_limit h.limit) × IsRecord (reverse h.entries) × (bytes ≡ journal_text h)
