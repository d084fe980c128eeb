-- the write of a revision in its grammar is an entry in its grammar
use Rattle.std.proofs.Common.{◌≡◌, ◌<◌, ◌≤◌, ◌^◌, ℕ, Bool, true, false, ◌&&◌, List, [], ◌∷◌, map, length, take, zero, suc, Option, Some, None, refl, sym, ap, ◌∙◌, subst, arith, IsTrue, decimal}
use Rattle.std.specs.Prelude.{IsUtf8, nat_le, nat_lt, nat_eq, not, IfSome}
use Rattle.std.specs.List.{list_all, join_with_byte}
use Rattle.std.specs.Str.{IsAscii}
use Rattle.std.proofs.lemmas.Bool.{and_parts, and_from, ltb-true, leb-true, lt-ltb, eqb-false, not-true}
use Rattle.std.proofs.lemmas.List.{length-take}
use Rattle.std.proofs.lemmas.Fmt.{IsAscii-decimal}
use Rattle.std.proofs.lemmas.Str.{IsAscii-append, IsUtf8-from_ascii}
use Rattle.std.proofs.lemmas.Str.Ascii.{IsAscii-nil, IsAscii-cons}
use Rattle.sg_names.specs.declared.rev_id.RevId.{RevId}
use Rattle.sg_names.specs.Grammar.{is_digest, is_digest_byte}
use Rattle.sg_names.specs.RevId.{rev_text, is_rev}
use Rattle.sg_names.specs.Revs.{revs_text, is_revs}
use Rattle.sg_names.specs.Grammar.{is_doc_id, is_name}
use Rattle.sg_names.specs.Channels.{channels_text}
use Rattle.sg_names.specs.Grants.{grants_text}
use Rattle.sg_names.specs.RoleGrants.{role_grants_text}
use Rattle.sg_history.specs.declared.entries.Write.{Write}
use Rattle.sg_history.specs.Journal.{IsWrite, is_body, is_by, by_text}
use Rattle.std.proofs.Common.{Fits, w8, slice_index_or}
use Rattle.sg_names.specs.Hex.{are_bytes}
use Rattle.rev_tree.specs.declared.tree.Node.{Node}
use Rattle.rev_tree.specs.Extension.{Recorded, with_write}
use Rattle.rev_tree.specs.Writes.{is_accepted}
use Rattle.repl_messages.specs.declared.revision.Revision.{Revision}
use Rattle.doc_board.specs.Answers.{IsNewTree, recorded_with}
use Rattle.doc_board.specs.Candidates.{ExtendsTree}
use Rattle.doc_board.specs.Boards.{board_of, board_tree}
use Rattle.sync_meaning.specs.declared.effects.Effects.{Effects}
use Rattle.sync_meaning.specs.Laws.{AreEffects}
use Rattle.doc_board.specs.Judging.{body_or_empty}
use Rattle.doc_board.specs.Outcomes.{effects_in}
use Rattle.doc_board.specs.Recorded.{HasDocument}
use Rattle.doc_board.specs.State.{State, tree_on}
use Rattle.rev_tree.specs.Documents.{recorded}
use Rattle.board_steps.specs.Shape.{IsWritten}
use Rattle.board_steps.proofs.Braces.{braces}

byte_ascii : (b : ℕ) → is_digest_byte b ≡ true → b < 128
byte_ascii b h =
    let parts = and_parts (nat_le 33 b && nat_le b 126) (not (nat_eq b 44)) h in
    let last = (and_parts (nat_le 33 b) (nat_le b 126) parts.0).1 in
    omega (arith, leb-true b 126 last)

digest_ascii : (bytes : List ℕ) → list_all (λ b. is_digest_byte b) bytes ≡ true → IsAscii bytes
digest_ascii [] h = IsAscii-nil
digest_ascii (b ∷ bytes) h =
    let parts = and_parts (is_digest_byte b) (list_all (λ x. is_digest_byte x) bytes) h in
    IsAscii-cons b bytes (byte_ascii b parts.0) (digest_ascii bytes parts.1)

-- a revision's text is ASCII
rev_ascii : (r : RevId) → is_rev r ≡ true → IsAscii (rev_text r)
rev_ascii r h =
    let parts = and_parts (nat_le 1 r.generation && nat_lt r.generation 4294967296) (is_digest r.digest) h in
    let first = and_parts (nat_le 1 r.generation) (nat_lt r.generation 4294967296) parts.0 in
    let bytes = and_parts (nat_lt 0 (length r.digest) && nat_le (length r.digest) 64) (list_all (λ b. is_digest_byte b) r.digest) parts.1 in
    IsAscii-append (decimal r.generation) (45 ∷ r.digest) (IsAscii-decimal r.generation (fits (ltb-true r.generation 4294967296 first.1))) (IsAscii-cons 45 r.digest (omega arith) (digest_ascii r.digest bytes.1))
  where
    fits : r.generation < 4294967296 → r.generation < 2 ^ 64
    fits h = omega arith

pub rev_utf8 : (r : RevId) → is_rev r ≡ true → IsUtf8 (rev_text r)
rev_utf8 r h = IsUtf8-from_ascii (rev_text r) (rev_ascii r h)

joined_ascii : (a : RevId) (more : List RevId) → is_revs (a ∷ more) ≡ true → IsAscii (join_with_byte 44 (rev_text a ∷ map (λ r. rev_text r) more))
joined_ascii a [] h = rev_ascii a (and_parts (is_rev a) true h).0
joined_ascii a (b ∷ more) h =
    let parts = and_parts (is_rev a) (is_revs (b ∷ more)) h in
    IsAscii-append (rev_text a) _ (rev_ascii a parts.0) (IsAscii-cons 44 _ (omega arith) (joined_ascii b more parts.1))

list_ascii : (rs : List RevId) → is_revs rs ≡ true → IsAscii (revs_text rs)
list_ascii [] h = IsAscii-cons 45 [] (omega arith) IsAscii-nil
list_ascii (a ∷ more) h = joined_ascii a more h

pub revs_utf8 : (rs : List RevId) → is_revs rs ≡ true → IsUtf8 (revs_text rs)
revs_utf8 rs h = IsUtf8-from_ascii (revs_text rs) (list_ascii rs h)

-- of these revisions the first so many are in their grammar too
pub first_revs : (rs : List RevId) (k : ℕ) → is_revs rs ≡ true → is_revs (take k rs) ≡ true
first_revs [] zero h = refl
first_revs [] (suc k) h = refl
first_revs (r ∷ rs) zero h = refl
first_revs (r ∷ rs) (suc k) h =
    let parts = and_parts (is_rev r) (is_revs rs) h in
    and_from (is_rev r) (is_revs (take k rs)) parts.0 (first_revs rs k parts.1)

-- the text `-`
dash_utf8 : IsUtf8 (45 ∷ [])
dash_utf8 = IsUtf8-from_ascii (45 ∷ []) (IsAscii-cons 45 [] (omega arith) IsAscii-nil)

-- a writer's name, or the administrator
by_is : (by : Option (List ℕ)) → IfSome by (λ name. IsTrue (is_name name) × IsUtf8 name) → IsTrue (is_by by) × IsUtf8 (by_text by)
by_is None h = (refl, dash_utf8)
by_is (Some name) h = h

-- the texts of effects are UTF-8
pub record AreTexts (e : Effects) : Type 0 where
  pub channels : IsUtf8 (channels_text e.channels)
  pub grants : IsUtf8 (grants_text e.grants)
  pub roles : IsUtf8 (role_grants_text e.roles)

-- the write of a revision, with effects in their grammars
pub write_is_entry : (w : Write) → IsTrue (is_doc_id w.doc) × IsUtf8 w.doc → IsTrue (is_rev w.rev) → IsTrue (is_revs w.ancestors) → IsTrue (is_body w.body) → IfSome w.by (λ name. IsTrue (is_name name) × IsUtf8 name) → w.at < 2 ^ 64 → IsTrue (is_rev w.winner) → AreEffects (effects_in w) → AreTexts (effects_in w) → IsWrite w
write_is_entry w doc rev ancestors body by at winner lawful texts = record {
  doc = doc;
  rev = (rev, rev_utf8 w.rev rev);
  ancestors = (ancestors, revs_utf8 w.ancestors ancestors);
  body = body;
  by = by_is w.by by;
  at = at;
  winner = (winner, rev_utf8 w.winner winner);
  channels = (lawful.channels, texts.channels);
  grants = (lawful.grants, texts.grants);
  roles = (lawful.roles, texts.roles);
}

-- bytes are below 256
pub bytes_are : (bytes : List ℕ) → ((i : ℕ) → Fits w8 (slice_index_or bytes i 0)) → are_bytes bytes ≡ true
bytes_are [] h = refl
bytes_are (b ∷ bytes) h = and_from (nat_lt b 256) (are_bytes bytes) (lt-ltb b 256 (omega (arith, h 0))) (bytes_are bytes (λ i. h (suc i)))

-- a revision's body, or `{}` in its place, is a document
pub body_is_document : (body : List ℕ) → HasDocument body → HasDocument (body_or_empty body)
body_is_document [] h = braces
body_is_document (b ∷ bytes) h = h

recorded_same : (author : Option (List ℕ)) (r : Revision) (front : ℕ) (tree : List Node) (kept : ℕ) (effects : Effects) (w : Write) → IsWritten author r front tree kept effects w → recorded w ≡ recorded_with r kept
recorded_same author r front tree kept effects w is =
    ap (λ (rev : RevId). record { rev = rev; ancestors = w.ancestors; deleted = w.deleted }) is.rev
    ∙ ap (λ (ancestors : List RevId). record { rev = r.rev; ancestors = ancestors; deleted = w.deleted }) is.ancestors
    ∙ ap (λ (deleted : Bool). record { rev = r.rev; ancestors = take kept r.ancestors; deleted = deleted }) is.deleted

taken_few : (k : ℕ) (revs : List RevId) → k ≤ 1000 → length (take k revs) ≤ 1000
taken_few k revs few = omega (arith, few, length-take k revs)

-- the write of a revision that extends a tree extends it
pub extends_new : (before : List Node) (author : Option (List ℕ)) (r : Revision) (front : ℕ) (tree : List Node) (kept : ℕ) (effects : Effects) (w : Write) → IsNewTree before r tree kept → kept ≤ 1000 → IsWritten author r front tree kept effects w → ExtendsTree before w tree
extends_new before author r front tree kept effects w new few is = record {
  accepted = subst (λ (x : Recorded). IsTrue (is_accepted before x)) (sym (recorded_same author r front tree kept effects w is)) new.accepted;
  few = subst (λ (ancestors : List RevId). length ancestors ≤ 1000) (sym is.ancestors) (taken_few kept r.ancestors few);
  tree = new.tree ∙ ap (with_write before) (sym (recorded_same author r front tree kept effects w is));
  winner = is.winner;
}

pub extends_on : (s : State) (author : Option (List ℕ)) (r : Revision) (front : ℕ) (tree : List Node) (kept : ℕ) (effects : Effects) (w : Write) → board_tree (board_of s) r.doc ≡ tree_on s r.doc → IsNewTree (board_tree (board_of s) r.doc) r tree kept → kept ≤ 1000 → IsWritten author r front tree kept effects w → ExtendsTree (tree_on s w.doc) w tree
extends_on s author r front tree kept effects w same new few is =
    let on : ExtendsTree (tree_on s r.doc) w tree =
    subst (λ (t : List Node). ExtendsTree t w tree) same (extends_new (board_tree (board_of s) r.doc) author r front tree kept effects w new few is) in
    subst (λ (doc : List ℕ). ExtendsTree (tree_on s doc) w tree) (sym is.doc) on

positive : (n : ℕ) → nat_eq n 0 ≡ false → 0 < n
positive zero h = absurd (eqb-false 0 0 h refl)
positive (suc n) h = omega arith

-- bytes, of which there are some, are a body
pub some_bytes : (bytes : List ℕ) (none : Bool) → ((i : ℕ) → Fits w8 (slice_index_or bytes i 0)) → none ≡ nat_eq (length bytes) 0 → not none ≡ true → is_body bytes ≡ true
some_bytes bytes none h is some =
    and_from (nat_lt 0 (length bytes)) (are_bytes bytes) (lt-ltb 0 (length bytes) (positive (length bytes) (sym is ∙ not-true none some))) (bytes_are bytes h)

-- a body that has bytes is stored as it is, and `{}` in place of one that has none
pub body_stays : (body : List ℕ) → IsTrue (is_body body) → body ≡ body_or_empty body
body_stays [] h = cc h
body_stays (b ∷ bytes) h = refl

pub braces_stand_in : (body stand_in : List ℕ) → body ≡ [] → stand_in ≡ 123 ∷ 125 ∷ [] → stand_in ≡ body_or_empty body
braces_stand_in body stand_in none is = is ∙ ap body_or_empty (sym none)
