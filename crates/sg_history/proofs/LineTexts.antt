-- the line of an entry and its fields
use Rattle.std.proofs.Common.{◌≡◌, ℕ, ◌<◌, Bool, true, false, ◌&&◌, not, List, [], ◌∷◌, length, refl, sym, ap, ◌∙◌, arith, if◌then◌else◌, Option, Some, None, inl, inr}
use Rattle.std.specs.Prelude.{nat_eq, nat_lt, nat_le}
use Rattle.std.specs.List.{list_all, join_with_byte}
use Rattle.std.proofs.lemmas.Bool.{and_parts, and_from, cases_Bool, eqb-true}
use Rattle.std.proofs.lemmas.List.Folds.{list_all-append}
use Rattle.sg_names.proofs.PlainTexts.{plain_decimal, plain_hex, plain_name, plain_rev, plain_channels, plain_names, plain_revs, plain_grants, plain_role_grants, plain_lacks}
use Rattle.sg_names.specs.Grammar.{lacks, is_plain, is_plain_text, is_doc_id, begins_with_underscore}
use Rattle.sg_history.specs.declared.entries.Entry.{Entry}
use Rattle.sg_history.specs.declared.entries.Entry.TheVariants as entry
use Rattle.sg_history.specs.declared.entries.Mark.{Mark}
use Rattle.sg_history.specs.Pieces.{pieces, begin_with}
use Rattle.sg_history.specs.Journal.{AreMarks, IsEntry, fields_of, line_of, marks_fields, deleted_text, by_text, is_by}
use Rattle.sg_history.specs.Line.{NoEntry, NoLine}
use Rattle.sg_history.proofs.PieceLemmas.{pieces-lacking, pieces-cut, pieces-some}

-- pieces that are joined are the pieces again
pub pieces_joined : (at : ℕ) (fs : List (List ℕ)) → 0 < length fs → list_all (λ f. lacks at f) fs ≡ true → pieces at (join_with_byte at fs) ≡ fs
pieces_joined at [] some h = absurd (omega arith)
pieces_joined at (f ∷ []) some h = pieces-lacking at f (and_parts (lacks at f) true h).0
pieces_joined at (f ∷ g ∷ fs) some h =
    let parts = and_parts (lacks at f) (list_all (λ x. lacks at x) (g ∷ fs)) h in
    pieces-cut at f (join_with_byte at (g ∷ fs)) parts.0 ∙ ap (λ rest. f ∷ rest) (pieces_joined at (g ∷ fs) (omega arith) parts.1)

joined_begun : (at b : ℕ) (ps : List (List ℕ)) → 0 < length ps → join_with_byte at (begin_with b ps) ≡ b ∷ join_with_byte at ps
joined_begun at b [] some = absurd (omega arith)
joined_begun at b (p ∷ []) some = refl
joined_begun at b (p ∷ q ∷ ps) some = refl

joined_after_none : (at : ℕ) (ps : List (List ℕ)) → 0 < length ps → join_with_byte at ([] ∷ ps) ≡ at ∷ join_with_byte at ps
joined_after_none at [] some = absurd (omega arith)
joined_after_none at (p ∷ ps) some = refl

-- the pieces of a text, joined, are the text
pub joined_pieces : (at : ℕ) (text : List ℕ) → join_with_byte at (pieces at text) ≡ text
joined_pieces at [] = refl
joined_pieces at (b ∷ bs) =
    let again = joined_pieces at bs in
    elim (cases_Bool (nat_eq b at)) [
      | inl same ↦
          ap (λ t. join_with_byte at (if t then [] ∷ pieces at bs else begin_with b (pieces at bs))) same
          ∙ joined_after_none at (pieces at bs) (pieces-some at bs) ∙ (λ i. sym (eqb-true b at same) i ∷ again i)
      | inr other ↦
          ap (λ t. join_with_byte at (if t then [] ∷ pieces at bs else begin_with b (pieces at bs))) other
          ∙ joined_begun at b (pieces at bs) (pieces-some at bs) ∙ ap (λ rest. b ∷ rest) again
    ]

pub plain_doc : (doc : List ℕ) → is_doc_id doc ≡ true → is_plain doc ≡ true
plain_doc doc h =
    (and_parts (nat_lt 0 (length doc) && nat_le (length doc) 250) (is_plain doc) (and_parts (is_plain_text doc) (not (begins_with_underscore doc)) h).0).1

plain_deleted : (mark : Bool) → is_plain (deleted_text mark) ≡ true
plain_deleted true = refl
plain_deleted false = refl

plain_by : (by : Option (List ℕ)) → is_by by ≡ true → is_plain (by_text by) ≡ true
plain_by None h = refl
plain_by (Some name) h = plain_name name h

marks_plain : (marks : List Mark) → AreMarks marks → list_all (λ f. is_plain f) (marks_fields marks) ≡ true
marks_plain [] are = refl
marks_plain (m ∷ ms) are =
    and_from _ _ (plain_doc m.doc are.0.doc.0) (and_from _ _ (plain_rev m.rev are.0.rev.0) (and_from _ _ (plain_channels m.channels are.0.channels.0)
    (and_from _ _ (plain_grants m.grants are.0.grants.0) (and_from _ _ (plain_role_grants m.roles are.0.roles.0) (marks_plain ms are.1)))))

-- no field of an entry has a control character
fields_plain : (e : Entry) → IsEntry e → list_all (λ f. is_plain f) (fields_of e) ≡ true
fields_plain (entry.Write w) is =
    and_from _ _ (plain_doc w.doc is.doc.0) (and_from _ _ (plain_rev w.rev is.rev.0) (and_from _ _ (plain_revs w.ancestors is.ancestors.0)
    (and_from _ _ (plain_deleted w.deleted) (and_from _ _ (plain_hex w.body (and_parts _ _ is.body).1) (and_from _ _ (plain_by w.by is.by.0)
    (and_from _ _ (plain_decimal w.at is.at) (and_from _ _ (plain_rev w.winner is.winner.0) (and_from _ _ (plain_channels w.channels is.channels.0)
    (and_from _ _ (plain_grants w.grants is.grants.0) (and_from _ _ (plain_role_grants w.roles is.roles.0) refl))))))))))
fields_plain (entry.PutUser name channels roles) is =
    and_from _ _ (plain_name name is.name.0) (and_from _ _ (plain_channels channels is.channels.0) (and_from _ _ (plain_names roles is.roles.0) refl))
fields_plain (entry.PutRole name channels) is = and_from _ _ (plain_name name is.name.0) (and_from _ _ (plain_channels channels is.channels.0) refl)
fields_plain (entry.DropUser name) is = and_from _ _ (plain_name name is.0) refl
fields_plain (entry.DropRole name) is = and_from _ _ (plain_name name is.0) refl
fields_plain (entry.Sync text marks) is = and_from _ _ (plain_hex text (and_parts _ _ is.text.0).1) (marks_plain marks is.marks)
fields_plain entry.Unused is = refl

fields_count : (e : Entry) → 0 < length (fields_of e)
fields_count (entry.Write w) = omega arith
fields_count (entry.PutUser name channels roles) = omega arith
fields_count (entry.PutRole name channels) = omega arith
fields_count (entry.DropUser name) = omega arith
fields_count (entry.DropRole name) = omega arith
fields_count (entry.Sync text marks) = omega arith
fields_count entry.Unused = omega arith

all_lack : (c : ℕ) → c < 32 → (fs : List (List ℕ)) → list_all (λ f. is_plain f) fs ≡ true → list_all (λ f. lacks c f) fs ≡ true
all_lack c low [] h = refl
all_lack c low (f ∷ fs) h =
    let parts = and_parts (is_plain f) (list_all (λ x. is_plain x) fs) h in
    and_from _ _ (plain_lacks c f low parts.0) (all_lack c low fs parts.1)

joined_lack : (c at : ℕ) → not (nat_eq at c) ≡ true → (fs : List (List ℕ)) → list_all (λ f. lacks c f) fs ≡ true → lacks c (join_with_byte at fs) ≡ true
joined_lack c at apart [] h = refl
joined_lack c at apart (f ∷ []) h = (and_parts (lacks c f) true h).0
joined_lack c at apart (f ∷ g ∷ fs) h =
    let parts = and_parts (lacks c f) (list_all (λ x. lacks c x) (g ∷ fs)) h in
    list_all-append (λ b. not (nat_eq b c)) f (at ∷ join_with_byte at (g ∷ fs))
    ∙ and_from _ _ parts.0 (and_from _ _ apart (joined_lack c at apart (g ∷ fs) parts.1))

-- fields without control characters are the pieces of their line
pub fields_pieces : (fs : List (List ℕ)) → 0 < length fs → list_all (λ f. is_plain f) fs ≡ true → pieces 9 (join_with_byte 9 fs) ≡ fs
fields_pieces fs some plain = pieces_joined 9 fs some (all_lack 9 (omega arith) fs plain)

-- their line has no line feed
pub fields_whole : (fs : List (List ℕ)) → list_all (λ f. is_plain f) fs ≡ true → lacks 10 (join_with_byte 9 fs) ≡ true
fields_whole fs plain = joined_lack 10 9 refl fs (all_lack 10 (omega arith) fs plain)

-- the pieces of an entry's line are its fields
pub line_pieces : (e : Entry) → IsEntry e → pieces 9 (line_of e) ≡ fields_of e
line_pieces e is = pieces_joined 9 (fields_of e) (fields_count e) (all_lack 9 (omega arith) (fields_of e) (fields_plain e is))

-- an entry's line has no line feed
pub line_whole : (e : Entry) → IsEntry e → lacks 10 (line_of e) ≡ true
line_whole e is = joined_lack 10 9 refl (fields_of e) (all_lack 10 (omega arith) (fields_of e) (fields_plain e is))

-- fields that are no entry's make a line that is none's
pub no_line : (line : List ℕ) (fields : List (List ℕ)) → fields ≡ pieces 9 line → NoEntry fields → NoLine line
no_line line fields parts none e is spelled = none e is (parts ∙ ap (pieces 9) spelled ∙ line_pieces e is)

-- a line whose fields are an entry's is the entry's
pub line_is : (line : List ℕ) (e : Entry) → pieces 9 line ≡ fields_of e → line ≡ line_of e
line_is line e read = sym (joined_pieces 9 line) ∙ ap (join_with_byte 9) read
