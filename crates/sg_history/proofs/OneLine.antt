-- a line is that of one entry
use Rattle.std.proofs.Common.{◌≡◌, ℕ, ◌+◌, ◌*◌, Bool, true, false, List, [], ◌∷◌, refl, sym, ap, ◌∙◌, arith, Option, Some, None, decimal}
use Rattle.std.proofs.lemmas.Bool.{and_parts}
use Rattle.std.proofs.lemmas.Fmt.{decimal_injective}
use Rattle.sg_names.proofs.ItemTexts.{names_apart, rev_has_one_text}
use Rattle.sg_names.proofs.OneText.{channels_same, names_same, revs_same, grants_same, role_grants_same, hex_same}
use Rattle.sg_names.specs.RevId.{rev_text}
use Rattle.sg_names.specs.Revs.{revs_text}
use Rattle.sg_names.specs.Hex.{hex_text}
use Rattle.sg_names.specs.Channels.{channels_text}
use Rattle.sg_names.specs.Names.{names_text}
use Rattle.sg_names.specs.Grants.{grants_text}
use Rattle.sg_names.specs.RoleGrants.{role_grants_text}
use Rattle.sg_history.specs.declared.entries.Entry.{Entry}
use Rattle.sg_history.specs.declared.entries.Entry.TheVariants as entry
use Rattle.sg_history.specs.declared.entries.Mark.{Mark}
use Rattle.sg_history.specs.declared.entries.Write.{Write}
use Rattle.sg_history.specs.Pieces.{pieces}
use Rattle.sg_history.specs.Journal.{AreMarks, IsEntry, IsMark, IsWrite, fields_of, marks_fields, write_fields, line_of, deleted_text, by_text, is_by}
use Rattle.sg_history.proofs.LineTexts.{line_pieces}
use Rattle.sg_history.proofs.SyncTexts.{sync_bytes}

-- a text as a number, by which short texts are distinguished
abbrev code : List ℕ → ℕ
code [] = 0
code (b ∷ bs) = b + 256 * code bs

deleted_same : (a b : Bool) → deleted_text a ≡ deleted_text b → a ≡ b
deleted_same true true e = refl
deleted_same false false e = refl
deleted_same true false e = absurd (omega (arith, ap code e))
deleted_same false true e = absurd (omega (arith, ap code e))

by_same : (a b : Option (List ℕ)) → is_by a ≡ true → is_by b ≡ true → by_text a ≡ by_text b → a ≡ b
by_same None None h g e = refl
by_same None (Some b) h g e = absurd (names_apart.is_no_dash b g (sym e))
by_same (Some a) None h g e = absurd (names_apart.is_no_dash a h e)
by_same (Some a) (Some b) h g e = ap Some e

write_same : (w v : Write) → IsWrite w → IsWrite v → write_fields w ≡ write_fields v → w ≡ v
write_same w v is it e =
    let doc : w.doc ≡ v.doc = cc in
    let rev_texts : rev_text w.rev ≡ rev_text v.rev = cc in
    let ancestors_texts : revs_text w.ancestors ≡ revs_text v.ancestors = cc in
    let deleted_texts : deleted_text w.deleted ≡ deleted_text v.deleted = cc in
    let body_texts : hex_text w.body ≡ hex_text v.body = cc in
    let by_texts : by_text w.by ≡ by_text v.by = cc in
    let at_texts : decimal w.at ≡ decimal v.at = cc in
    let winner_texts : rev_text w.winner ≡ rev_text v.winner = cc in
    let channels_texts : channels_text w.channels ≡ channels_text v.channels = cc in
    let grants_texts : grants_text w.grants ≡ grants_text v.grants = cc in
    let roles_texts : role_grants_text w.roles ≡ role_grants_text v.roles = cc in
    let rev = rev_has_one_text w.rev v.rev is.rev.0 it.rev.0 rev_texts in
    let ancestors = revs_same w.ancestors v.ancestors is.ancestors.0 it.ancestors.0 ancestors_texts in
    let deleted = deleted_same w.deleted v.deleted deleted_texts in
    let body = hex_same w.body v.body (and_parts _ _ is.body).1 (and_parts _ _ it.body).1 body_texts in
    let by = by_same w.by v.by is.by.0 it.by.0 by_texts in
    let at = decimal_injective w.at v.at is.at it.at at_texts in
    let winner = rev_has_one_text w.winner v.winner is.winner.0 it.winner.0 winner_texts in
    let channels = channels_same w.channels v.channels is.channels.0 it.channels.0 channels_texts in
    let grants = grants_same w.grants v.grants is.grants.0 it.grants.0 grants_texts in
    let roles = role_grants_same w.roles v.roles is.roles.0 it.roles.0 roles_texts in
    λ i. record {
      doc = doc i;
      rev = rev i;
      ancestors = ancestors i;
      deleted = deleted i;
      body = body i;
      by = by i;
      at = at i;
      winner = winner i;
      channels = channels i;
      grants = grants i;
      roles = roles i;
    }

mark_same : (m n : Mark) → IsMark m → IsMark n → marks_fields (m ∷ []) ≡ marks_fields (n ∷ []) → m ≡ n
mark_same m n is it e =
    let doc : m.doc ≡ n.doc = cc in
    let rev_texts : rev_text m.rev ≡ rev_text n.rev = cc in
    let channels_texts : channels_text m.channels ≡ channels_text n.channels = cc in
    let grants_texts : grants_text m.grants ≡ grants_text n.grants = cc in
    let roles_texts : role_grants_text m.roles ≡ role_grants_text n.roles = cc in
    let rev = rev_has_one_text m.rev n.rev is.rev.0 it.rev.0 rev_texts in
    let channels = channels_same m.channels n.channels is.channels.0 it.channels.0 channels_texts in
    let grants = grants_same m.grants n.grants is.grants.0 it.grants.0 grants_texts in
    let roles = role_grants_same m.roles n.roles is.roles.0 it.roles.0 roles_texts in
    λ i. record { doc = doc i; rev = rev i; channels = channels i; grants = grants i; roles = roles i }

first_fields : (a b c d f a' b' c' d' f' : List ℕ) (more other : List (List ℕ)) → a ∷ b ∷ c ∷ d ∷ f ∷ more ≡ a' ∷ b' ∷ c' ∷ d' ∷ f' ∷ other
    → (a ∷ b ∷ c ∷ d ∷ f ∷ [] ≡ a' ∷ b' ∷ c' ∷ d' ∷ f' ∷ []) × (more ≡ other)
first_fields a b c d f a' b' c' d' f' more other e = (cc, cc)

marks_same : (ms ns : List Mark) → AreMarks ms → AreMarks ns → marks_fields ms ≡ marks_fields ns → ms ≡ ns
marks_same [] [] are they e = refl
marks_same [] (n ∷ ns) are they e = absurd (cc (e))
marks_same (m ∷ ms) [] are they e = absurd (cc (e))
marks_same (m ∷ ms) (n ∷ ns) are they e =
    let both = first_fields _ _ _ _ _ _ _ _ _ _ (marks_fields ms) (marks_fields ns) e in
    let one = mark_same m n are.0 they.0 both.0 in
    let more = marks_same ms ns are.1 they.1 both.1 in
    λ i. one i ∷ more i

abbrev first : List (List ℕ) → List ℕ
first [] = []
first (f ∷ fs) = f

-- entries with the same fields are the same
pub fields_same : (e f : Entry) → IsEntry e → IsEntry f → fields_of e ≡ fields_of f → e ≡ f
fields_same (entry.Write w) (entry.Write v) is it e = let rest : write_fields w ≡ write_fields v = cc in ap entry.Write (write_same w v is it rest)
fields_same (entry.PutUser n c r) (entry.PutUser m d s) is it e =
    let name : n ≡ m = cc in
    let channels_texts : channels_text c ≡ channels_text d = cc in
    let roles_texts : names_text r ≡ names_text s = cc in
    let channels = channels_same c d is.channels.0 it.channels.0 channels_texts in
    let roles = names_same r s is.roles.0 it.roles.0 roles_texts in
    λ i. entry.PutUser (name i) (channels i) (roles i)
fields_same (entry.PutRole n c) (entry.PutRole m d) is it e =
    let name : n ≡ m = cc in
    let channels_texts : channels_text c ≡ channels_text d = cc in
    let channels = channels_same c d is.channels.0 it.channels.0 channels_texts in
    λ i. entry.PutRole (name i) (channels i)
fields_same (entry.DropUser n) (entry.DropUser m) is it e = let name : n ≡ m = cc in ap entry.DropUser name
fields_same (entry.DropRole n) (entry.DropRole m) is it e = let name : n ≡ m = cc in ap entry.DropRole name
fields_same (entry.Sync t ms) (entry.Sync u ns) is it e =
    let texts : hex_text t ≡ hex_text u = cc in
    let fields : marks_fields ms ≡ marks_fields ns = cc in
    let text = hex_same t u (sync_bytes t is.text.0) (sync_bytes u it.text.0) texts in
    let marks = marks_same ms ns is.marks it.marks fields in
    λ i. entry.Sync (text i) (marks i)
fields_same entry.Unused entry.Unused is it e = refl
fields_same _ _ is it e = absurd (omega (arith, ap (λ fs. code (first fs)) e))

-- entries with the same line are the same
pub line_same : (e f : Entry) → IsEntry e → IsEntry f → line_of e ≡ line_of f → e ≡ f
line_same e f is it same = fields_same e f is it (sym (line_pieces e is) ∙ ap (pieces 9) same ∙ line_pieces f it)
