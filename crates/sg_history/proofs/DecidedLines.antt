-- a line of a journal says an entry, or something is wrong with it
use Rattle.std.proofs.Common.{◌≡◌, ◌⊎◌, ℕ, zero, suc, ◌-◌, ◌/◌, Bool, true, false, List, [], ◌∷◌, length, arith, refl, sym, subst, inl, inr, Option, Some, None, codes, if◌then◌else◌, IsUtf8}
use Rattle.std.specs.Str.{bytes_eq}
use Rattle.std.specs.Cmp.Lexicographic.{bytes_decides}
use Rattle.sg_history.specs.declared.entries.Entry.{Entry}
use Rattle.sg_history.specs.declared.entries.Entry.TheVariants as entry
use Rattle.sg_history.specs.declared.entries.Mark.{Mark}
use Rattle.sg_history.specs.declared.fault.BadLine.{BadLine}
use Rattle.sg_history.specs.declared.fault.Why.{Why}
use Rattle.sg_history.specs.BadLine.{IsBadJournal, IsLineFault, journal_lines}
use Rattle.sg_history.specs.Faults.{Grammar, IsText, write_grammars, user_grammars, role_grammars, drop_grammars, marks_grammars, sync_grammars, grammars_of}
use Rattle.sg_history.specs.FieldFaults.{AreFit, FitAll, FitKind}
use Rattle.sg_history.specs.History.{History}
use Rattle.sg_history.specs.Journal.{AreMarks, IsNext, Spells, line_of, marks_fields}
use Rattle.sg_history.specs.Line.{AreRead, IsLine}
use Rattle.sg_history.specs.Pieces.{pieces}
use Rattle.sg_history.specs.Rules.{rule_fault}
use Rattle.sg_history.proofs.DecidedTexts.{hex_of, text_decided}
use Rattle.sg_history.proofs.FaultLemmas.{as_many, fields_decided}
use Rattle.sg_history.proofs.FileLaws.{file_either}
use Rattle.sg_history.proofs.JournalTexts.{spelled_file}
use Rattle.sg_history.proofs.LineTexts.{line_is}
use Rattle.sg_history.proofs.RuleLemmas.{next_is}
use Rattle.sg_history.proofs.Titles.{title_decided}
use Rattle.sg_history.proofs.WriteFields.{body_read}

-- the entry that fields are read as
record Reads (fields : List (List ℕ)) : Type 0 where
  entry : Entry
  read : AreRead fields entry

user_read : (texts : List (List ℕ)) → FitAll IsText user_grammars texts → Reads (codes "U" ∷ texts)
user_read [] h = absurd h
user_read (a ∷ []) h = absurd h.1
user_read (a ∷ b ∷ []) h = absurd h.1.1
user_read (a ∷ b ∷ c ∷ []) h =
    let v = h.1.0 in
    let w = h.1.1.0 in
    record {
      entry = entry.PutUser a v.1 w.1;
      read = (
        record { name = (h.0.1, h.0.0); channels = (v.2, subst IsUtf8 v.3 v.0); roles = (w.2, subst IsUtf8 w.3 w.0) },
        λ i. codes "U" ∷ a ∷ v.3 i ∷ w.3 i ∷ [],
      );
    }
user_read (a ∷ b ∷ c ∷ d ∷ more) h = absurd h.1.1.1

role_read : (texts : List (List ℕ)) → FitAll IsText role_grammars texts → Reads (codes "R" ∷ texts)
role_read [] h = absurd h
role_read (a ∷ []) h = absurd h.1
role_read (a ∷ b ∷ []) h =
    let v = h.1.0 in
    record {
      entry = entry.PutRole a v.1;
      read = (record { name = (h.0.1, h.0.0); channels = (v.2, subst IsUtf8 v.3 v.0) }, λ i. codes "R" ∷ a ∷ v.3 i ∷ []);
    }
role_read (a ∷ b ∷ c ∷ more) h = absurd h.1.1

drop_user_read : (texts : List (List ℕ)) → FitAll IsText drop_grammars texts → Reads (codes "DU" ∷ texts)
drop_user_read [] h = absurd h
drop_user_read (a ∷ []) h = record { entry = entry.DropUser a; read = ((h.0.1, h.0.0), refl) }
drop_user_read (a ∷ b ∷ more) h = absurd h.1

drop_role_read : (texts : List (List ℕ)) → FitAll IsText drop_grammars texts → Reads (codes "DR" ∷ texts)
drop_role_read [] h = absurd h
drop_role_read (a ∷ []) h = record { entry = entry.DropRole a; read = ((h.0.1, h.0.0), refl) }
drop_role_read (a ∷ b ∷ more) h = absurd h.1

unused_read : (texts : List (List ℕ)) → FitAll IsText [] texts → Reads (codes "X" ∷ texts)
unused_read [] h = record { entry = entry.Unused; read = (tt, refl) }
unused_read (a ∷ more) h = absurd h

write_read : (texts : List (List ℕ)) → length texts ≡ 11 → FitAll IsText write_grammars texts → Reads (codes "W" ∷ texts)
write_read (a ∷ b ∷ c ∷ d ∷ e ∷ f ∷ g ∷ h ∷ i ∷ j ∷ k ∷ []) many t =
    let doc = t.0 in
    let rev = t.1.0 in
    let ancestors = t.1.1.0 in
    let deleted = t.1.1.1.0 in
    let bytes = hex_of e t.1.1.1.1.0 in
    let by = t.1.1.1.1.1.0 in
    let front = t.1.1.1.1.1.1.0 in
    let winner = t.1.1.1.1.1.1.1.0 in
    let its_channels = t.1.1.1.1.1.1.1.1.0 in
    let its_grants = t.1.1.1.1.1.1.1.1.1.0 in
    let roles = t.1.1.1.1.1.1.1.1.1.1.0 in
    record {
      entry = entry.Write (record {
        doc = a;
        rev = rev.1;
        ancestors = ancestors.1;
        deleted = deleted.0;
        body = bytes.0;
        by = by.1;
        at = front.0;
        winner = winner.1;
        channels = its_channels.1;
        grants = its_grants.1;
        roles = roles.1;
      });
      read = (
        record {
          doc = (doc.1, doc.0);
          rev = (rev.2, subst IsUtf8 rev.3 rev.0);
          ancestors = (ancestors.2, subst IsUtf8 ancestors.3 ancestors.0);
          body = body_read e bytes.0 bytes.1 t.1.1.1.1.0;
          by = (by.2, subst IsUtf8 by.3 by.0);
          at = front.1;
          winner = (winner.2, subst IsUtf8 winner.3 winner.0);
          channels = (its_channels.2, subst IsUtf8 its_channels.3 its_channels.0);
          grants = (its_grants.2, subst IsUtf8 its_grants.3 its_grants.0);
          roles = (roles.2, subst IsUtf8 roles.3 roles.0);
        },
        λ x. codes "W" ∷ a ∷ rev.3 x ∷ ancestors.3 x ∷ deleted.1 x ∷ bytes.1 x ∷ by.3 x ∷ front.2 x ∷ winner.3 x ∷ its_channels.3 x
            ∷ its_grants.3 x ∷ roles.3 x ∷ [],
      );
    }
write_read _ many t = absurd (omega (arith, many))

-- the marks that texts are read as
record ReadsMarks (texts : List (List ℕ)) : Type 0 where
  marks : List Mark
  are : AreMarks marks
  spelled : texts ≡ marks_fields marks

marks_read : (count : ℕ) (texts : List (List ℕ)) → FitAll IsText (marks_grammars count) texts → ReadsMarks texts
marks_read zero [] h = record { marks = []; are = tt; spelled = refl }
marks_read zero (a ∷ more) h = absurd h
marks_read (suc count) [] h = absurd h
marks_read (suc count) (a ∷ []) h = absurd h.1
marks_read (suc count) (a ∷ b ∷ []) h = absurd h.1.1
marks_read (suc count) (a ∷ b ∷ c ∷ []) h = absurd h.1.1.1
marks_read (suc count) (a ∷ b ∷ c ∷ d ∷ []) h = absurd h.1.1.1.1
marks_read (suc count) (a ∷ b ∷ c ∷ d ∷ e ∷ more) h =
    let doc = h.0 in
    let rev = h.1.0 in
    let its_channels = h.1.1.0 in
    let its_grants = h.1.1.1.0 in
    let roles = h.1.1.1.1.0 in
    let rest = marks_read count more h.1.1.1.1.1 in
    record {
      marks = record { doc = a; rev = rev.1; channels = its_channels.1; grants = its_grants.1; roles = roles.1 } ∷ rest.marks;
      are = (
        record {
          doc = (doc.1, doc.0);
          rev = (rev.2, subst IsUtf8 rev.3 rev.0);
          channels = (its_channels.2, subst IsUtf8 its_channels.3 its_channels.0);
          grants = (its_grants.2, subst IsUtf8 its_grants.3 its_grants.0);
          roles = (roles.2, subst IsUtf8 roles.3 roles.0);
        },
        rest.are,
      );
      spelled = λ x. a ∷ rev.3 x ∷ its_channels.3 x ∷ its_grants.3 x ∷ roles.3 x ∷ rest.spelled x;
    }

sync_read : (count : ℕ) (texts : List (List ℕ)) → FitAll IsText (sync_grammars count) texts → Reads (codes "S" ∷ texts)
sync_read count [] h = absurd h
sync_read count (a ∷ more) h =
    let text = h.0 in
    let rest = marks_read count more h.1 in
    record {
      entry = entry.Sync text.0 rest.marks;
      read = (record { text = (text.1, text.2); marks = rest.are }, λ x. codes "S" ∷ text.3 x ∷ rest.spelled x);
    }

abbrev Under : List ℕ → List (List ℕ) → Option (List Grammar) → Type 0
Under kind texts grammars = FitKind IsText grammars texts → Reads (kind ∷ texts)

known : (kind literal : List ℕ) (texts : List (List ℕ)) → bytes_eq kind literal ≡ true → Reads (literal ∷ texts) → Reads (kind ∷ texts)
known kind literal texts is reads = subst (λ (k : List ℕ). Reads (k ∷ texts)) (sym ((bytes_decides kind literal).0 is)) reads

-- the fields behind the last kinds, where a kind is none before them
abbrev unused_or : List ℕ → Option (List Grammar)
unused_or kind = if bytes_eq kind (codes "X") then Some [] else None

abbrev sync_or : ℕ → List ℕ → Option (List Grammar)
sync_or count kind = if bytes_eq kind (codes "S") then Some (sync_grammars ((count - 2) / 5)) else unused_or kind

abbrev drop_role_or : ℕ → List ℕ → Option (List Grammar)
drop_role_or count kind = if bytes_eq kind (codes "DR") then Some drop_grammars else sync_or count kind

abbrev drop_user_or : ℕ → List ℕ → Option (List Grammar)
drop_user_or count kind = if bytes_eq kind (codes "DU") then Some drop_grammars else drop_role_or count kind

abbrev role_or : ℕ → List ℕ → Option (List Grammar)
role_or count kind = if bytes_eq kind (codes "R") then Some role_grammars else drop_user_or count kind

abbrev user_or : ℕ → List ℕ → Option (List Grammar)
user_or count kind = if bytes_eq kind (codes "U") then Some user_grammars else role_or count kind

under : (count : ℕ) (kind : List ℕ) (texts : List (List ℕ)) → Under kind texts (grammars_of count kind)
under count kind texts = write (bytes_eq kind (codes "W")) refl
  where
    unused : (b : Bool) → bytes_eq kind (codes "X") ≡ b → Under kind texts (if b then Some [] else None)
    unused true is = λ h. known kind (codes "X") texts is (unused_read texts h)
    unused false is = λ h. absurd h

    sync : (b : Bool) → bytes_eq kind (codes "S") ≡ b → Under kind texts (if b then Some (sync_grammars ((count - 2) / 5)) else unused_or kind)
    sync true is = λ h. known kind (codes "S") texts is (sync_read ((count - 2) / 5) texts h)
    sync false is = unused (bytes_eq kind (codes "X")) refl

    drop_role : (b : Bool) → bytes_eq kind (codes "DR") ≡ b → Under kind texts (if b then Some drop_grammars else sync_or count kind)
    drop_role true is = λ h. known kind (codes "DR") texts is (drop_role_read texts h)
    drop_role false is = sync (bytes_eq kind (codes "S")) refl

    drop_user : (b : Bool) → bytes_eq kind (codes "DU") ≡ b → Under kind texts (if b then Some drop_grammars else drop_role_or count kind)
    drop_user true is = λ h. known kind (codes "DU") texts is (drop_user_read texts h)
    drop_user false is = drop_role (bytes_eq kind (codes "DR")) refl

    role : (b : Bool) → bytes_eq kind (codes "R") ≡ b → Under kind texts (if b then Some role_grammars else drop_user_or count kind)
    role true is = λ h. known kind (codes "R") texts is (role_read texts h)
    role false is = drop_user (bytes_eq kind (codes "DU")) refl

    user : (b : Bool) → bytes_eq kind (codes "U") ≡ b → Under kind texts (if b then Some user_grammars else role_or count kind)
    user true is = λ h. known kind (codes "U") texts is (user_read texts h)
    user false is = role (bytes_eq kind (codes "R")) refl

    write : (b : Bool) → bytes_eq kind (codes "W") ≡ b → Under kind texts (if b then Some write_grammars else user_or count kind)
    write true is = λ h. known kind (codes "W") texts is (write_read texts (as_many IsText write_grammars texts h) h)
    write false is = user (bytes_eq kind (codes "U")) refl

fields_read : (fields : List (List ℕ)) → AreFit IsText (grammars_of (length fields)) fields → Reads fields
fields_read [] h = absurd h
fields_read (kind ∷ texts) h = under (length (kind ∷ texts)) kind texts h

abbrev Either : List Entry → List ℕ → Type 0
Either older line = ((e : Entry) × (IsNext older e × (line ≡ line_of e))) ⊎ ((why : Why) × IsLineFault older line why)

read_either : (older : List Entry) (line : List ℕ) (e : Entry) (r : Option Why) → IsLine line e → rule_fault older e ≡ r → Either older line
read_either older line e (Some why) read is = inr (why, inr (e, read, is))
read_either older line e None read is = inl (e, next_is older line e read is)

line_either : (older : List Entry) (line : List ℕ) → Either older line
line_either older line = elim (fields_decided IsText text_decided (grammars_of (length (pieces 9 line))) (pieces 9 line)) [
  | inl fit ↦
      let reads = fields_read (pieces 9 line) fit in
      read_either older line reads.entry (rule_fault older reads.entry) (reads.read.0, line_is line reads.entry reads.read.1) refl
  | inr fault ↦ inr (fault.0, inl fault.1)
]

-- a text is a journal, or it has a first bad line
pub journal_or_bad : (bytes : List ℕ) → ((h : History) × Spells bytes h) ⊎ ((bad : BadLine) × IsBadJournal bytes bad)
journal_or_bad bytes = elim (file_either journal_lines (record { title = title_decided; either = line_either }) bytes) [
  | inl found ↦
      let spelled = spelled_file bytes found.0 found.1 in
      let h : History = record { limit = spelled.0; entries = found.0 } in inl (h, spelled.1)
  | inr bad ↦ inr bad
]
