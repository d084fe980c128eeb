-- the first bad line of a journal
use Rattle.std.proofs.Common.{◌≡◌, ℕ, ◌+◌, true, false, List, [], ◌∷◌, ◌++◌, length, reverse, refl, sym, ◌∙◌, subst, arith, inl, inr, Option, Some, None}
use Rattle.std.specs.Prelude.{Result, Ok, Err, IfOk, IfErr}
use Rattle.std.proofs.lemmas.List.{append-nil}
use Rattle.sg_history.specs.declared.entries.Entry.{Entry}
use Rattle.sg_history.specs.declared.entries.Log.{Log}
use Rattle.sg_history.specs.declared.fault.BadLine.{BadLine}
use Rattle.sg_history.specs.declared.fault.LineFault.{LineFault}
use Rattle.sg_history.specs.declared.fault.LineFault.TheVariants as one
use Rattle.sg_history.specs.declared.fault.ReadLog.{ReadLog}
use Rattle.sg_history.specs.declared.fault.ReadLog.TheVariants as file
use Rattle.sg_history.specs.declared.fault.Why.{Why}
use Rattle.sg_history.specs.BadLine.{IsBadJournal, IsLineFault, NamesLine, journal_lines, refusal_at}
use Rattle.sg_history.specs.Faults.{HasReason, IsFault, IsText, grammars_of}
use Rattle.sg_history.specs.Files.{AreSaid, Begins, IsBadBehind, IsLawful, Stops}
use Rattle.sg_history.specs.History.{History, entries_of, history}
use Rattle.sg_history.specs.Journal.{IsNext, Spells, header_of, is_limit, line_of, title_of}
use Rattle.sg_history.specs.Line.{IsLine}
use Rattle.sg_history.specs.Pieces.{pieces}
use Rattle.sg_history.specs.inner.Reading.{EndsAs, StopsBehind, journal_texts, ran_out}
use Rattle.sg_history.specs.Refusal.{RefusesLog}
use Rattle.sg_history.specs.Rules.{broken_or, first_broken, rule_fault}
use Rattle.sg_history.proofs.FaultLemmas.{fault_one, no_entry}
use Rattle.sg_history.proofs.FileLaws.{file_apart, file_one_bad, file_same, reversed}
use Rattle.sg_history.proofs.JournalTexts.{file_spelled, header_cut, limit_one, spelled_behind}
use Rattle.sg_history.proofs.LineTexts.{no_line}
use Rattle.sg_history.proofs.OneLine.{line_same}
use Rattle.sg_history.proofs.PieceLemmas.{pieces-some}
use Rattle.sg_history.proofs.ReadLines.{named_behind, refused_behind}
use Rattle.sg_history.proofs.RuleLemmas.{broken_next, next_is, rule_one}

some_one : (a b : Why) → Some a ≡ Some b → a ≡ b
some_one a b e = cc

-- a line with a fault is no entry's
not_both : (line : List ℕ) (why : Why) (e : Entry) → IsFault (pieces 9 line) why → ¬ (IsLine line e)
not_both line why e fault is = no_line line (pieces 9 line) refl (no_entry (pieces 9 line) why fault) e is.0 is.1

line_faults : (older : List Entry) (line : List ℕ) (a b : Why) → IsLineFault older line a → IsLineFault older line b → a ≡ b
line_faults older line a b x y = elim x [
  | inl text ↦ elim y [
    | inl other ↦ fault_one IsText (grammars_of (length (pieces 9 line))) (pieces 9 line) a b text other
    | inr rule ↦ absurd (not_both line a rule.0 text rule.1)
  ]
  | inr rule ↦ elim y [
    | inl text ↦ absurd (not_both line b rule.0 text rule.1)
    | inr other ↦ some_one a b (sym rule.2 ∙ rule_one older line rule.0 other.0 rule.1 other.1 ∙ other.2)
  ]
]

line_apart : (older : List Entry) (line : List ℕ) (e : Entry) (why : Why) → IsNext older e × (line ≡ line_of e) → ¬ (IsLineFault older line why)
line_apart older line e why next fault = elim fault [
  | inl text ↦ not_both line why e text (next.0.grammar, next.1)
  | inr rule ↦ broken_next older line rule.0 why rule.1 rule.2 e next.0 next.1
]

lawful : IsLawful journal_lines
lawful = record {
  one = λ older line e f x y. line_same e f x.0.grammar y.0.grammar (sym x.1 ∙ y.1);
  one_fault = line_faults;
  apart = line_apart;
}

-- a text is that of one history
pub journal_same : (bytes : List ℕ) (g h : History) → Spells bytes g → Spells bytes h → g ≡ h
journal_same bytes g h one other =
    let same = file_same journal_lines lawful bytes g.entries h.entries (file_spelled bytes g one) (file_spelled bytes h other) in
    let limit = limit_one bytes g h one other in
    λ i. record { limit = limit i; entries = same i }

-- a text has one first bad line
pub one_bad : (bytes : List ℕ) (a b : BadLine) → IsBadJournal bytes a → IsBadJournal bytes b → a ≡ b
one_bad bytes a b x y = file_one_bad journal_lines lawful bytes a b x y

-- a text with a first bad line is that of no history
pub no_journal : (bytes : List ℕ) (bad : BadLine) → IsBadJournal bytes bad → (h : History) → ¬ (Spells bytes h)
no_journal bytes bad is h spelled = file_apart journal_lines lawful bytes bad h.entries is (file_spelled bytes h spelled)

pub none_spelled : (r : Result Log ReadLog) (bytes : List ℕ) → IfErr r (NamesLine (IsBadJournal bytes))
    → IfErr r (λ e. RefusesLog e ((h : History) → ¬ (Spells bytes h)))
none_spelled (Ok log) bytes named = tt
none_spelled (Err (file.Bad bad)) bytes named = no_journal bytes bad named
none_spelled (Err file.Memory) bytes named = tt

-- the lines behind the first one are those of a history
pub spelled_log : (r : Result Log ReadLog) (bytes lines : List ℕ) (limit : Option ℕ) → is_limit limit ≡ true → bytes ≡ header_of limit ++ lines
    → IfOk r (λ log. AreSaid journal_lines (pieces 10 lines) (entries_of log)) → IfOk r (λ log. log.limit ≡ limit) → IfOk r (λ log. Spells bytes (history log))
spelled_log (Ok log) bytes lines limit fits cut said same =
    subst (λ (l : Option ℕ). Spells bytes (record { limit = l; entries = entries_of log })) (sym same) (spelled_behind bytes lines limit (entries_of log) fits cut said)
spelled_log (Err e) bytes lines limit fits cut said same = tt

-- a bad line behind the first one
pub named_lines : (r : Result Log ReadLog) (bytes lines : List ℕ) (limit : Option ℕ) → is_limit limit ≡ true → bytes ≡ header_of limit ++ lines
    → IfErr r (NamesLine (IsBadBehind journal_lines (pieces 10 lines))) → IfErr r (NamesLine (IsBadJournal bytes))
named_lines (Ok log) bytes lines limit fits cut named = tt
named_lines (Err e) bytes lines limit fits cut named =
    named_behind journal_lines bytes (title_of limit) (pieces 10 lines) e (limit, fits, refl) (header_cut bytes lines limit fits cut) (pieces-some 10 lines) named

-- entries that keep the rules, and then a line with the fault of a bad line
record Found (older : List Entry) (lines : List (List ℕ)) (place : ℕ) (bad : BadLine) : Type 0 where
  items : List Entry
  left : List (List ℕ)
  begun : Begins journal_lines older lines items left
  at : bad.place ≡ length items + place
  fault : Stops journal_lines (reverse items ++ older) left bad.why

found_at : (older : List Entry) (line next : List ℕ) (more : List (List ℕ)) (x : Entry) (place : ℕ) (bad : BadLine) (r : Option Why) (later : Option BadLine)
    → IsLine line x → rule_fault older x ≡ r → (rule_fault older x ≡ None → later ≡ Some bad → Found older (line ∷ next ∷ more) place bad)
    → broken_or place r later ≡ Some bad → Found older (line ∷ next ∷ more) place bad
found_at older line next more x place bad None later read is go e = go is e
found_at older line next more x place bad (Some why) later read is go e =
    let made : BadLine = record { place = place; why = why } in
    let same : made ≡ bad = cc in
    subst (Found older (line ∷ next ∷ more) place) same
    (record { items = []; left = line ∷ next ∷ more; begun = refl; at = omega arith; fault = inr (x, read, is) })

found_more : (older : List Entry) (line next : List ℕ) (more : List (List ℕ)) (x : Entry) (place : ℕ) (bad : BadLine) → IsNext older x × (line ≡ line_of x)
    → Found (x ∷ older) (next ∷ more) (place + 1) bad → Found older (line ∷ next ∷ more) place bad
found_more older line next more x place bad says later = record {
  items = x ∷ later.items;
  left = later.left;
  begun = (says, later.begun);
  at = omega (arith, later.at);
  fault = subst (λ o. Stops journal_lines o later.left bad.why) (reversed x later.items older) later.fault;
}

-- the first entry that breaks a rule is on the first bad line
found : (older es : List Entry) (lines left : List (List ℕ)) (place : ℕ) (bad : BadLine) → Begins journal_texts older lines es left
    → first_broken place older es ≡ Some bad → Found older lines place bad
found older [] lines left place bad begun e = absurd (cc (e))
found older (x ∷ es) [] left place bad begun e = absurd begun
found older (x ∷ es) (end ∷ []) left place bad begun e = absurd begun
found older (x ∷ es) (line ∷ next ∷ more) left place bad begun e =
    found_at older line next more x place bad (rule_fault older x) (first_broken (place + 1) (x ∷ older) es) begun.0 refl
    (λ none later. found_more older line next more x place bad (next_is older line x begun.0 none)
    (found (x ∷ older) es (next ∷ more) left (place + 1) bad begun.1 later)) e

none_of : (place : ℕ) (r : Option Why) (later : Option BadLine) → broken_or place r later ≡ None → (r ≡ None) × (later ≡ None)
none_of place None later e = (refl, e)
none_of place (Some why) later e = absurd (cc (e))

-- entries of which none breaks a rule
all_fine : (older es : List Entry) (lines left : List (List ℕ)) (place : ℕ) → Begins journal_texts older lines es left → first_broken place older es ≡ None
    → Begins journal_lines older lines es left
all_fine older [] lines left place begun e = begun
all_fine older (x ∷ es) [] left place begun e = absurd begun
all_fine older (x ∷ es) (end ∷ []) left place begun e = absurd begun
all_fine older (x ∷ es) (line ∷ next ∷ more) left place begun e =
    let none = none_of place (rule_fault older x) (first_broken (place + 1) (x ∷ older) es) e in
    (next_is older line x begun.0 none.0, all_fine (x ∷ older) es (next ∷ more) left (place + 1) begun.1 none.1)

behind_found : (lines left : List (List ℕ)) (es : List Entry) (bad : BadLine) → Begins journal_texts [] lines es left → first_broken 2 [] es ≡ Some bad
    → IsBadBehind journal_lines lines bad
behind_found lines left es bad begun e =
    let found = found [] es lines left 2 bad begun e in
    record {
      items = found.items;
      left = found.left;
      begun = found.begun;
      place = found.at;
      fault = subst (λ o. Stops journal_lines o found.left bad.why) (append-nil (reverse found.items)) found.fault;
    }

-- the first entry that breaks a rule, among those that were read
pub found_line : {T : Type 0} (lines : List (List ℕ)) (es : List Entry) (end : Result T LineFault) (bad : BadLine) → EndsAs journal_texts lines es end
    → ran_out end ≡ false → first_broken 2 [] es ≡ Some bad → IsBadBehind journal_lines lines bad
found_line lines es (Ok x) bad ends run e = behind_found lines ([] ∷ []) es bad ends.0 e
found_line lines es (Err (one.Bad why)) bad ends run e = behind_found lines ends.0 es bad ends.1 e
found_line lines es (Err one.Memory) bad ends run e = absurd (cc (run))

stop_at : (older : List Entry) (left : List (List ℕ)) (why : Why) → Stops journal_texts older left why → Stops journal_lines older left why
stop_at older [] why stop = stop
stop_at older (end ∷ []) why stop = stop
stop_at older (line ∷ next ∷ more) why stop = inl stop

stops_behind : (lines : List (List ℕ)) (es : List Entry) (e : LineFault) → HasReason (StopsBehind journal_texts lines es) e → first_broken 2 [] es ≡ None
    → HasReason (StopsBehind journal_lines lines es) e
stops_behind lines es (one.Bad why) stops none = (stops.0, all_fine [] es lines stops.0 2 stops.1 none, stop_at (reverse es) stops.0 why stops.2)
stops_behind lines es one.Memory stops none = tt

-- no entry breaks a rule, and the line behind them is refused
pub stopped_line : {T : Type 0} (lines : List (List ℕ)) (es : List Entry) (end : Result T LineFault) (place : ℕ) (e : LineFault) → end ≡ Err e
    → EndsAs journal_texts lines es end → first_broken 2 [] es ≡ None → place ≡ length es + 2 → NamesLine (IsBadBehind journal_lines lines) (refusal_at place e)
stopped_line lines es end place e is ends none at =
    refused_behind journal_lines lines es place e at (stops_behind lines es e (subst (λ r. EndsAs journal_texts lines es r) is ends) none)

-- no entry breaks a rule, and nothing is behind them
pub said_lines : {T : Type 0} (lines : List (List ℕ)) (es : List Entry) (end : Result T LineFault) (x : T) → end ≡ Ok x → EndsAs journal_texts lines es end
    → first_broken 2 [] es ≡ None → AreSaid journal_lines lines es
said_lines lines es end x is ends none =
    (all_fine [] es lines ([] ∷ []) 2 (subst (λ r. EndsAs journal_texts lines es r) is ends).0 none, refl)
