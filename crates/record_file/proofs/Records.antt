-- the text of a recorded session, and its first bad line
use Rattle.std.proofs.Common.{◌≡◌, ◌⊎◌, ℕ, true, List, [], ◌∷◌, ◌++◌, map, reverse, refl, sym, ap, ◌∙◌, subst, inl, inr, arith, Option, Some, None, IsUtf8, IsTrue}
use Rattle.std.specs.List.{list_all}
use Rattle.std.proofs.lemmas.Bool.{and_parts, and_from, false≢true}
use Rattle.std.proofs.lemmas.List.{reverse-append, map-append}
use Rattle.sg_names.specs.Grammar.{is_name, lacks}
use Rattle.sg_history.specs.declared.fault.BadLine.{BadLine}
use Rattle.sg_history.specs.declared.fault.ReadLog.{ReadLog}
use Rattle.sg_history.specs.declared.fault.ReadLog.TheVariants as file
use Rattle.sg_history.specs.declared.fault.Why.{Why}
use Rattle.sg_history.specs.BadLine.{NamesLine}
use Rattle.sg_history.specs.Files.{AreAmong, IsDecided, IsFileOf, IsLawful}
use Rattle.sg_history.specs.Pieces.{pieces}
use Rattle.sg_history.specs.Refusal.{RefusesLog}
use Rattle.sg_history.proofs.DecidedTexts.{same_text}
use Rattle.sg_history.proofs.FaultLemmas.{fault_one}
use Rattle.sg_history.proofs.FileLaws.{file_apart, file_either, file_one_bad, file_same}
use Rattle.sg_history.proofs.FileTexts.{file_are, file_said, file_text}
use Rattle.repl_messages.specs.declared.request.Version.{Version}
use Rattle.record_file.specs.declared.item.Item.{Item}
use Rattle.record_file.specs.declared.line.Line.{Line}
use Rattle.record_file.specs.declared.line.Line.TheVariants as kinds
use Rattle.record_file.specs.declared.record.Recorded.{Recorded}
use Rattle.record_file.specs.Record.{record_header, is_item, item_text, items_text, owner_text, SpellsRecord}
use Rattle.record_file.specs.Faults.{IsRecordField, item_fault, record_parts}
use Rattle.record_file.specs.Lines.{Fails, IsBadRecord, SaysLine, has_owner, lines_in, record_lines}
use Rattle.record_file.proofs.Found.{item_found}
use Rattle.record_file.proofs.Lines.{item_fine, item_lacks, item_same}
use Rattle.record_file.proofs.Owners.{owner_apart, owner_either, owner_lacks, owner_same}

says_one : (older : List Line) (text : List ℕ) (x y : Line) → SaysLine older text x → SaysLine older text y → x ≡ y
says_one [] text (kinds.Owner u v) (kinds.Owner w z) a b =
    let same = owner_same u w v z a.1 b.1 (sym a.0 ∙ b.0) in
    λ i. kinds.Owner (same.0 i) (same.1 i)
says_one [] text (kinds.Owner u v) (kinds.Item j) a b = absurd b
says_one [] text (kinds.Item i) y a b = absurd a
says_one (l ∷ older) text (kinds.Owner u v) y a b = absurd a
says_one (l ∷ older) text (kinds.Item i) (kinds.Owner w z) a b = absurd b
says_one (l ∷ older) text (kinds.Item i) (kinds.Item j) a b = ap kinds.Item (item_same i j a.1 b.1 (sym a.0 ∙ b.0))

item_apart : (text : List ℕ) (i : Item) (why : Why) → text ≡ item_text i → is_item i ≡ true → ¬ (item_fault text ≡ Some why)
item_apart text i why spelled is e = cc (sym (ap item_fault spelled ∙ item_fine i is) ∙ e)

says_apart : (older : List Line) (text : List ℕ) (x : Line) (why : Why) → SaysLine older text x → ¬ (Fails older text why)
says_apart [] text (kinds.Owner u v) why a e = owner_apart text u v why a.0 a.1 a.2 e
says_apart [] text (kinds.Item i) why a e = a
says_apart (l ∷ older) text (kinds.Owner u v) why a e = a
says_apart (l ∷ older) text (kinds.Item i) why a e = item_apart text i why a.0 a.1 e

some_one : (a b : Why) → Some a ≡ Some b → a ≡ b
some_one a b e = cc

fails_one : (older : List Line) (text : List ℕ) (a b : Why) → Fails older text a → Fails older text b → a ≡ b
fails_one [] text a b x y = fault_one IsRecordField record_parts (pieces 9 text) a b x y
fails_one (l ∷ older) text a b x y = some_one a b (sym x ∙ y)

lawful : IsLawful record_lines
lawful = record { one = says_one; one_fault = fails_one; apart = says_apart }

abbrev Either : List Line → List ℕ → Type 0
Either older text = ((x : Line) × SaysLine older text x) ⊎ ((why : Why) × Fails older text why)

item_either : (l : Line) (older : List Line) (text : List ℕ) (fault : Option Why) → item_fault text ≡ fault → Either (l ∷ older) text
item_either l older text (Some why) is = inr (why, is)
item_either l older text None is =
    let item = item_found text is in
    inl (kinds.Item item.item, (item.text, item.is))

either : (older : List Line) (text : List ℕ) → Either older text
either [] text = elim (owner_either text) [
  | inl owner ↦ inl (kinds.Owner owner.user owner.version, (owner.text, owner.name.0, owner.name.1))
  | inr fault ↦ inr fault
]
either (l ∷ older) text = item_either l older text (item_fault text) refl

decided : IsDecided record_lines
decided = record { title = λ line. same_text line record_header; either = either }

abbrev line_text : Line → List ℕ
line_text (kinds.Owner user version) = owner_text user version
line_text (kinds.Item i) = item_text i

abbrev texts : List Line → List ℕ
texts [] = []
texts (l ∷ ls) = line_text l ++ 10 ∷ texts ls

texts_cons : (l : Line) (ls : List Line) → texts (l ∷ ls) ≡ line_text l ++ 10 ∷ texts ls
texts_cons l ls = refl

texts_items : (items : List Item) → texts (map (λ i. kinds.Item i) items) ≡ items_text items
texts_items [] = refl
texts_items (i ∷ items) = let again = texts_items items in λ k. item_text i ++ 10 ∷ again k

spells_text : (older : List Line) (text : List ℕ) (l : Line) → SaysLine older text l → text ≡ line_text l
spells_text [] text (kinds.Owner u v) h = h.0
spells_text [] text (kinds.Item i) h = absurd h
spells_text (o ∷ older) text (kinds.Owner u v) h = absurd h
spells_text (o ∷ older) text (kinds.Item i) h = h.0

-- lines of what calls gave
abbrev AreItems : List Line → Type 0
AreItems [] = Unit {0}
AreItems (kinds.Owner u v ∷ ls) = ⊥
AreItems (kinds.Item i ∷ ls) = IsTrue (is_item i) × AreItems ls

-- lines that may follow these
abbrev Follow : List Line → List Line → Type 0
Follow [] [] = Unit {0}
Follow [] (kinds.Owner u v ∷ ls) = (IsTrue (is_name u) × IsUtf8 u) × AreItems ls
Follow [] (kinds.Item i ∷ ls) = ⊥
Follow (o ∷ older) ls = AreItems ls

follow_none : (older : List Line) → Follow older []
follow_none [] = tt
follow_none (o ∷ older) = tt

follow_more : (older : List Line) (text : List ℕ) (l : Line) (ls : List Line) → SaysLine older text l → Follow (l ∷ older) ls → Follow older (l ∷ ls)
follow_more [] text (kinds.Owner u v) ls h later = ((h.1, h.2), later)
follow_more [] text (kinds.Item i) ls h later = h
follow_more (o ∷ older) text (kinds.Owner u v) ls h later = h
follow_more (o ∷ older) text (kinds.Item i) ls h later = (h.1, later)

follow_next : (older : List Line) (l : Line) (ls : List Line) → Follow older (l ∷ ls)
    → (lacks 10 (line_text l) ≡ true) × SaysLine older (line_text l) l × Follow (l ∷ older) ls
follow_next [] (kinds.Owner u v) ls h = (owner_lacks u v h.0.0, (refl, h.0.0, h.0.1), h.1)
follow_next [] (kinds.Item i) ls h = absurd h
follow_next (o ∷ older) (kinds.Owner u v) ls h = absurd h
follow_next (o ∷ older) (kinds.Item i) ls h = (item_lacks 10 (omega arith) i h.0, (refl, h.0), h.1)

all_items : (items : List Item) → AreItems (map (λ i. kinds.Item i) items) → list_all (λ i. is_item i) items ≡ true
all_items [] h = refl
all_items (i ∷ items) h = and_from (is_item i) (list_all (λ x. is_item x) items) h.0 (all_items items h.1)

items_all : (items : List Item) → list_all (λ i. is_item i) items ≡ true → AreItems (map (λ i. kinds.Item i) items)
items_all [] h = tt
items_all (i ∷ items) h =
    let parts = and_parts (is_item i) (list_all (λ x. is_item x) items) h in
    (parts.0, items_all items parts.1)

titled : (bytes : List ℕ) (ls : List Line) → (first : List ℕ) × (first ≡ record_header) × (bytes ≡ first ++ 10 ∷ texts ls) → bytes ≡ record_header ++ 10 ∷ texts ls
titled bytes ls is = is.2 ∙ ap (λ (first : List ℕ). first ++ 10 ∷ texts ls) is.1

-- a recorded session is the file of its lines
pub spelled_file : (bytes : List ℕ) (r : Recorded) → IsFileOf record_lines bytes (lines_in (Some r)) → SpellsRecord bytes r
spelled_file bytes r is =
    let are = file_are record_lines line_text texts refl texts_cons Follow follow_none follow_more (pieces 10 bytes) (lines_in (Some r)) is in
    record {
      user = are.0;
      items = all_items r.items are.1;
      text =
          titled bytes (lines_in (Some r)) (file_text record_lines line_text texts refl texts_cons spells_text bytes (lines_in (Some r)) is)
          ∙ ap (λ t. record_header ++ 10 ∷ owner_text r.user r.version ++ 10 ∷ t) (texts_items r.items);
    }

pub file_spelled : (bytes : List ℕ) (r : Recorded) → SpellsRecord bytes r → IsFileOf record_lines bytes (lines_in (Some r))
file_spelled bytes r h =
    file_said record_lines line_text texts refl texts_cons Follow follow_next bytes record_header (lines_in (Some r))
    (h.text ∙ ap (λ t. record_header ++ 10 ∷ owner_text r.user r.version ++ 10 ∷ t) (sym (texts_items r.items))) refl refl
    (h.user, items_all r.items h.items) (said (reverse (map (λ i. kinds.Item i) r.items)) (kinds.Owner r.user r.version) _ (reverse-append (kinds.Owner r.user r.version ∷ []) (map (λ i. kinds.Item i) r.items)))
  where
    said : (ls : List Line) (o : Line) (xs : List Line) → xs ≡ ls ++ o ∷ [] → has_owner xs ≡ true
    said [] o xs e = ap has_owner e
    said (l ∷ ls) o xs e = ap has_owner e

session_same : (r s : Recorded) → lines_in (Some r) ≡ lines_in (Some s) → r ≡ s
session_same r s e =
    let user : r.user ≡ s.user = cc (e) in
    let version : r.version ≡ s.version = cc (e) in
    let items = items_same r.items s.items (cc (e)) in
    λ k. record { user = user k; version = version k; items = items k }
  where
    items_same : (is js : List Item) → map (λ i. kinds.Item i) is ≡ map (λ i. kinds.Item i) js → is ≡ js
    items_same [] [] e = refl
    items_same [] (j ∷ js) e = absurd (cc (e))
    items_same (i ∷ is) [] e = absurd (cc (e))
    items_same (i ∷ is) (j ∷ js) e =
        let one : i ≡ j = cc (e) in
        let more = items_same is js (cc (e)) in
        λ k. one k ∷ more k

-- a text is that of one recorded session
pub record_same : (bytes : List ℕ) (r s : Recorded) → SpellsRecord bytes r → SpellsRecord bytes s → r ≡ s
record_same bytes r s h g =
    session_same r s (file_same record_lines lawful bytes (lines_in (Some r)) (lines_in (Some s)) (file_spelled bytes r h) (file_spelled bytes s g))

-- it has one first bad line
pub bad_one : (bytes : List ℕ) (a b : BadLine) → IsBadRecord bytes a → IsBadRecord bytes b → a ≡ b
bad_one bytes a b x y = file_one_bad record_lines lawful bytes a b x y

-- a text with a bad line is that of no recorded session
pub record_apart : (bytes : List ℕ) (bad : BadLine) (r : Recorded) → IsBadRecord bytes bad → ¬ (SpellsRecord bytes r)
record_apart bytes bad r is h = file_apart record_lines lawful bytes bad (lines_in (Some r)) is (file_spelled bytes r h)

items_in : (ls : List Line) → AreItems ls → (items : List Item) × (ls ≡ map (λ i. kinds.Item i) items)
items_in [] h = ([], refl)
items_in (kinds.Owner u v ∷ ls) h = absurd h
items_in (kinds.Item i ∷ ls) h = let rest = items_in ls h.1 in (i ∷ rest.0, λ k. kinds.Item i ∷ rest.1 k)

session_in : (ls : List Line) → Follow [] ls → has_owner (reverse ls) ≡ true → (r : Recorded) × (ls ≡ lines_in (Some r))
session_in [] h ends = absurd (false≢true ends)
session_in (kinds.Item i ∷ ls) h ends = absurd h
session_in (kinds.Owner u v ∷ ls) h ends =
    let rest = items_in ls h.1 in
    (record { user = u; version = v; items = rest.0 }, λ k. kinds.Owner u v ∷ rest.1 k)

ends_of : (lines : List (List ℕ)) (ls : List Line) → AreAmong record_lines lines ls → has_owner (reverse ls) ≡ true
ends_of [] ls h = absurd h
ends_of (first ∷ more) ls h = h.1.1

-- a text is that of a recorded session, or it has a first bad line
pub record_or_bad : (bytes : List ℕ) → ((r : Recorded) × SpellsRecord bytes r) ⊎ ((bad : BadLine) × IsBadRecord bytes bad)
record_or_bad bytes = elim (file_either record_lines decided bytes) [
  | inl found ↦
      let are = file_are record_lines line_text texts refl texts_cons Follow follow_none follow_more (pieces 10 bytes) found.0 found.1 in
      let session = session_in found.0 are (ends_of (pieces 10 bytes) found.0 found.1) in
      inl (session.0, spelled_file bytes session.0 (subst (λ ls. IsFileOf record_lines bytes ls) session.1 found.1))
  | inr bad ↦ inr bad
]

-- a refusal that names a bad line refuses a text of no recorded session
pub none_spelled : (e : ReadLog) (bytes : List ℕ) → NamesLine (IsBadRecord bytes) e → RefusesLog e ((r : Recorded) → ¬ (SpellsRecord bytes r))
none_spelled (file.Bad bad) bytes named = λ r. record_apart bytes bad r named
none_spelled file.Memory bytes named = tt

-- a line behind others says what a call gave
says_behind : (ls : List Line) (o : Line) (text : List ℕ) (i : Item) → (text ≡ item_text i) × IsTrue (is_item i) → SaysLine (ls ++ o ∷ []) text (kinds.Item i)
says_behind [] o text i h = h
says_behind (l ∷ ls) o text i h = h

pub says_item : (r : Recorded) (text : List ℕ) (i : Item) → (text ≡ item_text i) × IsTrue (is_item i) → SaysLine (reverse (lines_in (Some r))) text (kinds.Item i)
says_item r text i h =
    subst (λ older. SaysLine older text (kinds.Item i)) (sym (reverse-append (kinds.Owner r.user r.version ∷ []) (map (λ x. kinds.Item x) r.items)))
    (says_behind (reverse (map (λ x. kinds.Item x) r.items)) (kinds.Owner r.user r.version) text i h)

-- one more line, of what a call gave
pub more_lines : (o : Option Recorded) (r : Recorded) (text : List ℕ) (i : Item) (now : List Item) → o ≡ Some r → (text ≡ item_text i) × IsTrue (is_item i)
    → now ≡ r.items ++ i ∷ []
    → (x : Line) × SaysLine (reverse (lines_in o)) text x × (kinds.Owner r.user r.version ∷ map (λ j. kinds.Item j) now ≡ lines_in o ++ x ∷ [])
more_lines o r text i now is h pushed =
    subst
    (λ p. (x : Line) × SaysLine (reverse (lines_in p)) text x × (kinds.Owner r.user r.version ∷ map (λ j. kinds.Item j) now ≡ lines_in p ++ x ∷ []))
    (sym is) (
      kinds.Item i,
      says_item r text i h,
      ap (λ (items : List Item). kinds.Owner r.user r.version ∷ map (λ j. kinds.Item j) items) pushed
          ∙ ap (λ (ls : List Line). kinds.Owner r.user r.version ∷ ls) (map-append (λ j. kinds.Item j) r.items (i ∷ [])),
    )

-- the first line, which says whose session it is
pub first_line : (o : Option Recorded) (text user : List ℕ) (version : Version) (items : List Item) → o ≡ None → text ≡ owner_text user version
    → IsTrue (is_name user) × IsUtf8 user → items ≡ []
    → (x : Line) × SaysLine (reverse (lines_in o)) text x × (kinds.Owner user version ∷ map (λ j. kinds.Item j) items ≡ lines_in o ++ x ∷ [])
first_line o text user version items is spelled name none =
    subst
    (λ p. (x : Line) × SaysLine (reverse (lines_in p)) text x × (kinds.Owner user version ∷ map (λ j. kinds.Item j) items ≡ lines_in p ++ x ∷ []))
    (sym is)
    (kinds.Owner user version, (spelled, name.0, name.1), ap (λ (js : List Item). kinds.Owner user version ∷ map (λ j. kinds.Item j) js) none)
