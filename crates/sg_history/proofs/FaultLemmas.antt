-- what is wrong with a line, and the lines of entries
use Rattle.std.proofs.Common.{◌≡◌, ◌≢◌, ◌⊎◌, ℕ, zero, suc, ◌+◌, ◌-◌, ◌*◌, ◌/◌, ◌%◌, ◌≤◌, true, List, [], ◌∷◌, ◌++◌, ◌<◌, length, arith, refl, sym, ap, ◌∙◌, subst, inl, inr, Option, Some, None, codes, append_assoc, length-append}
use Rattle.std.specs.Prelude.{nat_eq}
use Rattle.std.proofs.lemmas.Bool.{cases_Bool, eq-eqb, eqb-true, false≢true}
use Rattle.std.proofs.lemmas.List.{append-nil}
use Rattle.sg_names.specs.Channels.{channels_text}
use Rattle.sg_names.specs.Grammar.{lacks}
use Rattle.sg_names.specs.Grants.{grants_text}
use Rattle.sg_names.specs.RevId.{rev_text}
use Rattle.sg_names.specs.RoleGrants.{role_grants_text}
use Rattle.sg_history.specs.declared.entries.Entry.{Entry}
use Rattle.sg_history.specs.declared.entries.Entry.TheVariants as entry
use Rattle.sg_history.specs.declared.entries.Mark.{Mark}
use Rattle.sg_history.specs.declared.fault.Why.{Why}
use Rattle.sg_history.specs.declared.fault.Why.TheVariants as reason
use Rattle.sg_history.specs.declared.fault.LineFault.{LineFault}
use Rattle.sg_history.specs.declared.fault.LineFault.TheVariants as line
use Rattle.sg_history.specs.FieldFaults.{FitAll, IsFirstUnfit, IsTextsFault, IsKindFault, IsFieldsFault, FitKind, AreFit}
use Rattle.sg_history.specs.Faults.{Grammar, AreTexts, IsFirstBad, IsFault, IsText, grammars_of, mark_grammars, marks_grammars, sync_grammars, sync_text, HasReason, IsBadField, IsBadTextAmong}
use Rattle.sg_history.specs.Journal.{AreMarks, IsEntry, IsMark, IsSync, fields_of, marks_fields}
use Rattle.sg_history.specs.Line.{NoEntry}
use Rattle.sg_history.specs.Pieces.{pieces}
use Rattle.sg_history.proofs.PieceLemmas.{pieces-cut, pieces-lacking}
use Rattle.sg_history.proofs.WriteFields.{write_texts}

module _ {G : Type 0} (Fits : G → List ℕ → Type 0) where
  pub as_many : (grammars : List G) (texts : List (List ℕ)) → FitAll Fits grammars texts → length texts ≡ length grammars
  as_many [] [] h = refl
  as_many [] (text ∷ texts) h = absurd h
  as_many (grammar ∷ grammars) [] h = absurd h
  as_many (grammar ∷ grammars) (text ∷ texts) h = ap suc (as_many grammars texts h.1)

  none_unfit : (grammars : List G) (texts : List (List ℕ)) (n : ℕ) → IsFirstUnfit Fits grammars texts n → ¬ (FitAll Fits grammars texts)
  none_unfit [] texts n bad h = bad
  none_unfit (grammar ∷ grammars) [] n bad h = bad
  none_unfit (grammar ∷ grammars) (text ∷ texts) zero bad h = bad h.0
  none_unfit (grammar ∷ grammars) (text ∷ texts) (suc n) bad h = none_unfit grammars texts n bad.1 h.1

  apart_texts : (grammars : List G) (texts : List (List ℕ)) (why : Why) → IsTextsFault Fits grammars texts why → ¬ (FitAll Fits grammars texts)
  apart_texts grammars texts reason.Head fault h = fault
  apart_texts grammars texts reason.Ending fault h = fault
  apart_texts grammars texts reason.Kind fault h = fault
  apart_texts grammars texts reason.Fields fault h = fault (as_many grammars texts h)
  apart_texts grammars texts (reason.Field n) fault h = none_unfit grammars texts (n - 2) fault.2 h
  apart_texts grammars texts (reason.Rule n) fault h = fault
  apart_texts grammars texts reason.Long fault h = fault
  apart_texts grammars texts (reason.Config path why) fault h = fault

  apart_kind : (grammars : Option (List G)) (texts : List (List ℕ)) (why : Why) → IsKindFault Fits grammars texts why → ¬ (FitKind Fits grammars texts)
  apart_kind None texts why fault h = h
  apart_kind (Some grammars) texts why fault h = apart_texts grammars texts why fault h

  -- fields have a fault, or they are those of a line: not both
  pub apart : (kinds : List ℕ → Option (List G)) (fields : List (List ℕ)) (why : Why) → IsFieldsFault Fits kinds fields why → ¬ (AreFit Fits kinds fields)
  apart kinds [] why fault h = h
  apart kinds (kind ∷ texts) why fault h = apart_kind (kinds kind) texts why fault h

  unfit_one : (grammars : List G) (texts : List (List ℕ)) (n m : ℕ) → IsFirstUnfit Fits grammars texts n → IsFirstUnfit Fits grammars texts m → n ≡ m
  unfit_one [] texts n m a b = absurd a
  unfit_one (grammar ∷ grammars) [] n m a b = absurd a
  unfit_one (grammar ∷ grammars) (text ∷ texts) zero zero a b = refl
  unfit_one (grammar ∷ grammars) (text ∷ texts) zero (suc m) a b = absurd (a b.0)
  unfit_one (grammar ∷ grammars) (text ∷ texts) (suc n) zero a b = absurd (b a.0)
  unfit_one (grammar ∷ grammars) (text ∷ texts) (suc n) (suc m) a b = ap suc (unfit_one grammars texts n m a.1 b.1)

  fields_or_field : (grammars : List G) (texts : List (List ℕ)) (b : Why) → length texts ≢ length grammars → IsTextsFault Fits grammars texts b → reason.Fields ≡ b
  fields_or_field grammars texts reason.Fields a b = refl
  fields_or_field grammars texts (reason.Field m) a b = absurd (a b.0)
  fields_or_field grammars texts reason.Head a b = absurd b
  fields_or_field grammars texts reason.Ending a b = absurd b
  fields_or_field grammars texts reason.Kind a b = absurd b
  fields_or_field grammars texts (reason.Rule m) a b = absurd b
  fields_or_field grammars texts reason.Long a b = absurd b
  fields_or_field grammars texts (reason.Config path why) a b = absurd b

  field_or_fields : (grammars : List G) (texts : List (List ℕ)) (n : ℕ) (b : Why) → IsTextsFault Fits grammars texts (reason.Field n)
      → IsTextsFault Fits grammars texts b → reason.Field n ≡ b
  field_or_fields grammars texts n reason.Fields a b = absurd (b a.0)
  field_or_fields grammars texts n (reason.Field m) a b =
      let same : n ≡ m = omega (arith, a.1, b.1, unfit_one grammars texts (n - 2) (m - 2) a.2 b.2) in
      ap reason.Field same
  field_or_fields grammars texts n reason.Head a b = absurd b
  field_or_fields grammars texts n reason.Ending a b = absurd b
  field_or_fields grammars texts n reason.Kind a b = absurd b
  field_or_fields grammars texts n (reason.Rule m) a b = absurd b
  field_or_fields grammars texts n reason.Long a b = absurd b
  field_or_fields grammars texts n (reason.Config path why) a b = absurd b

  texts_one : (grammars : List G) (texts : List (List ℕ)) (a b : Why) → IsTextsFault Fits grammars texts a → IsTextsFault Fits grammars texts b → a ≡ b
  texts_one grammars texts reason.Fields b x y = fields_or_field grammars texts b x y
  texts_one grammars texts (reason.Field n) b x y = field_or_fields grammars texts n b x y
  texts_one grammars texts reason.Head b x y = absurd x
  texts_one grammars texts reason.Ending b x y = absurd x
  texts_one grammars texts reason.Kind b x y = absurd x
  texts_one grammars texts (reason.Rule n) b x y = absurd x
  texts_one grammars texts reason.Long b x y = absurd x
  texts_one grammars texts (reason.Config path why) b x y = absurd x

  kind_one : (grammars : Option (List G)) (texts : List (List ℕ)) (a b : Why) → IsKindFault Fits grammars texts a → IsKindFault Fits grammars texts b → a ≡ b
  kind_one None texts a b x y = x ∙ sym y
  kind_one (Some grammars) texts a b x y = texts_one grammars texts a b x y

  -- one thing at most is wrong with fields
  pub fault_one : (kinds : List ℕ → Option (List G)) (fields : List (List ℕ)) (a b : Why) → IsFieldsFault Fits kinds fields a → IsFieldsFault Fits kinds fields b
      → a ≡ b
  fault_one kinds [] a b x y = x ∙ sym y
  fault_one kinds (kind ∷ texts) a b x y = kind_one (kinds kind) texts a b x y

  fit_or_unfit : (decide : (g : G) (text : List ℕ) → Fits g text ⊎ ¬ (Fits g text)) (gs : List G) (ts : List (List ℕ)) → length ts ≡ length gs
      → FitAll Fits gs ts ⊎ ((n : ℕ) × IsFirstUnfit Fits gs ts n)
  fit_or_unfit decide [] [] many = inl tt
  fit_or_unfit decide [] (t ∷ ts) many = absurd (omega (arith, many))
  fit_or_unfit decide (g ∷ gs) [] many = absurd (omega (arith, many))
  fit_or_unfit decide (g ∷ gs) (t ∷ ts) many = elim (decide g t) [
    | inr unfit ↦ inr (zero, unfit)
    | inl fits ↦ elim (fit_or_unfit decide gs ts (omega (arith, many))) [
      | inl more ↦ inl (fits, more)
      | inr unfit ↦ inr (suc unfit.0, (fits, unfit.1))
    ]
  ]

  kind_decided : (decide : (g : G) (text : List ℕ) → Fits g text ⊎ ¬ (Fits g text)) (gs : Option (List G)) (ts : List (List ℕ))
      → FitKind Fits gs ts ⊎ ((why : Why) × IsKindFault Fits gs ts why)
  kind_decided decide None ts = inr (reason.Kind, refl)
  kind_decided decide (Some gs) ts = elim (cases_Bool (nat_eq (length ts) (length gs))) [
    | inr other ↦ inr (reason.Fields, λ e. false≢true (sym other ∙ eq-eqb (length ts) (length gs) e))
    | inl same ↦
        let many = eqb-true (length ts) (length gs) same in
        elim (fit_or_unfit decide gs ts many) [
          | inl fit ↦ inl fit
          | inr unfit ↦
              let place : unfit.0 ≡ unfit.0 + 2 - 2 = omega arith in
              inr (reason.Field (unfit.0 + 2), (many, omega arith, subst (IsFirstUnfit Fits gs ts) place unfit.1))
        ]
  ]

  -- fields are those of a line, or have a fault
  pub fields_decided : (decide : (g : G) (text : List ℕ) → Fits g text ⊎ ¬ (Fits g text)) (kinds : List ℕ → Option (List G)) (fields : List (List ℕ))
      → AreFit Fits kinds fields ⊎ ((why : Why) × IsFieldsFault Fits kinds fields why)
  fields_decided decide kinds [] = inr (reason.Kind, refl)
  fields_decided decide kinds (kind ∷ texts) = kind_decided decide (kinds kind) texts

  -- the field of this number is the first that is outside its grammar
  pub fault_at : (kinds : List ℕ → Option (List G)) (kind : List ℕ) (gs : List G) (ts us : List (List ℕ)) (n : ℕ) (why : Why) → kinds kind ≡ Some gs → ts ≡ us
      → length us ≡ length gs → why ≡ reason.Field (n + 2) → IsFirstUnfit Fits gs us n → IsFieldsFault Fits kinds (kind ∷ ts) why
  fault_at kinds kind gs ts us n why known same many named bad =
      let place : n ≡ n + 2 - 2 = omega arith in
      let first : IsFirstUnfit Fits gs us (n + 2 - 2) = subst (IsFirstUnfit Fits gs us) place bad in
      let among : IsTextsFault Fits gs us why = subst (IsTextsFault Fits gs us) (sym named) (many, omega arith, first) in
      let under : IsKindFault Fits (kinds kind) us why = subst (λ (o : Option (List G)). IsKindFault Fits o us why) (sym known) among in
      subst (λ (vs : List (List ℕ)). IsKindFault Fits (kinds kind) vs why) (sym same) under

  -- a line of too many fields
  pub many_fields : (kinds : List ℕ → Option (List G)) (most : ℕ) (text kind rest : List ℕ) (why : Why) → text ≡ kind ++ 9 ∷ rest → lacks 9 kind ≡ true
      → most + 1 < length (pieces 9 text) → ((texts : List (List ℕ)) → most < length texts → IsFieldsFault Fits kinds (kind ∷ texts) why)
      → IsFieldsFault Fits kinds (pieces 9 text) why
  many_fields kinds most text kind rest why cut lacking many fault =
      let parts = ap (pieces 9) cut ∙ pieces-cut 9 kind rest lacking in
      subst (λ fields. IsFieldsFault Fits kinds fields why) (sym parts) (fault (pieces 9 rest) (omega (arith, many, ap length parts)))

pub one_field : (line : List ℕ) (n : ℕ) → lacks 9 line ≡ true → 0 < n → ¬ (n < length (pieces 9 line))
one_field line n lacking some many = omega (arith, some, many, ap length (pieces-lacking 9 line lacking))

abbrev AreFields : List (List ℕ) → Type 0
AreFields fields = AreFit IsText (grammars_of (length fields)) fields

marks_length : (marks : List Mark) → length (marks_fields marks) ≡ 5 * length marks
marks_length [] = refl
marks_length (mark ∷ marks) = omega (arith, marks_length marks)

-- the fields of marks are in their grammars
pub marks_texts : (marks : List Mark) → AreMarks marks → AreTexts (marks_grammars (length marks)) (marks_fields marks)
marks_texts [] are = tt
marks_texts (mark ∷ marks) are =
    let is = are.0 in (
      (is.doc.1, is.doc.0),
      (
        (is.rev.1, mark.rev, is.rev.0, refl),
        (
          (is.channels.1, mark.channels, is.channels.0, refl),
          (
            (is.grants.1, mark.grants, is.grants.0, refl),
            ((is.roles.1, mark.roles, is.roles.0, refl), marks_texts marks are.1),
          ),
        ),
      ),
    )

sync_fields : (text : List ℕ) (marks : List Mark) → IsSync (record { text = text; marks = marks }) → AreFields (fields_of (entry.Sync text marks))
sync_fields text marks is =
    let count : length marks ≡ (length (fields_of (entry.Sync text marks)) - 2) / 5 = omega (arith, marks_length marks) in
    ((text, is.text.0, is.text.1, refl), subst (λ (n : ℕ). AreTexts (marks_grammars n) (marks_fields marks)) count (marks_texts marks is.marks))

entry_fields : (e : Entry) → IsEntry e → AreFields (fields_of e)
entry_fields (entry.Write w) is = write_texts w is
entry_fields (entry.PutUser name channels roles) is =
    ((is.name.1, is.name.0), ((is.channels.1, channels, is.channels.0, refl), ((is.roles.1, roles, is.roles.0, refl), tt)))
entry_fields (entry.PutRole name channels) is = ((is.name.1, is.name.0), ((is.channels.1, channels, is.channels.0, refl), tt))
entry_fields (entry.DropUser name) is = ((is.1, is.0), tt)
entry_fields (entry.DropRole name) is = ((is.1, is.0), tt)
entry_fields (entry.Sync text marks) is = sync_fields text marks is
entry_fields entry.Unused is = tt

-- fields with a fault are no entry's
pub no_entry : (fields : List (List ℕ)) (why : Why) → IsFault fields why → NoEntry fields
no_entry fields why fault e is spelled = apart IsText (grammars_of (length fields)) fields why fault (subst AreFields (sym spelled) (entry_fields e is))

first_in : (gs hs : List Grammar) (ts us : List (List ℕ)) (n : ℕ) → IsFirstBad gs ts n → IsFirstBad (gs ++ hs) (ts ++ us) n
first_in [] hs ts us n bad = absurd bad
first_in (g ∷ gs) hs [] us n bad = absurd bad
first_in (g ∷ gs) hs (t ∷ ts) us zero bad = bad
first_in (g ∷ gs) hs (t ∷ ts) us (suc n) bad = (bad.0, first_in gs hs ts us n bad.1)

first_behind : (gs hs : List Grammar) (ts us : List (List ℕ)) (n m : ℕ) → AreTexts gs ts → IsFirstBad hs us n → m ≡ length gs + n
    → IsFirstBad (gs ++ hs) (ts ++ us) m
first_behind [] hs [] us n m front bad e = let same : n ≡ m = omega arith in subst (IsFirstBad hs us) same bad
first_behind [] hs (t ∷ ts) us n m front bad e = absurd front
first_behind (g ∷ gs) hs [] us n m front bad e = absurd front
first_behind (g ∷ gs) hs (t ∷ ts) us n zero front bad e = absurd (omega arith)
first_behind (g ∷ gs) hs (t ∷ ts) us n (suc m) front bad e = (front.0, first_behind gs hs ts us n m front.1 bad (omega arith))

-- the one text that is read is outside its grammar
pub bad_alone : (n : ℕ) (g : Grammar) (t : List ℕ) (e : LineFault) → IsBadField n g t e → IsBadTextAmong n (g ∷ []) (t ∷ []) e
bad_alone n g t (line.Bad why) bad = let place : n ≡ n + 0 = omega arith in (0, bad.0 ∙ ap reason.Field place, bad.1)
bad_alone n g t line.Memory bad = tt

-- one of the texts in front is outside its grammar
pub bad_in_front : (n : ℕ) (gs hs : List Grammar) (ts us : List (List ℕ)) (e : LineFault) → IsBadTextAmong n gs ts e
    → IsBadTextAmong n (gs ++ hs) (ts ++ us) e
bad_in_front n gs hs ts us (line.Bad why) bad = (bad.0, bad.1, first_in gs hs ts us bad.0 bad.2)
bad_in_front n gs hs ts us line.Memory bad = tt

-- one of the texts behind those that are in their grammars is outside its own
pub bad_behind : (n m : ℕ) (gs hs : List Grammar) (ts us : List (List ℕ)) (e : LineFault) → AreTexts gs ts → m ≡ n + length gs
    → IsBadTextAmong m hs us e → IsBadTextAmong n (gs ++ hs) (ts ++ us) e
bad_behind n m gs hs ts us (line.Bad why) front at bad =
    let place : m + bad.0 ≡ n + (length gs + bad.0) = omega arith in
    (length gs + bad.0, bad.1 ∙ ap reason.Field place, first_behind gs hs ts us bad.0 (length gs + bad.0) front bad.2 refl)
bad_behind n m gs hs ts us line.Memory front at bad = tt

-- a field behind a kind that these grammars follow is outside its own
pub bad_texts : (gs : List Grammar) (ts us : List (List ℕ)) (e : LineFault) → ts ≡ us → length us ≡ length gs → IsBadTextAmong 2 gs us e
    → HasReason (IsTextsFault IsText gs ts) e
bad_texts gs ts us (line.Bad why) same many bad =
    let place : bad.0 ≡ 2 + bad.0 - 2 = omega arith in
    let first : IsFirstUnfit IsText gs us (2 + bad.0 - 2) = subst (IsFirstUnfit IsText gs us) place bad.2 in
    let among : IsTextsFault IsText gs us why = subst (IsTextsFault IsText gs us) (sym bad.1) (many, omega arith, first) in
    subst (λ (vs : List (List ℕ)). IsTextsFault IsText gs vs why) (sym same) among
bad_texts gs ts us line.Memory same many bad = tt

-- a field behind this kind is outside its grammar
pub bad_field_of : (kind : List ℕ) (gs : List Grammar) (ts us : List (List ℕ)) (e : LineFault) → grammars_of (length (kind ∷ ts)) kind ≡ Some gs → ts ≡ us
    → length us ≡ length gs → IsBadTextAmong 2 gs us e → HasReason (IsFault (kind ∷ ts)) e
bad_field_of kind gs ts us (line.Bad why) known same many bad =
    let place : 2 + bad.0 ≡ bad.0 + 2 = omega arith in
    fault_at IsText (grammars_of (length (kind ∷ ts))) kind gs ts us bad.0 why known same many (bad.1 ∙ ap reason.Field place) bad.2
bad_field_of kind gs ts us line.Memory known same many bad = tt

marks_count : (count : ℕ) → length (marks_grammars count) ≡ 5 * count
marks_count zero = refl
marks_count (suc count) = omega (arith, marks_count count)

-- the kind `S` alone
pub sync_alone : (kind : List ℕ) (texts : List (List ℕ)) → kind ≡ codes "S" → length texts ≡ 0 → IsFault (kind ∷ texts) reason.Fields
sync_alone kind texts is none =
    subst (λ (k : List ℕ). IsFault (k ∷ texts) reason.Fields) (sym is) (λ e. omega (arith, e, none))

-- a number of fields that is none of a text and marks
pub sync_miscounted : (texts : List (List ℕ)) → length texts % 5 ≢ 1 → IsFault (codes "S" ∷ texts) reason.Fields
sync_miscounted texts other = λ e. other (omega (arith, e, marks_count ((length (codes "S" ∷ texts) - 2) / 5)))

-- the text of a sync function is outside its grammar
pub sync_text_bad : (count : ℕ) (text : List ℕ) (more : List (List ℕ)) (e : LineFault) → length more ≡ 5 * count → IsBadField 2 sync_text text e
    → HasReason (IsFault (codes "S" ∷ text ∷ more)) e
sync_text_bad count text more e many bad =
    let n = (length (codes "S" ∷ text ∷ more) - 2) / 5 in
    let all : length (text ∷ more) ≡ length (sync_grammars n) = omega (arith, many, marks_count n) in
    bad_field_of (codes "S") (sync_grammars n) (text ∷ more) (text ∷ more) e refl refl all
    (bad_in_front 2 (sync_text ∷ []) (marks_grammars n) (text ∷ []) more e (bad_alone 2 sync_text text e bad))

-- a field of a mark is outside its grammar
pub sync_marks_bad : (count : ℕ) (text : List ℕ) (more : List (List ℕ)) (e : LineFault) → length more ≡ 5 * count → IsText sync_text text
    → IsBadTextAmong 3 (marks_grammars count) more e → HasReason (IsFault (codes "S" ∷ text ∷ more)) e
sync_marks_bad count text more e many fits bad =
    let n = (length (codes "S" ∷ text ∷ more) - 2) / 5 in
    let all : length (text ∷ more) ≡ length (sync_grammars n) = omega (arith, many, marks_count n) in
    let same : count ≡ n = omega (arith, many) in
    let among : IsBadTextAmong 3 (marks_grammars n) more e = subst (λ (k : ℕ). IsBadTextAmong 3 (marks_grammars k) more e) same bad in
    bad_field_of (codes "S") (sync_grammars n) (text ∷ more) (text ∷ more) e refl refl all
    (bad_behind 2 3 (sync_text ∷ []) (marks_grammars n) (text ∷ []) more e (fits, tt) refl among)

marks_split : (count rest : ℕ) → marks_grammars (count + suc rest) ≡ marks_grammars count ++ (mark_grammars ++ marks_grammars rest)
marks_split zero rest = let one : zero + suc rest ≡ suc rest = omega arith in ap marks_grammars one
marks_split (suc count) rest =
    let one : suc count + suc rest ≡ suc (count + suc rest) = omega arith in
    ap marks_grammars one ∙ ap (λ (gs : List Grammar). mark_grammars ++ gs) (marks_split count rest)

-- a field of the mark behind those that were read is outside its grammar
pub mark_bad : (count i : ℕ) (ms : List Mark) (all texts left : List (List ℕ)) (e : LineFault) → AreMarks ms → length ms ≡ i → i < count
    → all ≡ marks_fields ms ++ (texts ++ left) → IsBadTextAmong (5 * i + 3) mark_grammars texts e → IsBadTextAmong 3 (marks_grammars count) all e
mark_bad count i ms all texts left e are many inside is bad =
    let rest = count - (length ms + 1) in
    let whole : length ms + suc rest ≡ count = omega (arith, many, inside) in
    let place : 5 * i + 3 ≡ 3 + length (marks_grammars (length ms)) = omega (arith, many, marks_count (length ms)) in
    let behind = bad_in_front (5 * i + 3) mark_grammars (marks_grammars rest) texts left e bad in
    let found = bad_behind 3 (5 * i + 3) (marks_grammars (length ms)) (mark_grammars ++ marks_grammars rest) (marks_fields ms) (texts ++ left) e (marks_texts ms are) place behind in
    let grammars = sym (marks_split (length ms) rest) ∙ ap marks_grammars whole in
    subst (λ (gs : List Grammar). IsBadTextAmong 3 gs all e) grammars
    (subst (λ (ts : List (List ℕ)). IsBadTextAmong 3 (marks_grammars (length ms) ++ (mark_grammars ++ marks_grammars rest)) ts e) (sym is) found)

pub marks_more : (ms : List Mark) (mark : Mark) → AreMarks ms → IsMark mark → AreMarks (ms ++ mark ∷ [])
marks_more [] mark are is = (is, tt)
marks_more (m ∷ ms) mark are is = (are.0, marks_more ms mark are.1 is)

pub fields_more : (ms : List Mark) (mark : Mark) → marks_fields (ms ++ mark ∷ []) ≡ marks_fields ms ++ marks_fields (mark ∷ [])
fields_more [] mark = refl
fields_more (m ∷ ms) mark =
    ap (λ (fs : List (List ℕ)). m.doc ∷ rev_text m.rev ∷ channels_text m.channels ∷ grants_text m.grants ∷ role_grants_text m.roles ∷ fs) (fields_more ms mark)

-- one mark more was read
pub fields_next : (ms : List Mark) (mark : Mark) (all texts left : List (List ℕ)) → all ≡ marks_fields ms ++ (texts ++ left) → texts ≡ marks_fields (mark ∷ [])
    → all ≡ marks_fields (ms ++ mark ∷ []) ++ left
fields_next ms mark all texts left is read =
    is ∙ ap (λ (ts : List (List ℕ)). marks_fields ms ++ (ts ++ left)) read ∙ sym (append_assoc (marks_fields ms) (marks_fields (mark ∷ [])) left)
    ∙ ap (λ (fs : List (List ℕ)). fs ++ left) (sym (fields_more ms mark))

none_left : (fields : List (List ℕ)) → length fields ≡ 0 → fields ≡ []
none_left [] h = refl
none_left (field ∷ fields) h = absurd (omega (arith, h))

-- all marks were read
pub fields_whole : (count : ℕ) (ms : List Mark) (all left : List (List ℕ)) → length all ≡ 5 * count → length ms ≡ count → all ≡ marks_fields ms ++ left
    → all ≡ marks_fields ms
fields_whole count ms all left long many is =
    let none : length left ≡ 0 = omega (arith, long, many, marks_length ms, ap length is, length-append (marks_fields ms) left) in
    is ∙ ap (λ (l : List (List ℕ)). marks_fields ms ++ l) (none_left left none) ∙ append-nil (marks_fields ms)

-- there is a mark's fields left
pub fields_enough : (count i : ℕ) (ms : List Mark) (all left : List (List ℕ)) → length all ≡ 5 * count → length ms ≡ i → i < count → all ≡ marks_fields ms ++ left
    → 5 ≤ length left
fields_enough count i ms all left long many inside is =
    omega (arith, long, many, inside, marks_length ms, ap length is, length-append (marks_fields ms) left)
