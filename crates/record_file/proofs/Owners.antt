-- the line that says whose session it is
use Rattle.std.proofs.Common.{◌≡◌, ◌≢◌, ◌⊎◌, ℕ, Bool, true, false, inl, inr, List, [], ◌∷◌, ◌++◌, length, refl, sym, ap, ◌∙◌, subst, arith, codes, IsUtf8, Option, Some, None}
use Rattle.std.specs.Prelude.{is_some, MatchOption, Result, Ok, Err, IfOk, IfErr, MatchResult, if◌then◌else◌}
use denote.Ref.{Bor}
use Rattle.std.specs.List.{join_with_byte, list_all}
use Rattle.std.specs.Str.{bytes_eq}
use Rattle.std.proofs.lemmas.Bool.{and_from, cases_Bool, false≢true}
use Rattle.std.proofs.lemmas.Slice.Eq.{bytes_eq-Decides}
use Rattle.sg_names.proofs.PlainTexts.{plain_name}
use Rattle.sg_names.specs.Grammar.{is_name, is_plain, lacks}
use Rattle.sg_names.specs.Hex.{is_hex}
use Rattle.sg_history.specs.declared.fault.LineFault.{LineFault}
use Rattle.sg_history.specs.declared.fault.LineFault.TheVariants as line
use Rattle.sg_history.specs.declared.fault.Why.{Why}
use Rattle.sg_history.specs.declared.fault.Why.TheVariants as reason
use Rattle.sg_history.specs.Faults as journal
use Rattle.sg_history.specs.Faults.{HasReason, IsBadField, IsText}
use Rattle.sg_history.specs.FieldFaults.{AreFit, FitAll, FitKind, IsKindFault}
use Rattle.sg_history.specs.Pieces.{pieces}
use Rattle.sg_history.proofs.DecidedTexts.{Decided, same_text, text_decided}
use Rattle.sg_history.proofs.FaultLemmas.{apart, fault_at, fields_decided}
use Rattle.sg_history.proofs.LineTexts.{fields_pieces, fields_whole, joined_pieces}
use Rattle.sg_history.proofs.PieceLemmas.{pieces-some}
use Rattle.repl_messages.specs.declared.request.Version.{Version}
use Rattle.repl_messages.specs.declared.request.Version.TheVariants as version
use Rattle.record_file.specs.Record.{owner_text, version_text}
use Rattle.record_file.specs.Faults as faults
use Rattle.record_file.specs.Faults.{NamesReason, RecordField, IsOwnerFault, IsRecordField, frame_fault, record_parts}

-- the fields of the line of a user
abbrev owner_fields : List ℕ → Version → List (List ℕ)
owner_fields user v = codes "user" ∷ user ∷ version_text v ∷ []

plain_version : (v : Version) → is_plain (version_text v) ≡ true
plain_version version.Two = refl
plain_version version.Three = refl

owner_plain : (user : List ℕ) (v : Version) → is_name user ≡ true → list_all (λ f. is_plain f) (owner_fields user v) ≡ true
owner_plain user v h = and_from _ _ refl (and_from _ _ (plain_name user h) (and_from _ _ (plain_version v) refl))

-- the line has no line feed
pub owner_lacks : (user : List ℕ) (v : Version) → is_name user ≡ true → lacks 10 (owner_text user v) ≡ true
owner_lacks user v h = fields_whole (owner_fields user v) (owner_plain user v h)

owner_pieces : (user : List ℕ) (v : Version) → is_name user ≡ true → pieces 9 (owner_text user v) ≡ owner_fields user v
owner_pieces user v h = fields_pieces (owner_fields user v) (omega arith) (owner_plain user v h)

-- nothing is wrong with the line of a user
pub owner_apart : (text user : List ℕ) (v : Version) (why : Why) → text ≡ owner_text user v → is_name user ≡ true → IsUtf8 user → ¬ (IsOwnerFault (pieces 9 text) why)
owner_apart text user v why spelled is utf8 fault =
    apart IsRecordField record_parts (owner_fields user v) why (subst (λ fields. IsOwnerFault fields why) (ap (pieces 9) spelled ∙ owner_pieces user v is) fault)
    ((utf8, is), ((v, refl), tt))

two_apart : codes "2" ≢ codes "3"
two_apart e = false≢true (sym (ap (λ t. bytes_eq t (codes "2")) e))

version_same : (v w : Version) → version_text v ≡ version_text w → v ≡ w
version_same version.Two version.Two e = refl
version_same version.Two version.Three e = absurd (two_apart e)
version_same version.Three version.Two e = absurd (two_apart (sym e))
version_same version.Three version.Three e = refl

-- a line is that of one user and version
pub owner_same : (user other : List ℕ) (v w : Version) → is_name user ≡ true → is_name other ≡ true → owner_text user v ≡ owner_text other w → (user ≡ other) × (v ≡ w)
owner_same user other v w h g e =
    let fields = sym (owner_pieces user v h) ∙ ap (pieces 9) e ∙ owner_pieces other w g in
    let users : user ≡ other = cc (fields) in
    let versions : version_text v ≡ version_text w = cc (fields) in
    (users, version_same v w versions)

abbrev Spelled : List ℕ → Type 0
Spelled text = (v : Version) × (text ≡ version_text v)

version_decided : (text : List ℕ) → Decided (Spelled text)
version_decided text = elim (same_text text (codes "2")) [
  | inl two ↦ inl (version.Two, two)
  | inr no_two ↦ elim (same_text text (codes "3")) [
    | inl three ↦ inl (version.Three, three)
    | inr no_three ↦ inr (λ h. neither h.0 h.1 no_two no_three)
  ]
]
  where
    neither : (v : Version) → text ≡ version_text v → text ≢ codes "2" → text ≢ codes "3" → ⊥
    neither version.Two is no_two no_three = no_two is
    neither version.Three is no_two no_three = no_three is

part_decided : (p : RecordField) (text : List ℕ) → Decided (IsRecordField p text)
part_decided (faults.field g) text = text_decided g text
part_decided faults.version text = version_decided text

-- whose session has this line
pub record HasOwner (line : List ℕ) : Type 0 where
  pub user : List ℕ
  pub version : Version
  pub name : (is_name user ≡ true) × IsUtf8 user
  pub text : line ≡ owner_text user version

-- the fields that follow the kind `user`
abbrev owner_parts : List RecordField
owner_parts = faults.field journal.name ∷ faults.version ∷ []

texts_found : (line kind : List ℕ) (texts : List (List ℕ)) → line ≡ join_with_byte 9 (kind ∷ texts) → kind ≡ codes "user" → FitAll IsRecordField owner_parts texts → HasOwner line
texts_found line kind [] whole is fit = absurd fit
texts_found line kind (name ∷ []) whole is fit = absurd fit.1
texts_found line kind (name ∷ v ∷ other ∷ more) whole is fit = absurd fit.1.1
texts_found line kind (name ∷ v ∷ []) whole is fit =
    let found = fit.1.0 in
    record { user = name; version = found.0; name = (fit.0.1, fit.0.0); text = whole ∙ (λ k. is k ++ 9 ∷ (name ++ 9 ∷ found.1 k)) }

kind_found : (line kind : List ℕ) (texts : List (List ℕ)) (b : Bool) → line ≡ join_with_byte 9 (kind ∷ texts) → bytes_eq kind (codes "user") ≡ b
    → FitKind IsRecordField (if b then Some owner_parts else None) texts → HasOwner line
kind_found line kind texts true whole is fit = texts_found line kind texts whole ((bytes_eq-Decides kind (codes "user")).0 is) fit
kind_found line kind texts false whole is fit = absurd fit

fields_found : (line : List ℕ) (fields : List (List ℕ)) → line ≡ join_with_byte 9 fields → AreFit IsRecordField record_parts fields → HasOwner line
fields_found line [] whole fit = absurd fit
fields_found line (kind ∷ texts) whole fit = kind_found line kind texts (bytes_eq kind (codes "user")) whole refl fit

-- a line says whose session it is, or something is wrong with its fields
pub owner_either : (text : List ℕ) → HasOwner text ⊎ ((why : Why) × IsOwnerFault (pieces 9 text) why)
owner_either text = elim (fields_decided IsRecordField part_decided record_parts (pieces 9 text)) [
  | inl fit ↦ inl (fields_found text (pieces 9 text) (sym (joined_pieces 9 text)) fit)
  | inr fault ↦ inr fault
]

-- a first field that is not `user`
pub other_kind : (kind : List ℕ) (texts : List (List ℕ)) → kind ≢ codes "user" → IsOwnerFault (kind ∷ texts) reason.Kind
other_kind kind texts other = elim (cases_Bool (bytes_eq kind (codes "user"))) [
  | inl same ↦ absurd (other ((bytes_eq-Decides kind (codes "user")).0 same))
  | inr apart ↦
      subst (λ (o : Option (List RecordField)). IsKindFault IsRecordField o texts reason.Kind) (sym (ap (λ (b : Bool). if b then Some owner_parts else None) apart)) refl
]

-- what is wrong with the fields behind the kind is wrong with the line
pub behind_user : {T : Type 0} (text kind : List ℕ) (texts : List (List ℕ)) (r : Result T LineFault) → pieces 9 text ≡ kind ∷ texts → kind ≡ codes "user"
    → IfErr r (HasReason (IsOwnerFault (codes "user" ∷ texts))) → IfErr r (HasReason (IsOwnerFault (pieces 9 text)))
behind_user text kind texts r cut is h =
    subst (λ fields. IfErr r (HasReason (IsOwnerFault fields))) (ap (λ (k : List ℕ). k ∷ texts) (sym is) ∙ sym cut) h

abbrev Cut : List ℕ → Option (Bor (List ℕ) × Bor (List ℕ)) → Type 0
Cut text r = MatchOption r (pieces 9 text ≡ text ∷ []) (λ p. pieces 9 text ≡ p.0.now ∷ pieces 9 p.1.now)

-- one field alone follows the kind
pub few_fields : (fields : List ℕ) → pieces 9 fields ≡ fields ∷ [] → IsOwnerFault (codes "user" ∷ pieces 9 fields) reason.Fields
few_fields fields cut = λ e. omega (arith, e, ap length cut)

-- a field follows the second
pub many_fields : (fields name version : List ℕ) (r : Option (Bor (List ℕ) × Bor (List ℕ))) → pieces 9 fields ≡ name ∷ pieces 9 version → is_some r ≡ true → Cut version r
    → IsOwnerFault (codes "user" ∷ pieces 9 fields) reason.Fields
many_fields fields name version None cut some h = absurd (false≢true some)
many_fields fields name version (Some p) cut some h = λ e. omega (arith, e, ap length cut, ap length h, pieces-some 9 p.1.now)

-- none does
pub two_fields : (fields name version : List ℕ) (r : Option (Bor (List ℕ) × Bor (List ℕ))) → pieces 9 fields ≡ name ∷ pieces 9 version → is_some r ≡ false → Cut version r
    → pieces 9 fields ≡ name ∷ version ∷ []
two_fields fields name version None cut none h = cut ∙ ap (λ rest. name ∷ rest) h
two_fields fields name version (Some p) cut none h = absurd (false≢true (sym none))

-- the name is outside its grammar
pub bad_name : (ts : List (List ℕ)) (name version : List ℕ) (e : LineFault) → ts ≡ name ∷ version ∷ [] → IsBadField 2 journal.name name e
    → HasReason (IsOwnerFault (codes "user" ∷ ts)) e
bad_name ts name version (line.Bad why) same bad = fault_at IsRecordField record_parts (codes "user") owner_parts ts (name ∷ version ∷ []) 0 why refl same refl bad.0 bad.1
bad_name ts name version line.Memory same bad = tt

-- the version is
pub bad_version : (ts : List (List ℕ)) (name version : List ℕ) (e : LineFault) → ts ≡ name ∷ version ∷ [] → IsText journal.name name
    → HasReason (λ why. (why ≡ reason.Field 3) × ¬ (IsRecordField faults.version version)) e → HasReason (IsOwnerFault (codes "user" ∷ ts)) e
bad_version ts name version (line.Bad why) same is bad =
    fault_at IsRecordField record_parts (codes "user") owner_parts ts (name ∷ version ∷ []) 1 why refl same refl bad.0 (is, bad.1)
bad_version ts name version line.Memory same is bad = tt

-- what is said of a line that is to be a frame
pub frame_refusal : (text : List ℕ) (r : Result (List ℕ) LineFault) → IfOk r (λ v. IsText journal.body text) → IfErr r (IsBadField 1 journal.body text)
    → MatchResult r (λ v. frame_fault text ≡ None) (NamesReason (frame_fault text))
frame_refusal text (Ok v) is bad = ap (λ t. if t then None else Some (reason.Field 1)) is
frame_refusal text (Err (line.Bad why)) is bad = elim (cases_Bool (is_hex text)) [
  | inl hex ↦ absurd (bad.1 hex)
  | inr other ↦ ap (λ t. if t then None else Some (reason.Field 1)) other ∙ ap Some (sym bad.0)
]
frame_refusal text (Err line.Memory) is bad = tt
