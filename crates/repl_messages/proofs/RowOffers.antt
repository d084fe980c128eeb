-- Rows and the offers that they are of.
use Rattle.std.proofs.Common.{◌≡◌, ℕ, zero, suc, ◌+◌, ◌<◌, ◌≤◌, List, [], ◌∷◌, ◌++◌, append_assoc, map, drop, length, get_or, IsTrue, true, Option, Some, None, Result, Ok, Err, IfOk, refl, sym, ap, ◌∙◌, subst, arith}
use Rattle.std.proofs.Math.Seq.{drop-nil}
use Rattle.std.specs.List.{slice_get}
use Rattle.std.proofs.lemmas.List.{append-nil}
use Rattle.serde_json.specs.Data.{Data, null, boolean, number, string, array, object, Items}
use Rattle.serde_json.specs.Find.{as_array, as_str}
use Rattle.serde_json.specs.View.{view, items_of}
use Rattle.serde_json.specs.declared.value.Value.{Value}
use Rattle.sg_names.specs.RevId.{rev_text, is_rev}
use Rattle.sg_names.specs.declared.rev_id.RevId.{RevId}
use Rattle.repl_messages.specs.declared.offers.Offer.{Offer}
use Rattle.repl_messages.specs.declared.rows.Form.{Form}
use Rattle.repl_messages.specs.Fields.{IsFound}
use Rattle.repl_messages.specs.Json.{json_of}
use Rattle.repl_messages.specs.Offers.{NamesDocument, NamesRevision, IsParent, AreOfChange, AreOfProposal, is_sequence, AreItems, IsRow, AreRows, AreOffers, IsOffering}
use Rattle.repl_messages.proofs.OneAnswer.{array-same}

-- what has items is an array
pub array_with : (d : Data) (items : Items) → Some items ≡ as_array d → d ≡ array items
array_with null items e = cc
array_with (boolean b) items e = cc
array_with (number n) items e = cc
array_with (string s) items e = cc
array_with (array ds) items e = cc
array_with (object ms) items e = cc

no_array : (d : Data) (items : Items) → None ≡ as_array d → d ≡ array items → ⊥
no_array d items e f = let none : None ≡ Some items = e ∙ ap as_array f in cc

found : (form : Form) (row : Data) (items : List Data) (o : Option Offer) → row ≡ array (items_of items) → IsFound (λ o. AreItems form items o) o → IsFound (λ o. IsRow form row o) o
found form row items (Some o) e h = (items, e, h)
found form row items None e h = λ o (others, f, i).
    let same : items ≡ others = array-same items others (sym e ∙ f) in
    h o (rw same i)

-- the offer of a row's items is that of the row
pub row_found : {E : Type 0} (form : Form) (row : Data) (items : List Data) (o : Result (Option Offer) E) → Some (items_of items) ≡ as_array row
    → IfOk o (λ o. IsFound (λ o. AreItems form items o) o) → IfOk o (λ o. IsFound (λ o. IsRow form row o) o)
row_found form row items (Ok o) e h = found form row items o (array_with row (items_of items) e) h
row_found form row items (Err x) e h = tt

-- what is no array is no row
pub no_row : (form : Form) (row : Data) → None ≡ as_array row → (o : Offer) → IsRow form row o → ⊥
no_row form row e o (items, f, h) = no_array row (items_of items) e f

-- one row that is of no offer
pub rows_none : (form : Form) (rows : List Value) (i : ℕ) (x : Value) → i < length rows → x ≡ get_or rows i x → ((o : Offer) → ¬ IsRow form (view x) o)
    → (os : List Offer) → ¬ AreRows form (map view rows) os
rows_none form [] i x low e none os h = absurd (omega (arith, low))
rows_none form (v ∷ vs) zero x low e none [] h = absurd h
rows_none form (v ∷ vs) zero x low e none (o ∷ os) h = none o (rw e h.0)
rows_none form (v ∷ vs) (suc i) x low e none [] h = absurd h
rows_none form (v ∷ vs) (suc i) x low e none (o ∷ os) h = rows_none form vs i x (omega (arith, low)) e none os h.1

-- there are as many offers as rows
as_many : (form : Form) (rows : List Data) (os : List Offer) → AreRows form rows os → length os ≡ length rows
as_many form [] [] h = refl
as_many form [] (o ∷ os) h = absurd h
as_many form (row ∷ rows) [] h = absurd h
as_many form (row ∷ rows) (o ∷ os) h = ap suc (as_many form rows os h.1)

offers_in : (form : Form) (value : Data) (rows : List Data) (os : Option (List Offer)) → value ≡ array (items_of rows) → length rows ≤ 10000
    → IsFound (λ os. AreRows form rows os) os → IsFound (λ os. AreOffers form value os) os
offers_in form value rows (Some os) e few h = (rows, e, h, rw (as_many form rows os h) few)
offers_in form value rows None e few h = λ os (others, f, i, no_more).
    let same : rows ≡ others = array-same rows others (sym e ∙ f) in
    h os (rw same i)

-- the offers of an array's rows, which are not too many, are those of the array
pub offers_found : {E : Type 0} (form : Form) (value : Data) (rows : List Data) (os : Result (Option (List Offer)) E) → Some (items_of rows) ≡ as_array value → length rows ≤ 10000
    → IfOk os (λ os. IsFound (λ os. AreRows form rows os) os) → IfOk os (λ os. IsFound (λ os. AreOffers form value os) os)
offers_found form value rows (Ok os) e few h = offers_in form value rows os (array_with value (items_of rows) e) few h
offers_found form value rows (Err x) e few h = tt

-- too many rows are no offers
pub too_many : (form : Form) (value : Data) (rows : List Data) → Some (items_of rows) ≡ as_array value → 10000 < length rows → (os : List Offer) → AreOffers form value os → ⊥
too_many form value rows e many os (others, f, h, few) =
    let same : rows ≡ others = array-same rows others (sym (array_with value (items_of rows) e) ∙ f) in
    let count : length os ≡ length rows = as_many form others os h ∙ ap length (sym same) in
    omega (arith, many, few, count)

rows_from : (form : Form) (rows : List Value) (i : ℕ) (x : Value) (o : Offer) (rest : List Offer) → i < length rows → x ≡ get_or rows i x
    → IsRow form (view x) o → AreRows form (map view (drop (suc i) rows)) rest → AreRows form (map view (drop i rows)) (o ∷ rest)
rows_from form [] i x o rest low e is h = absurd (omega (arith, low))
rows_from form (v ∷ vs) zero x o rest low e is h = (rw (sym e) is, h)
rows_from form (v ∷ vs) (suc i) x o rest low e is h = rows_from form vs i x o rest (omega (arith, low)) e is h

-- one row more, and its offer
pub rows_more : (form : Form) (rows : List Value) (i : ℕ) (x : Value) (o : Offer) (os more : List Offer) → i < length rows → x ≡ get_or rows i x
    → IsRow form (view x) o → more ≡ os ++ o ∷ []
    → ((rest : List Offer) → AreRows form (map view (drop i rows)) rest → AreRows form (map view rows) (os ++ rest))
    → (rest : List Offer) → AreRows form (map view (drop (i + 1) rows)) rest → AreRows form (map view rows) (more ++ rest)
rows_more form rows i x o os more low e is pushed so_far = λ rest h.
    let next : i + 1 ≡ suc i = omega arith in
    let all = so_far (o ∷ rest) (rows_from form rows i x o rest low e is (subst (λ (k : ℕ). AreRows form (map view (drop k rows)) rest) next h)) in
    rw (pushed, append_assoc) all

past_end : {X : Type 0} (xs : List X) (i : ℕ) → length xs ≤ i → drop i xs ≡ []
past_end [] i h = drop-nil i
past_end (x ∷ xs) zero h = absurd (omega (arith, h))
past_end (x ∷ xs) (suc i) h = past_end xs i (omega (arith, h))

-- at the end of the rows their offers are all
pub all_rows : (form : Form) (rows : List Value) (i : ℕ) (os all : List Offer) → length rows ≤ i → all ≡ os
    → ((rest : List Offer) → AreRows form (map view (drop i rows)) rest → AreRows form (map view rows) (os ++ rest)) → AreRows form (map view rows) all
all_rows form rows i os all h e so_far =
    let none : AreRows form (map view (drop i rows)) [] = rw (past_end rows i h) tt in
    subst (λ xs. AreRows form (map view rows) xs) (append-nil os ∙ sym e) (so_far [] none)

-- the offers of the value that a body is read as are those of the body
pub body_found : {E : Type 0} (form : Form) (body : List ℕ) (value : Data) (os : Result (Option (List Offer)) E) → Some value ≡ json_of body
    → IfOk os (λ os. IsFound (λ os. AreOffers form value os) os) → IfOk os (λ os. IsFound (λ os. IsOffering form body os) os)
body_found form body value (Ok (Some os)) e h = (value, sym e, h)
body_found form body value (Ok None) e h = λ os (other, f, i).
    let both : Some value ≡ Some other = e ∙ f in
    let same : value ≡ other = cc in
    h os (rw same i)
body_found form body value (Err x) e h = tt

str_with : (d : Data) (text : List ℕ) → Some text ≡ as_str d → d ≡ string text
str_with null text e = cc
str_with (boolean b) text e = cc
str_with (number n) text e = cc
str_with (string s) text e = cc
str_with (array ds) text e = cc
str_with (object ms) text e = cc

-- an item whose text is that of a revision names it
pub rev_named : (item : Data) (text : List ℕ) (r : RevId) → Some text ≡ as_str item → (text ≡ rev_text r) × IsTrue (is_rev r) → NamesRevision item r
rev_named item text r e is = (str_with item text e ∙ ap string is.0, is.1)

-- an item whose text is that of no revision names none
pub no_rev : (item : Data) (text : List ℕ) → Some text ≡ as_str item → ((r : RevId) → IsTrue (is_rev r) → ¬ (text ≡ rev_text r))
    → (r : RevId) → ¬ (NamesRevision item r)
no_rev item text e none r names =
    let same : Some text ≡ Some (rev_text r) = e ∙ ap as_str names.0 in
    none r names.1 (cc)

-- the items of a change, one taken after another
pub change_is : (values more others : List Value) (sequence doc rev : Value) (d : List ℕ) (r : RevId) → values ≡ sequence ∷ more → more ≡ doc ∷ others
    → Some rev ≡ slice_get others 0 → is_sequence (view sequence) ≡ true → NamesDocument (view doc) d → NamesRevision (view rev) r
    → AreOfChange (map view values) (record { doc = d; rev = r; parent = None })
change_is values more [] sequence doc rev d r e f g s nd nr = absurd (cc (g))
change_is values more (w ∷ ws) sequence doc rev d r e f g s nd nr =
    let head : rev ≡ w = cc in
    rw (e, f) (s, nd, subst (λ (v : Value). NamesRevision (view v) r) head nr, refl)

-- the items of a proposal, one taken after another
pub proposal_is : (values more others : List Value) (doc rev : Value) (d : List ℕ) (r : RevId) (parent : Option RevId) → values ≡ doc ∷ more
    → more ≡ rev ∷ others → NamesDocument (view doc) d → NamesRevision (view rev) r → IsParent (map view others) parent
    → AreOfProposal (map view values) (record { doc = d; rev = r; parent = parent })
proposal_is values more others doc rev d r parent e f nd nr is = rw (e, f) (nd, nr, is)
