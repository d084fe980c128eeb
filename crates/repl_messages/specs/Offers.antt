-- The requests changes and proposeChanges, which offer revisions: their rows.
use Rattle.std.specs.Prelude.{◌≡◌, ◌≤◌, ℕ, Bool, ◌||◌, List, [], ◌∷◌, length, Option, Some, None, is_some, IsTrue}
use Rattle.serde_json.specs.Data.{Data, string, array}
use Rattle.serde_json.specs.Find.{as_number, as_str}
use Rattle.serde_json.specs.View.{items_of}
use Rattle.sg_names.specs.Grammar.{is_doc_id}
use Rattle.sg_names.specs.RevId.{rev_text, is_rev}
use Rattle.sg_names.specs.declared.rev_id.RevId.{RevId}
use Rattle.repl_messages.specs.declared.offers.Offer.{Offer}
use Rattle.repl_messages.specs.declared.rows.Form.{Form}
use Rattle.repl_messages.specs.declared.rows.Form.TheVariants as form
use Rattle.repl_messages.specs.Fields.{IsFound}
use Rattle.repl_messages.specs.Json.{json_of}

-- an item that names a document: a text in the grammar of documents' names
abbrev pub NamesDocument : Data → List ℕ → Type 0
NamesDocument item doc = (item ≡ string doc) × IsTrue (is_doc_id doc)

-- an item that names a revision: a text in the grammar of revisions
abbrev pub NamesRevision : Data → RevId → Type 0
NamesRevision item rev = (item ≡ string (rev_text rev)) × IsTrue (is_rev rev)

-- a sequence of a device's row, which may be any number or text
abbrev pub is_sequence : Data → Bool
is_sequence d = is_some (as_number d) || is_some (as_str d)

-- an item that names a parent: the empty text names none
abbrev pub NamesParent : Data → Option RevId → Type 0
NamesParent item None = item ≡ string []
NamesParent item (Some rev) = NamesRevision item rev

-- the parent that a row names after its document and revision: none where no item is there
abbrev pub IsParent : List Data → Option RevId → Type 0
IsParent [] parent = parent ≡ None
IsParent (item ∷ others) parent = NamesParent item parent

-- the items of a change, whose sequence comes first; those after the third are passed over
abbrev pub AreOfChange : List Data → Offer → Type 0
AreOfChange (sequence ∷ doc ∷ rev ∷ others) offer =
    IsTrue (is_sequence sequence) × NamesDocument doc offer.doc × NamesRevision rev offer.rev × (offer.parent ≡ None)
AreOfChange _ offer = ⊥

-- the items of a proposal, whose parent comes last; those after the third are passed over
abbrev pub AreOfProposal : List Data → Offer → Type 0
AreOfProposal (doc ∷ rev ∷ others) offer = NamesDocument doc offer.doc × NamesRevision rev offer.rev × IsParent others offer.parent
AreOfProposal _ offer = ⊥

abbrev pub AreItems : Form → List Data → Offer → Type 0
AreItems form.Change items offer = AreOfChange items offer
AreItems form.Proposal items offer = AreOfProposal items offer

-- a row in its form, of this offer
abbrev pub IsRow : Form → Data → Offer → Type 0
IsRow form row offer = (items : List Data) × (row ≡ array (items_of items)) × AreItems form items offer

-- the rows of these offers, in order
abbrev pub AreRows : Form → List Data → List Offer → Type 0
AreRows form [] [] = Unit {0}
AreRows form (row ∷ rows) (offer ∷ offers) = IsRow form row offer × AreRows form rows offers
AreRows form _ _ = ⊥

-- a JSON array of the rows of these offers, of which there are at most 10,000
abbrev pub AreOffers : Form → Data → List Offer → Type 0
AreOffers form value offers =
    (rows : List Data) × (value ≡ array (items_of rows)) × AreRows form rows offers × (length offers ≤ 10000)

-- a body that is such an array
abbrev pub IsOffering : Form → List ℕ → List Offer → Type 0
IsOffering form body offers = (value : Data) × (json_of body ≡ Some value) × AreOffers form value offers

-- the offers of a body, or none where it is that of no offers
abbrev pub AreOffered : Form → List ℕ → Option (List Offer) → Type 0
AreOffered form body offers = IsFound (λ os. IsOffering form body os) offers
