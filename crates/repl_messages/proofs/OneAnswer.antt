-- A message has at most one answer.
use native.Mathlib.Omega.{arith}
use Rattle.std.proofs.Common.{◌≡◌, ◌≢◌, ℕ, ◌<◌, ◌^◌, IsTrue, List, [], ◌∷◌, ◌++◌, drop, decimal, Option, Some, None, Result, Ok, Err, IfOk, IfErr, option_map, refl, sym, ap, subst, ◌∙◌}
use Rattle.blip_frame.specs.Props.{Pair}
use Rattle.blip_frame.specs.declared.payload.Payload.{Payload}
use Rattle.serde_json.specs.Data.{Data, string, array}
use Rattle.serde_json.specs.View.{items_of}
use Rattle.sg_names.specs.RevId.{rev_text, is_rev}
use Rattle.sg_names.specs.Revs.{revs_text, is_revs}
use Rattle.sg_names.specs.Key.{ReadsKey, IsLowForm, IsBadKey}
use Rattle.sg_names.specs.declared.key.Key.{Key}
use Rattle.sg_names.specs.declared.key.KeyFault.{KeyFault}
use Rattle.sg_names.specs.declared.key.KeyFault.TheVariants as key_faults
use Rattle.sg_names.specs.declared.rev_id.RevId.{RevId}
use Rattle.sg_names.proofs.KeyTexts.{reads_same, reads_not_low}
use Rattle.repl_messages.specs.declared.offers.Offer.{Offer}
use Rattle.repl_messages.specs.declared.profile.Profile.{Profile}
use Rattle.repl_messages.specs.declared.profile.Profile.TheVariants as profile
use Rattle.repl_messages.specs.declared.request.Field.TheVariants as fields
use Rattle.repl_messages.specs.declared.request.Version.{Version}
use Rattle.repl_messages.specs.declared.request.Request.{Request}
use Rattle.repl_messages.specs.declared.request.RequestFault.{RequestFault}
use Rattle.repl_messages.specs.declared.request.RequestFault.TheVariants as faults
use Rattle.repl_messages.specs.declared.rows.Form.{Form}
use Rattle.repl_messages.specs.declared.rows.Form.TheVariants as form
use Rattle.repl_messages.specs.Checkpoints.{IsCheckpointNumber, IsSetCheckpoint, checkpoint_rev, fits_word, set_checkpoint}
use Rattle.repl_messages.specs.Fields.{IsFound, or_bad}
use Rattle.repl_messages.specs.Offers.{NamesDocument, NamesRevision, NamesParent, IsParent, AreOfChange, AreOfProposal, AreItems, IsRow, AreRows, AreOffers, IsOffering, AreOffered}
use Rattle.repl_messages.specs.Requests.{IsOffer, IsAnswer, IsAnswerTo, profile_of}
use Rattle.repl_messages.specs.Revisions.{IsRevision, IsHistory, IsProposal, history_text, revision}
use Rattle.repl_messages.specs.SubChanges.{IsReading, IsSince, IsSubChanges, sub_changes}

-- what names of revisions have of their own: a text is that of one revision, and of one list of them; a decimal is that of one number
pub record AreOne : Type 0 where
  pub revs : (r s : RevId) → IsTrue (is_rev r) → IsTrue (is_rev s) → rev_text r ≡ rev_text s → r ≡ s
  pub lists : (k l : List RevId) → IsTrue (is_revs k) → IsTrue (is_revs l) → revs_text k ≡ revs_text l → k ≡ l
  pub numbers : (m n : ℕ) → m < 2 ^ 64 → n < 2 ^ 64 → decimal m ≡ decimal n → m ≡ n

found-one : {A : Type 0} (P : A → Type 0) → ((x y : A) → P x → P y → x ≡ y) → (a b : Option A) → IsFound P a → IsFound P b → a ≡ b
found-one P one (Some x) (Some y) h i = ap (λ z. Some z) (one x y h i)
found-one P one (Some x) None h i = absurd (i x h)
found-one P one None (Some y) h i = absurd (h y i)
found-one P one None None h i = refl

-- ---- subChanges

reading-one : (text : List ℕ) (a b : Result Key KeyFault) → IsReading text a → IsReading text b → a ≡ b
reading-one text (Ok k) (Ok l) h i = ap (λ x. Ok x) (reads_same text k l h i)
reading-one text (Ok k) (Err key_faults.LowForm) h i = absurd (reads_not_low text k h i)
reading-one text (Ok k) (Err key_faults.BadKey) h i = absurd (i.0 k h)
reading-one text (Err key_faults.LowForm) (Ok l) h i = absurd (reads_not_low text l i h)
reading-one text (Err key_faults.LowForm) (Err key_faults.LowForm) h i = refl
reading-one text (Err key_faults.LowForm) (Err key_faults.BadKey) h i = absurd (i.1 h)
reading-one text (Err key_faults.BadKey) (Ok l) h i = absurd (h.0 l i)
reading-one text (Err key_faults.BadKey) (Err key_faults.LowForm) h i = absurd (h.1 i)
reading-one text (Err key_faults.BadKey) (Err key_faults.BadKey) h i = refl

-- what reads keys and refuses all else reads the text so
pub reading-of : (text : List ℕ) (r : Result Key KeyFault) → IfOk r (λ k. ReadsKey text k) → (r ≡ Err key_faults.LowForm → IsLowForm text)
    → (r ≡ Err key_faults.BadKey → IsBadKey text) → IsReading text r
reading-of text (Ok k) read low bad = read
reading-of text (Err key_faults.LowForm) read low bad = low refl
reading-of text (Err key_faults.BadKey) read low bad = bad refl

pub since-one : (value : Option (List ℕ)) (a b : Result Key KeyFault) → IsSince value a → IsSince value b → a ≡ b
since-one None a b h i = h ∙ sym i
since-one (Some value) a b h i = reading-one _ a b h i

sub-one : (props : List Pair) (version : Version) (a b : Result Request RequestFault) → IsSubChanges props version a → IsSubChanges props version b → a ≡ b
sub-one props version a b h i =
    h.2 ∙ ap (λ since. sub_changes since version props) (since-one _ h.0 i.0 h.1 i.1) ∙ sym i.2

-- ---- setCheckpoint

fits-below : (n : ℕ) → IsTrue (fits_word n) → n < 2 ^ 64
fits-below n h = grind (arith, h)

number-same : AreOne → (m n : ℕ) → IsTrue (fits_word m) → IsTrue (fits_word n) → checkpoint_rev m ≡ checkpoint_rev n → m ≡ n
number-same one m n h i e = one.numbers m n (fits-below m h) (fits-below n i) (ap (drop 2) e)

number-one : AreOne → (value : Option (List ℕ)) (a b : Option ℕ) → IsCheckpointNumber value a → IsCheckpointNumber value b → a ≡ b
number-one one None a b h i = h ∙ sym i
number-one one (Some text) a b h i =
    found-one (λ n. IsTrue (fits_word n) × (text ≡ checkpoint_rev n)) (λ m n p q. number-same one m n p.0 q.0 (sym p.1 ∙ q.1)) a b h i

set-one : AreOne → (payload : Payload) (a b : Result Request RequestFault) → IsSetCheckpoint payload a → IsSetCheckpoint payload b → a ≡ b
set-one one payload a b h i =
    h.2 ∙ ap (λ number. set_checkpoint number payload) (number-one one _ h.0 i.0 h.1 i.1) ∙ sym i.2

-- ---- rev

rev-one : AreOne → (value : Option (List ℕ)) (a b : Option RevId) → IsRevision value a → IsRevision value b → a ≡ b
rev-one one None a b h i = h ∙ sym i
rev-one one (Some text) a b h i =
    found-one (λ r. IsTrue (is_rev r) × (text ≡ rev_text r)) (λ r s p q. one.revs r s p.0 q.0 (sym p.1 ∙ q.1)) a b h i

rev_some : (digits digest : List ℕ) → digits ++ 45 ∷ digest ≢ []
rev_some [] digest h = cc
rev_some (d ∷ ds) digest h = cc

joined_some : (text rest : List ℕ) → text ++ 44 ∷ rest ≢ []
joined_some [] rest h = cc
joined_some (b ∷ bs) rest h = cc

pub history_some : (rev : RevId) (revs : List RevId) → history_text (rev ∷ revs) ≢ []
history_some rev [] h = rev_some (decimal rev.generation) rev.digest h
history_some rev (next ∷ others) h = joined_some (rev_text rev) (history_text (next ∷ others)) h

pub history-same : AreOne → (k l : List RevId) → IsTrue (is_revs k) → IsTrue (is_revs l) → history_text k ≡ history_text l → k ≡ l
history-same one [] [] h i e = refl
history-same one [] (r ∷ rs) h i e = absurd (history_some r rs (sym e))
history-same one (r ∷ rs) [] h i e = absurd (history_some r rs e)
history-same one (r ∷ rs) (s ∷ ss) h i e = one.lists (r ∷ rs) (s ∷ ss) h i e

history-one : AreOne → (value : Option (List ℕ)) (a b : Option (List RevId)) → IsHistory value a → IsHistory value b → a ≡ b
history-one one None a b h i = h ∙ sym i
history-one one (Some text) a b h i =
    found-one (λ revs. IsTrue (is_revs revs) × (text ≡ history_text revs)) (λ k l p q. history-same one k l p.0 q.0 (sym p.1 ∙ q.1)) a b h i

proposal-one : AreOne → (payload : Payload) (a b : Result Request RequestFault) → IsProposal payload a → IsProposal payload b → a ≡ b
proposal-one one payload a b (rev, history, is_rev, is_history, e) (other, others, is_other, are_others, f) =
    e ∙ ap (λ r. revision r history payload) (rev-one one _ rev other is_rev is_other)
    ∙ ap (λ hs. revision other hs payload) (history-one one _ history others is_history are_others) ∙ sym f

-- ---- changes and proposeChanges

string-same : (a b : List ℕ) → string a ≡ string b → a ≡ b
string-same a b h = cc

items-same : (a b : List Data) → items_of a ≡ items_of b → a ≡ b
items-same [] [] h = refl
items-same [] (d ∷ ds) h = cc
items-same (d ∷ ds) [] h = cc
items-same (d ∷ ds) (e ∷ es) h =
    let heads : d ≡ e = cc in
    let tails : items_of ds ≡ items_of es = cc in
    let same : ds ≡ es = items-same ds es tails in
    cc

pub array-same : (a b : List Data) → array (items_of a) ≡ array (items_of b) → a ≡ b
array-same a b h = let same : items_of a ≡ items_of b = cc in items-same a b same

revision-same : AreOne → (item : Data) (r s : RevId) → NamesRevision item r → NamesRevision item s → r ≡ s
revision-same one item r s h i = one.revs r s h.1 i.1 (string-same _ _ (sym h.0 ∙ i.0))

document-same : (item : Data) (a b : List ℕ) → NamesDocument item a → NamesDocument item b → a ≡ b
document-same item a b h i = string-same a b (sym h.0 ∙ i.0)

rev_not_empty : (r : RevId) → string [] ≢ string (rev_text r)
rev_not_empty r h = rev_some (decimal r.generation) r.digest (sym (string-same [] (rev_text r) h))

named-same : AreOne → (item : Data) (a b : Option RevId) → NamesParent item a → NamesParent item b → a ≡ b
named-same one item None None h i = refl
named-same one item None (Some s) h i = absurd (rev_not_empty s (sym h ∙ i.0))
named-same one item (Some r) None h i = absurd (rev_not_empty r (sym i ∙ h.0))
named-same one item (Some r) (Some s) h i = ap (λ x. Some x) (revision-same one item r s h i)

parent-same : AreOne → (items : List Data) (a b : Option RevId) → IsParent items a → IsParent items b → a ≡ b
parent-same one [] a b h i = h ∙ sym i
parent-same one (item ∷ others) a b h i = named-same one item a b h i

offer-same : (a b : Offer) → a.doc ≡ b.doc → a.rev ≡ b.rev → a.parent ≡ b.parent → a ≡ b
offer-same a b d r p =
    let record { doc = doc; rev = rev; parent = parent } = a in
    let record { doc = other; rev = its; parent = named } = b in
    rw (d, r, p) refl

change-same : AreOne → (items : List Data) (a b : Offer) → AreOfChange items a → AreOfChange items b → a ≡ b
change-same one [] a b h i = absurd h
change-same one (x ∷ []) a b h i = absurd h
change-same one (x ∷ y ∷ []) a b h i = absurd h
change-same one (sequence ∷ doc ∷ rev ∷ others) a b (s, d, r, p) (t, e, q, o) =
    offer-same a b (document-same doc _ _ d e) (revision-same one rev _ _ r q) (p ∙ sym o)

proposal-same : AreOne → (items : List Data) (a b : Offer) → AreOfProposal items a → AreOfProposal items b → a ≡ b
proposal-same one [] a b h i = absurd h
proposal-same one (x ∷ []) a b h i = absurd h
proposal-same one (doc ∷ rev ∷ others) a b (d, r, p) (e, q, o) =
    offer-same a b (document-same doc _ _ d e) (revision-same one rev _ _ r q) (parent-same one others _ _ p o)

items-offer : AreOne → (form : Form) (items : List Data) (a b : Offer) → AreItems form items a → AreItems form items b → a ≡ b
items-offer one form.Change items a b h i = change-same one items a b h i
items-offer one form.Proposal items a b h i = proposal-same one items a b h i

row-same : AreOne → (form : Form) (row : Data) (a b : Offer) → IsRow form row a → IsRow form row b → a ≡ b
row-same one form row a b (items, e, h) (others, f, i) =
    let same : items ≡ others = array-same items others (sym e ∙ f) in
    items-offer one form others a b (rw (← same) h) i

rows-same : AreOne → (form : Form) (rows : List Data) (a b : List Offer) → AreRows form rows a → AreRows form rows b → a ≡ b
rows-same one form [] [] [] h i = refl
rows-same one form [] (a ∷ more) b h i = absurd h
rows-same one form [] [] (b ∷ bs) h i = absurd i
rows-same one form (row ∷ rows) [] b h i = absurd h
rows-same one form (row ∷ rows) (a ∷ more) [] h i = absurd i
rows-same one form (row ∷ rows) (a ∷ more) (b ∷ bs) h i =
    ap (λ x. x ∷ more) (row-same one form row a b h.0 i.0) ∙ ap (λ xs. b ∷ xs) (rows-same one form rows more bs h.1 i.1)

offers-same : AreOne → (form : Form) (value : Data) (a b : List Offer) → AreOffers form value a → AreOffers form value b → a ≡ b
offers-same one form value a b (rows, e, h, few) (others, f, i, no_more) =
    let same : rows ≡ others = array-same rows others (sym e ∙ f) in
    rows-same one form others a b (rw (← same) h) i

offering-same : AreOne → (form : Form) (body : List ℕ) (a b : List Offer) → IsOffering form body a → IsOffering form body b → a ≡ b
offering-same one form body a b (value, e, h) (other, f, i) =
    let both : Some value ≡ Some other = sym e ∙ f in
    let same : value ≡ other = cc in
    offers-same one form other a b (rw (← same) h) i

offer-one : AreOne → (form : Form) (body : List ℕ) (request : List Offer → Request) (a b : Result Request RequestFault)
    → IsOffer body request (λ bs offers. AreOffered form bs offers) a → IsOffer body request (λ bs offers. AreOffered form bs offers) b → a ≡ b
offer-one one form body request a b h i =
    h.2 ∙ ap (λ offers. or_bad fields.Rows (option_map request offers))
    (found-one (λ os. IsOffering form body os) (λ os ps p q. offering-same one form body os ps p q) h.0 i.0 h.1 i.1) ∙ sym i.2

-- ---- the message

answer-to-one : AreOne → (kind : Option Profile) (payload : Payload) (version : Version) (a b : Result Request RequestFault)
    → IsAnswerTo kind payload version a → IsAnswerTo kind payload version b → a ≡ b
answer-to-one one None payload version a b h i = h ∙ sym i
answer-to-one one (Some profile.GetCheckpoint) payload version a b h i = h ∙ sym i
answer-to-one one (Some profile.SetCheckpoint) payload version a b h i = set-one one payload a b h i
answer-to-one one (Some profile.SubChanges) payload version a b h i = sub-one payload.props version a b h i
answer-to-one one (Some profile.Changes) payload version a b h i = offer-one one form.Change payload.body _ a b h i
answer-to-one one (Some profile.ProposeChanges) payload version a b h i = offer-one one form.Proposal payload.body _ a b h i
answer-to-one one (Some profile.Rev) payload version a b h i = proposal-one one payload a b h i

pub answer-one : AreOne → (payload : Payload) (version : Version) (a b : Result Request RequestFault) → IsAnswer payload version a → IsAnswer payload version b → a ≡ b
answer-one one payload version a b h i = answer-to-one one (profile_of payload.props) payload version a b h i

-- what is read is the only answer, unless memory runs out
pub only-answer : (kind : Option Profile) (payload : Payload) (version : Version) (read : Result Request RequestFault)
    → ((a b : Result Request RequestFault) → IsAnswer payload version a → IsAnswer payload version b → a ≡ b)
    → kind ≡ profile_of payload.props
    → IfOk read (λ request. IsAnswerTo kind payload version (Ok request))
    → IfErr read (λ fault. fault ≢ faults.Memory → IsAnswerTo kind payload version (Err fault))
    → (answer : Result Request RequestFault) → IsAnswer payload version answer → read ≢ Err faults.Memory → read ≡ answer
only-answer kind payload version (Ok request) one same ok refused answer h i =
    one (Ok request) answer (subst (λ k. IsAnswerTo k payload version (Ok request)) same ok) h
only-answer kind payload version (Err fault) one same ok refused answer h i =
    one (Err fault) answer (subst (λ k. IsAnswerTo k payload version (Err fault)) same (refused (λ e. i (ap (λ f. Err f) e)))) h
