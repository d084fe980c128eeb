-- What a message of a device asks for: a request, or the refusal that is due. The messages of a device are distinguished by
-- their property `Profile`.
use Rattle.std.specs.Prelude.{◌≡◌, ◌≤◌, ℕ, List, length, Option, Some, None, option_and_then, option_map, Result, Err, codes, if◌then◌else◌}
use Rattle.std.specs.Str.{bytes_eq}
use Rattle.blip_frame.specs.Props.{Pair, value_at}
use Rattle.blip_frame.specs.declared.payload.Payload.{Payload}
use Rattle.repl_messages.specs.declared.offers.Offer.{Offer}
use Rattle.repl_messages.specs.declared.profile.Profile.{Profile}
use Rattle.repl_messages.specs.declared.profile.Profile.TheVariants as profile
use Rattle.repl_messages.specs.declared.request.Version.{Version}
use Rattle.repl_messages.specs.declared.request.Field.TheVariants as fields
use Rattle.repl_messages.specs.declared.request.Request.{Request}
use Rattle.repl_messages.specs.declared.request.Request.TheVariants as request
use Rattle.repl_messages.specs.declared.request.RequestFault.{RequestFault}
use Rattle.repl_messages.specs.declared.request.RequestFault.TheVariants.{Unknown404}
use Rattle.repl_messages.specs.declared.rows.Form.TheVariants as form
use Rattle.repl_messages.specs.Fields.{or_bad}
use Rattle.repl_messages.specs.Checkpoints.{get_checkpoint, IsSetCheckpoint}
use Rattle.repl_messages.specs.Offers.{AreOffered}
use Rattle.repl_messages.specs.Revisions.{IsProposal}
use Rattle.repl_messages.specs.SubChanges.{IsSubChanges}

-- the message of a device that a name is of
abbrev pub profile_named : List ℕ → Option Profile
profile_named name =
    if bytes_eq name (codes "getCheckpoint") then Some profile.GetCheckpoint
    else if bytes_eq name (codes "setCheckpoint") then Some profile.SetCheckpoint
    else if bytes_eq name (codes "subChanges") then Some profile.SubChanges
    else if bytes_eq name (codes "changes") then Some profile.Changes
    else if bytes_eq name (codes "proposeChanges") then Some profile.ProposeChanges
    else if bytes_eq name (codes "rev") then Some profile.Rev
    else None

-- the message of a device that these properties are of
abbrev pub profile_of : List Pair → Option Profile
profile_of props = option_and_then profile_named (value_at props (codes "Profile"))

-- what a message that offers revisions is read as
abbrev pub IsOffer : List ℕ → (List Offer → Request) → (List ℕ → Option (List Offer) → Type 0) → Result Request RequestFault → Type 0
IsOffer body request Are answer =
    (offers : Option (List Offer)) × Are body offers × (answer ≡ or_bad fields.Rows (option_map request offers))

-- what a changes with this body is read as, and a proposeChanges
abbrev pub IsChanges : List ℕ → Result Request RequestFault → Type 0
IsChanges body answer =
    IsOffer body (λ offers. request.Changes offers) (λ bytes offers. AreOffered form.Change bytes offers) answer

abbrev pub IsProposeChanges : List ℕ → Result Request RequestFault → Type 0
IsProposeChanges body answer =
    IsOffer body (λ offers. request.ProposeChanges offers) (λ bytes offers. AreOffered form.Proposal bytes offers) answer

-- what a message of this kind is read as: the row of the table of requests; of no kind it is unknown
abbrev pub IsAnswerTo : Option Profile → Payload → Version → Result Request RequestFault → Type 0
IsAnswerTo None payload version answer = answer ≡ Err Unknown404
IsAnswerTo (Some profile.GetCheckpoint) payload version answer = answer ≡ get_checkpoint payload.props
IsAnswerTo (Some profile.SetCheckpoint) payload version answer = IsSetCheckpoint payload answer
IsAnswerTo (Some profile.SubChanges) payload version answer = IsSubChanges payload.props version answer
IsAnswerTo (Some profile.Changes) payload version answer = IsChanges payload.body answer
IsAnswerTo (Some profile.ProposeChanges) payload version answer = IsProposeChanges payload.body answer
IsAnswerTo (Some profile.Rev) payload version answer = IsProposal payload answer

-- what a message is read as, by its properties and its body: a request, or the one refusal that is due
abbrev pub IsAnswer : Payload → Version → Result Request RequestFault → Type 0
IsAnswer payload version answer = IsAnswerTo (profile_of payload.props) payload version answer

-- the batch of a request is from 1 to 10,000, its since key has no sequence above that by which it was sent, and at most 10,000
-- revisions are offered
abbrev pub IsBounded : Request → Type 0
IsBounded (request.GetCheckpoint client) = Unit {0}
IsBounded (request.SetCheckpoint client rev body) = Unit {0}
IsBounded (request.SubChanges since continuous batch options) = (1 ≤ batch) × (batch ≤ 10000) × (since.seq ≤ since.by)
IsBounded (request.Changes offers) = length offers ≤ 10000
IsBounded (request.ProposeChanges offers) = length offers ≤ 10000
IsBounded (request.Rev revision) = Unit {0}
