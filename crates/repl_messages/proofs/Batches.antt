-- The batch of a request is in bounds, and so are its since key and how many revisions are offered.
use Rattle.std.specs.Prelude.{codes}
use Rattle.std.proofs.Common.{◌≡◌, ℕ, zero, suc, ◌≤◌, Bool, true, false, List, length, Option, Some, None, option_map, Result, Ok, Err, IfOk, IfSome, if◌then◌else◌, decimal, sym, subst, arith}
use Rattle.std.specs.Str.{bytes_eq}
use Rattle.std.proofs.lemmas.Result.{IfOk-at_ok}
use Rattle.blip_frame.specs.Props.{Pair, value_at}
use Rattle.sg_names.specs.declared.key.Key.{Key}
use Rattle.sg_names.specs.declared.key.KeyFault.{KeyFault}
use Rattle.sg_names.specs.declared.key.KeyFault.TheVariants as key_faults
use Rattle.sg_names.specs.Key.{is_key}
use Rattle.sg_names.proofs.KeyTexts.{key_parts}
use Rattle.sg_history.specs.declared.row.Options.{Options}
use Rattle.repl_messages.specs.declared.request.Field.TheVariants as fields
use Rattle.repl_messages.specs.declared.request.Version.{Version}
use Rattle.repl_messages.specs.declared.request.Request.{Request}
use Rattle.repl_messages.specs.declared.request.Request.TheVariants.{GetCheckpoint, SetCheckpoint, SubChanges, Rev}
use Rattle.repl_messages.specs.declared.revision.Revision.{Revision}
use Rattle.repl_messages.specs.Properties.{is_property_set}
use Rattle.repl_messages.specs.declared.request.RequestFault.{RequestFault}
use Rattle.repl_messages.specs.Numbers.{number_up_to}
use Rattle.repl_messages.specs.Fields.{◌>>=◌, or_bad}
use Rattle.repl_messages.specs.Requests.{IsBounded, IsAnswerTo}
use Rattle.repl_messages.specs.SubChanges.{IsSince, sub_changes, since_of, batch_of, filter_of, options_of}
use Rattle.repl_messages.specs.Offers.{AreOffered}
use Rattle.repl_messages.specs.declared.offers.Offer.{Offer}
use Rattle.repl_messages.specs.declared.profile.Profile.{Profile}
use Rattle.repl_messages.specs.declared.profile.Profile.TheVariants as profile
use Rattle.repl_messages.specs.declared.rows.Form.{Form}
use Rattle.repl_messages.specs.declared.rows.Form.TheVariants as form
use Rattle.blip_frame.specs.declared.payload.Payload.{Payload}
use Rattle.sg_names.specs.declared.rev_id.RevId.{RevId}

weaker : (k : ℕ) (n : Option ℕ) → IfSome n (λ n. (1 ≤ n) × (n ≤ k)) → IfSome n (λ n. (1 ≤ n) × (n ≤ suc k))
weaker k None h = tt
weaker k (Some n) h = (h.0, omega (arith, h.1))

picked : (k : ℕ) (n : Option ℕ) (b : Bool) → IfSome n (λ n. (1 ≤ n) × (n ≤ k)) → IfSome (if b then Some (suc k) else n) (λ n. (1 ≤ n) × (n ≤ suc k))
picked k n true h = (omega arith, omega arith)
picked k n false h = weaker k n h

-- a number up to a limit is from 1 to it
number_bounds : (limit : ℕ) (text : List ℕ) → IfSome (number_up_to limit text) (λ n. (1 ≤ n) × (n ≤ limit))
unfolding number_up_to
number_bounds zero text = tt
number_bounds (suc k) text = picked k (number_up_to k text) (bytes_eq text (decimal (suc k))) (number_bounds k text)

bad_else : (n : Option ℕ) → IfSome n (λ n. (1 ≤ n) × (n ≤ 10000)) → IfOk (or_bad fields.Batch n) (λ n. (1 ≤ n) × (n ≤ 10000))
bad_else None h = tt
bad_else (Some n) h = h

batch_bounds : (value : Option (List ℕ)) → IfOk (batch_of value) (λ n. (1 ≤ n) × (n ≤ 10000))
batch_bounds None = (omega arith, omega arith)
batch_bounds (Some value) = bad_else (number_up_to 10000 value) (number_bounds 10000 value)

-- a key that is read has no sequence above that by which it was sent
key_bounds : (key : Key) → is_key key ≡ true → key.seq ≤ key.by
key_bounds key is = (key_parts key is).above

since_read : (value : Option (List ℕ)) (since : Result Key KeyFault) → IsSince value since → IfOk since (λ key. key.seq ≤ key.by)
since_read None since is = subst (λ s. IfOk s (λ key. key.seq ≤ key.by)) (sym is) (omega arith)
since_read (Some value) (Ok key) is = key_bounds key is.0
since_read (Some value) (Err fault) is = tt

since_bounds : (since : Result Key KeyFault) → IfOk since (λ key. key.seq ≤ key.by) → IfOk (since_of since) (λ key. key.seq ≤ key.by)
since_bounds (Ok key) h = h
since_bounds (Err key_faults.LowForm) h = tt
since_bounds (Err key_faults.BadKey) h = tt

chained : (continuous : Bool) (k : Result Key RequestFault) (b : Result ℕ RequestFault) (f : Result (Option (List (List ℕ))) RequestFault) (o : Option (List (List ℕ)) → Options)
    → IfOk k (λ key. key.seq ≤ key.by) → IfOk b (λ n. (1 ≤ n) × (n ≤ 10000))
    → IfOk (k >>= λ key. b >>= λ batch. f >>= λ filter. Ok (SubChanges key continuous batch (o filter))) IsBounded
chained continuous (Err e) b f o key h = tt
chained continuous (Ok key) (Err e) f o low h = tt
chained continuous (Ok key) (Ok n) (Err e) o low h = tt
chained continuous (Ok key) (Ok n) (Ok filter) o low h = (h.0, h.1, low)

-- what a subChanges is read as has a batch from 1 to 10,000, and such a key
sub_bounded : (since : Result Key KeyFault) (version : Version) (props : List Pair) → IsSince (value_at props (codes "since")) since → IfOk (sub_changes since version props) IsBounded
sub_bounded since version props is =
    chained (is_property_set (codes "continuous") props) (since_of since) (batch_of (value_at props (codes "batch"))) (filter_of (value_at props (codes "filter")) (value_at props (codes "channels"))) (λ filter. options_of filter version props)
    (since_bounds since (since_read (value_at props (codes "since")) since is)) (batch_bounds (value_at props (codes "batch")))

get_bounded : (client : Option (List ℕ)) → IfOk (or_bad fields.Client client >>= λ c. Ok (GetCheckpoint c)) IsBounded
get_bounded None = tt
get_bounded (Some c) = tt

set_bounded : (client : Option (List ℕ)) (number : Option ℕ) (body : Option (List ℕ))
    → IfOk (or_bad fields.Client client >>= λ c. or_bad fields.Rev number >>= λ n. or_bad fields.Body body >>= λ b. Ok (SetCheckpoint c n b)) IsBounded
set_bounded None number body = tt
set_bounded (Some c) None body = tt
set_bounded (Some c) (Some n) None = tt
set_bounded (Some c) (Some n) (Some b) = tt

rev_bounded : (doc : Option (List ℕ)) (rev : Option RevId) (history : Option (List RevId)) (made : List ℕ → RevId → List RevId → Revision)
    → IfOk (or_bad fields.Id doc >>= λ d. or_bad fields.Rev rev >>= λ r. or_bad fields.History history >>= λ hs. Ok (Rev (made d r hs))) IsBounded
rev_bounded None rev history made = tt
rev_bounded (Some d) None history made = tt
rev_bounded (Some d) (Some r) None made = tt
rev_bounded (Some d) (Some r) (Some hs) made = tt

offers_bounded : (its_form : Form) (body : List ℕ) (request : List Offer → Request) (offers : Option (List Offer)) → ((os : List Offer) → length os ≤ 10000 → IsBounded (request os))
    → AreOffered its_form body offers → IfOk (or_bad fields.Rows (option_map request offers)) IsBounded
offers_bounded its_form body request None bounds h = tt
offers_bounded its_form body request (Some os) bounds (value, json, (rows, e, are, few)) = bounds os few

at_ok : (request : Request) (due : Result Request RequestFault) → Ok request ≡ due → IfOk due IsBounded → IsBounded request
at_ok request due e h = IfOk-at_ok IsBounded (sym e) h

bounded_to : (kind : Option Profile) (payload : Payload) (version : Version) (request : Request) → IsAnswerTo kind payload version (Ok request) → IsBounded request
bounded_to None payload version request h = at_ok request _ h tt
bounded_to (Some profile.GetCheckpoint) payload version request h = at_ok request _ h (get_bounded _)
bounded_to (Some profile.SetCheckpoint) payload version request h = at_ok request _ h.2 (set_bounded _ h.0 _)
bounded_to (Some profile.SubChanges) payload version request h = at_ok request _ h.2 (sub_bounded h.0 version payload.props h.1)
bounded_to (Some profile.Changes) payload version request h = at_ok request _ h.2 (offers_bounded form.Change payload.body _ h.0 (λ os few. few) h.1)
bounded_to (Some profile.ProposeChanges) payload version request h = at_ok request _ h.2 (offers_bounded form.Proposal payload.body _ h.0 (λ os few. few) h.1)
bounded_to (Some profile.Rev) payload version request (rev, history, is_rev, is_history, e) = at_ok request _ e (rev_bounded _ rev history _)

-- what is read is in bounds
pub bounded_read : (kind : Option Profile) (payload : Payload) (version : Version) (read : Result Request RequestFault)
    → IfOk read (λ request. IsAnswerTo kind payload version (Ok request)) → IfOk read IsBounded
bounded_read kind payload version (Ok request) h = bounded_to kind payload version request h
bounded_read kind payload version (Err fault) h = tt
