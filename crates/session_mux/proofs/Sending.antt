-- Frames that go, one after another.
use Rattle.std.proofs.Common.{◌≡◌, ◌≢◌, ◌≤◌, ◌<◌, ℕ, ◌+◌, Bool, true, false, ◌&&◌, List, [], ◌∷◌, ◌++◌, length, Option, Some, None, refl, sym, ◌∙◌, ap, subst, if◌then◌else◌, arith, append-nil, zero-add, le_trans}
use Rattle.std.specs.Prelude.{option_map}
use Rattle.std.specs.Option.{option_or, option_map_or}
use Rattle.std.proofs.lemmas.Bool.{ltb-true}
use Rattle.std.proofs.lemmas.List.{length-drop}
use Rattle.std.proofs.lemmas.Option.{none-some}
use Rattle.sg_outside.specs.Sink.{Counts}
use Rattle.sg_outside.specs.Wire.{Traffic}
use Rattle.sg_outside.specs.declared.sink.Gave.{Gave}
use Rattle.sg_outside.specs.declared.sink.Gave.TheVariants as gave
use Rattle.blip_frame.specs.Checksum.{checksum}
use Rattle.blip_frame.specs.Frame as frame
use Rattle.blip_frame.specs.Frame.{FrameParts, IsWrittenAfter, WritesAfter, AreWrittenAfter, all_sent, largest_written}
use Rattle.blip_mux.specs.Acknowledgements.{Acknowledgement, ack_frame}
use Rattle.blip_mux.specs.Cutting.{ArePicked}
use Rattle.blip_mux.specs.Sending.{Waiting, Sending, first_piece, after_piece, has_more, without_piece, back, may_send, taken_out, chosen, picked, picked_of, picked_from, after_picked, SendsAfter, Sends}
use Rattle.blip_mux.specs.declared.outbox.Next.{Next}
use Rattle.blip_mux.specs.declared.outbox.Next.TheVariants as nexts
use Rattle.session_mux.specs.Sent.{AreWrittenFrom, Records}
use Rattle.session_mux.specs.Muxed.{left_of, all_left_of, IsLeft, failure_of, HaveGone}
use Rattle.session_mux.proofs.Recording.{records_none, records_on}

-- ---- what waits

-- one frame more goes
pub go_on : (s : Sending) (frames : List FrameParts) (left : Sending) (f : FrameParts) → ArePicked s frames left → picked left ≡ Some f → ArePicked s (frames ++ f ∷ []) (after_picked left)
go_on s [] left f e next = (ap picked (sym e) ∙ next, ap after_picked e)
go_on s (g ∷ frames) left f (first, rest) next = (first, go_on (after_picked s) frames left f rest next)

-- what was taken out of messages, and the others, are as much as they
abbrev OutLeft : List Waiting → Option (Waiting × List Waiting) → Type 0
OutLeft ws None = Unit {0}
OutLeft ws (Some found) = left_of (found.0 ∷ found.1) ≡ left_of ws

out_step : (w : Waiting) (ws : List Waiting) (o : Option (Waiting × List Waiting)) → OutLeft ws o → OutLeft (w ∷ ws) (option_map (λ found. (found.0, w ∷ found.1)) o)
out_step w ws None h = tt
out_step w ws (Some found) h = omega (arith, h)

out_left : (passes : Waiting → Bool) (ws : List Waiting) → OutLeft ws (taken_out passes ws)
out_left passes [] = tt
out_left passes (w ∷ ws) =
    elim (passes w) as (λ b. OutLeft (w ∷ ws) (if b then Some (w, ws) else option_map (λ found. (found.0, w ∷ found.1)) (taken_out passes ws)))
    [ true ↦ refl | false ↦ out_step w ws (taken_out passes ws) (out_left passes ws) ]

out_or : (ws : List Waiting) (a b : Option (Waiting × List Waiting)) → OutLeft ws a → OutLeft ws b → OutLeft ws (option_or a b)
out_or ws None b h k = k
out_or ws (Some found) b h k = h

left_behind : (xs ys : List Waiting) → left_of (xs ++ ys) ≡ left_of xs + left_of ys
left_behind [] ys = sym (zero-add (left_of ys))
left_behind (w ∷ xs) ys = omega (arith, left_behind xs ys)

less_back : (w : Waiting) (b : Bool) → has_more w ≡ b → left_of (if b then without_piece w ∷ [] else []) < left_of (w ∷ [])
less_back w true e = omega (arith, length-drop largest_written w.rest, ltb-true largest_written (length w.rest) e)
less_back w false e = omega arith

less_after : (ws : List Waiting) (o : Option (Waiting × List Waiting)) → OutLeft ws o → (option_map (λ found. first_piece found.0) o ≢ None) → left_of (option_map_or (λ found. found.1 ++ back found.0) o ws) < left_of ws
less_after ws None h some = absurd (some refl)
less_after ws (Some found) h some = omega (arith, h, left_behind found.1 (back found.0), less_back found.0 (has_more found.0) refl)

less_picked : (s : Sending) (acknowledgements : List Acknowledgement) → s.acknowledgements ≡ acknowledgements → picked_of acknowledgements s.waiting ≢ None → all_left_of (picked_from acknowledgements s) < all_left_of s
less_picked s [] is some =
    let less : left_of (after_piece s.waiting) < left_of s.waiting =
    less_after s.waiting (chosen s.waiting) (out_or s.waiting (taken_out (λ w. w.urgent && may_send w) s.waiting) (taken_out may_send s.waiting) (out_left (λ w. w.urgent && may_send w) s.waiting) (out_left may_send s.waiting)) some in
    omega (arith, less)
less_picked s (a ∷ acknowledgements) is some = omega (arith, ap length is)

pub goes_down : (s : Sending) → (picked s ≢ None) → all_left_of (after_picked s) < all_left_of s
goes_down s some = less_picked s s.acknowledgements refl some

-- ---- what is written

written_on : (sent : List ℕ) (texts : List (List ℕ)) (frames : List FrameParts) (bytes : List ℕ) (f : FrameParts)
    → AreWrittenAfter sent texts frames → IsWrittenAfter (all_sent sent frames) bytes f → AreWrittenAfter sent (texts ++ bytes ∷ []) (frames ++ f ∷ [])
written_on sent [] [] bytes f all one = (one, tt)
written_on sent [] (g ∷ frames) bytes f all one = absurd all
written_on sent (text ∷ texts) [] bytes f all one = absurd all
written_on sent (text ∷ texts) (g ∷ frames) bytes f (first, all) one = (first, written_on (frame.payload_sent_after sent g) texts frames bytes f all one)

sent_on : (sent : List ℕ) (frames : List FrameParts) (f : FrameParts) → all_sent sent (frames ++ f ∷ []) ≡ frame.payload_sent_after (all_sent sent frames) f
sent_on sent [] f = refl
sent_on sent (g ∷ frames) f = sent_on (frame.payload_sent_after sent g) frames f

as_written : (sent bytes : List ℕ) (f : FrameParts) → WritesAfter sent [] bytes f → IsWrittenAfter sent bytes f
as_written sent bytes f (text, one, e) = subst (λ b. IsWrittenAfter sent b f) (sym e) one

-- one frame more is written
write_one : (sent : List ℕ) (after : ℕ) (frames : List FrameParts) (texts : List (List ℕ)) (f : FrameParts) (bytes : List ℕ)
    → AreWrittenAfter sent texts frames → SendsAfter (all_sent sent frames) (Some f) nexts.Frame after [] bytes
    → AreWrittenAfter sent (texts ++ bytes ∷ []) (frames ++ f ∷ []) × (after ≡ checksum (all_sent sent (frames ++ f ∷ [])))
write_one sent after frames texts f bytes all (value, written) = (
  written_on sent texts frames bytes f all (as_written (all_sent sent frames) bytes f written),
  value ∙ ap checksum (sym (sent_on sent frames f)),
)

pub write_on : (before value after : ℕ) (frames : List FrameParts) (texts : List (List ℕ)) (f : FrameParts) (bytes : List ℕ)
    → AreWrittenFrom before frames texts value
    → ((sent : List ℕ) → value ≡ checksum sent → SendsAfter sent (Some f) nexts.Frame after [] bytes)
    → AreWrittenFrom before (frames ++ f ∷ []) (texts ++ bytes ∷ []) after
write_on before value after frames texts f bytes all one sent e =
    let old : AreWrittenAfter sent texts frames × (value ≡ checksum (all_sent sent frames)) = all sent e in
    write_one sent after frames texts f bytes old.0 (one (all_sent sent frames) old.1)

pub none_written : (value : ℕ) → AreWrittenFrom value [] [] value
none_written value sent e = (tt, e)

-- ---- so far

-- frames went, from what was to be sent to what is to be sent now
abbrev pub Going : Sending → ℕ → Option Traffic → Sending → ℕ → Option Traffic → Type 0
Going before value traffic s value_now traffic_now =
    (frames : List FrameParts) × (texts : List (List ℕ)) × ArePicked before frames s × AreWrittenFrom value frames texts value_now × Records traffic [] texts [] traffic_now

pub going_none : (s : Sending) (value : ℕ) (traffic : Option Traffic) → Going s value traffic s value traffic
going_none s value traffic = ([], [], refl, none_written value, records_none traffic)

one_goes : (before : Sending) (value : ℕ) (traffic : Option Traffic) (s : Sending) (value_now : ℕ) (traffic_now : Option Traffic) (f : FrameParts) (value_after : ℕ) (bytes : List ℕ) (traffic_after : Option Traffic)
    → picked s ≡ Some f
    → ((sent : List ℕ) → value_now ≡ checksum sent → SendsAfter sent (Some f) nexts.Frame value_after [] bytes)
    → Records traffic_now [] (bytes ∷ []) [] traffic_after
    → Going before value traffic s value_now traffic_now → Going before value traffic (after_picked s) value_after traffic_after
one_goes before value traffic s value_now traffic_now f value_after bytes traffic_after next written records (frames, texts, go, all_written, all_records) = (
  frames ++ f ∷ [],
  texts ++ bytes ∷ [],
  go_on before frames s f go next,
  write_on value value_now value_after frames texts f bytes all_written written,
  records_on traffic traffic_now traffic_after [] [] texts (bytes ∷ []) [] all_records records,
)

piece_goes : (before : Sending) (value : ℕ) (traffic : Option Traffic) (s : Sending) (value_now : ℕ) (traffic_now : Option Traffic) (p : Option FrameParts) (value_after : ℕ) (bytes : List ℕ) (traffic_after : Option Traffic)
    → picked s ≡ p
    → Sends p nexts.Frame value_now value_after [] bytes
    → ((sent : List ℕ) → value_now ≡ checksum sent → SendsAfter sent p nexts.Frame value_after [] bytes)
    → Records traffic_now [] (bytes ∷ []) [] traffic_after
    → Going before value traffic s value_now traffic_now → Going before value traffic (after_picked s) value_after traffic_after
piece_goes before value traffic s value_now traffic_now None value_after bytes traffic_after next sends written records going = absurd sends
piece_goes before value traffic s value_now traffic_now (Some f) value_after bytes traffic_after next sends written records going =
    one_goes before value traffic s value_now traffic_now f value_after bytes traffic_after next written records going

-- one frame more
pub going_on : (before : Sending) (value : ℕ) (traffic : Option Traffic) (s : Sending) (value_now : ℕ) (traffic_now : Option Traffic) (value_after : ℕ) (bytes : List ℕ) (traffic_after : Option Traffic)
    → Sends (picked s) nexts.Frame value_now value_after [] bytes
    → ((sent : List ℕ) → value_now ≡ checksum sent → SendsAfter sent (picked s) nexts.Frame value_after [] bytes)
    → Records traffic_now [] (bytes ∷ []) [] traffic_after
    → Going before value traffic s value_now traffic_now → Going before value traffic (after_picked s) value_after traffic_after
going_on before value traffic s value_now traffic_now value_after bytes traffic_after sends written records going =
    piece_goes before value traffic s value_now traffic_now (picked s) value_after bytes traffic_after refl sends written records going

-- a frame that was written, and went or did not, was picked
some_next : (p : Option FrameParts) (value value_after : ℕ) (bytes : List ℕ) → Sends p nexts.Frame value value_after [] bytes → p ≢ None
some_next None value value_after bytes sends e = absurd sends
some_next (Some f) value value_after bytes sends e = none-some f (sym e)

pub some_picked : (s : Sending) (value value_after : ℕ) (bytes : List ℕ) → Sends (picked s) nexts.Frame value value_after [] bytes → picked s ≢ None
some_picked s value value_after bytes sends e = some_next (picked s) value value_after bytes sends e

none_at : (p : Option FrameParts) (value value_after : ℕ) (old new : List ℕ) → Sends p nexts.Idle value value_after old new → (p ≡ None) × (value_after ≡ value)
none_at None value value_after old new sends = (refl, sends.0)
none_at (Some f) value value_after old new sends = absurd sends

still_waiting : (ws : List Waiting) (o : Option (Waiting × List Waiting)) → option_map (λ found. first_piece found.0) o ≡ None → option_map_or (λ found. found.1 ++ back found.0) o ws ≡ ws
still_waiting ws None none = refl
still_waiting ws (Some found) none = absurd (none-some (first_piece found.0) (sym none))

still : (s : Sending) (acknowledgements : List Acknowledgement) → picked_of acknowledgements s.waiting ≡ None → picked_from acknowledgements s ≡ s
still s (a ∷ acknowledgements) none = absurd (none-some (ack_frame a) (sym none))
still s [] none = ap (λ ws. record s { waiting = ws }) (still_waiting s.waiting (chosen s.waiting) none)

-- what went before the end
pub gone : (before : Sending) (value : ℕ) (traffic : Option Traffic) (s : Sending) (value_now : ℕ) (traffic_now traffic_after : Option Traffic) (result : Gave) (now : Sending) (now_value : ℕ)
    → Records traffic_now [] [] (failure_of result) traffic_after → IsLeft result s value_now now now_value
    → Going before value traffic s value_now traffic_now
    → HaveGone before value traffic traffic_after result now now_value
gone before value traffic s value_now traffic_now traffic_after result now now_value records is_left (frames, texts, go, written, all_records) =
    (frames, texts, s, value_now, go, written, subst (λ t. Records traffic [] t (failure_of result) traffic_after) (append-nil texts) (records_on traffic traffic_now traffic_after [] [] texts [] (failure_of result) all_records records), is_left)

pub other_left : (result : Gave) (left : Sending) (value : ℕ) (now : Sending) (value_now : ℕ) → result ≢ gave.Done → IsLeft result left value now value_now
other_left gave.Done left value now value_now other = absurd (other refl)
other_left gave.Failed left value now value_now other = tt
other_left gave.Memory left value now value_now other = tt

-- ---- what a call for the next frame did, from an empty buffer

pub frame_sends : (p : Option FrameParts) (next : Next) (value value_after : ℕ) (old new : List ℕ) → next ≡ nexts.Frame → old ≡ [] → Sends p next value value_after old new → Sends p nexts.Frame value value_after [] new
frame_sends p next value value_after old new is empty sends =
    subst (λ o. Sends p nexts.Frame value value_after o new) empty (subst (λ n. Sends p n value value_after old new) is sends)

pub frame_sends_after : (p : Option FrameParts) (next : Next) (value_after : ℕ) (old new sent : List ℕ) → next ≡ nexts.Frame → old ≡ [] → SendsAfter sent p next value_after old new → SendsAfter sent p nexts.Frame value_after [] new
frame_sends_after p next value_after old new sent is empty sends =
    subst (λ o. SendsAfter sent p nexts.Frame value_after o new) empty (subst (λ n. SendsAfter sent p n value_after old new) is sends)

-- faults are counted on
pub counts_on : (before between after : ℕ) (result : Gave) → before ≤ between → Counts between result after → Counts before result after
counts_on before between after gave.Done a b = le_trans a b
counts_on before between after gave.Failed a b = omega (arith, a, b)
counts_on before between after gave.Memory a b = le_trans a b
