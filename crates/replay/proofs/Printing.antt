-- what is printed of a script's lines and of sessions, with one more
use Rattle.std.proofs.Common.{◌≡◌, ◌∙◌, ◌<◌, ◌+◌, ℕ, suc, List, [], ◌∷◌, ◌++◌, length, map, take, get_or, refl, sym, ap, arith, Option, Some}
use Rattle.std.proofs.lemmas.List.{append_assoc, length-map, length-take-le, map-append, take_more}
use Rattle.doc_board.specs.declared.outcome.Outcome.{Outcome}
use Rattle.session_run.specs.declared.ended.Ended.{Ended}
use Rattle.session_threads.specs.declared.played.LineOutcome.{LineOutcome}
use Rattle.transcripts.specs.Transcript.{Run, outcome_line, outcome_lines, run_text, runs_text}
use Rattle.transcripts.proofs.Texts.{outcomes_text_more, runs_text_more}
use Rattle.replay.specs.Runs.{outcome_of, runs_of}
use Rattle.sg_outside.specs.Wire.{Traffic}
use Rattle.sg_outside.specs.MemWire.{all_done, got_of, traffic}
use Rattle.sg_outside.specs.declared.mem_wire.MemWire.{MemWire}
use Rattle.repl_messages.specs.declared.request.Version.{Version}
use Rattle.session_threads.specs.declared.played.PlayedSession.{PlayedSession}
use Rattle.session_threads.specs.Played.{Device}

-- a session that is given, as a device, and what it leaves
abbrev pub given_of : List ℕ × Version × MemWire → Device
given_of s = record { user = s.0; version = s.1; traffic = Some (traffic (map got_of s.2.inputs.items) s.2.calls s.2.sent.items (all_done s.2.sent.items)); faults = 0 }

abbrev pub ended_of : PlayedSession MemWire → Ended
ended_of s = s.ended

abbrev pub sent_of : PlayedSession MemWire → List (List ℕ)
sent_of s = s.wire.sent.items

abbrev pub traffic_at : PlayedSession MemWire → Option Traffic
traffic_at s = Some (traffic (map got_of s.wire.inputs.items) s.wire.calls s.wire.sent.items (all_done s.wire.sent.items))

pub traffic_is : (s : PlayedSession MemWire) → (after : Traffic) × (traffic_at s ≡ Some after) × (sent_of s ≡ after.sent)
traffic_is s = (traffic (map got_of s.wire.inputs.items) s.wire.calls s.wire.sent.items (all_done s.wire.sent.items), refl, refl)

pub one_more : {X Y Z : Type 0} (f : X → Z) (g : Y → Z) (xs : List X) (ys : List Y) (x : X) (y : Y) → map f xs ≡ map g ys → f x ≡ g y → map f (xs ++ x ∷ []) ≡ map g (ys ++ y ∷ [])
one_more {Z = Z} f g xs ys x y so_far one =
    map-append f xs (x ∷ []) ∙ ap (λ (l : List Z). l ++ f x ∷ []) so_far ∙ ap (λ (z : Z). map g ys ++ z ∷ []) one ∙ sym (map-append g ys (y ∷ []))

-- a text that was extended twice
twice : (initial first out second out' both : List ℕ) → out ≡ initial ++ first → out' ≡ out ++ second → first ++ second ≡ both → out' ≡ initial ++ both
twice initial first out second out' both a b c = b ∙ ap (λ (t : List ℕ). t ++ second) a ∙ append_assoc initial first second ∙ ap (λ (t : List ℕ). initial ++ t) c

-- a text that was extended again and again
pub all_parts : (start one two title three first second third : List ℕ) → first ≡ start ++ one → second ≡ first ++ two → third ≡ second ++ title ++ three → third ≡ start ++ one ++ two ++ title ++ three
all_parts start one two title three first second third a b c = c ∙ ap (λ (t : List ℕ). t ++ title ++ three) (b ∙ ap (λ (t : List ℕ). t ++ two) a)

taken_more : {X : Type 0} (xs : List X) (i : ℕ) (x : X) → i < length xs → x ≡ get_or xs i x → take i xs ++ x ∷ [] ≡ take (i + 1) xs
taken_more {X} xs i x low is = ap (λ (y : X). take i xs ++ y ∷ []) is ∙ sym (take_more xs i x low)

-- one line more of those of which the first is in line 2
pub line_more : (outcomes : List LineOutcome) (i : ℕ) (one : LineOutcome) (initial out out' : List ℕ) → i < length outcomes → one ≡ get_or outcomes i one
    → out ≡ initial ++ outcome_lines 2 (map outcome_of (take i outcomes)) → out' ≡ out ++ outcome_line (i + 2) (outcome_of one)
    → out' ≡ initial ++ outcome_lines 2 (map outcome_of (take (i + 1) outcomes))
line_more outcomes i one initial out out' low is so_far wrote =
    let done : List Outcome = map outcome_of (take i outcomes) in
    let long : length done ≡ i = length-map (take i outcomes) outcome_of ∙ length-take-le i outcomes (omega (arith, low)) in
    twice initial (outcome_lines 2 done) out (outcome_line (i + 2) (outcome_of one)) out' (outcome_lines 2 (map outcome_of (take (i + 1) outcomes))) so_far wrote (
    ap (λ (n : ℕ). outcome_lines 2 done ++ outcome_line n (outcome_of one)) (omega (arith, long))
    ∙ sym (outcomes_text_more 2 done (outcome_of one))
    ∙ ap (λ (l : List Outcome). outcome_lines 2 l) (sym (map-append outcome_of (take i outcomes) (one ∷ [])))
    ∙ ap (λ (l : List LineOutcome). outcome_lines 2 (map outcome_of l)) (taken_more outcomes i one low is)
    )

module _ {E : Type 0} (ended : E → Ended) (sent : E → List (List ℕ)) where
  abbrev pub run_of : List ℕ → E → Run
  run_of user e = record { user = user; ended = ended e; sent = sent e }

  runs_more : (users : List (List ℕ)) (es : List E) (user : List ℕ) (e : E) → length users ≡ length es → runs_of ended sent (users ++ user ∷ []) (es ++ e ∷ []) ≡ runs_of ended sent users es ++ run_of user e ∷ []
  runs_more [] [] user e same = refl
  runs_more (u ∷ users) (x ∷ es) user e same = ap (λ (rs : List Run). run_of u x ∷ rs) (runs_more users es user e (omega (arith, same)))
  runs_more [] (x ∷ es) user e same = absurd (omega (arith, same))
  runs_more (u ∷ users) [] user e same = absurd (omega (arith, same))

  as_many_runs : (users : List (List ℕ)) (es : List E) → length users ≡ length es → length (runs_of ended sent users es) ≡ length es
  as_many_runs [] [] same = refl
  as_many_runs (u ∷ users) (x ∷ es) same = ap (λ (n : ℕ). suc n) (as_many_runs users es (omega (arith, same)))
  as_many_runs [] (x ∷ es) same = absurd (omega (arith, same))
  as_many_runs (u ∷ users) [] same = absurd (omega (arith, same))

  -- one session more of those of which the first has number 1
  pub run_more : (users : List (List ℕ)) (es : List E) (i : ℕ) (user : List ℕ) (e : E) (initial out out' : List ℕ) → length users ≡ length es → i < length es
      → user ≡ get_or users i user → e ≡ get_or es i e
      → out ≡ initial ++ runs_text 1 (runs_of ended sent (take i users) (take i es)) → out' ≡ out ++ run_text (i + 1) (run_of user e)
      → out' ≡ initial ++ runs_text 1 (runs_of ended sent (take (i + 1) users) (take (i + 1) es))
  run_more users es i user e initial out out' same low whose is so_far wrote =
      let done : List Run = runs_of ended sent (take i users) (take i es) in
      let low_user : i < length users = omega (arith, same, low) in
      let long : length (take i es) ≡ i = length-take-le i es (omega (arith, low)) in
      let long_users : length (take i users) ≡ i = length-take-le i users (omega (arith, low_user)) in
      let even : length (take i users) ≡ length (take i es) = omega (arith, long, long_users) in
      let many : length done ≡ i = as_many_runs (take i users) (take i es) even ∙ long in
      twice initial (runs_text 1 done) out (run_text (i + 1) (run_of user e)) out' (runs_text 1 (runs_of ended sent (take (i + 1) users) (take (i + 1) es))) so_far wrote (
      ap (λ (n : ℕ). runs_text 1 done ++ run_text n (run_of user e)) (omega (arith, many))
      ∙ sym (runs_text_more 1 done (run_of user e))
      ∙ ap (λ (rs : List Run). runs_text 1 rs) (sym (runs_more (take i users) (take i es) user e even))
      ∙ ap (λ (us : List (List ℕ)). runs_text 1 (runs_of ended sent us (take i es ++ e ∷ []))) (taken_more users i user low_user whose)
      ∙ ap (λ (l : List E). runs_text 1 (runs_of ended sent (take (i + 1) users) l)) (taken_more es i e low is)
      )
