-- The ends of sessions, by what was received and sent.
use Rattle.std.proofs.Common.{◌≡◌, ◌≢◌, ◌⊎◌, inl, inr, ◌<◌, ℕ, suc, ◌+◌, Bool, true, false, ◌||◌, List, [], ◌∷◌, ◌++◌, length, Option, Some, None, Result, Ok, Err, refl, sym, ◌∙◌, ap, subst, arith, append-nil}
use Rattle.std.specs.List.{list_any}
use Rattle.std.proofs.lemmas.Bool.{false≢true}
use Rattle.std.proofs.lemmas.List.{length-append}
use Rattle.std.proofs.lemmas.List.Folds.{list_any-append}
use Rattle.sg_outside.specs.declared.sink.Gave.{Gave}
use Rattle.sg_outside.specs.declared.wire.Got.{Got}
use Rattle.sg_outside.specs.declared.wire.Got.TheVariants as got
use Rattle.blip_frame.specs.Frame.{FrameParts, ◌>>=◌, frame_at, frames_at, with_first}
use Rattle.blip_frame.specs.declared.frame.FrameFault.{FrameFault}
use Rattle.blip_mux.specs.declared.inbox.Taken.{Taken}
use Rattle.blip_mux.specs.declared.inbox.Taken.TheVariants as takens
use Rattle.blip_mux.specs.declared.inbox.TakeFault.{TakeFault}
use Rattle.blip_mux.specs.Sending.{Sending, picked}
use Rattle.repl_messages.specs.declared.request.Version.{Version}
use Rattle.session_core.specs.declared.event.Event.{Event}
use Rattle.session_core.specs.declared.machine.Pending.{Pending}
use Rattle.session_core.specs.declared.machine.Pending.TheVariants as pending
use Rattle.session_core.specs.State.{Machine, new_machine}
use Rattle.session_core.specs.Steps.{SessionStep, Leads, put_by}
use Rattle.session_mux.specs.declared.frame_why.FrameWhy.{FrameWhy}
use Rattle.session_mux.specs.declared.frame_why.FrameWhy.TheVariants as why
use Rattle.session_mux.specs.Frames.{IsBadTaken, why_of}
use Rattle.session_mux.specs.Muxed.{IsNoBadAck}
use Rattle.session_run.specs.declared.ended.End.{End}
use Rattle.session_run.specs.declared.ended.End.TheVariants as end
use Rattle.session_run.specs.declared.ended.Ended.{Ended}
use Rattle.session_run.specs.declared.serve.Setup.{Setup}
use Rattle.session_run.specs.Answered.{Moment}
use Rattle.session_run.specs.Served.{are_frames, frame_bytes, IsBadAfter, IsBad, most_results, EndsBy, IsSentAt, IsClosedAt, IsSession}
use Rattle.session_run.specs.Spent.{most_looks, spent_of}
use Rattle.session_run.specs.Turns.{SessionTurn, steps_of, turn_frames, AreLed}
use Rattle.session_laws.specs.Ends.{is_faulty, AreInOrder, AreAcksInOrder}
use Rattle.session_laws.specs.Exchanges.{asked_by, replied, owed}

-- ---- the last of what was received

abbrev last_of : List Got → Option Got
last_of [] = None
last_of (x ∷ []) = Some x
last_of (x ∷ y ∷ xs) = last_of (y ∷ xs)

last_behind : (xs : List Got) (x : Got) → last_of (xs ++ x ∷ []) ≡ Some x
last_behind [] x = refl
last_behind (y ∷ []) x = refl
last_behind (y ∷ z ∷ xs) x = last_behind (z ∷ xs) x

abbrev got_or : Got → Option Got → Got
got_or other None = other
got_or other (Some x) = x

-- what was received last is the last result
same_last : (taken earlier last : List Got) (x y : Got) → taken ++ last ≡ earlier ++ x ∷ [] → last ≡ y ∷ [] → y ≡ x
same_last taken earlier last x y results is =
    ap (got_or y) (sym (last_behind taken y) ∙ ap (λ (l : List Got). last_of (taken ++ l)) (sym is) ∙ ap last_of results ∙ last_behind earlier x)

-- a result that a turn may be for
abbrev is_turn : Got → Bool
is_turn (got.Frame bytes) = true
is_turn got.Text = false
is_turn got.Idle = true
is_turn got.End = false
is_turn got.Failed = false
is_turn got.Memory = false

last_turn : (xs : List Got) (x : Got) → are_frames (xs ++ x ∷ []) ≡ true → is_turn x ≡ true
last_turn [] (got.Frame bytes) e = refl
last_turn [] got.Text e = absurd (false≢true e)
last_turn [] got.Idle e = refl
last_turn [] got.End e = absurd (false≢true e)
last_turn [] got.Failed e = absurd (false≢true e)
last_turn [] got.Memory e = absurd (false≢true e)
last_turn (got.Frame bytes ∷ xs) x e = last_turn xs x e
last_turn (got.Text ∷ xs) x e = absurd (false≢true e)
last_turn (got.Idle ∷ xs) x e = last_turn xs x e
last_turn (got.End ∷ xs) x e = absurd (false≢true e)
last_turn (got.Failed ∷ xs) x e = absurd (false≢true e)
last_turn (got.Memory ∷ xs) x e = absurd (false≢true e)

-- where nothing stands behind those that were taken, the last result is one that a turn is for
last_taken : (taken earlier last : List Got) (x : Got) → are_frames taken ≡ true → taken ++ last ≡ earlier ++ x ∷ [] → last ≡ [] → is_turn x ≡ true
last_taken taken earlier last x are results none =
    last_turn earlier x (ap are_frames (sym results ∙ ap (λ (l : List Got). taken ++ l) none ∙ append-nil taken) ∙ are)

-- ---- the bytes of frames

bytes-append : (xs ys : List Got) → frame_bytes (xs ++ ys) ≡ frame_bytes xs ++ frame_bytes ys
bytes-append [] ys = refl
bytes-append (got.Frame bytes ∷ xs) ys = ap (λ (bs : List (List ℕ)). bytes ∷ bs) (bytes-append xs ys)
bytes-append (got.Text ∷ xs) ys = bytes-append xs ys
bytes-append (got.Idle ∷ xs) ys = bytes-append xs ys
bytes-append (got.End ∷ xs) ys = bytes-append xs ys
bytes-append (got.Failed ∷ xs) ys = bytes-append xs ys
bytes-append (got.Memory ∷ xs) ys = bytes-append xs ys

-- those of all results are those that were taken, and that of the last
bytes_behind : (taken last results : List Got) (x : Got) → results ≡ taken ++ last → last ≡ x ∷ [] → frame_bytes results ≡ frame_bytes taken ++ frame_bytes (x ∷ [])
bytes_behind taken last results x are is = ap frame_bytes (are ∙ ap (λ (l : List Got). taken ++ l) is) ∙ bytes-append taken (x ∷ [])

bytes_same : (taken last results : List Got) → results ≡ taken ++ last → last ≡ [] → frame_bytes results ≡ frame_bytes taken
bytes_same taken last results are none = ap frame_bytes (are ∙ ap (λ (l : List Got). taken ++ l) none ∙ append-nil taken)

first_many : (f : FrameParts) (read : Result (List FrameParts) FrameFault) (n : ℕ) (frames : List FrameParts) → with_first f read ≡ Ok frames
    → ((rest : List FrameParts) → read ≡ Ok rest → length rest ≡ n) → length frames ≡ suc n
first_many f (Err fault) n frames e again = absurd cc
first_many f (Ok rest) n frames e again = let same : frames ≡ f ∷ rest = cc in ap length same ∙ ap suc (again rest refl)

found_many : (found : Result (FrameParts × ℕ) FrameFault) (texts : List (List ℕ)) (frames : List FrameParts) → (found >>= λ found. with_first found.0 (frames_at found.1 texts)) ≡ Ok frames
    → ((value : ℕ) (rest : List FrameParts) → frames_at value texts ≡ Ok rest → length rest ≡ length texts) → length frames ≡ suc (length texts)
found_many (Err fault) texts frames e again = absurd cc
found_many (Ok found) texts frames e again = first_many found.0 (frames_at found.1 texts) (length texts) frames e (again found.1)

-- as many frames as byte strings
many : (value : ℕ) (texts : List (List ℕ)) (frames : List FrameParts) → frames_at value texts ≡ Ok frames → length frames ≡ length texts
many value [] frames e = let same : frames ≡ [] = cc in ap length same
many value (bytes ∷ texts) frames e = found_many (frame_at value bytes) texts frames e (λ after rest is. many after texts rest is)

ok_not_err : {read : Result (List FrameParts) FrameFault} {frames : List FrameParts} {fault : FrameFault} → read ≡ Ok frames → read ≡ Err fault → ⊥
ok_not_err ok err = absurd cc

-- ---- the end, by what was received last

module _ (turns : List SessionTurn) (left : Sending) (taken last results : List Got) (failed : List Gave) (are : results ≡ taken ++ last) (calm : are_frames taken ≡ true) where
  -- the last result is none of these, or it is no frame and no idle moment
  other_last : (earlier : List Got) (x y : Got) → results ≡ earlier ++ x ∷ [] → last ≡ y ∷ [] → y ≡ x
  other_last earlier x y so is = same_last taken earlier last x y (sym are ∙ so) is

  no_turn : (earlier : List Got) (x : Got) → results ≡ earlier ++ x ∷ [] → last ≡ [] → is_turn x ≡ true
  no_turn earlier x so none = last_taken taken earlier last x calm (sym are ∙ so) none

  pub closes : (e : End) (earlier : List Got) → EndsBy turns left e taken last failed → results ≡ earlier ++ got.End ∷ [] → e ≡ end.Closed
  closes end.Closed earlier by so = refl
  closes end.WireFault earlier (inl by) so = absurd (let e = other_last earlier got.End got.Failed so by.0 in cc)
  closes end.WireFault earlier (inr by) so = absurd (false≢true (no_turn earlier got.End so by.0))
  closes (end.BadFrame index w) earlier (at, bad, is, bad_so, none) so = absurd (subst (λ (g : Got). IsBad turns left (frame_bytes taken) g w) (other_last earlier got.End bad so is) bad_so)
  closes end.LooksFull earlier by so = absurd (false≢true (no_turn earlier got.End so by.0))
  closes end.TurnsFull earlier by so = absurd (false≢true (no_turn earlier got.End so by.0))
  closes end.Memory earlier (inl (bytes, is), none) so = absurd (let e = other_last earlier got.End (got.Frame bytes) so is in cc)
  closes end.Memory earlier (inr is, none) so = absurd (false≢true (no_turn earlier got.End so is))

  pub fails : (e : End) (earlier : List Got) → EndsBy turns left e taken last failed → results ≡ earlier ++ got.Failed ∷ [] → e ≡ end.WireFault
  fails end.Closed earlier by so = absurd (let e = other_last earlier got.Failed got.End so by.0 in cc)
  fails end.WireFault earlier by so = refl
  fails (end.BadFrame index w) earlier (at, bad, is, bad_so, none) so = absurd (subst (λ (g : Got). IsBad turns left (frame_bytes taken) g w) (other_last earlier got.Failed bad so is) bad_so)
  fails end.LooksFull earlier by so = absurd (false≢true (no_turn earlier got.Failed so by.0))
  fails end.TurnsFull earlier by so = absurd (false≢true (no_turn earlier got.Failed so by.0))
  fails end.Memory earlier (inl (bytes, is), none) so = absurd (let e = other_last earlier got.Failed (got.Frame bytes) so is in cc)
  fails end.Memory earlier (inr is, none) so = absurd (false≢true (no_turn earlier got.Failed so is))

  pub breaks : (e : End) → EndsBy turns left e taken last failed → failed ≢ [] → e ≡ end.WireFault
  breaks end.Closed by some = absurd (some by.1)
  breaks end.WireFault by some = refl
  breaks (end.BadFrame index w) (at, bad, is, bad_so, none) some = absurd (some none)
  breaks end.LooksFull by some = absurd (some by.1)
  breaks end.TurnsFull by some = absurd (some by.2)
  breaks end.Memory by some = absurd (some by.1)

  -- ---- by all frames that came

  module _ (read : frames_at 0 (frame_bytes taken) ≡ Ok (turn_frames turns)) where
    pub texts : (e : End) (earlier : List Got) → EndsBy turns left e taken last failed → results ≡ earlier ++ got.Text ∷ [] → e ≡ end.BadFrame (length (frame_bytes results) + 1) why.NotBinary
    texts end.Closed earlier by so = absurd (let e = other_last earlier got.Text got.End so by.0 in cc)
    texts end.WireFault earlier (inl by) so = absurd (let e = other_last earlier got.Text got.Failed so by.0 in cc)
    texts end.WireFault earlier (inr by) so = absurd (false≢true (no_turn earlier got.Text so by.0))
    texts (end.BadFrame index w) earlier (at, bad, is, bad_so, none) so =
        let text : bad ≡ got.Text = other_last earlier got.Text bad so is in
        let why_is : w ≡ why.NotBinary = subst (λ (g : Got). IsBad turns left (frame_bytes taken) g w) text bad_so in
        let same : frame_bytes results ≡ frame_bytes taken = bytes_behind taken last results got.Text are (is ∙ ap (λ (g : Got). g ∷ []) text) ∙ append-nil (frame_bytes taken) in
        let number : index ≡ length (frame_bytes results) + 1 = omega (arith, at, ap length same, many 0 (frame_bytes taken) (turn_frames turns) read) in
        ap (λ (n : ℕ). end.BadFrame n w) number ∙ ap (end.BadFrame (length (frame_bytes results) + 1)) why_is
    texts end.LooksFull earlier by so = absurd (false≢true (no_turn earlier got.Text so by.0))
    texts end.TurnsFull earlier by so = absurd (false≢true (no_turn earlier got.Text so by.0))
    texts end.Memory earlier (inl (bytes, is), none) so = absurd (let e = other_last earlier got.Text (got.Frame bytes) so is in cc)
    texts end.Memory earlier (inr is, none) so = absurd (false≢true (no_turn earlier got.Text so is))

    -- where no frame came behind those of the turns, all are frames
    all_read : frame_bytes results ≡ frame_bytes taken → (fault : FrameFault) → frames_at 0 (frame_bytes results) ≡ Err fault → ⊥
    all_read same fault bad = ok_not_err (ap (frames_at 0) same ∙ read) bad

    no_bytes : (x : Got) → frame_bytes (x ∷ []) ≡ [] → last ≡ x ∷ [] → frame_bytes results ≡ frame_bytes taken
    no_bytes x none is = bytes_behind taken last results x are is ∙ ap (λ (bs : List (List ℕ)). frame_bytes taken ++ bs) none ∙ append-nil (frame_bytes taken)

    pub faults : (e : End) (fault : FrameFault) → EndsBy turns left e taken last failed → frames_at 0 (frame_bytes results) ≡ Err fault → (e ≡ end.BadFrame (length (frame_bytes results)) (why_of fault)) ⊎ (e ≡ end.Memory)
    faults end.Closed fault by bad = absurd (all_read (no_bytes got.End refl by.0) fault bad)
    faults end.WireFault fault (inl by) bad = absurd (all_read (no_bytes got.Failed refl by.0) fault bad)
    faults end.WireFault fault (inr by) bad = absurd (all_read (bytes_same taken last results are by.0) fault bad)
    faults (end.BadFrame index w) fault (at, got.Frame bytes, is, bad_so, none) bad =
        let same : frame_bytes results ≡ frame_bytes taken ++ bytes ∷ [] = bytes_behind taken last results (got.Frame bytes) are is in
        let why_is : w ≡ why_of fault = subst (λ (r : Result (List FrameParts) FrameFault). IsBadAfter turns left r w) (ap (frames_at 0) (sym same) ∙ bad) bad_so in
        let number : index ≡ length (frame_bytes results) = omega (arith, at, ap length same, length-append (frame_bytes taken) (bytes ∷ []), many 0 (frame_bytes taken) (turn_frames turns) read) in
        inl (ap (λ (n : ℕ). end.BadFrame n w) number ∙ ap (end.BadFrame (length (frame_bytes results))) why_is)
    faults (end.BadFrame index w) fault (at, got.Text, is, bad_so, none) bad = absurd (all_read (no_bytes got.Text refl is) fault bad)
    faults (end.BadFrame index w) fault (at, got.Idle, is, bad_so, none) bad = absurd bad_so
    faults (end.BadFrame index w) fault (at, got.End, is, bad_so, none) bad = absurd bad_so
    faults (end.BadFrame index w) fault (at, got.Failed, is, bad_so, none) bad = absurd bad_so
    faults (end.BadFrame index w) fault (at, got.Memory, is, bad_so, none) bad = absurd bad_so
    faults end.LooksFull fault by bad = absurd (all_read (bytes_same taken last results are by.0) fault bad)
    faults end.TurnsFull fault by bad = absurd (all_read (bytes_same taken last results are by.0) fault bad)
    faults end.Memory fault by bad = inr refl

  -- ---- where all is in order

  neither : (a b : Bool) → (a || (b || false)) ≡ false → b ≡ false
  neither true b e = absurd (false≢true (sym e))
  neither false true e = absurd (false≢true (sym e))
  neither false false e = refl

  -- a last result is no fault
  no_fault : (x : Got) → list_any is_faulty results ≡ false → last ≡ x ∷ [] → is_faulty x ≡ false
  no_fault x none is =
      neither (list_any is_faulty taken) (is_faulty x) (sym (list_any-append is_faulty taken (x ∷ [])) ∙ ap (λ (l : List Got). list_any is_faulty (taken ++ l)) (sym is) ∙ ap (list_any is_faulty) (sym are) ∙ none)

  fine_given : (given : Taken) (w : FrameWhy) → IsNoBadAck given left → IsBadTaken (Ok given) left w → ⊥
  fine_given takens.Nothing w fine bad = bad
  fine_given (takens.Ack kind number bytes) w fine bad = false≢true (sym fine ∙ bad.0)
  fine_given (takens.Owed kind number bytes) w fine bad = bad
  fine_given (takens.Whole message) w fine bad = bad

  not_bad : (read : Result (List FrameParts) FrameFault) (w : FrameWhy) → AreInOrder turns left read → IsBadAfter turns left read w → ⊥
  not_bad (Err fault) w order bad = order
  not_bad (Ok frames) w order (f, is, bad) =
      let fine = order f is in
      fine_given fine.0 w fine.2 (subst (λ (r : Result Taken TakeFault). IsBadTaken r left w) fine.1 bad)

  pub completes : (e : End) (steps : List SessionStep) (m : Machine) (halted : Option Event) → EndsBy turns left e taken last failed → IsClosedAt e steps m halted
      → list_any is_faulty results ≡ false → failed ≡ [] → length results < most_results → spent_of steps < most_looks → AreAcksInOrder turns left results → (e ≡ end.Closed) ⊎ (e ≡ end.Memory)
  completes end.Closed steps m halted by closed calm_all sent few looks order = inl refl
  completes end.WireFault steps m halted (inl by) closed calm_all sent few looks order = absurd (false≢true (sym (no_fault got.Failed calm_all by.0)))
  completes end.WireFault steps m halted (inr by) closed calm_all sent few looks order = absurd (let e = sym by.1 ∙ sent in cc)
  completes (end.BadFrame index w) steps m halted (at, got.Frame bytes, is, bad_so, none) closed calm_all sent few looks order =
      absurd (not_bad (frames_at 0 (frame_bytes taken ++ bytes ∷ [])) w (subst (λ (bs : List (List ℕ)). AreInOrder turns left (frames_at 0 bs)) (bytes_behind taken last results (got.Frame bytes) are is) order) bad_so)
  completes (end.BadFrame index w) steps m halted (at, got.Text, is, bad_so, none) closed calm_all sent few looks order = absurd (false≢true (sym (no_fault got.Text calm_all is)))
  completes (end.BadFrame index w) steps m halted (at, got.Idle, is, bad_so, none) closed calm_all sent few looks order = absurd bad_so
  completes (end.BadFrame index w) steps m halted (at, got.End, is, bad_so, none) closed calm_all sent few looks order = absurd bad_so
  completes (end.BadFrame index w) steps m halted (at, got.Failed, is, bad_so, none) closed calm_all sent few looks order = absurd bad_so
  completes (end.BadFrame index w) steps m halted (at, got.Memory, is, bad_so, none) closed calm_all sent few looks order = absurd bad_so
  completes end.LooksFull steps m halted by closed calm_all sent few looks order = absurd (omega (arith, closed.0.0, looks))
  completes end.TurnsFull steps m halted by closed calm_all sent few looks order =
      absurd (let same : length results ≡ length taken = ap length (are ∙ ap (λ (l : List Got). taken ++ l) by.0 ∙ append-nil taken) in omega (arith, same, by.1, few))
  completes end.Memory steps m halted by closed calm_all sent few looks order = inr refl

-- ---- a closed session

-- what the laws of a session's steps and of replies say
abbrev pub AllLead : Type 0
AllLead = (user : List ℕ) (version : Version) (strict : Bool) (halted : Option Event) (turns : List SessionTurn) (m : Machine) → AreLed (new_machine user version strict) halted turns m → Leads (new_machine user version strict) (steps_of turns) m

abbrev pub AllReplied : Type 0
AllReplied = (user : List ℕ) (version : Version) (strict : Bool) (steps : List SessionStep) (m : Machine) → Leads (new_machine user version strict) steps m → replied (put_by steps) ++ owed m.pending ≡ asked_by steps

pub replies_at_rest : AllLead → AllReplied → (setup : Setup) (start final : Moment) (ended : Ended) (results : List Got) (sent : List (List ℕ)) (failed : List Gave) → (session : IsSession setup start final ended results sent failed)
    → ended.end ≡ end.Closed → replied (put_by (steps_of session.turns)) ≡ asked_by (steps_of session.turns)
replies_at_rest lead all setup start final ended results sent failed session is =
    let rest : (session.machine.pending ≡ pending.Nothing) × (session.halted ≡ None) = subst (λ (e : End). IsClosedAt e (steps_of session.turns) session.machine session.halted) is session.closed in
    let puts = replied (put_by (steps_of session.turns)) in
    sym (append-nil puts)
    ∙ ap (λ (p : Pending). puts ++ owed p) (sym rest.0)
    ∙ all setup.user setup.version setup.strict (steps_of session.turns) session.machine (lead setup.user setup.version setup.strict session.halted session.turns session.machine session.led)

pub sent_at_rest : (setup : Setup) (start final : Moment) (ended : Ended) (results : List Got) (sent : List (List ℕ)) (failed : List Gave) → (session : IsSession setup start final ended results sent failed)
    → ended.end ≡ end.Closed → picked session.left ≡ None
sent_at_rest setup start final ended results sent failed session is = subst (λ (e : End). IsSentAt e session.left) is session.whole
