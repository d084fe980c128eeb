-- serving, step by step
use Rattle.std.proofs.Common.{◌≡◌, ◌∙◌, refl, sym, ap, subst, arith, ℕ, ◌+◌, List, [], ◌∷◌, ◌++◌, length, reverse, Bool, true, Option, Some, None, IsSome, add-zero}
use Rattle.std.proofs.Math.Nat.{add_assoc}
use Rattle.std.proofs.lemmas.Bool.{false≢true}
use Rattle.std.proofs.lemmas.List.{append_assoc, append-nil, reverse-append, length-append}
use Rattle.sg_outside.specs.Wire.{LinkRecord, no_line}
use Rattle.sg_lines.specs.declared.door.Met.TheVariants as met
use Rattle.sg_lines.specs.Door.{DoorRecord, AcceptsIfRecorded, BacksIfRecorded, IsFresh}
use Rattle.gateway_server.specs.declared.serve.NoJob.{NoJob}
use Rattle.gateway_server.specs.declared.stop.Stop.{Stop}
use Rattle.gateway_server.specs.declared.stop.Stop.TheVariants as stop
use Rattle.gateway_server.specs.Serving.{Each, refused_by, ended_after, served_after, served_if_recorded, Serves, ServedIfRecorded}

-- what holds of each goes over to what follows from it
pub each : {X : Type 0} (Is Was : X → Type 0) → ((x : X) → Was x → Is x) → (xs : List X) → Each Was xs → Each Is xs
each Is Was on [] all = tt
each Is Was on (x ∷ xs) all = (on x all.0, each Is Was on xs all.1)

pub each_more : {X : Type 0} (Is : X → Type 0) (xs : List X) (x : X) → Each Is xs → Is x → Each Is (xs ++ x ∷ [])
each_more Is [] x all one = (one, tt)
each_more Is (y ∷ xs) x all one = (all.0, each_more Is xs x all.1 one)

module _ {T : Type 0} where
  abbrev with_parts : DoorRecord T → Bool → ℕ → List T → DoorRecord T
  with_parts d e n s = record d { callers = n; ended = e; traces = s }

  parts : (d : DoorRecord T) (e : Bool) (n m : ℕ) (s t : List T) → n ≡ m → s ≡ t → with_parts d e n s ≡ with_parts d e m t
  parts d e n m s t p q = ap (λ (k : ℕ). with_parts d e k s) p ∙ ap (λ (l : List T). with_parts d e m l) q

  none_served : (d : DoorRecord T) → d ≡ served_after d 0 [] None
  none_served d = parts d d.ended _ _ _ _ (sym (add-zero d.callers)) (sym (append-nil d.traces))

  more_traces : (d : DoorRecord T) (s t : List T) → d.traces ++ reverse s ++ reverse t ≡ d.traces ++ reverse (t ++ s)
  more_traces d s t = append_assoc d.traces (reverse s) (reverse t) ∙ ap (λ (l : List T). d.traces ++ l) (sym (reverse-append t s))

  none_door : (b : Option (DoorRecord T)) → b ≡ served_if_recorded b 0 [] None
  none_door None = refl
  none_door (Some d) = ap (λ (e : DoorRecord T). Some e) (none_served d)

  ends_later : (b : Option (DoorRecord T)) (n m : ℕ) (s t : List T) (why : Option Stop) → served_if_recorded (served_if_recorded b n s None) m t why ≡ served_if_recorded b (n + m) (t ++ s) why
  ends_later None n m s t why = refl
  ends_later (Some d) n m s t why = ap (λ (e : DoorRecord T). Some e) (parts d (ended_after d.ended why) _ _ _ _ (add_assoc d.callers n m) (more_traces d s t))

  goes_on : (b : Option (DoorRecord T)) (n m : ℕ) (s t : List T) (why : Option Stop) → served_if_recorded (served_if_recorded b n s why) m t None ≡ served_if_recorded b (n + m) (t ++ s) why
  goes_on None n m s t why = refl
  goes_on (Some d) n m s t why = ap (λ (e : DoorRecord T). Some e) (parts d (ended_after d.ended why) _ _ _ _ (add_assoc d.callers n m) (more_traces d s t))

  records_on : (b : Option (DoorRecord T)) (n : ℕ) (s : List T) (why : Option Stop) → IsSome b → IsSome (served_if_recorded b n s why)
  records_on None n s why some = some
  records_on (Some d) n s why some = refl

  -- nothing happened
  pub same : (h : List T → Type 0) (o : ℕ) (b : Option (DoorRecord T)) → Serves h o b None h o b
  same h o b = record { callers = 0; came = []; door = none_door b; all = omega arith; kept = λ some traces held. held }

  -- memory ran out behind this
  pub out_of_memory : {h j : List T → Type 0} {o p : ℕ} {b d : Option (DoorRecord T)} → Serves h o b None j p d → Serves h o b (Some stop.Memory) j p d
  out_of_memory {b = None} all = record { callers = all.callers; came = all.came; door = all.door; all = all.all; kept = all.kept }
  out_of_memory {b = Some b} all = record { callers = all.callers; came = all.came; door = all.door; all = all.all; kept = all.kept }

  pub short_at_once : (h : List T → Type 0) (o : ℕ) (b : Option (DoorRecord T)) → Serves h o b (Some stop.Memory) h o b
  short_at_once h o b = out_of_memory (same h o b)

  -- serving went on before it stopped
  pub before : {h i j : List T → Type 0} {o p q : ℕ} {b c d : Option (DoorRecord T)} {why : Option Stop} → Serves h o b None i p c → Serves i p c why j q d → Serves h o b why j q d
  before {j = j} {b = b} {why = why} first then = record {
    callers = first.callers + then.callers;
    came = then.came ++ first.came;
    door = then.door ∙ ap (λ (x : Option (DoorRecord T)). served_if_recorded x then.callers then.came why) first.door ∙ ends_later b first.callers then.callers first.came then.came why;
    all = omega (arith, first.all, then.all, length-append then.came first.came);
    kept = λ some traces held. subst j (sym (append_assoc then.came first.came traces))
        (then.kept (subst (λ (x : Option (DoorRecord T)). IsSome x) (sym first.door) (records_on b first.callers first.came None some)) (first.came ++ traces) (first.kept some traces held));
  }

  -- what was out came back behind the stop
  pub behind : {h i j : List T → Type 0} {o p q : ℕ} {b c d : Option (DoorRecord T)} {why : Option Stop} → Serves h o b why i p c → Serves i p c None j q d → Serves h o b why j q d
  behind {j = j} {b = b} {why = why} first then = record {
    callers = first.callers + then.callers;
    came = then.came ++ first.came;
    door = then.door ∙ ap (λ (x : Option (DoorRecord T)). served_if_recorded x then.callers then.came None) first.door ∙ goes_on b first.callers then.callers first.came then.came why;
    all = omega (arith, first.all, then.all, length-append then.came first.came);
    kept = λ some traces held. subst j (sym (append_assoc then.came first.came traces))
        (then.kept (subst (λ (x : Option (DoorRecord T)). IsSome x) (sym first.door) (records_on b first.callers first.came why some)) (first.came ++ traces) (first.kept some traces held));
  }

  -- all came back
  pub served : {h j : List T → Type 0} {o p : ℕ} {b d : Option (DoorRecord T)} {why : Stop} → p ≡ o → Serves h o b (Some why) j p d → ServedIfRecorded h b why j d
  served {b = b} {d = d} {why = why} out all =
      let is : all.callers ≡ length all.came + refused_by (Some why) = omega (arith, all.all, out) in
      (all.came, subst (λ (n : ℕ). d ≡ served_if_recorded b n all.came (Some why)) is all.door, all.kept)

  taken_door : {L : Type 0} (b d : Option (DoorRecord T)) (line : L) (why : Option Stop) → ((e : Bool) → ended_after e why ≡ e) → AcceptsIfRecorded b (met.Caller line) d → d ≡ served_if_recorded b 1 [] why
  taken_door None d line why goes accepts = accepts
  taken_door (Some b) d line why goes accepts =
      accepts ∙ ap (λ (x : DoorRecord T). Some x) (ap (λ (e : Bool). with_parts b e (b.callers + 1) b.traces) (sym (goes b.ended)) ∙ parts b (ended_after b.ended why) _ _ _ _ refl (sym (append-nil b.traces)))

  fresh_line : {L : Type 0} (recorded : L → Option LinkRecord) (b : Option (DoorRecord T)) (line : L) → IsFresh recorded b (met.Caller line) → IsSome b → recorded line ≡ Some no_line
  fresh_line recorded None line fresh some = absurd (false≢true some)
  fresh_line recorded (Some b) line fresh some = fresh

  -- a caller came, whose job is out
  pub one_more : {L : Type 0} (recorded : L → Option LinkRecord) (h j : List T → Type 0) (o p : ℕ) (b d : Option (DoorRecord T)) (line : L)
      → AcceptsIfRecorded b (met.Caller line) d → IsFresh recorded b (met.Caller line) → p ≡ o + 1
      → (recorded line ≡ Some no_line → (traces : List T) → h traces → j traces) → Serves h o b None j p d
  one_more recorded h j o p b d line accepts fresh out kept = record {
    callers = 1;
    came = [];
    door = taken_door b d line None (λ e. refl) accepts;
    all = omega (arith, out);
    kept = λ some. kept (fresh_line recorded b line fresh some);
  }

  -- a caller came, whose job was refused
  pub one_refused : {L : Type 0} (recorded : L → Option LinkRecord) (h j : List T → Type 0) (o p : ℕ) (b d : Option (DoorRecord T)) (line : L) (why : NoJob)
      → AcceptsIfRecorded b (met.Caller line) d → IsFresh recorded b (met.Caller line) → p ≡ o
      → (recorded line ≡ Some no_line → (traces : List T) → h traces → j traces) → Serves h o b (Some (stop.Refused why)) j p d
  one_refused recorded h j o p b d line why accepts fresh out kept = record {
    callers = 1;
    came = [];
    door = taken_door b d line (Some (stop.Refused why)) (λ e. refl) accepts;
    all = omega (arith, out);
    kept = λ some. kept (fresh_line recorded b line fresh some);
  }

  ended_door : (L : Type 0) (b d : Option (DoorRecord T)) → AcceptsIfRecorded {L = L} b met.End d → d ≡ served_if_recorded b 0 [] (Some stop.End)
  ended_door L None d accepts = accepts
  ended_door L (Some b) d accepts = accepts ∙ ap (λ (x : DoorRecord T). Some x) (parts b true _ _ _ _ (sym (add-zero b.callers)) (sym (append-nil b.traces)))

  -- no more callers come
  pub at_end : (L : Type 0) (h : List T → Type 0) (o : ℕ) (b d : Option (DoorRecord T)) → AcceptsIfRecorded {L = L} b met.End d → Serves h o b (Some stop.End) h o d
  at_end L h o b d accepts = record { callers = 0; came = []; door = ended_door L b d accepts; all = omega arith; kept = λ some traces held. held }

  failed_door : (L : Type 0) (b d : Option (DoorRecord T)) → AcceptsIfRecorded {L = L} b met.Failed d → d ≡ served_if_recorded b 0 [] (Some stop.Failed)
  failed_door L None d accepts = accepts
  failed_door L (Some b) d accepts = accepts ∙ ap (λ (x : DoorRecord T). Some x) (none_served b)

  -- accepting failed
  pub at_fault : (L : Type 0) (h : List T → Type 0) (o : ℕ) (b d : Option (DoorRecord T)) → AcceptsIfRecorded {L = L} b met.Failed d → Serves h o b (Some stop.Failed) h o d
  at_fault L h o b d accepts = record { callers = 0; came = []; door = failed_door L b d accepts; all = omega arith; kept = λ some traces held. held }

  short_door : (L : Type 0) (b d : Option (DoorRecord T)) → AcceptsIfRecorded {L = L} b met.Memory d → d ≡ b
  short_door L None d accepts = accepts
  short_door L (Some b) d accepts = accepts

  -- accepting ran out of memory
  pub at_want : (L : Type 0) (h : List T → Type 0) (o : ℕ) (b d : Option (DoorRecord T)) → AcceptsIfRecorded {L = L} b met.Memory d → Serves h o b (Some stop.Memory) h o d
  at_want L h o b d accepts = subst (λ (x : Option (DoorRecord T)). Serves h o b (Some stop.Memory) h o x) (sym (short_door L b d accepts)) (out_of_memory (same h o b))

  backs_door : (b d : Option (DoorRecord T)) (trace : T) → BacksIfRecorded b trace d → d ≡ served_if_recorded b 0 (trace ∷ []) None
  backs_door None d trace back = back
  backs_door (Some b) d trace back = back ∙ ap (λ (x : DoorRecord T). Some x) (parts b b.ended _ _ _ _ (sym (add-zero b.callers)) refl)

  -- a trace came back
  pub one_back : (h j : List T → Type 0) (o p : ℕ) (b d : Option (DoorRecord T)) (trace : T) → BacksIfRecorded b trace d → p + 1 ≡ o → ((traces : List T) → h traces → j (trace ∷ traces)) → Serves h o b None j p d
  one_back h j o p b d trace back out kept = record { callers = 0; came = trace ∷ []; door = backs_door b d trace back; all = omega (arith, out); kept = λ some. kept }
