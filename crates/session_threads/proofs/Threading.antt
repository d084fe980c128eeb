-- passes that are split and taken in, one more; and what jobs gave, as what sessions left
use Rattle.std.proofs.Common.{◌≡◌, Bool, ◌≤◌, ◌+◌, ◌*◌, ◌^◌, ◌∙◌, ℕ, List, [], ◌∷◌, ◌++◌, length, map, Option, None, Some, refl, sym, ap, subst, arith}
use Rattle.std.proofs.lemmas.List.{length-map}
use Rattle.atomic_table.specs.Seated.{TableId}
use Rattle.sg_outside.specs.Wire.{Traffic}
use Rattle.seq_gate.specs.Passes.{joined_passes, share, split_from, split_off}
use Rattle.seq_gate.specs.Views.{PassView}
use Rattle.seq_gate.specs.declared.known.Known.{Known}
use Rattle.principals.specs.declared.admin_line.AdminLine.{AdminLine}
use Rattle.sync_syntax.specs.declared.tree.Program.{Program}
use Rattle.write_path.specs.Origins.{Origin}
use Rattle.write_path.specs.Shared.{Rests, Shared, shared_origin}
use Rattle.session_run.specs.declared.ended.Ended.{Ended}
use Rattle.session_run.specs.declared.serve.Setup.{Setup}
use Rattle.session_threads.specs.Pairs.{AllOf, AllPairs}
use Rattle.session_threads.specs.Played.{Leaves}
use Rattle.session_threads.specs.declared.played.LineOutcome.{LineOutcome}
use Rattle.session_threads.specs.inner.Runs.{AreThreaded, Begun, Gone, IsGone, IsLessBy, IsScriptDone, IsSessionDone, joined_all}

pub less_none : (p : Known) → IsLessBy p 0 p
less_none p = record { left = omega arith; made = refl; others = refl; rests = λ r. r; own = refl; opening = refl; read = refl }

pub less_more : (p q r : Known) (n m : ℕ) → IsLessBy p n q → r ≡ split_from q → 2 ^ 32 ≤ q.left → m ≡ n + 1 → IsLessBy p m r
less_more p q r n m less is left one = record {
  left = rw (is, one) (let l = less.left in omega (arith, l, left));
  made = ap (λ (x : Known). x.made) is ∙ less.made;
  others = ap split_off is ∙ less.others;
  rests = λ rests. subst Rests (sym is) (record { held = (less.rests rests).held; rooms = (less.rests rests).rooms });
  own = ap (λ (x : Known). x.own) is ∙ less.own;
  opening = ap (λ (x : Known). x.opening) is ∙ less.opening;
  read = ap (λ (x : Known). x.read) is ∙ less.read;
}

pub joined_more : (p : Known) (qs : List Known) (q : Known) → joined_all p (qs ++ q ∷ []) ≡ joined_passes (joined_all p qs) q
joined_more p [] q = refl
joined_more p (x ∷ qs) q = joined_more (joined_passes p x) qs q

-- setups and wires, the jobs of these, what the jobs gave, and what is left of it
module _ {R J D E W : Type 0} (recorded : W → Option Traffic) (faults : W → ℕ)
    (setup_ready : R → Setup) (wire_ready : R → W) (ground_job : J → Shared) (setup_job : J → Setup) (wire_job : J → W)
    (ground_done : D → Shared) (ended_done : D → Ended) (wire_done : D → W) (ended_left : E → Ended) (wire_left : E → W) (gate : TableId) (split : Known) where
  abbrev pub begun_of : R → Begun
  begun_of r = record { setup = setup_ready r; traffic = recorded (wire_ready r); faults = faults (wire_ready r) }

  abbrev pub gone_of : D → Gone
  gone_of d = record { knows = (ground_done d).knows; leaves = record { ended = ended_done d; traffic = recorded (wire_done d); faults = faults (wire_done d) } }

  abbrev pub leaves_of : E → Leaves
  leaves_of e = record { ended = ended_left e; traffic = recorded (wire_left e); faults = faults (wire_left e) }

  -- a job of these
  abbrev pub IsJobOf : R → J → Type 0
  IsJobOf r j = ((ground_job j).gate ≡ gate) × ((ground_job j).knows ≡ split) × (setup_job j ≡ setup_ready r) × (wire_job j ≡ wire_ready r)

  -- what a job gave
  abbrev pub IsDoneBy : J → D → Type 0
  IsDoneBy j d = IsSessionDone (ground_job j) (setup_job j) (recorded (wire_job j)) (faults (wire_job j)) (ground_done d) (ended_done d) (recorded (wire_done d)) (faults (wire_done d))

  -- what is left of it
  abbrev pub IsLeftOf : D → E → Type 0
  IsLeftOf d e = (wire_left e ≡ wire_done d) × (ended_left e ≡ ended_done d) × Rests (ground_done d).knows

  gone_one : (r : R) (j : J) (d : D) (e : E) → IsJobOf r j → IsDoneBy j d → IsLeftOf d e → IsGone split (begun_of r) (gone_of d)
  gone_one r j d e job done left = record {
    rests = left.2;
    share_is = ap (λ (o : Origin). o.draws) done.origin ∙ ap share job.1;
    served = rw (← job.1, ← job.2, ← job.3) done.served;
    fault = rw (← job.3) done.fault;
  }

  pub all_gone : (rs : List R) (js : List J) (ds : List D) (es : List E) → AllPairs IsJobOf rs js → AllPairs IsDoneBy js ds → AllPairs IsLeftOf ds es → AllPairs (IsGone split) (map begun_of rs) (map gone_of ds)
  all_gone [] [] [] [] jobs done left = tt
  all_gone (r ∷ rs) (j ∷ js) (d ∷ ds) (e ∷ es) jobs done left = (gone_one r j d e jobs.0 done.0 left.0, all_gone rs js ds es jobs.1 done.1 left.1)
  all_gone [] (j ∷ js) ds es jobs done left = absurd jobs
  all_gone (r ∷ rs) [] ds es jobs done left = absurd jobs
  all_gone [] [] (d ∷ ds) es jobs done left = absurd done
  all_gone (r ∷ rs) (j ∷ js) [] es jobs done left = absurd done
  all_gone [] [] [] (e ∷ es) jobs done left = absurd left
  all_gone (r ∷ rs) (j ∷ js) (d ∷ ds) [] jobs done left = absurd left

  -- their grounds are of the gate
  pub of_gate : (rs : List R) (js : List J) (ds : List D) → AllPairs IsJobOf rs js → AllPairs IsDoneBy js ds → AllOf (λ (d : D). (ground_done d).gate ≡ gate) ds
  of_gate [] [] [] jobs done = tt
  of_gate (r ∷ rs) (j ∷ js) (d ∷ ds) jobs done = (same_gate (ground_done d) (ground_job j) done.0.origin ∙ jobs.0.0, of_gate rs js ds jobs.1 done.1)
    where
      same_gate : (one other : Shared) → shared_origin one ≡ shared_origin other → one.gate ≡ other.gate
      same_gate one other same = ap (λ (o : Origin). gate_or other.gate o.gate) same
        where
          gate_or : TableId → Option TableId → TableId
          gate_or other None = other
          gate_or other (Some its) = its
  of_gate [] (j ∷ js) ds jobs done = absurd jobs
  of_gate (r ∷ rs) [] ds jobs done = absurd jobs
  of_gate [] [] (d ∷ ds) jobs done = absurd done
  of_gate (r ∷ rs) (j ∷ js) [] jobs done = absurd done

  left_one : (d : D) (e : E) → IsLeftOf d e → leaves_of e ≡ (gone_of d).leaves
  left_one d e is = rw (is.0, is.1) refl

  pub all_left : (ds : List D) (es : List E) → AllPairs IsLeftOf ds es → map leaves_of es ≡ map (λ (g : Gone). g.leaves) (map gone_of ds)
  all_left [] [] all = refl
  all_left (d ∷ ds) (e ∷ es) all = rw (left_one d e all.0, all_left ds es all.1) refl
  all_left [] (e ∷ es) all = absurd all
  all_left (d ∷ ds) [] all = absurd all

  pub all_knows : (ds : List D) → map (λ (d : D). (ground_done d).knows) ds ≡ map (λ (g : Gone). g.knows) (map gone_of ds)
  all_knows [] = refl
  all_knows (d ∷ ds) = ap (λ (ks : List Known). (ground_done d).knows ∷ ks) (all_knows ds)

  -- all of it
  pub threaded_is : (first : Known) → split ≡ split_off first → (program : Program) (strict : Bool) (lines : List AdminLine) (rs : List R) (js : List J) (ds : List D) (es : List E) (outcomes : List LineOutcome) (script pass : PassView) (after_jobs rest other with_script : Known)
      → IsLessBy first (length rs) after_jobs → 2 ^ 34 + 2 ^ 32 * length rs ≤ first.left → rest ≡ split_from after_jobs → other ≡ split_off after_jobs
      → IsScriptDone gate other program strict lines script outcomes → with_script ≡ joined_passes rest script.knows → pass.knows ≡ joined_all with_script (map (λ (d : D). (ground_done d).knows) ds) → pass.gate ≡ gate
      → AllPairs IsJobOf rs js → AllPairs IsDoneBy js ds → AllPairs IsLeftOf ds es
      → AreThreaded gate first program strict lines (map begun_of rs) pass outcomes (map leaves_of es)
  threaded_is first split_is program strict lines rs js ds es outcomes script pass after_jobs rest other with_script less room rest_is other_is script_done with_is taken here jobs done left = record {
    here = here;
    script = script;
    script_done = subst (λ (k : Known). IsScriptDone gate k program strict lines script outcomes) (other_is ∙ less.others) script_done;
    gone = map gone_of ds;
    sessions = subst (λ (k : Known). AllPairs (IsGone k) (map begun_of rs) (map gone_of ds)) split_is (all_gone rs js ds es jobs done left);
    leaves_are = all_left ds es left;
    rest = rest;
    less = less_more first after_jobs rest (length rs) _ less rest_is (let l = less.left in omega (arith, l, room)) (ap (λ (n : ℕ). n + 1) (length-map rs begun_of));
    joined_are = taken ∙ ap (λ (k : Known). joined_all k (map (λ (d : D). (ground_done d).knows) ds)) with_is ∙ ap (λ (ks : List Known). joined_all (joined_passes rest script.knows) ks) (all_knows ds);
  }
