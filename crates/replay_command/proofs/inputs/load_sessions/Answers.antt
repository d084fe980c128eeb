use Rattle.std.proofs.Common.{◌≡◌, ◌<◌, ◌+◌, ◌++◌, ◌∷◌, [], ℕ, List, Bor, Option, suc, length, get_or, map, take, subst, arith, rules}
use Rattle.std.proofs.lemmas.List.{length-map, take_all}
use Rattle.sg_outside.specs.Files.{Load}
use Rattle.command_line.specs.Loads.{AreAcceptedLoads, IsStopped}
use Rattle.replay_command.specs.Inputs.{IsBadFileAt, IsGoodFile}
use Rattle.replay_command.proofs.Loading.{accepted_next, out_of_memory_next, stopped_next}
use Rattle.replay_command.proofs.Reading.{as_many, file_at, one_more, session_failed}
use Rattle.replay_command.proofs.inputs.load_sessions.Goals as goal

pub returns-in-Err-clause-recorded : goal.returns-in-Err-clause-recorded
returns-in-Err-clause-recorded g c = λ contents have.
    let recorded = g.F.Files.recorded c.args.files.now in
    let names = map (λ (p : Bor (List ℕ)). p.now) c.args.paths.now in
    let low : c.loop-i.i < length names = omega (arith, length-map c.args.paths.now (λ (p : Bor (List ℕ)). p.now)) in
    let has = file_at recorded names contents c.loop-i.i c.path_at-path.result.now have low c.path_at-path.ensures in
    session_failed contents c.loop-i.i c.loop-i.sessions.items c.in-Err.status (omega (arith, low, as_many recorded names contents have)) (c.loop-i.invariant.read contents have)
    (c.in-Err.ensures.recorded (get_or contents c.loop-i.i []) (rw c.loop-i.invariant.kept has))

pub loop-i-preserved : goal.loop-i-preserved
loop-i-preserved g c =
    let recorded = g.F.Files.recorded c.args.files.now in
    let names = map (λ (p : Bor (List ℕ)). p.now) c.args.paths.now in
    let x : List ℕ = c.path_at-path.result.now in
    let low : c.loop-i.i < length names = omega (arith, length-map c.args.paths.now (λ (p : Bor (List ℕ)). p.now)) in
    let more : c.loop-i.i + 1 ≡ suc c.loop-i.i = omega arith in
    let third : c.loop-i.i + 3 ≡ 3 + c.loop-i.i = omega arith in
    record {
      kept = search rules;
      rises = search rules;
      read = λ contents have.
          let has = file_at recorded names contents c.loop-i.i x have low c.path_at-path.ensures in
          let is = c.in-Ok.ensures.recorded (get_or contents c.loop-i.i []) (rw c.loop-i.invariant.kept has) in
          let pushed : c.push.new.self.items ≡ c.loop-i.sessions.items ++ (c.in-Ok.recorded ∷ []) = c.in_default.ensures.items in
          rw (more, pushed) (one_more contents c.loop-i.i c.loop-i.sessions.items c.in-Ok.recorded (omega (arith, low, as_many recorded names contents have)) (c.loop-i.invariant.read contents have) is);
      loads = accepted_next recorded IsGoodFile IsBadFileAt 3 names c.loop-i.i x (g.F.Files.loads c.args.files.now) (g.F.Files.loads c.loop-i.files) (g.F.Files.loads c.load_session.new.files) low c.path_at-path.ensures c.loop-i.invariant.loads
          (subst (λ (r : Option (List ℕ → Option (List ℕ))). (e : List Load) × (g.F.Files.loads c.load_session.new.files ≡ g.F.Files.loads c.loop-i.files ++ e) × AreAcceptedLoads r IsGoodFile IsBadFileAt (3 + c.loop-i.i) (x ∷ []) e) c.loop-i.invariant.kept
          (subst (λ (n : ℕ). (e : List Load) × (g.F.Files.loads c.load_session.new.files ≡ g.F.Files.loads c.loop-i.files ++ e) × AreAcceptedLoads (g.F.Files.recorded c.loop-i.files) IsGoodFile IsBadFileAt n (x ∷ []) e) third c.in-Ok.ensures.loads));
    }

pub returns-clause-recorded : goal.returns-clause-recorded
returns-clause-recorded g c = λ contents have.
    let names = map (λ (p : Bor (List ℕ)). p.now) c.args.paths.now in
    let many = as_many (g.F.Files.recorded c.args.files.now) names contents have in
    let all : take c.loop-i.i contents ≡ contents = take_all c.loop-i.i contents (omega (arith, many, length-map c.args.paths.now (λ (p : Bor (List ℕ)). p.now))) in
    rw all at (c.loop-i.invariant.read contents have)

pub returns-in-Err-clause-loads : goal.returns-in-Err-clause-loads
returns-in-Err-clause-loads g c =
    let recorded = g.F.Files.recorded c.args.files.now in
    let names = map (λ (p : Bor (List ℕ)). p.now) c.args.paths.now in
    let x : List ℕ = c.path_at-path.result.now in
    let low : c.loop-i.i < length names = omega (arith, length-map c.args.paths.now (λ (p : Bor (List ℕ)). p.now)) in
    let third : c.loop-i.i + 3 ≡ 3 + c.loop-i.i = omega arith in
    stopped_next recorded IsGoodFile IsBadFileAt 3 names c.loop-i.i x c.in-Err.status (g.F.Files.loads c.args.files.now) (g.F.Files.loads c.loop-i.files) (g.F.Files.loads c.load_session.new.files) low c.path_at-path.ensures c.loop-i.invariant.loads
    (subst (λ (r : Option (List ℕ → Option (List ℕ))). (e : List Load) × (g.F.Files.loads c.load_session.new.files ≡ g.F.Files.loads c.loop-i.files ++ e) × IsStopped r IsGoodFile IsBadFileAt (3 + c.loop-i.i) (x ∷ []) e c.in-Err.status) c.loop-i.invariant.kept
    (subst (λ (n : ℕ). (e : List Load) × (g.F.Files.loads c.load_session.new.files ≡ g.F.Files.loads c.loop-i.files ++ e) × IsStopped (g.F.Files.recorded c.loop-i.files) IsGoodFile IsBadFileAt n (x ∷ []) e c.in-Err.status) third c.in-Err.ensures.loads))

pub returns-clause-loads : goal.returns-clause-loads
returns-clause-loads g c =
    let names = map (λ (p : Bor (List ℕ)). p.now) c.args.paths.now in
    let all : take c.loop-i.i names ≡ names = take_all c.loop-i.i names (omega (arith, length-map c.args.paths.now (λ (p : Bor (List ℕ)). p.now), c.loop-i-test.false)) in
    subst (λ (ns : List (List ℕ)). (d : List Load) × (g.F.Files.loads c.loop-i.files ≡ g.F.Files.loads c.args.files.now ++ d) × AreAcceptedLoads (g.F.Files.recorded c.args.files.now) IsGoodFile IsBadFileAt 3 ns d) all c.loop-i.invariant.loads

pub returns-in-Err-push-clause-loads : goal.returns-in-Err-push-clause-loads
returns-in-Err-push-clause-loads g c =
    let recorded = g.F.Files.recorded c.args.files.now in
    let names = map (λ (p : Bor (List ℕ)). p.now) c.args.paths.now in
    let x : List ℕ = c.path_at-path.result.now in
    let low : c.loop-i.i < length names = omega (arith, length-map c.args.paths.now (λ (p : Bor (List ℕ)). p.now)) in
    let third : c.loop-i.i + 3 ≡ 3 + c.loop-i.i = omega arith in
    out_of_memory_next recorded IsGoodFile IsBadFileAt 3 names c.loop-i.i (g.F.Files.loads c.args.files.now) (g.F.Files.loads c.load_session.new.files) low
    (accepted_next recorded IsGoodFile IsBadFileAt 3 names c.loop-i.i x (g.F.Files.loads c.args.files.now) (g.F.Files.loads c.loop-i.files) (g.F.Files.loads c.load_session.new.files) low c.path_at-path.ensures c.loop-i.invariant.loads
    (subst (λ (r : Option (List ℕ → Option (List ℕ))). (e : List Load) × (g.F.Files.loads c.load_session.new.files ≡ g.F.Files.loads c.loop-i.files ++ e) × AreAcceptedLoads r IsGoodFile IsBadFileAt (3 + c.loop-i.i) (x ∷ []) e) c.loop-i.invariant.kept
    (subst (λ (n : ℕ). (e : List Load) × (g.F.Files.loads c.load_session.new.files ≡ g.F.Files.loads c.loop-i.files ++ e) × AreAcceptedLoads (g.F.Files.recorded c.loop-i.files) IsGoodFile IsBadFileAt n (x ∷ []) e) third c.in-Ok.ensures.loads)))
