use Rattle.std.proofs.Common.{◌≡◌, ◌∙◌, ◌++◌, ◌∷◌, [], ℕ, List, Bor, Option, map, subst, sym}
use Rattle.std.proofs.lemmas.Result.{err_from_is_err_and}
use Rattle.sg_outside.specs.Files.{Load}
use Rattle.command_line.specs.Loads.{AreAcceptedLoads, IsStopped}
use Rattle.replay_command.specs.Inputs.{HaveFiles, IsBadFileAt, IsGoodFile}
use Rattle.replay_command.proofs.Loading.{accepted_all, both, only, stopped_before, stopped_behind}
use Rattle.replay_command.proofs.Reading.{config_failed, script_failed, sessions_failed}
use Rattle.replay_command.proofs.inputs.load_inputs.Goals as goal

pub returns-in_err-config-clause-recorded : goal.returns-in_err-config-clause-recorded
returns-in_err-config-clause-recorded g c = λ contents have.
    let exit = err_from_is_err_and c.from_residual.result c.from_residual.ensures.1 in
    rw (exit.1, exit.2) (config_failed contents c.in_err-config.field-0.0 (c.in_err-config.ensures.recorded contents.config have.0))

pub returns-in-Err-clause-recorded : goal.returns-in-Err-clause-recorded
returns-in-Err-clause-recorded g c = λ contents have.
    script_failed contents c.in_ok-config.config c.in-Err.status (c.in_ok-config.ensures.recorded contents.config have.0)
    (c.in-Err.ensures.recorded contents.admin (rw c.in_ok-config.ensures.kept have.1))

pub returns-in-Err-load_sessions-clause-recorded : goal.returns-in-Err-load_sessions-clause-recorded
returns-in-Err-load_sessions-clause-recorded g c = λ contents have.
    sessions_failed contents c.in_ok-config.config c.in-Ok.lines c.in-Err-load_sessions.status (c.in_ok-config.ensures.recorded contents.config have.0)
    (c.in-Ok.ensures.recorded contents.admin (rw c.in_ok-config.ensures.kept have.1))
    (c.in-Err-load_sessions.ensures.recorded contents.sessions (rw (c.in-Ok.ensures.kept, c.in_ok-config.ensures.kept) (subst (λ (ps : List (Bor (List ℕ))). HaveFiles (g.F.Files.recorded c.args.files.now) (map (λ p. p.now) ps) contents.sessions) (sym c.as_slice.ensures.value) have.2)))

pub returns-in-Ok-load_sessions-clause-recorded : goal.returns-in-Ok-load_sessions-clause-recorded
returns-in-Ok-load_sessions-clause-recorded g c = λ contents have. record {
  config = c.in_ok-config.ensures.recorded contents.config have.0;
  script = c.in-Ok.ensures.recorded contents.admin (rw c.in_ok-config.ensures.kept have.1);
  sessions = c.in-Ok-load_sessions.ensures.recorded contents.sessions (rw (c.in-Ok.ensures.kept, c.in_ok-config.ensures.kept) (subst (λ (ps : List (Bor (List ℕ))). HaveFiles (g.F.Files.recorded c.args.files.now) (map (λ p. p.now) ps) contents.sessions) (sym c.as_slice.ensures.value) have.2));
}

pub returns-in_err-config-clause-loads : goal.returns-in_err-config-clause-loads
returns-in_err-config-clause-loads g c =
    let exit = err_from_is_err_and c.from_residual.result c.from_residual.ensures.1 in
    let recorded = g.F.Files.recorded c.args.files.now in
    let config = c.args.request.now.config.now in
    let rest = c.args.request.now.admin.now ∷ map (λ (s : Bor (List ℕ)). s.now) c.args.request.now.sessions.items in
    rw (exit.1, exit.2)
    (only (λ d. IsStopped recorded IsGoodFile IsBadFileAt 1 (config ∷ []) d c.in_err-config.field-0.0) (λ f. IsStopped recorded IsGoodFile IsBadFileAt 1 (config ∷ rest) f c.in_err-config.field-0.0) _ _
    (λ d stopped. stopped_before recorded IsGoodFile IsBadFileAt 1 (config ∷ []) rest d c.in_err-config.field-0.0 stopped) c.in_err-config.ensures.loads)

pub returns-in-Err-clause-loads : goal.returns-in-Err-clause-loads
returns-in-Err-clause-loads g c =
    let recorded = g.F.Files.recorded c.args.files.now in
    let config = c.args.request.now.config.now in
    let admin = c.args.request.now.admin.now in
    let rest = map (λ (s : Bor (List ℕ)). s.now) c.args.request.now.sessions.items in
    let second : (e : List Load) × (g.F.Files.loads c.load_script.new.files ≡ g.F.Files.loads c.load_config.new.files ++ e) × IsStopped recorded IsGoodFile IsBadFileAt 2 (admin ∷ []) e c.in-Err.status =
    subst (λ (r : Option (List ℕ → Option (List ℕ))). (e : List Load) × (g.F.Files.loads c.load_script.new.files ≡ g.F.Files.loads c.load_config.new.files ++ e) × IsStopped r IsGoodFile IsBadFileAt 2 (admin ∷ []) e c.in-Err.status) c.in_ok-config.ensures.kept c.in-Err.ensures.loads in
    both (λ d. AreAcceptedLoads recorded IsGoodFile IsBadFileAt 1 (config ∷ []) d) (λ e. IsStopped recorded IsGoodFile IsBadFileAt 2 (admin ∷ []) e c.in-Err.status) (λ f. IsStopped recorded IsGoodFile IsBadFileAt 1 (config ∷ admin ∷ rest) f c.in-Err.status) _ _ _
    (λ d e are stopped. stopped_before recorded IsGoodFile IsBadFileAt 1 (config ∷ admin ∷ []) rest (d ++ e) c.in-Err.status (stopped_behind recorded IsGoodFile IsBadFileAt 1 (config ∷ []) (admin ∷ []) d e c.in-Err.status are stopped))
    c.in_ok-config.ensures.loads second

pub returns-in-Err-load_sessions-clause-loads : goal.returns-in-Err-load_sessions-clause-loads
returns-in-Err-load_sessions-clause-loads g c =
    let recorded = g.F.Files.recorded c.args.files.now in
    let config = c.args.request.now.config.now in
    let admin = c.args.request.now.admin.now in
    let rest = map (λ (s : Bor (List ℕ)). s.now) c.args.request.now.sessions.items in
    let second : (e : List Load) × (g.F.Files.loads c.load_script.new.files ≡ g.F.Files.loads c.load_config.new.files ++ e) × AreAcceptedLoads recorded IsGoodFile IsBadFileAt 2 (admin ∷ []) e =
    subst (λ (r : Option (List ℕ → Option (List ℕ))). (e : List Load) × (g.F.Files.loads c.load_script.new.files ≡ g.F.Files.loads c.load_config.new.files ++ e) × AreAcceptedLoads r IsGoodFile IsBadFileAt 2 (admin ∷ []) e) c.in_ok-config.ensures.kept c.in-Ok.ensures.loads in
    let two : (e : List Load) × (g.F.Files.loads c.load_script.new.files ≡ g.F.Files.loads c.args.files.now ++ e) × AreAcceptedLoads recorded IsGoodFile IsBadFileAt 1 (config ∷ admin ∷ []) e =
    both (λ d. AreAcceptedLoads recorded IsGoodFile IsBadFileAt 1 (config ∷ []) d) (λ e. AreAcceptedLoads recorded IsGoodFile IsBadFileAt 2 (admin ∷ []) e) (λ f. AreAcceptedLoads recorded IsGoodFile IsBadFileAt 1 (config ∷ admin ∷ []) f) _ _ _
    (λ d e are next. accepted_all recorded IsGoodFile IsBadFileAt 1 (config ∷ []) (admin ∷ []) d e are next) c.in_ok-config.ensures.loads second in
    let kept : g.F.Files.recorded c.load_script.new.files ≡ recorded = c.in-Ok.ensures.kept ∙ c.in_ok-config.ensures.kept in
    let s = c.in-Err-load_sessions.status in
    let third : (e : List Load) × (g.F.Files.loads c.load_sessions.new.files ≡ g.F.Files.loads c.load_script.new.files ++ e) × IsStopped recorded IsGoodFile IsBadFileAt 3 rest e s =
    subst (λ (r : Option (List ℕ → Option (List ℕ))). (e : List Load) × (g.F.Files.loads c.load_sessions.new.files ≡ g.F.Files.loads c.load_script.new.files ++ e) × IsStopped r IsGoodFile IsBadFileAt 3 rest e s) kept
    (subst (λ (ps : List (Bor (List ℕ))). (e : List Load) × (g.F.Files.loads c.load_sessions.new.files ≡ g.F.Files.loads c.load_script.new.files ++ e) × IsStopped (g.F.Files.recorded c.load_script.new.files) IsGoodFile IsBadFileAt 3 (map (λ p. p.now) ps) e s) c.as_slice.ensures.value c.in-Err-load_sessions.ensures.loads) in
    both (λ d. AreAcceptedLoads recorded IsGoodFile IsBadFileAt 1 (config ∷ admin ∷ []) d) (λ e. IsStopped recorded IsGoodFile IsBadFileAt 3 rest e s) (λ f. IsStopped recorded IsGoodFile IsBadFileAt 1 (config ∷ admin ∷ rest) f s) _ _ _
    (λ d e are stopped. stopped_behind recorded IsGoodFile IsBadFileAt 1 (config ∷ admin ∷ []) rest d e s are stopped) two third

pub returns-in-Ok-load_sessions-clause-loads : goal.returns-in-Ok-load_sessions-clause-loads
returns-in-Ok-load_sessions-clause-loads g c =
    let recorded = g.F.Files.recorded c.args.files.now in
    let config = c.args.request.now.config.now in
    let admin = c.args.request.now.admin.now in
    let rest = map (λ (s : Bor (List ℕ)). s.now) c.args.request.now.sessions.items in
    let second : (e : List Load) × (g.F.Files.loads c.load_script.new.files ≡ g.F.Files.loads c.load_config.new.files ++ e) × AreAcceptedLoads recorded IsGoodFile IsBadFileAt 2 (admin ∷ []) e =
    subst (λ (r : Option (List ℕ → Option (List ℕ))). (e : List Load) × (g.F.Files.loads c.load_script.new.files ≡ g.F.Files.loads c.load_config.new.files ++ e) × AreAcceptedLoads r IsGoodFile IsBadFileAt 2 (admin ∷ []) e) c.in_ok-config.ensures.kept c.in-Ok.ensures.loads in
    let two : (e : List Load) × (g.F.Files.loads c.load_script.new.files ≡ g.F.Files.loads c.args.files.now ++ e) × AreAcceptedLoads recorded IsGoodFile IsBadFileAt 1 (config ∷ admin ∷ []) e =
    both (λ d. AreAcceptedLoads recorded IsGoodFile IsBadFileAt 1 (config ∷ []) d) (λ e. AreAcceptedLoads recorded IsGoodFile IsBadFileAt 2 (admin ∷ []) e) (λ f. AreAcceptedLoads recorded IsGoodFile IsBadFileAt 1 (config ∷ admin ∷ []) f) _ _ _
    (λ d e are next. accepted_all recorded IsGoodFile IsBadFileAt 1 (config ∷ []) (admin ∷ []) d e are next) c.in_ok-config.ensures.loads second in
    let kept : g.F.Files.recorded c.load_script.new.files ≡ recorded = c.in-Ok.ensures.kept ∙ c.in_ok-config.ensures.kept in
    let third : (e : List Load) × (g.F.Files.loads c.load_sessions.new.files ≡ g.F.Files.loads c.load_script.new.files ++ e) × AreAcceptedLoads recorded IsGoodFile IsBadFileAt 3 rest e =
    subst (λ (r : Option (List ℕ → Option (List ℕ))). (e : List Load) × (g.F.Files.loads c.load_sessions.new.files ≡ g.F.Files.loads c.load_script.new.files ++ e) × AreAcceptedLoads r IsGoodFile IsBadFileAt 3 rest e) kept
    (subst (λ (ps : List (Bor (List ℕ))). (e : List Load) × (g.F.Files.loads c.load_sessions.new.files ≡ g.F.Files.loads c.load_script.new.files ++ e) × AreAcceptedLoads (g.F.Files.recorded c.load_script.new.files) IsGoodFile IsBadFileAt 3 (map (λ p. p.now) ps) e) c.as_slice.ensures.value c.in-Ok-load_sessions.ensures.loads) in
    both (λ d. AreAcceptedLoads recorded IsGoodFile IsBadFileAt 1 (config ∷ admin ∷ []) d) (λ e. AreAcceptedLoads recorded IsGoodFile IsBadFileAt 3 rest e) (λ f. AreAcceptedLoads recorded IsGoodFile IsBadFileAt 1 (config ∷ admin ∷ rest) f) _ _ _
    (λ d e are next. accepted_all recorded IsGoodFile IsBadFileAt 1 (config ∷ admin ∷ []) rest d e are next) two third
