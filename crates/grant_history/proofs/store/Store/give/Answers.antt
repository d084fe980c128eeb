use Rattle.std.proofs.Common.{ℕ, ◌+◌, ◌≡◌, ◌∙◌, sym, ap, refl, List}
use Rattle.sg_names.specs.declared.grants.Grantee.TheVariants.{User, Role}
use Rattle.grant_tracks.specs.declared.things.What.{What}
use Rattle.grant_tracks.specs.Holdings.{count_of, more_of}
use Rattle.grant_history.specs.Store.{count_at, more_at}
use Rattle.grant_tracks.proofs.Tracked.{on_ok, on_err}
use Rattle.grant_history.proofs.Storing.{users_dated, roles_dated, in_users, in_roles, not_users, not_roles}
use Rattle.grant_history.proofs.store.Store.give.Goals as goal

pub give-requires : goal.give-requires
give-requires c = c.requires.users

pub give-requires-in-Role : goal.give-requires-in-Role
give-requires-in-Role c = c.requires.roles

pub returns-in-User-clause-ok : goal.returns-in-User-clause-ok
returns-in-User-clause-ok c =
    let old = c.args.self.now in
    let f = c.args.fact.now in
    let n = c.as_str.result.now in
    let is : f.of ≡ User n = c.in-User.is ∙ ap (λ (x : List ℕ). User x) (sym c.as_str.ensures.value) in
    on_ok c.give.result _ _ (λ d. users_dated old (record { users = c.give.new.holders; roles = old.roles }) c.args.at (more_of (count_of old.users) n f.what) (more_at (count_at old) f) d refl
    (λ (m : List ℕ) (v : What). in_users (λ (k : ℕ). k + 1) old f n m v is) (λ (m : List ℕ) (v : What). not_roles (λ (k : ℕ). k + 1) old f n m v is)) c.give.ensures.ok

pub returns-in-User-clause-err : goal.returns-in-User-clause-err
returns-in-User-clause-err c =
    let old = c.args.self.now in
    on_err c.give.result _ _ (λ d. users_dated old (record { users = c.give.new.holders; roles = old.roles }) c.args.at (count_of old.users) (count_at old) d refl (λ m v. refl) (λ m v. refl)) c.give.ensures.err

pub returns-in-Role-clause-ok : goal.returns-in-Role-clause-ok
returns-in-Role-clause-ok c =
    let old = c.args.self.now in
    let f = c.args.fact.now in
    let n = c.as_str-in-Role.result.now in
    let is : f.of ≡ Role n = c.in-Role.is ∙ ap (λ (x : List ℕ). Role x) (sym c.as_str-in-Role.ensures.value) in
    on_ok c.give-in-Role.result _ _ (λ d. roles_dated old (record { users = old.users; roles = c.give-in-Role.new.holders }) c.args.at (more_of (count_of old.roles) n f.what) (more_at (count_at old) f) d refl
    (λ (m : List ℕ) (v : What). in_roles (λ (k : ℕ). k + 1) old f n m v is) (λ (m : List ℕ) (v : What). not_users (λ (k : ℕ). k + 1) old f n m v is)) c.give-in-Role.ensures.ok

pub returns-in-Role-clause-err : goal.returns-in-Role-clause-err
returns-in-Role-clause-err c =
    let old = c.args.self.now in
    on_err c.give-in-Role.result _ _ (λ d. roles_dated old (record { users = old.users; roles = c.give-in-Role.new.holders }) c.args.at (count_of old.roles) (count_at old) d refl (λ m v. refl) (λ m v. refl)) c.give-in-Role.ensures.err
