use Rattle.std.proofs.Common.{ℕ, ◌-◌, ◌<◌, ◌≡◌, ◌∙◌, sym, ap, subst, refl, List}
use Rattle.sg_names.specs.declared.grants.Grantee.{Grantee}
use Rattle.sg_names.specs.declared.grants.Grantee.TheVariants.{User, Role}
use Rattle.grant_tracks.specs.declared.things.What.{What}
use Rattle.grant_tracks.specs.Holdings.{count_of, less_of}
use Rattle.grant_history.specs.Store.{count_to, count_at, less_at}
use Rattle.grant_history.proofs.Storing.{users_dated, roles_dated, in_users, in_roles, not_users, not_roles}
use Rattle.grant_history.proofs.store.Store.take.Goals as goal

pub take-requires : goal.take-requires
take-requires c =
    let is : c.args.fact.now.of ≡ User c.as_str.result.now = c.in-User.is ∙ ap (λ (x : List ℕ). User x) (sym c.as_str.ensures.value) in
    record {
      given = subst (λ (of : Grantee). 0 < count_to c.args.self.now of c.args.fact.now.what) is c.requires.given;
      up_to = c.requires.up_to.users;
    }

pub take-requires-in-Role : goal.take-requires-in-Role
take-requires-in-Role c =
    let is : c.args.fact.now.of ≡ Role c.as_str-in-Role.result.now = c.in-Role.is ∙ ap (λ (x : List ℕ). Role x) (sym c.as_str-in-Role.ensures.value) in
    record {
      given = subst (λ (of : Grantee). 0 < count_to c.args.self.now of c.args.fact.now.what) is c.requires.given;
      up_to = c.requires.up_to.roles;
    }

pub returns-in-User : goal.returns-in-User
returns-in-User c =
    let old = c.args.self.now in
    let f = c.args.fact.now in
    let n = c.as_str.result.now in
    let is : f.of ≡ User n = c.in-User.is ∙ ap (λ (x : List ℕ). User x) (sym c.as_str.ensures.value) in
    users_dated old (record { users = c.take.new.holders; roles = old.roles }) c.args.at (less_of (count_of old.users) n f.what) (less_at (count_at old) f) c.take.ensures refl
    (λ (m : List ℕ) (v : What). in_users (λ (k : ℕ). k - 1) old f n m v is) (λ (m : List ℕ) (v : What). not_roles (λ (k : ℕ). k - 1) old f n m v is)

pub returns-in-Role : goal.returns-in-Role
returns-in-Role c =
    let old = c.args.self.now in
    let f = c.args.fact.now in
    let n = c.as_str-in-Role.result.now in
    let is : f.of ≡ Role n = c.in-Role.is ∙ ap (λ (x : List ℕ). Role x) (sym c.as_str-in-Role.ensures.value) in
    roles_dated old (record { users = old.users; roles = c.take-in-Role.new.holders }) c.args.at (less_of (count_of old.roles) n f.what) (less_at (count_at old) f) c.take-in-Role.ensures refl
    (λ (m : List ℕ) (v : What). in_roles (λ (k : ℕ). k - 1) old f n m v is) (λ (m : List ℕ) (v : What). not_users (λ (k : ℕ). k - 1) old f n m v is)
