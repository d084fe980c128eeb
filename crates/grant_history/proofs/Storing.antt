-- stores of which the users, or the roles, moved
use Rattle.std.proofs.Common.{◌≡◌, ◌<◌, ◌≤◌, ◌+◌, ◌-◌, ℕ, refl, sym, ◌∙◌, ap, subst, arith, Bool, true, false, ◌&&◌, if◌then◌else◌, List}
use Rattle.std.specs.Str.{bytes_eq}
use Rattle.sg_names.specs.declared.grants.Grantee.{Grantee}
use Rattle.sg_names.specs.declared.grants.Grantee.TheVariants.{User, Role}
use Rattle.sg_history.specs.Principals.{same_grantee}
use Rattle.grant_tracks.specs.declared.things.What.{What}
use Rattle.grant_history.specs.declared.facts.Fact.{Fact}
use Rattle.grant_history.specs.declared.store.Store.{Store}
use Rattle.grant_tracks.specs.Dated.{Dated}
use Rattle.grant_tracks.specs.What.{same_what}
use Rattle.grant_history.specs.Facts.{same_fact}
use Rattle.grant_tracks.specs.Holdings.{Holders, count_of, held_of, AreAllUpTo}
use Rattle.grant_history.specs.Store.{count_to, held_to, count_at, has_at, IsStore}
use Rattle.grant_tracks.proofs.HeldBy.{later_all}

-- a store of which the users, or the roles, moved
pub users_dated : (old new : Store) (at : ℕ) (after : List ℕ × What → ℕ) (counts : Fact → ℕ) → Dated count_of held_of AreAllUpTo old.users new.users at after → new.roles ≡ old.roles
    → ((name : List ℕ) (w : What) → after (name, w) ≡ counts (record { of = User name; what = w }))
    → ((name : List ℕ) (w : What) → count_of old.roles (name, w) ≡ counts (record { of = Role name; what = w }))
    → Dated count_at has_at IsStore old new at counts
users_dated old new at after counts d kept users roles = record {
  counts = λ f. count f.of f.what;
  before = λ f k below. held f.of f.what k below;
  up_to = λ n le up. record { users = d.up_to n le up.users; roles = subst (λ (h : Holders). AreAllUpTo h at) (sym kept) (later_all old.roles n at le up.roles) };
}
  where
    count : (of : Grantee) (w : What) → count_to new of w ≡ counts (record { of = of; what = w })
    count (User name) w = d.counts (name, w) ∙ users name w
    count (Role name) w = ap (λ (h : Holders). count_of h (name, w)) kept ∙ roles name w

    held : (of : Grantee) (w : What) (k : ℕ) → k < at → held_to new of w k ≡ held_to old of w k
    held (User name) w k below = d.before (name, w) k below
    held (Role name) w k below = ap (λ (h : Holders). held_of h (name, w) k) kept

pub roles_dated : (old new : Store) (at : ℕ) (after : List ℕ × What → ℕ) (counts : Fact → ℕ) → Dated count_of held_of AreAllUpTo old.roles new.roles at after → new.users ≡ old.users
    → ((name : List ℕ) (w : What) → after (name, w) ≡ counts (record { of = Role name; what = w }))
    → ((name : List ℕ) (w : What) → count_of old.users (name, w) ≡ counts (record { of = User name; what = w }))
    → Dated count_at has_at IsStore old new at counts
roles_dated old new at after counts d kept roles users = record {
  counts = λ f. count f.of f.what;
  before = λ f k below. held f.of f.what k below;
  up_to = λ n le up. record { roles = d.up_to n le up.roles; users = subst (λ (h : Holders). AreAllUpTo h at) (sym kept) (later_all old.users n at le up.users) };
}
  where
    count : (of : Grantee) (w : What) → count_to new of w ≡ counts (record { of = of; what = w })
    count (Role name) w = d.counts (name, w) ∙ roles name w
    count (User name) w = ap (λ (h : Holders). count_of h (name, w)) kept ∙ users name w

    held : (of : Grantee) (w : What) (k : ℕ) → k < at → held_to new of w k ≡ held_to old of w k
    held (Role name) w k below = d.before (name, w) k below
    held (User name) w k below = ap (λ (h : Holders). held_of h (name, w) k) kept

module _ (g : ℕ → ℕ) (store : Store) (f : Fact) (n m : List ℕ) (v : What) where
  pub in_users : f.of ≡ User n → (if bytes_eq n m && same_what f.what v then g (count_of store.users (m, v)) else count_of store.users (m, v))
      ≡ (if same_fact f (record { of = User m; what = v }) then g (count_at store (record { of = User m; what = v })) else count_at store (record { of = User m; what = v }))
  in_users is = sym (ap (λ (of : Grantee). if same_grantee of (User m) && same_what f.what v then g (count_of store.users (m, v)) else count_of store.users (m, v)) is)

  pub in_roles : f.of ≡ Role n → (if bytes_eq n m && same_what f.what v then g (count_of store.roles (m, v)) else count_of store.roles (m, v))
      ≡ (if same_fact f (record { of = Role m; what = v }) then g (count_at store (record { of = Role m; what = v })) else count_at store (record { of = Role m; what = v }))
  in_roles is = sym (ap (λ (of : Grantee). if same_grantee of (Role m) && same_what f.what v then g (count_of store.roles (m, v)) else count_of store.roles (m, v)) is)

  pub not_roles : f.of ≡ User n → count_of store.roles (m, v) ≡ (if same_fact f (record { of = Role m; what = v }) then g (count_at store (record { of = Role m; what = v })) else count_at store (record { of = Role m; what = v }))
  not_roles is = sym (ap (λ (of : Grantee). if same_grantee of (Role m) && same_what f.what v then g (count_of store.roles (m, v)) else count_of store.roles (m, v)) is)

  pub not_users : f.of ≡ Role n → count_of store.users (m, v) ≡ (if same_fact f (record { of = User m; what = v }) then g (count_at store (record { of = User m; what = v })) else count_at store (record { of = User m; what = v }))
  not_users is = sym (ap (λ (of : Grantee). if same_grantee of (User m) && same_what f.what v then g (count_of store.users (m, v)) else count_of store.users (m, v)) is)

-- one step after another
pub chained : (first second third : Store) (at : ℕ) (one two : Fact → ℕ) → Dated count_at has_at IsStore first second at one → Dated count_at has_at IsStore second third at two → Dated count_at has_at IsStore first third at two
chained first second third at one two d e = record {
  counts = e.counts;
  before = λ x k below. e.before x k below ∙ d.before x k below;
  up_to = λ n le up. e.up_to at (omega arith) (d.up_to n le up);
}

pub recounted_at : (old new : Store) (at : ℕ) (one other : Fact → ℕ) → Dated count_at has_at IsStore old new at one → ((f : Fact) → one f ≡ other f) → Dated count_at has_at IsStore old new at other
recounted_at old new at one other d same = record { counts = λ f. d.counts f ∙ same f; before = d.before; up_to = d.up_to }

pub same_store : (store : Store) (at : ℕ) → Dated count_at has_at IsStore store store at (count_at store)
same_store store at = record {
  counts = λ f. refl;
  before = λ f k less. refl;
  up_to = λ n less is. record { users = later_all store.users n at less is.users; roles = later_all store.roles n at less is.roles };
}

pub less_step : (b : Bool) (count all start rest dropped : ℕ) → count + all ≡ start + dropped → dropped ≡ (if b then 1 else 0) + rest → all ≤ start → (if b then count - 1 else count) + all ≡ start + rest
less_step true count all start rest dropped h d le = omega (arith, h, d, le)
less_step false count all start rest dropped h d le = omega (arith, h, d, le)

pub more_step : (b : Bool) (start before : ℕ) → (if b then start + before + 1 else start + before) ≡ start + (before + ((if b then 1 else 0) + 0))
more_step true start before = omega arith
more_step false start before = omega arith
