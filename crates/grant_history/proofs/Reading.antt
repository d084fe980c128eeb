-- what is read of a store that is kept right is what the history says
use Rattle.std.proofs.Common.{◌≡◌, ◌⊎◌, inl, inr, ℕ, refl, sym, ◌∙◌, ap, subst, Bool, true, false, ◌&&◌, ◌||◌, if◌then◌else◌, List, [], ◌∷◌, ◌++◌, Option, Some, None}
use Rattle.std.specs.BTreeMap.{get_by_text}
use Rattle.std.specs.List.{list_any}
use Rattle.std.specs.Str.{bytes_eq}
use Rattle.std.specs.Cmp.Lexicographic.{bytes_decides}
use Rattle.std.proofs.lemmas.Bool.{false≢true}
use Rattle.sg_names.specs.declared.grants.Grantee.{Grantee}
use Rattle.sg_names.specs.declared.grants.Grantee.TheVariants.{User, Role}
use Rattle.sg_history.specs.declared.entries.Entry.{Entry}
use Rattle.sg_history.specs.Principals.{PrincipalState, Put, as_put, same_grantee, principal_after, role_named, role_put, roles_put, exists, names_role, names_channel, everyone, user_at, role_at, is_granted, is_given, has_role, role_has_channel, has_channel}
use Rattle.grant_history.proofs.Members.{IsIn, passing, passes_in, in_left, in_right}
use Rattle.grant_tracks.proofs.Same.{both_ways, whats, what_itself, text_itself, texts_swap}
use Rattle.grant_tracks.specs.declared.things.What.{What}
use Rattle.grant_tracks.specs.declared.things.What.TheVariants as what
use Rattle.grant_history.specs.declared.facts.Fact.{Fact}
use Rattle.grant_tracks.specs.declared.held.Held.{Held}
use Rattle.grant_history.specs.declared.store.Store.{Store}
use Rattle.grant_tracks.specs.Tracks.{held_at}
use Rattle.grant_tracks.specs.What.{same_what}
use Rattle.grant_history.specs.Facts.{fact}
use Rattle.grant_tracks.specs.Holdings.{held_in, held_by_list, held_of}
use Rattle.grant_history.specs.Store.{has_at, IsStore}
use Rattle.grant_history.specs.Sources.{is_held}
use Rattle.grant_tracks.specs.Reads.{channel_among, channel_by, role_channel, gives_channel, by_roles, list_channel, user_channel, is_existing, role_among, list_role, user_role}
use Rattle.grant_tracks.proofs.Once.{once_of, any_of, channel_any}
use Rattle.grant_history.proofs.Has.{channel_held, role_held, exists_held}
use Rattle.grant_tracks.specs.Things.{Things}

and_swap : (a b : Bool) → (a && b) ≡ (b && a)
and_swap true true = refl
and_swap true false = refl
and_swap false true = refl
and_swap false false = refl

or_parts : (a b : Bool) → (a || b) ≡ true → (a ≡ true) ⊎ (b ≡ true)
or_parts true b h = inl refl
or_parts false b h = inr h

or_left : (a b : Bool) → a ≡ true → (a || b) ≡ true
or_left true b h = refl
or_left false b h = absurd (false≢true h)

or_right : (a b : Bool) → b ≡ true → (a || b) ≡ true
or_right true b h = refl
or_right false b h = h

both : (a b : Bool) → a ≡ true → b ≡ true → (a && b) ≡ true
both a b h g = ap (λ (x : Bool). x && b) h ∙ g

first_of : (a b : Bool) → (a && b) ≡ true → a ≡ true
first_of true b h = refl
first_of false b h = absurd (false≢true h)

second_of : (a b : Bool) → (a && b) ≡ true → b ≡ true
second_of true b h = h
second_of false b h = absurd (false≢true h)

role_is : (role : List ℕ) (g : Grantee) (state : Option PrincipalState) → same_grantee g (Role role) ≡ true → exists state ≡ true → IsIn (role_named g state) role
role_is role (User name) state same h = absurd (false≢true same)
role_is role (Role name) None same h = absurd (false≢true h)
role_is role (Role name) (Some state) same h = inl ((bytes_decides name role).0 same)

-- a role that exists was put
was_put : (es : List Entry) (role : List ℕ) → exists (role_at es role) ≡ true → IsIn (roles_put es) role
was_put [] role h = absurd (false≢true h)
was_put (e ∷ older) role h = by (as_put e) h (λ k. was_put older role k)
  where
    by : (o : Option Put) → exists (principal_after o (Role role) (role_at older role)) ≡ true → (exists (role_at older role) ≡ true → IsIn (roles_put older) role) → IsIn (role_put o ++ roles_put older) role
    by None h rest = rest h
    by (Some put) h rest = of (same_grantee put.of (Role role)) refl h
      where
        of : (b : Bool) → same_grantee put.of (Role role) ≡ b → exists (if b then put.state else role_at older role) ≡ true → IsIn (role_named put.of put.state ++ roles_put older) role
        of true same h = in_left (role_named put.of put.state) (roles_put older) role (role_is role put.of put.state same h)
        of false same h = in_right (role_named put.of put.state) (roles_put older) role (rest h)

module _ (store : Store) (n k : ℕ) (es : List Entry) (up : IsStore store n) (is : (f : Fact) → has_at store f k ≡ is_held es f) where
  -- roles
  role_exists : (role : List ℕ) → held_of store.roles (role, what.Exists) k ≡ exists (role_at es role)
  role_exists role = is (fact (Role role) what.Exists) ∙ exists_held es (Role role)

  channel_by_list : (o : Option Things) (role x : List ℕ) → get_by_text store.roles role ≡ o → channel_by o k x ≡ (held_by_list o what.Exists k && held_by_list o (what.Channel x) k)
  channel_by_list None role x at = refl
  channel_by_list (Some list) role x at = ap (λ (b : Bool). held_in list.items what.Exists k && b) (channel_any list.items k x (once_of list.items n (up.roles role list at).0))

  role_has : (role x : List ℕ) → role_channel store.roles role k x ≡ role_has_channel es role x
  role_has role x =
      channel_by_list (get_by_text store.roles role) role x refl
      ∙ ap (λ (b : Bool). b && held_of store.roles (role, what.Channel x) k) (role_exists role)
      ∙ ap (λ (b : Bool). exists (role_at es role) && b) (is (fact (Role role) (what.Channel x)) ∙ channel_held es (Role role) x)

  module _ (user : List ℕ) (list : Things) (at : get_by_text store.users user ≡ Some list) where
    here : (w : What) → held_in list.items w k ≡ has_at store (fact (User user) w) k
    here w = ap (λ (o : Option Things). held_by_list o w k) (sym at)

    user_exists : held_in list.items what.Exists k ≡ exists (user_at es user)
    user_exists = here what.Exists ∙ is (fact (User user) what.Exists) ∙ exists_held es (User user)

    own : (x : List ℕ) → channel_among list.items k x ≡ (names_channel (user_at es user) x || is_granted es (User user) x)
    own x = channel_any list.items k x (once_of list.items n (up.users user list at).0) ∙ here (what.Channel x) ∙ is (fact (User user) (what.Channel x)) ∙ channel_held es (User user) x

    named : (role : List ℕ) → held_in list.items (what.Role role) k ≡ (names_role (user_at es user) role || is_given es user role)
    named role = here (what.Role role) ∙ is (fact (User user) (what.Role role)) ∙ role_held es user role

    -- a held thing is held by its name
    held_named : (h : Held) → IsIn list.items h → held_at h.track k ≡ true → held_in list.items h.what k ≡ true
    held_named h there held = sym (any_of list.items k h.what (once_of list.items n (up.users user list at).0)) ∙ passes_in (λ g. same_what g.what h.what && held_at g.track k) list.items h there (both (same_what h.what h.what) (held_at h.track k) (what_itself h.what) held)

    module _ (alive : exists (user_at es user) ≡ true) (x : List ℕ) where
      abbrev by_role : Bool
      by_role = list_any (λ role. has_role es user role && role_has_channel es role x) (roles_put es)

      from_role : (role : List ℕ) → held_in list.items (what.Role role) k ≡ true → role_channel store.roles role k x ≡ true → by_role ≡ true
      from_role role held has =
          let gives : role_has_channel es role x ≡ true = sym (role_has role x) ∙ has in
          let there : exists (role_at es role) ≡ true = first_of (exists (role_at es role)) (names_channel (role_at es role) x || is_granted es (Role role) x) gives in
          let mine : has_role es user role ≡ true = both (exists (user_at es user) && exists (role_at es role)) (names_role (user_at es user) role || is_given es user role) (both (exists (user_at es user)) (exists (role_at es role)) alive there) (sym (named role) ∙ held) in
          passes_in (λ r. has_role es user r && role_has_channel es r x) (roles_put es) role (was_put es role there) (both (has_role es user role) (role_has_channel es role x) mine gives)

      gives_to : (w : What) → held_in list.items w k ≡ true → gives_channel store.roles w k x ≡ true → by_role ≡ true
      gives_to what.Exists held h = absurd (false≢true h)
      gives_to (what.Channel c) held h = absurd (false≢true h)
      gives_to (what.Role r) held h = from_role r held h

      roles_to : by_roles store.roles list.items k x ≡ true → by_role ≡ true
      roles_to h =
          let p = passing (λ h. held_at h.track k && gives_channel store.roles h.what k x) list.items h in
          let held = first_of (held_at p.one.track k) (gives_channel store.roles p.one.what k x) p.is in
          gives_to p.one.what (held_named p.one p.there held) (second_of (held_at p.one.track k) (gives_channel store.roles p.one.what k x) p.is)

      roles_from : by_role ≡ true → by_roles store.roles list.items k x ≡ true
      roles_from h =
          let p = passing (λ r. has_role es user r && role_has_channel es r x) (roles_put es) h in
          let mine = first_of (has_role es user p.one) (role_has_channel es p.one x) p.is in
          let gives = second_of (has_role es user p.one) (role_has_channel es p.one x) p.is in
          let held : held_in list.items (what.Role p.one) k ≡ true = named p.one ∙ second_of (exists (user_at es user) && exists (role_at es p.one)) (names_role (user_at es user) p.one || is_given es user p.one) mine in
          let q = passing (λ g. same_what g.what (what.Role p.one) && held_at g.track k) list.items (any_of list.items k (what.Role p.one) (once_of list.items n (up.users user list at).0) ∙ held) in
          let one : q.one.what ≡ what.Role p.one = whats q.one.what (what.Role p.one) (first_of (same_what q.one.what (what.Role p.one)) (held_at q.one.track k) q.is) in
          passes_in (λ h. held_at h.track k && gives_channel store.roles h.what k x) list.items q.one q.there
          (both (held_at q.one.track k) (gives_channel store.roles q.one.what k x) (second_of (same_what q.one.what (what.Role p.one)) (held_at q.one.track k) q.is)
          (ap (λ (w : What). gives_channel store.roles w k x) one ∙ role_has p.one x ∙ gives))

      roles_are : by_roles store.roles list.items k x ≡ by_role
      roles_are = both_ways _ _ roles_to roles_from

      -- roles themselves
      is_mine : (w : What) → held_in list.items w k ≡ true → is_existing store.roles w k x ≡ true → has_role es user x ≡ true
      is_mine what.Exists held h = absurd (false≢true h)
      is_mine (what.Channel c) held h = absurd (false≢true h)
      is_mine (what.Role r) held h =
          let one : r ≡ x = (bytes_decides r x).0 (second_of (held_of store.roles (r, what.Exists) k) (bytes_eq r x) h) in
          let there : exists (role_at es x) ≡ true = subst (λ (y : List ℕ). exists (role_at es y) ≡ true) one (sym (role_exists r) ∙ first_of (held_of store.roles (r, what.Exists) k) (bytes_eq r x) h) in
          let mine : (names_role (user_at es user) x || is_given es user x) ≡ true = subst (λ (y : List ℕ). (names_role (user_at es user) y || is_given es user y) ≡ true) one (sym (named r) ∙ held) in
          both (exists (user_at es user) && exists (role_at es x)) (names_role (user_at es user) x || is_given es user x) (both (exists (user_at es user)) (exists (role_at es x)) alive there) mine

      among_to : role_among store.roles list.items k x ≡ true → has_role es user x ≡ true
      among_to h =
          let p = passing (λ h. held_at h.track k && is_existing store.roles h.what k x) list.items h in
          let held = first_of (held_at p.one.track k) (is_existing store.roles p.one.what k x) p.is in
          is_mine p.one.what (held_named p.one p.there held) (second_of (held_at p.one.track k) (is_existing store.roles p.one.what k x) p.is)

      among_from : has_role es user x ≡ true → role_among store.roles list.items k x ≡ true
      among_from h =
          let there = second_of (exists (user_at es user)) (exists (role_at es x)) (first_of (exists (user_at es user) && exists (role_at es x)) (names_role (user_at es user) x || is_given es user x) h) in
          let held : held_in list.items (what.Role x) k ≡ true = named x ∙ second_of (exists (user_at es user) && exists (role_at es x)) (names_role (user_at es user) x || is_given es user x) h in
          let q = passing (λ g. same_what g.what (what.Role x) && held_at g.track k) list.items (any_of list.items k (what.Role x) (once_of list.items n (up.users user list at).0) ∙ held) in
          let one : q.one.what ≡ what.Role x = whats q.one.what (what.Role x) (first_of (same_what q.one.what (what.Role x)) (held_at q.one.track k) q.is) in
          passes_in (λ h. held_at h.track k && is_existing store.roles h.what k x) list.items q.one q.there
          (both (held_at q.one.track k) (is_existing store.roles q.one.what k x) (second_of (same_what q.one.what (what.Role x)) (held_at q.one.track k) q.is)
          (ap (λ (w : What). is_existing store.roles w k x) one ∙ both (held_of store.roles (x, what.Exists) k) (bytes_eq x x) (role_exists x ∙ there) (text_itself x)))

      roles_mine : role_among store.roles list.items k x ≡ has_role es user x
      roles_mine = both_ways _ _ among_to among_from

    swap : (g m e n u : Bool) → (g || ((n || u) || (e || false))) ≡ (e || n || u || g)
    swap true m true n u = by n u
      where
        by : (n u : Bool) → true ≡ (true || n || u || true)
        by n u = refl
    swap true m false true u = refl
    swap true m false false true = refl
    swap true m false false false = refl
    swap false m true true u = refl
    swap false m true false true = refl
    swap false m true false false = refl
    swap false m false true u = refl
    swap false m false false true = refl
    swap false m false false false = refl

    some_channel : (x : List ℕ) → list_channel store.roles list.items k x ≡ has_channel es user x
    some_channel x = by (exists (user_at es user)) refl
      where
        by : (b : Bool) → exists (user_at es user) ≡ b → list_channel store.roles list.items k x ≡ has_channel es user x
        by false gone =
            ap (λ (b : Bool). b && (by_roles store.roles list.items k x || (channel_among list.items k x || (bytes_eq everyone x || false)))) (user_exists ∙ gone)
            ∙ sym (ap (λ (b : Bool). b && (bytes_eq x everyone || names_channel (user_at es user) x || is_granted es (User user) x || list_any (λ role. has_role es user role && role_has_channel es role x) (roles_put es))) gone)
        by true alive =
            ap (λ (b : Bool). b && (by_roles store.roles list.items k x || (channel_among list.items k x || (bytes_eq everyone x || false)))) user_exists
            ∙ ap (λ (b : Bool). exists (user_at es user) && b)
            (ap (λ (b : Bool). b || (channel_among list.items k x || (bytes_eq everyone x || false))) (roles_are alive x)
            ∙ ap (λ (b : Bool). by_role alive x || (b || (bytes_eq everyone x || false))) (own x)
            ∙ ap (λ (b : Bool). by_role alive x || ((names_channel (user_at es user) x || is_granted es (User user) x) || (b || false))) (texts_swap everyone x)
            ∙ swap (by_role alive x) true (bytes_eq x everyone) (names_channel (user_at es user) x) (is_granted es (User user) x))

    or_none : (b : Bool) → (b || false) ≡ b
    or_none true = refl
    or_none false = refl

    alone : (a b : Bool) → a ≡ true → b ≡ (a && b)
    alone true b h = refl
    alone false b h = absurd (false≢true h)

    some_role : (x : List ℕ) → list_role store.roles list.items k x ≡ has_role es user x
    some_role x = by (exists (user_at es user)) refl
      where
        by : (b : Bool) → exists (user_at es user) ≡ b → list_role store.roles list.items k x ≡ has_role es user x
        by false gone =
            ap (λ (b : Bool). b && (role_among store.roles list.items k x || false)) (user_exists ∙ gone)
            ∙ sym (ap (λ (b : Bool). b && exists (role_at es x) && (names_role (user_at es user) x || is_given es user x)) gone)
        by true alive =
            ap (λ (b : Bool). b && (role_among store.roles list.items k x || false)) (user_exists ∙ alive)
            ∙ or_none (role_among store.roles list.items k x) ∙ roles_mine alive x

  -- a user of whom nothing is kept does not exist
  gone_user : (user : List ℕ) → get_by_text store.users user ≡ None → exists (user_at es user) ≡ false
  gone_user user at = sym (exists_held es (User user)) ∙ sym (is (fact (User user) what.Exists)) ∙ ap (λ (o : Option Things). held_by_list o what.Exists k) at

  pub user_channels : (user x : List ℕ) → user_channel store.roles (get_by_text store.users user) k x ≡ has_channel es user x
  user_channels user x = by (get_by_text store.users user) refl
    where
      by : (o : Option Things) → get_by_text store.users user ≡ o → user_channel store.roles o k x ≡ has_channel es user x
      by None at = sym (ap (λ (b : Bool). b && (bytes_eq x everyone || names_channel (user_at es user) x || is_granted es (User user) x || list_any (λ role. has_role es user role && role_has_channel es role x) (roles_put es))) (gone_user user at))
      by (Some list) at = some_channel user list at x

  pub user_roles : (user x : List ℕ) → user_role store.roles (get_by_text store.users user) k x ≡ has_role es user x
  user_roles user x = by (get_by_text store.users user) refl
    where
      by : (o : Option Things) → get_by_text store.users user ≡ o → user_role store.roles o k x ≡ has_role es user x
      by None at = sym (ap (λ (b : Bool). b && exists (role_at es x) && (names_role (user_at es user) x || is_given es user x)) (gone_user user at))
      by (Some list) at = some_role user list at x
