-- texts of what stands in lists: without a comma, not `-`, and each of one item
use Rattle.std.proofs.Common.{◌≡◌, ◌≢◌, ℕ, ◌<◌, ◌^◌, true, false, ◌&&◌, not, List, [], ◌∷◌, ◌++◌, length, refl, sym, ap, ◌∙◌, arith}
use Rattle.std.specs.Prelude.{decimal, nat_le, nat_lt, nat_eq, codes}
use Rattle.std.specs.List.{list_all}
use Rattle.std.proofs.lemmas.Bool.{and_parts, and_from, not_from_true, not_from_false, ne_eqb}
use Rattle.std.proofs.lemmas.Slice.Eq.{bytes_eq-Decides}
use Rattle.std.proofs.lemmas.List.Folds.{list_all-append}
use Rattle.std.proofs.lemmas.Fmt.{decimal_injective}
use Rattle.sg_names.proofs.Cuts.{cut_same, lacks_seam}
use Rattle.sg_names.proofs.Decimals.{lacks-decimal}
use Rattle.sg_names.proofs.RevTexts.{rev_parts}
use Rattle.sg_names.specs.Grammar.{lacks, is_channel_name, is_name, is_plain_text, is_dash, is_digest, is_digest_byte}
use Rattle.sg_names.specs.ItemList.{AreApart}
use Rattle.sg_names.specs.RevId.{is_rev, rev_text}
use Rattle.sg_names.specs.Grants.{is_grant, is_grantee, grant_text, grantee_text}
use Rattle.sg_names.specs.RoleGrants.{is_role_grant, role_grant_text}
use Rattle.sg_names.specs.declared.rev_id.RevId.{RevId}
use Rattle.sg_names.specs.declared.grants.Grantee.{Grantee}
use Rattle.sg_names.specs.declared.grants.Grantee.TheVariants.{User, Role}
use Rattle.sg_names.specs.declared.grants.Grant.{Grant}
use Rattle.sg_names.specs.declared.role_grants.RoleGrant.{RoleGrant}

-- joined texts lack what both parts lack
lacks_joined : (c d : ℕ) (front back : List ℕ) → d ≢ c → lacks c front ≡ true → lacks c back ≡ true → lacks c (front ++ d ∷ back) ≡ true
lacks_joined c d front back apart first second =
    list_all-append (λ b. not (nat_eq b c)) front (d ∷ back)
    ∙ and_from _ _ first (and_from _ _ (not_from_false (nat_eq d c) (ne_eqb d c apart)) second)

-- channels' names
pub channel_lacks_comma : (n : List ℕ) → is_channel_name n ≡ true → lacks 44 n ≡ true
channel_lacks_comma n h = (and_parts _ _ (and_parts _ _ h).0).1

pub channel_is_no_dash : (n : List ℕ) → is_channel_name n ≡ true → n ≢ 45 ∷ []
channel_is_no_dash n h e =
    let other : not (is_dash n) ≡ true = (and_parts (is_plain_text n && lacks 44 n) (not (is_dash n)) h).1 in
    let same : not (is_dash n) ≡ false = not_from_true (is_dash n) ((bytes_eq-Decides n (45 ∷ [])).1 e) in
    cc (other, same)

-- users' and roles' names
pub name_channel : (n : List ℕ) → is_name n ≡ true → is_channel_name n ≡ true
name_channel n h = (and_parts (is_channel_name n) (lacks 58 n) (and_parts (is_channel_name n && lacks 58 n) (lacks 61 n) h).0).0

pub name_lacks_colon : (n : List ℕ) → is_name n ≡ true → lacks 58 n ≡ true
name_lacks_colon n h = (and_parts (is_channel_name n) (lacks 58 n) (and_parts (is_channel_name n && lacks 58 n) (lacks 61 n) h).0).1

pub name_lacks_equals : (n : List ℕ) → is_name n ≡ true → lacks 61 n ≡ true
name_lacks_equals n h = (and_parts (is_channel_name n && lacks 58 n) (lacks 61 n) h).1

pub name_lacks_comma : (n : List ℕ) → is_name n ≡ true → lacks 44 n ≡ true
name_lacks_comma n h = channel_lacks_comma n (name_channel n h)

pub name_is_no_dash : (n : List ℕ) → is_name n ≡ true → n ≢ 45 ∷ []
name_is_no_dash n h = channel_is_no_dash n (name_channel n h)

-- revisions
digest_bytes_lack : (d : List ℕ) → list_all is_digest_byte d ≡ true → lacks 44 d ≡ true
digest_bytes_lack [] h = refl
digest_bytes_lack (b ∷ bs) h =
    let parts = and_parts (is_digest_byte b) (list_all is_digest_byte bs) h in
    and_from _ _ (and_parts (nat_le 33 b && nat_le b 126) (not (nat_eq b 44)) parts.0).1 (digest_bytes_lack bs parts.1)

pub rev_lacks_comma : (r : RevId) → is_rev r ≡ true → lacks 44 (rev_text r) ≡ true
rev_lacks_comma r h =
    let parts = rev_parts r h in
    let digest = (and_parts (nat_lt 0 (length r.digest) && nat_le (length r.digest) 64) (list_all is_digest_byte r.digest) parts.digest).1 in
    lacks_joined 44 45 (decimal r.generation) r.digest (λ e. omega (arith, e))
    (lacks-decimal 44 r.generation refl (omega (arith, parts.high))) (digest_bytes_lack r.digest digest)

pub rev_is_no_dash : (r : RevId) → is_rev r ≡ true → rev_text r ≢ 45 ∷ []
rev_is_no_dash r h e =
    let parts = rev_parts r h in
    let both = cut_same 45 (decimal r.generation) r.digest [] [] (lacks-decimal 45 r.generation refl (omega (arith, parts.high))) refl e in
    let none : is_digest [] ≡ true = ap is_digest (sym both.1) ∙ parts.digest in
    cc (none)

pub rev_has_one_text : (r s : RevId) → is_rev r ≡ true → is_rev s ≡ true → rev_text r ≡ rev_text s → r ≡ s
rev_has_one_text r s h g e =
    let a = rev_parts r h in
    let b = rev_parts s g in
    let small : r.generation < 2 ^ 64 = omega (arith, a.high) in
    let small' : s.generation < 2 ^ 64 = omega (arith, b.high) in
    let both = cut_same 45 (decimal r.generation) r.digest (decimal s.generation) s.digest (lacks-decimal 45 r.generation refl small) (lacks-decimal 45 s.generation refl small') e in
    let generation = decimal_injective r.generation s.generation small small' both.0 in
    λ i. record { generation = generation i; digest = both.1 i }

-- grants
pub grantee_lacks_comma : (g : Grantee) → is_grantee g ≡ true → lacks 44 (grantee_text g) ≡ true
grantee_lacks_comma (User name) h = name_lacks_comma name h
grantee_lacks_comma (Role name) h = lacks_joined 44 58 (codes "role") name (λ e. omega (arith, e)) refl (name_lacks_comma name h)

pub grantee_lacks_equals : (g : Grantee) → is_grantee g ≡ true → lacks 61 (grantee_text g) ≡ true
grantee_lacks_equals (User name) h = name_lacks_equals name h
grantee_lacks_equals (Role name) h = lacks_joined 61 58 (codes "role") name (λ e. omega (arith, e)) refl (name_lacks_equals name h)

pub grantee_has_one_text : (g k : Grantee) → is_grantee g ≡ true → is_grantee k ≡ true → grantee_text g ≡ grantee_text k → g ≡ k
grantee_has_one_text (User a) (User b) h g e = ap User e
grantee_has_one_text (User a) (Role b) h g e = absurd (lacks_seam 58 a (codes "role") b (name_lacks_colon a h) e)
grantee_has_one_text (Role a) (User b) h g e = absurd (lacks_seam 58 b (codes "role") a (name_lacks_colon b g) (sym e))
grantee_has_one_text (Role a) (Role b) h g e = ap Role (cut_same 58 (codes "role") a (codes "role") b refl refl e).1

pub record HasGrantParts (g : Grant) : Type 0 where
  pub to : is_grantee g.to ≡ true
  pub channel : is_channel_name g.channel ≡ true

pub grant_parts : (g : Grant) → is_grant g ≡ true → HasGrantParts g
grant_parts g h = let both = and_parts (is_grantee g.to) (is_channel_name g.channel) h in record { to = both.0; channel = both.1 }

pub grant_lacks_comma : (g : Grant) → is_grant g ≡ true → lacks 44 (grant_text g) ≡ true
grant_lacks_comma g h =
    let parts = grant_parts g h in
    lacks_joined 44 61 (grantee_text g.to) g.channel (λ e. omega (arith, e)) (grantee_lacks_comma g.to parts.to) (channel_lacks_comma g.channel parts.channel)

pub grant_is_no_dash : (g : Grant) → is_grant g ≡ true → grant_text g ≢ 45 ∷ []
grant_is_no_dash g h e = lacks_seam 61 (45 ∷ []) (grantee_text g.to) g.channel refl (sym e)

pub grant_has_one_text : (g k : Grant) → is_grant g ≡ true → is_grant k ≡ true → grant_text g ≡ grant_text k → g ≡ k
grant_has_one_text g k h j e =
    let a = grant_parts g h in
    let b = grant_parts k j in
    let both = cut_same 61 (grantee_text g.to) g.channel (grantee_text k.to) k.channel (grantee_lacks_equals g.to a.to) (grantee_lacks_equals k.to b.to) e in
    let to = grantee_has_one_text g.to k.to a.to b.to both.0 in
    λ i. record { to = to i; channel = both.1 i }

-- grants of roles
pub record HasRoleGrantParts (g : RoleGrant) : Type 0 where
  pub user : is_name g.user ≡ true
  pub role : is_name g.role ≡ true

pub role_grant_parts : (g : RoleGrant) → is_role_grant g ≡ true → HasRoleGrantParts g
role_grant_parts g h = let both = and_parts (is_name g.user) (is_name g.role) h in record { user = both.0; role = both.1 }

pub role_grant_lacks_comma : (g : RoleGrant) → is_role_grant g ≡ true → lacks 44 (role_grant_text g) ≡ true
role_grant_lacks_comma g h =
    let parts = role_grant_parts g h in
    lacks_joined 44 61 g.user g.role (λ e. omega (arith, e)) (name_lacks_comma g.user parts.user) (name_lacks_comma g.role parts.role)

pub role_grant_is_no_dash : (g : RoleGrant) → is_role_grant g ≡ true → role_grant_text g ≢ 45 ∷ []
role_grant_is_no_dash g h e = lacks_seam 61 (45 ∷ []) g.user g.role refl (sym e)

pub role_grant_has_one_text : (g k : RoleGrant) → is_role_grant g ≡ true → is_role_grant k ≡ true → role_grant_text g ≡ role_grant_text k → g ≡ k
role_grant_has_one_text g k h j e =
    let a = role_grant_parts g h in
    let b = role_grant_parts k j in
    let both = cut_same 61 g.user g.role k.user k.role (name_lacks_equals g.user a.user) (name_lacks_equals k.user b.user) e in
    λ i. record { user = both.0 i; role = both.1 i }

-- where the texts are cut
pub grantee_cut : (text front back : List ℕ) (g : Grantee) → text ≡ front ++ 58 ∷ back → lacks 58 front ≡ true → is_grantee g ≡ true → text ≡ grantee_text g
    → front ≡ codes "role"
grantee_cut text front back (User name) cut first h e = absurd (lacks_seam 58 name front back (name_lacks_colon name h) (sym e ∙ cut))
grantee_cut text front back (Role name) cut first h e = (cut_same 58 front back (codes "role") name first refl (sym cut ∙ e)).0

pub grant_cut : (text front back : List ℕ) (g : Grant) → text ≡ front ++ 61 ∷ back → lacks 61 front ≡ true → is_grant g ≡ true → text ≡ grant_text g
    → (front ≡ grantee_text g.to) × (back ≡ g.channel)
grant_cut text front back g cut first h e =
    cut_same 61 front back (grantee_text g.to) g.channel first (grantee_lacks_equals g.to (grant_parts g h).to) (sym cut ∙ e)

pub role_grant_cut : (text front back : List ℕ) (g : RoleGrant) → text ≡ front ++ 61 ∷ back → lacks 61 front ≡ true → is_role_grant g ≡ true → text ≡ role_grant_text g
    → (front ≡ g.user) × (back ≡ g.role)
role_grant_cut text front back g cut first h e =
    cut_same 61 front back g.user g.role first (name_lacks_equals g.user (role_grant_parts g h).user) (sym cut ∙ e)

-- a text that is that of no grantee, and the names in it
pub no_user : (text : List ℕ) → ((g : Grantee) → is_grantee g ≡ true → text ≢ grantee_text g) → ¬ (is_name text ≡ true)
no_user text none is = none (User text) is refl

pub no_role : (text front back : List ℕ) → text ≡ front ++ 58 ∷ back → front ≡ codes "role" → ((g : Grantee) → is_grantee g ≡ true → text ≢ grantee_text g)
    → ¬ (is_name back ≡ true)
no_role text front back cut role none is = none (Role back) is (cut ∙ ap (λ f. f ++ 58 ∷ back) role)

-- a text that is that of no grant, and its parts
pub no_grantee : (text front back : List ℕ) → text ≡ front ++ 61 ∷ back → is_channel_name back ≡ true
    → ((g : Grant) → is_grant g ≡ true → text ≢ grant_text g) → (g : Grantee) → is_grantee g ≡ true → front ≢ grantee_text g
no_grantee text front back cut channel none g is e =
    none (record { to = g; channel = back }) (and_from (is_grantee g) (is_channel_name back) is channel) (cut ∙ ap (λ f. f ++ 61 ∷ back) e)

pub no_channel : (text front back : List ℕ) (to : Grantee) → text ≡ front ++ 61 ∷ back → front ≡ grantee_text to → is_grantee to ≡ true
    → ((g : Grant) → is_grant g ≡ true → text ≢ grant_text g) → ¬ (is_channel_name back ≡ true)
no_channel text front back to cut same is none channel = no_grantee text front back cut channel none to is same

-- a text that is that of no grant of a role, and its parts
pub no_role_grant_user : (text front back : List ℕ) → text ≡ front ++ 61 ∷ back → is_name back ≡ true
    → ((g : RoleGrant) → is_role_grant g ≡ true → text ≢ role_grant_text g) → ¬ (is_name front ≡ true)
no_role_grant_user text front back cut role none user =
    none (record { user = front; role = back }) (and_from (is_name front) (is_name back) user role) cut

-- so each kind can stand in a list
pub channels_apart : AreApart (λ n. n) (λ n. is_channel_name n)
channels_apart = record { lacks_comma = channel_lacks_comma; is_no_dash = channel_is_no_dash; has_one_text = λ a b h g e. e }

pub names_apart : AreApart (λ n. n) (λ n. is_name n)
names_apart = record { lacks_comma = name_lacks_comma; is_no_dash = name_is_no_dash; has_one_text = λ a b h g e. e }

pub revs_apart : AreApart (λ r. rev_text r) (λ r. is_rev r)
revs_apart = record { lacks_comma = rev_lacks_comma; is_no_dash = rev_is_no_dash; has_one_text = rev_has_one_text }

pub grants_apart : AreApart (λ g. grant_text g) (λ g. is_grant g)
grants_apart = record { lacks_comma = grant_lacks_comma; is_no_dash = grant_is_no_dash; has_one_text = grant_has_one_text }

pub role_grants_apart : AreApart (λ g. role_grant_text g) (λ g. is_role_grant g)
role_grants_apart = record { lacks_comma = role_grant_lacks_comma; is_no_dash = role_grant_is_no_dash; has_one_text = role_grant_has_one_text }
