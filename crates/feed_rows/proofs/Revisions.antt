-- revisions that are tested to be the same
use Rattle.std.proofs.Common.{◌≡◌, refl, true}
use Rattle.std.specs.Prelude.{nat_eq}
use Rattle.std.specs.Str.{bytes_eq}
use Rattle.std.proofs.lemmas.Bool.{and_from, and_parts, eq-eqb, eqb-true}
use Rattle.sg_names.specs.declared.rev_id.RevId.{RevId}
use Rattle.sg_names.specs.RevId.{same_rev}
use Rattle.feed_rows.proofs.Names.{same_texts, text_is_itself}

pub same_revs : (a b : RevId) → same_rev a b ≡ true → a ≡ b
same_revs a b h =
    let parts = and_parts (nat_eq a.generation b.generation) (bytes_eq a.digest b.digest) h in
    let p = eqb-true a.generation b.generation parts.0 in
    let q = same_texts a.digest b.digest parts.1 in
    λ i. record { generation = p i; digest = q i }

pub rev_is_itself : (r : RevId) → same_rev r r ≡ true
rev_is_itself r = and_from _ _ (eq-eqb r.generation r.generation refl) (text_is_itself r.digest)
