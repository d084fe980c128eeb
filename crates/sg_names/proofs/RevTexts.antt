-- texts of revisions
use Rattle.std.proofs.Common.{◌≡◌, ◌≢◌, ℕ, ◌<◌, ◌≤◌, ◌^◌, true, ◌&&◌, List, ◌∷◌, ◌++◌, refl, sym, ap, ◌∙◌, arith}
use Rattle.std.specs.Prelude.{decimal, nat_le, nat_lt}
use Rattle.std.proofs.lemmas.Bool.{and_parts, and_from, leb-true, le-leb, lt-ltb}
use borrow.Author.Tests.{ltb-true}
use Rattle.sg_names.proofs.Cuts.{cut_same}
use Rattle.sg_names.proofs.Decimals.{lacks-decimal}
use Rattle.sg_names.specs.Grammar.{is_digest, lacks}
use Rattle.sg_names.specs.RevId.{is_rev, rev_text}
use Rattle.sg_names.specs.declared.rev_id.RevId.{RevId}

-- the parts of the test
pub record HasRevParts (r : RevId) : Type 0 where
  pub low : 1 ≤ r.generation
  pub high : r.generation < 2 ^ 32
  pub digest : is_digest r.digest ≡ true

pub rev_parts : (r : RevId) → is_rev r ≡ true → HasRevParts r
rev_parts r h =
    let outer = and_parts (nat_le 1 r.generation && nat_lt r.generation 4294967296) (is_digest r.digest) h in
    let range = and_parts (nat_le 1 r.generation) (nat_lt r.generation 4294967296) outer.0 in
    record { low = leb-true 1 r.generation range.0; high = ltb-true r.generation 4294967296 range.1; digest = outer.1 }

-- a generation and a digest behind it, which are a revision's, are no text outside the grammar
pub rev_spelled : (text front back : List ℕ) (generation : ℕ) → text ≡ front ++ 45 ∷ back → front ≡ decimal generation → 1 ≤ generation → generation < 2 ^ 32
    → ((r : RevId) → is_rev r ≡ true → text ≢ rev_text r) → ¬ (is_digest back ≡ true)
rev_spelled text front back generation cut spelled low high none digest =
    none (record { generation = generation; digest = back })
    (and_from _ _ (and_from _ _ (le-leb 1 generation low) (lt-ltb generation 4294967296 (omega (arith, high)))) digest)
    (cut ∙ ap (λ f. f ++ 45 ∷ back) spelled)

-- a revision's text is cut behind the generation
pub rev_cut : (text front back : List ℕ) (r : RevId) → text ≡ front ++ 45 ∷ back → lacks 45 front ≡ true → is_rev r ≡ true
    → text ≡ rev_text r → (front ≡ decimal r.generation) × (back ≡ r.digest)
rev_cut text front back r cut first h e =
    cut_same 45 front back (decimal r.generation) r.digest first
    (lacks-decimal 45 r.generation refl (omega (arith, (rev_parts r h).high))) (sym cut ∙ e)
