-- what is kept of revisions once a sequence was put in
use Rattle.std.proofs.Common.{◌≡◌, ℕ, refl, sym, ◌∙◌, ap, arith, Bool, true, false, ◌&&◌, if◌then◌else◌, true≢false, List, Some, nat_eq, String}
use Rattle.std.specs.BTreeMap.{BTreeMap, get_by, UpdatesBy, is_at}
use Rattle.std.specs.Map.{KeepsOthers, IsKeyTest, AreApart, lookup}
use Rattle.std.specs.Global.{Global}
use Rattle.std.specs.Ordering.{nat_cmp, ordering_then, is_eq, eq_by_cmp}
use Rattle.std.specs.Prelude.{string_bytes}
use Rattle.std.specs.Cmp.{tied_then, unsigned_ties}
use Rattle.std.specs.declared.cmp.Ordering.{Ordering}
use Rattle.std.specs.Cmp.Lexicographic.{slice_cmp, bytes_decides}
use Rattle.std.specs.Str.{bytes_eq}
use Rattle.std.proofs.lemmas.Map.Text.{is_eq-slice_cmp}
use Rattle.sg_names.specs.RevId.{same_rev}
use Rattle.sg_names.specs.declared.rev_id.RevId.{RevId}
use Rattle.log_index.specs.Representation.{seq_in}

-- a key: the first write of a document, a generation and a digest
abbrev Key : Type 0
Key = ℕ × ℕ × String Global

abbrev key_cmp : Key → Key → Ordering
key_cmp x y = ordering_then (ordering_then (nat_cmp x.0 y.0) (nat_cmp x.1 y.1)) (slice_cmp nat_cmp (string_bytes x.2) (string_bytes y.2))

-- the order of a revision to a key
abbrev to_key : ℕ → RevId → Key → Ordering
to_key first rev k = ordering_then (ordering_then (nat_cmp first k.0) (nat_cmp rev.generation k.1)) (slice_cmp nat_cmp rev.digest (string_bytes k.2))

-- whether it is at the key, by its parts
at_key : (first : ℕ) (rev : RevId) (k : Key) → is_eq (to_key first rev k) ≡ ((nat_eq first k.0 && nat_eq rev.generation k.1) && bytes_eq rev.digest (string_bytes k.2))
at_key first rev k =
    sym (tied_then (ordering_then (nat_cmp first k.0) (nat_cmp rev.generation k.1)) (slice_cmp nat_cmp rev.digest (string_bytes k.2)))
    ∙ ap (λ (x : Bool). x && is_eq (slice_cmp nat_cmp rev.digest (string_bytes k.2))) (sym (tied_then (nat_cmp first k.0) (nat_cmp rev.generation k.1)))
    ∙ ap (λ (x : Bool). (x && is_eq (nat_cmp rev.generation k.1)) && is_eq (slice_cmp nat_cmp rev.digest (string_bytes k.2))) (sym (unsigned_ties first k.0))
    ∙ ap (λ (x : Bool). (nat_eq first k.0 && x) && is_eq (slice_cmp nat_cmp rev.digest (string_bytes k.2))) (sym (unsigned_ties rev.generation k.1))
    ∙ ap (λ (x : Bool). (nat_eq first k.0 && nat_eq rev.generation k.1) && x) (is_eq-slice_cmp rev.digest (string_bytes k.2))

record IsAt (first : ℕ) (rev : RevId) (k : Key) : Type 0 where
  place : first ≡ k.0
  generation : rev.generation ≡ k.1
  digest : rev.digest ≡ string_bytes k.2

parts : (first : ℕ) (rev : RevId) (k : Key) → ((nat_eq first k.0 && nat_eq rev.generation k.1) && bytes_eq rev.digest (string_bytes k.2)) ≡ true → IsAt first rev k
parts first rev k h =
    let digests : bytes_eq rev.digest (string_bytes k.2) ≡ true = grind (arith) in
    record { place = grind (arith); generation = grind (arith); digest = (bytes_decides rev.digest (string_bytes k.2)).0 digests }

is_there : (first : ℕ) (rev : RevId) (k : Key) → is_eq (to_key first rev k) ≡ true → IsAt first rev k
is_there first rev k h = parts first rev k (sym (at_key first rev k) ∙ h)

-- a revision's order to keys is that of the key at which it is
key_test : (first : ℕ) (rev : RevId) → IsKeyTest (eq_by_cmp key_cmp) (is_at (to_key first rev))
key_test first rev x y h =
    let at : IsAt first rev x = is_there first rev x h in
    ap (λ (n : ℕ). is_eq (ordering_then (ordering_then (nat_cmp n y.0) (nat_cmp rev.generation y.1)) (slice_cmp nat_cmp rev.digest (string_bytes y.2)))) at.place
    ∙ ap (λ (n : ℕ). is_eq (ordering_then (ordering_then (nat_cmp x.0 y.0) (nat_cmp n y.1)) (slice_cmp nat_cmp rev.digest (string_bytes y.2)))) at.generation
    ∙ ap (λ (d : List ℕ). is_eq (ordering_then (ordering_then (nat_cmp x.0 y.0) (nat_cmp x.1 y.1)) (slice_cmp nat_cmp d (string_bytes y.2)))) at.digest

-- two revisions at one key are the same
both_at : (first other : ℕ) (rev r : RevId) (k : Key) → IsAt first rev k → IsAt other r k → (nat_eq first other && same_rev rev r) ≡ true
both_at first other rev r k a b =
    let firsts : first ≡ other = a.place ∙ sym b.place in
    let generations : rev.generation ≡ r.generation = a.generation ∙ sym b.generation in
    let digests : bytes_eq rev.digest r.digest ≡ true = (bytes_decides rev.digest r.digest).1 (a.digest ∙ sym b.digest) in
    grind (arith)

other_entries : {K X : Type 0} (eq : K → K → Bool) (test : K → Bool) (old new : List (K × X)) → KeepsOthers eq test old new → (other : K → Bool) → IsKeyTest eq other → AreApart test other → lookup other new ≡ lookup other old
unfolding KeepsOthers
other_entries eq test old new h = h

-- the sequences of revisions, with one put in
pub revision_added : (old new : BTreeMap Key ℕ) (first : ℕ) (rev : RevId) (digest : String Global) (seq : ℕ) → string_bytes digest ≡ rev.digest
    → UpdatesBy key_cmp (key_cmp (first, rev.generation, digest)) old new (Some seq)
    → (other : ℕ) (r : RevId) → seq_in new other r ≡ (if nat_eq first other && same_rev rev r then Some seq else seq_in old other r)
revision_added old new first rev digest seq is h other r = go (nat_eq first other && same_rev rev r) refl
  where
    same : (nat_eq first other && same_rev rev r) ≡ true → IsAt other r (first, rev.generation, digest)
    same e =
        let digests : bytes_eq rev.digest r.digest ≡ true = grind (arith) in
        let turned : bytes_eq r.digest (string_bytes digest) ≡ true = (bytes_decides r.digest (string_bytes digest)).1 (sym ((bytes_decides rev.digest r.digest).0 digests) ∙ sym is) in
        parts other r (first, rev.generation, digest) (grind (arith))

    there : (k : Key) → is_eq (key_cmp (first, rev.generation, digest) k) ≡ true → IsAt first rev k
    there k at =
        let at_parts : IsAt first (record { generation = rev.generation; digest = string_bytes digest }) k = is_there first (record { generation = rev.generation; digest = string_bytes digest }) k at in
        record { place = at_parts.place; generation = at_parts.generation; digest = sym is ∙ at_parts.digest }

    unless : (k : Key) (b : Bool) → is_eq (to_key other r k) ≡ b → (nat_eq first other && same_rev rev r) ≡ false → IsAt first rev k → b ≡ false
    unless k false at e own = refl
    unless k true at e own = absurd (true≢false (sym (both_at first other rev r k own (is_there other r k at)) ∙ e))

    apart : (nat_eq first other && same_rev rev r) ≡ false → AreApart (is_at (key_cmp (first, rev.generation, digest))) (is_at (to_key other r))
    apart e k at = unless k (is_eq (to_key other r k)) refl e (there k at)

    go : (b : Bool) → (nat_eq first other && same_rev rev r) ≡ b → seq_in new other r ≡ (if b then Some seq else seq_in old other r)
    go true e =
        let at : IsAt other r (first, rev.generation, digest) = same e in
        ap (λ (n : ℕ). get_by (λ k. ordering_then (ordering_then (nat_cmp n k.0) (nat_cmp r.generation k.1)) (slice_cmp nat_cmp r.digest (string_bytes k.2))) new) at.place
        ∙ ap (λ (n : ℕ). get_by (λ k. ordering_then (ordering_then (nat_cmp first k.0) (nat_cmp n k.1)) (slice_cmp nat_cmp r.digest (string_bytes k.2))) new) at.generation
        ∙ ap (λ (d : List ℕ). get_by (λ k. ordering_then (ordering_then (nat_cmp first k.0) (nat_cmp rev.generation k.1)) (slice_cmp nat_cmp d (string_bytes k.2))) new) at.digest
        ∙ h.1
    go false e = other_entries (eq_by_cmp key_cmp) (is_at (key_cmp (first, rev.generation, digest))) old.entries new.entries h.3 (is_at (to_key other r)) (key_test other r) (apart e)
