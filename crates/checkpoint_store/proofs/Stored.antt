-- a map of checkpoints, seen as a side map
use Rattle.std.proofs.Common.{◌≡◌, ℕ, ◌+◌, Bool, true, false, cond, List, [], ◌∷◌, length, Option, Some, None, refl, sym, ap, subst, ◌∙◌, arith}
use Rattle.std.specs.Prelude.{String, string_bytes, is_some, if◌then◌else◌}
use Rattle.std.specs.BTreeMap.{BTreeMap, get_by_text}
use Rattle.std.specs.Global.{Global}
use Rattle.std.specs.Option.{option_map}
use Rattle.std.specs.Str.{bytes_eq}
use Rattle.std.specs.String.{string_cmp}
use Rattle.std.specs.Ordering.{nat_cmp, is_eq}
use Rattle.std.specs.declared.cmp.Ordering.TheVariants.{Less}
use Rattle.std.specs.Cmp.Lexicographic.{slice_cmp, nat_list_eq_equiv}
use Rattle.std.specs.List.{AllByRecursion}
use Rattle.std.specs.List.Sorted.{IsStrictlySortedBy}
use Rattle.std.specs.Map.{keys_of, lookup}
use Rattle.std.proofs.lemmas.List.{length-map}
use Rattle.std.proofs.lemmas.Map.Text.{is_eq-slice_cmp}
use Rattle.std.proofs.lemmas.Option.{none-some}
use Rattle.sg_history.specs.Board.{SideValue, side_at}
use Rattle.checkpoint_store.specs.declared.kept.Checkpoint.{Checkpoint}
use Rattle.checkpoint_store.specs.SideMaps.{texts, IsRising, IsPut, side_number}
use Rattle.checkpoint_store.specs.Checkpoints.{AreCheckpoints}
use Rattle.checkpoint_store.specs.Stored.{entry_of, side_of, value_of}

abbrev pub Entries : Type 0
Entries = List (String Global × Checkpoint)

abbrev pub found_in : Entries → List ℕ → Option Checkpoint
found_in es text = lookup (λ (k : String Global). is_eq (slice_cmp nat_cmp text (string_bytes k))) es

-- both ways to compare a text with a key
same_test : (key text : List ℕ) → bytes_eq key text ≡ is_eq (slice_cmp nat_cmp text key)
same_test key text = nat_list_eq_equiv.symm key text ∙ sym (is_eq-slice_cmp text key)

-- what a map has under a text is what its side map has
pub at_kept : (es : Entries) (text : List ℕ) → side_at (side_of es) text ≡ option_map value_of (found_in es text)
at_kept [] text = refl
at_kept (e ∷ es) text =
    ap (λ (b : Bool). if b then Some (value_of e.1) else side_at (side_of es) text) (same_test (string_bytes e.0) text)
    ∙ go (is_eq (slice_cmp nat_cmp text (string_bytes e.0))) (at_kept es text)
  where
    go : (b : Bool) → side_at (side_of es) text ≡ option_map value_of (found_in es text)
        → (if b then Some (value_of e.1) else side_at (side_of es) text) ≡ option_map value_of (cond b (Some e.1) (found_in es text))
    go true more = refl
    go false more = more

-- the number of what is found
pub number_kept : (es : Entries) (text : List ℕ) → side_number (side_of es) text ≡ option_map (λ (c : Checkpoint). c.rev) (found_in es text)
number_kept es text = ap (option_map (λ (v : SideValue). v.number)) (at_kept es text) ∙ go (found_in es text)
  where
    go : (found : Option Checkpoint) → option_map (λ (v : SideValue). v.number) (option_map value_of found) ≡ option_map (λ (c : Checkpoint). c.rev) found
    go None = refl
    go (Some c) = refl

pub kept_length : (es : Entries) → length (side_of es) ≡ length es
kept_length es = length-map es entry_of

-- the keys of a map rise
above : (k : String Global) (es : Entries) → AllByRecursion (λ y. string_cmp k y ≡ Less) (keys_of es)
    → AllByRecursion (λ y. slice_cmp nat_cmp (string_bytes k) y ≡ Less) (texts (side_of es))
above k [] all = tt
above k (e ∷ es) all = (all.0, above k es all.1)

pub kept_rising : (es : Entries) → IsStrictlySortedBy string_cmp (keys_of es) → IsRising (side_of es)
unfolding IsStrictlySortedBy
kept_rising [] s = tt
kept_rising (e ∷ es) s = (above e.0 es s.0, kept_rising es s.1)

-- what a map has after an insertion
pub kept_put : (old new : BTreeMap (String Global) Checkpoint) (text : List ℕ) (c : Checkpoint)
    → ((other : List ℕ) → get_by_text new other ≡ cond (bytes_eq text other) (Some c) (get_by_text old other))
    → IsPut (side_of old.entries) text (value_of c) (side_of new.entries)
kept_put old new text c updated other =
    at_kept new.entries other ∙ ap (option_map value_of) (updated other) ∙ go (bytes_eq text other)
  where
    go : (b : Bool) → option_map value_of (cond b (Some c) (get_by_text old other)) ≡ (if b then Some (value_of c) else side_at (side_of old.entries) other)
    go true = refl
    go false = sym (at_kept old.entries other)

pub kept_count : (old new : Entries) (text : List ℕ) (was : Option Checkpoint) → was ≡ found_in old text
    → length new ≡ length old + (if is_some was then 0 else 1)
    → length (side_of new) ≡ length (side_of old) + (if is_some (side_at (side_of old) text) then 0 else 1)
kept_count old new text was found count =
    kept_length new ∙ count
    ∙ ap (λ (n : ℕ). n + (if is_some was then 0 else 1)) (sym (kept_length old))
    ∙ ap (λ (b : Bool). length (side_of old) + (if b then 0 else 1)) (ap is_some found ∙ go (found_in old text) ∙ sym (ap is_some (at_kept old text)))
  where
    go : (o : Option Checkpoint) → is_some o ≡ is_some (option_map value_of o)
    go None = refl
    go (Some c) = refl

none_rising : IsRising []
unfolding IsStrictlySortedBy
none_rising = tt

none_are : AreCheckpoints []
none_are = record { rising = none_rising; each = λ text value there. absurd (none-some value there); count = omega arith }

pub none_kept : (es : Entries) → es ≡ [] → AreCheckpoints (side_of es)
none_kept es is = subst (λ (l : Entries). AreCheckpoints (side_of l)) (sym is) none_are
