-- the last change of a user among those of all users
use Rattle.std.proofs.Common.{◌≡◌, ℕ, refl, sym, ◌∙◌, ap, Bool, true, false, if◌then◌else◌, List, [], ◌∷◌, map, Some, String}
use Rattle.std.specs.Prelude.{string_bytes}
use Rattle.std.specs.BTreeMap.{is_at}
use Rattle.std.specs.Global.{Global}
use Rattle.std.specs.Map.{lookup}
use Rattle.std.specs.Ordering.{is_eq, nat_cmp}
use Rattle.std.specs.Cmp.Lexicographic.{slice_cmp}
use Rattle.std.proofs.lemmas.Map.Text.{is_eq-slice_cmp}
use Rattle.grant_tracks.specs.Changed.{user_changed}
use Rattle.grant_tracks.specs.Holdings.{Holders}
use Rattle.grant_tracks.specs.Things.{Things}
use Rattle.grant_history.specs.AppliedLog.{LastChange, changed_at}

abbrev changes_in : Holders → List (String Global × Things) → List LastChange
changes_in roles es = map (λ (e : String Global × Things). record { user = string_bytes e.0; at = user_changed roles (Some e.1) }) es

pub changed_user : (roles : Holders) (user : List ℕ) (es : List (String Global × Things))
    → changed_at (map (λ (e : String Global × Things). record { user = string_bytes e.0; at = user_changed roles (Some e.1) }) es) user
    ≡ user_changed roles (lookup (is_at (λ k. slice_cmp nat_cmp user (string_bytes k))) es)
changed_user roles user [] = refl
changed_user roles user (e ∷ es) =
    ap (λ (b : Bool). if b then user_changed roles (Some e.1) else changed_at (changes_in roles es) user) (sym (is_eq-slice_cmp user (string_bytes e.0)))
    ∙ by (is_eq (slice_cmp nat_cmp user (string_bytes e.0))) (changed_user roles user es)
  where
    by : (b : Bool) → changed_at (changes_in roles es) user ≡ user_changed roles (lookup (is_at (λ k. slice_cmp nat_cmp user (string_bytes k))) es)
        → (if b then user_changed roles (Some e.1) else changed_at (changes_in roles es) user)
        ≡ user_changed roles (if b then Some e.1 else lookup (is_at (λ k. slice_cmp nat_cmp user (string_bytes k))) es)
    by true rest = refl
    by false rest = rest
