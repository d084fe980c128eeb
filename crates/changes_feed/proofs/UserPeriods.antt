-- the periods of users, kept and taken
use Rattle.std.proofs.Common.{◌≡◌, ◌⊎◌, inl, inr, ◌<◌, ◌≤◌, ◌-◌, ℕ, zero, suc, cond, refl, sym, ◌∙◌, ap, subst, arith, Bool, true, false, List, [], ◌∷◌, length, take, max, Option, Some, None}
use Rattle.std.specs.Prelude.{String, string_bytes}
use Rattle.std.specs.Global.{Global}
use Rattle.std.specs.List.{All}
use Rattle.std.specs.Map.{lookup, lookup_entry, remove_entry}
use Rattle.std.specs.Option.{option_map_or}
use Rattle.std.specs.Str.{bytes_eq}
use Rattle.std.specs.String.{string_eq}
use Rattle.std.proofs.lemmas.Bool.{cases_lt}
use Rattle.std.proofs.lemmas.List.Elements.{All-cons, All-take}
use Rattle.std.proofs.lemmas.Map.Views.{All-map-remove_entry}
use Rattle.std.proofs.lemmas.Option.{none-some, same_Some}
use Rattle.lru.specs.LruCache.{LruCache, put_entries}
use Rattle.sg_history.specs.declared.entries.Entry.{Entry}
use Rattle.sg_history.specs.History.{past}
use Rattle.sg_history.specs.Principals.{has_channel}
use Rattle.grant_history.specs.declared.periods.Period.{Period}
use Rattle.grant_history.specs.Periods.{ArePeriods, periods_have}
use Rattle.changes_feed.specs.Feeds.{ArePeriodsOf, UserPeriods, of_user, of_users}
use Rattle.changes_feed.specs.Switches.{has_at}
use Rattle.changes_feed.specs.declared.periods.TakenPeriods.{TakenPeriods}
use Rattle.changes_feed.proofs.OneOrder.{same_name}

abbrev pub Kept : Type 0
Kept = List (String Global × TakenPeriods)

-- what is known of the kept periods of a name
pub kept_of : (entries : List Entry) (user : List ℕ) (kept : Kept) (taken : TakenPeriods) → lookup (λ name. bytes_eq user (string_bytes name)) kept ≡ Some taken
    → All (ArePeriodsOf entries) (of_users kept) → ArePeriodsOf entries (of_user user taken)
kept_of entries user [] taken is all = absurd (none-some taken is)
kept_of entries user (e ∷ kept) taken is all = by (bytes_eq user (string_bytes e.0)) refl is (λ h. kept_of entries user kept taken h (λ k d within. all (suc k) d (omega (arith, within))))
  where
    by : (b : Bool) → bytes_eq user (string_bytes e.0) ≡ b → cond b (Some e.1) (lookup (λ name. bytes_eq user (string_bytes name)) kept) ≡ Some taken
        → (lookup (λ name. bytes_eq user (string_bytes name)) kept ≡ Some taken → ArePeriodsOf entries (of_user user taken)) → ArePeriodsOf entries (of_user user taken)
    by true same is rest =
        subst (λ (t : TakenPeriods). ArePeriodsOf entries (of_user user t)) (same_Some e.1 taken is)
        (subst (λ (u : List ℕ). ArePeriodsOf entries (of_user u e.1)) (sym (same_name user (string_bytes e.0) same)) (all 0 (of_user user taken) (omega arith)))
    by false other is rest = rest is

pub without : (entries : List Entry) (test : String Global → Bool) (kept : Kept) → All (ArePeriodsOf entries) (of_users kept) → All (ArePeriodsOf entries) (of_users (remove_entry test kept))
without entries test kept all = All-map-remove_entry test (λ e. of_user (string_bytes e.0) e.1) (ArePeriodsOf entries) kept all

taken_users : (n : ℕ) (kept : Kept) → of_users (take n kept) ≡ take n (of_users kept)
taken_users zero kept = refl
taken_users (suc n) [] = refl
taken_users (suc n) (e ∷ kept) = ap (λ (l : List UserPeriods). of_user (string_bytes e.0) e.1 ∷ l) (taken_users n kept)

-- what is kept once periods are put under a name
pub put_all : (entries : List Entry) (c : LruCache (String Global) TakenPeriods) (name : String Global) (taken : TakenPeriods) → ArePeriodsOf entries (of_user (string_bytes name) taken)
    → All (ArePeriodsOf entries) (of_users c.entries) → All (ArePeriodsOf entries) (of_users (put_entries string_eq c name taken))
put_all entries c name taken is all = by (lookup_entry (string_eq name) c.entries) (named c.entries)
  where
    IsNamed : Option (String Global × TakenPeriods) → Type 0
    IsNamed None = Unit {0}
    IsNamed (Some e) = string_bytes e.0 ≡ string_bytes name

    named : (kept : Kept) → IsNamed (lookup_entry (string_eq name) kept)
    named [] = tt
    named (e ∷ kept) = one (string_eq name e.0) refl (named kept)
      where
        one : (b : Bool) → string_eq name e.0 ≡ b → IsNamed (lookup_entry (string_eq name) kept) → IsNamed (cond b (Some e) (lookup_entry (string_eq name) kept))
        one true same rest = sym (same_name (string_bytes name) (string_bytes e.0) same)
        one false other rest = rest

    by : (o : Option (String Global × TakenPeriods)) → IsNamed o
        → All (ArePeriodsOf entries) (of_users (option_map_or (λ e. (e.0, taken) ∷ remove_entry (string_eq name) c.entries) o ((name, taken) ∷ take (c.cap - 1) c.entries)))
    by None h =
        All-cons (ArePeriodsOf entries) (of_user (string_bytes name) taken) (of_users (take (c.cap - 1) c.entries)) is
        (subst (λ (l : List UserPeriods). All (ArePeriodsOf entries) l) (sym (taken_users (c.cap - 1) c.entries)) (All-take (ArePeriodsOf entries) (c.cap - 1) (of_users c.entries) all))
    by (Some e) same =
        All-cons (ArePeriodsOf entries) (of_user (string_bytes e.0) taken) (of_users (remove_entry (string_eq name) c.entries))
        (subst (λ (u : List ℕ). ArePeriodsOf entries (of_user u taken)) (sym same) is)
        (without entries (string_eq name) c.entries all)

-- periods that were taken where the user has had the same channels since are those of a later place too
pub still : (test : List ℕ → ℕ → Bool) (periods : List Period) (place applied changed : ℕ) → changed ≤ place
    → ((k : ℕ) → changed ≤ k → k ≤ applied → (c : List ℕ) → test c k ≡ test c applied) → ArePeriods periods test place → ArePeriods periods test (max place applied)
still test periods place applied changed low same is = by (cases_lt place applied)
  where
    by : (place < applied) ⊎ (applied ≤ place) → ArePeriods periods test (max place applied)
    by (inr behind) =
        let here : place ≡ max place applied = omega (arith, behind) in
        subst (λ (n : ℕ). ArePeriods periods test n) here is
    by (inl before) =
        let there : applied ≡ max place applied = omega (arith, before) in
        subst (λ (n : ℕ). ArePeriods periods test n) there
        (record {
          says = λ c k le. up_to c k (cases_lt place k) le;
          lasts = λ c k le. is.lasts c k (omega (arith, le, before)) ∙ same place low (omega (arith, before)) c;
          have_places = is.have_places;
          apart = is.apart;
        })
      where
        up_to : (c : List ℕ) (k : ℕ) → (place < k) ⊎ (k ≤ place) → k ≤ applied → periods_have periods c k ≡ test c k
        up_to c k (inr le) high = is.says c k le
        up_to c k (inl lt) high = is.lasts c k (omega (arith, lt)) ∙ same place low (omega (arith, before)) c ∙ sym (same k (omega (arith, lt, low)) high c)

-- and those of each log that extends theirs
pub longer : (earlier later : List Entry) (kept : UserPeriods) → ((front : ℕ) → front ≤ length earlier → past later front ≡ past earlier front) → length earlier ≤ length later
    → ArePeriodsOf earlier kept → ArePeriodsOf later kept
longer earlier later kept same more is = record {
  within = omega (arith, is.within, more);
  in_order = is.in_order;
  periods = record {
    says = λ c k le. is.periods.says c k le ∙ sym (at c k (omega (arith, le, is.within)));
    lasts = λ c k le. is.periods.lasts c k le ∙ sym (at c kept.place is.within);
    have_places = is.periods.have_places;
    apart = is.periods.apart;
  };
}
  where
    at : (c : List ℕ) (k : ℕ) → k ≤ length earlier → has_at later kept.user c k ≡ has_at earlier kept.user c k
    at c k le = ap (λ (es : List Entry). has_channel es kept.user c) (same k le)
