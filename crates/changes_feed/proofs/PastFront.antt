-- a since key whose segment begins past the front
use Rattle.std.proofs.Common.{◌≡◌, inl, inr, ◌<◌, ◌≤◌, ℕ, refl, ◌∙◌, ap, arith, Bool, true, false, if◌then◌else◌, List, [], length}
use Rattle.std.specs.Prelude.{nat_le}
use Rattle.sg_names.specs.declared.key.Key.{Key}
use Rattle.sg_history.specs.declared.entries.Entry.{Entry}
use Rattle.sg_history.specs.Device.{plain}
use Rattle.sg_history.specs.History.{past}
use Rattle.channel_cache.proofs.Past.{past_count}
use Rattle.channel_cache.specs.Asked.{refills_of}
use Rattle.channel_cache.specs.Kept.{KeptLists, asked, refills_at}
use Rattle.feed_rows.specs.Laws.{IsBelow}
use Rattle.changes_feed.specs.Switches.{AreSwitches, first_of}
use Rattle.changes_feed.proofs.KeyOrder.{Under, under_from_below}
use Rattle.changes_feed.proofs.OneOrder.{one_switches}
use Rattle.changes_feed.proofs.Turning.{no_switches}

-- is not below the front
pub not_below : (since : Key) (entries : List Entry) (front : ℕ) → front ≤ length entries → front < first_of since → ¬ (IsBelow since (plain (length (past entries front))))
not_below since entries front high late below = by (under_from_below since (plain (length (past entries front))) below)
  where
    count : length (past entries front) ≡ front
    count = past_count entries front high

    by : Under since (plain (length (past entries front))) → ⊥
    by (inl low) = omega (arith, late, low, count)
    by (inr same) = omega (arith, late, same.0, same.1, count)

none_of_none : (lists : KeptLists) (to : ℕ) → refills_at lists [] to ≡ 0
none_of_none lists to = by (nat_le lists.place to)
  where
    by : (b : Bool) → (if b then refills_of lists.most [] (asked lists) else length {A = List ℕ} []) ≡ 0
    by true = refl
    by false = refl

-- and nothing is filled for it
pub no_refills : (lists : KeptLists) (channels : List (List ℕ)) (entries : List Entry) (user : List ℕ) (start front : ℕ) → front < start → AreSwitches channels entries user start front → refills_at lists channels front ≡ 0
no_refills lists channels entries user start front late is =
    ap (λ (l : List (List ℕ)). refills_at lists l front) (one_switches channels [] entries user start front is (no_switches entries user start front (inr late)))
    ∙ none_of_none lists front
