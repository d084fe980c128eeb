-- What a feed is given, look after look, and what it leaves for later.
use Rattle.std.proofs.Common.{◌≡◌, ◌⊎◌, inl, inr, ◌≤◌, ◌<◌, ℕ, Bool, true, false, ◌&&◌, ◌||◌, not, List, [], ◌∷◌, ◌++◌, length, Some, refl, sym, ◌∙◌, ap, subst, arith, le_refl, le_trans}
use Rattle.std.specs.Ordering.{is_lt}
use Rattle.std.specs.Prelude.{◌↔◌, nat_eq}
use Rattle.std.proofs.lemmas.Bool.{false≢true, cases_lt, eqb-true}
use Rattle.std.specs.declared.cmp.Ordering.{Ordering}
use Rattle.std.specs.declared.cmp.Ordering.TheVariants.{Less, Equal, Greater}
use Rattle.sg_names.specs.declared.key.Key.{Key}
use Rattle.sg_names.specs.Key.{key_cmp}
use Rattle.sg_history.specs.declared.entries.Entry.{Entry}
use Rattle.sg_history.specs.declared.row.Row.{Row}
use Rattle.sg_history.specs.declared.row.Options.{Options}
use Rattle.sg_history.specs.Device.{plain}
use Rattle.sg_history.specs.Feed.{feed, keeps, row_of, is_start, is_gone, is_deleted}
use Rattle.sg_history.specs.History.{past}
use Rattle.feed_rows.specs.Laws.{HasRow, IsAskedFor, IsBelow, Rising, IsAhead, all_of}
use Rattle.session_core.specs.Feeds.{feed_rows_at, feed_look, feed_looks}
use Rattle.session_core.specs.Fronts.{front_by, fronts_of, RiseBetween}
use Rattle.session_core.specs.Steps.{SessionStep}
use Rattle.session_core.specs.declared.event.Event.{Event}
use Rattle.session_core.specs.declared.event.Event.TheVariants as event
use Rattle.session_laws.specs.Rising.{AreFronts, IsWithin}
use Rattle.session_laws.proofs.Orders.{lesser_below, has_first, has_second, has_either, rising_below, rising_on}
use Rattle.session_laws.proofs.Places.{row_place, older_row, past_of_all, past_length, past_exact}

-- what the laws of feeds say
abbrev pub Members : Type 0
Members = (es : List Entry) (user : List ℕ) (since : Key) (options : Options) (row : Row) → HasRow (feed es user since options) row ↔ IsAskedFor es user since options row

abbrev pub Ordered : Type 0
Ordered = (es : List Entry) (user : List ℕ) (since : Key) (options : Options) → Rising (feed es user since options)

abbrev pub Plainly : Type 0
Plainly = (number : ℕ) (key : Key) → IsBelow (plain number) key ↔ ((number < key.by) ⊎ ((number ≡ key.by) × (number < key.seq)))

-- ---- what is kept after a since key

both : (a b : Bool) → (a && b) ≡ true → (a ≡ true) × (b ≡ true)
both true b e = (refl, e)
both false b e = absurd (false≢true e)

both_from : (a b : Bool) → a ≡ true → b ≡ true → (a && b) ≡ true
both_from true b e f = f
both_from false b e f = absurd (false≢true e)

less_of : (o : Ordering) → is_lt o ≡ true → o ≡ Less
less_of Less e = refl
less_of Equal e = absurd (false≢true e)
less_of Greater e = absurd (false≢true e)

abbrev from_start : Options → Key → Row → Bool
from_start options since row = not (is_start since) || (not (is_gone row.bits) && not (options.active_only && is_deleted row.bits))

abbrev asked_for : Options → Row → Bool
asked_for options row = options.revocations || not (nat_eq row.bits 2)

-- the three parts
kept_parts : (options : Options) (since : Key) (row : Row) → keeps options since row ≡ true → IsBelow since row.key × (from_start options since row ≡ true) × (asked_for options row ≡ true)
kept_parts options since row e =
    let outer : ((is_lt (key_cmp since row.key) && from_start options since row) ≡ true) × (asked_for options row ≡ true) = both (is_lt (key_cmp since row.key) && from_start options since row) (asked_for options row) e in
    let inner : (is_lt (key_cmp since row.key) ≡ true) × (from_start options since row ≡ true) = both (is_lt (key_cmp since row.key)) (from_start options since row) outer.0 in
    (less_of (key_cmp since row.key) inner.0, inner.1, outer.1)

kept_from : (options : Options) (since : Key) (row : Row) → IsBelow since row.key → from_start options since row ≡ true → asked_for options row ≡ true → keeps options since row ≡ true
kept_from options since row below start asked =
    both_from (is_lt (key_cmp since row.key) && from_start options since row) (asked_for options row)
    (both_from (is_lt (key_cmp since row.key)) (from_start options since row) (ap is_lt below) start) asked

-- a key of a place is not the start
not_start_by : (k : Key) (b : Bool) → nat_eq k.by 0 ≡ b → 1 ≤ k.by → is_start k ≡ false
not_start_by k true e some = absurd (omega (arith, eqb-true k.by 0 e, some))
not_start_by k false e some = rw e refl

started : (options : Options) (since : Key) (row : Row) → is_start since ≡ false → from_start options since row ≡ true
started options since row e = rw e refl

-- what is known of a row of a feed at a front
record Given (front : ℕ) (since : Key) (options : Options) (row : Row) : Type 0 where
  pub some : 1 ≤ row.key.by
  pub within : row.key.by ≤ front
  pub written : row.key.seq ≤ row.key.by
  pub below : IsBelow since row.key

given : Members → (h : List Entry) (front : ℕ) (user : List ℕ) (since : Key) (options : Options) (row : Row) → HasRow (feed (past h front) user since options) row → Given front since options row
given members h front user since options row has =
    let asked : IsAskedFor (past h front) user since options row = (members (past h front) user since options row).0 has in
    let place = row_place (past h front) user options.filter asked.0 row asked.1 in
    record {
      some = place.0;
      within = le_trans place.1 (past_length h front);
      written = place.2;
      below = (kept_parts options since row asked.2).0;
    }

-- ---- look after look

widen : (low : ℕ) (fronts : List ℕ) (high most : ℕ) → high ≤ most → AreFronts low fronts high → AreFronts low fronts most
widen low [] high most less are = le_trans are less
widen low (front ∷ earlier) high most less (within, are) = (le_trans within less, are)

last_place : Members → (h : List Entry) (user : List ℕ) (since : Key) (options : Options) (front before : ℕ) (earlier : List ℕ) (high : ℕ) (row : Row) → front ≤ high
    → HasRow (feed_rows_at h user since options (before ∷ earlier)) row ⊎ HasRow (feed (past h front) user (plain before) options) row
    → (HasRow (feed_rows_at h user since options (before ∷ earlier)) row → (1 ≤ row.key.by) × (row.key.by ≤ front))
    → (1 ≤ row.key.by) × (row.key.by ≤ high)
last_place members h user since options front before earlier high row within (inl first) is = let place = is first in (place.0, le_trans place.1 within)
last_place members h user since options front before earlier high row within (inr second) is =
    let at : Given front (plain before) options row = given members h front user (plain before) options row second in
    (at.some, le_trans at.within within)

-- the rows that a feed was given are of places up to its last front
rows_place : Members → (h : List Entry) (user : List ℕ) (since : Key) (options : Options) (fronts : List ℕ) (high : ℕ) (row : Row) → AreFronts 0 fronts high → HasRow (feed_rows_at h user since options fronts) row
    → (1 ≤ row.key.by) × (row.key.by ≤ high)
rows_place members h user since options [] high row are has = absurd has
rows_place members h user since options (front ∷ []) high row (within, are) has =
    let is : Given front since options row = given members h front user since options row has in
    (is.some, le_trans is.within within)
rows_place members h user since options (front ∷ before ∷ earlier) high row (within, are) has =
    last_place members h user since options front before earlier high row within (has_either (feed_rows_at h user since options (before ∷ earlier)) (feed (past h front) user (plain before) options) row has)
    (λ first. rows_place members h user since options (before ∷ earlier) front row are first)

by_numbers : (before : ℕ) (row : Row) → row.key.seq ≤ row.key.by → (before < row.key.by) ⊎ ((before ≡ row.key.by) × (before < row.key.seq)) → before < row.key.by
by_numbers before row written (inl less) = less
by_numbers before row written (inr (same, less)) = absurd (omega (arith, same, less, written))

-- a row of a later look is past the front before
past_before : Members → Plainly → (h : List Entry) (front before : ℕ) (user : List ℕ) (options : Options) (row : Row) → HasRow (feed (past h front) user (plain before) options) row → before < row.key.by
past_before members plainly h front before user options row has =
    let is : Given front (plain before) options row = given members h front user (plain before) options row has in
    by_numbers before row is.written ((plainly before row.key).0 is.below)

pub rows_rise : Members → Ordered → Plainly → (h : List Entry) (user : List ℕ) (since : Key) (options : Options) (fronts : List ℕ) (high : ℕ) → AreFronts 0 fronts high → Rising (feed_rows_at h user since options fronts)
rows_rise members ordered plainly h user since options [] high are = tt
rows_rise members ordered plainly h user since options (front ∷ []) high are = ordered (past h front) user since options
rows_rise members ordered plainly h user since options (front ∷ before ∷ earlier) high (within, (low, are)) =
    rising_on (feed_rows_at h user since options (before ∷ earlier)) (feed (past h front) user (plain before) options)
    (rows_rise members ordered plainly h user since options (before ∷ earlier) before (le_refl before, are))
    (ordered (past h front) user (plain before) options)
    (λ row other first second. lesser_below row.key other.key
    (omega (arith, (rows_place members h user since options (before ∷ earlier) before row (le_refl before, are) first).1, past_before members plainly h front before user options other second)))

-- ---- fronts of a session

rise_le : (low : ℕ) (fronts : List ℕ) (high : ℕ) → RiseBetween low fronts high → low ≤ high
rise_le low [] high rise = rise
rise_le low (front ∷ fronts) high (first, rise) = le_trans first (rise_le front fronts high rise)

rise_split : (low : ℕ) (first second : List ℕ) (high : ℕ) → RiseBetween low (first ++ second) high → (middle : ℕ) × RiseBetween low first middle × RiseBetween middle second high
rise_split low [] second high rise = (low, le_refl low, rise)
rise_split low (front ∷ first) second high (is, rise) =
    let rest : (middle : ℕ) × RiseBetween front first middle × RiseBetween middle second high = rise_split front first second high rise in
    (rest.0, (is, rest.1), rest.2)

look_fronts : (low middle high : ℕ) (x : Event) (fronts : List ℕ) → AreFronts low fronts middle → RiseBetween middle (front_by x) high → AreFronts low (feed_look x ++ fronts) high
look_fronts low middle high (event.Fed answer) fronts are (first, last) = (last, widen low fronts middle _ first are)
look_fronts low middle high (event.Whole message) fronts are rise = widen low fronts middle high rise are
look_fronts low middle high (event.Idle front) fronts are rise = widen low fronts middle high (rise_le middle (front ∷ []) high rise) are
look_fronts low middle high (event.Bodies b) fronts are rise = widen low fronts middle high (rise_le middle (b.front ∷ []) high rise) are
look_fronts low middle high (event.Asked answer) fronts are rise = widen low fronts middle high (rise_le middle (answer.front ∷ []) high rise) are
look_fronts low middle high (event.Judged outcome) fronts are rise = widen low fronts middle high (rise_le middle (front_by (event.Judged outcome)) high rise) are
look_fronts low middle high (event.Got kept) fronts are rise = widen low fronts middle high rise are
look_fronts low middle high (event.Set answer) fronts are rise = widen low fronts middle high rise are

pub looks_rise : (steps : List SessionStep) (low high : ℕ) → RiseBetween low (fronts_of steps) high → AreFronts low (feed_looks steps) high
looks_rise [] low high rise = rise
looks_rise (s ∷ earlier) low high rise =
    let parts : (middle : ℕ) × RiseBetween low (fronts_of earlier) middle × RiseBetween middle (front_by s.event) high = rise_split low (fronts_of earlier) (front_by s.event) high rise in
    look_fronts low parts.0 high s.event (feed_looks earlier) (looks_rise earlier low parts.0 parts.1) parts.2

-- ---- to resume

abbrev Past : List ℕ → ℕ → Type 0
Past [] by = Unit {0}
Past (front ∷ earlier) by = front < by

-- a row of the feed at the end whose place is not past a front is in the feed there
row_there : Members → (h : List Entry) (front : ℕ) (user : List ℕ) (since from : Key) (options : Options) (row : Row) → front ≤ length h → HasRow (feed (all_of h) user since options) row → row.key.by ≤ front
    → keeps options from row ≡ true → HasRow (feed (past h front) user from options) row
row_there members h front user since from options row within has low kept =
    let asked : IsAskedFor (all_of h) user since options row = (members (all_of h) user since options row).0 has in
    let all : (newer : List Entry) × (past h (length h) ≡ newer ++ past h front) = past_of_all h front within in
    (members (past h front) user from options row).1
    (asked.0, older_row all.0 (past h front) user options.filter asked.0 row (subst (λ es. row_of es user options.filter asked.0 ≡ Some row) all.1 asked.1) (omega (arith, past_exact h front within, low)), kept)

kept_at_end : Members → (h : List Entry) (user : List ℕ) (since : Key) (options : Options) (row : Row) → HasRow (feed (all_of h) user since options) row → keeps options since row ≡ true
kept_at_end members h user since options row has = ((members (all_of h) user since options row).0 has).2

-- the since key is not past the last front
first_within : (by : ℕ) (front : ℕ) (earlier : List ℕ) (high : ℕ) → IsWithin by (front ∷ earlier) → AreFronts 0 (front ∷ earlier) high → by ≤ front
first_within by front [] high within are = within
first_within by front (before ∷ earlier) high within (last, are) = le_trans (first_within by before earlier front within are) are.0

start_is : (since : Key) → since.by ≤ 0 → since.seq ≤ since.by → is_start since ≡ true
start_is since zero_by small =
    let by : since.by ≡ 0 = omega (arith, zero_by) in
    let seq : since.seq ≡ 0 = omega (arith, zero_by, small) in
    rw (by, seq) refl

same_start : (options : Options) (since from : Key) (row : Row) → is_start since ≡ is_start from → from_start options since row ≡ true → from_start options from row ≡ true
same_start options since from row same e = rw (sym same) e

-- what was kept from the feed's own since key is kept from a later front
from_later : (options : Options) (since : Key) (before : ℕ) (row : Row) → since.seq ≤ since.by → since.by ≤ before → from_start options since row ≡ true → (before ≡ 0) ⊎ (1 ≤ before) → from_start options (plain before) row ≡ true
from_later options since before row small within e (inl none) =
    same_start options since (plain before) row (start_is since (omega (arith, none, within)) small ∙ sym (start_is (plain before) (omega (arith, none)) (le_refl before))) e
from_later options since before row small within e (inr some) = started options (plain before) row (not_start_by (plain before) (nat_eq before 0) refl some)

zero_or_more : (n : ℕ) → (n ≡ 0) ⊎ (1 ≤ n)
zero_or_more n = elim (cases_lt n 1) [ inl less ↦ inl (omega (arith, less)) | inr more ↦ inr more ]

kept_later : Plainly → (options : Options) (since : Key) (before : ℕ) (row : Row) → since.seq ≤ since.by → since.by ≤ before → keeps options since row ≡ true → before < row.key.by → keeps options (plain before) row ≡ true
kept_later plainly options since before row small within e after =
    let parts = kept_parts options since row e in
    kept_from options (plain before) row ((plainly before row.key).1 (inl after)) (from_later options since before row small within parts.1 (zero_or_more before)) parts.2

covers_on : Members → Plainly → (h : List Entry) (user : List ℕ) (since : Key) (options : Options) (front before : ℕ) (earlier : List ℕ) (row : Row) → since.seq ≤ since.by → since.by ≤ before → front ≤ length h
    → HasRow (feed (all_of h) user since options) row → HasRow (feed_rows_at h user since options (before ∷ earlier)) row ⊎ Past (before ∷ earlier) row.key.by
    → HasRow (feed_rows_at h user since options (front ∷ before ∷ earlier)) row ⊎ Past (front ∷ before ∷ earlier) row.key.by
covers_on members plainly h user since options front before earlier row small within last has (inl there) =
    inl (has_first (feed_rows_at h user since options (before ∷ earlier)) (feed (past h front) user (plain before) options) row there)
covers_on members plainly h user since options front before earlier row small within last has (inr after) =
    elim (cases_lt front row.key.by) [
      | inl past ↦ inr past
      | inr up ↦ inl (has_second (feed_rows_at h user since options (before ∷ earlier)) (feed (past h front) user (plain before) options) row
          (row_there members h front user since (plain before) options row last has up (kept_later plainly options since before row small within (kept_at_end members h user since options row has) after)))
    ]

-- each row at the end was given, or is past the last front
covers : Members → Plainly → (h : List Entry) (user : List ℕ) (since : Key) (options : Options) (fronts : List ℕ) (high : ℕ) (row : Row) → since.seq ≤ since.by → IsWithin since.by fronts → AreFronts 0 fronts high → high ≤ length h
    → HasRow (feed (all_of h) user since options) row → HasRow (feed_rows_at h user since options fronts) row ⊎ Past fronts row.key.by
covers members plainly h user since options [] high row small within are low has = inr tt
covers members plainly h user since options (front ∷ []) high row small within (last, are) low has =
    elim (cases_lt front row.key.by) [
      | inl after ↦ inr after
      | inr up ↦ inl (row_there members h front user since since options row (le_trans last low) has up (kept_at_end members h user since options row has))
    ]
covers members plainly h user since options (front ∷ before ∷ earlier) high row small within (last, are) low has =
    covers_on members plainly h user since options front before earlier row small (first_within since.by before earlier front within are) (le_trans last low) has
    (covers members plainly h user since options (before ∷ earlier) front row small within are (le_trans last low) has)

-- a row that is ahead of a sent one
ahead : Members → (h : List Entry) (user : List ℕ) (since : Key) (options : Options) (sent row : Row) → 1 ≤ sent.key.by → IsBelow sent.key row.key → HasRow (feed (all_of h) user since options) row
    → IsAhead (feed (all_of h) user sent.key options) sent.key row
ahead members h user since options sent row some below has =
    let asked : IsAskedFor (all_of h) user since options row = (members (all_of h) user since options row).0 has in
    let parts = kept_parts options since row asked.2 in (
      below,
      (members (all_of h) user sent.key options row).1
          (asked.0, asked.1, kept_from options sent.key row below (started options sent.key row (not_start_by sent.key (nat_eq sent.key.by 0) refl some)) parts.2),
    )

resume_in : Members → Ordered → Plainly → (h : List Entry) (user : List ℕ) (since : Key) (options : Options) (fronts : List ℕ) (offered not_yet : List Row) (sent row : Row)
    → AreFronts 0 fronts (length h) → offered ++ not_yet ≡ feed_rows_at h user since options fronts → HasRow offered sent → HasRow (feed (all_of h) user since options) row
    → HasRow offered row ⊎ HasRow not_yet row
    → HasRow offered row ⊎ IsAhead (feed (all_of h) user sent.key options) sent.key row
resume_in members ordered plainly h user since options fronts offered not_yet sent row are sum has_sent has (inl there) = inl there
resume_in members ordered plainly h user since options fronts offered not_yet sent row are sum has_sent has (inr there) =
    let place = rows_place members h user since options fronts (length h) sent are (subst (λ rs. HasRow rs sent) sum (has_first offered not_yet sent has_sent)) in
    inr (ahead members h user since options sent row place.0
    (rising_below offered not_yet sent row (subst Rising (sym sum) (rows_rise members ordered plainly h user since options fronts (length h) are)) has_sent there) has)

resume_by : Members → Ordered → Plainly → (h : List Entry) (user : List ℕ) (since : Key) (options : Options) (fronts : List ℕ) (offered not_yet : List Row) (sent row : Row)
    → AreFronts 0 fronts (length h) → offered ++ not_yet ≡ feed_rows_at h user since options fronts → HasRow offered sent → HasRow (feed (all_of h) user since options) row
    → HasRow (feed_rows_at h user since options fronts) row ⊎ Past fronts row.key.by
    → HasRow offered row ⊎ IsAhead (feed (all_of h) user sent.key options) sent.key row
resume_by members ordered plainly h user since options fronts offered not_yet sent row are sum has_sent has (inl there) =
    resume_in members ordered plainly h user since options fronts offered not_yet sent row are sum has_sent has
    (has_either offered not_yet row (subst (λ rs. HasRow rs row) (sym sum) there))
resume_by members ordered plainly h user since options [] offered not_yet sent row are sum has_sent has (inr after) =
    absurd (subst (λ rs. HasRow rs sent) sum (has_first offered not_yet sent has_sent))
resume_by members ordered plainly h user since options (front ∷ earlier) offered not_yet sent row are sum has_sent has (inr after) =
    let place = rows_place members h user since options (front ∷ earlier) front sent (le_refl front, are.1) (subst (λ rs. HasRow rs sent) sum (has_first offered not_yet sent has_sent)) in
    inr (ahead members h user since options sent row place.0 (lesser_below sent.key row.key (omega (arith, place.1, after))) has)

pub resumes : Members → Ordered → Plainly → (h : List Entry) (user : List ℕ) (since : Key) (options : Options) (fronts : List ℕ) (offered not_yet : List Row) (sent row : Row)
    → since.seq ≤ since.by → IsWithin since.by fronts → AreFronts 0 fronts (length h) → offered ++ not_yet ≡ feed_rows_at h user since options fronts → HasRow offered sent → HasRow (feed (all_of h) user since options) row
    → HasRow offered row ⊎ IsAhead (feed (all_of h) user sent.key options) sent.key row
resumes members ordered plainly h user since options fronts offered not_yet sent row small within are sum has_sent has =
    resume_by members ordered plainly h user since options fronts offered not_yet sent row are sum has_sent has
    (covers members plainly h user since options fronts (length h) row small within are (le_refl (length h)) has)
