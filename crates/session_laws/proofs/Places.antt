-- The places of a feed's rows.
use Rattle.std.proofs.Common.{◌≡◌, ◌≤◌, ℕ, suc, ◌+◌, Bool, true, false, List, [], ◌∷◌, ◌++◌, length, take, drop, reverse, Option, Some, None, refl, sym, ◌∙◌, ap, subst, if◌then◌else◌, arith, le_refl}
use Rattle.std.proofs.lemmas.List.{take-append-drop, take-take, reverse-append, length-append, length-take, length-reverse}
use Rattle.std.proofs.lemmas.Option.{none-some}
use Rattle.sg_names.specs.declared.key.Key.{Key}
use Rattle.sg_history.specs.declared.entries.Entry.{Entry}
use Rattle.sg_history.specs.declared.row.Row.{Row}
use Rattle.sg_history.specs.declared.entries.Write.{Write}
use Rattle.sg_history.specs.Current.{Sequenced, Current, sequenced_or, last_write, current_after, current}
use Rattle.sg_history.specs.History.{past, write_to}
use Rattle.sg_history.specs.View.{Shown, view, same_view}
use Rattle.sg_history.specs.Feed.{changed, row_with, row_at, row_of, writes}

abbrev key_or : Key → Option Row → Key
key_or other None = other
key_or other (Some row) = row.key

abbrev sequence_or : ℕ → Option Sequenced → ℕ
sequence_or other None = other
sequence_or other (Some l) = l.seq

last_by : (w : Option Write) (before : Option Sequenced) (older : List Entry) (l : Sequenced) → (before ≡ Some l → l.seq ≤ length older) → sequenced_or w (length older + 1) before ≡ Some l → l.seq ≤ suc (length older)
last_by None before older l within e = omega (arith, within e)
last_by (Some w) before older l within e =
    let is : length older + 1 ≡ l.seq = ap (sequence_or 0) e in
    omega (arith, is)

-- the last write stands at a place of the entries
last_place : (es : List Entry) (doc : List ℕ) (l : Sequenced) → last_write es doc ≡ Some l → l.seq ≤ length es
last_place [] doc l e = absurd (none-some l e)
last_place (x ∷ older) doc l e = last_by (write_to x doc) (last_write older doc) older l (last_place older doc l) e

abbrev seq_or : ℕ → Option Current → ℕ
seq_or other None = other
seq_or other (Some c) = c.seq

current_place : (es : List Entry) (doc : List ℕ) (last : Option Sequenced) (c : Current) → last_write es doc ≡ last → current_after es doc last ≡ Some c → c.seq ≤ length es
current_place es doc None c is e = absurd (none-some c e)
current_place es doc (Some l) c is e = subst (λ n. n ≤ length es) (ap (seq_or 0) e) (last_place es doc l is)

with_key : (by : ℕ) (wrote : Bool) (shown : Option Shown) (doc : List ℕ) (o : Option Current) (row : Row) → ((c : Current) → o ≡ Some c → c.seq ≤ by) → row_with by wrote shown doc o ≡ Some row
    → (row.key.by ≡ by) × (row.key.seq ≤ by)
with_key by wrote shown doc None row within e = absurd (none-some row e)
with_key by wrote shown doc (Some c) row within e =
    let key : record { by = by; seq = c.seq } ≡ row.key = ap (key_or row.key) e in
    (ap (λ (k : Key). k.by) (sym key), subst (λ (k : Key). k.seq ≤ by) key (within c refl))

-- the entry by which a document changed is the last of those up to its change
at_by : (es : List Entry) (user : List ℕ) (channels : Option (List (List ℕ))) (doc : List ℕ) (row : Row) → row_at es user channels doc ≡ Some row
    → (row.key.by ≡ length es) × (1 ≤ row.key.by) × (row.key.seq ≤ row.key.by)
at_by [] user channels doc row e = absurd (none-some row e)
at_by (x ∷ older) user channels doc row e =
    let within : (c : Current) → current (x ∷ older) doc ≡ Some c → c.seq ≤ length older + 1 =
    λ c is. omega (arith, current_place (x ∷ older) doc (last_write (x ∷ older) doc) c refl is) in
    let key : (row.key.by ≡ length older + 1) × (row.key.seq ≤ length older + 1) =
    with_key (length older + 1) (writes x doc) (view (x ∷ older) user channels doc) doc (current (x ∷ older) doc) row within e in
    (omega (arith, key.0), omega (arith, key.0), omega (arith, key.0, key.1))

changed_within : (es : List Entry) (user : List ℕ) (channels : Option (List (List ℕ))) (doc : List ℕ) → length (changed es user channels doc) ≤ length es
changed_within [] user channels doc = le_refl 0
changed_within (x ∷ older) user channels doc =
    elim (same_view (view (x ∷ older) user channels doc) (view older user channels doc)) as (λ b. length (if b then changed older user channels doc else x ∷ older) ≤ length (x ∷ older)) [
      | true ↦ omega (arith, changed_within older user channels doc)
      | false ↦ le_refl (length (x ∷ older))
    ]

-- the place of a row is one of the entries', and no sequence is past its place
pub row_place : (es : List Entry) (user : List ℕ) (channels : Option (List (List ℕ))) (doc : List ℕ) (row : Row) → row_of es user channels doc ≡ Some row
    → (1 ≤ row.key.by) × (row.key.by ≤ length es) × (row.key.seq ≤ row.key.by)
row_place es user channels doc row e =
    let by : (row.key.by ≡ length (changed es user channels doc)) × (1 ≤ row.key.by) × (row.key.seq ≤ row.key.by) = at_by (changed es user channels doc) user channels doc row e in
    (by.1, omega (arith, by.0, changed_within es user channels doc), by.2)

-- a row of a place up to the older entries is theirs
one_older : (b : Bool) (x : Entry) (older es : List Entry) (user : List ℕ) (channels : Option (List (List ℕ))) (doc : List ℕ) (row : Row)
    → length es ≤ length older → row_at (if b then changed older user channels doc else x ∷ older) user channels doc ≡ Some row → row.key.by ≤ length es
    → row_of older user channels doc ≡ Some row
one_older true x older es user channels doc row few e within = e
one_older false x older es user channels doc row few e within = absurd (omega (arith, (at_by (x ∷ older) user channels doc row e).0, few, within))

pub older_row : (newer es : List Entry) (user : List ℕ) (channels : Option (List (List ℕ))) (doc : List ℕ) (row : Row)
    → row_of (newer ++ es) user channels doc ≡ Some row → row.key.by ≤ length es → row_of es user channels doc ≡ Some row
older_row [] es user channels doc row e within = e
older_row (x ∷ newer) es user channels doc row e within =
    older_row newer es user channels doc row
    (one_older (same_view (view (x ∷ (newer ++ es)) user channels doc) (view (newer ++ es) user channels doc)) x (newer ++ es) es user channels doc row
    (omega (arith, length-append newer es)) e within)
    within

-- the entries up to a front are the oldest of all
pub past_of_all : (h : List Entry) (front : ℕ) → front ≤ length h → (newer : List Entry) × (past h (length h) ≡ newer ++ past h front)
past_of_all h front within =
    let all : List Entry = take (length h) h in
    let first : take front all ≡ take front h = take-take front (length h) h within in
    let split : all ≡ take front h ++ drop front all = sym (take-append-drop front all) ∙ ap (λ (es : List Entry). es ++ drop front all) first in
    (reverse (drop front all), ap (λ (es : List Entry). reverse es) split ∙ reverse-append (take front h) (drop front all))

pub past_length : (h : List Entry) (front : ℕ) → length (past h front) ≤ front
past_length h front = omega (arith, length-reverse (take front h), length-take front h)

pub past_exact : (h : List Entry) (front : ℕ) → front ≤ length h → length (past h front) ≡ front
past_exact h front within = omega (arith, length-reverse (take front h), length-take front h, within)
