-- The periods of a user: for each channel, its spells.
use Rattle.std.specs.Prelude.{◌≡◌, ◌≤◌, ℕ, Bool, true, false, ◌&&◌, ◌||◌, List, [], ◌∷◌, ◌++◌, map, Option, Some, None}
use Rattle.std.specs.List.{list_any}
use Rattle.std.specs.Str.{bytes_eq}
use Rattle.std.specs.Ordering.{nat_cmp, ordering_then}
use Rattle.std.specs.Cmp.Lexicographic.{slice_cmp}
use Rattle.std.specs.declared.cmp.Ordering.{Ordering}
use Rattle.sg_names.specs.ItemList.{rises}
use Rattle.std.specs.Borrow.{Bor}
use Rattle.std.specs.BTreeMap.{get_by_text}
use Rattle.sg_history.specs.History.{among}
use Rattle.sg_history.specs.Principals.{everyone}
use Rattle.grant_tracks.specs.declared.things.What.{What}
use Rattle.grant_tracks.specs.declared.things.What.TheVariants as what
use Rattle.grant_tracks.specs.declared.held.Held.{Held}
use Rattle.grant_history.specs.declared.periods.Period.{Period}
use Rattle.grant_tracks.specs.Holdings.{Holders}
use Rattle.grant_tracks.specs.Reads.{is_channel}
use Rattle.grant_tracks.specs.Spells.{ends_after, spells_have, EndsBefore, AreApart}
use Rattle.grant_tracks.specs.declared.spells.Spell.{Spell}
use Rattle.std.specs.Prelude.{nat_le}
use Rattle.grant_tracks.specs.Things.{Things}

-- whether a period has a place
abbrev pub period_has : ℕ → Period → Bool
period_has k p = nat_le p.from k && ends_after p.to k

-- whether one of the periods of a channel has a place
abbrev pub periods_have : List Period → List ℕ → ℕ → Bool
periods_have periods c k = list_any (λ p. bytes_eq p.channel c && period_has k p) periods

-- a period ends before each later one of its channel begins
abbrev pub EndsBeforeLater : Period → List Period → Type 0
EndsBeforeLater p [] = Unit {0}
EndsBeforeLater p (q ∷ qs) = (bytes_eq p.channel q.channel ≡ true → EndsBefore p.to q.from) × EndsBeforeLater p qs

-- periods of one channel neither touch nor overlap, and stand in their order
abbrev pub ArePeriodsApart : List Period → Type 0
ArePeriodsApart [] = Unit {0}
ArePeriodsApart (p ∷ ps) = EndsBeforeLater p ps × ArePeriodsApart ps

-- each period has a place: it ends after it begins, or not at all
abbrev pub HavePlaces : List Period → Type 0
HavePlaces [] = Unit {0}
HavePlaces (p ∷ ps) = (ends_after p.to p.from ≡ true) × HavePlaces ps

-- whether one of these is or was the channel
abbrev pub ever_among : List Held → List ℕ → Bool
ever_among all x = list_any (λ h. is_channel h.what x) all

-- whether a list of what is held ever had the channel
abbrev pub ever_by : Option Things → List ℕ → Bool
ever_by None x = false
ever_by (Some list) x = ever_among list.items x

-- whether something is a role that ever had the channel
abbrev pub ever_gives : Holders → What → List ℕ → Bool
ever_gives roles what.Exists x = false
ever_gives roles (what.Channel c) x = false
ever_gives roles (what.Role r) x = ever_by (get_by_text roles r) x

-- whether one of these is or was a role that ever had the channel
abbrev pub ever_by_roles : Holders → List Held → List ℕ → Bool
ever_by_roles roles all x = list_any (λ h. ever_gives roles h.what x) all

-- the names of channels
abbrev pub names_of : List (Bor (List ℕ)) → List (List ℕ)
names_of channels = map (λ c. c.now) channels

-- whether a user that has or had these may ever have had the channel
abbrev pub may_have : Holders → List Held → List ℕ → Bool
may_have roles all x = ever_by_roles roles all x || (ever_among all x || (bytes_eq everyone x || false))

-- a spell of a channel as a period
abbrev pub period_of : List ℕ → Spell → Period
period_of c s = record { channel = c; from = s.from; to = s.to }

-- spells of a channel were put behind periods: those in which a test holds
pub record Adds (old new : List Period) (c : List ℕ) (test : ℕ → Bool) : Type 0 where
  pub spells : List Spell
  pub added : new ≡ old ++ map (period_of c) spells
  pub apart : AreApart spells
  pub says : (k : ℕ) → spells_have spells k ≡ test k

-- the channels of periods are among these
abbrev pub AreOf : List (List ℕ) → List Period → Type 0
AreOf names [] = Unit {0}
AreOf names (p ∷ ps) = (among names p.channel ≡ true) × AreOf names ps

-- by channel, and of one channel by where they begin
abbrev pub period_order : Period → Period → Ordering
period_order p q = ordering_then (slice_cmp nat_cmp p.channel q.channel) (nat_cmp p.from q.from)

-- periods rise by channel, by bytes, and those of one channel by where they begin
abbrev pub AreInOrder : List Period → Type 0
AreInOrder periods = rises period_order periods ≡ true

-- the periods of these channels
pub record AreSoFar (names : List (List ℕ)) (periods : List Period) (test : List ℕ → ℕ → Bool) : Type 0 where
  pub says : (c : List ℕ) (k : ℕ) → periods_have periods c k ≡ (among names c && test c k)
  pub apart : ArePeriodsApart periods
  pub have_places : HavePlaces periods
  pub of : AreOf names periods
  pub in_order : AreInOrder periods

-- the periods of each channel are those in which a test holds, have places, neither touch nor overlap, and stand in their order
pub record AreAllPeriods (periods : List Period) (test : List ℕ → ℕ → Bool) : Type 0 where
  pub says : (c : List ℕ) (k : ℕ) → periods_have periods c k ≡ test c k
  pub apart : ArePeriodsApart periods
  pub have_places : HavePlaces periods
  pub in_order : AreInOrder periods

-- up to a place the periods of each channel are those in which a test holds, and from there on it is as at that place: one that
-- lasts there has no end, and none begins later; each has a place, and those of a channel neither touch nor overlap
pub record ArePeriods (periods : List Period) (test : List ℕ → ℕ → Bool) (last : ℕ) : Type 0 where
  pub says : (c : List ℕ) (k : ℕ) → k ≤ last → periods_have periods c k ≡ test c k
  pub lasts : (c : List ℕ) (k : ℕ) → last ≤ k → periods_have periods c k ≡ test c last
  pub have_places : HavePlaces periods
  pub apart : ArePeriodsApart periods
