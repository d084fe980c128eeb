-- spells in which roles give channels, as they are gathered
use Rattle.std.proofs.Common.{◌≡◌, ℕ, refl, sym, ◌∙◌, ap, Bool, true, false, ◌&&◌, ◌||◌, List, [], ◌∷◌, ◌++◌, Option, Some, None, Bor, if◌then◌else◌}
use Rattle.std.specs.BTreeMap.{get_by_text}
use Rattle.std.specs.List.{list_any}
use Rattle.std.specs.Str.{bytes_eq}
use Rattle.std.specs.Cmp.Lexicographic.{bytes_decides}
use Rattle.grant_history.specs.declared.gifts.GiftList.{GiftList}
use Rattle.grant_history.specs.declared.givers.Giver.{Giver}
use Rattle.grant_tracks.specs.declared.held.Held.{Held}
use Rattle.grant_tracks.specs.declared.track.Track.{Track}
use Rattle.grant_tracks.specs.declared.spells.Spell.{Spell}
use Rattle.grant_history.specs.inner.Gifts.{Gifts, gifts_have, held_gives, list_has}
use Rattle.grant_tracks.specs.Reads.{is_channel, channel_among}
use Rattle.grant_tracks.specs.Tracks.{held_at}
use Rattle.grant_tracks.specs.Spells.{spell_has, spells_have}
use Rattle.grant_tracks.specs.Ways.{track_has}
use Rattle.grant_tracks.proofs.Gathered.{any_end}

turned : (a b : Bool) → (a || b) ≡ (b || a)
turned true true = refl
turned true false = refl
turned false true = refl
turned false false = refl

-- a channel's list has more
pub one_more : (old new : Gifts) (c : List ℕ) (now : GiftList) (spells : List Spell) (had : Option GiftList)
    → get_by_text old c ≡ had
    → ((k : ℕ) → spells_have now.list.items k ≡ (list_has had k || spells_have spells k))
    → ((x : List ℕ) → get_by_text new x ≡ (if bytes_eq c x then Some now else get_by_text old x))
    → (x : List ℕ) (k : ℕ) → gifts_have new x k ≡ ((bytes_eq c x && spells_have spells k) || gifts_have old x k)
one_more old new c now spells had there more sets x k = ap (λ (o : Option GiftList). list_has o k) (sets x) ∙ by (bytes_eq c x) refl
  where
    by : (b : Bool) → bytes_eq c x ≡ b → list_has (if b then Some now else get_by_text old x) k ≡ ((b && spells_have spells k) || gifts_have old x k)
    by true is =
        more k
        ∙ turned (list_has had k) (spells_have spells k)
        ∙ ap (λ (o : Option GiftList). spells_have spells k || list_has o k) (sym there)
        ∙ ap (λ (y : List ℕ). spells_have spells k || gifts_have old y k) ((bytes_decides c x).0 is)
    by false is = refl

any_append : (xs ys : List Spell) (k : ℕ) → spells_have (xs ++ ys) k ≡ (spells_have xs k || spells_have ys k)
any_append [] ys k = refl
any_append (x ∷ xs) ys k = ap (λ (b : Bool). spell_has k x || b) (any_append xs ys k) ∙ by (spell_has k x)
  where
    by : (b : Bool) → (b || (spells_have xs k || spells_have ys k)) ≡ ((b || spells_have xs k) || spells_have ys k)
    by true = refl
    by false = refl

pub list_more : (old new spells : List Spell) → new ≡ old ++ spells → (k : ℕ) → spells_have new k ≡ (spells_have old k || spells_have spells k)
list_more old new spells is k = ap (λ (l : List Spell). spells_have l k) is ∙ any_append old spells k

pub list_first : (none new spells : List Spell) → none ≡ [] → new ≡ none ++ spells → (k : ℕ) → spells_have new k ≡ (list_has None k || spells_have spells k)
list_first none new spells empty is k = ap (λ (l : List Spell). spells_have l k) (is ∙ ap (λ (l : List Spell). l ++ spells) empty)

-- what a role gives by all things that it has or had
pub all_given : (g : Giver) (exists : Option (Bor Track)) (x : List ℕ) (k : ℕ) (has : Bool) (all : List Held) → track_has exists k ≡ has
    → list_any (held_gives g exists x k) all ≡ (held_at g.track.now k && (has && channel_among all k x))
all_given g exists x k has [] is = by (held_at g.track.now k) has
  where
    by : (a b : Bool) → false ≡ (a && (b && false))
    by true true = refl
    by true false = refl
    by false b = refl
all_given g exists x k has (h ∷ hs) is =
    ap (λ (e : Bool). (is_channel h.what x && (held_at g.track.now k && (e && held_at h.track k))) || list_any (held_gives g exists x k) hs) is
    ∙ ap (λ (b : Bool). (is_channel h.what x && (held_at g.track.now k && (has && held_at h.track k))) || b) (all_given g exists x k has hs is)
    ∙ by (is_channel h.what x) (held_at g.track.now k) has (held_at h.track k) (channel_among hs k x)
  where
    by : (c a b h m : Bool) → ((c && (a && (b && h))) || (a && (b && m))) ≡ (a && (b && ((h && c) || m)))
    by true true true true m = refl
    by true true true false m = refl
    by true true false h m = refl
    by true false b h m = refl
    by false true true true m = refl
    by false true true false m = refl
    by false true false h m = refl
    by false false b h m = refl

-- one that is kept of a role, and one that is no role
pub given_more : (f : Giver → Bool) (old new : List Giver) (g : Giver) (held gives : Bool) → new ≡ old ++ g ∷ [] → f g ≡ (held && gives) → list_any f new ≡ (list_any f old || (held && gives))
given_more f old new g held gives is same = ap (λ (l : List Giver). list_any f l) is ∙ any_end f old g ∙ ap (λ (b : Bool). list_any f old || b) same

pub given_same : (f : Giver → Bool) (old new : List Giver) (held gives : Bool) → new ≡ old → false ≡ gives → list_any f new ≡ (list_any f old || (held && gives))
given_same f old new held gives is none = ap (λ (l : List Giver). list_any f l) is ∙ by (list_any f old) held ∙ ap (λ (b : Bool). list_any f old || (held && b)) none
  where
    by : (a h : Bool) → a ≡ (a || (h && false))
    by true h = refl
    by false true = refl
    by false false = refl
