-- What holds of every run.
use Rattle.std.specs.Prelude.{◌≡◌, ℕ, ◌+◌, ◌≤◌, IsTrue, Option, None, Ok, Err}
use Rattle.json_doc.specs.Tree.{Tree}
use Rattle.sg_names.specs.Channels.{is_channels}
use Rattle.sg_names.specs.Grants.{is_grants}
use Rattle.sg_names.specs.RoleGrants.{is_role_grants}
use Rattle.sync_tokens.specs.Places.{first_place}
use Rattle.sync_tokens.specs.declared.place.Place.{Place}
use Rattle.sync_syntax.specs.declared.tree.Program.{Program}
use Rattle.sync_values.specs.declared.fault.RuleKind.TheVariants.{Fuel}
use Rattle.sync_values.specs.declared.fault.Stop.{Stop}
use Rattle.sync_values.specs.declared.fault.Stop.TheVariants.{Deny, Memory}
use Rattle.sync_values.specs.Found.{Found, denial}
use Rattle.sync_meaning.specs.declared.effects.Effects.{Effects}
use Rattle.sync_meaning.specs.declared.state.Context.{Context}
use Rattle.sync_meaning.specs.Builtins.{effect_count}
use Rattle.sync_meaning.specs.Meaning.{meaning_within, meaning}
use Rattle.sync_syntax.specs.Moved.{moved}

-- no visit was left
abbrev pub IsOutOfVisits : {A : Type 0} → Found A → Type 0
IsOutOfVisits (Ok a) = ⊥
IsOutOfVisits (Err e) = (p : Place) × (e ≡ denial Fuel p)

-- what a program says with so many visits it says with more, unless there were too few
abbrev pub MoreVisitsChangeNothing : Type 0
MoreVisitsChangeNothing = (few more : ℕ) (p : Program) (doc : Tree) (old : Option Tree) (context : Context)
    → ¬ IsOutOfVisits (meaning_within few p doc old context)
    → meaning_within (few + more) p doc old context ≡ meaning_within few p doc old context

-- lists in their grammars, which rise, with at most 1,000 items together
pub record AreEffects (e : Effects) : Type 0 where
  pub channels : IsTrue (is_channels e.channels)
  pub grants : IsTrue (is_grants e.grants)
  pub roles : IsTrue (is_role_grants e.roles)
  pub few : effect_count e ≤ 1000

-- what an accepted run does is so
abbrev pub EffectsAreLawful : Type 0
EffectsAreLawful = (visits : ℕ) (p : Program) (doc : Tree) (old : Option Tree) (context : Context) (e : Effects)
    → meaning_within visits p doc old context ≡ Ok e → AreEffects e

-- what stops a run, without its place
abbrev pub placeless_stop : Stop → Stop
placeless_stop (Deny r) = denial r.kind first_place
placeless_stop Memory = Memory

-- a verdict without its place
abbrev pub placeless : {A : Type 0} → Found A → Found A
placeless (Ok a) = Ok a
placeless (Err e) = Err (placeless_stop e)

-- however the places of a program are moved, it says the same, but for the place of the rule
abbrev pub PlacesChangeNoKind : Type 0
PlacesChangeNoKind = (f : Place → Place) (visits : ℕ) (p : Program) (doc : Tree) (old : Option Tree) (context : Context)
    → placeless (meaning_within visits (moved f p) doc old context) ≡ placeless (meaning_within visits p doc old context)

-- a program without a second parameter says the same whatever stood before the document
abbrev pub OldIsNotAsked : Type 0
OldIsNotAsked = (p : Program) (doc : Tree) (old : Option Tree) (context : Context) → p.second ≡ None
    → meaning p doc old context ≡ meaning p doc None context
