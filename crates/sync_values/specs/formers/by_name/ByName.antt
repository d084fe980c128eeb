-- `ByName` as a type that may hold the type that holds it.
use mathlib.Core.Path.{◌≡◌, refl, sym, ap, ◌∙◌}
use mathlib.Core.List.{List, [], ◌∷◌, map}
use mathlib.Core.Bool.{Bool}
use mathlib.Core.Former.{Former, this, const, pair, list, via}
use Prim.Native.Nat.{ℕ}
use base.Stored.{Coded-set, coded_bool, coded_ℕ, coded_list, coded×, code_map, gcons}
use denote.RattleType.{RattleType}
use denote.HoleLaws.{Alike}
use denote.HolePlaces.{Recodes, struct_places, laid, stays}
use denote.Hole.Fix.{over}
use denote.Param.Weighed.{Weighed, w_list, w_pair, w_const}
use denote.Model.Placed.{view_places}
use denote.Struct.Tuple.{Tuple, tuple_type}
use Rattle.json_doc.specs.contracts.text.DocText as text
use Rattle.sqlite_items.specs.formers.items.Items as items
use Rattle.std.specs.Ordering.{nat_cmp}
use Rattle.std.specs.Cmp.Lexicographic.{slice_cmp}
use Rattle.sg_names.specs.ItemList.{rises}
use Rattle.sync_values.specs.Rising.{names_rise}
use Rattle.sync_values.specs.declared.by_name.ByName.TheInside.{Inside}
use Rattle.sync_values.specs.declared.by_name.ByName.TheView.{view, invariant}
use Rattle.sync_values.specs.contracts.by_name.ByName as C
use Rattle.sync_values.specs.contracts.by_name.ByName.TheInside as I

abbrev entries : Former {0} → Former {0}
entries g = list (pair (const (List ℕ)) g)

abbrev pub the_former : Former {0} → Former {0}
the_former g = entries g

abbrev pub the_weighed : {g : Former {0}} → Weighed g → Weighed (the_former g)
the_weighed w = w_list (w_pair (w_const (List ℕ)) w)

abbrev fields : Former {0}
fields = via (pair (entries this) (const Bool)) Inside (λ X a. (a.items, a.rising))
    (λ X v. record { items = v.0; rising = v.1 }) (λ X a. refl) (λ X v. refl)

abbrev on_value : {X Y : Type 0} → (X → Y) → List ℕ × X → List ℕ × Y
on_value h p = (p.0, h p.1)

names_same : {X Y : Type 0} (h : X → Y) (ms : List (List ℕ × X)) → map (λ m. m.0) (map (on_value h) ms) ≡ map (λ m. m.0) ms
names_same h [] = refl
names_same h (m ∷ ms) = ap (λ l. m.0 ∷ l) (names_same h ms)

module _ (R S : RattleType) (h : R.Denot → S.Denot) where
  same : (ms : List (List ℕ × R.Denot)) → names_rise (map (on_value h) ms) ≡ names_rise ms
  same ms = ap (rises (slice_cmp nat_cmp)) (names_same h ms)

  tuple_places : Alike R S h → Alike (Tuple (text.the_row ∷ R ∷ [])) (Tuple (text.the_row ∷ S ∷ [])) (on_value h)
  tuple_places a = struct_places (tuple_type (text.the_row ∷ R ∷ [])) (tuple_type (text.the_row ∷ S ∷ [])) ((λ n. n), (h, tt)) (on_value h) (λ d. refl) refl
      (stays text.the_row, (laid R S h a, tt))

  pub the_places : Alike R S h → Alike (C.the_row R) (C.the_row S) ((the_former this).map R.Denot S.Denot h)
  the_places a = view_places fields (entries this) view (λ X Y k u. refl) (λ X u. refl) R.Denot S.Denot h (C.the_row R).coded (C.the_row S).coded
      (invariant R.Denot) (invariant S.Denot) (λ u. Coded-set coded_bool _ _) (λ u. Coded-set coded_bool _ _)
      (λ u e. e ∙ sym (same u.items)) (λ u e. e ∙ same u.items)
      (over (I.the_row R)) (over (I.the_row S))
      (struct_places (I.the_type R) (I.the_type S) (map (on_value h), ((λ b. b), tt)) _ (λ d. refl) refl
      (laid _ _ _ (items.the_places (Tuple (text.the_row ∷ R ∷ [])) (Tuple (text.the_row ∷ S ∷ [])) (on_value h) (tuple_places a)), ((refl, ((λ n. refl), (λ n. refl))), tt)))

  pub the_codes_placed : Recodes R S h → Recodes (C.the_row R) (C.the_row S) ((the_former this).map R.Denot S.Denot h)
  the_codes_placed e d = sym (code_map (coded× (coded_list coded_ℕ) R.coded).code (coded× (coded_list coded_ℕ) S.coded).code (on_value h) (λ x i. gcons ((coded_list coded_ℕ).code x.0) (sym (e x.1) i)) d)
