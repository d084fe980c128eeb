-- lists of users' or roles' names
use Rattle.std.specs.Prelude.{ℕ, Bool, ◌&&◌, List}
use Rattle.std.specs.List.{list_all}
use Rattle.std.specs.Ordering.{nat_cmp}
use Rattle.std.specs.Cmp.Lexicographic.{slice_cmp}
use Rattle.sg_names.specs.Grammar.{is_name}
use Rattle.sg_names.specs.ItemList.{list_text, rises}

abbrev pub names_text : List (List ℕ) → List ℕ
names_text names = list_text names

-- names that rise strictly by bytes
abbrev pub is_names : List (List ℕ) → Bool
is_names names = list_all (λ n. is_name n) names && rises (slice_cmp nat_cmp) names
