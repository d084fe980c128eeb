-- lists of channels
use Rattle.std.specs.Prelude.{ℕ, Bool, ◌&&◌, List}
use Rattle.std.specs.List.{list_all}
use Rattle.std.specs.Ordering.{nat_cmp}
use Rattle.std.specs.Cmp.Lexicographic.{slice_cmp}
use Rattle.sg_names.specs.Grammar.{is_channel_name}
use Rattle.sg_names.specs.ItemList.{list_text, rises}

abbrev pub channels_text : List (List ℕ) → List ℕ
channels_text channels = list_text channels

-- channels' names that rise strictly by bytes
abbrev pub is_channels : List (List ℕ) → Bool
is_channels channels = list_all (λ n. is_channel_name n) channels && rises (slice_cmp nat_cmp) channels
