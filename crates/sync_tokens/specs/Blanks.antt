-- What stands between tokens: white space and comments.
use Rattle.std.specs.Prelude.{ℕ, suc, ◌+◌, ◌==◌, ◌&&◌, ◌||◌, Bool, false, List, [], ◌∷◌, Option, Some, None, option_map, if◌then◌else◌}

-- a space, a tab, a carriage return or a line feed
abbrev pub is_space : ℕ → Bool
is_space c = c == 32 || c == 9 || c == 13 || c == 10

-- how many characters there are before the next line feed
abbrev pub line_len : List ℕ → ℕ
line_len [] = 0
line_len (c ∷ cs) = if c == 10 then 0 else 1 + line_len cs

-- how many characters there are up to the first star with a slash behind it, and with both; the first
-- argument says whether a star stands just before them
abbrev pub comment_from : Bool → List ℕ → Option ℕ
comment_from star [] = None
comment_from star (c ∷ cs) = if star && c == 47 then Some 1 else option_map suc (comment_from (c == 42) cs)

abbrev pub comment_len : List ℕ → Option ℕ
comment_len = comment_from false
