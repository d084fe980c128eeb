-- what `feed` prints
use Rattle.std.specs.Prelude.{ℕ, List, [], ◌∷◌, ◌++◌, reverse, decimal}
use Rattle.std.specs.List.{flat_map}
use Rattle.sg_names.specs.declared.key.Key.{Key}
use Rattle.sg_names.specs.Key.{key_text}
use Rattle.sg_names.specs.RevId.{rev_text}
use Rattle.sg_history.specs.History.{History}
use Rattle.sg_history.specs.declared.row.Row.{Row}
use Rattle.sg_history.specs.declared.row.Options.{Options}
use Rattle.sg_history.specs.Feed.{feed}

-- a row's line: key, document, revision and bits, one TAB between, and a line feed
abbrev pub row_text : Row → List ℕ
row_text row = key_text row.key ++ 9 ∷ row.doc ++ 9 ∷ rev_text row.rev ++ 9 ∷ decimal row.bits ++ 10 ∷ []

-- the printed feed of a user over a whole history, after a since key, with these options
abbrev pub feed_text : History → List ℕ → Key → Options → List ℕ
feed_text h user since options = flat_map (λ row. row_text row) (feed (reverse h.entries) user since options)
