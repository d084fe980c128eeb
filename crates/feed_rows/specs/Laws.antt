-- What the laws of the feed speak of: the rows of a feed.
use Rattle.std.specs.Prelude.{◌≡◌, ◌⊎◌, ℕ, IsTrue, List, [], ◌∷◌, length, Some}
use Rattle.std.specs.declared.cmp.Ordering.TheVariants.{Less}
use Rattle.sg_names.specs.declared.key.Key.{Key}
use Rattle.sg_names.specs.Key.{key_cmp}
use Rattle.sg_history.specs.declared.entries.Entry.{Entry}
use Rattle.sg_history.specs.declared.row.Row.{Row}
use Rattle.sg_history.specs.declared.row.Options.{Options}
use Rattle.sg_history.specs.History.{past}
use Rattle.sg_history.specs.Feed.{keeps, row_of}

-- the row is one of these
abbrev pub HasRow : List Row → Row → Type 0
HasRow [] row = ⊥
HasRow (first ∷ others) row = (first ≡ row) ⊎ HasRow others row

-- the row is the row of some document, and is asked for
abbrev pub IsAskedFor : List Entry → List ℕ → Key → Options → Row → Type 0
IsAskedFor es user since options row =
    (doc : List ℕ) × (row_of es user options.filter doc ≡ Some row) × IsTrue (keeps options since row)

-- the first key is below the second
abbrev pub IsBelow : Key → Key → Type 0
IsBelow a b = key_cmp a b ≡ Less

-- the row's key is below that of the first of these, if there is one
abbrev pub Precedes : Row → List Row → Type 0
Precedes row [] = Unit {0}
Precedes row (next ∷ others) = IsBelow row.key next.key

-- each key is below the next
abbrev pub Rising : List Row → Type 0
Rising [] = Unit {0}
Rising (row ∷ rows) = Precedes row rows × Rising rows

-- all entries of a history, the newest first
abbrev pub all_of : List Entry → List Entry
all_of entries = past entries (length entries)

-- the row is one of these that were sent, at a key not above this one
abbrev pub WasSent : List Row → Key → Row → Type 0
WasSent sent key row = HasRow sent row × ¬ (IsBelow key row.key)

-- the row is one of these that are still to be sent, at a key above this one
abbrev pub IsAhead : List Row → Key → Row → Type 0
IsAhead ahead key row = IsBelow key row.key × HasRow ahead row
