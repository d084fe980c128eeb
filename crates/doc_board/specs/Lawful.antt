-- The entries that a log may have: each in its grammar, and by the rules of a journal. They are given the newest first.
use Rattle.std.specs.Prelude.{◌≡◌, ℕ, false, List, [], ◌∷◌, Some, IsTrue}
use Rattle.sg_history.specs.declared.entries.Entry.{Entry}
use Rattle.sg_history.specs.Book.{Book}
use Rattle.sg_history.specs.History.{is_sync}
use Rattle.sg_history.specs.Journal.{IsEntry, may_follow}

-- each entry is in its grammar and follows the rules after the older ones
abbrev pub AreLawful : List Entry → Type 0
AreLawful [] = Unit {0}
AreLawful (e ∷ older) = IsEntry e × IsTrue (may_follow older e) × AreLawful older

-- each entry of a book is in its grammar, and replaces no sync function
abbrev pub AreEntries : Book → Type 0
AreEntries book = (number : ℕ) (e : Entry) → book number ≡ Some e → IsEntry e × (is_sync e ≡ false)
