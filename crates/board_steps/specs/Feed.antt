-- What a look for a feed answers.
use Rattle.std.specs.Prelude.{◌≡◌, ℕ, List, length}
use Rattle.sg_names.specs.declared.key.Key.{Key}
use Rattle.sg_history.specs.declared.entries.Entry.{Entry}
use Rattle.sg_history.specs.declared.row.Options.{Options}
use Rattle.repl_messages.specs.declared.looks.Fed.{Fed}
use Rattle.repl_messages.specs.Looks.{IsFed, front_of}

-- the front is the history's length, and the answer is that of the feed there
abbrev pub FeedAt : List Entry → List ℕ → Key → Options → Fed → Type 0
FeedAt h user since options fed = (front_of fed ≡ length h) × IsFed h user since options fed
