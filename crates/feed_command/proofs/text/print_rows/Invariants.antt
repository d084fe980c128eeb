use Rattle.std.proofs.Common.{◌≡◌, take}
use Rattle.std.specs.List.{flat_map}
use Rattle.feed_command.specs.FeedText.{row_text}
use Rattle.feed_command.proofs.text.print_rows.Given as goal

abbrev pub invariant-loop-row : goal.invariant-loop-row
invariant-loop-row l = l.out ≡ flat_map (λ row. row_text row) (take l.row-index l.rows)
