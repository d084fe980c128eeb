use Rattle.std.proofs.Common.{Some}
use Rattle.std.specs.Prelude.{string_bytes}
use Rattle.std.proofs.lemmas.Map.Text.{btree_map_updates_text}
use Rattle.checkpoint_store.proofs.Stored.{kept_put, kept_count, kept_rising}
use Rattle.checkpoint_store.proofs.kept.insert.Goals as goal

pub returns-in_err-insert-clause-rising : goal.returns-in_err-insert-clause-rising
returns-in_err-insert-clause-rising c = kept_rising c.insert.new.self.entries c.insert.ensures.ordered

pub returns-clause-put : goal.returns-clause-put
returns-clause-put c =
    kept_put c.args.kept.now c.insert.new.self (string_bytes c.args.key) c.args.checkpoint
    (btree_map_updates_text (string_bytes c.args.key) c.args.kept.now c.insert.new.self (Some c.args.checkpoint) c.in_ok-insert.ensures.updates)

pub returns-clause-rising : goal.returns-clause-rising
returns-clause-rising c = kept_rising c.insert.new.self.entries c.insert.ensures.ordered

pub returns-clause-count : goal.returns-clause-count
returns-clause-count c =
    kept_count c.args.kept.now.entries c.insert.new.self.entries (string_bytes c.args.key) c.in_ok-insert.field-0 c.in_ok-insert.ensures.old c.in_ok-insert.ensures.len
