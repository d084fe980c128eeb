use Rattle.std.proofs.Common.{◌≡◌, drop, map}
use Rattle.sync_print.specs.Spelling.{put_all}
use Rattle.sync_print.specs.Trees as t
use Rattle.sync_print.specs.Trees.{spelled, spelled_suffix}
use Rattle.sync_print.proofs.Layers.{spelled_member, spelled_tail}
use Rattle.sync_print.proofs.expression.+print.Given as goal

abbrev pub invariant-put_exprs-loop-expr : goal.invariant-put_exprs-loop-expr
invariant-put_exprs-loop-expr l = put_all (t.listed_from l.first (map spelled (drop l.expr-index l.exprs))) l.out ≡ put_all (t.listed (map spelled l.fn.exprs)) l.fn.out

abbrev pub invariant-put_members-loop-member : goal.invariant-put_members-loop-member
invariant-put_members-loop-member l = put_all (t.members_from l.first (map spelled_member (drop l.member-index l.members))) l.out ≡ put_all (t.members (map spelled_member l.fn.members)) l.fn.out

abbrev pub invariant-put_suffixes-loop-suffix : goal.invariant-put_suffixes-loop-suffix
invariant-put_suffixes-loop-suffix l = put_all (t.suffixes (map spelled_suffix (drop l.suffix-index l.suffixes))) l.out ≡ put_all (t.suffixes (map spelled_suffix l.fn.suffixes)) l.fn.out

abbrev pub invariant-put_tails-loop-tail : goal.invariant-put_tails-loop-tail
invariant-put_tails-loop-tail l = put_all (t.tails l.level (map spelled_tail (drop l.tail-index l.tails))) l.out ≡ put_all (t.tails l.fn.level (map spelled_tail l.fn.tails)) l.fn.out
