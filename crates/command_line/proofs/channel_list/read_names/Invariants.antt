use Rattle.std.proofs.Common.{◌≡◌, map, ◌++◌, drop}
use Rattle.std.specs.List.{list_all}
use Rattle.sg_names.specs.Grammar.{is_channel_name}
use Rattle.command_line.proofs.channel_list.read_names.Given as goal

abbrev pub invariant-loop-piece : goal.invariant-loop-piece
invariant-loop-piece l = record {
  so_far : l.names.items ++ map (λ p. p.now) (drop l.piece-index l.pieces) ≡ map (λ p. p.now) l.pieces;
  in_grammar : list_all (λ n. is_channel_name n) (map (λ p. p.now) (drop l.piece-index l.pieces)) ≡ list_all (λ n. is_channel_name n) (map (λ p. p.now) l.pieces);
}
