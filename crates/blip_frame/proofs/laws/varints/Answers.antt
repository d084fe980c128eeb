use Rattle.blip_frame.specs.Varint.{varint}
use Rattle.blip_frame.proofs.Varints.{varint_shortest, shortest_one, varint_read, number_again, numbers_apart}
use Rattle.blip_frame.proofs.laws.varints.Goals as goal

pub returns : goal.returns
returns c = record {
  shortest = varint_shortest;
  one = shortest_one;
  again = λ n rest below. number_again (varint n) n rest (varint_read n below);
  apart = numbers_apart;
}
