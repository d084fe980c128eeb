use Rattle.blip_frame.specs.Frame.{payload_sent_after}
use Rattle.blip_frame.specs.Checksum.{checksum}
use Rattle.blip_frame.proofs.Frames.{spelling_written, written_spelling, written_frame, read_again, value_after-checksum, one_frame, prefix_alike}
use Rattle.blip_frame.proofs.laws.frames.Goals as goal

pub returns : goal.returns
returns c = record {
  written = spelling_written;
  one_spelling = written_spelling;
  part = written_frame;
  again = λ sent bytes f is. read_again sent bytes f (written_frame (checksum (payload_sent_after sent f)) bytes f is);
  value = value_after-checksum;
  one_frame = one_frame;
  prefix = prefix_alike;
}
