use Rattle.blip_frame.proofs.Register.{checksum_after-append, checksum_after-checksum, checksum-nil, checksum_after-nil}
use Rattle.blip_frame.proofs.Frames.{checksum-below}
use Rattle.blip_frame.proofs.laws.running_checksum.Goals as goal

pub returns : goal.returns
returns c = record {
  on = checksum_after-append;
  whole = checksum_after-checksum;
  start = checksum-nil;
  nothing = checksum_after-nil;
  fits = checksum-below;
}
