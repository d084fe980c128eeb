use Rattle.sg_history.proofs.Books.{later_itself, later_again, later_extended, extends_log, same_past}
use Rattle.sg_history.proofs.laws.later.Goals as goal

pub returns : goal.returns
returns c = record { itself = later_itself; again = later_again; extended = later_extended; log = extends_log; fronts = same_past }
