use Rattle.blip_mux.proofs.Orders.{in_order, once, replied}
use Rattle.blip_mux.proofs.laws.order.Goals as goal

pub returns : goal.returns
returns c = record {
  beginnings = in_order;
  once = once;
  replies = replied;
}
