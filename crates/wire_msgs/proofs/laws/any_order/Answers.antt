use Rattle.wire_msgs.proofs.AnyOrder.{any_order_lem}
use Rattle.wire_msgs.proofs.laws.any_order.Goals as goal

pub returns : goal.returns
returns c = any_order_lem
