use Rattle.std.proofs.Common.{sym}
use Rattle.wire_msgs.proofs.Members.{two_of-other}
use Rattle.wire_msgs.proofs.collection.two_of.Goals as goal

pub returns-then-items-ne2 : goal.returns-then-items-ne2
returns-then-items-ne2 c = sym (two_of-other c.args.items.now c.if-items-ne2.true)
