use Rattle.std.proofs.Common.{arith}
use Rattle.msgpack_frames.proofs.GroupLaws.{group_parts, group_shorter, group_stops, group_refused}
use Rattle.msgpack_frames.proofs.group.group_of.Goals as goal

pub returns-clause-parts : goal.returns-clause-parts
returns-clause-parts c = group_parts (λ x. (x.0, x.1.now)) c.args.bytes.now (λ i. omega (arith, c.type_inv.bytes i)) c.first_group.result c.first_group.ensures

pub returns-clause-shorter : goal.returns-clause-shorter
returns-clause-shorter c = group_shorter (λ x. (x.0, x.1.now)) c.args.bytes.now (λ i. omega (arith, c.type_inv.bytes i)) c.first_group.result c.first_group.ensures

pub returns-clause-stops : goal.returns-clause-stops
returns-clause-stops c = group_stops (λ x. (x.0, x.1.now)) c.args.bytes.now (λ i. omega (arith, c.type_inv.bytes i)) c.first_group.result c.first_group.ensures

pub returns-clause-refused : goal.returns-clause-refused
returns-clause-refused c = group_refused (λ x. (x.0, x.1.now)) c.args.bytes.now (λ i. omega (arith, c.type_inv.bytes i)) c.first_group.result c.first_group.ensures
