use Rattle.std.proofs.Common.{◌≡◌, drop}
use Rattle.std.specs.List.{find}
use Rattle.std.specs.Str.{bytes_eq}
use Rattle.wire_msgs.specs.Names.{op_name}
use Rattle.wire_msgs.proofs.operation.first_named.Given as goal

abbrev pub invariant-loop-operation : goal.invariant-loop-operation
invariant-loop-operation l = find (λ o. bytes_eq l.text (op_name o)) (drop l.operation-index l.operations) ≡ find (λ o. bytes_eq l.text (op_name o)) l.operations
