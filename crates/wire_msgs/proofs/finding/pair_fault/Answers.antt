use Rattle.std.proofs.Common.{◌≡◌, Some, sym, ◌∙◌}
use Rattle.std.specs.List.{find}
use Rattle.msgpack_frames.specs.View.{view}
use Rattle.wire_msgs.specs.Finding.{names}
use Rattle.wire_msgs.specs.Names.{fields_of}
use Rattle.wire_msgs.specs.Seen.{seen}
use Rattle.wire_msgs.proofs.Faults.{pair_fault-named}
use Rattle.wire_msgs.proofs.finding.pair_fault.Goals as goal

pub returns-in-Some : goal.returns-in-Some
returns-in-Some c =
    let field : find (λ g. names g (view c.args.pair.now.0)) (fields_of c.args.operation) ≡ Some c.in-Some.field = rw c.fields.ensures at (sym c.in-Some.ensures) in
    c.field_fault.ensures ∙ sym (pair_fault-named c.args.operation c.args.place (seen c.args.earlier.now) (view c.args.pair.now.0) (view c.args.pair.now.1) c.in-Some.field field)
