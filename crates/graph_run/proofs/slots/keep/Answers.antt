use Rattle.std.proofs.Common.{ap, ◌∙◌, arith}
use Rattle.std.specs.Prelude.{Some}
use Rattle.std.specs.Option.{option_map}
use Rattle.std.specs.Arc.{arc_value}
use Rattle.cluster_msgs.specs.Shape.{key_count, deps_of}
use Rattle.graph_run.proofs.Keeping.{keeping}
use Rattle.graph_run.proofs.slots.keep.Goals as goal
use Rattle.graph_run.proofs.slots.keep.Goals.{then-last-key+in_ok-try_clone, else-last-key}

pub returns-clause-ok : goal.returns-clause-ok
returns-clause-ok g c =
    let graph = c.args.graph.now in
    keeping (deps_of graph) (key_count graph) c.args.last.now c.args.key c.args.slots.now c.let_go.new.slots c.if-last-key.slot (arc_value c.args.block.now) (record {
      below = c.requires.key;
      uses = c.requires.uses;
      kept = c.requires.kept;
      freed = rw c.deps.ensures at c.let_go.ensures;
      used = elim c.if-last-key.branch [
        | then-last-key+in_ok-try_clone w ↦ λ later. ap (option_map arc_value) w.slot-is ∙ ap (λ b. Some b) w.in_ok-try_clone.ensures
        | else-last-key w ↦ λ later. absurd (omega arith)
      ];
      unused = elim c.if-last-key.branch [
        | then-last-key+in_ok-try_clone w ↦ λ none. absurd (omega arith)
        | else-last-key w ↦ λ none. ap (option_map arc_value) w.slot-is
      ];
    })
