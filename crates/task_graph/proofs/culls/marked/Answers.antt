use Rattle.std.proofs.Common.{◌++◌, ℕ, List, sym, ap, ◌∙◌}
use Rattle.task_graph.specs.Culls.{mark_at, listed_if}
use Rattle.task_graph.specs.Numbers.{Numbers}
use Rattle.task_graph.specs.Orders.{is_in}
use Rattle.task_graph.proofs.Culled.{marked-more, marked-fresh}
use Rattle.task_graph.proofs.culls.marked.Goals as goal

pub add_if-requires-clause-fresh : goal.add_if-requires-clause-fresh
add_if-requires-clause-fresh c = ap (λ (o : List ℕ). is_in o c.loop-key.key) c.loop-key.invariant.same ∙ marked-fresh (mark_at c.args.marks.now) c.loop-key.key

pub loop-key-preserved : goal.loop-key-preserved
loop-key-preserved c = record {
  whole = ap (λ (v : Numbers). v.keys) c.in_ok-add_if.ensures ∙ c.loop-key.invariant.whole;
  same =
      ap (λ (v : Numbers). v.order) c.in_ok-add_if.ensures
      ∙ ap (λ (o : List ℕ). o ++ listed_if c.loop-key.key (mark_at c.args.marks.now c.loop-key.key)) c.loop-key.invariant.same
      ∙ sym (marked-more (mark_at c.args.marks.now) c.loop-key.key);
}
