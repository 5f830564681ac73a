use Rattle.std.proofs.Common.{arith, ◌≡◌, ◌+◌, [], ℕ, get_or, map, take, ap, sym, ◌∙◌}
use Rattle.std.proofs.lemmas.List.{get_or_read}
use Rattle.nd_shape.specs.Chunk.{total}
use Rattle.task_graph.specs.Graphs.{bytes}
use Rattle.block_lowering.proofs.PartsSteps.{bytes-more}
use Rattle.block_lowering.proofs.parts.bytes_of_all.Goals as goal

pub loop-shape-preserved : goal.loop-shape-preserved
loop-shape-preserved c =
    let k = c.loop-shape.shape-index in
    let e : c.shape-item.result ≡ get_or c.args.shapes.now k [] = get_or_read c.args.shapes.now k c.shape-item.result c.loop-shape-test.true c.shape-item.is [] in
    record {
      value = ap (λ (n : ℕ). n + c.bytes_of-sum.result) c.loop-shape.invariant.value ∙ ap (λ (n : ℕ). total (map bytes (take k c.args.shapes.now)) + n) (c.bytes_of-sum.ensures.value ∙ ap bytes e)
          ∙ sym (bytes-more c.args.shapes.now k c.loop-shape-test.true);
      small = omega (arith, c.loop-shape.invariant.small, c.bytes_of-sum.ensures.small);
    }
