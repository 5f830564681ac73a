use Rattle.std.proofs.Common.{◌≡◌, ◌+◌, ◌∙◌, ℕ, List, [], ◌∷◌, length, take, ap, cond, length-append, arith, Bool, true, false, refl}
use Rattle.small_facts.proofs.Truth.{one_at_most}
use Rattle.array_expr.specs.Elem.{is_input}
use Rattle.job_run.specs.Plan.{input_shapes}
use Rattle.job_run.proofs.Loads.{shapes_more}
use Rattle.job_run.proofs.check.input_count.Goals as goal

one_or_none : (b : Bool) (s : List ℕ) → length (cond b (s ∷ []) []) ≡ cond b 1 0
one_or_none true s = refl
one_or_none false s = refl

pub loop-node-preserved : goal.loop-node-preserved
loop-node-preserved c =
    let node = c.node-item.result in
    let before : List (List ℕ) = input_shapes (take c.loop-node.node-index c.args.nodes.now) in
    let one : List (List ℕ) = cond (is_input node.op) (node.shape ∷ []) [] in
    let more : length (input_shapes (take (c.loop-node.node-index + 1) c.args.nodes.now)) ≡ length before + length one = ap length (shapes_more c.args.nodes.now c.loop-node.node-index node c.loop-node-test.true c.node-item.is) ∙ length-append before one in
    record {
      count = omega (arith, more, one_or_none (is_input node.op) node.shape, c.counted-count.ensures, c.loop-node.invariant.count);
      few = omega (arith, c.counted-count.ensures, one_at_most (is_input node.op), c.loop-node.invariant.few);
    }
