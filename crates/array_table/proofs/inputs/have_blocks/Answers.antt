use Rattle.std.proofs.Common.{◌≡◌, ◌<◌, true, length, Some, slice_get, ap, sym, subst, refl, ◌∙◌, arith, rules}
use Rattle.small_facts.proofs.Options.{slice_get_at}
use Rattle.array_expr.specs.Elem.{is_input, next_input}
use Rattle.plain_eval.specs.Held.{block_at}
use Rattle.plain_eval.proofs.Arrays.{inputs-next, next-few}
use Rattle.array_table.proofs.FirstInputs.{HasBlock, blocks-none, blocks-more}
use Rattle.array_table.proofs.inputs.have_blocks.Goals as goal

pub loop-k-init : goal.loop-k-init
loop-k-init c = record { input = refl; few = omega arith; blocks = blocks-none c.args.nodes.now c.args.blocks.now }

pub loop-k-preserved : goal.loop-k-preserved
loop-k-preserved c =
    let nodes = c.args.nodes.now in
    let blocks = c.args.blocks.now in
    let k = c.loop-k.k in
    let node = c.index-nodes-k.result in
    let is : slice_get nodes k ≡ Some node = slice_get_at nodes k node (omega (arith, c.loop-k-test.true, c.requires)) c.index-nodes-k.is in
    let there : is_input node.op ≡ true → c.loop-k.input < length blocks = search rules in
    let shape : is_input node.op ≡ true → (block_at blocks c.loop-k.input).shape ≡ node.shape = search rules in
    record {
      input = c.next_input-input.ensures ∙ ap (next_input node.op) c.loop-k.invariant.input ∙ sym (inputs-next nodes k node is);
      few = omega (arith, c.next_input-input.ensures, next-few node.op c.loop-k.input, c.loop-k.invariant.few);
      blocks = blocks-more nodes k node blocks is (subst (λ j. is_input node.op ≡ true → HasBlock blocks j node) c.loop-k.invariant.input (λ i. record { there = there i; shape = shape i })) c.loop-k.invariant.blocks;
    }
