use Rattle.std.proofs.Common.{◌≡◌, ◌<◌, ◌≤◌, ◌^◌, true, length, Some, slice_get, ap, sym, subst, refl, ◌∙◌, arith, inr, rules}
use Rattle.small_facts.proofs.Options.{slice_get_at}
use Rattle.array_expr.specs.Elem.{is_input, next_input}
use Rattle.plain_eval.proofs.Arrays.{inputs-next, next-few}
use Rattle.plain_eval.specs.Eval.{inputs_before}
use Rattle.plain_block.specs.Files.{head_at}
use Rattle.array_table.proofs.FirstInputs.{HasFile, files-none, files-more}
use Rattle.array_table.proofs.inputs.have_files.Goals as goal

pub loop-k-init : goal.loop-k-init
loop-k-init c = record { input = refl; few = omega arith; files = λ held e. files-none c.args.nodes.now held c.args.heads.now }

pub loop-k-preserved : goal.loop-k-preserved
loop-k-preserved c =
    let nodes = c.args.nodes.now in
    let heads = c.args.heads.now in
    let k = c.loop-k.k in
    let node = c.index-nodes-k.result in
    let is : slice_get nodes k ≡ Some node = slice_get_at nodes k node (omega (arith, c.loop-k-test.true, c.requires)) c.index-nodes-k.is in
    let file : is_input node.op ≡ true → c.loop-k.input < c.args.files = search rules in
    let head : is_input node.op ≡ true → c.loop-k.input < length heads = search rules in
    let shape : is_input node.op ≡ true → (head_at heads c.loop-k.input).shape ≡ node.shape = search rules in
    let near : is_input node.op ≡ true → (head_at heads c.loop-k.input).data_at ≤ 2 ^ 21 = search rules in
    let width : is_input node.op ≡ true → (head_at heads c.loop-k.input).width ≡ 8 = search rules in
    let has : is_input node.op ≡ true → HasFile c.args.files heads c.loop-k.input node = λ i. record { file = file i; head = head i; shape = shape i; near = near i; width = inr (inr (inr (width i))) } in
    record {
      input = c.next_input-input.ensures ∙ ap (next_input node.op) c.loop-k.invariant.input ∙ sym (inputs-next nodes k node is);
      few = omega (arith, c.next_input-input.ensures, next-few node.op c.loop-k.input, c.loop-k.invariant.few);
      files = λ held e. files-more nodes k node held heads is
          (subst (λ n. is_input node.op ≡ true → HasFile n heads (inputs_before nodes k) node) (sym e) (subst (λ j. is_input node.op ≡ true → HasFile c.args.files heads j node) c.loop-k.invariant.input has)) (c.loop-k.invariant.files held e);
    }
