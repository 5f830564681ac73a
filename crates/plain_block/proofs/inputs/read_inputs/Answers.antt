use Rattle.std.proofs.Common.{◌≡◌, length, take, subst, ◌∙◌, arith, Option}
use Rattle.std.proofs.lemmas.List.{length-take-le}
use Rattle.std.proofs.lemmas.Result.{err_from_is_err_and}
use Rattle.small_facts.proofs.Options.{slice_get_at}
use Rattle.io_edge.specs.Content.{file_at}
use Rattle.nd_shape.specs.Region.{Box}
use Rattle.array_expr.specs.Elem.{is_input}
use Rattle.input_regions.specs.Needed.{region_at}
use Rattle.plain_block.specs.Files.{AddsBlock, IsRefusedRegion, head_at}
use Rattle.plain_block.proofs.Reading.{inputs-few, read-more, refused-at, region-part, read-region}
use Rattle.plain_block.proofs.inputs.read_inputs.Goals as goal

pub read_input-requires-clause-few : goal.read_input-requires-clause-few
read_input-requires-clause-few g c =
    omega (arith, c.loop-k.invariant.read.number, inputs-few 0 (take c.loop-k.k c.args.nodes.now), length-take-le c.loop-k.k c.args.nodes.now (omega (arith, c.loop-k-test.true, c.requires.inside)), c.loop-k-test.true, c.requires.inside, c.requires.sound.count)

pub read_input-requires-clause-file : goal.read_input-requires-clause-file
read_input-requires-clause-file g c = λ i.
    let is = slice_get_at c.args.nodes.now c.loop-k.k c.index-nodes-k.result (omega (arith, c.loop-k-test.true, c.requires.inside)) c.index-nodes-k.is in
    rw (c.loop-k.invariant.read.number, c.loop-k.invariant.same) (c.requires.files.file c.loop-k.k c.index-nodes-k.result c.loop-k-test.true is i)

pub read_input-requires-clause-head : goal.read_input-requires-clause-head
read_input-requires-clause-head g c = λ i.
    let is = slice_get_at c.args.nodes.now c.loop-k.k c.index-nodes-k.result (omega (arith, c.loop-k-test.true, c.requires.inside)) c.index-nodes-k.is in
    rw c.loop-k.invariant.read.number (c.requires.files.head c.loop-k.k c.index-nodes-k.result c.loop-k-test.true is i)

pub read_input-requires-clause-near : goal.read_input-requires-clause-near
read_input-requires-clause-near g c = λ i.
    let is = slice_get_at c.args.nodes.now c.loop-k.k c.index-nodes-k.result (omega (arith, c.loop-k-test.true, c.requires.inside)) c.index-nodes-k.is in
    rw c.loop-k.invariant.read.number (c.requires.files.near c.loop-k.k c.index-nodes-k.result c.loop-k-test.true is i)

pub read_input-requires-clause-width : goal.read_input-requires-clause-width
read_input-requires-clause-width g c = λ i.
    let is = slice_get_at c.args.nodes.now c.loop-k.k c.index-nodes-k.result (omega (arith, c.loop-k-test.true, c.requires.inside)) c.index-nodes-k.is in
    rw c.loop-k.invariant.read.number (c.requires.files.width c.loop-k.k c.index-nodes-k.result c.loop-k-test.true is i)

pub read_input-requires-clause-part : goal.read_input-requires-clause-part
read_input-requires-clause-part g c = λ i.
    let is = slice_get_at c.args.nodes.now c.loop-k.k c.index-nodes-k.result (omega (arith, c.loop-k-test.true, c.requires.inside)) c.index-nodes-k.is in
    region-part c.args.nodes.now c.args.regions.now (length c.args.regions.now) (g.S.Store.files c.args.store.now) c.args.heads.now c.loop-k.k c.index-nodes-k.result (length c.loop-k.blocks.items) c.index-regions-k.result c.requires.fit c.requires.files c.loop-k-test.true is i
    c.loop-k.invariant.read.number (read-region c.args.regions.now c.loop-k.k c.index-regions-k.result c.loop-k-test.true c.index-regions-k.is)

pub loop-k-preserved : goal.loop-k-preserved
loop-k-preserved g c =
    let node = c.index-nodes-k.result in
    let is = slice_get_at c.args.nodes.now c.loop-k.k node (omega (arith, c.loop-k-test.true, c.requires.inside)) c.index-nodes-k.is in
    let r : c.index-regions-k.result ≡ region_at c.args.regions.now c.loop-k.k = read-region c.args.regions.now c.loop-k.k c.index-regions-k.result c.loop-k-test.true c.index-regions-k.is in
    let j = length c.loop-k.blocks.items in
    record {
      same = c.read_input.ensures.same ∙ c.loop-k.invariant.same;
      kept = c.in_ok-read_input.ensures.kept ∙ c.loop-k.invariant.kept;
      read = read-more c.args.nodes.now c.loop-k.k node (g.S.Store.files c.args.store.now) c.args.heads.now c.args.regions.now c.loop-k.blocks.items c.read_input.new.blocks.items is
          (subst (λ (x : Option Box). AddsBlock (file_at (g.S.Store.files c.args.store.now) j) (head_at c.args.heads.now j) x (is_input node.op) c.loop-k.blocks.items c.read_input.new.blocks.items) r
          (rw c.loop-k.invariant.same at c.in_ok-read_input.ensures.block)) c.loop-k.invariant.read;
    }

pub returns-in_err-read_input-clause-refused : goal.returns-in_err-read_input-clause-refused
returns-in_err-read_input-clause-refused g c =
    let node = c.index-nodes-k.result in
    let is = slice_get_at c.args.nodes.now c.loop-k.k node (omega (arith, c.loop-k-test.true, c.requires.inside)) c.index-nodes-k.is in
    let r : c.index-regions-k.result ≡ region_at c.args.regions.now c.loop-k.k = read-region c.args.regions.now c.loop-k.k c.index-regions-k.result c.loop-k-test.true c.index-regions-k.is in
    let p = err_from_is_err_and c.from_residual.result c.from_residual.ensures.1 in
    let j = length c.loop-k.blocks.items in
    rw (p.1, p.2)
    (refused-at c.args.nodes.now (g.S.Store.files c.args.store.now) c.args.heads.now c.args.regions.now c.loop-k.blocks.items (length c.args.regions.now) c.loop-k.k node c.in_err-read_input.field-0.0 c.loop-k.invariant.read c.loop-k-test.true is
    c.in_err-read_input.ensures.input
    (subst (λ (x : Option Box). IsRefusedRegion (file_at (g.S.Store.files c.args.store.now) j) (head_at c.args.heads.now j) x c.in_err-read_input.field-0.0) r (rw c.loop-k.invariant.same at c.in_err-read_input.ensures.refused)))
