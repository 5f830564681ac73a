use Rattle.std.proofs.Common.{◌≡◌, length, ap, ◌∙◌, sym, arith}
use Rattle.std.specs.Prelude.{IfErr}
use Rattle.std.proofs.lemmas.Result.{IfErr-weaker}
use Rattle.nd_shape.specs.Shape.{elements}
use Rattle.nd_shape.specs.Index.{index_at}
use Rattle.chunk_layout.specs.Layouts.{lengths_at}
use Rattle.lowering_laws.specs.Stages.{folded_tasks}
use Rattle.block_lowering.specs.Growing.{Refuses}
use Rattle.block_lowering.proofs.Refusing.{refuses-same}
use Rattle.block_lowering.proofs.FoldedBlocks.{block-same, all-written}
use Rattle.block_lowering.proofs.folds.push_block_at.Goals as goal

pub returns-clause-err : goal.returns-clause-err
returns-clause-err g c =
    let f = c.args.folding.now in
    let n = elements f.counts.now in
    let old = c.args.graph.now in
    let bs = index_at c.args.counts.now c.args.place in
    let all = all-written c.numbers_of.new.numbers c.in_ok-numbers.numbers.items c.in_ok-numbers.numbers.len (omega arith) in
    let own : c.as_slice-2.result.now ≡ bs = c.as_slice-2.ensures.value ∙ all ∙ c.numbers_of.ensures.value in
    let first : c.as_slice.result.now ≡ bs = c.as_slice.ensures.value ∙ all ∙ c.numbers_of.ensures.value in
    let dims : c.in_ok-dims.dims ≡ lengths_at c.args.layout.now c.as_slice-2.result.now =
    c.in_ok-dims.ensures ∙ ap (λ layout. lengths_at layout c.as_slice.result.now) c.axes.ensures.value ∙ ap (lengths_at c.args.layout.now) (first ∙ sym own) in
    let r : IfErr c.push_block.result (Refuses old (folded_tasks f.fold n f.split (λ p. g.P.Parted.part_of c.args.of.now c.as_slice-2.result.now (index_at f.counts.now p)) c.in_ok-dims.dims (length old))) = c.push_block.ensures.err in
    IfErr-weaker c.push_block.result _ _
    (λ e r. refuses-same old _ _ e (block-same f.fold n f.split (λ bs p. g.P.Parted.part_of c.args.of.now bs (index_at f.counts.now p)) c.args.layout.now bs c.as_slice-2.result.now c.in_ok-dims.dims (length old) own dims) r)
    r
