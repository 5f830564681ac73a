use Rattle.std.proofs.Common.{arith, ◌≡◌, ◌<◌, List, ℕ, length, subst}
use Rattle.std.proofs.lemmas.Option.{slice_get_within}
use Rattle.chunk_layout.specs.Refusals.{AreCut}
use Rattle.chunk_layout.proofs.Normals.{count-more, cut-more}
use Rattle.chunk_layout.proofs.normal.blocks_of.Goals as goal

pub loop-axis-preserved : goal.loop-axis-preserved
loop-axis-preserved c = record {
  cut = cut-more c.dims-dims.result.now c.args.specs.now c.loop-axis.axis c.index-specs-axis.result c.index-specs-axis.is c.in-Ok.ensures.cut c.loop-axis.invariant.cut;
  count_is = count-more c.dims-dims.result.now c.args.specs.now c.loop-axis.axis c.loop-axis.count c.in-Ok.chunks c.saturating_mul-count.result
      c.index-specs-axis.result (omega arith) (omega arith) c.index-specs-axis.is c.loop-axis.invariant.count_is c.in-Ok.ensures.ok c.saturating_mul-count.ensures;
}

pub returns-clause-cut : goal.returns-clause-cut
returns-clause-cut c =
    let n : length c.args.specs.now ≡ length c.dims-dims.result.now = omega arith in
    subst (λ (dims : List ℕ). AreCut dims c.args.specs.now) c.dims-dims.ensures.dims (record {
      axes = n;
      each = λ k spec e. let b : k < length c.args.specs.now = slice_get_within c.args.specs.now k spec e in c.loop-axis.invariant.cut k spec (omega arith) e;
    })
