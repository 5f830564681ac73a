use Rattle.std.proofs.Common.{arith, ◌≡◌, ◌≤◌, ◌^◌, List, sym, ap, subst, ◌∙◌}
use Rattle.nd_shape.specs.Chunk.{total}
use Rattle.chunk_layout.specs.Cuts.{IsCut}
use Rattle.chunk_layout.specs.Slices.{Taken, counts_taken, taken_of}
use Rattle.chunk_layout.proofs.Running.{taken_is_cut, total-taken}
use Rattle.chunk_layout.proofs.slices.slice_of.Goals as goal

pub counts_of-requires : goal.counts_of-requires
counts_of-requires c =
    let e : c.as_slice.result.now ≡ taken_of c.args.cuts.now c.args.steps = c.as_slice.ensures.value ∙ c.in_ok-pieces.ensures in
    let t : total (counts_taken c.as_slice.result.now) ≡ total (counts_taken (taken_of c.args.cuts.now c.args.steps)) = ap (λ (ps : List Taken). total (counts_taken ps)) e in
    let b : total (counts_taken (taken_of c.args.cuts.now c.args.steps)) ≤ total c.args.cuts.now = total-taken c.args.cuts.now c.args.steps c.requires in
    let s : total c.args.cuts.now ≤ 2 ^ 31 = c.sizes.ensures.cut.small in
    omega arith

pub of-requires : goal.of-requires
of-requires c =
    let e : c.as_slice.result.now ≡ taken_of c.args.cuts.now c.args.steps = c.as_slice.ensures.value ∙ c.in_ok-pieces.ensures in
    subst IsCut (sym (c.in_ok-sizes.ensures ∙ ap counts_taken e)) (taken_is_cut c.args.cuts.now c.args.steps c.sizes.ensures.cut c.requires)

pub returns-in_err-pieces-clause-cut : goal.returns-in_err-pieces-clause-cut
returns-in_err-pieces-clause-cut c = taken_is_cut c.args.cuts.now c.args.steps c.sizes.ensures.cut c.requires

pub returns-in_err-sizes-clause-cut : goal.returns-in_err-sizes-clause-cut
returns-in_err-sizes-clause-cut c = taken_is_cut c.args.cuts.now c.args.steps c.sizes.ensures.cut c.requires
