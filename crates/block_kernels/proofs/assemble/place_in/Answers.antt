use Rattle.std.proofs.Common.{arith, ap, sym, subst, ◌∙◌, ℕ, List, ◌+◌, ◌<◌, ◌^◌, length, get_or}
use Rattle.nd_shape.specs.Index.{IsIn, place}
use Rattle.nd_shape.specs.Region.{moved}
use Rattle.nd_shape.proofs.Places.{IsIn-length}
use Rattle.nd_grid.proofs.Turning.{moved-in, moved-small}
use Rattle.block_kernels.proofs.assemble.place_in.Goals as goal

pub index_moved-requires-clause-index : goal.index_moved-requires-clause-index
index_moved-requires-clause-index c =
    omega (arith, IsIn-length c.args.lengths.now c.unravel.new.index c.unravel.ensures.inside, ap length c.requires.same, c.requires.part.starts, c.requires.part.lengths, ap length c.starts.ensures.value)

pub index_moved-requires-clause-fits : goal.index_moved-requires-clause-fits
index_moved-requires-clause-fits c =
    let P : List ℕ → Type 0 = λ ss. (k : ℕ) → k < length ss → get_or ss k 0 + get_or c.unravel.new.index k 0 < 2 ^ 64 in
    subst P (sym c.starts.ensures.value)
    (moved-small c.args.region.now c.args.whole.now c.unravel.new.index c.requires.part c.dims-2.ensures.limits.lengths (subst (λ ns. IsIn ns c.unravel.new.index) c.requires.same c.unravel.ensures.inside))

pub ravel-requires : goal.ravel-requires
ravel-requires c = rw (c.index_moved.ensures, c.starts.ensures.value) (moved-in c.args.region.now c.args.whole.now c.unravel.new.index c.requires.part (subst (λ ns. IsIn ns c.unravel.new.index) c.requires.same c.unravel.ensures.inside))

pub returns : goal.returns
returns c =
    c.ravel.ensures.place
    ∙ ap (place c.args.whole.now) (c.index_moved.ensures ∙ ap (λ ss. moved ss c.unravel.new.index) c.starts.ensures.value ∙ ap (moved c.args.region.now.start) c.unravel.ensures.index)
