use Rattle.std.proofs.Common.{arith, ap, sym, subst, ℕ, List, ◌+◌, ◌<◌, ◌^◌, length, get_or}
use Rattle.nd_shape.proofs.Places.{IsIn-length}
use Rattle.nd_grid.proofs.Turning.{moved-in, moved-small}
use Rattle.nd_grid.proofs.plain.SlopeFormula.at.Goals as goal

pub index_moved-requires-clause-index : goal.index_moved-requires-clause-index
index_moved-requires-clause-index c =
    omega (arith, IsIn-length c.args.self.now.region.now.lengths c.args.index.now c.requires.inside, c.requires.valid.starts, c.requires.valid.lengths, ap length c.starts.ensures.value)

pub index_moved-requires-clause-fits : goal.index_moved-requires-clause-fits
index_moved-requires-clause-fits c =
    let P : List ℕ → Type 0 = λ ss. (k : ℕ) → k < length ss → get_or ss k 0 + get_or c.args.index.now k 0 < 2 ^ 64 in
    subst P (sym c.starts.ensures.value) (moved-small c.args.self.now.region.now c.args.self.now.shape.now c.args.index.now c.requires.valid c.dims-dims.ensures.limits.lengths c.requires.inside)

pub ravel-place-requires : goal.ravel-place-requires
ravel-place-requires c = rw (c.index_moved.ensures, c.starts.ensures.value) (moved-in c.args.self.now.region.now c.args.self.now.shape.now c.args.index.now c.requires.valid c.requires.inside)
