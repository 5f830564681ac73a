use Rattle.std.proofs.Common.{arith, ap, sym, subst, ℕ, List, ◌+◌, ◌<◌, ◌^◌, ◌≤◌, length, get_or}
use Rattle.std.specs.Prelude.{All}
use Rattle.nd_shape.proofs.Places.{IsIn-length}
use Rattle.nd_grid.proofs.Turning.{moved-in, moved-small}
use Rattle.array_expr.specs.Elem.{array_at}
use Rattle.plain_eval.proofs.making.PartFormula.at.Goals as goal

pub index_moved-requires-clause-index : goal.index_moved-requires-clause-index
index_moved-requires-clause-index c =
    omega (arith, IsIn-length c.args.self.now.region.now.lengths c.args.index.now c.requires.inside, c.requires.valid.inside.starts, c.requires.valid.inside.lengths, ap length c.starts.ensures.value)

pub index_moved-requires-clause-fits : goal.index_moved-requires-clause-fits
index_moved-requires-clause-fits c =
    let P : List ℕ → Type 0 = λ ss. (k : ℕ) → k < length ss → get_or ss k 0 + get_or c.args.index.now k 0 < 2 ^ 64 in
    let small : All (λ n. n ≤ 2 ^ 31) (array_at c.args.self.now.known.now c.args.self.now.of).shape = subst (All (λ n. n ≤ 2 ^ 31)) c.dims_of-dims.ensures.value c.dims_of-dims.ensures.limits.lengths in
    subst P (sym c.starts.ensures.value) (moved-small c.args.self.now.region.now (array_at c.args.self.now.known.now c.args.self.now.of).shape c.args.index.now c.requires.valid.inside small c.requires.inside)

pub element_of-requires-clause-inside : goal.element_of-requires-clause-inside
element_of-requires-clause-inside c = rw (c.index_moved.ensures, c.starts.ensures.value) (moved-in c.args.self.now.region.now (array_at c.args.self.now.known.now c.args.self.now.of).shape c.args.index.now c.requires.valid.inside c.requires.inside)
