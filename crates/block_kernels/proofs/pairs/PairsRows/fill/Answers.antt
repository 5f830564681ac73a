use Rattle.std.proofs.Common.{◌*◌, [], ◌∷◌, length, refl, ap, sym, ◌∙◌, arith}
use Rattle.nd_shape.specs.Index.{index_at}
use Rattle.nd_shape.specs.Broadcast.{broadcast}
use Rattle.block_kernels.proofs.Filling.{none-map, some-map, row-in, row-first, under-all, pair-fills, pair-misses}
use Rattle.block_kernels.proofs.pairs.PairsRows.fill.Goals as goal

pub overflow_mul-start : goal.overflow_mul-start
overflow_mul-start c =
    omega (arith, row-first (broadcast (c.args.self.now.left.now.shape ∷ c.args.self.now.right.now.shape ∷ [])) c.args.self.now.shape.now c.args.self.now.outer c.args.row (length c.args.out.now) c.requires.valid.shape_is c.requires.inside c.requires.room c.requires.some, c.dims-dims.ensures.limits.product)

pub unravel-requires-clause-inside : goal.unravel-requires-clause-inside
unravel-requires-clause-inside c = row-first (broadcast (c.args.self.now.left.now.shape ∷ c.args.self.now.right.now.shape ∷ [])) c.args.self.now.shape.now c.args.self.now.outer c.args.row (length c.args.out.now) c.requires.valid.shape_is c.requires.inside c.requires.room c.requires.some

pub run_under-left-requires-clause-outer : goal.run_under-left-requires-clause-outer
run_under-left-requires-clause-outer c = rw c.dims-dims.ensures.dims c.requires.valid.inside

pub run_under-left-requires-clause-fits : goal.run_under-left-requires-clause-fits
run_under-left-requires-clause-fits c = rw c.dims-dims.ensures.dims c.requires.valid.left_fits

pub run_under-left-requires-clause-under : goal.run_under-left-requires-clause-under
run_under-left-requires-clause-under c = under-all (c.args.self.now.left.now.shape ∷ c.args.self.now.right.now.shape ∷ []) c.args.self.now.left.now.shape c.dims-dims.result.now 0 (omega arith) refl c.requires.valid.agree (c.requires.valid.shape_is ∙ sym c.dims-dims.ensures.dims)

pub run_under-left-requires-clause-row : goal.run_under-left-requires-clause-row
run_under-left-requires-clause-row c = (row-in (broadcast (c.args.self.now.left.now.shape ∷ c.args.self.now.right.now.shape ∷ [])) c.dims-dims.result.now c.args.self.now.outer c.args.row (length c.args.out.now) (c.requires.valid.shape_is ∙ sym c.dims-dims.ensures.dims) c.requires.inside c.requires.room).0

pub run_under-left-requires-clause-len : goal.run_under-left-requires-clause-len
run_under-left-requires-clause-len c = (row-in (broadcast (c.args.self.now.left.now.shape ∷ c.args.self.now.right.now.shape ∷ [])) c.dims-dims.result.now c.args.self.now.outer c.args.row (length c.args.out.now) (c.requires.valid.shape_is ∙ sym c.dims-dims.ensures.dims) c.requires.inside c.requires.room).1

pub run_under-left-requires-clause-index : goal.run_under-left-requires-clause-index
run_under-left-requires-clause-index c = c.unravel.ensures.index ∙ ap (λ ns. index_at ns (c.args.row * length c.args.out.now)) (sym c.dims-dims.ensures.dims)

pub run_under-right-requires-clause-outer : goal.run_under-right-requires-clause-outer
run_under-right-requires-clause-outer c = rw c.dims-dims.ensures.dims c.requires.valid.inside

pub run_under-right-requires-clause-fits : goal.run_under-right-requires-clause-fits
run_under-right-requires-clause-fits c = rw c.dims-dims.ensures.dims c.requires.valid.right_fits

pub run_under-right-requires-clause-under : goal.run_under-right-requires-clause-under
run_under-right-requires-clause-under c = under-all (c.args.self.now.left.now.shape ∷ c.args.self.now.right.now.shape ∷ []) c.args.self.now.right.now.shape c.dims-dims.result.now 1 (omega arith) refl c.requires.valid.agree (c.requires.valid.shape_is ∙ sym c.dims-dims.ensures.dims)

pub run_under-right-requires-clause-row : goal.run_under-right-requires-clause-row
run_under-right-requires-clause-row c = (row-in (broadcast (c.args.self.now.left.now.shape ∷ c.args.self.now.right.now.shape ∷ [])) c.dims-dims.result.now c.args.self.now.outer c.args.row (length c.args.out.now) (c.requires.valid.shape_is ∙ sym c.dims-dims.ensures.dims) c.requires.inside c.requires.room).0

pub run_under-right-requires-clause-len : goal.run_under-right-requires-clause-len
run_under-right-requires-clause-len c = (row-in (broadcast (c.args.self.now.left.now.shape ∷ c.args.self.now.right.now.shape ∷ [])) c.dims-dims.result.now c.args.self.now.outer c.args.row (length c.args.out.now) (c.requires.valid.shape_is ∙ sym c.dims-dims.ensures.dims) c.requires.inside c.requires.room).1

pub run_under-right-requires-clause-index : goal.run_under-right-requires-clause-index
run_under-right-requires-clause-index c = c.unravel.ensures.index ∙ ap (λ ns. index_at ns (c.args.row * length c.args.out.now)) (sym c.dims-dims.ensures.dims)

pub returns-clause-filled : goal.returns-clause-filled
returns-clause-filled c =
    let s = c.args.self.now in
    let x = c.run_under-left.result in
    let y = c.run_under-right.result in
    none-map c.fill_binary.result (λ a.
    pair-fills s.op s.left.now s.right.now c.dims-dims.result.now (c.args.row * length c.args.out.now) (length c.args.out.now) x.cells.now y.cells.now c.fill_binary.new.out x.single y.single (c.requires.valid.shape_is ∙ sym c.dims-dims.ensures.dims)
    c.run_under-left.ensures.each c.run_under-right.ensures.each c.fill_binary.ensures.len a) c.fill_binary.ensures.none

pub returns-clause-missing : goal.returns-clause-missing
returns-clause-missing c =
    let s = c.args.self.now in
    let x = c.run_under-left.result in
    let y = c.run_under-right.result in
    some-map c.fill_binary.result (λ z a.
    pair-misses s.op s.left.now s.right.now c.dims-dims.result.now (c.args.row * length c.args.out.now) (length c.args.out.now) z x.cells.now y.cells.now x.single y.single (c.requires.valid.shape_is ∙ sym c.dims-dims.ensures.dims)
    c.run_under-left.ensures.each c.run_under-right.ensures.each a) c.fill_binary.ensures.some
