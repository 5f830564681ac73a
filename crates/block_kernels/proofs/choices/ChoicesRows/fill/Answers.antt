use Rattle.std.proofs.Common.{◌*◌, [], ◌∷◌, length, refl, ap, sym, ◌∙◌, arith}
use Rattle.nd_shape.specs.Index.{index_at}
use Rattle.nd_shape.specs.Broadcast.{broadcast}
use Rattle.block_kernels.proofs.Filling.{row-in, row-first, under-all, choice-fills}
use Rattle.block_kernels.proofs.choices.ChoicesRows.fill.Goals as goal

pub overflow_mul-start : goal.overflow_mul-start
overflow_mul-start c =
    omega (arith, row-first (broadcast (c.args.self.now.condition.now.shape ∷ c.args.self.now.first.now.shape ∷ c.args.self.now.second.now.shape ∷ [])) c.args.self.now.shape.now c.args.self.now.outer c.args.row (length c.args.out.now) c.requires.valid.shape_is c.requires.inside c.requires.room c.requires.some, c.dims-dims.ensures.limits.product)

pub unravel-requires-clause-inside : goal.unravel-requires-clause-inside
unravel-requires-clause-inside c = row-first (broadcast (c.args.self.now.condition.now.shape ∷ c.args.self.now.first.now.shape ∷ c.args.self.now.second.now.shape ∷ [])) c.args.self.now.shape.now c.args.self.now.outer c.args.row (length c.args.out.now) c.requires.valid.shape_is c.requires.inside c.requires.room c.requires.some

pub run_under-condition-requires-clause-outer : goal.run_under-condition-requires-clause-outer
run_under-condition-requires-clause-outer c = rw c.dims-dims.ensures.dims c.requires.valid.inside

pub run_under-condition-requires-clause-fits : goal.run_under-condition-requires-clause-fits
run_under-condition-requires-clause-fits c = rw c.dims-dims.ensures.dims c.requires.valid.condition_fits

pub run_under-condition-requires-clause-under : goal.run_under-condition-requires-clause-under
run_under-condition-requires-clause-under c = under-all (c.args.self.now.condition.now.shape ∷ c.args.self.now.first.now.shape ∷ c.args.self.now.second.now.shape ∷ []) c.args.self.now.condition.now.shape c.dims-dims.result.now 0 (omega arith) refl c.requires.valid.agree (c.requires.valid.shape_is ∙ sym c.dims-dims.ensures.dims)

pub run_under-condition-requires-clause-row : goal.run_under-condition-requires-clause-row
run_under-condition-requires-clause-row c = (row-in (broadcast (c.args.self.now.condition.now.shape ∷ c.args.self.now.first.now.shape ∷ c.args.self.now.second.now.shape ∷ [])) c.dims-dims.result.now c.args.self.now.outer c.args.row (length c.args.out.now) (c.requires.valid.shape_is ∙ sym c.dims-dims.ensures.dims) c.requires.inside c.requires.room).0

pub run_under-condition-requires-clause-len : goal.run_under-condition-requires-clause-len
run_under-condition-requires-clause-len c = (row-in (broadcast (c.args.self.now.condition.now.shape ∷ c.args.self.now.first.now.shape ∷ c.args.self.now.second.now.shape ∷ [])) c.dims-dims.result.now c.args.self.now.outer c.args.row (length c.args.out.now) (c.requires.valid.shape_is ∙ sym c.dims-dims.ensures.dims) c.requires.inside c.requires.room).1

pub run_under-condition-requires-clause-index : goal.run_under-condition-requires-clause-index
run_under-condition-requires-clause-index c = c.unravel.ensures.index ∙ ap (λ ns. index_at ns (c.args.row * length c.args.out.now)) (sym c.dims-dims.ensures.dims)

pub run_under-first-requires-clause-outer : goal.run_under-first-requires-clause-outer
run_under-first-requires-clause-outer c = rw c.dims-dims.ensures.dims c.requires.valid.inside

pub run_under-first-requires-clause-fits : goal.run_under-first-requires-clause-fits
run_under-first-requires-clause-fits c = rw c.dims-dims.ensures.dims c.requires.valid.first_fits

pub run_under-first-requires-clause-under : goal.run_under-first-requires-clause-under
run_under-first-requires-clause-under c = under-all (c.args.self.now.condition.now.shape ∷ c.args.self.now.first.now.shape ∷ c.args.self.now.second.now.shape ∷ []) c.args.self.now.first.now.shape c.dims-dims.result.now 1 (omega arith) refl c.requires.valid.agree (c.requires.valid.shape_is ∙ sym c.dims-dims.ensures.dims)

pub run_under-first-requires-clause-row : goal.run_under-first-requires-clause-row
run_under-first-requires-clause-row c = (row-in (broadcast (c.args.self.now.condition.now.shape ∷ c.args.self.now.first.now.shape ∷ c.args.self.now.second.now.shape ∷ [])) c.dims-dims.result.now c.args.self.now.outer c.args.row (length c.args.out.now) (c.requires.valid.shape_is ∙ sym c.dims-dims.ensures.dims) c.requires.inside c.requires.room).0

pub run_under-first-requires-clause-len : goal.run_under-first-requires-clause-len
run_under-first-requires-clause-len c = (row-in (broadcast (c.args.self.now.condition.now.shape ∷ c.args.self.now.first.now.shape ∷ c.args.self.now.second.now.shape ∷ [])) c.dims-dims.result.now c.args.self.now.outer c.args.row (length c.args.out.now) (c.requires.valid.shape_is ∙ sym c.dims-dims.ensures.dims) c.requires.inside c.requires.room).1

pub run_under-first-requires-clause-index : goal.run_under-first-requires-clause-index
run_under-first-requires-clause-index c = c.unravel.ensures.index ∙ ap (λ ns. index_at ns (c.args.row * length c.args.out.now)) (sym c.dims-dims.ensures.dims)

pub run_under-second-requires-clause-outer : goal.run_under-second-requires-clause-outer
run_under-second-requires-clause-outer c = rw c.dims-dims.ensures.dims c.requires.valid.inside

pub run_under-second-requires-clause-fits : goal.run_under-second-requires-clause-fits
run_under-second-requires-clause-fits c = rw c.dims-dims.ensures.dims c.requires.valid.second_fits

pub run_under-second-requires-clause-under : goal.run_under-second-requires-clause-under
run_under-second-requires-clause-under c = under-all (c.args.self.now.condition.now.shape ∷ c.args.self.now.first.now.shape ∷ c.args.self.now.second.now.shape ∷ []) c.args.self.now.second.now.shape c.dims-dims.result.now 2 (omega arith) refl c.requires.valid.agree (c.requires.valid.shape_is ∙ sym c.dims-dims.ensures.dims)

pub run_under-second-requires-clause-row : goal.run_under-second-requires-clause-row
run_under-second-requires-clause-row c = (row-in (broadcast (c.args.self.now.condition.now.shape ∷ c.args.self.now.first.now.shape ∷ c.args.self.now.second.now.shape ∷ [])) c.dims-dims.result.now c.args.self.now.outer c.args.row (length c.args.out.now) (c.requires.valid.shape_is ∙ sym c.dims-dims.ensures.dims) c.requires.inside c.requires.room).0

pub run_under-second-requires-clause-len : goal.run_under-second-requires-clause-len
run_under-second-requires-clause-len c = (row-in (broadcast (c.args.self.now.condition.now.shape ∷ c.args.self.now.first.now.shape ∷ c.args.self.now.second.now.shape ∷ [])) c.dims-dims.result.now c.args.self.now.outer c.args.row (length c.args.out.now) (c.requires.valid.shape_is ∙ sym c.dims-dims.ensures.dims) c.requires.inside c.requires.room).1

pub run_under-second-requires-clause-index : goal.run_under-second-requires-clause-index
run_under-second-requires-clause-index c = c.unravel.ensures.index ∙ ap (λ ns. index_at ns (c.args.row * length c.args.out.now)) (sym c.dims-dims.ensures.dims)

pub returns-clause-filled : goal.returns-clause-filled
returns-clause-filled c =
    let s = c.args.self.now in
    let z = c.run_under-condition.result in
    let x = c.run_under-first.result in
    let y = c.run_under-second.result in
    choice-fills s.condition.now s.first.now s.second.now c.dims-dims.result.now (c.args.row * length c.args.out.now) (length c.args.out.now) z.cells.now x.cells.now y.cells.now c.fill_choice.new.out z.single x.single y.single
    (c.requires.valid.shape_is ∙ sym c.dims-dims.ensures.dims) c.run_under-condition.ensures.each c.run_under-first.ensures.each c.run_under-second.ensures.each c.fill_choice.ensures.each
