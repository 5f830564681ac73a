use Rattle.std.proofs.Common.{◌≡◌, ℕ, ◌+◌, ◌*◌, ◌^◌, ◌<◌, List, length, get_or, ap, sym, subst, ◌∙◌, arith, rules}
use Rattle.nd_shape.specs.Index.{IsIn, place, index_at}
use Rattle.nd_shape.specs.Region.{moved}
use Rattle.nd_grid.proofs.Turning.{moved-in, moved-small}
use Rattle.block_kernels.proofs.Filling.{row-in, row-first, row-short, slope-fills, slope-made}
use Rattle.block_kernels.proofs.slope.SlopeRows.fill.Goals as goal

pub overflow_mul-start : goal.overflow_mul-start
overflow_mul-start c = omega (arith, row-first c.args.self.now.region.now.lengths c.args.self.now.shape.now c.args.self.now.outer c.args.row (length c.args.out.now) c.requires.valid.shape_is c.requires.inside c.requires.room c.requires.some, c.dims-dims.ensures.limits.product)

pub unravel-requires-clause-inside : goal.unravel-requires-clause-inside
unravel-requires-clause-inside c = row-first c.args.self.now.region.now.lengths c.args.self.now.shape.now c.args.self.now.outer c.args.row (length c.args.out.now) c.requires.valid.shape_is c.requires.inside c.requires.room c.requires.some

pub index_moved-requires-clause-fits : goal.index_moved-requires-clause-fits
index_moved-requires-clause-fits c =
    let P : List ℕ → Type 0 = λ ss. (k : ℕ) → k < length ss → get_or ss k 0 + get_or c.unravel.new.index k 0 < 2 ^ 64 in
    let inside : IsIn c.args.self.now.region.now.lengths c.unravel.new.index = subst (λ (ms : List ℕ). IsIn ms c.unravel.new.index) (sym c.requires.valid.shape_is) c.unravel.ensures.inside in
    subst P (sym c.starts.ensures.value) (moved-small c.args.self.now.region.now c.args.self.now.whole.now c.unravel.new.index c.requires.valid.part c.dims.ensures.limits.lengths inside)

pub ravel-place-requires : goal.ravel-place-requires
ravel-place-requires c =
    let inside : IsIn c.args.self.now.region.now.lengths c.unravel.new.index = subst (λ (ms : List ℕ). IsIn ms c.unravel.new.index) (sym c.requires.valid.shape_is) c.unravel.ensures.inside in
    rw (c.index_moved.ensures, c.starts.ensures.value) (moved-in c.args.self.now.region.now c.args.self.now.whole.now c.unravel.new.index c.requires.valid.part inside)

pub on_slope-requires : goal.on_slope-requires
on_slope-requires c = omega (arith, c.ravel-place.ensures.inside, c.dims.ensures.limits.product)

pub fill_slope-requires : goal.fill_slope-requires
fill_slope-requires c = omega (arith, row-short c.args.self.now.region.now.lengths c.args.self.now.shape.now c.args.self.now.outer c.args.row (length c.args.out.now) c.requires.valid.shape_is c.requires.inside c.requires.room c.requires.some, c.dims-dims.ensures.limits.product)

pub returns-clause-filled : goal.returns-clause-filled
returns-clause-filled c =
    let s = c.args.self.now in
    let box = c.args.self.now.region.now in
    let n = length c.args.out.now in
    let r = row-in box.lengths s.shape.now s.outer c.args.row n c.requires.valid.shape_is c.requires.inside c.requires.room in
    let e0 : c.ravel-place.result ≡ place s.whole.now (moved box.start (index_at s.shape.now (c.args.row * n))) =
    c.ravel-place.ensures.place ∙ ap (place s.whole.now) (c.index_moved.ensures ∙ ap (λ (ss : List ℕ). moved ss c.unravel.new.index) c.starts.ensures.value ∙ ap (moved box.start) c.unravel.ensures.index) in
    let lengths : length box.lengths ≡ length s.shape.now = ap length c.requires.valid.shape_is in
    slope-fills box s.whole.now s.shape.now s.outer c.args.row n c.ravel-place.result s.start s.step c.fill_slope.new.out (omega (arith, c.requires.valid.part.lengths, lengths)) (omega (arith, c.requires.valid.part.starts, c.requires.valid.part.lengths, lengths))
    c.requires.valid.shape_is c.requires.valid.outer_is r.0 r.1 e0
    (slope-made s.start s.step c.on_slope.result c.ravel-place.result n c.fill_slope.new.out (search rules) (search rules) (record { sfits = c.on_slope.type_inv }) c.on_slope.ensures c.fill_slope.ensures.each)
