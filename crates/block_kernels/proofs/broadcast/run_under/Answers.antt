use Rattle.std.proofs.Common.{◌≡◌, ℕ, ◌+◌, ◌*◌, List, length, get_or, cond, ap, sym, ◌∙◌, arith, ℤ, pos, Some, Bool}
use Rattle.nd_shape.specs.Index.{place, index_at}
use Rattle.nd_shape.proofs.Places.{index_at-in}
use Rattle.nd_grid.specs.Grid.{under}
use Rattle.block_kernels.specs.Rows.{item}
use Rattle.block_kernels.proofs.Broadcasts.{length-index_at}
use Rattle.block_kernels.proofs.RunLemmas.{few-axes, first-in, has-run}
use Rattle.block_kernels.proofs.broadcast.run_under.Goals as goal

pub index_under-requires-clause-axes : goal.index_under-requires-clause-axes
index_under-requires-clause-axes c =
    let bs = c.args.shape.now in
    let p = c.args.row * c.args.len in
    omega (
      arith,
      ap length c.dims-dims.ensures.dims,
      ap length c.shape.ensures.value,
      few-axes c.args.block.now.shape bs p (first-in bs c.args.outer c.args.row c.args.len c.requires.row c.requires.len c.requires.some) c.requires.under,
      ap length c.requires.index,
      length-index_at bs p,
    )

pub ravel-at-requires : goal.ravel-at-requires
ravel-at-requires c =
    let bs = c.args.shape.now in
    let p = c.args.row * c.args.len in
    let e : c.index_under.new.own ≡ under c.args.block.now.shape (index_at bs p) =
    c.index_under.ensures ∙ ap (λ (ns : List ℕ). under ns c.args.index.now) (c.dims-dims.ensures.dims ∙ c.shape.ensures.value) ∙ ap (under c.args.block.now.shape) c.requires.index in
    rw (c.shape-2.ensures.value, e) (c.requires.under (index_at bs p) (index_at-in bs p (first-in bs c.args.outer c.args.row c.args.len c.requires.row c.requires.len c.requires.some)))

pub run_at-requires : goal.run_at-requires
run_at-requires c =
    let bs = c.args.shape.now in
    let p = c.args.row * c.args.len in
    let dims : c.dims-dims.result.now ≡ c.args.block.now.shape = c.dims-dims.ensures.dims ∙ c.shape.ensures.value in
    let e : c.index_under.new.own ≡ under c.args.block.now.shape (index_at bs p) =
    c.index_under.ensures ∙ ap (λ (ns : List ℕ). under ns c.args.index.now) dims ∙ ap (under c.args.block.now.shape) c.requires.index in
    let at : c.ravel-at.result ≡ place c.args.block.now.shape c.index_under.new.own = c.ravel-at.ensures.place ∙ ap (λ (ns : List ℕ). place ns c.index_under.new.own) c.shape-2.ensures.value in
    let h = has-run c.args.block.now bs c.dims-dims.result.now c.index_under.new.own c.args.outer c.args.row c.args.len c.ravel-at.result c.is_single-single.result c.requires.outer c.requires.fits c.is_single-single.ensures c.requires.row c.requires.len c.requires.some
    c.requires.under dims e at in
    omega (arith, h.inside, ap length c.cells.ensures.value, c.cells.ensures.cells)

pub returns-clause-each : goal.returns-clause-each
returns-clause-each c =
    let bs = c.args.shape.now in
    let p = c.args.row * c.args.len in
    let dims : c.dims-dims.result.now ≡ c.args.block.now.shape = c.dims-dims.ensures.dims ∙ c.shape.ensures.value in
    let e : c.index_under.new.own ≡ under c.args.block.now.shape (index_at bs p) =
    c.index_under.ensures ∙ ap (λ (ns : List ℕ). under ns c.args.index.now) dims ∙ ap (under c.args.block.now.shape) c.requires.index in
    let at : c.ravel-at.result ≡ place c.args.block.now.shape c.index_under.new.own = c.ravel-at.ensures.place ∙ ap (λ (ns : List ℕ). place ns c.index_under.new.own) c.shape-2.ensures.value in
    let h = has-run c.args.block.now bs c.dims-dims.result.now c.index_under.new.own c.args.outer c.args.row c.args.len c.ravel-at.result c.is_single-single.result c.requires.outer c.requires.fits c.is_single-single.ensures c.requires.row c.requires.len c.requires.some
    c.requires.under dims e at in
    λ r b.
    h.each r b
    ∙ ap Some (sym (ap (λ (s : Bool). item c.run_at.result.cells.now s r) c.run_at.ensures.single ∙ c.run_at.ensures.each r b ∙ ap (λ (xs : List ℤ). get_or xs (c.ravel-at.result + cond c.is_single-single.result 0 r) (pos 0)) c.cells.ensures.value))
