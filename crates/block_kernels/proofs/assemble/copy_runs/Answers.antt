use Rattle.std.proofs.Common.{arith, ◌≡◌, ◌+◌, ◌*◌, ◌/◌, ◌<◌, ◌≤◌, ◌∙◌, sym, ap, subst, length}
use Rattle.nd_shape.specs.Shape.{elements}
use Rattle.nd_shape.specs.Index.{place, index_at}
use Rattle.nd_shape.specs.Region.{IsPart, moved}
use Rattle.block_kernels.specs.Assembling.{Runs, Copied, Paints}
use Rattle.block_kernels.proofs.Assembling.{run-positive, run-fits, all-runs, run-inside, paints-start, paints-more}
use Rattle.block_kernels.proofs.assemble.copy_runs.Goals as goal

pub nonzero_div-runs : goal.nonzero_div-runs
nonzero_div-runs c = let p = run-positive c.args.shape.now c.args.to.now.start c.args.to.now.lengths c.args.run c.requires.to_runs c.requires.some in omega (arith, p)

pub loop-r-init : goal.loop-r-init
loop-r-init c = record { room = c.requires.room; painted = paints-start c.args.from.now.start c.args.to.now c.args.shape.now c.args.source.now (0 * c.args.run) c.args.cells.now (omega arith) }

pub overflow_mul-r : goal.overflow_mul-r
overflow_mul-r c =
    let e : c.elements.result ≡ elements c.args.to.now.lengths = c.elements.ensures ∙ ap elements c.requires.lengths in
    let b = run-fits c.args.shape.now c.args.to.now.start c.args.to.now.lengths c.args.run c.loop-r.r c.requires.to_runs c.requires.some (subst (λ x. c.loop-r.r < x / c.args.run) e c.loop-r-test.true) in
    omega (arith, b, e, c.elements.type_inv)

pub place_in-place-requires-clause-inside : goal.place_in-place-requires-clause-inside
place_in-place-requires-clause-inside c =
    let e : c.elements.result ≡ elements c.args.to.now.lengths = c.elements.ensures ∙ ap elements c.requires.lengths in
    let b = run-fits c.args.shape.now c.args.to.now.start c.args.to.now.lengths c.args.run c.loop-r.r c.requires.to_runs c.requires.some (subst (λ x. c.loop-r.r < x / c.args.run) e c.loop-r-test.true) in
    let p = run-positive c.args.shape.now c.args.to.now.start c.args.to.now.lengths c.args.run c.requires.to_runs c.requires.some in
    omega (arith, b, p, ap elements c.requires.lengths)

pub overflow_mul-r-in-loop-r : goal.overflow_mul-r-in-loop-r
overflow_mul-r-in-loop-r c =
    let e : c.elements.result ≡ elements c.args.to.now.lengths = c.elements.ensures ∙ ap elements c.requires.lengths in
    let b = run-fits c.args.shape.now c.args.to.now.start c.args.to.now.lengths c.args.run c.loop-r.r c.requires.to_runs c.requires.some (subst (λ x. c.loop-r.r < x / c.args.run) e c.loop-r-test.true) in
    omega (arith, b, e, c.elements.type_inv)

pub place_in-origin-requires-clause-part : goal.place_in-origin-requires-clause-part
place_in-origin-requires-clause-part c = subst (IsPart c.args.from.now) (sym c.shape.ensures.value) c.requires.from

pub place_in-origin-requires-clause-same : goal.place_in-origin-requires-clause-same
place_in-origin-requires-clause-same c = c.requires.lengths ∙ sym c.requires.same

pub place_in-origin-requires-clause-inside : goal.place_in-origin-requires-clause-inside
place_in-origin-requires-clause-inside c =
    let e : c.elements.result ≡ elements c.args.to.now.lengths = c.elements.ensures ∙ ap elements c.requires.lengths in
    let b = run-fits c.args.shape.now c.args.to.now.start c.args.to.now.lengths c.args.run c.loop-r.r c.requires.to_runs c.requires.some (subst (λ x. c.loop-r.r < x / c.args.run) e c.loop-r-test.true) in
    let p = run-positive c.args.shape.now c.args.to.now.start c.args.to.now.lengths c.args.run c.requires.to_runs c.requires.some in
    omega (arith, b, p, ap elements c.requires.lengths)

pub copy_run-requires-clause-room : goal.copy_run-requires-clause-room
copy_run-requires-clause-room c =
    let e : c.elements.result ≡ elements c.args.to.now.lengths = c.elements.ensures ∙ ap elements c.requires.lengths in
    let b = run-fits c.args.shape.now c.args.to.now.start c.args.to.now.lengths c.args.run c.loop-r.r c.requires.to_runs c.requires.some (subst (λ x. c.loop-r.r < x / c.args.run) e c.loop-r-test.true) in
    let p = run-positive c.args.shape.now c.args.to.now.start c.args.to.now.lengths c.args.run c.requires.to_runs c.requires.some in
    let at : c.place_in-place.result ≡ place c.args.shape.now (moved c.args.to.now.start (index_at c.args.to.now.lengths (c.loop-r.r * c.args.run))) =
    c.place_in-place.ensures ∙ ap (λ ls. place c.args.shape.now (moved c.args.to.now.start (index_at ls (c.loop-r.r * c.args.run)))) c.requires.lengths in
    omega (arith, run-inside c.args.to.now c.args.shape.now c.args.run c.loop-r.r c.requires.to c.requires.to_runs p b, at, c.loop-r.invariant.room)

pub copy_run-requires-clause-cells : goal.copy_run-requires-clause-cells
copy_run-requires-clause-cells c =
    let e : c.elements.result ≡ elements c.args.to.now.lengths = c.elements.ensures ∙ ap elements c.requires.lengths in
    let b = run-fits c.args.shape.now c.args.to.now.start c.args.to.now.lengths c.args.run c.loop-r.r c.requires.to_runs c.requires.some (subst (λ x. c.loop-r.r < x / c.args.run) e c.loop-r-test.true) in
    let p = run-positive c.args.shape.now c.args.to.now.start c.args.to.now.lengths c.args.run c.requires.to_runs c.requires.some in
    let runs : Runs c.args.source.now.shape c.args.from.now.start c.args.from.now.lengths c.args.run = subst (λ ls. Runs c.args.source.now.shape c.args.from.now.start ls c.args.run) (sym c.requires.same) c.requires.from_runs in
    let room : c.loop-r.r * c.args.run + c.args.run ≤ elements c.args.from.now.lengths = subst (λ ls. c.loop-r.r * c.args.run + c.args.run ≤ elements ls) (sym c.requires.same) b in
    let at : c.place_in-origin.result ≡ place c.args.source.now.shape (moved c.args.from.now.start (index_at c.args.from.now.lengths (c.loop-r.r * c.args.run))) =
    c.place_in-origin.ensures ∙ ap (λ ns. place ns (moved c.args.from.now.start (index_at c.args.lengths.now (c.loop-r.r * c.args.run)))) c.shape.ensures.value
    ∙ ap (λ ls. place c.args.source.now.shape (moved c.args.from.now.start (index_at ls (c.loop-r.r * c.args.run)))) (c.requires.lengths ∙ sym c.requires.same) in
    omega (arith, run-inside c.args.from.now c.args.source.now.shape c.args.run c.loop-r.r c.requires.from runs p room, at, c.cells.ensures.cells, ap length c.cells.ensures.value)

pub loop-r-preserved : goal.loop-r-preserved
loop-r-preserved c =
    let e : c.elements.result ≡ elements c.args.to.now.lengths = c.elements.ensures ∙ ap elements c.requires.lengths in
    let b = run-fits c.args.shape.now c.args.to.now.start c.args.to.now.lengths c.args.run c.loop-r.r c.requires.to_runs c.requires.some (subst (λ x. c.loop-r.r < x / c.args.run) e c.loop-r-test.true) in
    let at : c.place_in-place.result ≡ place c.args.shape.now (moved c.args.to.now.start (index_at c.args.to.now.lengths (c.loop-r.r * c.args.run))) =
    c.place_in-place.ensures ∙ ap (λ ls. place c.args.shape.now (moved c.args.to.now.start (index_at ls (c.loop-r.r * c.args.run)))) c.requires.lengths in
    let origin : c.place_in-origin.result ≡ place c.args.source.now.shape (moved c.args.from.now.start (index_at c.args.to.now.lengths (c.loop-r.r * c.args.run))) =
    c.place_in-origin.ensures ∙ ap (λ ns. place ns (moved c.args.from.now.start (index_at c.args.lengths.now (c.loop-r.r * c.args.run)))) c.shape.ensures.value
    ∙ ap (λ ls. place c.args.source.now.shape (moved c.args.from.now.start (index_at ls (c.loop-r.r * c.args.run)))) c.requires.lengths in
    let copied : Copied (place c.args.shape.now (moved c.args.to.now.start (index_at c.args.to.now.lengths (c.loop-r.r * c.args.run)))) c.args.source.now.cells (place c.args.source.now.shape (moved c.args.from.now.start (index_at c.args.to.now.lengths (c.loop-r.r * c.args.run)))) c.args.run c.loop-r.cells c.copy_run.new.target =
    subst (λ p. Copied p c.args.source.now.cells (place c.args.source.now.shape (moved c.args.from.now.start (index_at c.args.to.now.lengths (c.loop-r.r * c.args.run)))) c.args.run c.loop-r.cells c.copy_run.new.target) at
    (subst (λ p. Copied c.place_in-place.result c.args.source.now.cells p c.args.run c.loop-r.cells c.copy_run.new.target) origin
    (subst (λ xs. Copied c.place_in-place.result xs c.place_in-origin.result c.args.run c.loop-r.cells c.copy_run.new.target) c.cells.ensures.value c.copy_run.ensures)) in
    record {
      room = omega (arith, c.copy_run.auto.target, c.loop-r.invariant.room);
      painted = paints-more c.args.from.now.start c.args.to.now c.args.shape.now c.args.source.now c.args.run c.loop-r.r c.args.cells.now c.loop-r.cells c.copy_run.new.target c.requires.to c.requires.to_runs c.requires.from_runs b c.loop-r.invariant.painted copied;
    }

pub returns : goal.returns
returns c =
    let e : c.elements.result ≡ elements c.args.to.now.lengths = c.elements.ensures ∙ ap elements c.requires.lengths in
    let all : c.loop-r.r ≡ c.elements.result / c.args.run = omega arith in
    let done : c.loop-r.r * c.args.run ≡ elements c.args.to.now.lengths =
    ap (λ x. x * c.args.run) (all ∙ ap (λ x. x / c.args.run) e) ∙ all-runs c.args.shape.now c.args.to.now.start c.args.to.now.lengths c.args.run c.requires.to_runs c.requires.some in
    subst (λ n. Paints c.args.from.now.start c.args.to.now c.args.shape.now c.args.source.now n c.args.cells.now c.loop-r.cells) done c.loop-r.invariant.painted
