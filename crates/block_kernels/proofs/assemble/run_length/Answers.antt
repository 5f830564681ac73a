use Rattle.std.proofs.Common.{arith, ◌≡◌, ◌-◌, ◌≤◌, ◌<◌, ◌^◌, sym, ap, subst, length, drop}
use Rattle.nd_shape.specs.Shape.{elements}
use Rattle.block_kernels.specs.Assembling.{Lies, Runs}
use Rattle.block_kernels.proofs.Assembling.{lies-start, lies-step, lies-small}
use Rattle.block_kernels.proofs.assemble.run_length.Goals as goal

pub loop-axis-init : goal.loop-axis-init
loop-axis-init c = record {
  inside = omega arith;
  here = lies-start c.args.shape.now c.starts-starts.result.now c.lengths-lengths.result.now (length c.lengths-lengths.result.now) (omega arith)
      (omega (arith, ap length c.starts-starts.ensures.value, ap length c.lengths-lengths.ensures.value, c.requires.to.starts, c.requires.to.lengths))
      (omega (arith, ap length c.lengths-lengths.ensures.value, c.requires.to.lengths));
  there = lies-start c.args.source.now c.starts-origins.result.now c.lengths-lengths.result.now (length c.lengths-lengths.result.now) (omega arith)
      (omega (arith, ap length c.starts-origins.ensures.value, ap length c.lengths-lengths.ensures.value, ap length c.requires.same, c.requires.from.starts, c.requires.from.lengths))
      (omega (arith, ap length c.lengths-lengths.ensures.value, ap length c.requires.same, c.requires.from.lengths));
}

pub bounds-starts-axis : goal.bounds-starts-axis
bounds-starts-axis c = omega (arith, c.loop-axis.invariant.inside, ap length c.starts-starts.ensures.value, ap length c.lengths-lengths.ensures.value, c.requires.to.starts, c.requires.to.lengths)

pub bounds-origins-axis : goal.bounds-origins-axis
bounds-origins-axis c = omega (arith, c.loop-axis.invariant.inside, ap length c.starts-origins.ensures.value, ap length c.lengths-lengths.ensures.value, ap length c.requires.same, c.requires.from.starts, c.requires.from.lengths)

pub bounds-shape-axis : goal.bounds-shape-axis
bounds-shape-axis c = omega (arith, c.loop-axis.invariant.inside, ap length c.lengths-lengths.ensures.value, c.requires.to.lengths)

pub bounds-source-axis : goal.bounds-source-axis
bounds-source-axis c = omega (arith, c.loop-axis.invariant.inside, ap length c.lengths-lengths.ensures.value, ap length c.requires.same, c.requires.from.lengths)

pub longer-run-requires : goal.longer-run-requires
longer-run-requires c =
    lies-small c.args.shape.now c.starts-starts.result.now c.lengths-lengths.result.now (c.loop-axis.axis - 1) c.loop-axis.axis c.loop-axis.run c.loop-axis.whole (omega arith) c.loop-axis.invariant.inside
    (subst (λ ls. elements ls ≤ 2 ^ 31) (sym c.lengths-lengths.ensures.value) c.requires.small) (subst (λ ls. 0 < elements ls) (sym c.lengths-lengths.ensures.value) c.requires.some) c.loop-axis.invariant.here

pub loop-axis-preserved : goal.loop-axis-preserved
loop-axis-preserved c = record {
  inside = omega arith;
  here =
      subst (λ n. Lies (drop (c.loop-axis.axis - 1) c.args.shape.now) (drop (c.loop-axis.axis - 1) c.starts-starts.result.now) (drop (c.loop-axis.axis - 1) c.lengths-lengths.result.now) n c.stays_whole-whole.result) (sym c.longer-run.ensures)
      (lies-step c.args.shape.now c.starts-starts.result.now c.lengths-lengths.result.now (c.loop-axis.axis - 1) c.loop-axis.axis c.loop-axis.run c.loop-axis.whole c.stays_whole-whole.result (omega arith) c.loop-axis.invariant.inside
      (omega (arith, ap length c.starts-starts.ensures.value, ap length c.lengths-lengths.ensures.value, c.requires.to.starts, c.requires.to.lengths))
      (omega (arith, ap length c.lengths-lengths.ensures.value, c.requires.to.lengths))
      c.loop-axis.invariant.here
      (λ e. let s = c.stays_whole-whole.ensures e in (s.before, s.start_is, s.here_is)));
  there =
      subst (λ n. Lies (drop (c.loop-axis.axis - 1) c.args.source.now) (drop (c.loop-axis.axis - 1) c.starts-origins.result.now) (drop (c.loop-axis.axis - 1) c.lengths-lengths.result.now) n c.stays_whole-whole.result) (sym c.longer-run.ensures)
      (lies-step c.args.source.now c.starts-origins.result.now c.lengths-lengths.result.now (c.loop-axis.axis - 1) c.loop-axis.axis c.loop-axis.run c.loop-axis.whole c.stays_whole-whole.result (omega arith) c.loop-axis.invariant.inside
      (omega (arith, ap length c.starts-origins.ensures.value, ap length c.lengths-lengths.ensures.value, ap length c.requires.same, c.requires.from.starts, c.requires.from.lengths))
      (omega (arith, ap length c.lengths-lengths.ensures.value, ap length c.requires.same, c.requires.from.lengths))
      c.loop-axis.invariant.there
      (λ e. let s = c.stays_whole-whole.ensures e in (s.before, s.origin_is, s.there_is)));
}

pub returns-clause-to : goal.returns-clause-to
returns-clause-to c =
    let none : c.loop-axis.axis ≡ 0 = omega arith in
    subst (λ xs. Runs c.args.shape.now xs c.args.to.now.lengths c.loop-axis.run) c.starts-starts.ensures.value
    (subst (λ xs. Runs c.args.shape.now c.starts-starts.result.now xs c.loop-axis.run) c.lengths-lengths.ensures.value
    (subst (λ k. Runs (drop k c.args.shape.now) (drop k c.starts-starts.result.now) (drop k c.lengths-lengths.result.now) c.loop-axis.run) none c.loop-axis.invariant.here.runs))

pub returns-clause-from : goal.returns-clause-from
returns-clause-from c =
    let none : c.loop-axis.axis ≡ 0 = omega arith in
    subst (λ xs. Runs c.args.source.now xs c.args.to.now.lengths c.loop-axis.run) c.starts-origins.ensures.value
    (subst (λ xs. Runs c.args.source.now c.starts-origins.result.now xs c.loop-axis.run) c.lengths-lengths.ensures.value
    (subst (λ k. Runs (drop k c.args.source.now) (drop k c.starts-origins.result.now) (drop k c.lengths-lengths.result.now) c.loop-axis.run) none c.loop-axis.invariant.there.runs))
