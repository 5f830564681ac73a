use Rattle.std.proofs.Common.{◌≡◌, ◌<◌, ◌*◌, ◌/◌, ◌^◌, ◌++◌, ◌∷◌, [], arith, ap, sym, subst, ◌∙◌, refl}
use Rattle.std.proofs.lemmas.Slice.{pushed}
use Rattle.nd_shape.specs.Shape.{elements}
use Rattle.nd_rows.specs.Storage.{Walk, count_of}
use Rattle.nd_rows.proofs.Order.{count-walk_of}
use Rattle.npy_region.specs.Building.{Splits}
use Rattle.npy_region.specs.Runs.{AreRuns}
use Rattle.npy_region.specs.declared.runs.Run.{Run}
use Rattle.npy_region.proofs.RunLemmas.{first_here, next_here, runs_end, units_some, no_runs, run_length, run_offset, run_place, unit_fits, unit_starts, same_lengths}
use Rattle.npy_region.proofs.Widths.{few_times, some_bytes}
use Rattle.npy_region.proofs.runs.push_runs.Goals as goal

pub loop-k-init : goal.loop-k-init
loop-k-init c =
    let some : 0 < c.len-count.result = omega arith in
    record {
      walk = c.unit_run-last.ensures.walk ∙ c.requires.walk;
      targets = refl;
      covers = rw c.requires.none (first_here c.args.head.now c.args.region.now c.args.walk.now c.args.targets.now c.args.region.now.lengths c.unit_len-unit.result c.len-count.result c.unit_run-last.result
          (some_bytes c.args.head.now.width c.requires.width) c.requires.walk c.requires.targets refl c.unit_len-unit.ensures c.len-count.ensures.count some c.unit_run-last.ensures.run);
      length = let e : c.unit_run-last.result.length ≡ c.args.head.now.width * c.unit_len-unit.result = ap (λ (r : Run). r.length) c.unit_run-last.ensures.run in omega (arith, e, few_times c.args.head.now.width c.unit_len-unit.result c.requires.width);
      offset = c.unit_run-last.ensures.offset;
      place = c.unit_run-last.ensures.place;
    }

pub loop-k-preserved : goal.loop-k-preserved
loop-k-preserved c =
    let same = c.requires.walk ∙ sym c.loop-k.invariant.walk in
    let splits = subst (λ (w : Walk). Splits c.args.head.now.fortran w c.unit_len-unit.result) same c.unit_len-unit.ensures in
    let count = c.len-count.ensures.count ∙ ap count_of same in
    record {
      walk = c.unit_run-next.ensures.walk ∙ c.loop-k.invariant.walk;
      targets = c.unit_run-next.ensures.targets ∙ c.loop-k.invariant.targets;
      covers = next_here c.args.head.now c.args.region.now c.loop-k.walk c.loop-k.targets c.args.region.now.lengths c.unit_len-unit.result c.loop-k.k c.len-count.result c.loop-k.runs.items c.put_run.new.runs.items c.loop-k.last c.unit_run-next.result c.in_ok-joined.joined
          (some_bytes c.args.head.now.width c.requires.width) c.requires.part c.loop-k.invariant.walk (c.loop-k.invariant.targets ∙ c.unit_run-last.ensures.targets ∙ c.requires.targets) refl splits count c.loop-k-test.true c.unit_run-next.ensures.run c.in_ok-joined.ensures c.loop-k.invariant.covers;
      length =
          let e : c.unit_run-next.result.length ≡ c.args.head.now.width * c.unit_len-unit.result = ap (λ (r : Run). r.length) c.unit_run-next.ensures.run in
          let l = run_length c.args.head.now.width c.loop-k.runs.items c.put_run.new.runs.items c.loop-k.last c.unit_run-next.result c.in_ok-joined.joined (8 * (c.loop-k.k * c.unit_len-unit.result)) c.in_ok-joined.ensures c.loop-k.invariant.length in
          omega (arith, e, l, few_times c.args.head.now.width c.unit_len-unit.result c.requires.width);
      offset = run_offset c.args.head.now.width c.loop-k.runs.items c.put_run.new.runs.items c.loop-k.last c.unit_run-next.result c.in_ok-joined.joined (2 ^ 35) c.in_ok-joined.ensures c.loop-k.invariant.offset c.unit_run-next.ensures.offset;
      place = run_place c.args.head.now.width c.loop-k.runs.items c.put_run.new.runs.items c.loop-k.last c.unit_run-next.result c.in_ok-joined.joined (2 ^ 35) c.in_ok-joined.ensures c.loop-k.invariant.place c.unit_run-next.ensures.place;
    }

pub returns : goal.returns
returns c =
    let same = c.requires.walk ∙ sym c.loop-k.invariant.walk in
    let splits = subst (λ (w : Walk). Splits c.args.head.now.fortran w c.unit_len-unit.result) same c.unit_len-unit.ensures in
    let count = c.len-count.ensures.count ∙ ap count_of same in
    let some : 0 < c.len-count.result = omega arith in
    let units : 0 < c.len-count.result / c.unit_len-unit.result = units_some c.args.head.now.fortran c.args.walk.now c.unit_len-unit.result c.len-count.result c.unit_len-unit.ensures c.len-count.ensures.count some in
    let last : c.loop-k.k ≡ c.len-count.result / c.unit_len-unit.result = omega (arith, units, c.loop-k.auto.k-end units) in
    let grown : c.push.new.self.items ≡ c.loop-k.runs.items ++ c.loop-k.last ∷ [] = pushed {was = c.loop-k.runs.items} (c.loop-k.last ∷ []) refl c.in_ok-push.was c.push.ensures.items in
    let all = runs_end c.args.head.now c.args.region.now c.loop-k.walk c.unit_len-unit.result c.loop-k.k c.len-count.result c.loop-k.runs.items c.loop-k.last c.requires.part c.loop-k.invariant.walk splits count last c.loop-k.invariant.covers in
    subst (AreRuns c.args.head.now c.args.region.now) (sym grown) all

pub returns-then-count-eq0 : goal.returns-then-count-eq0
returns-then-count-eq0 c =
    let none : elements c.args.region.now.lengths ≡ 0 = sym (count-walk_of c.args.head.now.fortran c.args.head.now.shape c.args.region.now) ∙ ap count_of (sym c.requires.walk) ∙ sym c.len-count.ensures.count ∙ c.if-count-eq0.true in
    subst (AreRuns c.args.head.now c.args.region.now) (sym c.requires.none) (no_runs c.args.head.now c.args.region.now none)

pub unit_run-last-requires-clause-block : goal.unit_run-last-requires-clause-block
unit_run-last-requires-clause-block c = same_lengths c.args.head.now.fortran c.args.head.now.shape c.args.region.now.lengths c.args.region.now c.args.walk.now c.args.targets.now c.requires.walk c.requires.targets refl

pub unit_run-last-requires-clause-small : goal.unit_run-last-requires-clause-small
unit_run-last-requires-clause-small c =
    let some : 0 < c.len-count.result = omega arith in
    omega (arith, unit_fits c.args.head.now.fortran c.args.walk.now c.unit_len-unit.result c.len-count.result c.unit_len-unit.ensures c.len-count.ensures.count some, c.len-count.ensures.limit)

pub unit_run-next-requires-clause-inside : goal.unit_run-next-requires-clause-inside
unit_run-next-requires-clause-inside c =
    let same = c.requires.walk ∙ sym c.loop-k.invariant.walk in
    let splits = subst (λ (w : Walk). Splits c.args.head.now.fortran w c.unit_len-unit.result) same c.unit_len-unit.ensures in
    unit_starts c.args.head.now.fortran c.loop-k.walk c.unit_len-unit.result c.len-count.result c.loop-k.k splits (c.len-count.ensures.count ∙ ap count_of same) c.loop-k-test.true

pub unit_run-next-requires-clause-block : goal.unit_run-next-requires-clause-block
unit_run-next-requires-clause-block c = same_lengths c.args.head.now.fortran c.args.head.now.shape c.args.region.now.lengths c.args.region.now c.loop-k.walk c.loop-k.targets c.loop-k.invariant.walk
    (c.loop-k.invariant.targets ∙ c.unit_run-last.ensures.targets ∙ c.requires.targets) refl

pub put_run-requires-clause-next : goal.put_run-requires-clause-next
put_run-requires-clause-next c =
    let e : c.unit_run-next.result.length ≡ c.args.head.now.width * c.unit_len-unit.result = ap (λ (r : Run). r.length) c.unit_run-next.ensures.run in
    let some : 0 < c.len-count.result = omega arith in
    let unit = unit_fits c.args.head.now.fortran c.args.walk.now c.unit_len-unit.result c.len-count.result c.unit_len-unit.ensures c.len-count.ensures.count some in
    omega (arith, e, few_times c.args.head.now.width c.unit_len-unit.result c.requires.width, unit, c.len-count.ensures.limit)
