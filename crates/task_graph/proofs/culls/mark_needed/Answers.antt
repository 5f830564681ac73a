use Rattle.std.proofs.Common.{◌≡◌, ◌-◌, ◌<◌, ◌≤◌, ℕ, suc, List, length, sym, subst, arith}
use Rattle.std.specs.List.{AllByRecursion}
use Rattle.cluster_msgs.specs.Shape.{deps_of}
use Rattle.cluster_msgs.proofs.Dags.{all-weaker}
use Rattle.task_graph.specs.Graphs.{shape_of}
use Rattle.task_graph.specs.Culls.{IsMarked}
use Rattle.task_graph.proofs.Culled.{IsPass, pass-begins, pass-goes-on, pass-ends}
use Rattle.task_graph.proofs.culls.mark_needed.Goals as goal

pub loop-key-init : goal.loop-key-init
loop-key-init c =
    pass-begins (deps_of (shape_of c.args.tasks.now)) c.requires.earlier c.args.wanted.now (length c.args.tasks.now) c.args.marks.now c.mark.new.marks c.requires.none c.requires.count c.mark.ensures

pub deps_at-requires : goal.deps_at-requires
deps_at-requires c = let p : c.loop-key.key ≤ length c.args.tasks.now = c.loop-key.invariant.low in let q : 0 < c.loop-key.key = c.loop-key-test.true in omega arith

pub mark_below-requires-clause-there : goal.mark_below-requires-clause-there
mark_below-requires-clause-there c =
    let p : c.loop-key.key ≤ length c.args.tasks.now = c.loop-key.invariant.low in
    let n : length c.loop-key.marks ≡ length c.args.tasks.now = c.loop-key.invariant.count_is in
    let q : 0 < c.loop-key.key = c.loop-key-test.true in
    omega arith

pub mark_below-requires-clause-below : goal.mark_below-requires-clause-below
mark_below-requires-clause-below c =
    let n : length c.loop-key.marks ≡ length c.args.tasks.now = c.loop-key.invariant.count_is in
    let p : c.loop-key.key ≤ length c.args.tasks.now = c.loop-key.invariant.low in
    let q : 0 < c.loop-key.key = c.loop-key-test.true in
    let lt : c.loop-key.key - 1 < length c.args.tasks.now = omega arith in
    subst (λ (ds : List ℕ). AllByRecursion (λ k. k < length c.loop-key.marks) ds) (sym c.deps_at.ensures)
    (all-weaker (λ d. d < c.loop-key.key - 1) (λ d. d < length c.loop-key.marks) (deps_of (shape_of c.args.tasks.now) (c.loop-key.key - 1)) (λ d h. omega arith) (c.requires.earlier.below (c.loop-key.key - 1)))

pub loop-key-preserved : goal.loop-key-preserved
loop-key-preserved c =
    let q : 0 < c.loop-key.key = c.loop-key-test.true in
    let one : c.loop-key.key ≡ suc (c.loop-key.key - 1) = omega arith in
    pass-goes-on (deps_of (shape_of c.args.tasks.now)) c.requires.earlier c.args.wanted.now (length c.args.tasks.now) (c.loop-key.key - 1) c.loop-key.marks c.mark_below.new.marks
    (subst (λ k. IsPass (deps_of (shape_of c.args.tasks.now)) c.args.wanted.now (length c.args.tasks.now) k c.loop-key.marks) one c.loop-key.invariant)
    (subst (λ (ds : List ℕ). IsMarked c.loop-key.marks (c.loop-key.key - 1) ds c.mark_below.new.marks) c.deps_at.ensures c.mark_below.ensures)

pub returns : goal.returns
returns c =
    let q = c.loop-key-test.false in
    let none : c.loop-key.key ≡ 0 = omega arith in
    let p : IsPass (deps_of (shape_of c.args.tasks.now)) c.args.wanted.now (length c.args.tasks.now) 0 c.loop-key.marks = subst (λ k. IsPass (deps_of (shape_of c.args.tasks.now)) c.args.wanted.now (length c.args.tasks.now) k c.loop-key.marks) none c.loop-key.invariant in
    record { count = c.loop-key.invariant.count_is; each = λ k lt. pass-ends (deps_of (shape_of c.args.tasks.now)) c.requires.earlier c.args.wanted.now (length c.args.tasks.now) c.loop-key.marks p k }
