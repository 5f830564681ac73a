use Rattle.std.proofs.Common.{◌≡◌, ◌∙◌, ◌+◌, ◌-◌, ◌++◌, ℕ, List, Option, length, take, drop, sym, subst, arith}
use Rattle.std.proofs.lemmas.List.{take-append-le, take_all}
use Rattle.nd_shape.specs.Region.{Box}
use Rattle.array_expr.specs.declared.expr.Node.{Node}
use Rattle.input_regions.specs.Needed.{AreNeeded}
use Rattle.input_regions.specs.Widening.{AreFit, AsksNode, IsWhatIsAsked}
use Rattle.input_regions.proofs.Asked.{IsAskedFrom, first-asked, first-fit, next-asked-at, all-asked}
use Rattle.input_regions.proofs.regions.needed_regions.Goals as goal

written-back : (n : ℕ) (new rest : List (Option Box)) → length new ≡ n → take n (new ++ rest) ≡ new
written-back n new rest e = take-append-le n new rest (omega (arith, e)) ∙ take_all n new (omega (arith, e))

pub loop-done-init : goal.loop-done-init
loop-done-init c =
    let w : IsWhatIsAsked (c.args.node + 1) c.args.region.now c.as_mut_slice-needs.result.now =
    subst (IsWhatIsAsked (c.args.node + 1) c.args.region.now) (sym c.as_mut_slice-needs.ensures.value) (subst (λ m. IsWhatIsAsked (m + 1) c.args.region.now c.in_ok-room.room.items) c.number.ensures c.in_ok-room.ensures) in
    let e : c.args.node + 1 ≡ c.number.result + 1 - 0 = omega (arith, c.number.ensures) in
    record {
      asked = subst (IsAskedFrom c.args.expr.now c.args.node c.args.region.now c.as_mut_slice-needs.result.now) e (first-asked c.args.expr.now c.args.node c.args.region.now c.as_mut_slice-needs.result.now c.requires.region c.nodes-nodes.ensures.sound c.requires.node w);
      fit = first-fit c.args.expr.now c.args.node c.args.region.now c.as_mut_slice-needs.result.now c.requires.region w;
    }

pub loop-done-preserved : goal.loop-done-preserved
loop-done-preserved c =
    let count = c.number.result + 1 in
    let done = c.loop-done.done in
    let m = c.number.result + 1 - 1 - c.loop-done.done in
    let a : c.number.result + 1 - c.loop-done.done ≡ (c.number.result + 1 - 1 - c.loop-done.done) + 1 = omega (arith, c.loop-done-test.true) in
    let b : c.number.result + 1 - 1 - c.loop-done.done ≡ c.number.result + 1 - (c.loop-done.done + 1) = omega (arith, c.loop-done-test.true) in
    let asks : AsksNode c.args.expr.now (c.number.result + 1 - 1 - c.loop-done.done) c.loop-done.needs c.use_node.new.needs =
    subst (λ (ns : List Node). AsksNode ns m c.loop-done.needs c.use_node.new.needs) c.nodes-nodes.ensures.value c.in_ok-use_node.ensures.uses in
    record {
      asked = subst (IsAskedFrom c.args.expr.now c.args.node c.args.region.now c.use_node.new.needs) b
          (next-asked-at c.args.expr.now c.args.node c.args.region.now c.loop-done.needs c.use_node.new.needs m c.nodes-nodes.ensures.sound (omega (arith, c.number.ensures, c.requires.node)) c.loop-done.invariant.fit
          (subst (IsAskedFrom c.args.expr.now c.args.node c.args.region.now c.loop-done.needs) a c.loop-done.invariant.asked) asks);
      fit = subst (λ (ns : List Node). AreFit ns c.use_node.new.needs) c.nodes-nodes.ensures.value c.in_ok-use_node.ensures.fit;
    }

pub returns-clause-needed : goal.returns-clause-needed
returns-clause-needed c =
    let new = c.loop-done.needs in
    let l : length c.loop-done.needs ≡ c.in_ok-room.room.len = omega (arith, c.loop-done.invariant.asked.count, c.in_ok-room.ensures.number, c.in_ok-room.room.ok, c.number.ensures) in
    let e : c.number.result + 1 - c.loop-done.done ≡ 0 = omega (arith, c.loop-done-test.false) in
    subst (AreNeeded c.args.expr.now c.args.node c.args.region.now) (sym (written-back c.in_ok-room.room.len new (drop (length new) c.in_ok-room.room.items) l))
    (all-asked c.args.expr.now c.args.node c.args.region.now new (subst (IsAskedFrom c.args.expr.now c.args.node c.args.region.now new) e c.loop-done.invariant.asked))

pub returns-clause-parts : goal.returns-clause-parts
returns-clause-parts c =
    let new = c.loop-done.needs in
    let l : length c.loop-done.needs ≡ c.in_ok-room.room.len = omega (arith, c.loop-done.invariant.asked.count, c.in_ok-room.ensures.number, c.in_ok-room.room.ok, c.number.ensures) in
    subst (AreFit c.args.expr.now) (sym (written-back c.in_ok-room.room.len new (drop (length new) c.in_ok-room.room.items) l)) c.loop-done.invariant.fit
