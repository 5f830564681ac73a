use Rattle.std.proofs.Common.{◌≡◌, ◌∙◌, arith, length}
use Rattle.job_run.proofs.Given.{heads_given}
use Rattle.job_run.proofs.GivenLoads.{all_given, end_given, more_given}
use Rattle.job_run.proofs.Loads.{head_ends, heads_next, pushed_count}
use Rattle.job_run.proofs.load.read_heads.Goals as goal

pub returns-in-Err : goal.returns-in-Err
returns-in-Err g c = record {
  same = c.read_declared.ensures.same ∙ c.loop-input.invariant.same;
  named = c.read_declared.ensures.named ∙ c.loop-input.invariant.named;
  later = omega (arith, c.read_declared.ensures.later, c.loop-input.invariant.kept);
  kept = tt;
  heads = tt;
  count = tt;
  given = tt;
  given_heads = tt;
  given_refusal = end_given (g.I.Store.names c.args.store.now) c.args.shapes.now (g.I.Store.gave c.args.store.now) (g.I.Store.gave c.loop-input.store) (g.I.Store.gave c.read_declared.new.store) c.loop-input.input c.index-shapes-input.result _ (g.I.Store.count c.loop-input.store) (g.I.Store.count c.read_declared.new.store) c.in-Err.end
      c.loop-input-test.true c.index-shapes-input.is c.in-Err.ensures.cause c.loop-input.invariant.given (rw c.loop-input.invariant.named at c.in-Err.ensures.given_refusal);
  cause = head_ends c.args.shapes.now (g.I.Store.files c.args.store.now) (g.I.Store.files c.loop-input.store) c.loop-input.heads.items c.loop-input.input c.index-shapes-input.result (g.I.Store.count c.args.store.now) (g.I.Store.count c.loop-input.store) (g.I.Store.count c.read_declared.new.store) c.in-Err.end
      (record { same = c.loop-input.invariant.same; place = c.loop-input.invariant.count; within = c.loop-input-test.true; shape_is = c.index-shapes-input.is }) c.loop-input.invariant.heads c.loop-input.invariant.kept c.in-Err.ensures.cause;
}

pub loop-input-preserved : goal.loop-input-preserved
loop-input-preserved g c = record {
  same = c.read_declared.ensures.same ∙ c.loop-input.invariant.same;
  named = c.read_declared.ensures.named ∙ c.loop-input.invariant.named;
  kept = c.in-Ok.ensures.kept ∙ c.loop-input.invariant.kept;
  heads = heads_next c.args.shapes.now (g.I.Store.files c.args.store.now) (g.I.Store.files c.loop-input.store) c.loop-input.heads.items c.push.new.self.items c.loop-input.input c.index-shapes-input.result c.in-Ok.head
      (record { same = c.loop-input.invariant.same; place = c.loop-input.invariant.count; within = c.loop-input-test.true; shape_is = c.index-shapes-input.is }) c.loop-input.invariant.heads c.in-Ok.ensures.head c.in_ok-push-in-Ok.ensures.items;
  given = more_given (g.I.Store.names c.args.store.now) c.args.shapes.now (g.I.Store.gave c.args.store.now) (g.I.Store.gave c.loop-input.store) (g.I.Store.gave c.read_declared.new.store) c.loop-input.input c.index-shapes-input.result
      c.loop-input-test.true c.index-shapes-input.is c.loop-input.invariant.given (rw c.loop-input.invariant.named at c.in-Ok.ensures.given);
  given_heads = heads_given (g.I.Store.names c.args.store.now) (g.I.Store.gave c.args.store.now) (g.I.Store.gave c.loop-input.store) (g.I.Store.gave c.read_declared.new.store) c.loop-input.heads.items c.push.new.self.items c.in-Ok.head c.loop-input.input
      c.loop-input.invariant.count c.in_ok-push-in-Ok.ensures.items c.loop-input.invariant.given_heads (rw c.loop-input.invariant.named at c.in-Ok.ensures.given_head);
  count = pushed_count c.loop-input.heads.items c.push.new.self.items c.in-Ok.head c.loop-input.input c.loop-input.invariant.count c.in_ok-push-in-Ok.ensures.items;
}

pub returns-clause-given : goal.returns-clause-given
returns-clause-given g c =
    let last : c.loop-input.input ≡ length c.args.shapes.now = omega arith in
    all_given (g.I.Store.names c.args.store.now) c.args.shapes.now (g.I.Store.gave c.args.store.now) (g.I.Store.gave c.loop-input.store) c.loop-input.input (length c.args.shapes.now) last c.loop-input.invariant.given
