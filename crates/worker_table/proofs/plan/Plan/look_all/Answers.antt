use Rattle.std.proofs.Common.{ℕ, true, false, arith}
use Rattle.std.proofs.lemmas.Bool.{false≢true}
use Rattle.worker_facts.specs.Stored.{facts_of}
use Rattle.worker_table.proofs.PlanLemmas.{looked_more, leaves_more}
use Rattle.worker_table.proofs.plan.Plan.look_all.Goals as goal

pub loop-key-init : goal.loop-key-init
loop-key-init c = record {
  here = λ k e. absurd (false≢true e);
  others = λ q k e a. a;
  room = λ n r. r;
}

pub loop-key-preserved : goal.loop-key-preserved
loop-key-preserved c = record {
  here = looked_more (λ (x : ℕ). x) (facts_of c.args.facts.now) c.loop-key.self c.look.new.self c.args.keys.now c.loop-key.key-index 0 (omega arith) c.loop-key.invariant.here c.look.ensures.here c.look.ensures.others;
  others = leaves_more (λ (x : ℕ). x) c.args.self.now c.loop-key.self c.look.new.self c.args.keys.now c.loop-key.key-index 0 (omega arith) c.loop-key.invariant.others c.look.ensures.others;
  room = λ n r. c.look.ensures.room n (c.loop-key.invariant.room n r);
}
