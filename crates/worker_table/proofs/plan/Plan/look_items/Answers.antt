use Rattle.std.proofs.Common.{ℕ, true, false, ap, ◌∙◌, arith}
use Rattle.std.specs.Prelude.{◌==◌}
use Rattle.std.specs.List.{list_any}
use Rattle.std.proofs.lemmas.List.{take_all}
use Rattle.std.proofs.lemmas.Bool.{false≢true}
use Rattle.worker_facts.specs.Stored.{facts_of}
use Rattle.worker_table.proofs.PlanLemmas.{looked_more, leaves_more}
use Rattle.worker_table.proofs.plan.Plan.look_items.Goals as goal

pub loop-item-init : goal.loop-item-init
loop-item-init c = record {
  here = λ k e. absurd (false≢true e);
  others = λ q k e a. a;
  room = λ n r. r;
}

pub loop-item-preserved : goal.loop-item-preserved
loop-item-preserved c = record {
  here = looked_more (λ (x : ℕ × ℕ). x.0) (facts_of c.args.facts.now) c.loop-item.self c.look.new.self c.args.items.now c.loop-item.item-index (0, 0) (omega arith) c.loop-item.invariant.here c.look.ensures.here c.look.ensures.others;
  others = leaves_more (λ (x : ℕ × ℕ). x.0) c.args.self.now c.loop-item.self c.look.new.self c.args.items.now c.loop-item.item-index (0, 0) (omega arith) c.loop-item.invariant.others c.look.ensures.others;
  room = λ n r. c.look.ensures.room n (c.loop-item.invariant.room n r);
}

pub returns-clause-others : goal.returns-clause-others
returns-clause-others c = λ q k e a. c.loop-item.invariant.others q k (ap (list_any (λ (i : ℕ × ℕ). i.0 == k)) (take_all c.loop-item.item-index c.args.items.now (omega arith)) ∙ e) a
