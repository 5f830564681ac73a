use Rattle.std.proofs.Common.{◌≡◌, ap, sym, subst, arith, true, false}
use Rattle.cluster_rules.specs.WorkerStep.{worker_step, worker_takes}
use Rattle.cluster_rules.specs.WorkerKept.{IsKept}
use Rattle.cluster_rules.proofs.WorkerLemmas.{kept_by_event}
use Rattle.worker_core.specs.Core.{RunsFew}
use Rattle.worker_core.proofs.CountLemmas.{one_more_event}
use Rattle.worker_core.proofs.RunLemmas.{few_run}
use Rattle.worker_facts.specs.Stored.{facts_of}
use Rattle.worker_core.proofs.worker.WorkerCore.on.Goals as goal

pub invariant_of-self : goal.invariant_of-self
invariant_of-self c =
    let v = c.self.invariant in
    let f = facts_of c.self.inside.table in
    let possible = rw (← c.self.view_is) at c.in_default.ensures.possible in
    let runs : c.self.inside.stopped ≡ false = possible.0 in
    let takes : worker_takes f c.args.event ≡ true = possible.2 in
    let after : facts_of c.carry_out-end.new.table ≡ (worker_step f c.args.event).facts = c.in-Ok.ensures.facts in
    let more = one_more_event f c.args.event in
    record {
      limit = omega (arith, possible.1);
      kept = λ e. subst IsKept (sym after) (kept_by_event f c.args.event takes (v.kept runs));
      runs = λ e. subst RunsFew (sym after) (few_run f c.args.event takes (v.runs runs));
      seen = λ e. omega (arith, ap (λ g. g.seen) after, more.seen, v.seen runs);
      asks = λ e. omega (arith, ap (λ g. g.next_ask) after, more.asks, v.asks runs);
      moves = c.carry_out-end.ensures.moves;
    }
