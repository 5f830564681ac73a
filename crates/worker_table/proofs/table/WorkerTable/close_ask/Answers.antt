use Rattle.std.proofs.Common.{◌<◌, ◌∙◌, List, sym, refl, ap, subst, length}
use Rattle.cluster_rules.specs.Worker.{Ask, WorkerFacts}
use Rattle.open_asks.specs.Kept.{without_first}
use Rattle.worker_facts.specs.Stored.{facts_of}
use Rattle.worker_table.proofs.AskedLemmas.{closed_one, closed_rest, closed_all, first_shorter}
use Rattle.worker_table.proofs.table.WorkerTable.close_ask.Goals as goal

pub asks-init : goal.asks-init
asks-init c = record { same = refl; rest = refl }

pub asks-preserved : goal.asks-preserved
asks-preserved c =
    let w = facts_of c.args.self.now in
    let v = facts_of c.asks.self in
    let h = facts_of c.close_first.new.self in
    record {
      same = closed_one c.args.peer w v h c.asks.invariant.same c.close_first.ensures.facts;
      rest = closed_rest c.args.peer w v h c.asks.invariant.rest c.close_first.ensures.facts;
    }

pub asks-smaller : goal.asks-smaller
asks-smaller c =
    let v = facts_of c.asks.self in
    let h = facts_of c.close_first.new.self in
    let l : length (without_first v.asks c.args.peer) < length v.asks = first_shorter c.args.peer v.asks (sym c.close_first.ensures.found ∙ c.asks-test.true) in
    subst (λ (bs : List Ask). length bs < length v.asks) (sym (ap (λ (u : WorkerFacts). u.asks) c.close_first.ensures.facts)) l

pub returns : goal.returns
returns c = closed_all c.args.peer (facts_of c.args.self.now) (facts_of c.asks.self) (facts_of c.close_first.new.self) c.asks.invariant.same c.asks.invariant.rest c.close_first.ensures.facts (sym c.close_first.ensures.found ∙ c.asks-test.false)
