use Rattle.std.proofs.Common.{◌∙◌, ◌&&◌, ap, not, is_some, false}
use Rattle.open_asks.specs.Kept.{Kept}
use Rattle.fact_rows.specs.Rows.{read}
use Rattle.worker_facts.proofs.FactLemmas.{none_waits}
use Rattle.worker_facts.specs.Stored.{facts_of, pends}
use Rattle.worker_facts.proofs.table.WorkerTable.new.Goals as goal

pub invariant_of-result : goal.invariant_of-result
invariant_of-result c =
    record {
      rows = record {
        shape = c.sound.ensures;
        mine = c.in_ok-mine.ensures.length ∙ c.keys-count.ensures;
        mem = c.in_ok-mem.ensures.length ∙ c.keys-count.ensures;
        running = c.in_ok-running.ensures.length ∙ c.keys-count.ensures;
        holders = c.in_ok-holders.ensures.length ∙ c.keys-count.ensures;
        asked = c.in_ok-asked.ensures.length ∙ c.keys-count.ensures;
        sought = c.in_ok-sought.ensures.length ∙ c.keys-count.ensures;
        failed = c.in_ok-failed.ensures.length ∙ c.keys-count.ensures;
      };
      wide = ap (λ (x : Kept). x.wide) c.in_ok-asks.ensures ∙ c.keys-count.ensures;
      awaiting_each = c.in_ok-awaiting.ensures.length ∙ c.keys-count.ensures;
      awaiting = λ k. c.in_ok-awaiting.ensures.same k ∙ none_waits c.args.shape (pends c.in_ok-mine.mine c.in_ok-running.running) (λ j. ap (λ o. is_some o && not (read c.in_ok-running.running false j)) (c.in_ok-mine.ensures.same j)) k;
    }

pub returns : goal.returns
unfolding facts_of
returns c = λ i. record {
  shape = c.args.shape;
  id = c.args.id;
  threads = c.args.threads;
  seen = 0;
  mine = λ k. c.in_ok-mine.ensures.same k i;
  mem = λ k. c.in_ok-mem.ensures.same k i;
  running = λ k. c.in_ok-running.ensures.same k i;
  asks = ap (λ (x : Kept). x.asks) c.in_ok-asks.ensures i;
  holders = λ k. c.in_ok-holders.ensures.empty k i;
  asked = λ k. c.in_ok-asked.ensures.same k i;
  sought = λ k. c.in_ok-sought.ensures.same k i;
  failed = λ k. c.in_ok-failed.ensures.same k i;
  next_ask = 1;
}
