use Rattle.std.proofs.Common.{◌∙◌, ◌∷◌, ◌++◌, ◌&&◌, [], not, ℕ, ap, sym, arith, filter}
use Rattle.cluster_msgs.specs.Shape.{key_count}
use Rattle.cluster_rules.specs.Worker.{wstate, is_missing_state}
use Rattle.cluster_rules.specs.WorkerStep.{unasked_keys}
use Rattle.worker_facts.specs.Stored.{facts_of}
use Rattle.worker_table.proofs.SearchLemmas.{filter-next, filter-gap}
use Rattle.worker_table.proofs.table.WorkerTable.unasked_keys.Goals as goal

pub keys-preserved : goal.keys-preserved
keys-preserved c =
    let f = facts_of c.args.self.now in
    let first = c.in-Some.ensures.first in
    record {
      made = c.in_ok-push.ensures.ok ∙ ap (λ ks. ks ++ c.in-Some.key ∷ []) c.keys.invariant.made ∙ sym (filter-next (λ (k : ℕ). is_missing_state (wstate f k) && not (f.asked k)) c.keys.from c.in-Some.key first.0 first.1 first.2);
      low = omega (arith, c.in-Some.ensures.within);
    }

pub returns : goal.returns
unfolding unasked_keys
returns c =
    let f = facts_of c.args.self.now in
    c.keys.invariant.made ∙ sym (filter-gap (λ (k : ℕ). is_missing_state (wstate f k) && not (f.asked k)) c.keys.from (key_count f.shape) c.keys.invariant.low (λ j l m. c.in_default.ensures.first j l))
