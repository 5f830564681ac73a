use Rattle.std.proofs.Common.{◌∙◌, ◌&&◌, not, cond, refl, ap}
use Rattle.std.proofs.lemmas.Bool.{eq-eqb}
use Rattle.cluster_rules.specs.Worker.{wstate, is_missing_state}
use Rattle.key_sets.specs.Sets.{has}
use Rattle.worker_facts.specs.Stored.{facts_of}
use Rattle.worker_table.proofs.PartLemmas.{ready-is, fetch-is, unasked-is}
use Rattle.worker_table.proofs.plan.Plan.look.Goals as goal

pub returns-clause-here : goal.returns-clause-here
returns-clause-here c =
    let f = facts_of c.args.facts.now in
    let k = c.args.key in
    let p = c.args.self.now in
    let same = eq-eqb k k refl in
    record {
      runs = c.put.ensures.keys k ∙ ap (λ b. cond b c.is_running.result (has p.runs k)) same ∙ c.is_running.ensures;
      ready = c.put-2.ensures.keys k ∙ ap (λ b. cond b c.is_ready.result (has p.ready k)) same ∙ c.is_ready.ensures ∙ ready-is f k;
      fetch = c.put-3.ensures.keys k ∙ ap (λ b. cond b c.is_fetch.result (has p.fetch k)) same ∙ c.is_fetch.ensures ∙ fetch-is f k;
      unasked = c.put-4.ensures.keys k ∙ ap (λ b. cond b (c.is_missing.result && not c.is_asked.result) (has p.unasked k)) same
          ∙ ap (λ b. b && not c.is_asked.result) c.is_missing.ensures ∙ ap (λ b. is_missing_state (wstate f k) && not b) c.is_asked.ensures ∙ unasked-is f k;
    }
