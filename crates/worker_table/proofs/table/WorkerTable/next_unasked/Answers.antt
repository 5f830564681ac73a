use Rattle.std.proofs.Common.{◌<◌, ◌∙◌, ◌&&◌, not, ap, sym, subst, IfSome}
use Rattle.cluster_msgs.specs.Shape.{key_count}
use Rattle.cluster_rules.specs.Worker.{wstate, is_missing_state}
use Rattle.key_sets.specs.Sets.{has}
use Rattle.worker_facts.specs.Stored.{Stored, facts_of}
use Rattle.worker_table.proofs.PartLemmas.{unasked-is}
use Rattle.worker_table.proofs.SearchLemmas.{first_same, first_within}
use Rattle.worker_table.proofs.table.WorkerTable.next_unasked.Goals as goal

pub returns-clause-first : goal.returns-clause-first
returns-clause-first c =
    let f = facts_of c.self.inside.facts in
    let v = c.self.invariant in
    first_same (has c.self.inside.plan.unasked) _ c.args.from c.first_from.result (λ k. (v.at k).unasked ∙ sym (unasked-is f k) ∙ ap (λ s. let f = facts_of s in is_missing_state (wstate f k) && not (f.asked k)) c.self.view_is) c.first_from.ensures

pub returns-clause-within : goal.returns-clause-within
returns-clause-within c =
    let f = facts_of c.self.inside.facts in
    subst (λ (s : Stored). IfSome c.first_from.result (λ k. k < key_count (facts_of s).shape)) c.self.view_is (first_within (has c.self.inside.plan.unasked) (key_count f.shape) c.args.from c.first_from.result (λ k l. (c.self.invariant.outside k l).unasked) c.first_from.ensures)
