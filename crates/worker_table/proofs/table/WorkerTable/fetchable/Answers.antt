use Rattle.std.proofs.Common.{◌∙◌, ◌∷◌, ◌++◌, [], ℕ, ap, sym, arith, filter}
use Rattle.std.specs.List.{filter_map, cons_option}
use Rattle.std.proofs.lemmas.List.Elements.{filter_map-append}
use Rattle.cluster_msgs.specs.Shape.{key_count}
use Rattle.cluster_rules.specs.Derived.{below}
use Rattle.cluster_rules.specs.Worker.{wstate, is_fetch_state, item_at, fetchable}
use Rattle.worker_facts.specs.Stored.{facts_of}
use Rattle.worker_table.proofs.SearchLemmas.{filter-next, filter-gap}
use Rattle.worker_table.proofs.table.WorkerTable.fetchable.Goals as goal

pub keys-preserved : goal.keys-preserved
keys-preserved c =
    let f = facts_of c.args.self.now in
    let p = c.args.peer in
    let k = c.in-Some.key in
    let first = c.in-Some.ensures.first in
    record {
      made = c.in_ok-push_item.ensures.ok
          ∙ ap (λ xs. xs ++ cons_option c.item_at.result []) c.keys.invariant.made
          ∙ ap (λ o. filter_map (λ (j : ℕ). item_at p j (f.holders j)) (filter (λ (j : ℕ). is_fetch_state (wstate f j)) (below c.keys.from)) ++ cons_option o []) (c.item_at.ensures ∙ ap (item_at p k) (c.holders.ensures ∙ ap (λ s. (facts_of s).holders k) c.self.view_is))
          ∙ sym (filter_map-append (λ (j : ℕ). item_at p j (f.holders j)) (filter (λ (j : ℕ). is_fetch_state (wstate f j)) (below c.keys.from)) (k ∷ []))
          ∙ ap (filter_map (λ (j : ℕ). item_at p j (f.holders j))) (sym (filter-next (λ (j : ℕ). is_fetch_state (wstate f j)) c.keys.from k first.0 first.1 first.2));
      low = omega (arith, c.in-Some.ensures.within);
    }

pub returns : goal.returns
unfolding fetchable
returns c =
    let f = facts_of c.args.self.now in
    c.keys.invariant.made ∙ ap (filter_map (λ (j : ℕ). item_at c.args.peer j (f.holders j))) (sym (filter-gap (λ (j : ℕ). is_fetch_state (wstate f j)) c.keys.from (key_count f.shape) c.keys.invariant.low (λ j l m. c.in_default.ensures.first j l)))
