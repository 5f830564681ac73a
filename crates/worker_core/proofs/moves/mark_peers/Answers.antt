use Rattle.std.proofs.Common.{◌∙◌, ◌||◌, ℕ, Some, ap, sym, arith, filter, length}
use Rattle.std.specs.Prelude.{◌==◌}
use Rattle.std.specs.List.{list_any, filter_map}
use Rattle.cluster_msgs.specs.Shape.{key_count}
use Rattle.cluster_rules.specs.Derived.{below}
use Rattle.cluster_rules.specs.Worker.{fetchable, has_any, is_fetch_state, item_at, wstate}
use Rattle.worker_facts.specs.Stored.{facts_of}
use Rattle.worker_table.proofs.SearchLemmas.{filter-next, filter-gap, any-push, holder}
use Rattle.worker_core.proofs.moves.mark_peers.Goals as goal

pub keys-preserved : goal.keys-preserved
keys-preserved c =
    let f = facts_of c.args.table.now in
    let k = c.in-Some.key in
    let a = c.keys.from in
    let first = c.in-Some.ensures.first in
    record {
      marked = λ p h.
          c.mark_items.ensures.marked p (omega (arith, c.keys.invariant.long))
          ∙ ap (λ b. b || list_any (λ (i : ℕ × ℕ). i.0 == p) c.holders.result.now) (c.keys.invariant.marked p h)
          ∙ ap (λ hs. has_any (filter_map (λ (j : ℕ). item_at p j (f.holders j)) (filter (λ (j : ℕ). is_fetch_state (wstate f j)) (below a))) || list_any (λ (i : ℕ × ℕ). i.0 == p) hs) c.holders.ensures
          ∙ ap (λ b. has_any (filter_map (λ (j : ℕ). item_at p j (f.holders j)) (filter (λ (j : ℕ). is_fetch_state (wstate f j)) (below a))) || b) (holder p k (f.holders k))
          ∙ sym (any-push (λ (j : ℕ). item_at p j (f.holders j)) (filter (λ (j : ℕ). is_fetch_state (wstate f j)) (below a)) k)
          ∙ ap (λ ks. has_any (filter_map (λ (j : ℕ). item_at p j (f.holders j)) ks)) (sym (filter-next (λ (j : ℕ). is_fetch_state (wstate f j)) a k first.0 first.1 first.2));
      long = c.mark_items.ensures.length ∙ c.keys.invariant.long;
      low = omega (arith, c.in-Some.ensures.within);
    }

pub returns-clause-marked : goal.returns-clause-marked
unfolding fetchable
returns-clause-marked c = λ p h.
    let f = facts_of c.args.table.now in
    c.keys.invariant.marked p h
    ∙ ap (λ ks. has_any (filter_map (λ (j : ℕ). item_at p j (f.holders j)) ks)) (sym (filter-gap (λ (j : ℕ). is_fetch_state (wstate f j)) c.keys.from (key_count f.shape) c.keys.invariant.low (λ j l m. c.in_default.ensures.first j l)))
