use Rattle.std.proofs.Common.{◌∙◌, ◌||◌, ℕ, ap, sym, arith, filter, is_some}
use Rattle.std.specs.List.{filter_map}
use Rattle.cluster_msgs.specs.Shape.{key_count}
use Rattle.cluster_rules.specs.Derived.{below}
use Rattle.cluster_rules.specs.Worker.{wstate, is_fetch_state, item_at, fetchable, has_any}
use Rattle.worker_facts.specs.Stored.{facts_of}
use Rattle.worker_table.proofs.SearchLemmas.{filter-next, filter-gap, any-push, any_at}
use Rattle.worker_table.proofs.table.WorkerTable.has_fetchable.Goals as goal

pub keys-preserved : goal.keys-preserved
keys-preserved c =
    let f = facts_of c.args.self.now in
    let p = c.args.peer in
    let k = c.in-Some.key in
    let first = c.in-Some.ensures.first in
    let item = c.item_at.ensures ∙ ap (item_at p k) (c.holders.ensures ∙ ap (λ s. (facts_of s).holders k) c.self.view_is) in
    record {
      none = ap (λ ks. has_any (filter_map (λ (j : ℕ). item_at p j (f.holders j)) ks)) (filter-next (λ (j : ℕ). is_fetch_state (wstate f j)) c.keys.from k first.0 first.1 first.2)
          ∙ any-push (λ (j : ℕ). item_at p j (f.holders j)) (filter (λ (j : ℕ). is_fetch_state (wstate f j)) (below c.keys.from)) k
          ∙ ap (λ b. b || is_some (item_at p k (f.holders k))) c.keys.invariant.none
          ∙ ap is_some (sym item) ∙ sym c.is_some.ensures ∙ c.if-is_some.false;
      low = omega (arith, c.in-Some.ensures.within);
    }

pub returns-then-is_some : goal.returns-then-is_some
unfolding fetchable
returns-then-is_some c =
    let f = facts_of c.args.self.now in
    let p = c.args.peer in
    let k = c.in-Some.key in
    let item = c.item_at.ensures ∙ ap (item_at p k) (c.holders.ensures ∙ ap (λ s. (facts_of s).holders k) c.self.view_is) in
    sym (any_at (λ (j : ℕ). item_at p j (f.holders j)) (λ (j : ℕ). is_fetch_state (wstate f j)) k (key_count f.shape) c.in-Some.ensures.within c.in-Some.ensures.first.1 (ap is_some (sym item) ∙ sym c.is_some.ensures ∙ c.if-is_some.true))

pub returns : goal.returns
unfolding fetchable
returns c =
    let f = facts_of c.args.self.now in
    sym (ap (λ ks. has_any (filter_map (λ (j : ℕ). item_at c.args.peer j (f.holders j)) ks)) (filter-gap (λ (j : ℕ). is_fetch_state (wstate f j)) c.keys.from (key_count f.shape) c.keys.invariant.low (λ j l m. c.in_default.ensures.first j l)) ∙ c.keys.invariant.none)
