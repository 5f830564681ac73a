use Rattle.std.proofs.Common.{◌≡◌, ◌∙◌, ◌+◌, ◌-◌, ◌^◌, ◌<◌, ℕ, [], ap, sym, arith, length}
use Rattle.std.specs.Prelude.{min}
use Rattle.std.proofs.lemmas.List.{get_or_default}
use Rattle.small_facts.proofs.Numbers.{capped_more}
use Rattle.cluster_rules.specs.Derived.{below}
use Rattle.cluster_rules.specs.Functions.{total}
use Rattle.cluster_rules.proofs.TotalLemmas.{total-below}
use Rattle.message_queues.specs.Queues.{waiting}
use Rattle.message_queues.proofs.links.Links.count.Goals as goal

pub loop-node-preserved : goal.loop-node-preserved
loop-node-preserved g c =
    let queues = c.self.inside.queues.items in
    let node = c.loop-node.node in
    let inside : node < length queues = omega (arith, c.loop-node-test.true, c.len-node-end.ensures) in
    let here : c.index.result.now ≡ waiting queues node = c.index.ensures ∙ get_or_default queues node c.index.result.now [] inside in
    rw (← c.self.view_is) (c.saturating_add-total.ensures
    ∙ ap (λ n. min (c.loop-node.total + n) (2 ^ 64 - 1)) (c.len.ensures ∙ ap length here)
    ∙ capped_more c.loop-node.total (total (λ (i : ℕ). length (waiting queues i)) (below node)) (length (waiting queues node)) (2 ^ 64 - 1) (rw (← c.self.view_is) at c.loop-node.invariant)
    ∙ ap (λ n. min n (2 ^ 64 - 1)) (sym (total-below (λ (i : ℕ). length (waiting queues i)) node)))
