use Rattle.std.proofs.Common.{◌≡◌, ◌∙◌, ◌+◌, ◌-◌, ◌^◌, ap, sym, arith, length, ℕ}
use Rattle.std.specs.Prelude.{min}
use Rattle.small_facts.proofs.Numbers.{capped_more}
use Rattle.cluster_msgs.specs.Shape.{key_count}
use Rattle.cluster_rules.specs.Derived.{below}
use Rattle.cluster_rules.specs.Worker.{pairs, pair_count}
use Rattle.cluster_rules.proofs.TotalLemmas.{total-below}
use Rattle.worker_facts.specs.Stored.{facts_of}
use Rattle.worker_facts.proofs.table.WorkerTable.pairs.Goals as goal

pub loop-key-preserved : goal.loop-key-preserved
loop-key-preserved c =
    let f = facts_of c.args.self.now in
    c.saturating_add-total.ensures
    ∙ ap (λ n. min (c.loop-key.total + n) (2 ^ 64 - 1)) (ap length c.holders.ensures)
    ∙ capped_more c.loop-key.total (pair_count f.holders (below c.loop-key.key)) (length (f.holders c.loop-key.key)) (2 ^ 64 - 1) c.loop-key.invariant
    ∙ ap (λ n. min n (2 ^ 64 - 1)) (sym (total-below (λ (k : ℕ). length (f.holders k)) c.loop-key.key))

pub returns : goal.returns
unfolding pairs
returns c =
    let f = facts_of c.args.self.now in
    c.loop-key.invariant ∙ ap (λ n. min (pair_count f.holders (below n)) (2 ^ 64 - 1)) (let e : c.loop-key.key ≡ key_count f.shape = omega (arith, c.keys-key-end.ensures) in e)
