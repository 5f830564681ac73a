use Rattle.std.proofs.Common.{◌≡◌, ℕ, sym, ap, ◌∙◌, arith}
use Rattle.std.specs.List.{filter_map, range_with_len}
use Rattle.std.specs.Option.{option_map}
use Rattle.cluster_rules.specs.Sched.{holders}
use Rattle.cluster_rules.proofs.SchedLemmas.{filter_map-more}
use Rattle.sched_facts.specs.Stored.{facts_of}
use Rattle.scheduler_core.proofs.copies.holders.Goals as goal

pub loop-before-preserved : goal.loop-before-preserved
loop-before-preserved c =
    let f = facts_of c.args.table.now in
    let one = λ (w : ℕ). option_map (λ (n : ℕ). (w, n)) (f.has w c.args.key) in
    rw (c.in_ok-push_holder.ensures, c.loop-before.invariant, c.copy_at.ensures) (sym (filter_map-more one 1 c.loop-before.before))

pub returns : goal.returns
unfolding holders
returns c =
    let f = facts_of c.args.table.now in
    let one = λ (w : ℕ). option_map (λ (n : ℕ). (w, n)) (f.has w c.args.key) in
    let every : c.loop-before.before ≡ f.last_worker = omega (arith, c.last_worker-before-end.ensures) in
    c.loop-before.invariant ∙ ap (λ n. filter_map one (range_with_len 1 n)) every
