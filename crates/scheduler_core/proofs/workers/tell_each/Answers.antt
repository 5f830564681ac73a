use Rattle.std.proofs.Common.{◌≡◌, ◌+◌, ◌++◌, [], cond, sym, ap, ◌∙◌, arith, append_assoc}
use Rattle.std.specs.List.{flat_map, filter, range_with_len}
use Rattle.cluster_rules.specs.Sched.{connected}
use Rattle.cluster_rules.proofs.SchedLemmas.{flat_map-filter-more}
use Rattle.sched_facts.specs.Stored.{facts_of}
use Rattle.scheduler_core.specs.Mail.{mail_by, lost_by}
use Rattle.scheduler_core.proofs.workers.tell_each.Goals as goal

pub loop-before-preserved : goal.loop-before-preserved
loop-before-preserved c =
    let f = facts_of c.args.table.now in
    let g = mail_by f (lost_by c.args.errand.now.lost.items) c.args.errand.now.since c.args.errand.now.answer in
    let w = 1 + c.loop-before.before in
    rw (c.in_ok-tell_connected.ensures, c.loop-before.invariant) (append_assoc c.args.out.now (flat_map g (filter (connected f) (range_with_len 1 c.loop-before.before))) (cond (connected f w) (g w) []) ∙ ap (λ l. c.args.out.now ++ l) (sym (flat_map-filter-more g (connected f) 1 c.loop-before.before)))

pub returns : goal.returns
returns c =
    let f = facts_of c.args.table.now in
    let g = mail_by f (lost_by c.args.errand.now.lost.items) c.args.errand.now.since c.args.errand.now.answer in
    let every : c.loop-before.before ≡ f.last_worker = omega (arith, c.last_worker-before-end.ensures) in
    c.loop-before.invariant ∙ ap (λ n. c.args.out.now ++ flat_map g (filter (connected f) (range_with_len 1 n))) every
