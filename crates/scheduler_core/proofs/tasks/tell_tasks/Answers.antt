use Rattle.std.proofs.Common.{◌≡◌, ℕ, ◌++◌, [], sym, ap, ◌∙◌, arith, append_assoc, take, get_or}
use Rattle.std.proofs.lemmas.List.{take_all}
use Rattle.std.specs.List.{filter_map, cons_option}
use Rattle.cluster_rules.specs.Derived.{below}
use Rattle.cluster_rules.specs.Sched.{keys}
use Rattle.cluster_rules.specs.SchedStep.{task_message, task_messages}
use Rattle.sched_facts.specs.Stored.{facts_of}
use Rattle.scheduler_core.specs.Mail.{is_since, given_keys}
use Rattle.scheduler_core.proofs.MailLemmas.{filter_map_more, filter_map_passed, no_task}
use Rattle.scheduler_core.proofs.tasks.tell_tasks.Goals as goal

pub loop-key-preserved : goal.loop-key-preserved
loop-key-preserved c =
    let f = facts_of c.args.table.now in
    let one = λ (k : ℕ). task_message f c.args.since c.args.worker k (f.on k) in
    let xs = c.args.given.now in
    let i = c.loop-key.key-index in
    rw (c.in_ok-tell_task.ensures, c.loop-key.invariant) (append_assoc c.args.out.now (filter_map one (take i xs)) (cons_option (one (get_or xs i 0)) []) ∙ ap (λ l. c.args.out.now ++ l) (sym (filter_map_more one xs i 0 c.loop-key-test.true)))

pub returns : goal.returns
unfolding task_messages given_keys
returns c =
    let f = facts_of c.args.table.now in
    let one = λ (k : ℕ). task_message f c.args.since c.args.worker k (f.on k) in
    let xs = c.args.given.now in
    let every : take c.loop-key.key-index xs ≡ xs = take_all c.loop-key.key-index xs (omega arith) in
    c.loop-key.invariant ∙ ap (λ l. c.args.out.now ++ filter_map one l) (every ∙ c.requires) ∙ ap (λ l. c.args.out.now ++ l) (filter_map_passed one (λ (k : ℕ). is_since c.args.since (f.on k)) (λ k h. no_task f c.args.since c.args.worker k (f.on k) h) (below (keys f)))
