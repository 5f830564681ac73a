use Rattle.std.proofs.Common.{sym, append-nil, subst, ◌≡◌, ◌++◌}
use Rattle.std.specs.Prelude.{OnOk}
use Rattle.small_facts.proofs.Results.{on_ok_from}
use Rattle.cluster_rules.specs.Client.{client_step, client_takes, client_gathered}
use Rattle.gather_client.specs.Stored.{facts_of}
use Rattle.gather_client.proofs.events.perform.Goals as goal

pub want-requires : goal.want-requires
unfolding client_takes
want-requires c = rw c.in-Want.is at c.requires.possible

pub release-requires : goal.release-requires
unfolding client_takes
release-requires c = rw c.in-Release.is at c.requires.possible

pub hear-requires : goal.hear-requires
unfolding client_takes
hear-requires c = rw c.in-FromScheduler.is at c.requires.possible

pub returns-in-Want-clause-facts : goal.returns-in-Want-clause-facts
unfolding client_step
returns-in-Want-clause-facts c = rw c.in-Want.is c.want.ensures.facts

pub returns-in-Want-clause-instructions : goal.returns-in-Want-clause-instructions
unfolding client_step
returns-in-Want-clause-instructions c = rw c.in-Want.is c.want.ensures.instructions

pub returns-in-Release-clause-facts : goal.returns-in-Release-clause-facts
unfolding client_step
returns-in-Release-clause-facts c = rw c.in-Release.is c.release.ensures.facts

pub returns-in-Release-clause-instructions : goal.returns-in-Release-clause-instructions
unfolding client_step
returns-in-Release-clause-instructions c = rw c.in-Release.is c.release.ensures.instructions

pub returns-in-FromScheduler-clause-facts : goal.returns-in-FromScheduler-clause-facts
unfolding client_step
returns-in-FromScheduler-clause-facts c = rw c.in-FromScheduler.is c.hear.ensures

pub returns-in-FromScheduler-clause-instructions : goal.returns-in-FromScheduler-clause-instructions
unfolding client_step
returns-in-FromScheduler-clause-instructions c = rw c.in-FromScheduler.is (on_ok_from c.hear.result (sym (append-nil c.args.out.now)))

pub returns-in-Ask-clause-facts : goal.returns-in-Ask-clause-facts
unfolding client_step
returns-in-Ask-clause-facts c = rw c.in-Ask.is c.ask.ensures.facts

pub returns-in-Ask-clause-instructions : goal.returns-in-Ask-clause-instructions
unfolding client_step
returns-in-Ask-clause-instructions c = rw c.in-Ask.is c.ask.ensures.instructions

pub returns-in-Gathered-clause-facts : goal.returns-in-Gathered-clause-facts
unfolding client_step
returns-in-Gathered-clause-facts c = rw c.in-Gathered.is (subst (λ fs. OnOk c.gathered.result (facts_of c.gathered.new.table ≡ (client_gathered (facts_of c.args.table.now) c.in-Gathered.peer c.in-Gathered.ask fs).facts)) c.as_slice.ensures c.gathered.ensures.facts)

pub returns-in-Gathered-clause-instructions : goal.returns-in-Gathered-clause-instructions
unfolding client_step
returns-in-Gathered-clause-instructions c = rw c.in-Gathered.is (subst (λ fs. OnOk c.gathered.result (c.gathered.new.out ≡ c.args.out.now ++ (client_gathered (facts_of c.args.table.now) c.in-Gathered.peer c.in-Gathered.ask fs).out)) c.as_slice.ensures c.gathered.ensures.instructions)

pub returns-in-GatherFailed-clause-facts : goal.returns-in-GatherFailed-clause-facts
unfolding client_step
returns-in-GatherFailed-clause-facts c = rw c.in-GatherFailed.is c.gathered-in-GatherFailed.ensures.facts

pub returns-in-GatherFailed-clause-instructions : goal.returns-in-GatherFailed-clause-instructions
unfolding client_step
returns-in-GatherFailed-clause-instructions c = rw c.in-GatherFailed.is c.gathered-in-GatherFailed.ensures.instructions
