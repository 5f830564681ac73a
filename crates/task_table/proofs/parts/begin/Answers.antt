use Rattle.sched_facts.specs.Stored.{facts_of}
use Rattle.task_table.proofs.Opening.{blank_whole, begun}
use Rattle.task_table.proofs.parts.begin.Goals as goal

pub settle-requires-clause-seeded : goal.settle-requires-clause-seeded
settle-requires-clause-seeded c = blank_whole (facts_of c.args.table.now) c.args.parts.now.levels c.seed_all.new.flags c.requires.opening c.requires.over c.requires.blank c.seed_all.ensures.links c.seed_all.ensures.seeds c.seed_all.ensures.gates

pub returns-clause-parts : goal.returns-clause-parts
returns-clause-parts c = begun (facts_of c.args.table.now) c.args.parts.now c.forget_changes.new.levels c.requires.opening c.requires.roomy c.requires.empty c.forget_changes.ensures.standing c.forget_changes.ensures.quiet
