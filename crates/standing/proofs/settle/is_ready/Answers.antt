use Rattle.std.proofs.Common.{ltb, ap, ◌∙◌}
use Rattle.sched_facts.specs.Stored.{facts_of}
use Rattle.standing.proofs.Unique.{ready-by}
use Rattle.standing.proofs.settle.is_ready.Goals as goal

pub returns : goal.returns
returns c = ready-by (facts_of c.args.table.now) c.args.key c.is_set-is_waiting.result (ltb 0 c.leaders-lacks.result) (c.is_set-is_waiting.ensures ∙ c.requires.waiting) (ap (ltb 0) c.leaders-lacks.ensures ∙ c.requires.missing)
