use Rattle.std.proofs.Common.{◌||◌, ltb, ap, ◌∙◌}
use Rattle.cluster_rules.specs.Sched.{wanted}
use Rattle.sched_facts.specs.Stored.{facts_of}
use Rattle.standing.proofs.Unique.{need-waited}
use Rattle.standing.proofs.settle.is_needed.Goals as goal

pub returns : goal.returns
returns c =
    let f = facts_of c.args.table.now in
    let k = c.args.key in
    ap (λ b. b || ltb 0 c.leaders.result) c.is_wanted.ensures ∙ ap (λ n. wanted f k || ltb 0 n) (c.leaders.ensures ∙ c.requires.waiters) ∙ need-waited f c.sound.ensures k
