use Rattle.sched_changes.proofs.Following.{follows_one}
use Rattle.sched_changes.proofs.making.make.Goals as goal

pub returns-clause-follows : goal.returns-clause-follows
returns-clause-follows c = follows_one c.args.table.now c.apply.new.self c.args.change c.apply.ensures.facts c.apply.ensures.touched
