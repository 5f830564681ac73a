use Rattle.std.proofs.Common.{Ok, Err}
use Rattle.task_graph.proofs.Ordered.{place-searched}
use Rattle.task_graph.proofs.moves.place_among.Goals as goal

pub returns-in-Ok : goal.returns-in-Ok
returns-in-Ok c = place-searched c.args.deps.now c.args.key (Ok c.in-Ok.place) c.requires.rising c.in-Ok.ensures.position

pub returns-in-Err : goal.returns-in-Err
returns-in-Err c = place-searched c.args.deps.now c.args.key (Err c.in-Err.field-0) c.requires.rising c.in-Err.ensures.position
