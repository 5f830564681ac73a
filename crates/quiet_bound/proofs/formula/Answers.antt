use Rattle.std.proofs.Common.{arith, ◌-◌, ◌^◌}
use Rattle.quiet_bound.proofs.Capped.{bound-held}
use Rattle.quiet_bound.proofs.formula.Goals as goal

pub returns : goal.returns
returns c = rw (c.times-2.ensures, c.times-asked.ensures, c.square.ensures, c.times.ensures, c.square-2.ensures, c.cube.ensures) (bound-held c.args.clients c.args.messages c.args.workers c.args.graph (2 ^ 128 - 1) c.requires.clients.0 c.requires.messages c.requires.workers c.requires.graph (omega arith))
