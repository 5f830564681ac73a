use Rattle.node_runner.proofs.making.add_made.Goals as goal

pub returns-in-Ok-clause-added : goal.returns-in-Ok-clause-added
returns-in-Ok-clause-added g c = λ yes. let a = c.add.ensures.added yes in (c.in-Ok.state, c.in-Ok.is, a.0, a.1, a.2)
