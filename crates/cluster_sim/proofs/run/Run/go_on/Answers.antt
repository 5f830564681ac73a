use Rattle.std.proofs.Common.{sym, subst}
use Rattle.cluster_sim.specs.Drawn.{IsAtTurn}
use Rattle.cluster_sim.specs.declared.position.Standing.{Standing}
use Rattle.cluster_sim.proofs.TurnLemmas.{words_drawn, words_same}
use Rattle.cluster_sim.proofs.run.Run.go_on.Goals as goal

pub returns-in-Drawn-clause-words : goal.returns-in-Drawn-clause-words
returns-in-Drawn-clause-words c number h =
    subst (λ (s : Standing). IsAtTurn c.advance.new.self number s.turns) (sym c.pass.ensures)
    (words_drawn c.args.self.now.words c.advance.new.self number c.args.self.now.standing c.args.kind c.in-Drawn.is c.advance.ensures h)

pub returns-in_default-clause-words : goal.returns-in_default-clause-words
returns-in_default-clause-words c number h =
    subst (λ (s : Standing). IsAtTurn c.args.self.now.words number s.turns) (sym c.pass.ensures)
    (words_same c.args.self.now.words number c.args.self.now.standing c.args.kind c.in_default.not-Drawn h)
