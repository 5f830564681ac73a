use Rattle.std.proofs.Common.{◌≡◌, take, vec_len}
use Rattle.std.specs.Prelude.{map}
use Rattle.std.specs.Arc.{arc_value}
use Rattle.std.specs.Vec.{vec_capacity}
use Rattle.client_futures.specs.Answers.{AreGot}
use Rattle.client_futures.proofs.look.collect.Given as goal

abbrev pub invariant-loop-at : goal.invariant-loop-at
invariant-loop-at g l =
    (g.R.Rounds.seen l.rounds ≡ g.R.Rounds.seen l.fn.rounds)
    × g.R.Rounds.leads l.fn.rounds l.rounds
    × AreGot (g.R.Rounds.seen l.fn.rounds) (take l.at l.keys) (map arc_value l.blocks.items)
    × (vec_len l.blocks ≡ l.at)
    × (vec_capacity l.blocks ≡ vec_capacity l.fn.blocks)
