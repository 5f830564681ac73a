use Rattle.std.proofs.Common.{◌∙◌, ◌&&◌, ◌<◌, not, ap, sym, arith, length}
use Rattle.small_facts.proofs.Options.{is_none_not_some}
use Rattle.cluster_rules.specs.Worker.{would_ask, ask_to}
use Rattle.worker_facts.specs.Stored.{facts_of}
use Rattle.worker_core.proofs.moves.Moves.would_ask.Goals as goal

pub returns-then-peer-len : goal.returns-then-peer-len
unfolding would_ask
returns-then-peer-len c =
    let f = facts_of c.args.table.now in
    let asked = ap not c.has_ask.ensures ∙ sym (is_none_not_some (ask_to f.asks c.args.peer)) in
    let within : c.args.peer < length c.args.self.now.peers = omega (arith, c.if-peer-len.true, c.len.ensures) in
    let holds = c.test.ensures ∙ c.requires.peers c.args.peer within in
    (λ t. asked t && holds t)
