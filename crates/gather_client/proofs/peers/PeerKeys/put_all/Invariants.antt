use Rattle.std.proofs.Common.{take}
use Rattle.gather_client.specs.Peers.{HoldsPut}
use Rattle.gather_client.proofs.peers.PeerKeys.put_all.Given as goal

abbrev pub invariant-loop-holder : goal.invariant-loop-holder
invariant-loop-holder l = HoldsPut l.key l.to (take l.holder-index l.holders) l.fn.self l.self
