use Rattle.std.proofs.Common.{take}
use Rattle.gather_client.specs.Peers.{AreReady, HoldsSame}
use Rattle.gather_client.proofs.peers.PeerKeys.add_sets.Given as goal

abbrev pub invariant-loop-holder : goal.invariant-loop-holder
invariant-loop-holder l = record {
  ready : AreReady l.self (take l.holder-index l.holders);
  same : HoldsSame l.fn.self l.self;
}
