use Rattle.std.proofs.Common.{refl}
use Rattle.cluster_msgs.specs.declared.messages.Message.TheVariants as message
use Rattle.message_queues.specs.Queues.{waiting}
use Rattle.cluster_nodes.specs.Nodes.{as_down, as_up}
use Rattle.cluster_nodes.proofs.NodeLemmas.{downs_are, ups_are, none_at, only_none}
use Rattle.cluster_nodes.proofs.Changing.{cut_is}
use Rattle.cluster_nodes.proofs.Keeping.{sized_links}
use Rattle.cluster_nodes.proofs.nodes.Nodes.cut_off.Goals as goal

pub returns-clause-cluster : goal.returns-clause-cluster
returns-clause-cluster g c f =
    let old = c.args.self.now in
    cut_is f old c.clear.new.self c.clear-2.new.self c.args.worker
    (none_at as_down (λ m. message.Down m) downs_are (waiting old.down) (waiting c.clear.new.self) c.args.worker c.clear.ensures.meaning)
    (none_at as_up (λ m. message.Up m) ups_are (waiting old.up) (waiting c.clear-2.new.self) c.args.worker c.clear-2.ensures.meaning)

pub returns-clause-nodes : goal.returns-clause-nodes
returns-clause-nodes g c =
    let old = c.args.self.now in
    let s = c.requires.nodes.sorted in
    record {
      sized = sized_links old c.clear.new.self c.clear-2.new.self old.to_client old.from_client c.clear.ensures.length c.clear-2.ensures.length refl refl c.requires.nodes.sized;
      sorted = record {
        down = only_none as_down (λ m. message.Down m) downs_are (waiting old.down) (waiting c.clear.new.self) c.args.worker c.clear.ensures.meaning s.down;
        up = only_none as_up (λ m. message.Up m) ups_are (waiting old.up) (waiting c.clear-2.new.self) c.args.worker c.clear-2.ensures.meaning s.up;
        to_client = s.to_client;
        from_client = s.from_client;
        requests = s.requests;
        answers = s.answers;
      };
      tidy = c.requires.nodes.tidy;
    }

pub returns-clause-few : goal.returns-clause-few
returns-clause-few g c n h = h
