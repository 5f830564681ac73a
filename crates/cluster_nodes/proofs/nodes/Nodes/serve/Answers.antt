use Rattle.std.proofs.Common.{◌∙◌, None, ap, sym, filter}
use Rattle.std.specs.List.{filter_map}
use Rattle.std.proofs.lemmas.Result.{on_ok_weaker}
use Rattle.cluster_rules.specs.Worker.{WorkerFacts}
use Rattle.fact_rows.specs.Rows.{cell}
use Rattle.message_queues.proofs.QueueLemmas.{answer_kind}
use Rattle.message_queues.specs.Transit.{named_by}
use Rattle.worker_core.specs.Core.{facts}
use Rattle.cluster_nodes.specs.Nodes.{block_at, world_of}
use Rattle.cluster_nodes.proofs.NodeLemmas.{worker_was}
use Rattle.cluster_nodes.proofs.Keeping.{nodes_moving}
use Rattle.cluster_nodes.proofs.Gathering.{none_served, served_is, requests_left, answers_more}
use Rattle.cluster_nodes.proofs.nodes.Nodes.serve.Goals as goal

pub returns-in-None-clause-cluster : goal.returns-in-None-clause-cluster
returns-in-None-clause-cluster g c f = none_served f c.args.self.now c.args.asker c.args.peer c.args.ask c.take.new.self c.in-None.ensures.item c.in-None.ensures.rest

pub returns-in-None-clause-nodes : goal.returns-in-None-clause-nodes
returns-in-None-clause-nodes g c = nodes_moving c.args.self.now c.take.new.self c.args.self.now.answers (requests_left c.args.asker c.args.peer c.args.ask c.args.self.now.requests c.take.new.self c.in-None.ensures.rest c.requires.nodes.sorted.requests) c.requires.nodes.sorted.answers c.requires.nodes

pub returns-in_ok-blocks-in-Some-clause-cluster : goal.returns-in_ok-blocks-in-Some-clause-cluster
unfolding world_of
returns-in_ok-blocks-in-Some-clause-cluster g c = on_ok_weaker c.insert.result
    (λ ok f.
    let old = c.args.self.now in
    let t = c.in-Some.request in
    served_is f old c.args.asker c.args.peer c.args.ask c.take.new.self c.insert.new.self t c.answer.result c.in_ok-found-in-Some.found c.in_ok-blocks-in-Some.blocks
    c.in-Some.ensures.item c.in-Some.ensures.rest
    (c.in_ok-found-in-Some.ensures ∙ ap (filter (facts c.index-core.result.now).mem) (c.as_slice.ensures ∙ c.keys_of-keys.ensures)
    ∙ ap (λ (w : WorkerFacts). filter w.mem (named_by t.message)) (sym (worker_was f.setting.shape old.alive old.workers.items c.args.peer c.index-core.result.now c.requires.peer c.requires.alive c.index-core.ensures)))
    (c.in_ok-blocks-in-Some.ensures ∙ ap (filter_map (λ k. block_at (cell old.held None c.args.peer k))) c.as_slice-in-Some.ensures) c.answer.ensures.parcel c.answer.ensures.blocks ok)
    c.insert.ensures.ok

pub returns-in_ok-blocks-in-Some-clause-nodes : goal.returns-in_ok-blocks-in-Some-clause-nodes
returns-in_ok-blocks-in-Some-clause-nodes g c = on_ok_weaker c.insert.result (λ ok. nodes_moving c.args.self.now c.take.new.self c.insert.new.self
    (requests_left c.args.asker c.args.peer c.args.ask c.args.self.now.requests c.take.new.self c.in-Some.ensures.rest c.requires.nodes.sorted.requests)
    (answers_more c.answer.result c.args.self.now.answers c.insert.new.self ok (answer_kind c.answer.result _ _ _ _ c.answer.ensures.parcel c.answer.ensures.message) c.requires.nodes.sorted.answers)
    c.requires.nodes) c.insert.ensures.ok

pub returns-in-None-clause-few : goal.returns-in-None-clause-few
returns-in-None-clause-few g c n h = h

pub returns-in_ok-blocks-in-Some-clause-few : goal.returns-in_ok-blocks-in-Some-clause-few
returns-in_ok-blocks-in-Some-clause-few g c = on_ok_weaker c.insert.result (λ ok n h. h) c.insert.ensures.ok
