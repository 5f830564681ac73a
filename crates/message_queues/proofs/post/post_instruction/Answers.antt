use Rattle.std.proofs.Common.{◌∙◌, ◌∷◌, [], List, ap, sym, subst}
use Rattle.std.proofs.lemmas.Result.{on_ok_weaker}
use Rattle.cluster_msgs.specs.declared.events.Asker.TheVariants.{Worker}
use Rattle.cluster_msgs.specs.declared.cores.Instruction.{Instruction}
use Rattle.cluster_rules.specs.World.{Parcel, with_parcel}
use Rattle.cluster_rules.specs.WorldStep.{requested}
use Rattle.message_queues.specs.Transit.{parcels, IsRequest, AreRequests}
use Rattle.message_queues.specs.declared.transit.InTransit.{InTransit}
use Rattle.message_queues.proofs.QueueLemmas.{all_with, request_kind}
use Rattle.message_queues.proofs.post.post_instruction.Goals as goal

pub returns-in-Gather-clause-requests : goal.returns-in-Gather-clause-requests
returns-in-Gather-clause-requests g c = on_ok_weaker c.insert.result
    (λ e. e ∙ ap (λ (p : Parcel). with_parcel p (parcels c.args.requests.now)) c.request.ensures.parcel
    ∙ sym (ap (λ (i : Instruction). requested (Worker c.args.worker) (parcels c.args.requests.now) (i ∷ [])) c.in-Gather.is)) c.insert.ensures.parcels

pub returns-in-Gather-clause-kind : goal.returns-in-Gather-clause-kind
returns-in-Gather-clause-kind g c = on_ok_weaker c.insert.result
    (λ e h. subst (λ (ts : List (InTransit g.row.B.Denot)). AreRequests ts) (sym e)
    (all_with (λ (t : InTransit g.row.B.Denot). IsRequest t) c.request.result c.args.requests.now (request_kind c.request.result (Worker c.args.worker) c.in-Gather.peer c.in-Gather.ask c.in-Gather.keys c.request.ensures.parcel c.request.ensures.message) h))
    c.insert.ensures.ok
