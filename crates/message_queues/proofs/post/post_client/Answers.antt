use Rattle.std.proofs.Common.{◌∙◌, ◌++◌, ◌∷◌, [], List, ap, sym}
use Rattle.std.proofs.lemmas.List.{map-append}
use Rattle.cluster_msgs.specs.declared.messages.FromClient.{FromClient}
use Rattle.cluster_msgs.specs.declared.messages.Message.{Message}
use Rattle.cluster_msgs.specs.declared.messages.Message.TheVariants as message
use Rattle.cluster_msgs.specs.declared.events.Asker.TheVariants.{Client}
use Rattle.cluster_rules.specs.World.{Parcel}
use Rattle.cluster_rules.specs.WorldStep.{client_sends, client_requested}
use Rattle.message_queues.specs.Posts.{from_clients}
use Rattle.message_queues.specs.Transit.{parcels}
use Rattle.message_queues.proofs.QueueLemmas.{client_sends-append, client_requested-append}
use Rattle.message_queues.proofs.post.post_client.Goals as goal

pub loop-instruction-preserved : goal.loop-instruction-preserved
loop-instruction-preserved g c =
    let before = c.loop-instruction.yielded in
    let one = c.in-Some.instruction ∷ [] in
    record {
      messages = c.in_ok-post_client_instruction.ensures.messages
          ∙ ap (λ (l : List Message). l ++ from_clients (client_sends one)) c.loop-instruction.invariant.messages
          ∙ sym (map-append (λ (m : FromClient). message.FromClient m) (client_sends before) (client_sends one)) ∙ sym (ap from_clients (client_sends-append before one));
      requests = c.in_ok-post_client_instruction.ensures.requests
          ∙ ap (λ (qs : List Parcel). client_requested (Client c.args.client) qs one) c.loop-instruction.invariant.requests
          ∙ sym (client_requested-append (Client c.args.client) before one (parcels c.args.requests.now));
      kind = λ h. c.in_ok-post_client_instruction.ensures.kind (c.loop-instruction.invariant.kind h);
    }
