use Rattle.std.proofs.Common.{◌∙◌, ◌++◌, ◌∷◌, [], List, ap, sym}
use Rattle.std.proofs.lemmas.List.{map-append}
use Rattle.cluster_msgs.specs.declared.messages.Up.{Up}
use Rattle.cluster_msgs.specs.declared.messages.Message.{Message}
use Rattle.cluster_msgs.specs.declared.messages.Message.TheVariants as message
use Rattle.cluster_msgs.specs.declared.events.Asker.TheVariants.{Worker}
use Rattle.cluster_rules.specs.World.{Parcel}
use Rattle.cluster_rules.specs.WorldStep.{sends, requested}
use Rattle.message_queues.specs.Posts.{ups}
use Rattle.message_queues.specs.Transit.{parcels}
use Rattle.message_queues.proofs.QueueLemmas.{sends-append, requested-append}
use Rattle.message_queues.proofs.post.post_worker.Goals as goal

pub loop-instruction-preserved : goal.loop-instruction-preserved
loop-instruction-preserved g c =
    let before = c.loop-instruction.yielded in
    let one = c.in-Some.instruction ∷ [] in
    record {
      messages = c.in_ok-post_instruction.ensures.messages
          ∙ ap (λ (l : List Message). l ++ ups (sends one)) c.loop-instruction.invariant.messages
          ∙ sym (map-append (λ (m : Up). message.Up m) (sends before) (sends one)) ∙ sym (ap ups (sends-append before one));
      requests = c.in_ok-post_instruction.ensures.requests
          ∙ ap (λ (qs : List Parcel). requested (Worker c.args.worker) qs one) c.loop-instruction.invariant.requests
          ∙ sym (requested-append (Worker c.args.worker) before one (parcels c.args.requests.now));
      kind = λ h. c.in_ok-post_instruction.ensures.kind (c.loop-instruction.invariant.kind h);
    }
