use Rattle.std.proofs.Common.{◌≡◌, ◌∙◌, ℕ, List, ap, refl, sym, rules}
use Rattle.std.proofs.lemmas.Iterator.Adapters.{YieldsList-from_vec}
use Rattle.std.proofs.lemmas.Iterator.Consumers.{YieldsList-end}
use Rattle.std.proofs.lemmas.List.{map-id}
use Rattle.cluster_msgs.specs.declared.messages.Down.{Down}
use Rattle.cluster_msgs.specs.declared.messages.Message.TheVariants as message
use Rattle.cluster_rules.specs.SchedStep.{mail}
use Rattle.message_queues.specs.Queues.{waiting}
use Rattle.message_queues.specs.Posts.{downs, posted}
use Rattle.message_queues.proofs.QueueLemmas.{letter_posted}
use Rattle.message_queues.proofs.post.post_down.Goals as goal

pub loop-letter-preserved : goal.loop-letter-preserved
loop-letter-preserved c = record {
  down = letter_posted (λ (m : Down). message.Down m) mail (λ i. refl) (λ i m ms. refl) (waiting c.args.down.now) (waiting c.loop-letter.down) (waiting c.push.new.self) c.loop-letter.yielded c.in-Some.letter c.loop-letter.invariant.down c.in_ok-push.ensures.ok;
  length = c.push.ensures.length ∙ c.loop-letter.invariant.length;
}

pub returns-clause-down : goal.returns-clause-down
returns-clause-down c =
    let end = YieldsList-end (YieldsList-from_vec {s = c.into_iter-letter-iterator.result} c.into_vec-letter-items.result.items (search rules) (search rules)) c.loop-letter.yielded c.loop-letter.letter-iterator c.loop-letter.yielded_by c.next.result c.next.new.self c.in-None.is c.next.ensures.steps in
    let all : c.loop-letter.yielded ≡ c.args.sent = sym (map-id c.loop-letter.yielded) ∙ end.0 ∙ c.into_vec-letter-items.ensures in
    c.loop-letter.invariant.down ∙ ap (λ (ms : List (ℕ × Down)). posted (waiting c.args.down.now) (λ i. downs (mail i ms))) all
