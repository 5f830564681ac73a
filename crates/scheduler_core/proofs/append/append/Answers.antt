use Rattle.std.proofs.Common.{ap, sym, ◌∙◌, length, take, rules, map-id}
use Rattle.std.proofs.lemmas.Iterator.Consumers.{YieldsList-so_far}
use Rattle.std.proofs.lemmas.Iterator.Adapters.{YieldsList-from_vec}
use Rattle.sched_changes.proofs.PairLemmas.{after_err}
use Rattle.scheduler_core.specs.Sent.{HasFront}
use Rattle.scheduler_core.proofs.FrontLemmas.{front_of}
use Rattle.scheduler_core.proofs.append.append.Goals as goal

pub returns-in_err-push-clause-err : goal.returns-in_err-push-clause-err
returns-in_err-push-clause-err g c =
    let road = YieldsList-from_vec {s = c.into_iter-item-iterator.result} c.into_vec-item-items.result.items (search rules) (search rules) in
    let front = YieldsList-so_far road c.loop-item.yielded c.loop-item.item-iterator c.loop-item.yielded_by in
    after_err c.from_residual.result (HasFront c.args.out.now c.args.made c.push.new.self)
    (front_of c.args.out.now c.args.made c.loop-item.yielded c.push.new.self
    (sym (map-id c.loop-item.yielded) ∙ front ∙ ap (take (length c.loop-item.yielded)) c.into_vec-item-items.ensures)
    (c.in_err-push.ensures.err ∙ c.loop-item.invariant))
