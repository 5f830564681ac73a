use Rattle.std.proofs.Common.{◌∙◌, ◌++◌, ◌∷◌, [], ap, List}
use Rattle.message_queues.specs.Queues.{waiting}
use Rattle.message_queues.proofs.QueueLemmas.{waiting-more}
use Rattle.message_queues.proofs.links.Links.add.Goals as goal

pub returns-clause-meaning : goal.returns-clause-meaning
returns-clause-meaning g c =
    let queues = c.self.inside.queues.items in
    rw (← c.self.view_is) (ap waiting c.in_ok-push.ensures.items ∙ ap (λ (q : List g.row.T.Denot). waiting (queues ++ q ∷ [])) c.new.ensures ∙ waiting-more queues)
