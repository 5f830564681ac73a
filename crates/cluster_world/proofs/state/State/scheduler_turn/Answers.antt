use Rattle.std.proofs.Common.{◌++◌, sym, ap, ◌∙◌, length, arith}
use Rattle.std.proofs.lemmas.Bool.{false≢true}
use Rattle.cluster_msgs.specs.declared.cores.Outbox.{Outbox}
use Rattle.cluster_rules.specs.SchedStep.{sched_step}
use Rattle.scheduler_core.specs.Cores.{facts}
use Rattle.cluster_nodes.specs.Nodes.{world_of}
use Rattle.cluster_world.proofs.Acting as acting
use Rattle.cluster_world.proofs.Scheduling.{downs_there, news_there, sched_turned}
use Rattle.cluster_world.proofs.state.State.scheduler_turn.Goals as goal

pub without_refusal-requires : goal.without_refusal-requires
without_refusal-requires g c =
    record { refused = λ r. false≢true (sym ((c.on.ensures.refused.0 r).2) ∙ c.requires.takes); spent = λ r. let e = (c.on.ensures.spent.0 r).1 in let l = c.requires.room in omega (arith, e, l) }

pub post_down-requires : goal.post_down-requires
post_down-requires g c =
    downs_there (facts c.args.self.now.sched) c.args.event c.on.new.out.down (length c.args.self.now.nodes.down) (ap (λ (o : Outbox). o.down) (acting.took c.on.result c.in_ok-without_refusal.ensures c.on.ensures.out) ∙ ap (λ l. l ++ (sched_step (facts c.args.self.now.sched) c.args.event).down) c.new-out.ensures.down) (c.requires.nodes.sized.down ∙ c.requires.workers)

pub post_to_clients-requires : goal.post_to_clients-requires
post_to_clients-requires g c =
    news_there (facts c.args.self.now.sched) c.args.event c.on.new.out.clients (length c.args.self.now.nodes.to_client) (acting.took c.on.result c.in_ok-without_refusal.ensures c.on.ensures.possible).2 (ap (λ (o : Outbox). o.clients) (acting.took c.on.result c.in_ok-without_refusal.ensures c.on.ensures.out) ∙ ap (λ l. l ++ (sched_step (facts c.args.self.now.sched) c.args.event).clients) c.new-out.ensures.clients) (c.requires.nodes.sized.to_client ∙ c.requires.clients)

pub returns-in_err-without_refusal : goal.returns-in_err-without_refusal
returns-in_err-without_refusal g c =
    record { turned = acting.exits _ _ c.from_residual.result c.from_residual.ensures.1; kept = acting.kept_sched c.args.self.now c.args.self.now.nodes c.on.new.self c.on.ensures.setting }

pub returns-in_err-post_down : goal.returns-in_err-post_down
returns-in_err-post_down g c =
    record { turned = acting.exits _ _ c.from_residual-in_err-post_down.result c.from_residual-in_err-post_down.ensures.1; kept = acting.kept_sched c.args.self.now _ c.on.new.self c.on.ensures.setting }

pub returns-in_err-post_to_clients : goal.returns-in_err-post_to_clients
returns-in_err-post_to_clients g c =
    record { turned = acting.exits _ _ c.from_residual-in_err-post_to_clients.result c.from_residual-in_err-post_to_clients.ensures.1; kept = acting.kept_sched c.args.self.now _ c.on.new.self c.on.ensures.setting }

pub returns : goal.returns
unfolding world_of
returns g c =
    record {
      turned = sched_turned c.args.self.now c.on.new.self c.post_down.new.down c.post_to_clients.new.to_client (sched_step (facts c.args.self.now.sched) c.args.event) (acting.took c.on.result c.in_ok-without_refusal.ensures c.on.ensures.facts) c.on.ensures.setting (acting.took c.on.result c.in_ok-without_refusal.ensures c.on.ensures.taken)
          c.on.new.out.down (ap (λ (o : Outbox). o.down) (acting.took c.on.result c.in_ok-without_refusal.ensures c.on.ensures.out) ∙ ap (λ l. l ++ (sched_step (facts c.args.self.now.sched) c.args.event).down) c.new-out.ensures.down) c.in_ok-post_down.ensures.down c.post_down.ensures.length
          c.on.new.out.clients (ap (λ (o : Outbox). o.clients) (acting.took c.on.result c.in_ok-without_refusal.ensures c.on.ensures.out) ∙ ap (λ l. l ++ (sched_step (facts c.args.self.now.sched) c.args.event).clients) c.new-out.ensures.clients) c.in_ok-post_to_clients.ensures.to_client c.post_to_clients.ensures.length
          c.requires.nodes c.requires.workers;
      kept = acting.kept_sched c.args.self.now _ c.on.new.self c.on.ensures.setting;
    }
