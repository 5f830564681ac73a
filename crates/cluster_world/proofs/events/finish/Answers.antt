use Rattle.std.proofs.Common.{refl, sym, ap, ◌∙◌, arith}
use Rattle.std.proofs.lemmas.Bool.{false≢true}
use Rattle.cluster_msgs.specs.declared.cores.WorkerEvent.TheVariants as work
use Rattle.scheduler_core.specs.Cores.{facts}
use Rattle.cluster_nodes.specs.Nodes.{blocks_in}
use Rattle.cluster_nodes.specs.Turns.{among, worker_turned}
use Rattle.cluster_world.specs.Worlds.{cluster}
use Rattle.cluster_world.proofs.Acting as acting
use Rattle.cluster_world.proofs.Rows as row
use Rattle.cluster_world.proofs.Telling.{alive_is}
use Rattle.std.proofs.Common.{map}
use Rattle.cluster_msgs.specs.Jobs.{value_of}
use Rattle.cluster_world.proofs.Finishing as finishing
use Rattle.cluster_world.proofs.Taking as taking
use Rattle.cluster_world.proofs.events.finish.Goals as goal

pub inputs_of-inputs-requires : goal.inputs_of-inputs-requires
inputs_of-inputs-requires g c = c.new-none.ensures

pub run-requires : goal.run-requires
run-requires g c =
    record { key = finishing.finish_key g.J.JobSpec.graph g.J.JobSpec.key_dims g.J.JobSpec.block_dims c.args.state.now c.requires.whole c.args.worker c.args.key c.requires.possible; inputs = ap (λ bs. map g.J.JobSpec.block_dims bs) c.inputs_of-inputs.ensures ∙ finishing.finish_inputs g.J.JobSpec.graph g.J.JobSpec.key_dims g.J.JobSpec.block_dims c.args.state.now c.requires.whole c.args.worker c.args.key c.requires.possible; feed = c.requires.feed }

pub returns-in_err-outcome : goal.returns-in_err-outcome
returns-in_err-outcome g c =
    record { performed = acting.exits _ _ c.from_residual.result c.from_residual.ensures.1; same = record { job = refl; course = refl; events = refl; clients = refl; setting = refl }; fits = c.run.ensures.fits; tells = c.run.ensures.tells; faults = finishing.counts_run _ g.row.J-Block.Denot c.from_residual.result _ _ _ c.from_residual.ensures.1 c.in_err-outcome.ensures.faults; left = finishing.left_run _ _ c.from_residual.result c.args.state.now _ c.from_residual.ensures.1 refl }

pub returns-in_err-brought : goal.returns-in_err-brought
returns-in_err-brought g c =
    record { performed = acting.exits _ _ c.from_residual-in_err-brought.result c.from_residual-in_err-brought.ensures.1; same = record { job = refl; course = refl; events = refl; clients = refl; setting = refl }; fits = c.run.ensures.fits; tells = c.run.ensures.tells; faults = finishing.counts_memory _ c.from_residual-in_err-brought.result _ _ c.from_residual-in_err-brought.ensures.1 c.in_ok-outcome.ensures.faults; left = finishing.left_memory _ c.from_residual-in_err-brought.result c.args.state.now _ c.from_residual-in_err-brought.ensures.1 }

pub worker_turn-requires : goal.worker_turn-requires
worker_turn-requires g c =
    let a = finishing.can_finish c.args.state.now c.args.worker c.args.key c.requires.possible in record { nodes = c.requires.whole.joint.nodes; worker = acting.worker_number c.args.state.now c.requires.whole.joint c.args.worker a.0; alive = alive_is c.args.state.now c.args.worker a.0 }

pub without_refusal-requires : goal.without_refusal-requires
without_refusal-requires g c =
    let j = c.requires.whole.joint in
    record {
      refused = λ r. false≢true (sym (c.worker_turn.ensures.refused r (facts c.args.state.now.sched)) ∙ taking.takes_done c.args.state.now j c.args.worker c.args.key c.is_zero-zero.result (finishing.can_finish c.args.state.now c.args.worker c.args.key c.requires.possible).1);
      spent = λ r. taking.not_spent c.args.state.now j c.requires.room (c.worker_turn.ensures.spent r);
    }

pub returns-in_err-without_refusal : goal.returns-in_err-without_refusal
returns-in_err-without_refusal g c =
    record { performed = acting.exits _ _ c.from_residual-in_err-without_refusal.result c.from_residual-in_err-without_refusal.ensures.1; same = record { job = refl; course = refl; events = refl; clients = refl; setting = refl }; fits = c.run.ensures.fits; tells = c.run.ensures.tells; faults = finishing.counts_memory _ c.from_residual-in_err-without_refusal.result _ _ c.from_residual-in_err-without_refusal.ensures.1 c.in_ok-outcome.ensures.faults; left = finishing.left_memory _ c.from_residual-in_err-without_refusal.result c.args.state.now _ c.from_residual-in_err-without_refusal.ensures.1 }

pub returns : goal.returns
unfolding blocks_in
returns g c =
    let h = (acting.took c.worker_turn.result c.in_ok-without_refusal.ensures c.worker_turn.ensures.same) in
    let o = value_of c.in_ok-outcome.outcome in
    record {
      performed = finishing.performed_by c.args.state.now _ c.args.worker c.args.key c.in_ok-outcome.outcome
          (record {
            cluster = (acting.took c.worker_turn.result c.in_ok-without_refusal.ensures c.worker_turn.ensures.cluster) (facts c.args.state.now.sched) ∙ ap (λ z. worker_turned (cluster c.args.state.now) c.args.worker (work.Done c.args.key z) (among c.in_ok-brought.brought.items)) c.is_zero-zero.ensures ∙ row.finish_is o (cluster c.args.state.now) c.requires.whole.joint.tidy c.args.worker c.args.key (among c.in_ok-brought.brought.items) c.in_ok-brought.ensures;
            nodes = (acting.took c.worker_turn.result c.in_ok-without_refusal.ensures c.worker_turn.ensures.nodes);
            shape = h.shape;
            workers = h.workers ∙ c.requires.whole.joint.workers;
            clients = h.clients;
            more = let l = h.workers in omega (arith, l);
            few = λ n t. (acting.took c.worker_turn.result c.in_ok-without_refusal.ensures c.worker_turn.ensures.few n t.0, let l = t.1 in omega (arith, l));
          })
          c.in_ok-outcome.ensures.dims (λ t. c.in_ok-outcome.ensures.value t ∙ ap (g.J.JobSpec.operation c.args.state.now.job c.args.key) c.inputs_of-inputs.ensures);
      same = record { job = refl; course = refl; events = refl; clients = refl; setting = refl };
      fits = c.run.ensures.fits;
      tells = c.run.ensures.tells;
      faults = c.in_ok-outcome.ensures.faults;
      left = tt;
    }
