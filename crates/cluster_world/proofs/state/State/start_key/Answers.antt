use Rattle.std.specs.List.{filter_map}
use Rattle.cluster_msgs.specs.Shape.{key_count, deps_of}
use Rattle.fact_rows.specs.Rows.{cell}
use Rattle.cluster_nodes.specs.Nodes.{block_at}
use Rattle.cluster_world.proofs.Starts.{started}
use Rattle.std.proofs.Common.{None, ap, ◌∙◌, arith}
use Rattle.cluster_world.proofs.Acting as acting
use Rattle.cluster_world.proofs.Taking as taking
use Rattle.cluster_world.proofs.state.State.start_key.Goals as goal

pub deps-deps-requires : goal.deps-deps-requires
deps-deps-requires g c =
    acting.start_key c.args.self.now c.requires.joint c.args.worker c.args.key c.requires.key

pub returns-in_err-inputs : goal.returns-in_err-inputs
returns-in_err-inputs g c =
    record { moved = acting.exits _ _ c.from_residual.result c.from_residual.ensures.1; kept = acting.kept_nodes c.args.self.now c.args.self.now.nodes }

pub worker_turn-requires : goal.worker_turn-requires
worker_turn-requires g c =
    record { joint = c.requires.joint; alive = c.requires.alive; takes = taking.takes_start c.args.self.now c.requires.joint c.args.worker c.args.key c.requires.key; room = c.requires.room }

pub returns-in_err-worker_turn : goal.returns-in_err-worker_turn
returns-in_err-worker_turn g c =
    record { moved = acting.exits _ _ c.from_residual-in_err-worker_turn.result c.from_residual-in_err-worker_turn.ensures.1; kept = c.worker_turn.ensures.kept }

pub put-requires : goal.put-requires
put-requires g c =
    let t = c.in_ok-worker_turn.ensures.turned in let n = acting.worker_number c.args.self.now c.requires.joint c.args.worker c.requires.alive in let k = acting.start_key c.args.self.now c.requires.joint c.args.worker c.args.key c.requires.key in
    let a = t.more in let h = t.nodes.sized.inputs in let v = t.nodes.sized.inputs_keys in let g = ap key_count t.shape in record { row = omega (arith, n, a, h); key = omega (arith, k, v, g) }

pub returns : goal.returns
returns g c =
    record {
      moved = started c.args.self.now c.requires.joint c.args.worker c.args.key c.requires.key c.worker_turn.new.self c.put.new.self c.in_ok-inputs.inputs c.in_ok-worker_turn.ensures.turned
          (c.in_ok-inputs.ensures ∙ ap (λ ks. filter_map (λ k. block_at (cell c.args.self.now.nodes.held None c.args.worker k)) ks) (c.deps-deps.ensures ∙ ap (λ x. deps_of x c.args.key) c.requires.joint.shape))
          c.put.ensures.meaning c.put.ensures.height c.put.ensures.width;
      kept = acting.kept_both c.args.self.now c.worker_turn.new.self _ c.worker_turn.ensures.kept (acting.kept_nodes c.worker_turn.new.self _);
    }
