-- A world that starts.
use Rattle.std.specs.Prelude.{◌≡◌, ℕ, ◌+◌, false, Option, length}
use Rattle.cluster_msgs.specs.Shape.{Shape}
use Rattle.cluster_rules.specs.Sched.{sched_opening}
use Rattle.cluster_rules.specs.World.{opening}
use Rattle.cluster_nodes.specs.Kept.{IsNodes}
use Rattle.cluster_nodes.specs.Nodes.{cluster_of}
use Rattle.scheduler_core.specs.Cores.{facts}
use Rattle.cluster_laws.specs.Blocks.{setting_of, no_blocks}
use Rattle.cluster_world.specs.Kept.{CoresTookFew}
use Rattle.cluster_world.specs.declared.state.State.{State}
use Rattle.cluster_world.specs.declared.state.Course.TheVariants.{Going}

-- nobody has joined, nothing is wanted and no block is anywhere
pub record IsBegun {J B F : Type 0} (job : J) (feed : F) (g : Shape) (clients saturation : ℕ) (allowed : Option ℕ) (s : State J B F) : Type 0 where
  pub job_is : s.job ≡ job
  pub feed_is : s.feed ≡ feed
  pub counted : s.clients ≡ clients
  pub course : s.course ≡ Going
  pub events : s.events ≡ 0
  pub sched : facts s.sched ≡ sched_opening (setting_of g clients saturation allowed)
  pub nodes : IsNodes s.nodes
  pub nodes_shape : s.nodes.shape ≡ g
  pub workers : length s.nodes.workers.items ≡ 1
  pub clients_there : length s.nodes.clients.items ≡ clients + 1
  pub few : CoresTookFew 0 s
  pub cluster : cluster_of (sched_opening (setting_of g clients saturation allowed)) s.nodes ≡ record { world = opening (record { setting = setting_of g clients saturation allowed; zero = λ k. false }); blocks = no_blocks }
