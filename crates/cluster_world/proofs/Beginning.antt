-- The world that starts is whole, and no event led here.
use Rattle.std.proofs.Common.{◌≡◌, ℕ, ◌+◌, false, List, [], Option, None, sym, ap, ◌∙◌, subst, arith, length}
use Rattle.cluster_msgs.specs.Shape.{Shape, IsShape}
use Rattle.cluster_rules.specs.Sched.{Setting, Facts, sched_opening}
use Rattle.cluster_rules.specs.World.{opening}
use Rattle.scheduler_core.specs.Cores.{Core, facts}
use Rattle.cluster_nodes.specs.declared.nodes.Nodes.{Nodes}
use Rattle.cluster_nodes.specs.Kept.{IsNodes, TookFew}
use Rattle.cluster_nodes.specs.Nodes.{cluster_of}
use Rattle.cluster_laws.specs.Blocks.{setting_of, opening_cluster, no_blocks}
use Rattle.cluster_world.specs.declared.state.State.{State}
use Rattle.cluster_world.specs.declared.state.Course.TheVariants.{Going}
use Rattle.cluster_world.specs.Worlds.{cluster, setting, IsReady, IsMadeBy}
use Rattle.cluster_world.specs.Kept.{CoresTookFew, IsWorld}
use Rattle.cluster_world.specs.Begun.{IsBegun}
use Rattle.cluster_world.proofs.Making.{made_opening}
use Rattle.cluster_world.proofs.Whole.{whole_opening}

module _ {J B F : Type 0} (job : J) (feed : F) (g : Shape) (clients saturation : ℕ) (allowed : Option ℕ) (s : State J B F) (h : IsBegun job feed g clients saturation allowed s) where
  same_setting : setting s ≡ setting_of g clients saturation allowed
  same_setting = ap (λ (f : Facts). f.setting) h.sched

  pub begun_cluster : (op : ℕ → List B → Option B) → cluster s ≡ opening_cluster (setting_of g clients saturation allowed) op
  begun_cluster op = ap (λ (f : Facts). cluster_of f s.nodes) h.sched ∙ h.cluster

  from_here : (op : ℕ → List B → Option B) → cluster s ≡ opening_cluster (setting s) op
  from_here op = begun_cluster op ∙ ap (λ (z : Setting). opening_cluster z op) (sym same_setting)

  pub begun_made : (op : J → ℕ → List B → Option B) → IsMadeBy op [] s
  begun_made op = made_opening op s (from_here (op s.job)) h.events

  pub begun_ready : IsReady s
  begun_ready = record { going = h.course; room = let e = h.events in omega (arith, e) }

  pub begun_world : (graph : J → Shape) (key_dims : J → ℕ → List ℕ) (block_dims : B → List ℕ) (operation : J → ℕ → List B → Option B) (feed_fits feed_tells : J → F → Type 0)
      → g ≡ graph job → IsShape (graph job) → feed_fits job feed → IsWorld graph key_dims block_dims operation feed_fits feed_tells s
  begun_world graph key_dims block_dims operation feed_fits feed_tells e low fits =
      let shape : (setting s).shape ≡ graph s.job = ap (λ (z : Setting). z.shape) same_setting ∙ e ∙ ap graph (sym h.job_is) in
      let here : IsShape (graph s.job) = subst (λ (j : J). IsShape (graph j)) (sym h.job_is) low in
      let counted : s.clients ≡ (setting s).clients = h.counted ∙ ap (λ (z : Setting). z.clients) (sym same_setting) in
      record {
        feed = subst (λ (j : J). feed_fits j s.feed) (sym h.job_is) (subst (λ (f : F). feed_fits job f) (sym h.feed_is) fits);
        few = let n = h.events in omega (arith, n);
        low = here;
        shape = shape;
        clients = counted;
        whole = λ n. whole_opening graph key_dims block_dims s (λ k bs. None) (from_here (λ k bs. None)) here shape h.nodes
            (h.nodes_shape ∙ ap (λ (z : Setting). z.shape) (sym same_setting)) (h.workers ∙ ap (λ (f : Facts). f.last_worker + 1) (sym h.sched))
            (h.clients_there ∙ ap (λ (z : Setting). z.clients + 1) (sym same_setting)) counted (subst (λ n. CoresTookFew n s) (sym h.events) h.few);
        made = λ t. record { events = []; made = begun_made operation };
      }

-- of its parts
pub begun_by : {J B F : Type 0} (job : J) (feed : F) (g : Shape) (clients saturation : ℕ) (allowed : Option ℕ) (s : State J B F) (core : Core) (n : Nodes B)
    → s.job ≡ job → s.feed ≡ feed → s.clients ≡ clients → s.sched ≡ core → s.nodes ≡ n → s.course ≡ Going → s.events ≡ 0
    → facts core ≡ sched_opening (setting_of g clients saturation allowed) → IsNodes n → n.shape ≡ g → length n.workers.items ≡ 1 → length n.clients.items ≡ clients + 1 → TookFew 0 n → core.taken ≡ 0
    → cluster_of (sched_opening (setting_of g clients saturation allowed)) n ≡ record { world = opening (record { setting = setting_of g clients saturation allowed; zero = λ k. false }); blocks = no_blocks }
    → IsBegun job feed g clients saturation allowed s
begun_by {B = B} job feed g clients saturation allowed s core n j f c se ne co ev fs ns sh ws cs fw ta cl = record {
  job_is = j;
  feed_is = f;
  counted = c;
  course = co;
  events = ev;
  sched = ap (λ (x : Core). facts x) se ∙ fs;
  nodes = subst (λ (x : Nodes B). IsNodes x) (sym ne) ns;
  nodes_shape = ap (λ (x : Nodes B). x.shape) ne ∙ sh;
  workers = ap (λ (x : Nodes B). length x.workers.items) ne ∙ ws;
  clients_there = ap (λ (x : Nodes B). length x.clients.items) ne ∙ cs;
  few = (subst (λ (x : Nodes B). TookFew 0 x) (sym ne) fw, let e = ap (λ (x : Core). x.taken) se in omega (arith, e, ta));
  cluster = ap (λ (x : Nodes B). cluster_of (sched_opening (setting_of g clients saturation allowed)) x) ne ∙ cl;
}
