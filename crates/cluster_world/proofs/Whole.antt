-- A world that is whole is whole after an event, and the opening is.
use Rattle.std.proofs.Common.{◌≡◌, ℕ, ◌+◌, ◌≤◌, Bool, true, false, List, [], Option, None, refl, sym, ap, ◌∙◌, subst, arith, length, get_or}
use Rattle.std.proofs.lemmas.Bool.{false≢true}
use Rattle.std.proofs.lemmas.List.{get_or_past}
use Rattle.std.proofs.lemmas.Option.{none-some}
use Rattle.cluster_msgs.specs.Shape.{Shape, IsShape, deps_of}
use Rattle.cluster_msgs.specs.declared.events.Event.{Event}
use Rattle.cluster_rules.specs.Sched.{Setting}
use Rattle.cluster_rules.specs.World.{shape_of}
use Rattle.cluster_rules.specs.Enabled.{enabled}
use Rattle.fact_rows.specs.Rows.{cell, height}
use Rattle.cluster_laws.specs.Blocks.{Cluster, job_of, opening_cluster}
use Rattle.cluster_laws.specs.Moves.{meets_zero}
use Rattle.scheduler_core.specs.Cores.{facts}
use Rattle.cluster_nodes.specs.Kept.{IsNodes}
use Rattle.cluster_nodes.specs.Nodes.{world_of}
use Rattle.cluster_world.specs.declared.state.State.{State}
use Rattle.cluster_world.specs.Worlds.{cluster, world, setting}
use Rattle.cluster_world.specs.Orderly.{IsOrderly}
use Rattle.cluster_world.specs.Kept.{CoresTookFew, IsTidy, IsFilled, IsStocked, IsJoint, IsWhole, LengthsFit}
use Rattle.cluster_world.specs.Outcomes.{stepped, FitsKey, IsTurned}
use Rattle.cluster_world.proofs.Orderliness.{orderly_after, orderly_opening}
use Rattle.cluster_world.proofs.Stocking.{stocked_after}

-- past the last row nothing is set
row_past : (xs : List (List Bool)) (i k : ℕ) → length xs ≤ i → cell (0, xs) false i k ≡ false
row_past xs i k h = ap (λ r. get_or r k false) (get_or_past xs i [] h) ∙ get_or_past [] k false (omega arith)

pub unspilled : {J B F : Type 0} (s : State J B F) → IsJoint s → (k : ℕ) → (world s).spilled ((world s).sched.last_worker + 1) k ≡ false
unfolding world_of
unspilled s j k = let h : height s.nodes.spilled ≤ (facts s.sched).last_worker + 1 = omega (arith, j.nodes.sized.spilled, j.workers) in row_past s.nodes.spilled.1 ((facts s.sched).last_worker + 1) k h

tidy_of : {B : Type 0} (Fits : ℕ → B → Type 0) (deps : ℕ → List ℕ) (c : Cluster B) → IsStocked Fits deps c → IsTidy c.world c.blocks
tidy_of Fits deps c h = record { held = λ i k. (h.held i k).missing; got = λ x k. (h.got x k).missing }

stocked_opening : {B : Type 0} (Fits : ℕ → B → Type 0) (deps : ℕ → List ℕ) (s : Setting) (op : ℕ → List B → Option B) → IsStocked Fits deps (opening_cluster s op)
stocked_opening {B} Fits deps s op = record {
  held = λ i k. nothing_there;
  got = λ x k. nothing_there;
  inputs = λ i k e. absurd (false≢true e);
  answers = refl;
  carried = tt;
}
  where
    nothing_there : {P : B → Type 0} → IsFilled P false None
    nothing_there = record { fits = λ b e. absurd (none-some b e); present = λ e. absurd (false≢true e); missing = λ e. refl }

-- the same job, clients and setting
pub record IsLike {J B F : Type 0} (old new : State J B F) : Type 0 where
  pub job : new.job ≡ old.job
  pub clients : new.clients ≡ old.clients
  pub setting : setting new ≡ setting old

module _ {J B F : Type 0} (graph : J → Shape) (key_dims : J → ℕ → List ℕ) (block_dims : B → List ℕ) where
  shape_is : (s : State J B F) → shape_of (world s) ≡ (setting s).shape
  unfolding world_of
  shape_is s = refl

  pub whole_after : (old new : State J B F) (o : Option B) (e : Event) → IsWhole graph key_dims block_dims old → enabled (world old) e ≡ true → IsLike old new → new.events ≡ old.events + 1
      → IsTurned old new (stepped o (cluster old) e) → FitsKey (LengthsFit key_dims block_dims old.job) e o → IsWhole graph key_dims block_dims new
  whole_after old new o e w t k counted m f =
      let c = cluster old in
      let shape : shape_of c.world ≡ graph old.job = shape_is old ∙ w.shape in
      let low : IsShape (shape_of c.world) = subst IsShape (sym shape) w.low in
      let stocked : IsStocked (LengthsFit key_dims block_dims old.job) (deps_of (graph old.job)) (cluster new) = subst (λ d. IsStocked (LengthsFit key_dims block_dims old.job) (deps_of (graph old.job)) d) (sym m.cluster)
      (stocked_after (LengthsFit key_dims block_dims old.job) (deps_of (graph old.job)) o c e w.stocked (ap deps_of (sym shape)) (λ i. (w.joint.orderly.inside.workers i).shape) f) in
      record {
        joint = record {
          nodes = m.nodes;
          shape = m.shape ∙ w.joint.shape ∙ ap (λ (x : Setting). x.shape) (sym k.setting);
          workers = m.workers;
          clients = m.clients ∙ w.joint.clients ∙ ap (λ (x : Setting). x.clients + 1) (sym k.setting);
          counted = k.clients ∙ w.joint.counted ∙ ap (λ (x : Setting). x.clients) (sym k.setting);
          orderly = subst (λ (d : Cluster B). IsOrderly d.world) (sym m.cluster) (orderly_after (meets_zero (λ k bs. o) c.blocks e) c.world e low t (unspilled old w.joint) w.joint.orderly);
          few = subst (λ n. CoresTookFew n new) (sym counted) (m.few old.events w.joint.few);
          tidy = tidy_of (LengthsFit key_dims block_dims old.job) (deps_of (graph old.job)) (cluster new) stocked;
        };
        low = subst (λ j. IsShape (graph j)) (sym k.job) w.low;
        shape = ap (λ (x : Setting). x.shape) k.setting ∙ w.shape ∙ ap graph (sym k.job);
        stocked = subst (λ j. IsStocked (LengthsFit key_dims block_dims j) (deps_of (graph j)) (cluster new)) (sym k.job) stocked;
      }

  pub whole_opening : (s : State J B F) (op : ℕ → List B → Option B) → cluster s ≡ opening_cluster (setting s) op → IsShape (graph s.job) → (setting s).shape ≡ graph s.job
      → IsNodes s.nodes → s.nodes.shape ≡ (setting s).shape → length s.nodes.workers.items ≡ (facts s.sched).last_worker + 1 → length s.nodes.clients.items ≡ (setting s).clients + 1 → s.clients ≡ (setting s).clients → CoresTookFew s.events s
      → IsWhole graph key_dims block_dims s
  whole_opening s op c low shape nodes nodes_shape workers clients counted few =
      let stocked : IsStocked (LengthsFit key_dims block_dims s.job) (deps_of (graph s.job)) (cluster s) = subst (λ d. IsStocked (LengthsFit key_dims block_dims s.job) (deps_of (graph s.job)) d) (sym c) (stocked_opening (LengthsFit key_dims block_dims s.job) (deps_of (graph s.job)) (setting s) op) in
      record {
        joint = record {
          nodes = nodes;
          shape = nodes_shape;
          workers = workers;
          clients = clients;
          counted = counted;
          orderly = subst (λ (d : Cluster B). IsOrderly d.world) (sym c) (orderly_opening (job_of (setting s) op));
          few = few;
          tidy = tidy_of (LengthsFit key_dims block_dims s.job) (deps_of (graph s.job)) (cluster s) stocked;
        };
        low = low;
        shape = shape;
        stocked = stocked;
      }
