-- What a world that legal events made tells: blocks are the values of their keys, and failures are blamed on keys that are faulty or were killed.
use Rattle.std.proofs.Common.{◌≡◌, ℕ, Bool, true, false, List, Option, Some, None, refl, sym, ap, ◌∙◌, subst, cond, is_some, Bor}
use Rattle.std.specs.Prelude.{IfSome}
use Rattle.std.specs.Option.{option_copied, option_map}
use Rattle.cluster_msgs.specs.Shape.{Shape, IsShape, deps_of}
use Rattle.cluster_msgs.specs.Values.{val}
use Rattle.cluster_msgs.specs.declared.cores.End.{End}
use Rattle.cluster_msgs.specs.declared.events.Event.{Event}
use Rattle.cluster_msgs.specs.declared.cores.End.TheVariants.{Got, Erred}
use Rattle.cluster_rules.specs.Sched.{Setting}
use Rattle.cluster_rules.specs.World.{World}
use Rattle.cluster_rules.specs.Client.{done}
use Rattle.cluster_rules.specs.Runs.{legal, reached, WasKilled}
use Rattle.cluster_laws.proofs.TruthWorld.{true_after}
use Rattle.cluster_laws.specs.Blocks.{Cluster, job_of, opening_cluster}
use Rattle.cluster_laws.specs.Moves.{cluster_run}
use Rattle.cluster_laws.specs.AreValues.{AreValues, IsBlamed}
use Rattle.cluster_laws.proofs.BlockValues.{values_of, blamed}
use Rattle.cluster_world.specs.Kept.{IsFilled}
use Rattle.cluster_world.specs.Steps.{IfBlamed}
use Rattle.cluster_world.specs.Worlds.{cluster, world, setting, running, IsMade, IsMadeBy}
use Rattle.cluster_world.specs.declared.state.State.{State}

pub filled_is : {B : Type 0} {P : B → Type 0} (counted : Bool) (block : Option B) → IsFilled P counted block → is_some block ≡ counted
filled_is true block h = h.present refl
filled_is false block h = ap (λ o. is_some o) (h.missing refl)

module _ {B : Type 0} (s : Setting) (op : ℕ → List B → Option B) (g : IsShape s.shape) (c : Cluster B) (es : List Event) (l : legal (job_of s op) es) (to : reached (job_of s op) es ≡ c.world) (is : cluster_run op (opening_cluster s op) es ≡ c) where
  values_here : AreValues (deps_of s.shape) (val (deps_of s.shape) op) c
  values_here = subst (λ d. AreValues (deps_of s.shape) (val (deps_of s.shape) op) d) is (values_of s op g es l)

  pub got_value : (x k : ℕ) (b : B) → c.blocks.got x k ≡ Some b → val (deps_of s.shape) op k ≡ Some b
  got_value x k b e = (values_here.got x k).right b e

  failed_blamed : (x k b : ℕ) → (c.world.clients x).failed k ≡ Some b → IsBlamed (WasKilled (job_of s op) es) (deps_of s.shape) (val (deps_of s.shape) op) k b
  failed_blamed x k b e = blamed s op g (WasKilled (job_of s op) es) k b (((true_after (job_of s op) g es l).clients x).failed k b (ap (λ (w : World). (w.clients x).failed k) to ∙ e))

  pub done_blamed : (x k : ℕ) → IfBlamed (WasKilled (job_of s op) es) (deps_of s.shape) (val (deps_of s.shape) op) k (done (c.world.clients x) k)
  done_blamed x k = pick ((c.world.clients x).got k) ((c.world.clients x).failed k) refl
    where
      pick : (b : Bool) (o : Option ℕ) → (c.world.clients x).failed k ≡ o → IfBlamed (WasKilled (job_of s op) es) (deps_of s.shape) (val (deps_of s.shape) op) k (cond b (Some Got) (option_map (λ b. Erred b) o))
      pick true o e = tt
      pick false None e = tt
      pick false (Some b) e = failed_blamed x k b e

of_some : {B : Type 0} (o : Option (Bor B)) (x : Option B) (P : B → Type 0) → option_copied o ≡ x → ((b : B) → x ≡ Some b → P b) → IfSome o (λ b. P b.now)
of_some None x P e h = tt
of_some (Some b) x P e h = h b.now (sym e)

module _ {J B F : Type 0} (graph : J → Shape) (op : J → ℕ → List B → Option B) (s : State J B F) (low : IsShape (graph s.job)) (e : (setting s).shape ≡ graph s.job) where
  -- what a client got
  pub got_here : (o : Option (Bor B)) (x k : ℕ) → option_copied o ≡ (cluster s).blocks.got x k → IsMade op s
      → IfSome o (λ b. val (deps_of (graph s.job)) (op s.job) k ≡ Some b.now)
  got_here o x k h r = of_some o ((cluster s).blocks.got x k) (λ b. val (deps_of (graph s.job)) (op s.job) k ≡ Some b) h
      (λ b q. subst (λ (g : Shape). val (deps_of g) (op s.job) k ≡ Some b) e (got_value (setting s) (op s.job) (subst IsShape (sym e) low) (cluster s) r.events r.made.run.legal r.made.run.reached r.made.blocks x k b q))

  -- and how its keys ended
  pub done_here : (o : Option End) (x k : ℕ) → o ≡ done ((world s).clients x) k → (es : List Event) → IsMadeBy op es s
      → IfBlamed (WasKilled (running op s) es) (deps_of (graph s.job)) (val (deps_of (graph s.job)) (op s.job)) k o
  done_here o x k h es r = subst (λ (q : Option End). IfBlamed (WasKilled (running op s) es) (deps_of (graph s.job)) (val (deps_of (graph s.job)) (op s.job)) k q) (sym h)
      (subst (λ (g : Shape). IfBlamed (WasKilled (running op s) es) (deps_of g) (val (deps_of g) (op s.job)) k (done ((world s).clients x) k)) e (done_blamed (setting s) (op s.job) (subst IsShape (sym e) low) (cluster s) es r.run.legal r.run.reached r.blocks x k))
