-- A task that finishes, and what a call of its operation leaves.
use Rattle.std.proofs.Common.{◌≡◌, ℕ, ◌<◌, true, List, [], ◌∷◌, Option, Some, None, Result, Err, refl, sym, ap, ◌∙◌, subst, map}
use Rattle.std.specs.Prelude.{nat_lt}
use Rattle.std.proofs.lemmas.Bool.{and_parts, ltb-true}
use Rattle.std.proofs.lemmas.Result.{err_from_is_err_and}
use Rattle.std.specs.Result.{IsErrAnd}
use Rattle.std.proofs.lemmas.Option.{none-some, same_Some}
use Rattle.cluster_msgs.specs.Jobs.{value_of, IfValue, CountsFault}
use Rattle.cluster_msgs.specs.Shape.{Shape, key_count, deps_of}
use Rattle.cluster_msgs.specs.declared.jobs.Outcome.{Outcome}
use Rattle.cluster_msgs.specs.declared.jobs.Outcome.TheVariants.{Value, Zero}
use Rattle.cluster_msgs.specs.declared.jobs.RunFail.{RunFail}
use Rattle.cluster_msgs.specs.declared.jobs.RunFail.TheVariants.{Feed as FeedFailed, OutOfMemory}
use Rattle.cluster_msgs.specs.declared.events.Event.{Event}
use Rattle.cluster_msgs.specs.declared.events.Event.TheVariants.{Finish}
use Rattle.cluster_rules.specs.World.{shape_of}
use Rattle.cluster_rules.specs.Enabled.{enabled}
use Rattle.fact_rows.specs.Rows.{cell}
use Rattle.cluster_nodes.specs.Nodes.{blocks_at, world_of, blocks_in}
use Rattle.cluster_world.specs.declared.state.State.{State}
use Rattle.cluster_world.specs.declared.state.Course.TheVariants.{Fed}
use Rattle.cluster_world.specs.declared.errors.Broken.{Broken}
use Rattle.cluster_world.specs.declared.errors.Broken.TheVariants.{Feed, Memory}
use Rattle.cluster_world.specs.Worlds.{cluster, world}
use Rattle.cluster_world.specs.Kept.{AreFor, IsWhole}
use Rattle.cluster_world.specs.Outcomes.{stepped, IsTurned, IsPerformed, broken_by, IsUnended, CountsPerform, FeedLeaves}

pub can_finish : {J B F : Type 0} (s : State J B F) (i k : ℕ) → enabled (world s) (Finish i k) ≡ true → ((world s).alive i ≡ true) × (((world s).workers i).running k ≡ true)
unfolding enabled
can_finish s i k e = and_parts ((world s).alive i) _ e

lengths : {B : Type 0} (key_dims : ℕ → List ℕ) (block_dims : B → List ℕ) (ks : List ℕ) (bs : List B) → AreFor (λ k b. block_dims b ≡ key_dims k) ks bs → map block_dims bs ≡ map key_dims ks
lengths key_dims block_dims [] [] h = refl
lengths key_dims block_dims [] (b ∷ bs) h = absurd h
lengths key_dims block_dims (k ∷ ks) [] h = absurd h
lengths key_dims block_dims (k ∷ ks) (b ∷ bs) h = λ t. h.0 t ∷ lengths key_dims block_dims ks bs h.1 t

module _ {J B F : Type 0} (graph : J → Shape) (key_dims : J → ℕ → List ℕ) (block_dims : B → List ℕ) (s : State J B F) (w : IsWhole graph key_dims block_dims s) (i k : ℕ) (e : enabled (world s) (Finish i k) ≡ true) where
  shape_there : shape_of (world s) ≡ graph s.job
  unfolding world_of
  shape_there = w.shape

  pub finish_key : k < key_count (graph s.job)
  finish_key = ltb-true k (key_count (graph s.job)) (subst (λ (x : Shape). nat_lt k (key_count x) ≡ true) shape_there ((w.joint.orderly.inside.workers i).running k (can_finish s i k e).1))

  pub finish_inputs : map block_dims (blocks_at (cell s.nodes.inputs None i k)) ≡ map (key_dims s.job) (deps_of (graph s.job) k)
  unfolding blocks_in
  finish_inputs = lengths (key_dims s.job) block_dims (deps_of (graph s.job) k) (blocks_at (cell s.nodes.inputs None i k)) (w.stocked.inputs i k (can_finish s i k e).1)

value_fits : {B : Type 0} (o : Outcome B) (P : B → Type 0) → IfValue o P → (b : B) → value_of o ≡ Some b → P b
value_fits (Value x) P h b e = subst P (same_Some x b e) h
value_fits Zero P h b e = absurd (none-some b e)

finish_worker : (i k j q : ℕ) → Finish i k ≡ Finish j q → i ≡ j
finish_worker i k j q e = cc

finish_task : (i k j q : ℕ) → Finish i k ≡ Finish j q → k ≡ q
finish_task i k j q e = cc

pub performed_by : {J B F : Type 0} {Fits : ℕ → B → Type 0} {tells : Type 0} {op : ℕ → List B → Option B} (old new : State J B F) (i k : ℕ) (o : Outcome B) → IsTurned old new (stepped (value_of o) (cluster old) (Finish i k))
    → IfValue o (λ b. Fits k b) → (tells → value_of o ≡ op k ((cluster old).blocks.inputs i k)) → IsPerformed Fits tells op old new (Finish i k)
performed_by {Fits = Fits} {op = op} old new i k o t f h = record {
  outcome = value_of o;
  turned = t;
  fits = λ j q b e x. subst (λ z. Fits z b) (finish_task i k j q e) (value_fits o (λ b. Fits k b) f b x);
  told = λ y j q e. h y ∙ (λ z. op (finish_task i k j q e z) ((cluster old).blocks.inputs (finish_worker i k j q e z) (finish_task i k j q e z)));
}

-- what isn't a finish ends no operation
pub unended : (e : Event) → ((i k : ℕ) → e ≡ Finish i k → ⊥) → IsUnended e
unended (Finish i k) h = h i k refl
unended _ h = tt

-- the count of events isn't part of what an event did
pub counted_once : {J B F : Type 0} {Fits : ℕ → B → Type 0} {tells : Type 0} {op : ℕ → List B → Option B} (old mid : State J B F) (e : Event) (n : ℕ) → IsPerformed Fits tells op old mid e → IsPerformed Fits tells op old (record mid { events = n }) e
counted_once old mid e n p = record {
  outcome = p.outcome;
  turned = record { cluster = p.turned.cluster; nodes = p.turned.nodes; shape = p.turned.shape; workers = p.turned.workers; clients = p.turned.clients; more = p.turned.more; few = p.turned.few };
  fits = p.fits;
  told = p.told;
}

-- and a feed that failed stops the world
pub fed_alone : {J B F : Type 0} (old mid : State J B F) → mid ≡ record old { feed = mid.feed } → record mid { course = Fed } ≡ record old { feed = mid.feed; course = Fed }
fed_alone {J} {B} {F} old mid h = ap (λ (s : State J B F). record s { course = Fed }) h

-- counts of faults at the exit of a `?`
counts_broken : (A B : Type 0) (f : RunFail) (before now : ℕ) → CountsFault {B = B} (Err f) before now → CountsPerform {A = A} (Err (broken_by f)) before now
counts_broken A B FeedFailed before now h = h
counts_broken A B OutOfMemory before now h = h

pub counts_run : (A B : Type 0) (r : Result A Broken) (f : RunFail) (before now : ℕ) → IsErrAnd r (λ e. e ≡ broken_by f) → CountsFault {B = B} (Err f) before now → CountsPerform r before now
counts_run A B r f before now h k = let p = err_from_is_err_and r h in subst (λ x. CountsPerform x before now) (sym (p.1 ∙ ap (λ e. Err e) p.2)) (counts_broken A B f before now k)

pub counts_memory : (A : Type 0) (r : Result A Broken) (before now : ℕ) → IsErrAnd r (λ e. e ≡ Memory) → now ≡ before → CountsPerform r before now
counts_memory A r before now h k = let p = err_from_is_err_and r h in subst (λ x. CountsPerform x before now) (sym (p.1 ∙ ap (λ e. Err e) p.2)) k

-- what a failure leaves
feed_left : (A : Type 0) {J B F : Type 0} (e : Broken) (old new : State J B F) → new ≡ record old { feed = new.feed } → FeedLeaves {A = A} (Err e) old new
feed_left A Feed old new h = h
feed_left A Memory old new h = tt

pub left_run : (A : Type 0) {J B F : Type 0} (Q : Broken → Type 0) (r : Result A Broken) (old new : State J B F) → IsErrAnd r Q → new ≡ record old { feed = new.feed } → FeedLeaves r old new
left_run A Q r old new h k = let p = err_from_is_err_and r h in subst (λ x. FeedLeaves x old new) (sym p.1) (feed_left A p.0 old new k)

pub left_memory : (A : Type 0) {J B F : Type 0} (r : Result A Broken) (old new : State J B F) → IsErrAnd r (λ e. e ≡ Memory) → FeedLeaves r old new
left_memory A r old new h = let p = err_from_is_err_and r h in subst (λ x. FeedLeaves x old new) (sym (p.1 ∙ ap (λ e. Err e) p.2)) tt
