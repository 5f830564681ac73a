-- A step of a world, clause by clause.
use Rattle.std.proofs.Common.{◌≡◌, ◌≢◌, ℕ, ◌+◌, ◌<◌, Bool, true, List, [], ◌∷◌, ◌++◌, Option, Result, Ok, Err, OnOk, refl, sym, ap, ◌∙◌, subst}
use Rattle.cluster_msgs.specs.Shape.{Shape, IsShape}
use Rattle.cluster_msgs.specs.declared.events.Event.{Event}
use Rattle.cluster_msgs.specs.declared.events.Event.TheVariants.{Finish}
use Rattle.cluster_rules.specs.WorldStep.{world_step}
use Rattle.cluster_rules.specs.Enabled.{enabled}
use Rattle.cluster_laws.specs.Blocks.{Cluster}
use Rattle.cluster_laws.specs.Moves.{meets_zero, brought, world_after, cluster_step}
use Rattle.cluster_world.specs.declared.state.State.{State}
use Rattle.cluster_world.specs.declared.state.Course.TheVariants.{Fed, Starved}
use Rattle.cluster_world.specs.declared.errors.StepError.{StepError}
use Rattle.cluster_world.specs.declared.errors.StepError.TheVariants.{NotEnabled, Stopped, Feed, Spent, OutOfMemory}
use Rattle.cluster_world.specs.Worlds.{cluster, world, setting, running, IsMade, IsMadeBy}
use Rattle.cluster_rules.specs.Runs.{event_limit}
use Rattle.cluster_world.specs.Kept.{IsWhole, LengthsFit}
use Rattle.cluster_world.specs.Outcomes.{stepped, IsOutcome, IsPerformed}
use Rattle.cluster_world.specs.Steps.{Advances}
use Rattle.cluster_world.proofs.Making.{made_fed, made_more, step_by_values}
use Rattle.cluster_world.proofs.Whole.{whole_after}

-- where the outcome is the operation's, a step is that of the definition
same_outcome : {B : Type 0} (op : ℕ → List B → Option B) (o : Option B) (c : Cluster B) (e : Event) → IsOutcome op c e o → stepped o c e ≡ cluster_step op c e
unfolding meets_zero brought
same_outcome op o c (Finish i k) h = ap (λ x. stepped x c (Finish i k)) (h i k refl)
same_outcome op o c _ h = refl

module _ {J B F : Type 0} (Fits : ℕ → B → Type 0) (tells : Type 0) (op : ℕ → List B → Option B) (e : Event) (old new : State J B F) (r : Result (Unit {0}) StepError) (a : Advances Fits tells op e r old new) where
  abbrev Done : State J B F → Type 0
  Done s = IsPerformed Fits tells op old s e × (s.course ≡ old.course) × (s.events ≡ old.events + 1)

  -- what an event that was taken leaves
  on_done : (P : Type 0) → (Done new → P) → OnOk r P
  on_done P f = by r a
    where
      by : (q : Result (Unit {0}) StepError) → Advances Fits tells op e q old new → OnOk q P
      by (Ok x) a = f a
      by (Err x) a = tt

  pub world_taken : OnOk r ((met : Bool) × (world new ≡ world_after met (world old) e))
  world_taken = on_done _ (λ d. (meets_zero (λ k bs. d.0.outcome) (cluster old).blocks e, ap (λ (c : Cluster B). c.world) d.0.turned.cluster))

  pub cluster_taken : OnOk r (tells → cluster new ≡ cluster_step op (cluster old) e)
  cluster_taken = on_done _ (λ d t. d.0.turned.cluster ∙ same_outcome op d.0.outcome (cluster old) e (d.0.told t))

  pub goes_on : OnOk r (new.course ≡ old.course)
  goes_on = on_done _ (λ d. d.1)

  pub counted : OnOk r (new.events ≡ old.events + 1)
  counted = on_done _ (λ d. d.2)

  pub not_refused : (P : Type 0) → r ≡ Err NotEnabled → P
  not_refused P h = absurd (subst (λ q. Advances Fits tells op e q old new) h a)

  pub not_spent : (P : Type 0) → r ≡ Err Spent → P
  not_spent P h = absurd (subst (λ q. Advances Fits tells op e q old new) h a)

  pub not_stopped : (P : Type 0) → r ≡ Err Stopped → P
  not_stopped P h = absurd (subst (λ q. Advances Fits tells op e q old new) h a)

  pub fed : r ≡ Err Feed → new.course ≡ Fed
  fed h = ap (λ (s : State J B F). s.course) (subst (λ q. Advances Fits tells op e q old new) h a)

  pub fed_stays : r ≡ Err Feed → cluster new ≡ cluster old
  fed_stays h = ap (λ (s : State J B F). cluster s) (subst (λ q. Advances Fits tells op e q old new) h a)

  pub starved : r ≡ Err OutOfMemory → new.course ≡ Starved
  starved h = subst (λ q. Advances Fits tells op e q old new) h a

-- what events made, where the feed tells
module _ {J B F : Type 0} (Fits : ℕ → B → Type 0) (tells : Type 0) (operation : J → ℕ → List B → Option B) (e : Event) (old new : State J B F) (r : Result (Unit {0}) StepError) (a : Advances Fits tells (operation old.job) e r old new)
    (low : IsShape (setting old).shape) (possible : enabled (world old) e ≡ true) where
  abbrev To : Result (Unit {0}) StepError → Type 0
  To q = OnOk q (tells → cluster new ≡ cluster_step (operation old.job) (cluster old) e)

  to : To r
  to = cluster_taken Fits tells (operation old.job) e old new r a

  pub taken_by_values : (tells → IsMade operation old) → OnOk r (tells → world new ≡ world_step (running operation old) (world old) e)
  taken_by_values made = by r to
    where
      by : (q : Result (Unit {0}) StepError) → To q → OnOk q (tells → world new ≡ world_step (running operation old) (world old) e)
      by (Ok x) h = λ d. ap (λ (c : Cluster B). c.world) (h d) ∙ step_by_values operation old e low possible (made d)
      by (Err x) h = tt

  module _ (room : old.events < event_limit) (job : new.job ≡ old.job) (set : setting new ≡ setting old) where
    pub taken_made : OnOk r (tells → (es : List Event) → IsMadeBy operation es old → IsMadeBy operation (es ++ e ∷ []) new)
    taken_made = by r to (counted Fits tells (operation old.job) e old new r a)
      where
        by : (q : Result (Unit {0}) StepError) → To q → OnOk q (new.events ≡ old.events + 1) → OnOk q (tells → (es : List Event) → IsMadeBy operation es old → IsMadeBy operation (es ++ e ∷ []) new)
        by (Ok x) h n = λ d. made_more operation old e low possible new room job set n (h d)
        by (Err x) h n = tt

    -- so it stays one that events made
    pub made_kept : (T : Type 0) → (T → tells) → (T → new.course ≢ Starved) → (tells → IsMade operation old) → T → IsMade operation new
    made_kept T back there made t = by r a taken_made
      where
        m : IsMade operation old
        m = made (back t)

        by : (q : Result (Unit {0}) StepError) → Advances Fits tells (operation old.job) e q old new → OnOk q (tells → (es : List Event) → IsMadeBy operation es old → IsMadeBy operation (es ++ e ∷ []) new) → IsMade operation new
        by (Ok x) a h = record { events = m.events ++ e ∷ []; made = h (back t) m.events m.made }
        by (Err Feed) a h = record { events = m.events; made = subst (λ s. IsMadeBy operation m.events s) (sym a) (made_fed operation m.events old new.feed m.made) }
        by (Err OutOfMemory) a h = absurd (there t a)
        by (Err NotEnabled) a h = absurd a
        by (Err Stopped) a h = absurd a
        by (Err Spent) a h = absurd a

  pub fed_made : r ≡ Err Feed → (es : List Event) → IsMadeBy operation es old → IsMadeBy operation es new
  fed_made h es m = subst (λ s. IsMadeBy operation es s) (sym (subst (λ q. Advances Fits tells (operation old.job) e q old new) h a)) (made_fed operation es old new.feed m)

-- a world without its feed's and its counts' changes
pub whole_fed : {J B F : Type 0} (graph : J → Shape) (key_dims : J → ℕ → List ℕ) (block_dims : B → List ℕ) (old : State J B F) (f : F) → IsWhole graph key_dims block_dims old → IsWhole graph key_dims block_dims (record old { feed = f; course = Fed })
whole_fed graph key_dims block_dims old f w = record {
  joint = record {
    nodes = w.joint.nodes;
    shape = w.joint.shape;
    workers = w.joint.workers;
    clients = w.joint.clients;
    counted = w.joint.counted;
    orderly = w.joint.orderly;
    few = w.joint.few;
    tidy = w.joint.tidy;
  };
  low = w.low;
  shape = w.shape;
  stocked = w.stocked;
}

-- the world is whole unless memory ran out
pub whole_advanced : {J B F : Type 0} (graph : J → Shape) (key_dims : J → ℕ → List ℕ) (block_dims : B → List ℕ) (tells : Type 0) (op : ℕ → List B → Option B) (e : Event) (old new : State J B F) (r : Result (Unit {0}) StepError)
    → Advances (LengthsFit key_dims block_dims old.job) tells op e r old new → IsWhole graph key_dims block_dims old → enabled (world old) e ≡ true
    → new.job ≡ old.job → new.clients ≡ old.clients → setting new ≡ setting old → new.course ≢ Starved → IsWhole graph key_dims block_dims new
whole_advanced {J} {B} {F} graph key_dims block_dims tells op e old new r a w t job clients set n = by r a
  where
    by : (q : Result (Unit {0}) StepError) → Advances (LengthsFit key_dims block_dims old.job) tells op e q old new → IsWhole graph key_dims block_dims new
    by (Ok x) a = whole_after graph key_dims block_dims old new a.0.outcome e w t (record { job = job; clients = clients; setting = set }) a.2 a.0.turned a.0.fits
    by (Err Feed) a = subst (λ s. IsWhole graph key_dims block_dims s) (sym a) (whole_fed graph key_dims block_dims old new.feed w)
    by (Err OutOfMemory) a = absurd (n a)
    by (Err NotEnabled) a = absurd a
    by (Err Stopped) a = absurd a
    by (Err Spent) a = absurd a
