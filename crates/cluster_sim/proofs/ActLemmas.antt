-- A step of the world as an event of a simulation.
use Rattle.std.proofs.Common.{◌≡◌, ℕ, ◌+◌, Bool, List, [], ◌∷◌, ◌++◌, Option, Result, Ok, Err, refl, sym, ◌∙◌, subst}
use Rattle.cluster_msgs.specs.declared.events.Event.{Event}
use Rattle.cluster_rules.specs.WorldStep.{world_step}
use Rattle.cluster_laws.specs.Blocks.{job_of}
use Rattle.cluster_laws.specs.Moves.{world_after}
use Rattle.cluster_world.specs.declared.state.State.{State}
use Rattle.cluster_world.specs.declared.state.Course.{Course}
use Rattle.cluster_world.specs.declared.state.Course.TheVariants.{Going, Fed, Starved}
use Rattle.cluster_world.specs.declared.errors.StepError.{StepError}
use Rattle.cluster_world.specs.declared.errors.StepError.TheVariants as step
use Rattle.cluster_world.specs.Steps.{CountsStep}
use Rattle.cluster_nodes.specs.Nodes.{world_of}
use Rattle.cluster_world.specs.Worlds.{world, setting, running, IsReady, IsMadeBy}
use Rattle.cluster_sim.specs.declared.act.SimError.{SimError}
use Rattle.cluster_sim.specs.declared.act.SimError.TheVariants.{Stuck, Feed, Spent, OutOfMemory}
use Rattle.cluster_sim.specs.Acts.{CountsSim, Stays, IsAct, IsCause, cause}
use Rattle.cluster_world.proofs.Stepwise.{going_fed, going_starved}

-- the setting of a world is its scheduler's
pub setting-world : {J B F : Type 0} (s : State J B F) → (world s).sched.setting ≡ setting s
unfolding world_of
setting-world s = refl

pub stays_none : {J B F : Type 0} (tells : J → F → Type 0) (s : State J B F) → Stays tells s s
stays_none tells s = record { job = refl; setting = refl; tells = (λ h. h, λ h. h) }

pub stays_both : {J B F : Type 0} (tells : J → F → Type 0) (s t u : State J B F) → Stays tells s t → Stays tells t u → Stays tells s u
stays_both tells s t u a b = record { job = b.job ∙ a.job; setting = b.setting ∙ a.setting; tells = (λ h. a.tells.0 (b.tells.0 h), λ h. b.tells.1 (a.tells.1 h)) }

-- the job that runs stays
pub same_job : {J B F : Type 0} (op : J → ℕ → List B → Option B) (tells : J → F → Type 0) (old new : State J B F) → Stays tells old new → running op new ≡ running op old
same_job op tells old new s = λ i. job_of (s.setting i) (op (s.job i))

-- an event that was taken
pub act_is : {J B F : Type 0} (op : J → ℕ → List B → Option B) (tells : J → F → Type 0) (old new : State J B F) (e : Event) → old.course ≡ Going → IsReady old → new.course ≡ old.course → new.events ≡ old.events + 1
    → (met : Bool) × (world new ≡ world_after met (world old) e)
    → (tells old.job old.feed → world new ≡ world_step (running op old) (world old) e)
    → (tells old.job old.feed → (es : List Event) → IsMadeBy op es old → IsMadeBy op (es ++ e ∷ []) new)
    → IsAct op tells old e new
act_is op tells old new e going ready goes counted some exact made = record {
  going = goes ∙ going;
  room = ready.room;
  counted = counted;
  some = some;
  exact = exact;
  made = made;
}

-- the course of a world that goes on is no other
pub not_fed : (c : Course) → c ≡ Going → c ≡ Fed → ⊥
not_fed c a b = going_fed (sym a ∙ b)

pub not_starved : (c : Course) → c ≡ Going → c ≡ Starved → ⊥
not_starved c a b = going_starved (sym a ∙ b)

-- an error of one call as that of another
pub counts_as : (A B : Type 0) (e : SimError) (n m : ℕ) → CountsSim {A = A} (Err e) n m → CountsSim {A = B} (Err e) n m
counts_as A B Stuck n m h = h
counts_as A B Feed n m h = h
counts_as A B Spent n m h = h
counts_as A B OutOfMemory n m h = h

-- the same after calls that left the count alone
pub counts_from : (A B : Type 0) (e : SimError) (n m k : ℕ) → m ≡ n → CountsSim {A = A} (Err e) m k → CountsSim {A = B} (Err e) n k
counts_from A B e n m k q h = counts_as A B e n k (subst (λ x. CountsSim {A = A} (Err e) x k) q h)

-- after calls that left the count alone
pub counts_after : {A : Type 0} (r : Result A SimError) (n m k : ℕ) → m ≡ n → CountsSim r m k → CountsSim r n k
counts_after r n m k e h = subst (λ x. CountsSim r x k) e h

-- the causes
pub is_cause : (e : StepError) → (e ≡ step.NotEnabled → ⊥) → (e ≡ step.Stopped → ⊥) → IsCause e
is_cause step.NotEnabled f g = f refl
is_cause step.Stopped f g = g refl
is_cause step.Feed f g = tt
is_cause step.Spent f g = tt
is_cause step.OutOfMemory f g = tt

pub counts_cause : (A B : Type 0) (e : StepError) (n m : ℕ) → IsCause e → CountsStep {A = A} (Err e) n m → CountsSim {A = B} (Err (cause e)) n m
counts_cause A B step.NotEnabled n m h q = absurd h
counts_cause A B step.Stopped n m h q = absurd h
counts_cause A B step.Feed n m h q = q
counts_cause A B step.Spent n m h q = q
counts_cause A B step.OutOfMemory n m h q = q

pub counts_ok : {A B : Type 0} (x : A) (y : B) (n m : ℕ) → CountsStep (Ok x) n m → CountsSim (Ok y) n m
counts_ok x y n m h = h

pub spent_cause : {A : Type 0} (e : StepError) → IsCause e → ◌≡◌ {A = Result A SimError} (Err (cause e)) (Err Spent) → e ≡ step.Spent
spent_cause step.NotEnabled h q = absurd h
spent_cause step.Stopped h q = absurd h
spent_cause step.Feed h q = cc
spent_cause step.Spent h q = refl
spent_cause step.OutOfMemory h q = cc

pub stuck_cause : {A : Type 0} (e : StepError) → IsCause e → ◌≡◌ {A = Result A SimError} (Err (cause e)) (Err Stuck) → ⊥
stuck_cause step.NotEnabled h q = h
stuck_cause step.Stopped h q = h
stuck_cause step.Feed h q = cc
stuck_cause step.Spent h q = cc
stuck_cause step.OutOfMemory h q = cc
