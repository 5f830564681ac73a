-- A step of a world: taken, refused, spent, or stopped before.
use Rattle.std.proofs.Common.{◌≡◌, ℕ, Bool, true, false, List, Option, Result, Ok, Err, OnOk, refl, sym, ◌∙◌, subst, arith}
use Rattle.std.specs.Prelude.{◌↔◌}
use Rattle.std.proofs.lemmas.Bool.{true≢false}
use Rattle.small_facts.proofs.Results.{on_ok_from}
use Rattle.cluster_msgs.specs.Shape.{IsShape}
use Rattle.cluster_msgs.specs.declared.events.Event.{Event}
use Rattle.cluster_rules.specs.Sched.{IsSound}
use Rattle.cluster_rules.specs.World.{Job, World, shape_of}
use Rattle.cluster_rules.specs.WorldStep.{world_step}
use Rattle.cluster_rules.specs.Enabled.{enabled}
use Rattle.cluster_laws.specs.Moves.{world_after}
use Rattle.safety_laws.specs.Attempts.{AttemptsEnd}
use Rattle.safety_laws.proofs.Attempts.{world_attempts_end}
use Rattle.scheduler_core.specs.Cores.{facts}
use Rattle.cluster_nodes.specs.Nodes.{world_of}
use Rattle.cluster_world.specs.declared.state.State.{State}
use Rattle.cluster_world.specs.Orderly.{IsOrderly}
use Rattle.cluster_world.specs.declared.state.Course.TheVariants.{Going, Fed, Starved}
use Rattle.cluster_world.specs.declared.errors.StepError.{StepError}
use Rattle.cluster_world.specs.declared.errors.StepError.TheVariants.{NotEnabled, Stopped, Feed, Spent, OutOfMemory}
use Rattle.cluster_world.specs.Worlds.{cluster, world, setting, IsReady, IsMade}
use Rattle.cluster_rules.specs.Runs.{event_limit}
use Rattle.cluster_world.specs.Steps.{Advances, CountsStep}
use Rattle.cluster_world.specs.Taken.{IsStep}
use Rattle.cluster_world.proofs.Advancing.{world_taken, cluster_taken, goes_on, counted, taken_by_values, taken_made, fed_made, not_refused, not_spent, not_stopped, fed, fed_stays, starved}

-- two errors are never one, and no two courses
other_error : (P : Type 0) (x y : StepError) → (x ≡ y → ⊥) → ◌≡◌ {A = Result (Unit {0}) StepError} (Err x) (Err y) → P
other_error P x y n h = absurd (n (same x y h))
  where
    same : (x y : StepError) → ◌≡◌ {A = Result (Unit {0}) StepError} (Err x) (Err y) → x ≡ y
    same x y h = cc

pub going_fed : Going ≡ Fed → ⊥
going_fed h = cc

pub going_starved : Going ≡ Starved → ⊥
going_starved h = cc

fed_going : Fed ≡ Going → ⊥
fed_going h = cc

fed_starved : Fed ≡ Starved → ⊥
fed_starved h = cc

starved_going : Starved ≡ Going → ⊥
starved_going h = cc

starved_fed : Starved ≡ Fed → ⊥
starved_fed h = cc

ne_ns : NotEnabled ≡ Spent → ⊥
ne_ns h = cc

ne_st : NotEnabled ≡ Stopped → ⊥
ne_st h = cc

ne_fe : NotEnabled ≡ Feed → ⊥
ne_fe h = cc

ne_om : NotEnabled ≡ OutOfMemory → ⊥
ne_om h = cc

sp_ne : Spent ≡ NotEnabled → ⊥
sp_ne h = cc

sp_st : Spent ≡ Stopped → ⊥
sp_st h = cc

sp_fe : Spent ≡ Feed → ⊥
sp_fe h = cc

sp_om : Spent ≡ OutOfMemory → ⊥
sp_om h = cc

st_ne : Stopped ≡ NotEnabled → ⊥
st_ne h = cc

st_sp : Stopped ≡ Spent → ⊥
st_sp h = cc

st_fe : Stopped ≡ Feed → ⊥
st_fe h = cc

st_om : Stopped ≡ OutOfMemory → ⊥
st_om h = cc

om_ne : OutOfMemory ≡ NotEnabled → ⊥
om_ne h = cc

om_sp : OutOfMemory ≡ Spent → ⊥
om_sp h = cc

om_st : OutOfMemory ≡ Stopped → ⊥
om_st h = cc

om_fe : OutOfMemory ≡ Feed → ⊥
om_fe h = cc

module _ {J B F : Type 0} (operation : J → ℕ → List B → Option B) (feed_tells : J → F → Type 0) (fault_count : F → ℕ) (e : Event) (s : State J B F) where
  abbrev Step : Result (Unit {0}) StepError → Type 0
  Step r = IsStep operation feed_tells fault_count e r s s

  -- refused
  pub step_refused : IsReady s → enabled (world s) e ≡ false → Step (Err NotEnabled)
  step_refused ready off = record {
    ready = tt;
    possible = tt;
    world = tt;
    cluster = tt;
    goes = tt;
    events = tt;
    by_values = tt;
    made = tt;
    attempts = tt;
    job = refl;
    setting = refl;
    tells = (λ t. t, λ t. t);
    faults = refl;
    not_enabled = (λ h. (ready, off), λ h. refl);
    not_enabled_stays = λ h. refl;
    spent = (λ h. other_error _ NotEnabled Spent ne_ns h, λ h. let r = ready.room in let m = h.1 in absurd (omega (arith, r, m)));
    spent_stays = λ h. refl;
    stopped = (λ h. other_error _ NotEnabled Stopped ne_st h, λ h. absurd (going_fed (sym ready.going ∙ h)));
    stopped_stays = λ h. refl;
    feed = λ h. other_error _ NotEnabled Feed ne_fe h;
    feed_stays = λ h. refl;
    feed_made = λ h es m. m;
    memory = λ h. other_error _ NotEnabled OutOfMemory ne_om h;
    starved = λ h. absurd (going_starved (sym ready.going ∙ h));
  }

  -- spent
  pub step_spent : s.course ≡ Going → s.events ≡ event_limit → Step (Err Spent)
  step_spent going all = record {
    ready = tt;
    possible = tt;
    world = tt;
    cluster = tt;
    goes = tt;
    events = tt;
    by_values = tt;
    made = tt;
    attempts = tt;
    job = refl;
    setting = refl;
    tells = (λ t. t, λ t. t);
    faults = refl;
    not_enabled = (λ h. other_error _ Spent NotEnabled sp_ne h, λ h. let r = h.0.room in absurd (omega (arith, r, all)));
    not_enabled_stays = λ h. refl;
    spent = (λ h. (going, all), λ h. refl);
    spent_stays = λ h. refl;
    stopped = (λ h. other_error _ Spent Stopped sp_st h, λ h. absurd (going_fed (sym going ∙ h)));
    stopped_stays = λ h. refl;
    feed = λ h. other_error _ Spent Feed sp_fe h;
    feed_stays = λ h. refl;
    feed_made = λ h es m. m;
    memory = λ h. other_error _ Spent OutOfMemory sp_om h;
    starved = λ h. absurd (going_starved (sym going ∙ h));
  }

  -- the feed failed before
  pub step_stopped : s.course ≡ Fed → Step (Err Stopped)
  step_stopped at = record {
    ready = tt;
    possible = tt;
    world = tt;
    cluster = tt;
    goes = tt;
    events = tt;
    by_values = tt;
    made = tt;
    attempts = tt;
    job = refl;
    setting = refl;
    tells = (λ t. t, λ t. t);
    faults = refl;
    not_enabled = (λ h. other_error _ Stopped NotEnabled st_ne h, λ h. absurd (fed_going (sym at ∙ h.0.going)));
    not_enabled_stays = λ h. refl;
    spent = (λ h. other_error _ Stopped Spent st_sp h, λ h. absurd (fed_going (sym at ∙ h.0)));
    spent_stays = λ h. refl;
    stopped = (λ h. at, λ h. refl);
    stopped_stays = λ h. refl;
    feed = λ h. other_error _ Stopped Feed st_fe h;
    feed_stays = λ h. refl;
    feed_made = λ h es m. m;
    memory = λ h. other_error _ Stopped OutOfMemory st_om h;
    starved = λ h. absurd (fed_starved (sym at ∙ h));
  }

  -- memory ran out before
  pub step_starved : s.course ≡ Starved → Step (Err OutOfMemory)
  step_starved at = record {
    ready = tt;
    possible = tt;
    world = tt;
    cluster = tt;
    goes = tt;
    events = tt;
    by_values = tt;
    made = tt;
    attempts = tt;
    job = refl;
    setting = refl;
    tells = (λ t. t, λ t. t);
    faults = refl;
    not_enabled = (λ h. other_error _ OutOfMemory NotEnabled om_ne h, λ h. absurd (starved_going (sym at ∙ h.0.going)));
    not_enabled_stays = λ h. refl;
    spent = (λ h. other_error _ OutOfMemory Spent om_sp h, λ h. absurd (starved_going (sym at ∙ h.0)));
    spent_stays = λ h. refl;
    stopped = (λ h. other_error _ OutOfMemory Stopped om_st h, λ h. absurd (starved_fed (sym at ∙ h)));
    stopped_stays = λ h. refl;
    feed = λ h. other_error _ OutOfMemory Feed om_fe h;
    feed_stays = λ h. refl;
    feed_made = λ h es m. m;
    memory = λ h. at;
    starved = λ h. refl;
  }

-- where nothing names what isn't there, an attempt ends for a cause
pub ends_for_a_cause : {J B F : Type 0} (e : Event) (s : State J B F) → IsOrderly (world s) → IsSound (facts s.sched) → enabled (world s) e ≡ true → (j : Job) → AttemptsEnd (world s) e (world_step j (world s) e)
unfolding world_of
ends_for_a_cause e s orderly sound t j = world_attempts_end (shape_of (world s)) j (world s) e orderly.inside orderly.from_client sound t

-- taken, or stopped in this call
pub step_taken : {J B F : Type 0} (operation : J → ℕ → List B → Option B) (feed_tells : J → F → Type 0) (fault_count : F → ℕ) (Fits : J → ℕ → B → Type 0) (e : Event) (r : Result (Unit {0}) StepError) (old new : State J B F)
    → IsReady old → enabled (world old) e ≡ true → IsShape (setting old).shape → ((j : Job) → AttemptsEnd (world old) e (world_step j (world old) e)) → Advances (Fits old.job) (feed_tells old.job old.feed) (operation old.job) e r old new
    → (feed_tells old.job old.feed → IsMade operation old) → new.job ≡ old.job → setting new ≡ setting old → (feed_tells old.job new.feed ↔ feed_tells old.job old.feed) → CountsStep r (fault_count old.feed) (fault_count new.feed) → IsStep operation feed_tells fault_count e r old new
step_taken {J} {B} {F} operation feed_tells fault_count Fits e r old new ready possible low ends a made job set tells faults = record {
  ready = on_ok_from r ready;
  possible = on_ok_from r possible;
  world = world_taken (Fits old.job) (feed_tells old.job old.feed) (operation old.job) e old new r a;
  cluster = cluster_taken (Fits old.job) (feed_tells old.job old.feed) (operation old.job) e old new r a;
  goes = goes_on (Fits old.job) (feed_tells old.job old.feed) (operation old.job) e old new r a;
  events = counted (Fits old.job) (feed_tells old.job old.feed) (operation old.job) e old new r a;
  by_values = taken_by_values (Fits old.job) (feed_tells old.job old.feed) operation e old new r a low possible made;
  made = taken_made (Fits old.job) (feed_tells old.job old.feed) operation e old new r a low possible ready.room job set;
  attempts = ended r (world_taken (Fits old.job) (feed_tells old.job old.feed) (operation old.job) e old new r a);
  job = job;
  setting = set;
  tells = (λ t. tells.0 (subst (λ j. feed_tells j new.feed) job t), λ t. subst (λ j. feed_tells j new.feed) (sym job) (tells.1 t));
  faults = faults;
  not_enabled = (λ h. not_refused (Fits old.job) (feed_tells old.job old.feed) (operation old.job) e old new r a _ h, λ h. absurd (true≢false (sym possible ∙ h.1)));
  not_enabled_stays = λ h. not_refused (Fits old.job) (feed_tells old.job old.feed) (operation old.job) e old new r a _ h;
  spent = (λ h. not_spent (Fits old.job) (feed_tells old.job old.feed) (operation old.job) e old new r a _ h, λ h. let x = ready.room in let m = h.1 in absurd (omega (arith, x, m)));
  spent_stays = λ h. not_spent (Fits old.job) (feed_tells old.job old.feed) (operation old.job) e old new r a _ h;
  stopped = (λ h. not_stopped (Fits old.job) (feed_tells old.job old.feed) (operation old.job) e old new r a _ h, λ h. absurd (going_fed (sym ready.going ∙ h)));
  stopped_stays = λ h. not_stopped (Fits old.job) (feed_tells old.job old.feed) (operation old.job) e old new r a _ h;
  feed = fed (Fits old.job) (feed_tells old.job old.feed) (operation old.job) e old new r a;
  feed_stays = fed_stays (Fits old.job) (feed_tells old.job old.feed) (operation old.job) e old new r a;
  feed_made = fed_made (Fits old.job) (feed_tells old.job old.feed) operation e old new r a low possible;
  memory = starved (Fits old.job) (feed_tells old.job old.feed) (operation old.job) e old new r a;
  starved = λ h. absurd (going_starved (sym ready.going ∙ h));
}
  where
    ended : (q : Result (Unit {0}) StepError) → OnOk q ((met : Bool) × (world new ≡ world_after met (world old) e)) → OnOk q (AttemptsEnd (world old) e (world new))
    ended (Ok x) h = subst (λ (v : World). AttemptsEnd (world old) e v) (sym h.1) (ends (record { setting = (world old).sched.setting; zero = λ k. h.0 }))
    ended (Err x) h = tt
