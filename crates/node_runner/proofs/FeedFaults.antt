-- How a run ended, where a feed had failed.
use Rattle.std.proofs.Common.{◌≡◌, ◌⊎◌, inl, inr, ℕ, List, refl, sym, subst, ⊎_elim}
use Rattle.std.specs.Prelude.{Option, Some, None, IfSome, IfOk, is_some, Result, Ok, Err}
use Rattle.cluster_msgs.specs.Labels.{LabelFacts}
use Rattle.cluster_msgs.specs.Shape.{Shape}
use Rattle.cluster_rules.specs.Sched.{Facts}
use Rattle.node_states.specs.declared.why.Why.{Why}
use Rattle.node_runner.specs.declared.plan.RunPlan.{RunPlan}
use Rattle.node_runner.specs.declared.ends.RunStatus.{RunStatus}
use Rattle.node_runner.specs.declared.ends.RunStatus.TheVariants.{Zero, Killed, Read, Events, Memory}
use Rattle.node_runner.specs.declared.ends.Doubt.{Doubt}
use Rattle.node_runner.specs.declared.ends.Histories.{Histories}
use Rattle.node_runner.specs.Runs.{AreWhole, LastFacts, HasCause, HasGot, IfStatus, IsDecided, IsDoubt, HasRun, HasNotRun, HowItEnded}

-- a run that ended where this may have failed, ended where more may have
cause_of_more : {A B : Type 0} (l : LabelFacts B) (p : RunPlan) (wanted : List ℕ) (f : Facts) (left : List (Option Why)) (F G Cut : Type 0) (r : Result A RunStatus) → (F → G)
    → IfStatus (HasCause l p wanted f left F Cut) r → IfStatus (HasCause l p wanted f left G Cut) r
cause_of_more l p wanted f left F G Cut (Ok x) more h = tt
cause_of_more l p wanted f left F G Cut (Err (Zero key)) more h = h
cause_of_more l p wanted f left F G Cut (Err (Killed key losses)) more h = (h.0, h.1, ⊎_elim (λ often. inl often) (λ x. inr (more x)) h.2)
cause_of_more l p wanted f left F G Cut (Err Read) more h = (h.0, more h.1)
cause_of_more l p wanted f left F G Cut (Err Events) more h = h
cause_of_more l p wanted f left F G Cut (Err Memory) more h = tt

-- what was in doubt has its cause, as it is decided
decided_cause : {B : Type 0} (l : LabelFacts B) (p : RunPlan) (wanted : List ℕ) (f : Facts) (left : List (Option Why)) (Failed Cut : Type 0) (d : Doubt) (t : RunStatus)
    → IsDoubt l p wanted f left d → IsDecided p Failed d t → HasCause l p wanted f left Failed Cut t
decided_cause l p wanted f left Failed Cut d (Zero key) in_doubt is = absurd is
decided_cause l p wanted f left Failed Cut d (Killed key losses) in_doubt is = let k = subst (IsDoubt l p wanted f left) is.0 in_doubt in (k.0, k.1, is.1)
decided_cause l p wanted f left Failed Cut d Read in_doubt is = (subst (IsDoubt l p wanted f left) is.0 in_doubt, is.1)
decided_cause l p wanted f left Failed Cut d Events in_doubt is = absurd is
decided_cause l p wanted f left Failed Cut d Memory in_doubt is = tt

-- what holds of what a run gives goes on to hold
pub still_ok : {A : Type 0} (P : A → Type 0) (r s : Result A RunStatus) (X : RunStatus → Type 0) → (s ≡ r) ⊎ ((t : RunStatus) × (s ≡ Err t) × X t) → IfOk r P → IfOk s P
still_ok P r s X changed h = ⊎_elim (λ e. subst (λ z. IfOk z P) (sym e) h) (λ t. subst (λ z. IfOk z P) (sym t.1) tt) changed

-- the result, or how it is decided in its place
pub run_ended : {A B : Type 0} (l : LabelFacts B) (graph : Shape) (p : RunPlan) (wanted : List ℕ) (Failed : Type 0) (r s : Result A RunStatus) (left : List (Option Why))
    (o : Option Histories) (d : Doubt)
    → IfSome o (λ h. (last : LastFacts) × HasRun l graph p wanted ⊥ last r left h × IsDoubt l p wanted last.scheduler left d)
    → (o ≡ None → HasNotRun r left) → (o ≡ None → s ≡ r) → (s ≡ r) ⊎ ((t : RunStatus) × (s ≡ Err t) × IsDecided p Failed d t)
    → HowItEnded l graph p wanted Failed s left o
run_ended l graph p wanted Failed r s left None d run none same changed = subst (λ z. HasNotRun z left) (sym (same refl)) (none refl)
run_ended l graph p wanted Failed r s left (Some h) d run none same changed = (
  run.0,
  record {
    histories = run.1.histories;
    left_are = run.1.left_are;
    got = still_ok (λ x. HasGot run.0.client h.client.entries (is_some h.client.cut) wanted) r s (IsDecided p Failed d) changed run.1.got;
    cause = ⊎_elim
        (λ e. subst (IfStatus (HasCause l p wanted run.0.scheduler left Failed (AreWhole h → ⊥))) (sym e) (cause_of_more l p wanted run.0.scheduler left ⊥ Failed (AreWhole h → ⊥) r (λ x. absurd x) run.1.cause))
        (λ t. subst (IfStatus (HasCause l p wanted run.0.scheduler left Failed (AreWhole h → ⊥))) (sym t.1) (decided_cause l p wanted run.0.scheduler left Failed (AreWhole h → ⊥) d t.0 run.2 t.2))
        changed;
  },
)

-- a run that gave nothing
pub none_ok : {A : Type 0} (P : A → Type 0) (r : Result A RunStatus) (s : RunStatus) → r ≡ Err s → IfOk r P
none_ok P r s is = subst (λ z. IfOk z P) (sym is) tt

pub ended_more : {A B : Type 0} (l : LabelFacts B) (graph : Shape) (p : RunPlan) (wanted : List ℕ) (F G : Type 0) (r : Result A RunStatus) (left : List (Option Why))
    (o : Option Histories) → (F → G) → HowItEnded l graph p wanted F r left o → HowItEnded l graph p wanted G r left o
ended_more l graph p wanted F G r left None more h = h
ended_more l graph p wanted F G r left (Some x) more h = (
  h.0,
  record {
    histories = h.1.histories;
    left_are = h.1.left_are;
    got = h.1.got;
    cause = cause_of_more l p wanted h.0.scheduler left F G (AreWhole x → ⊥) r more h.1.cause;
  },
)

-- a run that didn't start
pub ended_none : {A B : Type 0} (l : LabelFacts B) (graph : Shape) (p : RunPlan) (wanted : List ℕ) (F : Type 0) (r : Result A RunStatus) (left : List (Option Why))
    (o : Option Histories) → o ≡ None → HasNotRun r left → HowItEnded l graph p wanted F r left o
ended_none l graph p wanted F r left o none h = subst (HowItEnded l graph p wanted F r left) (sym none) h

-- the same, where the rest of the run is told as it was
pub told_end : {A B V W : Type 0} (l : LabelFacts B) (graph : Shape) (p : RunPlan) (wanted : List ℕ) (Failed : W → Type 0) (r s : Result A RunStatus)
    (items : V → List (Option Why)) (v t : V) (w u : W) (o q : Option Histories) (d : Doubt)
    → IfSome o (λ h. (last : LastFacts) × HasRun l graph p wanted ⊥ last r (items v) h × IsDoubt l p wanted last.scheduler (items v) d)
    → (o ≡ None → HasNotRun r (items v)) → (q ≡ o) × (t ≡ v) × (u ≡ w) → (o ≡ None → s ≡ r) → (s ≡ r) ⊎ ((x : RunStatus) × (s ≡ Err x) × IsDecided p (Failed w) d x)
    → HowItEnded l graph p wanted (Failed u) s (items t) q
told_end {A} {B} {V} {W} l graph p wanted Failed r s items v t w u o q d run none same still changed =
    subst (λ (z : Option Histories × V × W). HowItEnded l graph p wanted (Failed z.2) s (items z.1) z.0) (λ i. (sym same.0 i, sym same.1 i, sym same.2 i))
    (run_ended l graph p wanted (Failed w) r s (items v) o d run none still changed)

-- a run without histories tells nothing of them
pub none_told : {A : Type 0} (P : A → Type 0) (o : Option A) → o ≡ None → IfSome o P
none_told P o none = subst (λ z. IfSome z P) (sym none) tt
