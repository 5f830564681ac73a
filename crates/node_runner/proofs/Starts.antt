-- The scheduler's core as it starts.
use Rattle.std.proofs.Common.{◌≡◌, ◌∙◌, ℕ, List, Option, sym, ap}
use Rattle.cluster_msgs.specs.Shape.{Shape, deps_of}
use Rattle.cluster_msgs.specs.declared.events.Item.{Item}
use Rattle.cluster_rules.specs.Sched.{Facts, Setting, sched_opening}
use Rattle.scheduler_core.specs.Cores.{Core, facts}
use Rattle.node_states.specs.Machines.{SchedState}
use Rattle.node_states.specs.Opening.{IsOpening}
use Rattle.node_runner.specs.Runs.{IsFirstScheduler, setting_of, course_of}
use Rattle.node_runner.specs.declared.plan.RunPlan.{RunPlan}

pub opening_of : (f : Facts) (s : Setting) → f ≡ sched_opening s → IsOpening f
opening_of f s is = record { is = is ∙ ap (λ (x : Facts). sched_opening x.setting) (sym is) }

-- it goes by the graph of its setting
pub graph_of : (f : Facts) (s : Setting) (deps : ℕ → List ℕ) → f ≡ sched_opening s → deps ≡ deps_of s.shape → deps ≡ deps_of f.setting.shape
graph_of f s deps is graph = graph ∙ ap (λ (x : Facts). deps_of x.setting.shape) (sym is)

-- and by what its setting allows
pub allowed_of : (f : Facts) (s : Setting) (allowed : Option ℕ) → f ≡ sched_opening s → allowed ≡ s.allowed → allowed ≡ f.setting.allowed
allowed_of f s allowed is same = same ∙ ap (λ (x : Facts). x.setting.allowed) (sym is)

-- over a copy of the graph and of the script
pub first_of : (graph copy : Shape) (p : RunPlan) (script : List Item) (c : Core) → facts c ≡ sched_opening (setting_of copy p) → copy ≡ graph → script ≡ p.script
    → (d : SchedState) → d.core ≡ c → d.plan ≡ record { workers = p.workers; threads = p.threads; script = script } → IsFirstScheduler graph p d
first_of graph copy p script c start same_graph same_script d core plan = record {
  facts_are = ap facts core ∙ (start ∙ ap (λ (g : Shape). sched_opening (setting_of g p)) same_graph);
  plan_is = plan ∙ ap (λ (xs : List Item). course_of (record p { script = xs })) same_script;
}
