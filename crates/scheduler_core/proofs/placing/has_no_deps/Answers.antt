use Rattle.std.proofs.Common.{◌<◌, ℕ, List, length, subst, sym, ap, ◌∙◌}
use Rattle.std.specs.Prelude.{◌==◌}
use Rattle.cluster_msgs.specs.Shape.{Shape, key_count, deps_of}
use Rattle.sched_facts.specs.Stored.{Stored, facts_of}
use Rattle.scheduler_core.proofs.placing.has_no_deps.Goals as goal

pub deps-requires : goal.deps-requires
deps-requires c =
    let e = c.shape.ensures ∙ ap (λ (s : Stored). (facts_of s).setting.shape) c.table.ensures in
    subst (λ (s : Shape). c.args.key < key_count s) (sym e) c.requires

pub returns : goal.returns
returns c =
    let e = c.shape.ensures ∙ ap (λ (s : Stored). (facts_of s).setting.shape) c.table.ensures in
    c.is_empty.ensures ∙ ap (λ (ds : List ℕ). length ds == 0) c.deps.ensures ∙ ap (λ (s : Shape). length (deps_of s c.args.key) == 0) e
