use Rattle.std.proofs.Common.{◌≡◌, ◌<◌, ◌∙◌, ◌+◌, cond, ap, sym, arith}
use Rattle.cluster_msgs.specs.Shape.{key_count, deps_of}
use Rattle.cluster_rules.specs.Functions.{put}
use Rattle.cluster_rules.specs.Derived.{is_in}
use Rattle.worker_facts.specs.Stored.{facts_of}
use Rattle.worker_table.specs.Links.{dependents}
use Rattle.worker_table.specs.Parts.{parts}
use Rattle.worker_table.proofs.LinkLemmas.{deps_within}
use Rattle.worker_table.proofs.PartLemmas.{running_apart, count_put, count_few, count_there}
use Rattle.worker_table.proofs.TableLemmas.{fits_twice}
use Rattle.worker_table.proofs.table.WorkerTable.set_running.Goals as goal

pub look-requires-clause-key : goal.look-requires-clause-key
look-requires-clause-key c = rw (c.set_running.ensures) (rw (← c.self.view_is) at c.requires)

pub look-requires-clause-room : goal.look-requires-clause-room
look-requires-clause-room c = rw (c.set_running.ensures) c.self.invariant.room

pub look_all-requires-clause-room : goal.look_all-requires-clause-room
look_all-requires-clause-room c = rw (c.set_running.ensures) (c.look.ensures.room _ c.self.invariant.room)

pub look_all-requires-clause-keys : goal.look_all-requires-clause-keys
look_all-requires-clause-keys c =
    let a = c.self.inside in
    let f = facts_of a.facts in
    let low : c.args.key < key_count f.shape = rw (← c.self.view_is) at c.requires in
    rw (c.deps.ensures, c.set_running.ensures) (deps_within f.shape c.args.key c.sound.ensures.shape low)

pub recounted-count-requires-clause-room : goal.recounted-count-requires-clause-room
recounted-count-requires-clause-room c = omega (arith, count_few (facts_of c.self.inside.facts) c.self.inside.count c.self.invariant.count, c.sound.ensures.shape.few)

pub recounted-count-requires-clause-there : goal.recounted-count-requires-clause-there
recounted-count-requires-clause-there c t =
    let low : c.args.key < key_count (facts_of c.self.inside.facts).shape = rw (← c.self.view_is) at c.requires in
    count_there (facts_of c.self.inside.facts) c.args.key c.self.inside.count low c.self.invariant.count (sym c.is_running.ensures ∙ t)

pub invariant_of-self : goal.invariant_of-self
invariant_of-self c =
    let a = c.self.inside in
    let f = facts_of a.facts in
    let h = facts_of c.set_running.new.self in
    let e : h ≡ record f { running = put f.running c.args.key c.args.to } = c.set_running.ensures in
    let low : c.args.key < key_count f.shape = rw (← c.self.view_is) at c.requires in
    let is : c.deps.result.now ≡ deps_of f.shape c.args.key = c.deps.ensures ∙ ap (λ w. deps_of w.shape c.args.key) e in
    fits_twice f h a.dependents.items a.plan c.look.new.self c.look_all.new.self a.count _ c.args.key (deps_of f.shape c.args.key) (ap (λ w. w.shape) e) low (deps_within f.shape c.args.key c.sound.ensures.shape low) c.self.invariant
    (λ k d x. running_apart f c.args.key k c.args.to d x ∙ ap (λ w. parts w k) (sym e))
    c.look.ensures.here c.look.ensures.others c.look.ensures.room (λ k t. c.look_all.ensures.here k (ap (is_in k) is ∙ t)) (λ q k t z. c.look_all.ensures.others q k (ap (is_in k) is ∙ t) z) c.look_all.ensures.room
    (count_put f h c.args.key a.count _ c.args.to e low c.self.invariant.count (ap (λ b. c.recounted-count.result + cond b 1 0) (sym c.is_running.ensures) ∙ c.recounted-count.ensures))
