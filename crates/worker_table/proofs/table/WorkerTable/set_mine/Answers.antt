use Rattle.std.proofs.Common.{◌≡◌, ◌<◌, ◌∙◌, ap, sym}
use Rattle.cluster_msgs.specs.Shape.{key_count, deps_of}
use Rattle.cluster_rules.specs.Functions.{put}
use Rattle.cluster_rules.specs.Derived.{is_in}
use Rattle.worker_facts.specs.Stored.{facts_of}
use Rattle.worker_table.specs.Links.{dependents}
use Rattle.worker_table.specs.Parts.{parts}
use Rattle.worker_table.proofs.LinkLemmas.{deps_within}
use Rattle.worker_table.proofs.PartLemmas.{mine_apart, count_same}
use Rattle.worker_table.proofs.TableLemmas.{fits_twice}
use Rattle.worker_table.proofs.table.WorkerTable.set_mine.Goals as goal

pub look-requires-clause-key : goal.look-requires-clause-key
look-requires-clause-key c = rw (c.set_mine.ensures) (rw (← c.self.view_is) at c.requires)

pub look-requires-clause-room : goal.look-requires-clause-room
look-requires-clause-room c = rw (c.set_mine.ensures) c.self.invariant.room

pub look_all-requires-clause-room : goal.look_all-requires-clause-room
look_all-requires-clause-room c = rw (c.set_mine.ensures) (c.look.ensures.room _ c.self.invariant.room)

pub look_all-requires-clause-keys : goal.look_all-requires-clause-keys
look_all-requires-clause-keys c =
    let a = c.self.inside in
    let f = facts_of a.facts in
    let low : c.args.key < key_count f.shape = rw (← c.self.view_is) at c.requires in
    rw (c.deps.ensures, c.set_mine.ensures) (deps_within f.shape c.args.key c.sound.ensures.shape low)

pub invariant_of-self : goal.invariant_of-self
invariant_of-self c =
    let a = c.self.inside in
    let f = facts_of a.facts in
    let h = facts_of c.set_mine.new.self in
    let e : h ≡ record f { mine = put f.mine c.args.key c.args.to } = c.set_mine.ensures in
    let low : c.args.key < key_count f.shape = rw (← c.self.view_is) at c.requires in
    let is : c.deps.result.now ≡ deps_of f.shape c.args.key = c.deps.ensures ∙ ap (λ w. deps_of w.shape c.args.key) e in
    fits_twice f h a.dependents.items a.plan c.look.new.self c.look_all.new.self a.count _ c.args.key (deps_of f.shape c.args.key) (ap (λ w. w.shape) e) low (deps_within f.shape c.args.key c.sound.ensures.shape low) c.self.invariant
    (λ k d x. mine_apart f c.args.key k c.args.to d x ∙ ap (λ w. parts w k) (sym e))
    c.look.ensures.here c.look.ensures.others c.look.ensures.room (λ k t. c.look_all.ensures.here k (ap (is_in k) is ∙ t)) (λ q k t z. c.look_all.ensures.others q k (ap (is_in k) is ∙ t) z) c.look_all.ensures.room
    (count_same f h a.count (ap (λ w. w.shape) e) (ap (λ w. w.running) e) c.self.invariant.count)
