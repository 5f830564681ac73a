use Rattle.std.proofs.Common.{◌≡◌, ◌<◌, ◌∙◌, ap, sym}
use Rattle.cluster_msgs.specs.Shape.{key_count}
use Rattle.cluster_rules.specs.Functions.{put}
use Rattle.worker_facts.specs.Stored.{facts_of}
use Rattle.worker_table.specs.Links.{dependents}
use Rattle.worker_table.specs.Parts.{parts}
use Rattle.worker_table.proofs.PartLemmas.{sought_apart, count_same}
use Rattle.worker_table.proofs.TableLemmas.{fits_one}
use Rattle.worker_table.proofs.table.WorkerTable.set_sought.Goals as goal

pub look-requires-clause-key : goal.look-requires-clause-key
look-requires-clause-key c = rw (c.set_sought.ensures) (rw (← c.self.view_is) at c.requires)

pub look-requires-clause-room : goal.look-requires-clause-room
look-requires-clause-room c = rw (c.set_sought.ensures) c.self.invariant.room

pub invariant_of-self : goal.invariant_of-self
invariant_of-self c =
    let a = c.self.inside in
    let f = facts_of a.facts in
    let h = facts_of c.set_sought.new.self in
    let e : h ≡ record f { sought = put f.sought c.args.key c.args.to } = c.set_sought.ensures in
    let low : c.args.key < key_count f.shape = rw (← c.self.view_is) at c.requires in
    fits_one f h a.dependents.items a.plan c.look.new.self a.count a.count c.args.key (ap (λ w. w.shape) e) low c.self.invariant (λ k d. sought_apart f c.args.key k c.args.to d ∙ ap (λ w. parts w k) (sym e))
    c.look.ensures.here c.look.ensures.others c.look.ensures.room (count_same f h a.count (ap (λ w. w.shape) e) (ap (λ w. w.running) e) c.self.invariant.count)
