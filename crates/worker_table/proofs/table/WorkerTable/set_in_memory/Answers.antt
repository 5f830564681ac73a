use Rattle.std.proofs.Common.{◌≡◌, ◌<◌, ◌∙◌, ap, sym, arith, []}
use Rattle.std.proofs.lemmas.List.{get_or_read}
use Rattle.cluster_msgs.specs.Shape.{key_count}
use Rattle.cluster_rules.specs.Functions.{put}
use Rattle.cluster_rules.specs.Derived.{is_in}
use Rattle.worker_facts.specs.Stored.{facts_of}
use Rattle.worker_table.specs.Links.{dependents}
use Rattle.worker_table.specs.Parts.{parts}
use Rattle.worker_table.proofs.PartLemmas.{mem_apart, count_same}
use Rattle.worker_table.proofs.TableLemmas.{fits_twice, not_dependent}
use Rattle.worker_table.proofs.table.WorkerTable.set_in_memory.Goals as goal

pub look-requires-clause-key : goal.look-requires-clause-key
look-requires-clause-key c = rw (c.set_in_memory.ensures) (rw (← c.self.view_is) at c.requires)

pub look-requires-clause-room : goal.look-requires-clause-room
look-requires-clause-room c = rw (c.set_in_memory.ensures) c.self.invariant.room

pub look_all-requires-clause-room : goal.look_all-requires-clause-room
look_all-requires-clause-room c = rw (c.set_in_memory.ensures) (c.look.ensures.room _ c.self.invariant.room)

pub look_all-requires-clause-keys : goal.look_all-requires-clause-keys
look_all-requires-clause-keys c =
    let a = c.self.inside in
    let f = facts_of a.facts in
    let low : c.args.key < key_count f.shape = rw (← c.self.view_is) at c.requires in
    let is : c.as_slice.result.now ≡ dependents a.dependents.items c.args.key = c.as_slice.ensures ∙ get_or_read a.dependents.items c.args.key c.index.result.now (omega (arith, low, c.self.invariant.linked.long)) c.index.ensures [] in
    rw (is, c.set_in_memory.ensures) (c.self.invariant.linked.within c.args.key)

pub invariant_of-self : goal.invariant_of-self
invariant_of-self c =
    let a = c.self.inside in
    let f = facts_of a.facts in
    let h = facts_of c.set_in_memory.new.self in
    let e : h ≡ record f { mem = put f.mem c.args.key c.args.to } = c.set_in_memory.ensures in
    let low : c.args.key < key_count f.shape = rw (← c.self.view_is) at c.requires in
    let is : c.as_slice.result.now ≡ dependents a.dependents.items c.args.key = c.as_slice.ensures ∙ get_or_read a.dependents.items c.args.key c.index.result.now (omega (arith, low, c.self.invariant.linked.long)) c.index.ensures [] in
    fits_twice f h a.dependents.items a.plan c.look.new.self c.look_all.new.self a.count _ c.args.key (dependents a.dependents.items c.args.key) (ap (λ w. w.shape) e) low (c.self.invariant.linked.within c.args.key) c.self.invariant
    (λ k d x. mem_apart f c.args.key k c.args.to d (not_dependent f.shape a.dependents.items c.args.key k c.self.invariant.linked x) ∙ ap (λ w. parts w k) (sym e))
    c.look.ensures.here c.look.ensures.others c.look.ensures.room (λ k t. c.look_all.ensures.here k (ap (is_in k) is ∙ t)) (λ q k t z. c.look_all.ensures.others q k (ap (is_in k) is ∙ t) z) c.look_all.ensures.room
    (count_same f h a.count (ap (λ w. w.shape) e) (ap (λ w. w.running) e) c.self.invariant.count)
