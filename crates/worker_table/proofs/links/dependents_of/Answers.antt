use Rattle.std.proofs.Common.{◌≡◌, ◌<◌, ℕ, List, subst, ◌∙◌, arith, length}
use Rattle.cluster_msgs.specs.Shape.{key_count}
use Rattle.worker_table.specs.Links.{IsLinkedBelow, IsAdded}
use Rattle.worker_table.proofs.LinkLemmas.{linked_none, linked_more, deps_within}
use Rattle.worker_table.proofs.links.dependents_of.Goals as goal

pub loop-key-init : goal.loop-key-init
loop-key-init c = linked_none c.args.shape.now c.in_ok-lists.lists.items (c.in_ok-lists.ensures.length ∙ c.keys.ensures) c.in_ok-lists.ensures.empty

pub name_at-requires : goal.name_at-requires
name_at-requires c =
    let low : c.loop-key.key < key_count c.args.shape.now = omega (arith, c.keys-key-end.ensures) in
    let all = deps_within c.args.shape.now c.loop-key.key c.sound.ensures low in
    rw (c.deps.ensures, c.loop-key.invariant.long) all

pub loop-key-preserved : goal.loop-key-preserved
loop-key-preserved c =
    let low : c.loop-key.key < key_count c.args.shape.now = omega (arith, c.keys-key-end.ensures) in
    linked_more c.args.shape.now c.loop-key.key c.loop-key.lists.items c.name_at.new.lists.items low c.loop-key.invariant
    (subst (λ (ds : List ℕ). IsAdded c.loop-key.key ds c.loop-key.lists.items c.name_at.new.lists.items) c.deps.ensures c.in_ok-name_at.ensures)

pub returns : goal.returns
returns c = subst (λ (n : ℕ). IsLinkedBelow c.args.shape.now n c.loop-key.lists.items) (let e : c.loop-key.key ≡ key_count c.args.shape.now = omega (arith, c.keys-key-end.ensures) in e) c.loop-key.invariant
