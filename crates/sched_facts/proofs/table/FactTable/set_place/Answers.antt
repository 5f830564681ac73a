use Rattle.std.proofs.Common.{◌≡◌, ◌<◌, ℕ, true, Some, None, subst, sym, ap, ◌∙◌}
use Rattle.cluster_rules.specs.Functions.{put}
use Rattle.cluster_rules.specs.Sched.{Facts, keys, connected}
use Rattle.sched_facts.specs.Stored.{Stored, facts_of}
use Rattle.sched_facts.proofs.Keeping.{keep-placed}
use Rattle.sched_facts.proofs.Rooms.{raise_task, lower_task, raise_work, lower_work}
use Rattle.sched_facts.proofs.table.FactTable.set_place.Goals as goal

pub raise_at-requires : goal.raise_at-requires
raise_at-requires c v a e =
    let s = c.self.inside in
    let placed = subst (λ (z : Stored). (v a : ℕ) → c.args.to ≡ Some (v, a) → (connected (facts_of z) v ≡ true) × (a < (facts_of z).counter)) (sym c.self.view_is) c.requires.place in
    raise_task (facts_of s.store) s.store.room s.tasks s.work s.bytes s.holders s.wanters v c.self.invariant (placed v a e).0

pub lower_at-requires : goal.lower_at-requires
lower_at-requires c v a e =
    let s = c.self.inside in
    let key = subst (λ (z : Stored). c.args.key < keys (facts_of z)) (sym c.self.view_is) c.requires.key in
    lower_task (facts_of s.store) s.store.room s.tasks s.work s.bytes s.holders s.wanters c.args.key c.on-from.result c.args.to c.raise_at.new.row c.self.invariant key c.on-from.ensures c.raise_at.ensures.meaning c.raise_at.ensures.length v a e

pub raise_at-requires-2 : goal.raise_at-requires-2
raise_at-requires-2 c v a e =
    let s = c.self.inside in
    let placed = subst (λ (z : Stored). (v a : ℕ) → c.args.to ≡ Some (v, a) → (connected (facts_of z) v ≡ true) × (a < (facts_of z).counter)) (sym c.self.view_is) c.requires.place in
    raise_work (facts_of s.store) s.store.room s.tasks s.work s.bytes s.holders s.wanters c.args.key c.work-size.result v c.self.invariant c.work-size.ensures (placed v a e).0

pub lower_at-requires-2 : goal.lower_at-requires-2
lower_at-requires-2 c v a e =
    let s = c.self.inside in
    let key = subst (λ (z : Stored). c.args.key < keys (facts_of z)) (sym c.self.view_is) c.requires.key in
    lower_work (facts_of s.store) s.store.room s.tasks s.work s.bytes s.holders s.wanters c.args.key c.work-size.result c.on-from.result c.args.to c.raise_at-2.new.row c.self.invariant key c.work-size.ensures c.on-from.ensures c.raise_at-2.ensures.meaning c.raise_at-2.ensures.length v a e

pub invariant_of-self : goal.invariant_of-self
invariant_of-self c =
    let s = c.self.inside in
    let f = facts_of s.store in
    let key = subst (λ (z : Stored). c.args.key < keys (facts_of z)) (sym c.self.view_is) c.requires.key in
    let placed = subst (λ (z : Stored). (v a : ℕ) → c.args.to ≡ Some (v, a) → (connected (facts_of z) v ≡ true) × (a < (facts_of z).counter)) (sym c.self.view_is) c.requires.place in
    keep-placed f (facts_of c.set_steal.new.self) s.store.room c.set_steal.new.self.room s.tasks s.work s.bytes s.holders s.wanters c.args.key c.work-size.result c.on-from.result c.args.to c.raise_at.new.row c.lower_at.new.row c.raise_at-2.new.row c.lower_at-2.new.row c.work-size.ensures
    (c.set_steal.ensures.facts ∙ ap (λ (g : Facts). record g { steal = put g.steal c.args.key None }) c.set_on.ensures.facts) (c.set_steal.ensures.room ∙ c.set_on.ensures.room) c.on-from.ensures key placed
    c.raise_at.ensures.meaning c.lower_at.ensures.meaning (c.lower_at.ensures.length ∙ c.raise_at.ensures.length)
    c.raise_at-2.ensures.meaning c.lower_at-2.ensures.meaning (c.lower_at-2.ensures.length ∙ c.raise_at-2.ensures.length) c.self.invariant
