use Rattle.std.proofs.Common.{◌≡◌, ℕ, true, false, subst, sym}
use Rattle.cluster_rules.specs.Sched.{connected, holds, is_on}
use Rattle.sched_facts.specs.Stored.{Stored, facts_of}
use Rattle.sched_facts.proofs.Keeping.{has_row}
use Rattle.sched_facts.proofs.Rooms.{keep-left}
use Rattle.sched_facts.proofs.table.FactTable.disconnect.Goals as goal

pub set_threads-requires : goal.set_threads-requires
set_threads-requires c =
    let s = c.self.inside in
    has_row (facts_of s.store) s.store.room s.tasks s.work s.bytes s.holders s.wanters c.self.invariant c.args.worker (subst (λ (z : Stored). connected (facts_of z) c.args.worker ≡ true) (sym c.self.view_is) c.requires.worker)

pub invariant_of-self : goal.invariant_of-self
invariant_of-self c =
    let s = c.self.inside in
    keep-left (facts_of s.store) (facts_of c.set_threads.new.self) s.store.room c.set_threads.new.self.room s.tasks s.work s.bytes s.holders s.wanters c.args.worker c.set_threads.ensures.facts c.set_threads.ensures.room
    (subst (λ (z : Stored). connected (facts_of z) c.args.worker ≡ true) (sym c.self.view_is) c.requires.worker)
    (subst (λ (z : Stored). (k : ℕ) → holds (facts_of z) c.args.worker k ≡ false) (sym c.self.view_is) c.requires.holds)
    (subst (λ (z : Stored). (k : ℕ) → is_on (facts_of z) c.args.worker k ≡ false) (sym c.self.view_is) c.requires.on) c.self.invariant
