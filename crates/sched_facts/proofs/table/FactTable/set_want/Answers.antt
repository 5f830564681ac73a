use Rattle.std.proofs.Common.{◌<◌, ◌≤◌, subst, sym, ap, ◌∙◌, cond}
use Rattle.cluster_rules.specs.Sched.{keys}
use Rattle.sched_facts.specs.Stored.{Stored, facts_of}
use Rattle.sched_facts.proofs.Keeping.{keep-want}
use Rattle.sched_facts.proofs.Rooms.{raise_want, lower_want}
use Rattle.sched_facts.proofs.table.FactTable.set_want.Goals as goal

pub raise-requires : goal.raise-requires
raise-requires c =
    let s = c.self.inside in
    let p = raise_want (facts_of s.store) s.store.room s.tasks s.work s.bytes s.holders s.wanters c.args.key c.where_so.result c.args.to c.self.invariant (subst (λ (z : Stored). c.args.key < keys (facts_of z)) (sym c.self.view_is) c.requires.key) c.where_so.ensures in
    record { at = p.0; fits = p.1 }

pub lower-requires : goal.lower-requires
lower-requires c =
    let s = c.self.inside in
    let p = lower_want (facts_of s.store) s.store.room s.tasks s.work s.bytes s.holders s.wanters c.args.client c.args.key c.where_so.result c.where_so-2.result c.raise.new.row c.self.invariant c.requires.first (subst (λ (z : Stored). c.args.client ≤ (facts_of z).setting.clients) (sym c.self.view_is) c.requires.client) (subst (λ (z : Stored). c.args.key < keys (facts_of z)) (sym c.self.view_is) c.requires.key) (c.where_so-2.ensures ∙ ap (λ b. cond b 1 0) c.wants-did.ensures) c.raise.ensures.meaning c.raise.ensures.length in
    record { at = p.0; enough = p.1 }

pub invariant_of-self : goal.invariant_of-self
invariant_of-self c =
    let s = c.self.inside in
    keep-want (facts_of s.store) (facts_of c.set_want.new.self) s.store.room c.set_want.new.self.room s.tasks s.work s.bytes s.holders s.wanters c.args.client c.args.key c.args.to c.raise.new.row c.lower.new.row c.where_so.result c.where_so-2.result
    c.where_so.ensures (c.where_so-2.ensures ∙ ap (λ b. cond b 1 0) c.wants-did.ensures) c.set_want.ensures.facts c.set_want.ensures.room
    (subst (λ (z : Stored). c.args.key < keys (facts_of z)) (sym c.self.view_is) c.requires.key) c.requires.first (subst (λ (z : Stored). c.args.client ≤ (facts_of z).setting.clients) (sym c.self.view_is) c.requires.client)
    c.raise.ensures.meaning c.lower.ensures.meaning (c.lower.ensures.length ∙ c.raise.ensures.length) c.self.invariant
