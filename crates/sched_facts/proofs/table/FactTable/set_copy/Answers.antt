use Rattle.std.proofs.Common.{◌≡◌, ◌<◌, ℕ, true, Some, subst, sym, ap, ◌∙◌, cond}
use Rattle.cluster_msgs.specs.Shape.{nbytes_of}
use Rattle.cluster_rules.specs.Sched.{keys, connected}
use Rattle.sched_facts.specs.Stored.{Stored, facts_of}
use Rattle.sched_facts.proofs.Keeping.{keep-copied}
use Rattle.sched_facts.proofs.Rooms.{raise_bytes, lower_bytes, raise_holders, lower_holders}
use Rattle.sched_facts.proofs.table.FactTable.set_copy.Goals as goal

pub raise-requires : goal.raise-requires
raise-requires c =
    let s = c.self.inside in
    let key = subst (λ (z : Stored). c.args.key < keys (facts_of z)) (sym c.self.view_is) c.requires.key in
    let on = subst (λ (z : Stored). connected (facts_of z) c.args.worker ≡ true) (sym c.self.view_is) c.requires.worker in
    let p = raise_bytes (facts_of s.store) s.store.room s.tasks s.work s.bytes s.holders s.wanters c.args.worker c.args.key c.where_so.result c.is_there-has.result c.self.invariant key on (c.where_so.ensures ∙ ap (λ n. cond c.is_there-has.result n 0) c.nbytes-size.ensures) in
    record { at = p.0; fits = p.1 }

pub lower-requires : goal.lower-requires
lower-requires c =
    let s = c.self.inside in
    let f = facts_of s.store in
    let key = subst (λ (z : Stored). c.args.key < keys (facts_of z)) (sym c.self.view_is) c.requires.key in
    let on = subst (λ (z : Stored). connected (facts_of z) c.args.worker ≡ true) (sym c.self.view_is) c.requires.worker in
    let p = lower_bytes f s.store.room s.tasks s.work s.bytes s.holders s.wanters c.args.worker c.args.key c.where_so.result c.where_so-2.result c.raise.new.row c.self.invariant key on (c.where_so-2.ensures ∙ ap (λ n. cond c.holds-had.result n 0) c.nbytes-size.ensures ∙ ap (λ b. cond b (nbytes_of f.setting.shape c.args.key) 0) c.holds-had.ensures) c.raise.ensures.meaning c.raise.ensures.length in
    record { at = p.0; enough = p.1 }

pub raise-requires-2 : goal.raise-requires-2
raise-requires-2 c =
    let s = c.self.inside in
    let key = subst (λ (z : Stored). c.args.key < keys (facts_of z)) (sym c.self.view_is) c.requires.key in
    let p = raise_holders (facts_of s.store) s.store.room s.tasks s.work s.bytes s.holders s.wanters c.args.key c.where_so-3.result c.is_there-has.result c.self.invariant key c.where_so-3.ensures in
    record { at = p.0; fits = p.1 }

pub lower-requires-2 : goal.lower-requires-2
lower-requires-2 c =
    let s = c.self.inside in
    let f = facts_of s.store in
    let key = subst (λ (z : Stored). c.args.key < keys (facts_of z)) (sym c.self.view_is) c.requires.key in
    let on = subst (λ (z : Stored). connected (facts_of z) c.args.worker ≡ true) (sym c.self.view_is) c.requires.worker in
    let p = lower_holders f s.store.room s.tasks s.work s.bytes s.holders s.wanters c.args.worker c.args.key c.where_so-3.result c.where_so-4.result c.raise-2.new.row c.self.invariant key on (c.where_so-4.ensures ∙ ap (λ b. cond b 1 0) c.holds-had.ensures) c.raise-2.ensures.meaning c.raise-2.ensures.length in
    record { at = p.0; enough = p.1 }

pub invariant_of-self : goal.invariant_of-self
invariant_of-self c =
    let s = c.self.inside in
    let f = facts_of s.store in
    let key = subst (λ (z : Stored). c.args.key < keys (facts_of z)) (sym c.self.view_is) c.requires.key in
    let on = subst (λ (z : Stored). connected (facts_of z) c.args.worker ≡ true) (sym c.self.view_is) c.requires.worker in
    let low = subst (λ (z : Stored). (x : ℕ) → c.args.to ≡ Some x → x < (facts_of z).counter) (sym c.self.view_is) c.requires.fresh in
    let size = nbytes_of f.setting.shape c.args.key in
    keep-copied f (facts_of c.set_copy.new.self) s.store.room c.set_copy.new.self.room s.tasks s.work s.bytes s.holders s.wanters c.args.worker c.args.key c.args.to c.raise.new.row c.lower.new.row c.raise-2.new.row c.lower-2.new.row
    c.where_so.result c.where_so-2.result c.where_so-3.result c.where_so-4.result c.set_copy.ensures.facts c.set_copy.ensures.room key on low
    (c.where_so.ensures ∙ ap (λ n. cond c.is_there-has.result n 0) c.nbytes-size.ensures ∙ ap (λ b. cond b size 0) c.is_there-has.ensures)
    (c.where_so-2.ensures ∙ ap (λ n. cond c.holds-had.result n 0) c.nbytes-size.ensures ∙ ap (λ b. cond b size 0) c.holds-had.ensures)
    (c.where_so-3.ensures ∙ ap (λ b. cond b 1 0) c.is_there-has.ensures)
    (c.where_so-4.ensures ∙ ap (λ b. cond b 1 0) c.holds-had.ensures)
    c.raise.ensures.meaning c.lower.ensures.meaning (c.lower.ensures.length ∙ c.raise.ensures.length)
    c.raise-2.ensures.meaning c.lower-2.ensures.meaning (c.lower-2.ensures.length ∙ c.raise-2.ensures.length) c.self.invariant
