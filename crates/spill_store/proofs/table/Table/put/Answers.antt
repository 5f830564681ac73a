use Rattle.std.proofs.Common.{◌≤◌, ◌-◌, length, nat_eq, ap, ◌∙◌, arith}
use Rattle.lru.specs.LruCache.{put_entries}
use Rattle.spill_store.proofs.Tables.{cap_stays, put_at, put_is_first}
use Rattle.spill_store.proofs.table.Table.put.Goals as goal

pub invariant_of-self : goal.invariant_of-self
invariant_of-self g c =
    let cache = c.self.inside.cache in
    (cap_stays c.put-stored.result (put_entries nat_eq cache c.args.key c.args.value) cache c.put-stored.new.self c.put-stored.ensures.entries c.put-stored.ensures.err ∙ c.self.invariant.0, c.len-2.ensures.valid.0)

pub returns-in-Ok-clause-ok : goal.returns-in-Ok-clause-ok
returns-in-Ok-clause-ok g c =
    let cache = c.self.inside.cache in
    let room : length cache.entries ≤ cache.cap - 1 = omega (arith, c.len.ensures.len, c.len.ensures.fits, c.self.invariant.0) in
    rw (← c.self.view_is) (ap (λ x. x.entries) c.in-Ok.ensures.entries ∙ put_is_first cache c.args.key c.args.value room)

pub returns-in-Ok-clause-changes : goal.returns-in-Ok-clause-changes
returns-in-Ok-clause-changes g c =
    let cache = c.self.inside.cache in
    let room : length cache.entries ≤ cache.cap - 1 = omega (arith, c.len.ensures.len, c.len.ensures.fits, c.self.invariant.0) in
    let e = ap (λ x. x.entries) c.in-Ok.ensures.entries ∙ put_is_first cache c.args.key c.args.value room in
    rw (← c.self.view_is, e) (put_at c.args.key c.args.value cache.entries c.self.invariant.1)
