use Rattle.std.proofs.Common.{◌+◌, map, ap, arith}
use Rattle.std.specs.Prelude.{string_bytes}
use Rattle.thread_run.proofs.Fixed.{later-run}
use Rattle.thread_run.proofs.Openings.{opens-more, opens-most}
use Rattle.thread_run.proofs.feeds.open_own.Goals as goal

pub new-requires-in-Ok-after_bounds : goal.new-requires-in-Ok-after_bounds
new-requires-in-Ok-after_bounds g c κs within =
    let s = g.S.Site.view in
    let names = map string_bytes c.args.names.now in
    let o = c.loop-thread.invariant.opens in
    later-run g.E.Elements.named g.V.Veil.told names (λ j. j.job.heads) c.new.result (λ f. g.S.In.Store.files f.store) (g.S.In.Store.files c.in-Ok.store) g.P.Picks.picked (s c.args.site.now).files (s c.loop-thread.site).files (s c.store.new.self).files
    c.requires.fixed o.held o.tells o.size_kept c.store.ensures.opens c.in-Ok.ensures.shows (ap g.S.In.Store.files c.new.ensures)

pub returns-in-Err-Failed-clause-opens : goal.returns-in-Err-Failed-clause-opens
returns-in-Err-Failed-clause-opens g c =
    let s = g.S.Site.view in
    let e = c.store.ensures in
    let names = map string_bytes c.args.names.now in
    let t = c.loop-thread._thread in
    opens-most names (t + 1) c.args.threads (s c.args.site.now) (s c.store.new.self) (omega (arith, c.loop-thread-test.true))
    (opens-more names t (s c.args.site.now) (s c.loop-thread.site) (s c.store.new.self) c.loop-thread.invariant.opens e.opens e.only e.cause.later)

pub returns-in-Err-OutOfMemory-clause-opens : goal.returns-in-Err-OutOfMemory-clause-opens
returns-in-Err-OutOfMemory-clause-opens g c =
    let s = g.S.Site.view in
    let e = c.store.ensures in
    let names = map string_bytes c.args.names.now in
    let t = c.loop-thread._thread in
    opens-most names (t + 1) c.args.threads (s c.args.site.now) (s c.store.new.self) (omega (arith, c.loop-thread-test.true))
    (opens-more names t (s c.args.site.now) (s c.loop-thread.site) (s c.store.new.self) c.loop-thread.invariant.opens e.opens e.only e.cause.later)

pub loop-thread-preserved : goal.loop-thread-preserved
loop-thread-preserved g c =
    let s = g.S.Site.view in
    let e = c.store.ensures in
    let names = map string_bytes c.args.names.now in
    let b = c.loop-thread.invariant in
    record {
      opens = opens-more names c.loop-thread._thread (s c.args.site.now) (s c.loop-thread.site) (s c.store.new.self) b.opens e.opens e.only e.cause.later;
      count = omega (arith, b.count, c.push_reserved.ensures.len);
      room = omega (arith, b.room, c.push_reserved.ensures.capacity);
    }
