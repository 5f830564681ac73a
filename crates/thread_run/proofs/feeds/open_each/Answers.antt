use Rattle.std.proofs.Common.{◌+◌, map, arith}
use Rattle.std.specs.Prelude.{string_bytes, vec_len}
use Rattle.thread_run.proofs.Fixed.{fixed-run}
use Rattle.thread_run.proofs.Openings.{opens-row, opens-rows, short-more}
use Rattle.thread_run.proofs.feeds.open_each.Goals as goal

pub returns-in_err-own-clause-opens : goal.returns-in_err-own-clause-opens
returns-in_err-own-clause-opens g c =
    let s = g.S.Site.view in
    opens-rows (map string_bytes c.args.names.now) c.loop-number._number c.args.numbers c.args.threads (s c.args.site.now) (s c.loop-number.site) (omega (arith, c.loop-number-test.true)) c.loop-number.invariant.opens

pub open_own-opened-requires-clause-fixed : goal.open_own-opened-requires-clause-fixed
open_own-opened-requires-clause-fixed g c κs within =
    let s = g.S.Site.view in
    let o = c.loop-number.invariant.opens in
    fixed-run g.E.Elements.named g.V.Veil.told (map string_bytes c.args.names.now) (λ j. j.job.heads) g.P.Picks.picked (s c.args.site.now).files (s c.loop-number.site).files o.held o.tells o.size_kept c.requires.fixed

pub returns-in_err-opened-clause-opens : goal.returns-in_err-opened-clause-opens
returns-in_err-opened-clause-opens g c =
    let s = g.S.Site.view in
    let names = map string_bytes c.args.names.now in
    let n = c.loop-number._number in
    let t = c.args.threads in
    opens-rows names (n + 1) c.args.numbers t (s c.args.site.now) (s c.open_own-opened.new.site) (omega (arith, c.loop-number-test.true))
    (opens-row names n t (s c.args.site.now) (s c.loop-number.site) (s c.open_own-opened.new.site) c.loop-number.invariant.opens c.open_own-opened.ensures.opens)

pub loop-number-preserved : goal.loop-number-preserved
loop-number-preserved g c =
    let s = g.S.Site.view in
    let b = c.loop-number.invariant in
    let o = c.open_own-opened.ensures.opens in
    record {
      opens = opens-row (map string_bytes c.args.names.now) c.loop-number._number c.args.threads (s c.args.site.now) (s c.loop-number.site) (s c.open_own-opened.new.site) b.opens o;
      count = omega (arith, b.count, c.push_reserved.ensures.len);
      room = omega (arith, b.room, c.push_reserved.ensures.capacity);
      short = short-more (λ v. vec_len v) c.loop-number.all.items c.push_reserved.new.self.items c.open_own-opened.new.own c.args.threads (s c.args.site.now).read_faults (s c.loop-number.site).read_faults (s c.open_own-opened.new.site).read_faults
          c.push_reserved.ensures.items b.short c.in_ok-opened.ensures.short b.opens.later o.later;
    }
