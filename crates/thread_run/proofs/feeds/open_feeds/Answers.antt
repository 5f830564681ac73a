use Rattle.std.proofs.Common.{◌*◌, map}
use Rattle.std.specs.Prelude.{string_bytes}
use Rattle.thread_run.proofs.Openings.{opens-back}
use Rattle.thread_run.proofs.feeds.open_feeds.Goals as goal

pub returns-in-Err-clause-opens : goal.returns-in-Err-clause-opens
returns-in-Err-clause-opens g c =
    let s = g.S.Site.view in
    opens-back (map string_bytes c.args.names.now) (c.args.numbers * c.args.threads) (s c.args.site.now) (s c.open_each.new.site) (s c.give_all.new.site) ⊥ c.open_each.ensures.opens c.give_all.ensures
