use Rattle.std.proofs.Common.{◌∙◌, ap, sym, map-id, rules}
use Rattle.std.proofs.lemmas.Iterator.Adapters.{YieldsList-from_vec}
use Rattle.std.proofs.lemmas.Iterator.Consumers.{YieldsList-end}
use Rattle.thread_run.proofs.Openings.{back-all, back-more}
use Rattle.thread_run.proofs.feeds.give_feeds.Goals as goal

pub loop-fed-preserved : goal.loop-fed-preserved
loop-fed-preserved g c =
    let s = g.S.Site.view in
    let n = c.give_store.ensures in
    let is = c.into_store.ensures ∙ ap (λ f. f.store) c.into_feed.ensures.same in
    back-more c.loop-fed.yielded c.in-Some.fed (λ f. g.S.In.Store.count f.store) (g.S.In.Store.count c.into_store.result) (s c.args.site.now) (s c.loop-fed.site) (s c.give_store.new.self) (ap g.S.In.Store.count (sym is)) c.loop-fed.invariant n.files n.only n.cause

pub returns : goal.returns
returns g c =
    let s = g.S.Site.view in
    let end = YieldsList-end (YieldsList-from_vec {s = c.into_iter-fed-iterator.result} c.args.feeds.items (search rules) (search rules)) c.loop-fed.yielded c.loop-fed.fed-iterator c.loop-fed.yielded_by c.next.result c.next.new.self c.in-None.is c.next.ensures.steps in
    back-all c.loop-fed.yielded c.args.feeds.items (λ f. g.S.In.Store.count f.store) (s c.args.site.now) (s c.loop-fed.site) (sym (map-id c.loop-fed.yielded) ∙ end.0) c.loop-fed.invariant
