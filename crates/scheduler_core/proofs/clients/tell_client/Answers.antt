use Rattle.std.proofs.Common.{◌++◌, [], sym, ap, ◌∙◌, append_assoc, take, get_or}
use Rattle.std.specs.List.{filter_map, cons_option}
use Rattle.sched_facts.specs.Stored.{facts_of}
use Rattle.scheduler_core.specs.declared.news.News.TheVariants.{Erred}
use Rattle.scheduler_core.specs.News.{heard}
use Rattle.scheduler_core.proofs.MailLemmas.{filter_map_more}
use Rattle.scheduler_core.proofs.clients.tell_client.Goals as goal

pub loop-one-preserved : goal.loop-one-preserved
loop-one-preserved c =
    let one = heard (facts_of c.args.table.now) c.args.client in
    let xs = c.args.news.now in
    let i = c.loop-one.one-index in
    rw (c.in_ok-tell_news.ensures, c.loop-one.invariant) (append_assoc c.args.out.now (filter_map one (take i xs)) (cons_option (one (get_or xs i (0, Erred 0))) []) ∙ ap (λ l. c.args.out.now ++ l) (sym (filter_map_more one xs i (0, Erred 0) c.loop-one-test.true)))
