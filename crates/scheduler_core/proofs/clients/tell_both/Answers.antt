use Rattle.std.proofs.Common.{◌≡◌, ◌++◌, sym, ap, ◌∙◌, append_assoc, drop}
use Rattle.std.proofs.lemmas.List.{drop_at}
use Rattle.std.proofs.lemmas.Result.{on_ok_weaker}
use Rattle.std.specs.List.{filter_map, flat_map}
use Rattle.cluster_rules.specs.Functions.{from_one}
use Rattle.sched_facts.specs.Stored.{facts_of}
use Rattle.scheduler_core.specs.News.{reply_of, heard}
use Rattle.scheduler_core.proofs.clients.tell_both.Goals as goal

pub returns : goal.returns
returns c =
    let f = facts_of c.args.table.now in
    let out = c.args.out.now in
    let mail = flat_map (λ v. filter_map (heard f v) c.args.news.now) (from_one f.setting.clients) in
    let whole : c.tell_all.new.out ≡ out ++ mail = c.in_ok-tell_all.ensures in
    on_ok_weaker c.tell_reply.result (λ e. e ∙ ap (λ l. l ++ reply_of f (drop c.len-start.result l) c.args.reply) whole ∙ ap (λ l. (out ++ mail) ++ reply_of f l c.args.reply) (drop_at out mail c.len-start.result (sym c.len-start.ensures)) ∙ append_assoc out mail (reply_of f mail c.args.reply)) c.tell_reply.ensures
