use Rattle.std.proofs.Common.{ℕ, ◌<◌, ◌++◌, List, sym, ap, ◌∙◌, subst, All}
use Rattle.std.proofs.lemmas.Result.{on_ok_weaker}
use Rattle.cluster_msgs.specs.declared.messages.ToClient.{ToClient}
use Rattle.cluster_rules.specs.Sched.{keys}
use Rattle.sched_facts.specs.Stored.{Stored, facts_of}
use Rattle.task_table.specs.Tasks.{facts}
use Rattle.scheduler_core.specs.declared.news.News.{News}
use Rattle.scheduler_core.specs.News.{reply_of, mail_and_reply, was_held, was_erred}
use Rattle.scheduler_core.proofs.NewsLemmas.{mail_is, news_keys}
use Rattle.scheduler_core.proofs.clients.tell_clients.Goals as goal

pub tell_both-requires : goal.tell_both-requires
tell_both-requires c =
    let f = facts c.args.table.now in
    subst (λ (z : Stored). All (λ (n : ℕ × News). n.0 < keys (facts_of z)) c.as_slice.result.now) (sym c.table.ensures)
    (subst (λ (ns : List (ℕ × News)). All (λ n. n.0 < keys f) ns) (sym (c.as_slice.ensures ∙ c.in_ok-news.ensures)) (news_keys f (was_held c.args.table.now c.args.asked.now) (was_erred c.args.table.now c.args.asked.now)))

pub returns : goal.returns
returns c =
    let f = facts c.args.table.now in
    let held = was_held c.args.table.now c.args.asked.now in
    let erred = was_erred c.args.table.now c.args.asked.now in
    let out = c.args.out.now in
    on_ok_weaker c.tell_both.result (λ e. e ∙ ap (λ (z : Stored). out ++ mail_and_reply (facts_of z) c.as_slice.result.now c.args.reply) c.table.ensures ∙ ap (λ (ns : List (ℕ × News)). out ++ mail_and_reply f ns c.args.reply) (c.as_slice.ensures ∙ c.in_ok-news.ensures) ∙ ap (λ (ms : List (ℕ × ToClient)). out ++ (ms ++ reply_of f ms c.args.reply)) (mail_is f held erred)) c.tell_both.ensures
