use Rattle.std.proofs.Common.{◌<◌, ◌++◌, [], ℕ, Option, sym, ap, ◌∙◌, arith}
use Rattle.std.specs.List.{filter_map, cons_option}
use Rattle.std.specs.Option.{option_map}
use Rattle.cluster_rules.specs.Derived.{below}
use Rattle.cluster_rules.specs.Sched.{keys}
use Rattle.cluster_rules.proofs.SchedLemmas.{filter_map-below}
use Rattle.task_table.specs.Tasks.{facts}
use Rattle.scheduler_core.specs.News.{news_of, all_news, was_held, was_erred}
use Rattle.scheduler_core.specs.declared.news.News.{News}
use Rattle.scheduler_core.proofs.WalkLemmas.{filter_map_gap}
use Rattle.scheduler_core.proofs.NewsLemmas.{no_news}
use Rattle.scheduler_core.proofs.news.all_news.Goals as goal

pub loop-key-preserved : goal.loop-key-preserved
loop-key-preserved c =
    let t = c.args.table.now in
    let f = facts t in
    let key = c.in-Some.key in
    let n = c.loop-key.from in
    let l : key < keys f = c.in-Some.ensures.within in
    let one = λ (k : ℕ). option_map (λ (x : News). (k, x)) (news_of f (was_held t c.args.asked.now) (was_erred t c.args.asked.now) k) in
    let skip = filter_map_gap one n key c.in-Some.ensures.first.0 (λ k a b. no_news t c.args.asked.now k c.remembered.ensures c.requires (omega (arith, l, b)) (c.in-Some.ensures.first.2 k a b)) in
    record {
      news = c.in_ok-push_news.ensures ∙ ap (λ xs. xs ++ cons_option (option_map (λ (x : News). (key, x)) c.news_at.result) []) (c.loop-key.invariant.news ∙ skip) ∙ ap (λ (o : Option News). filter_map one (below key) ++ cons_option (option_map (λ (x : News). (key, x)) o) []) c.news_at.ensures ∙ sym (filter_map-below one key);
      within = omega (arith, l);
    }

pub returns : goal.returns
unfolding all_news
returns c =
    let t = c.args.table.now in
    let f = facts t in
    let one = λ (k : ℕ). option_map (λ (x : News). (k, x)) (news_of f (was_held t c.args.asked.now) (was_erred t c.args.asked.now) k) in
    c.loop-key.invariant.news ∙ filter_map_gap one c.loop-key.from (keys f) c.loop-key.invariant.within (λ k a b. no_news t c.args.asked.now k c.remembered.ensures c.requires b (c.in_default.ensures.first k a))
