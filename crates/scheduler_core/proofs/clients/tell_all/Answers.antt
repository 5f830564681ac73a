use Rattle.std.proofs.Common.{◌≡◌, ℕ, ◌+◌, ◌++◌, sym, ap, ◌∙◌, arith, append_assoc}
use Rattle.std.specs.List.{flat_map, filter_map, range_with_len}
use Rattle.sched_facts.specs.Stored.{facts_of}
use Rattle.scheduler_core.specs.News.{heard}
use Rattle.scheduler_core.proofs.MailLemmas.{flat_map_more}
use Rattle.scheduler_core.proofs.clients.tell_all.Goals as goal

pub loop-before-preserved : goal.loop-before-preserved
loop-before-preserved c =
    let g = λ (v : ℕ). filter_map (heard (facts_of c.args.table.now) v) c.args.news.now in
    rw (c.in_ok-tell_client.ensures, c.loop-before.invariant) (append_assoc c.args.out.now (flat_map g (range_with_len 1 c.loop-before.before)) (g (1 + c.loop-before.before)) ∙ ap (λ l. c.args.out.now ++ l) (sym (flat_map_more g 1 c.loop-before.before)))

pub returns : goal.returns
returns c =
    let f = facts_of c.args.table.now in
    let g = λ (v : ℕ). filter_map (heard f v) c.args.news.now in
    let every : c.loop-before.before ≡ f.setting.clients = omega (arith, c.clients-before-end.ensures) in
    c.loop-before.invariant ∙ ap (λ n. c.args.out.now ++ flat_map g (range_with_len 1 n)) every
