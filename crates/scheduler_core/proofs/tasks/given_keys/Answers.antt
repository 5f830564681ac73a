use Rattle.std.proofs.Common.{◌≡◌, ◌<◌, ◌++◌, ◌∷◌, [], ℕ, cond, sym, ap, ◌∙◌, arith}
use Rattle.std.specs.List.{filter}
use Rattle.cluster_rules.specs.Derived.{below}
use Rattle.cluster_rules.specs.Sched.{keys}
use Rattle.cluster_rules.proofs.SchedLemmas.{filter-below}
use Rattle.task_table.specs.Tasks.{facts}
use Rattle.scheduler_core.specs.Mail.{is_since, given_keys}
use Rattle.scheduler_core.proofs.WalkLemmas.{filter_gap}
use Rattle.scheduler_core.proofs.tasks.given_keys.Goals as goal

pub loop-key-preserved : goal.loop-key-preserved
loop-key-preserved c =
    let f = facts c.args.table.now in
    let key = c.in-Some.key in
    let n = c.loop-key.from in
    let l : key < keys f = c.in-Some.ensures.within in
    let p = λ (k : ℕ). is_since c.args.since (f.on k) in
    let skip = filter_gap p n key c.in-Some.ensures.first.0 (λ k a b. c.requires k (omega (arith, l, b)) (c.in-Some.ensures.first.2 k a b)) in
    let here : c.is_since.result ≡ p key = c.is_since.ensures ∙ ap (is_since c.args.since) c.place_of.ensures in
    record {
      given = c.in_ok-push_where.ensures ∙ ap (λ xs. xs ++ cond c.is_since.result (key ∷ []) []) (c.loop-key.invariant.given ∙ skip) ∙ ap (λ b. filter p (below key) ++ cond b (key ∷ []) []) here ∙ sym (filter-below p key);
      within = omega (arith, l);
    }

pub returns : goal.returns
unfolding given_keys
returns c =
    let f = facts c.args.table.now in
    let n = c.loop-key.from in
    let p = λ (k : ℕ). is_since c.args.since (f.on k) in
    c.loop-key.invariant.given ∙ filter_gap p n (keys f) c.loop-key.invariant.within (λ k a b. c.requires k b (c.in_default.ensures.first k a))
