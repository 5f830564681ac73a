use Rattle.std.proofs.Common.{◌≡◌, ◌+◌, cond, arith, ap, ◌∙◌, ◌&&◌}
use Rattle.cluster_msgs.specs.Shape.{deps_of}
use Rattle.fact_rows.specs.Rows.{read}
use Rattle.cluster_rules.specs.Functions.{count}
use Rattle.cluster_rules.specs.Derived.{is_in, below}
use Rattle.cluster_rules.specs.Sched.{deps, need, open_key, keys, waiters}
use Rattle.cluster_rules.proofs.FunctionLemmas.{same_function}
use Rattle.sched_facts.specs.Stored.{facts_of}
use Rattle.sched_facts.proofs.DeriveLemmas.{waits_more, count_few}
use Rattle.sched_facts.proofs.derived.fill_waiters.Goals as goal

pub count_where-requires-clause-few : goal.count_where-requires-clause-few
count_where-requires-clause-few c k =
    let f = facts_of c.args.table.now in
    omega (arith, c.loop-key.invariant.counted k, count_few (λ j. is_in k (deps f j) && (need f j && open_key f j)) c.loop-key.key, c.sound.ensures.shape.few, c.keys-key-end.ensures)

pub loop-key-preserved : goal.loop-key-preserved
loop-key-preserved c =
    let f = facts_of c.args.table.now in
    let j = c.loop-key.key in
    let leads : (c.test.result && c.test-in-loop-key.result) ≡ (need f j && open_key f j) = ap (λ b. b && c.test-in-loop-key.result) (c.test.ensures ∙ ap (λ r. r j) c.requires.need) ∙ ap (λ b. need f j && b) (c.test-in-loop-key.ensures ∙ c.requires.open_keys j (omega (arith, c.keys-key-end.ensures))) in
    record {
      counted = waits_more f j (read c.loop-key.row 0) (read c.count_where.new.row 0) (c.test.result && c.test-in-loop-key.result) leads c.loop-key.invariant.counted (λ k. c.count_where.ensures.counted k ∙ ap (λ ds. read c.loop-key.row 0 k + cond (is_in k ds && (c.test.result && c.test-in-loop-key.result)) 1 0) (c.deps.ensures ∙ ap (λ g. deps_of g j) c.shape.ensures));
      long = c.count_where.ensures.length ∙ c.loop-key.invariant.long;
    }

pub returns-clause-meaning : goal.returns-clause-meaning
unfolding waiters
returns-clause-meaning c =
    let f = facts_of c.args.table.now in
    let all : c.loop-key.key ≡ keys f = omega (arith, c.keys-key-end.ensures) in
    same_function (read c.loop-key.row 0) (waiters f) (λ k. c.loop-key.invariant.counted k ∙ ap (λ n. count (λ j. is_in k (deps f j) && (need f j && open_key f j)) (below n)) all)
