use Rattle.std.proofs.Common.{arith, ◌≡◌, ◌-◌, ℕ, false, ap, ◌∙◌, ◌&&◌, ◌||◌}
use Rattle.cluster_msgs.specs.Shape.{deps_of}
use Rattle.cluster_rules.specs.Derived.{is_in}
use Rattle.cluster_rules.specs.Sched.{keys, deps}
use Rattle.fact_rows.specs.Rows.{read}
use Rattle.sched_facts.specs.Stored.{facts_of}
use Rattle.sched_facts.proofs.DeriveLemmas.{reached_more, reached_all}
use Rattle.sched_facts.proofs.derived.spread.Goals as goal

pub loop-done-preserved : goal.loop-done-preserved
loop-done-preserved c =
    let f = facts_of c.args.table.now in
    let n : c.keys-count.result ≡ keys f = c.keys-count.ensures in
    let key = c.keys-count.result - 1 - c.loop-done.done in
    let same = λ (k : ℕ). ap (λ ds. is_in k ds && (c.test.result && c.test-in-loop-done.result)) (c.deps.ensures ∙ ap (λ g. deps_of g key) c.shape.ensures)
    ∙ ap (λ b. is_in k (deps f key) && (b && c.test-in-loop-done.result)) c.test.ensures
    ∙ ap (λ b. is_in k (deps f key) && (read c.args.pass.now false key && b)) c.test-in-loop-done.ensures in
    record {
      long = c.mark_where.ensures.length ∙ c.loop-done.invariant.long;
      within = omega (arith, n);
      marked = reached_more (deps f) (keys f) (read c.args.row.now false) (read c.args.pass.now false) (read c.loop-done.row false) (read c.mark_where.new.row false) c.sound.ensures.shape.below
          key c.loop-done.done (omega (arith, n)) c.loop-done.invariant.marked
          (λ k. c.mark_where.ensures.marked k ∙ ap (λ b. read c.loop-done.row false k || b) (same k));
    }

pub returns-clause-meaning : goal.returns-clause-meaning
returns-clause-meaning c =
    let f = facts_of c.args.table.now in
    let n : c.keys-count.result ≡ keys f = c.keys-count.ensures in
    reached_all (deps f) (keys f) (read c.args.row.now false) (read c.args.pass.now false) (read c.loop-done.row false) c.sound.ensures.shape.below c.loop-done.done (omega (arith, n)) c.loop-done.invariant.marked
