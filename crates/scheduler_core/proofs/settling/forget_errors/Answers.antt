use Rattle.std.proofs.Common.{◌<◌, ◌+◌, ℕ, Bool, ap, ◌∙◌, arith}
use Rattle.std.proofs.Math.Nat.{le-add_right}
use Rattle.cluster_rules.specs.Sched.{Facts, keys, known}
use Rattle.task_table.specs.Tasks.{facts}
use Rattle.sched_changes.proofs.Following.{follows_self, follows_then}
use Rattle.scheduler_core.specs.Dropped.{forgiven}
use Rattle.scheduler_core.proofs.DropLemmas.{bad_none, bad_more, bad_all}
use Rattle.scheduler_core.proofs.WalkLemmas.{passed, passed_all, bad_over, known_bad, in_setting, bad_there, losses_there}
use Rattle.scheduler_core.proofs.settling.forget_errors.Goals as goal

pub loop-key-init : goal.loop-key-init
loop-key-init c = let f = facts c.args.table.now in record { facts = bad_none (known f) f; follows = follows_self c.args.table.now; within = omega arith }

pub loop-key-preserved : goal.loop-key-preserved
loop-key-preserved c =
    let s = c.args.table.now in
    let t = c.loop-key.table in
    let f = facts s in
    let key = c.in-Some.key in
    let n = c.loop-key.from in
    let l : key < keys f = in_setting s t key c.loop-key.invariant.follows c.in-Some.ensures.within in
    let g = c.loop-key.invariant.facts ∙ bad_over (known f) f n key c.in-Some.ensures.first.0 (λ k a b e. c.requires.errors k (omega (arith, l, b)) (passed s t n key k c.loop-key.invariant.follows c.in-Some.ensures.first a b) e) (λ k a b e. c.requires.losses k (omega (arith, l, b)) (passed s t n key k c.loop-key.invariant.follows c.in-Some.ensures.first a b) e) in
    record {
      facts = c.forget_error.ensures.facts ∙ ap (λ (z : Facts). forgiven (known z key) z key) g ∙ bad_more (known f) f key _ (ap (λ (p : ℕ → Bool). p key) (known_bad (known f) f key));
      follows = follows_then s t c.forget_error.new.table c.loop-key.invariant.follows c.forget_error.ensures.follows;
      within = omega (arith, l);
    }

pub returns-clause-facts : goal.returns-clause-facts
returns-clause-facts c =
    let s = c.args.table.now in
    let t = c.loop-key.table in
    let f = facts s in
    let n = c.loop-key.from in
    c.loop-key.invariant.facts ∙ bad_over (known f) f n (n + keys f) (le-add_right n (keys f)) (λ k a b e. bad_there f k c.sound.ensures e (λ l. c.requires.errors k l (passed_all s t n k c.loop-key.invariant.follows c.in_default.ensures.first a) e)) (λ k a b e. losses_there f k c.sound.ensures (λ l. c.requires.losses k l (passed_all s t n k c.loop-key.invariant.follows c.in_default.ensures.first a) e)) ∙ bad_all f (n + keys f) c.sound.ensures (omega arith)
