use Rattle.std.proofs.Common.{◌≡◌, ◌<◌, ◌≤◌, ◌^◌, ℕ, true, false, subst, sym, ap, ◌∙◌, arith}
use Rattle.cluster_rules.specs.Sched.{Facts, keys, connected}
use Rattle.sched_facts.specs.Kept.{left_key}
use Rattle.sched_facts.proofs.Leaving.{left_none, left_more, left_setting, left_connected}
use Rattle.task_table.specs.Lists.{is_at}
use Rattle.task_table.specs.Tasks.{facts}
use Rattle.sched_changes.proofs.Following.{follows_self, follows_then}
use Rattle.sched_changes.proofs.LeavingLemmas.{left_at, left_losses, left_over}
use Rattle.sched_changes.proofs.leaving.bare.Goals as goal

pub loop-key-init : goal.loop-key-init
loop-key-init c = record { facts = left_none (facts c.args.table.now) c.args.worker; follows = follows_self c.args.table.now; within = omega arith }

pub bare_key-requires : goal.bare_key-requires
bare_key-requires c =
    let f = facts c.args.table.now in
    record {
      worker = subst (λ (g : Facts). connected g c.args.worker ≡ true) (sym c.loop-key.invariant.facts) (left_connected f c.args.worker c.loop-key.from c.args.worker ∙ c.requires.worker);
      key = c.in-Some.ensures.within;
      room = subst (λ (g : Facts). g.losses c.in-Some.key < 2 ^ 31) (sym c.loop-key.invariant.facts) (subst (λ n. n < 2 ^ 31) (sym (left_losses f c.args.worker c.loop-key.from c.in-Some.key c.in-Some.ensures.first.0)) (c.requires.room c.in-Some.key));
    }

pub loop-key-preserved : goal.loop-key-preserved
loop-key-preserved c =
    let f = facts c.args.table.now in
    let w = c.args.worker in
    let n = c.loop-key.from in
    let key = c.in-Some.key in
    let now = c.loop-key.invariant.facts in
    let low : key < keys f = subst (λ m. key < m) (left_setting f w n) (subst (λ (g : Facts). key < keys g) now c.in-Some.ensures.within) in
    let none : (k : ℕ) → n ≤ k → k < key → is_at f w k ≡ false = λ k a b. sym (left_at f w n k a) ∙ ap (λ (g : Facts). is_at g w k) (sym now) ∙ c.in-Some.ensures.first.2 k a b in
    record {
      facts = c.bare_key.ensures.facts ∙ ap (λ (g : Facts). left_key w g key) (now ∙ left_over f w n key c.in-Some.ensures.first.0 none) ∙ left_more f w key;
      follows = follows_then c.args.table.now c.loop-key.table c.bare_key.new.table c.loop-key.invariant.follows c.bare_key.ensures.follows;
      within = omega (arith, low);
    }

pub returns-clause-facts : goal.returns-clause-facts
returns-clause-facts c =
    let f = facts c.args.table.now in
    let w = c.args.worker in
    let n = c.loop-key.from in
    let now = c.loop-key.invariant.facts in
    now ∙ left_over f w n (keys f) c.loop-key.invariant.within (λ k a b. sym (left_at f w n k a) ∙ ap (λ (g : Facts). is_at g w k) (sym now) ∙ c.in_default.ensures.first k a)
