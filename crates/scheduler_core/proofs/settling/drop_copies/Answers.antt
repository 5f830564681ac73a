use Rattle.std.proofs.Common.{◌≡◌, ◌<◌, ◌≤◌, ◌+◌, ◌&&◌, ◌||◌, ℕ, true, not, ap, ◌∙◌, arith, is_some}
use Rattle.std.proofs.Math.Dec.{eqb}
use Rattle.std.proofs.Math.Nat.{le-add_right}
use Rattle.cluster_rules.specs.Sched.{Facts, keys, need, holds}
use Rattle.task_table.specs.Tasks.{facts}
use Rattle.sched_changes.specs.Pairs.{has_pair}
use Rattle.sched_changes.proofs.Following.{follows_self, follows_then}
use Rattle.scheduler_core.specs.Dropped.{held_nowhere}
use Rattle.scheduler_core.proofs.DropLemmas.{has_none, has_more, has_all, lost_copies_more, lost_none, lost_all}
use Rattle.scheduler_core.proofs.WalkLemmas.{passed, passed_all, has_over, lost_over, need_has, in_setting, copy_there}
use Rattle.scheduler_core.proofs.settling.drop_copies.Goals as goal

pub loop-key-init : goal.loop-key-init
loop-key-init c = let f = facts c.args.table.now in record { facts = has_none (need f) f; lost = λ w k. lost_none (has_pair c.args.lost.now w k) (holds f w k) (need f k) k; follows = follows_self c.args.table.now; within = omega arith }

pub loop-key-preserved : goal.loop-key-preserved
loop-key-preserved c =
    let s = c.args.table.now in
    let t = c.loop-key.table in
    let f = facts s in
    let key = c.in-Some.key in
    let n = c.loop-key.from in
    let i = c.loop-key.invariant in
    let l : key < keys f = in_setting s t key i.follows c.in-Some.ensures.within in
    let stays : (w k : ℕ) → n ≤ k → k < key → holds f w k ≡ true → need f k ≡ true = λ w k a b e. c.requires.copies w k (omega (arith, l, b)) (passed s t n key k i.follows c.in-Some.ensures.first a b) e in
    let g = i.facts ∙ has_over (need f) f n key c.in-Some.ensures.first.0 stays in
    let p : need (facts t) key ≡ need f key = ap (λ (z : Facts). need z key) g ∙ need_has f key c.sound.ensures key in
    record {
      facts = c.in_ok-drop_key.ensures.facts ∙ ap (λ (z : Facts). held_nowhere (need (facts t) key) z key) g ∙ has_more (need f) f key (need (facts t) key) p;
      lost = lost_copies_more (need f) f key (need (facts t) key) (has_pair c.args.lost.now) (has_pair c.loop-key.lost) (has_pair c.drop_key.new.lost) p
          (λ w k. i.lost w k ∙ ap (λ b. has_pair c.args.lost.now w k || b) (lost_over (holds f w k) (need f k) k n key c.in-Some.ensures.first.0 (stays w k)))
          (λ w j. c.in_ok-drop_key.ensures.lost w j ∙ ap (λ (z : Facts). has_pair c.loop-key.lost w j || (holds z w j && (eqb j key && not (need (facts t) key)))) g);
      follows = follows_then s t c.drop_key.new.table i.follows c.drop_key.ensures.follows;
      within = omega (arith, l);
    }

pub returns-clause-facts : goal.returns-clause-facts
returns-clause-facts c =
    let s = c.args.table.now in
    let t = c.loop-key.table in
    let f = facts s in
    let n = c.loop-key.from in
    c.loop-key.invariant.facts ∙ has_over (need f) f n (n + keys f) (le-add_right n (keys f)) (λ w k a b e. copy_there f w k c.sound.ensures e (λ l. c.requires.copies w k l (passed_all s t n k c.loop-key.invariant.follows c.in_default.ensures.first a) e)) ∙ has_all f (n + keys f) c.sound.ensures (omega arith)

pub returns-clause-lost : goal.returns-clause-lost
returns-clause-lost c w k =
    let s = c.args.table.now in
    let t = c.loop-key.table in
    let f = facts s in
    let n = c.loop-key.from in
    c.loop-key.invariant.lost w k
    ∙ ap (λ b. has_pair c.args.lost.now w k || b) (lost_over (holds f w k) (need f k) k n (n + keys f) (le-add_right n (keys f)) (λ a b e. copy_there f w k c.sound.ensures e (λ l. c.requires.copies w k l (passed_all s t n k c.loop-key.invariant.follows c.in_default.ensures.first a) e)))
    ∙ lost_all (has_pair c.args.lost.now w k) (holds f w k) (need f k) k (n + keys f) (keys f) (omega arith) (λ h. ap is_some (c.sound.ensures.has w k h))
