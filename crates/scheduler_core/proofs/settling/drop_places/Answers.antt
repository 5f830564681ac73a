use Rattle.std.proofs.Common.{◌≡◌, ◌<◌, ◌≤◌, ◌+◌, ◌&&◌, ◌||◌, ℕ, Bool, true, not, ap, ◌∙◌, arith, is_some}
use Rattle.std.proofs.Math.Dec.{eqb}
use Rattle.std.proofs.Math.Nat.{le-add_right}
use Rattle.cluster_rules.specs.Sched.{Facts, keys, ready, is_on, is_for}
use Rattle.task_table.specs.Tasks.{facts}
use Rattle.sched_changes.specs.Pairs.{has_pair}
use Rattle.sched_changes.proofs.Following.{follows_self, follows_then}
use Rattle.scheduler_core.specs.Dropped.{placed_nowhere}
use Rattle.scheduler_core.proofs.DropLemmas.{on_none, on_more, on_all, lost_places_more, lost_none, lost_all}
use Rattle.scheduler_core.proofs.WalkLemmas.{passed, passed_all, on_over, lost_over, ready_on, in_setting, place_there, is_placed}
use Rattle.scheduler_core.proofs.settling.drop_places.Goals as goal

pub loop-key-init : goal.loop-key-init
loop-key-init c = let f = facts c.args.table.now in record { facts = on_none (ready f) f; lost = λ w k. lost_none (has_pair c.args.lost.now w k) (is_on f w k) (ready f k) k; follows = follows_self c.args.table.now; within = omega arith }

pub loop-key-preserved : goal.loop-key-preserved
loop-key-preserved c =
    let s = c.args.table.now in
    let t = c.loop-key.table in
    let f = facts s in
    let key = c.in-Some.key in
    let n = c.loop-key.from in
    let i = c.loop-key.invariant in
    let l : key < keys f = in_setting s t key i.follows c.in-Some.ensures.within in
    let stays : (k : ℕ) → n ≤ k → k < key → is_some (f.on k) ≡ true → ready f k ≡ true = λ k a b e. c.requires.places k (omega (arith, l, b)) (passed s t n key k i.follows c.in-Some.ensures.first a b) e in
    let g = i.facts ∙ on_over (ready f) f n key c.sound.ensures c.in-Some.ensures.first.0 stays in
    let p : ready (facts t) key ≡ ready f key = ap (λ (z : Facts). ready z key) g ∙ ap (λ (r : ℕ → Bool). r key) (ready_on (ready f) f key) in
    record {
      facts = c.in_ok-drop_place.ensures.facts ∙ ap (λ (z : Facts). placed_nowhere (ready (facts t) key) z key) g ∙ on_more (ready f) f key (ready (facts t) key) p;
      lost = lost_places_more (ready f) f key (ready (facts t) key) (has_pair c.args.lost.now) (has_pair c.loop-key.lost) (has_pair c.drop_place.new.lost) p
          (λ w k. i.lost w k ∙ ap (λ b. has_pair c.args.lost.now w k || b) (lost_over (is_on f w k) (ready f k) k n key c.in-Some.ensures.first.0 (λ a b e. stays k a b (is_placed f w k e))))
          (λ w j. c.in_ok-drop_place.ensures.lost w j ∙ ap (λ (z : Facts). has_pair c.loop-key.lost w j || (is_on z w j && (eqb j key && not (ready (facts t) key)))) g);
      follows = follows_then s t c.drop_place.new.table i.follows c.drop_place.ensures.follows;
      within = omega (arith, l);
    }

pub returns-clause-facts : goal.returns-clause-facts
returns-clause-facts c =
    let s = c.args.table.now in
    let t = c.loop-key.table in
    let f = facts s in
    let n = c.loop-key.from in
    c.loop-key.invariant.facts ∙ on_over (ready f) f n (n + keys f) c.sound.ensures (le-add_right n (keys f)) (λ k a b e. place_there f k c.sound.ensures e (λ l. c.requires.places k l (passed_all s t n k c.loop-key.invariant.follows c.in_default.ensures.first a) e)) ∙ on_all f (n + keys f) c.sound.ensures (omega arith)

pub returns-clause-lost : goal.returns-clause-lost
returns-clause-lost c w k =
    let s = c.args.table.now in
    let t = c.loop-key.table in
    let f = facts s in
    let n = c.loop-key.from in
    c.loop-key.invariant.lost w k
    ∙ ap (λ b. has_pair c.args.lost.now w k || b) (lost_over (is_on f w k) (ready f k) k n (n + keys f) (le-add_right n (keys f)) (λ a b e. place_there f k c.sound.ensures (is_placed f w k e) (λ l. c.requires.places k l (passed_all s t n k c.loop-key.invariant.follows c.in_default.ensures.first a) (is_placed f w k e))))
    ∙ lost_all (has_pair c.args.lost.now w k) (is_on f w k) (ready f k) k (n + keys f) (keys f) (omega arith) (λ h. ap (is_for w) (c.sound.ensures.on k h))
