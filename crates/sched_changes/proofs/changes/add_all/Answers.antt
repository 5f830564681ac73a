use Rattle.std.proofs.Common.{◌<◌, ◌+◌, ◌∙◌, ℕ, Option, is_some, subst, sym, ap, arith, get_or, take, length}
use Rattle.std.proofs.lemmas.List.{take_more}
use Rattle.std.proofs.Math.Nat.{le_refl}
use Rattle.cluster_rules.specs.Sched.{Facts, Setting, keys}
use Rattle.cluster_rules.specs.SchedTable.{Changed, add_key, add_keys}
use Rattle.task_table.specs.Tasks.{facts}
use Rattle.sched_changes.specs.Pairs.{so_far}
use Rattle.sched_changes.proofs.ChangeLemmas.{IsAdded, added_self, added_then, added_one, add_push, add_none, added_room}
use Rattle.sched_changes.proofs.Following.{follows_self, follows_then}
use Rattle.sched_changes.proofs.changes.add_all.Goals as goal

pub loop-key-init : goal.loop-key-init
loop-key-init c = let f = facts c.args.table.now in record { change = add_none c.args.worker c.args.seen (so_far f c.args.freed.now) c.args.added.now; follows = follows_self c.args.table.now; kept = added_self f c.args.worker (keys f) }

same_keys : (f g : Facts) (w n x : ℕ) → IsAdded f g w n → x < keys f → x < keys g
same_keys f g w n x p l = subst (λ (z : Setting). x < length z.shape.deps) (sym p.setting) l

pub add-requires : goal.add-requires
add-requires c =
    let f = facts c.args.table.now in
    let g = facts c.loop-key.table in
    record {
      worker = ap (λ (t : ℕ → Option ℕ). is_some (t c.args.worker)) c.loop-key.invariant.kept.threads ∙ c.requires.worker;
      key = same_keys f g c.args.worker (keys f) (get_or c.args.added.now c.loop-key.key-index 0) c.loop-key.invariant.kept (c.requires.keys c.loop-key.key-index 0 (omega arith));
      room = omega (arith, added_room f g c.args.worker (keys f) (f.counter + keys f) c.loop-key.invariant.kept (le_refl (f.counter + keys f)), c.requires.room);
    }

pub loop-key-preserved : goal.loop-key-preserved
loop-key-preserved c =
    let f = facts c.args.table.now in
    let g = facts c.loop-key.table in
    let w = c.args.worker in
    let x = get_or c.args.added.now c.loop-key.key-index 0 in
    record {
      change = c.in_ok-add.ensures.change ∙ ap (λ (z : Changed). add_key w c.args.seen z x) c.loop-key.invariant.change ∙ sym (ap (add_keys w c.args.seen (so_far f c.args.freed.now)) (take_more c.args.added.now c.loop-key.key-index 0 (omega arith)) ∙ add_push w c.args.seen (so_far f c.args.freed.now) (take c.loop-key.key-index c.args.added.now) x);
      follows = follows_then c.args.table.now c.loop-key.table c.add.new.table c.loop-key.invariant.follows c.add.ensures.follows;
      kept = added_then f g (facts c.add.new.table) w (keys f) c.loop-key.invariant.kept (subst (λ (z : Facts). IsAdded g z w (keys f)) (sym (ap (λ (z : Changed). z.facts) c.in_ok-add.ensures.change)) (added_one g c.loop-key.freed w c.args.seen x (keys f) (c.requires.keys c.loop-key.key-index 0 (omega arith))));
    }

pub returns-in_err-add-clause-follows : goal.returns-in_err-add-clause-follows
returns-in_err-add-clause-follows c = follows_then c.args.table.now c.loop-key.table c.add.new.table c.loop-key.invariant.follows c.add.ensures.follows
