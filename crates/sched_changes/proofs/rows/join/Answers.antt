use Rattle.std.proofs.Common.{◌≡◌, ◌<◌, ℕ, length, subst, sym, arith}
use Rattle.cluster_rules.specs.Sched.{Facts, workers}
use Rattle.task_table.specs.Tasks.{facts}
use Rattle.sched_changes.proofs.rows.join.Goals as goal

below : (f g : Facts) → g ≡ f → f.last_worker < 1024 → g.last_worker < 1024
below f g e h = subst (λ (z : Facts). z.last_worker < 1024) (sym e) h

pub overflow_add-number : goal.overflow_add-number
overflow_add-number c =
    let l = below (facts c.args.table.now) (facts c.make_room.new.self) c.make_room.ensures.facts c.requires.numbers in
    let r : c.last_worker-number.result < 1024 = subst (λ (n : ℕ). n < 1024) (sym c.last_worker-number.ensures) l in
    omega (arith, r)

pub make-requires : goal.make-requires
make-requires c = record {
  room = c.in_ok-make_room.ensures.room;
  least = c.requires.threads.0;
  most = c.requires.threads.1;
  workers = subst (λ (z : Facts). length (workers z) < 64) (sym c.make_room.ensures.facts) c.requires.workers;
  numbers = below (facts c.args.table.now) (facts c.make_room.new.self) c.make_room.ensures.facts c.requires.numbers;
}
