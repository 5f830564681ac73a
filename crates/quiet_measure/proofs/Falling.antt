-- An event that leaves the scheduler alone and adds no disturbance lowers the measure where it lowers the sum over the links.
use Rattle.std.proofs.Common.{◌≡◌, ℕ, ◌+◌, ◌≤◌, ◌<◌, ap, arith}
use Rattle.cluster_rules.specs.Sched.{Facts}
use Rattle.cluster_rules.specs.World.{World}
use Rattle.quiet_measure.specs.Measure.{deaths, disturbances, links_weight, sched_weight, measure, measure_at}
use Rattle.quiet_measure.specs.Measure.{Falls}
use Rattle.quiet_measure.proofs.Rising.{measure_rises}

pub same_most : (n m : ℕ) → n ≡ m → n ≤ m
same_most n m e = omega arith

pub falls : (w v : World) → v.sched ≡ w.sched → disturbances v ≤ disturbances w
    → links_weight (deaths w.sched (disturbances w)) v + 1 ≤ links_weight (deaths w.sched (disturbances w)) w → Falls w v
unfolding measure measure_at
falls w v e b l = record { disturbances = b; measure = less }
  where
    n : ℕ
    n = disturbances w

    here : measure_at n v ≡ sched_weight w.sched n + links_weight (deaths w.sched n) v
    here = ap (λ (f : Facts). sched_weight f n + links_weight (deaths f n) v) e

    less : measure v < measure w
    less = omega (arith, measure_rises v (disturbances v) n b, here, l)
