-- The facts that the tests ask about: five keys, three workers of one thread, and nobody who wants anything.
use Rattle.std.specs.Prelude.{◌==◌, nat_le, Bool, false, ◌&&◌, ◌||◌, [], ◌∷◌, Some, None, cond}
use Rattle.cluster_msgs.specs.Shape.{Shape}
use Rattle.cluster_rules.specs.Sched.{Facts, sched_opening}

-- key 1 depends on key 0
abbrev pub small_shape : Shape
small_shape = record {
  deps = [] ∷ (0 ∷ []) ∷ [] ∷ [] ∷ [] ∷ [];
  work = 10 ∷ 100 ∷ 100 ∷ 300 ∷ 10 ∷ [];
  nbytes = 110 ∷ 8 ∷ 8 ∷ 8 ∷ 8 ∷ [];
}

-- where `given`, keys 1 to 3 are on worker 1, and where `asked` besides, key 1 is to be stolen. Worker 1 holds key 0, worker 3 holds key 4, and where `copied` also key 0
unfoldable pub small_facts : Bool → Bool → Bool → Facts
small_facts given asked copied = record (sched_opening (record { shape = small_shape; clients = 1; saturation = 11; allowed = None })) {
  has = λ w k. cond (k == 0 && (w == 1 || (copied && w == 3))) (Some 1) (cond (k == 4 && w == 3) (Some 2) None);
  on = λ k. cond (given && (nat_le 1 k && nat_le k 3)) (Some (1, k)) None;
  steal = λ k. cond (given && (asked && k == 1)) (Some (2, false)) None;
  threads = λ w. cond (nat_le 1 w && nat_le w 3) (Some 1) None;
  last_worker = 3;
  counter = 4;
}
