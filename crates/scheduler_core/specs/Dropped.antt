-- The parts of settling that take facts away, as far as they have come.
use Rattle.std.specs.Prelude.{ℕ, ◌==◌, nat_lt, nat_le, Bool, false, not, ◌&&◌, None, cond}
use Rattle.cluster_rules.specs.Sched.{Facts}

-- the key is not bad and has no losses, unless it passes
abbrev pub forgiven : Bool → Facts → ℕ → Facts
forgiven passes f k = record f { bad = λ j. cond (j == k && not passes) false (f.bad j); losses = λ j. cond (j == k && not passes) 0 (f.losses j) }

-- the keys below n that do not pass are no longer bad, and have no losses
unfoldable pub bad_below : (ℕ → Bool) → Facts → ℕ → Facts
bad_below passes f n = record f { bad = λ k. cond (nat_lt k n && not (passes k)) false (f.bad k); losses = λ k. cond (nat_lt k n && not (passes k)) 0 (f.losses k) }

-- the workers up to m no longer hold the key
unfoldable pub copies_up_to : ℕ → Facts → ℕ → Facts
copies_up_to k f m = record f { has = λ w j. cond (j == k && (nat_le 1 w && nat_le w m)) None (f.has w j) }

-- the keys below n that do not pass are held nowhere
unfoldable pub has_below : (ℕ → Bool) → Facts → ℕ → Facts
has_below passes f n = record f { has = λ w k. cond (nat_lt k n && not (passes k)) None (f.has w k) }

-- the keys below n that do not pass are on no worker
unfoldable pub on_below : (ℕ → Bool) → Facts → ℕ → Facts
on_below passes f n = record f {
  on = λ k. cond (nat_lt k n && not (passes k)) None (f.on k);
  steal = λ k. cond (nat_lt k n && not (passes k)) None (f.steal k);
}

-- the key is held nowhere, unless it passes
abbrev pub held_nowhere : Bool → Facts → ℕ → Facts
held_nowhere passes f k = record f { has = λ w j. cond (j == k && not passes) None (f.has w j) }

-- the key is on no worker, unless it passes
abbrev pub placed_nowhere : Bool → Facts → ℕ → Facts
placed_nowhere passes f k = record f { on = λ j. cond (j == k && not passes) None (f.on j); steal = λ j. cond (j == k && not passes) None (f.steal j) }
