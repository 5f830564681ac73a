-- The bound over counts that a world tells, its messages held at a greatest number.
use Rattle.std.proofs.Common.{◌≡◌, ℕ, ◌-◌, ◌^◌, ◌≤◌, ◌<◌, min, refl, sym, ap, ◌∙◌, arith, ⊎_elim}
use Rattle.std.specs.Prelude.{nat_le, max}
use Rattle.std.proofs.Math.Nat.{min-eq_left, min-eq_right, le_refl}
use Rattle.std.proofs.lemmas.Bool.{cases_lt, le-leb}
use Rattle.cluster_msgs.specs.Shape.{Shape, key_count, edge_count}
use Rattle.cluster_rules.specs.Sched.{Setting}
use Rattle.cluster_rules.specs.World.{World, shape_of, under_way, worker_count, quiet_bound, rest_of, rest}
use Rattle.cluster_world.specs.declared.state.State.{State}
use Rattle.cluster_nodes.specs.Nodes.{world_of}
use Rattle.cluster_world.specs.Worlds.{world, setting}

-- the formula by a number of messages that is held at this top
held : (u top c w k e : ℕ) → rest_of (nat_le top (min u top)) (quiet_bound c (min u top) w k e) ≡ rest_of (nat_le top u) (quiet_bound c u w k e)
held u top c w k e = ⊎_elim below above (cases_lt u top)
  where
    below : u < top → rest_of (nat_le top (min u top)) (quiet_bound c (min u top) w k e) ≡ rest_of (nat_le top u) (quiet_bound c u w k e)
    below h = ap (λ m. rest_of (nat_le top m) (quiet_bound c m w k e)) (min-eq_left (let q : u < top = h in omega (arith, q)))

    spent : (m : ℕ) → top ≤ m → rest_of (nat_le top m) (quiet_bound c m w k e) ≡ 2 ^ 128 - 1
    spent m h = ap (λ b. rest_of b (quiet_bound c m w k e)) (le-leb top m h)

    above : top ≤ u → rest_of (nat_le top (min u top)) (quiet_bound c (min u top) w k e) ≡ rest_of (nat_le top u) (quiet_bound c u w k e)
    above h = ap (λ m. rest_of (nat_le top m) (quiet_bound c m w k e)) (min-eq_right h) ∙ spent top (le_refl top) ∙ sym (spent u h)

pub rest-is : (w : World) (g : Shape) (clients m workers k e : ℕ) → g ≡ w.sched.setting.shape → k ≡ key_count g → e ≡ edge_count g → clients ≡ w.sched.setting.clients → m ≡ min (under_way w) (2 ^ 64 - 1) → workers ≡ worker_count w
    → rest_of (nat_le (2 ^ 64 - 1) m) (quiet_bound (max 1 clients) m workers k e) ≡ rest w
unfolding rest
rest-is w g clients m workers k e eg ek ee ec em ew =
    ap (λ n. rest_of (nat_le (2 ^ 64 - 1) n) (quiet_bound (max 1 clients) n workers k e)) em
    ∙ held (under_way w) (2 ^ 64 - 1) (max 1 clients) workers k e
    ∙ (λ i. rest_of (nat_le (2 ^ 64 - 1) (under_way w)) (quiet_bound (max 1 (ec i)) (under_way w) (ew i) ((ek ∙ ap key_count eg) i) ((ee ∙ ap edge_count eg) i)))

-- the setting of a world is its scheduler's
pub setting-world : {J B F : Type 0} (s : State J B F) → (world s).sched.setting ≡ setting s
unfolding world_of
setting-world s = refl

-- the formula with nothing under way
pub rest-starved : (g : Shape) (s : Setting) (w : World) (clients m workers k e : ℕ) → g ≡ s.shape → k ≡ key_count g → e ≡ edge_count g → clients ≡ s.clients → m ≡ 0 → workers ≡ worker_count w
    → rest_of (nat_le (2 ^ 64 - 1) m) (quiet_bound (max 1 clients) m workers k e) ≡ min (quiet_bound (max 1 s.clients) 0 (worker_count w) (key_count s.shape) (edge_count s.shape)) (2 ^ 128 - 1)
rest-starved g s w clients m workers k e eg ek ee ec em ew =
    (λ i. rest_of (nat_le (2 ^ 64 - 1) (em i)) (quiet_bound (max 1 (ec i)) (em i) (ew i) ((ek ∙ ap key_count eg) i) ((ee ∙ ap edge_count eg) i)))
