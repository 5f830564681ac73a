-- The rows that are derived from the facts.
use Rattle.std.specs.Prelude.{◌≡◌, ℕ, ◌<◌, false, List, [], ◌∷◌, Option, None, length}
use Rattle.std.specs.Option.{option_or}
use Rattle.fact_rows.specs.Rows.{read}
use Rattle.cluster_rules.specs.Sched.{Facts, keys, known, need, ready, blame, open_key, waiters}
use Rattle.sched_facts.specs.declared.derived.DerivedRows.{DerivedRows}

-- each row has a member for each key
pub record IsSized (n : ℕ) (r : DerivedRows) : Type 0 where
  pub known_row : length r.known ≡ n
  pub blame_row : length r.blame ≡ n
  pub open_row : length r.open_keys ≡ n
  pub need_row : length r.need ≡ n
  pub ready_row : length r.ready ≡ n
  pub waiter_row : length r.waiters ≡ n

-- the rows say of these facts what is derived from them
pub record IsDerived (f : Facts) (r : DerivedRows) : Type 0 where
  pub is_known : read r.known false ≡ known f
  pub is_blamed : read r.blame None ≡ blame f
  pub is_open : (k : ℕ) → k < keys f → read r.open_keys false k ≡ open_key f k
  pub is_needed : read r.need false ≡ need f
  pub is_ready : read r.ready false ≡ ready f
  pub waits : read r.waiters 0 ≡ waiters f

-- the first that there is
abbrev pub first_some : (ℕ → Option ℕ) → List ℕ → Option ℕ
first_some r [] = None
first_some r (k ∷ ks) = option_or (r k) (first_some r ks)
