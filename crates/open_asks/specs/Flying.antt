-- The row of the keys that are asked for.
use Rattle.std.specs.Prelude.{◌≡◌, ◌==◌, ◌&&◌, ℕ, Bool, false, List}
use Rattle.cluster_rules.specs.Worker.{Ask, names_key, is_asked_for}
use Rattle.fact_rows.specs.Rows.{read}

-- a key is marked where an ask names it
pub record IsMarked (row : List Bool) (asks : List Ask) : Type 0 where
  pub flying : (k : ℕ) → read row false k ≡ is_asked_for asks k

-- the ask is to this peer, and names the key
abbrev pub names_to : ℕ → ℕ → Ask → Bool
names_to p k a = (a.peer == p) && names_key k a
