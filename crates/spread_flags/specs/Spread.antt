-- Flags that spread along links, as they are stored.
use Rattle.std.specs.Prelude.{◌≡◌, ℕ, ◌<◌, ◌≤◌, Bool, false, not, ◌&&◌, ◌||◌, nat_lt, List, [], length, slice_index_or, cond}
use Rattle.std.specs.List.{list_any, AllByRecursion}
use Rattle.std.specs.List.Sorted.{IsStrictlyIncreasing}
use Rattle.fact_rows.specs.Rows.{read}
use Rattle.cluster_rules.specs.Functions.{count}
use Rattle.cluster_rules.specs.Derived.{below, is_in}
use Rattle.key_sets.specs.Sets.{has, room}

-- the links of each key, its two facts, its flag, the number of flagged keys that lead to it, the keys to be looked at, and those whose flag changed
pub record Spread : Type 0 where
  pub links : List (List ℕ)
  pub seeds : List Bool
  pub gates : List Bool
  pub flags : List Bool
  pub counts : List ℕ
  pub stale : List ℕ
  pub changed : List ℕ

-- how many keys there are
abbrev pub size : Spread → ℕ
size s = length s.links

-- the keys that a key leads to
abbrev pub targets : Spread → ℕ → List ℕ
targets s k = slice_index_or s.links k []

abbrev pub seed : Spread → ℕ → Bool
seed s k = read s.seeds false k

abbrev pub gate : Spread → ℕ → Bool
gate s k = read s.gates false k

abbrev pub flag : Spread → ℕ → Bool
flag s k = read s.flags false k

-- how many flagged keys lead to the key
abbrev pub leaders : Spread → ℕ → ℕ
leaders s k = read s.counts 0 k

-- the flag that a key is due: its gate is open, and it is a seed or a flagged key leads to it
abbrev pub due : Spread → ℕ → Bool
due s k = gate s k && (seed s k || nat_lt 0 (leaders s k))

-- some of these keys is flagged and leads to the key
abbrev pub led_to : (ℕ → List ℕ) → ℕ → (ℕ → Bool) → ℕ → Bool
led_to out n p k = list_any (λ j. is_in k (out j) && p j) (below n)

-- the flag as it was when the changes were last forgotten
abbrev pub was : Spread → ℕ → Bool
was s k = cond (has s.changed k) (not (flag s k)) (flag s k)

-- flags spread from the seeds along links, through open gates: a key is flagged exactly where its gate is open and it is a seed or a flagged key leads to it
abbrev pub IsSpread : (ℕ → List ℕ) → ℕ → (ℕ → Bool) → (ℕ → Bool) → (ℕ → Bool) → Type 0
IsSpread out n seeds gates flags = (k : ℕ) → k < n → flags k ≡ (gates k && (seeds k || led_to out n flags k))

-- the links of keys: each leads to keys that are there, each once
pub record IsLinked (links : List (List ℕ)) : Type 0 where
  pub few : length links ≤ 32768
  pub within : (k : ℕ) → AllByRecursion (λ d. d < length links) (slice_index_or links k [])
  pub rising : (k : ℕ) → IsStrictlyIncreasing (slice_index_or links k [])

-- what is kept: the counts are those of the flags, and each key that is not to be looked at has the flag that it is due
pub record IsKept (s : Spread) : Type 0 where
  pub linked : IsLinked s.links
  pub seed_row : length s.seeds ≡ size s
  pub gate_row : length s.gates ≡ size s
  pub flag_row : length s.flags ≡ size s
  pub count_row : length s.counts ≡ size s
  pub stale_room : size s ≤ room s.stale
  pub changed_room : size s ≤ room s.changed
  pub stale : (k : ℕ) → size s ≤ k → has s.stale k ≡ false
  pub changed : (k : ℕ) → size s ≤ k → has s.changed k ≡ false
  pub counted : (k : ℕ) → leaders s k ≡ count (λ j. is_in k (targets s j) && flag s j) (below (size s))
  pub fresh : (k : ℕ) → k < size s → has s.stale k ≡ false → flag s k ≡ due s k
