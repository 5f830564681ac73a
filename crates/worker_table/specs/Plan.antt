-- The sets of keys that are kept beside a worker's facts.
use Rattle.std.specs.Prelude.{◌≡◌, ℕ, ◌≤◌, true, false}
use Rattle.key_sets.specs.Sets.{has, room}
use Rattle.worker_table.specs.Parts.{Parts, ready_of, fetch_of, unasked_of}
use Rattle.worker_table.specs.declared.plan.Plan.{Plan}

-- a key of these parts is in the sets that it belongs to, and in no other
pub record IsAt (q : Parts) (p : Plan) (k : ℕ) : Type 0 where
  pub runs : has p.runs k ≡ q.running
  pub ready : has p.ready k ≡ ready_of q
  pub fetch : has p.fetch k ≡ fetch_of q
  pub unasked : has p.unasked k ≡ unasked_of q

-- the parts of a key that is in no set
abbrev pub nothing : Parts
nothing = record { here = true; running = false; flying = false; given = false; sought = false; awaited = false; fed = false; known = false; asked = false }

-- no set has the key
abbrev pub IsNowhere : Plan → ℕ → Type 0
IsNowhere p k = IsAt nothing p k

-- each set has room for this many keys
pub record HasRoom (n : ℕ) (p : Plan) : Type 0 where
  pub runs : n ≤ room p.runs
  pub ready : n ≤ room p.ready
  pub fetch : n ≤ room p.fetch
  pub unasked : n ≤ room p.unasked
