-- What is read off the facts of one key: whether it could start, is to be fetched, or is to be asked about.
use Rattle.std.specs.Prelude.{ℕ, Bool, not, ◌&&◌, ◌||◌, is_some}
use Rattle.cluster_rules.specs.Worker.{WorkerFacts, flying, awaited, is_fed, has_any}

-- the facts of one key that its state is read off
pub record Parts : Type 0 where
  pub here : Bool  -- its block is held
  pub running : Bool
  pub flying : Bool
  pub given : Bool
  pub sought : Bool
  pub awaited : Bool
  pub fed : Bool
  pub known : Bool  -- some worker is known to hold it
  pub asked : Bool

abbrev pub parts : WorkerFacts → ℕ → Parts
parts w k = record {
  here = w.mem k;
  running = w.running k;
  flying = flying w k;
  given = is_some (w.mine k);
  sought = w.sought k;
  awaited = awaited w k;
  fed = is_fed w k;
  known = has_any (w.holders k);
  asked = w.asked k;
}

-- a task that could start
abbrev pub ready_of : Parts → Bool
ready_of q = not q.here && (not q.running && (not q.flying && (q.given && q.fed)))

abbrev pub wanted_of : Parts → Bool
wanted_of q = not q.here && (q.sought || q.awaited)

-- a key to fetch from one who holds it
abbrev pub fetch_of : Parts → Bool
fetch_of q = not q.here && (not q.running && (not q.flying && (not q.given && (wanted_of q && q.known))))

-- a wanted key that nobody is known to hold
abbrev pub missing_of : Parts → Bool
missing_of q = not q.here && (not q.running && (not q.flying && (not q.given && (wanted_of q && not q.known))))

-- the same, and the scheduler wasn't asked for its holders
abbrev pub unasked_of : Parts → Bool
unasked_of q = missing_of q && not q.asked
