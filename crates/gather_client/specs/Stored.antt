-- The facts of a client as they are kept, in rows by key, and what the rows mean.
use Rattle.std.specs.Prelude.{◌≡◌, ℕ, Bool, false, List, [], Option, None, length}
use Rattle.cluster_msgs.specs.Shape.{Shape, key_count, IsShape}
use Rattle.cluster_rules.specs.Worker.{Ask}
use Rattle.cluster_rules.specs.Client.{ClientFacts}
use Rattle.fact_rows.specs.Rows.{read}

pub record Stored : Type 0 where
  pub shape : Shape
  pub wants : List Bool
  pub located : List (List (ℕ × ℕ))
  pub asks : List Ask
  pub got : List Bool
  pub failed : List (Option ℕ)
  pub next_ask : ℕ

-- what the rows mean
unfoldable pub facts_of : Stored → ClientFacts
facts_of s = record {
  shape = s.shape;
  wants = read s.wants false;
  located = read s.located [];
  asks = s.asks;
  got = read s.got false;
  failed = read s.failed None;
  next_ask = s.next_ask;
}

-- each row has a member for each key
pub record IsStored (s : Stored) : Type 0 where
  pub shape : IsShape s.shape
  pub wants : length s.wants ≡ key_count s.shape
  pub located : length s.located ≡ key_count s.shape
  pub got : length s.got ≡ key_count s.shape
  pub failed : length s.failed ≡ key_count s.shape
