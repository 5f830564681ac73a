-- The scheduler's facts as they are kept, in rows, and what they mean.
use Rattle.std.specs.Prelude.{◌≡◌, ℕ, ◌<◌, ◌≤◌, Bool, false, List, Option, None, length}
use Rattle.cluster_msgs.specs.Shape.{key_count, IsShape}
use Rattle.cluster_rules.specs.Sched.{Setting, Facts}
use Rattle.fact_rows.specs.Rows.{read, cell, width, height}

-- a row by key or by worker, and a grid by client or worker and by key
pub record Stored : Type 0 where
  pub setting : Setting
  pub want : ℕ × List (List Bool)
  pub has : ℕ × List (List (Option ℕ))
  pub on : List (Option (ℕ × ℕ))
  pub steal : List (Option (ℕ × Bool))
  pub bad : List Bool
  pub losses : List ℕ
  pub threads : List (Option ℕ)
  pub sent : List ℕ
  pub fence : ℕ × List (List ℕ)
  pub room : ℕ
  pub last_worker : ℕ
  pub counter : ℕ
  pub finishes : ℕ

-- what the rows mean
unfoldable pub facts_of : Stored → Facts
facts_of s = record {
  setting = s.setting;
  want = cell s.want false;
  has = cell s.has None;
  on = read s.on None;
  steal = read s.steal None;
  bad = read s.bad false;
  losses = read s.losses 0;
  threads = read s.threads None;
  sent = read s.sent 0;
  fence = cell s.fence 0;
  last_worker = s.last_worker;
  counter = s.counter;
  finishes = s.finishes;
}

-- there is a row for each client and for as many workers as there is room for, with a member for each key. The row 0 stands for nobody
pub record IsStored (s : Stored) : Type 0 where
  pub shape : IsShape s.setting.shape
  pub clients : s.setting.clients < height s.want
  pub wants : width s.want ≡ key_count s.setting.shape
  pub copies : width s.has ≡ key_count s.setting.shape
  pub places : length s.on ≡ key_count s.setting.shape
  pub steals : length s.steal ≡ key_count s.setting.shape
  pub faults : length s.bad ≡ key_count s.setting.shape
  pub counts : length s.losses ≡ key_count s.setting.shape
  pub fences : width s.fence ≡ key_count s.setting.shape
  pub last : s.last_worker ≤ s.room
  pub threads : s.room < length s.threads
  pub sent : s.room < length s.sent
  pub has_each : s.room < height s.has
  pub fence_each : s.room < height s.fence
