-- The small worlds of the scheduler's rows.
use Rattle.std.specs.Prelude.{ℕ, ◌==◌, Bool, true, false, List, [], ◌∷◌, Option, Some, None, cond}
use Rattle.cluster_msgs.specs.declared.messages.Up.TheVariants.{TaskFinished, StealResponse}
use Rattle.cluster_msgs.specs.declared.messages.FromClient.TheVariants.{Want, Release}
use Rattle.cluster_msgs.specs.declared.cores.SchedEvent.{SchedEvent}
use Rattle.cluster_msgs.specs.declared.cores.SchedEvent.TheVariants.{Join, FromWorker, FromClient, Balance}
use Rattle.cluster_rules.specs.Sched.{Setting, Facts}
use Rattle.cluster_rules.specs.SchedTable.{sched_takes}
use Rattle.cluster_rules.specs.SchedStep.{Stepped, sched_step}
use Rattle.cluster_rows.specs.Talk.{WorkerRow, Table, facts_of}

-- three keys without dependencies, 80 bytes each, one client, saturation 11
abbrev pub three_keys : Setting
three_keys = record { shape = record { deps = [] ∷ [] ∷ [] ∷ []; work = 80 ∷ 80 ∷ 80 ∷ []; nbytes = 80 ∷ 80 ∷ 80 ∷ [] }; clients = 1; saturation = 11; allowed = None }

-- all three are wanted, two workers of one thread join, worker 2 ends its key, and worker 1 is asked for its keys
abbrev pub theft : List SchedEvent
theft =
    FromClient 1 (Want (0 ∷ 1 ∷ 2 ∷ []))
    ∷ Join 1
    ∷ Join 1
    ∷ FromWorker 2 (TaskFinished 1 2 3)
    ∷ Balance
    ∷ FromWorker 1 (StealResponse 3 0 1 false)
    ∷ Balance
    ∷ FromWorker 1 (StealResponse 4 1 2 true)
    ∷ []

-- all three are wanted, and worker 1 alone ends them in order; worker 2 joins; key 2 is released, wanted again, and ended by worker 2
abbrev pub wanted_again : List SchedEvent
wanted_again =
    FromClient 1 (Want (0 ∷ 1 ∷ 2 ∷ []))
    ∷ Join 1
    ∷ FromWorker 1 (TaskFinished 1 0 1)
    ∷ FromWorker 1 (TaskFinished 2 1 2)
    ∷ FromWorker 1 (TaskFinished 3 2 4)
    ∷ Join 1
    ∷ FromClient 1 (Release (2 ∷ []))
    ∷ FromClient 1 (Want (2 ∷ []))
    ∷ FromWorker 2 (TaskFinished 1 2 7)
    ∷ []

-- the facts then: worker 1 holds keys 0 and 1, and key 2 was taken away by its fourth message; worker 2 holds key 2
abbrev pub both_one : WorkerRow
both_one = record { threads = Some 1; has = Some 3 ∷ Some 5 ∷ None ∷ []; sent = 4; fence = 0 ∷ 0 ∷ 4 ∷ [] }

abbrev pub both_two : WorkerRow
both_two = record { threads = Some 1; has = None ∷ None ∷ Some 8 ∷ []; sent = 1; fence = 0 ∷ 0 ∷ 0 ∷ [] }

abbrev pub both_hold : Table
both_hold = record {
  want = (true ∷ true ∷ true ∷ []) ∷ [];
  workers = both_one ∷ both_two ∷ [];
  on = None ∷ None ∷ None ∷ [];
  steal = None ∷ None ∷ None ∷ [];
  bad = false ∷ false ∷ false ∷ [];
  losses = 0 ∷ 0 ∷ 0 ∷ [];
  counter = 9;
  finishes = 4;
}

-- one key without dependencies
abbrev pub one_key : Setting
one_key = record { shape = record { deps = [] ∷ []; work = 80 ∷ []; nbytes = 80 ∷ [] }; clients = 1; saturation = 11; allowed = None }

-- the key is wanted, two workers join, and worker 1 ends it
abbrev pub ended_by_one : List SchedEvent
ended_by_one = FromClient 1 (Want (0 ∷ [])) ∷ Join 1 ∷ Join 1 ∷ FromWorker 1 (TaskFinished 1 0 1) ∷ []

-- four keys without dependencies
abbrev pub four_keys : Setting
four_keys = record { shape = record { deps = [] ∷ [] ∷ [] ∷ [] ∷ []; work = 80 ∷ 80 ∷ 80 ∷ 80 ∷ []; nbytes = 80 ∷ 80 ∷ 80 ∷ 80 ∷ [] }; clients = 1; saturation = 11; allowed = None }

-- key 2 depends on key 0 and is wanted, as is key 1
abbrev pub replicas : Setting
replicas = record { shape = record { deps = [] ∷ [] ∷ (0 ∷ []) ∷ []; work = 80 ∷ 80 ∷ 80 ∷ []; nbytes = 80 ∷ 80 ∷ 80 ∷ [] }; clients = 1; saturation = 11; allowed = None }

-- three workers join, worker 1 ends key 0 and worker 2 key 1
abbrev pub three_holders : List SchedEvent
three_holders =
    Join 1
    ∷ Join 1
    ∷ Join 1
    ∷ FromClient 1 (Want (1 ∷ 2 ∷ []))
    ∷ FromWorker 1 (TaskFinished 1 0 1)
    ∷ FromWorker 2 (TaskFinished 1 1 2)
    ∷ []

-- key 1 depends on key 0, and key 2 on none; two clients
abbrev pub chain : Setting
chain = record { shape = record { deps = [] ∷ (0 ∷ []) ∷ [] ∷ []; work = 80 ∷ 80 ∷ 80 ∷ []; nbytes = 80 ∷ 80 ∷ 80 ∷ [] }; clients = 2; saturation = 11; allowed = None }

-- two workers of one thread join, client 1 wants keys 1 and 2, and worker 1 ends key 0
abbrev pub to_busy : List SchedEvent
to_busy = Join 1 ∷ Join 1 ∷ FromClient 1 (Want (1 ∷ 2 ∷ [])) ∷ FromWorker 1 (TaskFinished 1 0 1) ∷ []

-- the facts then: worker 1 holds key 0 and has key 1, worker 2 has key 2
abbrev pub busy_one : WorkerRow
busy_one = record { threads = Some 1; has = Some 3 ∷ None ∷ None ∷ []; sent = 2; fence = 0 ∷ 0 ∷ 0 ∷ [] }

abbrev pub busy_two : WorkerRow
busy_two = record { threads = Some 1; has = None ∷ None ∷ None ∷ []; sent = 1; fence = 0 ∷ 0 ∷ 0 ∷ [] }

abbrev pub busy : Table
busy = record {
  want = (false ∷ true ∷ true ∷ []) ∷ (false ∷ false ∷ false ∷ []) ∷ [];
  workers = busy_one ∷ busy_two ∷ [];
  on = None ∷ Some (1, 4) ∷ Some (2, 2) ∷ [];
  steal = None ∷ None ∷ None ∷ [];
  bad = false ∷ false ∷ false ∷ [];
  losses = 0 ∷ 0 ∷ 0 ∷ [];
  counter = 5;
  finishes = 1;
}

-- an event there
abbrev pub when_busy : SchedEvent → Stepped
when_busy e = sched_step (facts_of chain busy) e

-- an event that is not refused there
abbrev pub may_when_busy : SchedEvent → Bool
may_when_busy e = sched_takes (facts_of chain busy) e

-- worker 1 was asked for key 0, which worker 2 is to get
abbrev pub to_asked : List SchedEvent
to_asked =
    FromClient 1 (Want (0 ∷ 1 ∷ 2 ∷ []))
    ∷ Join 1
    ∷ Join 1
    ∷ FromWorker 2 (TaskFinished 1 2 3)
    ∷ Balance
    ∷ []

abbrev pub asked_one : WorkerRow
asked_one = record { threads = Some 1; has = None ∷ None ∷ None ∷ []; sent = 3; fence = 0 ∷ 0 ∷ 0 ∷ [] }

abbrev pub asked_two : WorkerRow
asked_two = record { threads = Some 1; has = None ∷ None ∷ Some 4 ∷ []; sent = 1; fence = 0 ∷ 0 ∷ 0 ∷ [] }

abbrev pub asked : Table
asked = record {
  want = (true ∷ true ∷ true ∷ []) ∷ [];
  workers = asked_one ∷ asked_two ∷ [];
  on = Some (1, 1) ∷ Some (1, 2) ∷ None ∷ [];
  steal = Some (2, false) ∷ None ∷ None ∷ [];
  bad = false ∷ false ∷ false ∷ [];
  losses = 0 ∷ 0 ∷ 0 ∷ [];
  counter = 5;
  finishes = 1;
}

-- the facts once the thief has left: nothing is on it or held by it
abbrev pub thief_gone : Table
thief_gone = record asked { workers = asked_one ∷ record asked_two { threads = None; has = None ∷ None ∷ None ∷ [] } ∷ [] }

abbrev pub when_asked : SchedEvent → Stepped
when_asked e = sched_step (facts_of three_keys asked) e

-- two keys with this work, of one byte each, both on worker 1; worker 2 is idle
abbrev pub two_tasks : ℕ → ℕ → Setting
two_tasks a b = record { shape = record { deps = [] ∷ [] ∷ []; work = a ∷ b ∷ []; nbytes = 1 ∷ 1 ∷ [] }; clients = 1; saturation = 11; allowed = None }

abbrev pub uneven : Table
uneven = record {
  want = (true ∷ true ∷ []) ∷ [];
  workers =
      record { threads = Some 1; has = None ∷ None ∷ []; sent = 2; fence = 0 ∷ 0 ∷ [] }
      ∷ record { threads = Some 1; has = None ∷ None ∷ []; sent = 0; fence = 0 ∷ 0 ∷ [] }
      ∷ [];
  on = Some (1, 1) ∷ Some (1, 2) ∷ [];
  steal = None ∷ None ∷ [];
  bad = false ∷ false ∷ [];
  losses = 0 ∷ 0 ∷ [];
  counter = 3;
  finishes = 0;
}

-- keys 0 and 1 are held, by worker 1 and worker 2; key 2 depends on both; key 3 depends on none
abbrev pub two_inputs : ℕ → ℕ → Setting
two_inputs a b = record { shape = record { deps = [] ∷ [] ∷ (0 ∷ 1 ∷ []) ∷ [] ∷ []; work = 80 ∷ 80 ∷ 80 ∷ 90 ∷ []; nbytes = a ∷ b ∷ 8 ∷ 8 ∷ [] }; clients = 1; saturation = 11; allowed = None }

abbrev pub apart : Option (ℕ × ℕ) → Table
apart place = record {
  want = (false ∷ false ∷ true ∷ true ∷ []) ∷ [];
  workers =
      record { threads = Some 1; has = Some 3 ∷ None ∷ None ∷ None ∷ []; sent = 1; fence = 0 ∷ 0 ∷ 0 ∷ 0 ∷ [] }
      ∷ record { threads = Some 1; has = None ∷ Some 4 ∷ None ∷ None ∷ []; sent = 1; fence = 0 ∷ 0 ∷ 0 ∷ 0 ∷ [] }
      ∷ record { threads = Some 1; has = None ∷ None ∷ None ∷ None ∷ []; sent = 0; fence = 0 ∷ 0 ∷ 0 ∷ 0 ∷ [] }
      ∷ [];
  on = None ∷ None ∷ None ∷ place ∷ [];
  steal = None ∷ None ∷ None ∷ None ∷ [];
  bad = false ∷ false ∷ false ∷ false ∷ [];
  losses = 0 ∷ 0 ∷ 0 ∷ 0 ∷ [];
  counter = 6;
  finishes = 2;
}

-- key 2 depends on keys 0 and 1, key 3 on key 2, and key 4 on none
abbrev pub diamond : Setting
diamond = record { shape = record { deps = [] ∷ [] ∷ (0 ∷ 1 ∷ []) ∷ (2 ∷ []) ∷ [] ∷ []; work = 1 ∷ 1 ∷ 1 ∷ 1 ∷ 1 ∷ []; nbytes = 8 ∷ 8 ∷ 8 ∷ 8 ∷ 8 ∷ [] }; clients = 1; saturation = 11; allowed = None }

-- worker 1 has this many threads and worker 2 this many
abbrev pub staffed : ℕ → ℕ → Facts → Facts
staffed a b f = record f { threads = λ w. cond (w == 1) (Some a) (cond (w == 2) (Some b) None) }

-- worker 1 has two tasks of work 1000 each, and worker 2 a small one
abbrev pub two_large : Setting
two_large = record { shape = record { deps = [] ∷ [] ∷ [] ∷ []; work = 1000 ∷ 1000 ∷ 1 ∷ []; nbytes = 1 ∷ 1 ∷ 1 ∷ [] }; clients = 1; saturation = 11; allowed = None }

abbrev pub two_and_one : Table
two_and_one = record {
  want = (true ∷ true ∷ true ∷ []) ∷ [];
  workers =
      record { threads = Some 1; has = None ∷ None ∷ None ∷ []; sent = 2; fence = 0 ∷ 0 ∷ 0 ∷ [] }
      ∷ record { threads = Some 1; has = None ∷ None ∷ None ∷ []; sent = 1; fence = 0 ∷ 0 ∷ 0 ∷ [] }
      ∷ [];
  on = Some (1, 1) ∷ Some (1, 2) ∷ Some (2, 3) ∷ [];
  steal = None ∷ None ∷ None ∷ [];
  bad = false ∷ false ∷ false ∷ [];
  losses = 0 ∷ 0 ∷ 0 ∷ [];
  counter = 4;
  finishes = 0;
}

-- key 2 depends on keys 0 and 1, of 10 bytes each; workers 1 and 2 hold one of these and have much work, and worker 3 has nothing
abbrev pub busy_inputs : Setting
busy_inputs = record {
  shape = record { deps = [] ∷ [] ∷ (0 ∷ 1 ∷ []) ∷ [] ∷ [] ∷ []; work = 80 ∷ 80 ∷ 80 ∷ 1000 ∷ 1000 ∷ []; nbytes = 10 ∷ 10 ∷ 8 ∷ 8 ∷ 8 ∷ [] };
  clients = 1;
  saturation = 11;
  allowed = None;
}

abbrev pub busy_holders : Table
busy_holders = record {
  want = (false ∷ false ∷ true ∷ true ∷ true ∷ []) ∷ [];
  workers =
      record { threads = Some 1; has = Some 3 ∷ None ∷ None ∷ None ∷ None ∷ []; sent = 2; fence = 0 ∷ 0 ∷ 0 ∷ 0 ∷ 0 ∷ [] }
      ∷ record { threads = Some 1; has = None ∷ Some 4 ∷ None ∷ None ∷ None ∷ []; sent = 2; fence = 0 ∷ 0 ∷ 0 ∷ 0 ∷ 0 ∷ [] }
      ∷ record { threads = Some 1; has = None ∷ None ∷ None ∷ None ∷ None ∷ []; sent = 0; fence = 0 ∷ 0 ∷ 0 ∷ 0 ∷ 0 ∷ [] }
      ∷ [];
  on = None ∷ None ∷ None ∷ Some (1, 5) ∷ Some (2, 6) ∷ [];
  steal = None ∷ None ∷ None ∷ None ∷ None ∷ [];
  bad = false ∷ false ∷ false ∷ false ∷ false ∷ [];
  losses = 0 ∷ 0 ∷ 0 ∷ 0 ∷ 0 ∷ [];
  counter = 20;
  finishes = 2;
}

-- key 1 depends on key 0
abbrev pub pair : Setting
pair = record { shape = record { deps = [] ∷ (0 ∷ []) ∷ []; work = 80 ∷ 80 ∷ []; nbytes = 80 ∷ 80 ∷ [] }; clients = 1; saturation = 11; allowed = None }

-- key 0 is wanted and held by two workers, and key 1 may be wanted
abbrev pub two_copies : Bool → Table
two_copies other = record {
  want = (true ∷ other ∷ []) ∷ [];
  workers =
      record { threads = Some 1; has = Some 3 ∷ None ∷ []; sent = 0; fence = 0 ∷ 0 ∷ [] }
      ∷ record { threads = Some 1; has = Some 4 ∷ None ∷ []; sent = 0; fence = 0 ∷ 0 ∷ [] }
      ∷ [];
  on = None ∷ None ∷ [];
  steal = None ∷ None ∷ [];
  bad = false ∷ false ∷ [];
  losses = 0 ∷ 0 ∷ [];
  counter = 20;
  finishes = 2;
}

-- a setting in which a key's worker may leave this often while the key is assigned to it
abbrev pub allowing : Option ℕ → Setting → Setting
allowing a s = record s { allowed = a }

-- the busy world where this is allowed: worker 1 holds key 0 and has key 1, worker 2 has key 2
abbrev pub busy_allowing : Option ℕ → Facts
busy_allowing a = facts_of (allowing a chain) busy
