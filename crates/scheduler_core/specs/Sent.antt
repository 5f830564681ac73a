-- What is to be sent.
use Rattle.std.specs.Prelude.{◌≡◌, List, [], ◌++◌}
use Rattle.cluster_msgs.specs.declared.cores.Outbox.{Outbox}
use Rattle.cluster_rules.specs.SchedStep.{Stepped}

abbrev pub nothing : Outbox
nothing = record { down = []; clients = []; joined = [] }

-- what a step has to send
abbrev pub sent_by : Stepped → Outbox
sent_by s = record { down = s.down; clients = s.clients; joined = s.joined }

-- with more at the end of each list
abbrev pub appended : Outbox → Outbox → Outbox
appended o m = record { down = o.down ++ m.down; clients = o.clients ++ m.clients; joined = o.joined ++ m.joined }

-- the list o with a front of the list m behind it
pub record HasFront {A : Type 0} (o m n : List A) : Type 0 where
  pub front : List A
  pub rest : List A
  pub whole : m ≡ front ++ rest
  pub grown : n ≡ o ++ front

-- each list of o has a front of the same list of m behind it
pub record HasGrown (o m n : Outbox) : Type 0 where
  pub down : HasFront o.down m.down n.down
  pub clients : HasFront o.clients m.clients n.clients
  pub joined : HasFront o.joined m.joined n.joined
