-- A node may cross threads and be shared. One search for a whole node tries all the ways of a core or an entry anew at each place where one lies, until
-- it breaks off. So the parts are found first.
use denote.RattleType.{RattleType}
use denote.Param.Send.{IsSend, IsSync, part_keyless, sendable}
use Rattle.std.proofs.Crossing.{crosses}
use Rattle.atomic_table.specs.contracts.shared.Seat as Seat
use Rattle.atomic_table.proofs.shared.Seat.TheSendSync as seat
use Rattle.atomic_table.proofs.shared.Shared.TheSendSync as shared
use Rattle.atomic_table.proofs.send_lease.SendLease.TheSendSync as lease
use Rattle.cluster_msgs.specs.declared.labels.Label.{Ghosts}
use Rattle.gather_client.specs.contracts.client.ClientCore as ClientCore
use Rattle.node_links.specs.contracts.keyed.Keyed as Keyed
use Rattle.node_links.specs.contracts.log.Log as Log
use Rattle.node_links.specs.contracts.packet.Sealed as Sealed
use Rattle.node_links.specs.contracts.port.Port as Port
use Rattle.node_links.proofs.Crosses.{log_send, log_sync}
use Rattle.node_states.specs.contracts.history.WorkerHistory as WorkerHistory
use Rattle.node_states.specs.contracts.links.WorkerLinks as WorkerLinks
use Rattle.node_states.specs.contracts.past.SchedulerHistory as SchedulerHistory
use Rattle.scheduler_core.specs.contracts.sched.Sched as Sched
use Rattle.worker_core.specs.contracts.worker.WorkerCore as WorkerCore

-- a pass of a queue is shared as what it owns: none of it names a thread
pub seat_sync : (S V : RattleType) → IsSend S → IsSync (Seat.the_row S V)
seat_sync S V s = record { shared = λ d b o κ q. part_keyless (Seat.the_row S V) (seat.the_send S V s) q d b o }

-- the cores
pub sched_send : IsSend Sched.the_field.row
sched_send = search (sendable, crosses) depth 60 fits 6000

pub sched_sync : IsSync Sched.the_field.row
sched_sync = search (sendable, crosses) depth 60 fits 6000

pub worker_send : IsSend WorkerCore.the_field.row
worker_send = search (sendable, crosses) depth 60 fits 6000

pub worker_sync : IsSync WorkerCore.the_field.row
worker_sync = search (sendable, crosses) depth 60 fits 6000

pub client_send : IsSend ClientCore.the_field.row
client_send = search (sendable, crosses) depth 60 fits 6000

pub client_sync : IsSync ClientCore.the_field.row
client_sync = search (sendable, crosses) depth 60 fits 6000

-- ports and blocks
module _ (B L : RattleType) (g : Ghosts L.Denot B.Denot) (sb : IsSend B) (yb : IsSync B) (sl : IsSend L) (yl : IsSync L) where
  pub port_send : IsSend (Port.the_field B L g).row
  port_send =
      let s : IsSend (Sealed.the_field B L g).row = search (sendable, crosses) depth 60 fits 6000 in
      search (sendable, crosses, seat.the_send, shared.the_send, shared.the_sync, lease.the_send, lease.the_sync) depth 60 fits 6000

  pub port_sync : IsSync (Port.the_field B L g).row
  port_sync =
      let s : IsSend (Sealed.the_field B L g).row = search (sendable, crosses) depth 60 fits 6000 in
      let y : IsSync (Sealed.the_field B L g).row = search (sendable, crosses) depth 60 fits 6000 in
      search (sendable, crosses, seat.the_send, seat_sync, shared.the_send, shared.the_sync, lease.the_send, lease.the_sync) depth 60 fits 6000

  pub links_send : IsSend (WorkerLinks.the_field B L g).row
  links_send =
      let p : IsSend (Port.the_field B L g).row = port_send in
      search (sendable, crosses) depth 60 fits 6000

  pub links_sync : IsSync (WorkerLinks.the_field B L g).row
  links_sync =
      let p : IsSync (Port.the_field B L g).row = port_sync in
      search (sendable, crosses) depth 60 fits 6000

  pub keyed_send : IsSend (Keyed.the_field B L g).row
  keyed_send = search (sendable, crosses) depth 60 fits 6000

  pub keyed_sync : IsSync (Keyed.the_field B L g).row
  keyed_sync = search (sendable, crosses) depth 60 fits 6000

  -- the histories
  pub scheduler_history_send : IsSend (SchedulerHistory.the_field L B g).row
  scheduler_history_send =
      let l : IsSend Log.the_field.row = log_send in
      let s : IsSend Sched.the_field.row = sched_send in
      search (sendable, crosses) depth 60 fits 6000

  pub scheduler_history_sync : IsSync (SchedulerHistory.the_field L B g).row
  scheduler_history_sync =
      let l : IsSync Log.the_field.row = log_sync in
      let s : IsSync Sched.the_field.row = sched_sync in
      search (sendable, crosses) depth 60 fits 6000

  pub worker_history_send : IsSend (WorkerHistory.the_field L B g).row
  worker_history_send =
      let l : IsSend Log.the_field.row = log_send in
      let s : IsSend WorkerCore.the_field.row = worker_send in
      search (sendable, crosses) depth 60 fits 6000

  pub worker_history_sync : IsSync (WorkerHistory.the_field L B g).row
  worker_history_sync =
      let l : IsSync Log.the_field.row = log_sync in
      let s : IsSync WorkerCore.the_field.row = worker_sync in
      search (sendable, crosses) depth 60 fits 6000
