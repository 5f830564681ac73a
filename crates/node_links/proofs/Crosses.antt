-- A history may cross threads. An entry is a large tree of enums, and one search tries all its ways anew at each place where one lies,
-- until it breaks off. So the parts are found first.
use denote.Param.Send.{IsSend, IsSync, sendable}
use Rattle.std.proofs.Crossing.{crosses}
use Rattle.cluster_msgs.specs.contracts.events.Entry as Entry
use Rattle.cluster_msgs.specs.contracts.events.Event as Event
use Rattle.cluster_msgs.specs.contracts.messages.Message as Message
use Rattle.cluster_msgs.specs.contracts.messages.Down as Down
use Rattle.cluster_msgs.specs.contracts.messages.Up as Up
use Rattle.cluster_msgs.specs.contracts.messages.Peer as Peer
use Rattle.node_links.specs.contracts.log.Log as Log

entry_send : IsSend Entry.the_field.row
entry_send =
    let a : IsSend Peer.the_field.row = search (sendable, crosses) depth 40 fits 6000 in
    let b : IsSend Up.the_field.row = search (sendable, crosses) depth 40 fits 6000 in
    let d : IsSend Down.the_field.row = search (sendable, crosses) depth 40 fits 6000 in
    let m : IsSend Message.the_field.row = search (sendable, crosses) depth 40 fits 6000 in
    let f : IsSend Event.the_field.row = search (sendable, crosses) depth 40 fits 6000 in
    search (sendable, crosses) depth 40 fits 6000

pub log_send : IsSend Log.the_field.row
log_send = let e : IsSend Entry.the_field.row = entry_send in search (sendable, crosses) depth 40 fits 6000

entry_sync : IsSync Entry.the_field.row
entry_sync =
    let a : IsSync Peer.the_field.row = search (sendable, crosses) depth 40 fits 6000 in
    let b : IsSync Up.the_field.row = search (sendable, crosses) depth 40 fits 6000 in
    let d : IsSync Down.the_field.row = search (sendable, crosses) depth 40 fits 6000 in
    let m : IsSync Message.the_field.row = search (sendable, crosses) depth 40 fits 6000 in
    let f : IsSync Event.the_field.row = search (sendable, crosses) depth 40 fits 6000 in
    search (sendable, crosses) depth 40 fits 6000

pub log_sync : IsSync Log.the_field.row
log_sync = let e : IsSync Entry.the_field.row = entry_sync in search (sendable, crosses) depth 40 fits 6000
