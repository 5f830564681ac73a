-- Which message a map is.
use Rattle.std.specs.Prelude.{List, length, Option, Some, None, Result, Ok, Err}
use Rattle.std.specs.Option.{ok_or}
use Rattle.cluster_msgs.specs.declared.messages.Down.TheVariants as down
use Rattle.cluster_msgs.specs.declared.messages.Up.TheVariants as up
use Rattle.cluster_msgs.specs.declared.messages.ToClient.TheVariants as to_client
use Rattle.cluster_msgs.specs.declared.messages.FromClient.TheVariants as from_client
use Rattle.cluster_msgs.specs.declared.messages.Peer.TheVariants as peer
use Rattle.cluster_msgs.specs.declared.messages.Message.{Message}
use Rattle.cluster_msgs.specs.declared.messages.Message.TheVariants as message
use Rattle.msgpack_frames.specs.Data.{Data, text, dictionary}
use Rattle.wire_msgs.specs.declared.field.Field.{Field}
use Rattle.wire_msgs.specs.declared.field.Field.TheVariants as field
use Rattle.wire_msgs.specs.declared.operation.Operation.{Operation}
use Rattle.wire_msgs.specs.declared.operation.Operation.TheVariants as operation
use Rattle.wire_msgs.specs.declared.error.PartError.{PartError}
use Rattle.wire_msgs.specs.declared.error.WireError.{WireError}
use Rattle.wire_msgs.specs.declared.error.WireError.TheVariants as wire
use Rattle.wire_msgs.specs.Answers.{at}
use Rattle.wire_msgs.specs.Finding.{pair_list, under, fault_at, first_below, keys_in, holders_in, who_has_in}
use Rattle.wire_msgs.specs.Names.{operation_named}
use Rattle.wire_msgs.specs.Parts.{key_in, count_in, truth_in, role_in}

infixl 10 ◌>>=◌
abbrev pub ◌>>=◌ : {A B E : Type 0} → Result A E → (A → Result B E) → Result B E
(Ok x) >>= f = f x
(Err e) >>= f = Err e

-- the operation, by the text under `op`
abbrev pub operation_in : Option Data → Result Operation WireError
operation_in None = Err (wire.Missing field.Op)
operation_in (Some (text t)) = ok_or (operation_named t) wire.UnknownOp
operation_in (Some _) = Err (wire.WrongType field.Op)

unfoldable pub operation_of : List (Data × Data) → Result Operation WireError
operation_of ps = operation_in (under field.Op ps)

abbrev pub in_field : {X : Type 0} → Field → Result X PartError → Result X WireError
in_field f (Ok x) = Ok x
in_field f (Err e) = Err (at f e)

-- the content of a field
abbrev pub content : {X : Type 0} → Field → (Data → Result X PartError) → Option Data → Result X WireError
content f parse None = Err (wire.Missing f)
content f parse (Some d) = in_field f (parse d)

unfoldable pub found : {X : Type 0} → Field → (Data → Result X PartError) → List (Data × Data) → Result X WireError
found f parse ps = content f parse (under f ps)

-- the message of an operation, by the fields of these pairs, or the first of its fields that is missing
unfoldable pub message_of : Operation → List (Data × Data) → Result Message WireError
message_of operation.ComputeTask ps = do
  key ← found field.Key key_in ps
  attempt ← found field.Attempt count_in ps
  who_has ← found field.WhoHas who_has_in ps
  Ok (message.Down (down.ComputeTask key attempt who_has))
message_of operation.FreeKeys ps = do
  keys ← found field.Keys keys_in ps
  Ok (message.Down (down.FreeKeys keys))
message_of operation.StealRequest ps = do
  key ← found field.Key key_in ps
  attempt ← found field.Attempt count_in ps
  Ok (message.Down (down.StealRequest key attempt))
message_of operation.RemoveReplicas ps = do
  keys ← found field.Keys keys_in ps
  Ok (message.Down (down.RemoveReplicas keys))
message_of operation.AcquireReplicas ps = do
  who_has ← found field.WhoHas who_has_in ps
  Ok (message.Down (down.AcquireReplicas who_has))
message_of operation.RefreshWhoHas ps = do
  who_has ← found field.WhoHas who_has_in ps
  Ok (message.Down (down.RefreshWhoHas who_has))
message_of operation.TaskFinished ps = do
  seen ← found field.Seen count_in ps
  key ← found field.Key key_in ps
  attempt ← found field.Attempt count_in ps
  Ok (message.Up (up.TaskFinished seen key attempt))
message_of operation.TaskErred ps = do
  seen ← found field.Seen count_in ps
  key ← found field.Key key_in ps
  attempt ← found field.Attempt count_in ps
  Ok (message.Up (up.TaskErred seen key attempt))
message_of operation.AddKeys ps = do
  seen ← found field.Seen count_in ps
  keys ← found field.Keys keys_in ps
  Ok (message.Up (up.AddKeys seen keys))
message_of operation.ReleaseWorkerData ps = do
  seen ← found field.Seen count_in ps
  key ← found field.Key key_in ps
  Ok (message.Up (up.ReleaseWorkerData seen key))
message_of operation.MissingData ps = do
  seen ← found field.Seen count_in ps
  key ← found field.Key key_in ps
  holder ← found field.Holder key_in ps
  copy ← found field.Copy count_in ps
  Ok (message.Up (up.MissingData seen key holder copy))
message_of operation.RequestRefreshWhoHas ps = do
  seen ← found field.Seen count_in ps
  key ← found field.Key key_in ps
  Ok (message.Up (up.RequestRefreshWhoHas seen key))
message_of operation.StealResponse ps = do
  seen ← found field.Seen count_in ps
  key ← found field.Key key_in ps
  attempt ← found field.Attempt count_in ps
  truth ← found field.Yes truth_in ps
  Ok (message.Up (up.StealResponse seen key attempt truth))
message_of operation.KeyInMemory ps = do
  key ← found field.Key key_in ps
  holders ← found field.Holders holders_in ps
  Ok (message.ToClient (to_client.KeyInMemory key holders))
message_of operation.LostData ps = do
  key ← found field.Key key_in ps
  Ok (message.ToClient (to_client.LostData key))
message_of operation.ClientTaskErred ps = do
  key ← found field.Key key_in ps
  blame ← found field.Blame key_in ps
  Ok (message.ToClient (to_client.ClientTaskErred key blame))
message_of operation.Want ps = do
  keys ← found field.Keys keys_in ps
  Ok (message.FromClient (from_client.Want keys))
message_of operation.Release ps = do
  keys ← found field.Keys keys_in ps
  Ok (message.FromClient (from_client.Release keys))
message_of operation.Missing ps = do
  key ← found field.Key key_in ps
  holder ← found field.Holder key_in ps
  copy ← found field.Copy count_in ps
  Ok (message.FromClient (from_client.Missing key holder copy))
message_of operation.GetData ps = do
  ask ← found field.Ask count_in ps
  keys ← found field.Keys keys_in ps
  Ok (message.Peer (peer.GetData ask keys))
message_of operation.Data ps = do
  ask ← found field.Ask count_in ps
  found ← found field.Found keys_in ps
  Ok (message.Peer (peer.Data ask found))
message_of operation.Hello ps = do
  role ← found field.Role role_in ps
  id ← found field.Id key_in ps
  Ok (message.Hello role id)

-- the first pair at fault comes before what the fields give
abbrev pub unless_fault : Option WireError → Result Message WireError → Result Message WireError
unless_fault None given = given
unless_fault (Some e) given = Err e

abbrev pub by_operation : List (Data × Data) → Result Operation WireError → Result Message WireError
by_operation ps (Ok op) = unless_fault (first_below (fault_at op ps) (length ps)) (message_of op ps)
by_operation ps (Err e) = Err e

abbrev pub map_answer : List (Data × Data) → Result Message WireError
map_answer ps = by_operation ps (operation_of ps)

-- The answer to a value: its operation is asked for first, then the first pair from the left that is no field, is
-- repeated or has a flaw, then the first field of the operation that is missing.
unfoldable pub answer : Data → Result Message WireError
answer (dictionary ps) = map_answer (pair_list ps)
answer _ = Err wire.NotAMap
