-- What a map that is read as a message has: the fields of its operation, each once, and no others.
use Rattle.std.specs.Prelude.{◌≡◌, ℕ, List, [], ◌∷◌, take, slice_get, Some, None, IsSome}
use Rattle.std.specs.List.{find, AllByRecursion}
use Rattle.cluster_msgs.specs.declared.messages.Down.TheVariants as down
use Rattle.cluster_msgs.specs.declared.messages.Up.TheVariants as up
use Rattle.cluster_msgs.specs.declared.messages.ToClient.TheVariants as to_client
use Rattle.cluster_msgs.specs.declared.messages.FromClient.TheVariants as from_client
use Rattle.cluster_msgs.specs.declared.messages.Peer.TheVariants as peer
use Rattle.cluster_msgs.specs.declared.messages.Message.{Message}
use Rattle.cluster_msgs.specs.declared.messages.Message.TheVariants as message
use Rattle.msgpack_frames.specs.Data.{Data, boolean, text, dictionary}
use Rattle.msgpack_frames.specs.View.{pairs_of}
use Rattle.wire_msgs.specs.declared.field.Field.{Field}
use Rattle.wire_msgs.specs.declared.field.Field.TheVariants as field
use Rattle.wire_msgs.specs.declared.operation.Operation.{Operation}
use Rattle.wire_msgs.specs.declared.operation.Operation.TheVariants as operation
use Rattle.wire_msgs.specs.Finding.{names, under}
use Rattle.wire_msgs.specs.Names.{op_name, fields_of}
use Rattle.wire_msgs.specs.Parts.{number, role_data}
use Rattle.wire_msgs.specs.Written.{keys_data, holders_data, who_has_data}

-- the operation of a message
abbrev pub operation_for : Message → Operation
operation_for (message.Down (down.ComputeTask key attempt who_has)) = operation.ComputeTask
operation_for (message.Down (down.FreeKeys keys)) = operation.FreeKeys
operation_for (message.Down (down.StealRequest key attempt)) = operation.StealRequest
operation_for (message.Down (down.RemoveReplicas keys)) = operation.RemoveReplicas
operation_for (message.Down (down.AcquireReplicas who_has)) = operation.AcquireReplicas
operation_for (message.Down (down.RefreshWhoHas who_has)) = operation.RefreshWhoHas
operation_for (message.Up (up.TaskFinished seen key attempt)) = operation.TaskFinished
operation_for (message.Up (up.TaskErred seen key attempt)) = operation.TaskErred
operation_for (message.Up (up.AddKeys seen keys)) = operation.AddKeys
operation_for (message.Up (up.ReleaseWorkerData seen key)) = operation.ReleaseWorkerData
operation_for (message.Up (up.MissingData seen key holder copy)) = operation.MissingData
operation_for (message.Up (up.RequestRefreshWhoHas seen key)) = operation.RequestRefreshWhoHas
operation_for (message.Up (up.StealResponse seen key attempt truth)) = operation.StealResponse
operation_for (message.ToClient (to_client.KeyInMemory key holders)) = operation.KeyInMemory
operation_for (message.ToClient (to_client.LostData key)) = operation.LostData
operation_for (message.ToClient (to_client.ClientTaskErred key blame)) = operation.ClientTaskErred
operation_for (message.FromClient (from_client.Want keys)) = operation.Want
operation_for (message.FromClient (from_client.Release keys)) = operation.Release
operation_for (message.FromClient (from_client.Missing key holder copy)) = operation.Missing
operation_for (message.Peer (peer.GetData ask keys)) = operation.GetData
operation_for (message.Peer (peer.Data ask found)) = operation.Data
operation_for (message.Hello role id) = operation.Hello

-- its fields, each with its content
abbrev pub contents_of : Message → List (Field × Data)
contents_of (message.Down (down.ComputeTask key attempt who_has)) = (field.Key, number key) ∷ (field.Attempt, number attempt) ∷ (field.WhoHas, who_has_data who_has) ∷ []
contents_of (message.Down (down.FreeKeys keys)) = (field.Keys, keys_data keys) ∷ []
contents_of (message.Down (down.StealRequest key attempt)) = (field.Key, number key) ∷ (field.Attempt, number attempt) ∷ []
contents_of (message.Down (down.RemoveReplicas keys)) = (field.Keys, keys_data keys) ∷ []
contents_of (message.Down (down.AcquireReplicas who_has)) = (field.WhoHas, who_has_data who_has) ∷ []
contents_of (message.Down (down.RefreshWhoHas who_has)) = (field.WhoHas, who_has_data who_has) ∷ []
contents_of (message.Up (up.TaskFinished seen key attempt)) = (field.Seen, number seen) ∷ (field.Key, number key) ∷ (field.Attempt, number attempt) ∷ []
contents_of (message.Up (up.TaskErred seen key attempt)) = (field.Seen, number seen) ∷ (field.Key, number key) ∷ (field.Attempt, number attempt) ∷ []
contents_of (message.Up (up.AddKeys seen keys)) = (field.Seen, number seen) ∷ (field.Keys, keys_data keys) ∷ []
contents_of (message.Up (up.ReleaseWorkerData seen key)) = (field.Seen, number seen) ∷ (field.Key, number key) ∷ []
contents_of (message.Up (up.MissingData seen key holder copy)) = (field.Seen, number seen) ∷ (field.Key, number key) ∷ (field.Holder, number holder) ∷ (field.Copy, number copy) ∷ []
contents_of (message.Up (up.RequestRefreshWhoHas seen key)) = (field.Seen, number seen) ∷ (field.Key, number key) ∷ []
contents_of (message.Up (up.StealResponse seen key attempt truth)) = (field.Seen, number seen) ∷ (field.Key, number key) ∷ (field.Attempt, number attempt) ∷ (field.Yes, boolean truth) ∷ []
contents_of (message.ToClient (to_client.KeyInMemory key holders)) = (field.Key, number key) ∷ (field.Holders, holders_data holders) ∷ []
contents_of (message.ToClient (to_client.LostData key)) = (field.Key, number key) ∷ []
contents_of (message.ToClient (to_client.ClientTaskErred key blame)) = (field.Key, number key) ∷ (field.Blame, number blame) ∷ []
contents_of (message.FromClient (from_client.Want keys)) = (field.Keys, keys_data keys) ∷ []
contents_of (message.FromClient (from_client.Release keys)) = (field.Keys, keys_data keys) ∷ []
contents_of (message.FromClient (from_client.Missing key holder copy)) = (field.Key, number key) ∷ (field.Holder, number holder) ∷ (field.Copy, number copy) ∷ []
contents_of (message.Peer (peer.GetData ask keys)) = (field.Ask, number ask) ∷ (field.Keys, keys_data keys) ∷ []
contents_of (message.Peer (peer.Data ask found)) = (field.Ask, number ask) ∷ (field.Found, keys_data found) ∷ []
contents_of (message.Hello role id) = (field.Role, role_data role) ∷ (field.Id, number id) ∷ []

-- pairs that name the operation of a message and have each of its fields with its content
pub record HasContents (ps : List (Data × Data)) (m : Message) : Type 0 where
  pub operation : under field.Op ps ≡ Some (text (op_name (operation_for m)))
  pub contents : AllByRecursion (λ e. under e.0 ps ≡ Some e.1) (contents_of m)

-- every key names a field of the operation, and none that stands further left
pub record HasNoOthers (ps : List (Data × Data)) (op : Operation) : Type 0 where
  pub known : (i : ℕ) (p : Data × Data) → slice_get ps i ≡ Some p → IsSome (find (λ f. names f p.0) (fields_of op))
  pub once : (i : ℕ) (p : Data × Data) (f : Field) → slice_get ps i ≡ Some p → find (λ g. names g p.0) (fields_of op) ≡ Some f → under f (take i ps) ≡ None

-- a map with the fields of a message, each once and in any order, and no others
pub record IsMessage (d : Data) (m : Message) : Type 0 where
  pub pairs : List (Data × Data)
  pub map : d ≡ dictionary (pairs_of pairs)
  pub fields : HasContents pairs m
  pub only : HasNoOthers pairs (operation_for m)
