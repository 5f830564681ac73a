-- How a message is written: its operation, then its fields in the order of the table.
use Rattle.std.specs.Prelude.{◌≡◌, ℕ, List, [], ◌∷◌, Ok}
use Rattle.cluster_msgs.specs.declared.messages.Down.TheVariants as down
use Rattle.cluster_msgs.specs.declared.messages.Up.TheVariants as up
use Rattle.cluster_msgs.specs.declared.messages.ToClient.TheVariants as to_client
use Rattle.cluster_msgs.specs.declared.messages.FromClient.TheVariants as from_client
use Rattle.cluster_msgs.specs.declared.messages.Peer.TheVariants as peer
use Rattle.cluster_msgs.specs.declared.messages.Message.{Message}
use Rattle.cluster_msgs.specs.declared.messages.Message.TheVariants as message
use Rattle.msgpack_frames.specs.Data.{Data, boolean, text, dictionary}
use Rattle.msgpack_frames.specs.View.{pairs_of}
use Rattle.wire_msgs.specs.declared.field.Field.{Field}
use Rattle.wire_msgs.specs.declared.field.Field.TheVariants as field
use Rattle.wire_msgs.specs.declared.operation.Operation.{Operation}
use Rattle.wire_msgs.specs.declared.operation.Operation.TheVariants as operation
use Rattle.wire_msgs.specs.Finding.{keys_in, holders_in, who_has_in}
use Rattle.wire_msgs.specs.Names.{name, op_name}
use Rattle.wire_msgs.specs.Parts.{key_in, count_in, truth_in, role_in, number, role_data, list_data, pair_data}

abbrev pub keys_data : List ℕ → Data
keys_data = list_data number

abbrev pub holders_data : List (ℕ × ℕ) → Data
holders_data = list_data (pair_data number number)

abbrev pub who_has_data : List (ℕ × List (ℕ × ℕ)) → Data
who_has_data = list_data (pair_data number holders_data)

-- a field with its content
abbrev pub entry : Field → Data → Data × Data
entry f d = (text (name f), d)

abbrev pub op_entry : Operation → Data × Data
op_entry op = entry field.Op (text (op_name op))

abbrev pub message_pairs : Message → List (Data × Data)
message_pairs (message.Down (down.ComputeTask key attempt who_has)) = op_entry operation.ComputeTask ∷ entry field.Key (number key) ∷ entry field.Attempt (number attempt) ∷ entry field.WhoHas (who_has_data who_has) ∷ []
message_pairs (message.Down (down.FreeKeys keys)) = op_entry operation.FreeKeys ∷ entry field.Keys (keys_data keys) ∷ []
message_pairs (message.Down (down.StealRequest key attempt)) = op_entry operation.StealRequest ∷ entry field.Key (number key) ∷ entry field.Attempt (number attempt) ∷ []
message_pairs (message.Down (down.RemoveReplicas keys)) = op_entry operation.RemoveReplicas ∷ entry field.Keys (keys_data keys) ∷ []
message_pairs (message.Down (down.AcquireReplicas who_has)) = op_entry operation.AcquireReplicas ∷ entry field.WhoHas (who_has_data who_has) ∷ []
message_pairs (message.Down (down.RefreshWhoHas who_has)) = op_entry operation.RefreshWhoHas ∷ entry field.WhoHas (who_has_data who_has) ∷ []
message_pairs (message.Up (up.TaskFinished seen key attempt)) = op_entry operation.TaskFinished ∷ entry field.Seen (number seen) ∷ entry field.Key (number key) ∷ entry field.Attempt (number attempt) ∷ []
message_pairs (message.Up (up.TaskErred seen key attempt)) = op_entry operation.TaskErred ∷ entry field.Seen (number seen) ∷ entry field.Key (number key) ∷ entry field.Attempt (number attempt) ∷ []
message_pairs (message.Up (up.AddKeys seen keys)) = op_entry operation.AddKeys ∷ entry field.Seen (number seen) ∷ entry field.Keys (keys_data keys) ∷ []
message_pairs (message.Up (up.ReleaseWorkerData seen key)) = op_entry operation.ReleaseWorkerData ∷ entry field.Seen (number seen) ∷ entry field.Key (number key) ∷ []
message_pairs (message.Up (up.MissingData seen key holder copy)) = op_entry operation.MissingData ∷ entry field.Seen (number seen) ∷ entry field.Key (number key) ∷ entry field.Holder (number holder) ∷ entry field.Copy (number copy) ∷ []
message_pairs (message.Up (up.RequestRefreshWhoHas seen key)) = op_entry operation.RequestRefreshWhoHas ∷ entry field.Seen (number seen) ∷ entry field.Key (number key) ∷ []
message_pairs (message.Up (up.StealResponse seen key attempt truth)) = op_entry operation.StealResponse ∷ entry field.Seen (number seen) ∷ entry field.Key (number key) ∷ entry field.Attempt (number attempt) ∷ entry field.Yes (boolean truth) ∷ []
message_pairs (message.ToClient (to_client.KeyInMemory key holders)) = op_entry operation.KeyInMemory ∷ entry field.Key (number key) ∷ entry field.Holders (holders_data holders) ∷ []
message_pairs (message.ToClient (to_client.LostData key)) = op_entry operation.LostData ∷ entry field.Key (number key) ∷ []
message_pairs (message.ToClient (to_client.ClientTaskErred key blame)) = op_entry operation.ClientTaskErred ∷ entry field.Key (number key) ∷ entry field.Blame (number blame) ∷ []
message_pairs (message.FromClient (from_client.Want keys)) = op_entry operation.Want ∷ entry field.Keys (keys_data keys) ∷ []
message_pairs (message.FromClient (from_client.Release keys)) = op_entry operation.Release ∷ entry field.Keys (keys_data keys) ∷ []
message_pairs (message.FromClient (from_client.Missing key holder copy)) = op_entry operation.Missing ∷ entry field.Key (number key) ∷ entry field.Holder (number holder) ∷ entry field.Copy (number copy) ∷ []
message_pairs (message.Peer (peer.GetData ask keys)) = op_entry operation.GetData ∷ entry field.Ask (number ask) ∷ entry field.Keys (keys_data keys) ∷ []
message_pairs (message.Peer (peer.Data ask found)) = op_entry operation.Data ∷ entry field.Ask (number ask) ∷ entry field.Found (keys_data found) ∷ []
message_pairs (message.Hello role id) = op_entry operation.Hello ∷ entry field.Role (role_data role) ∷ entry field.Id (number id) ∷ []

-- the value of a message
abbrev pub message_data : Message → Data
message_data m = dictionary (pairs_of (message_pairs m))

-- each content reads back as it was
abbrev pub Reads : Message → Type 0
Reads (message.Down (down.ComputeTask key attempt who_has)) = (key_in (number key) ≡ Ok key) × (count_in (number attempt) ≡ Ok attempt) × (who_has_in (who_has_data who_has) ≡ Ok who_has)
Reads (message.Down (down.FreeKeys keys)) = (keys_in (keys_data keys) ≡ Ok keys)
Reads (message.Down (down.StealRequest key attempt)) = (key_in (number key) ≡ Ok key) × (count_in (number attempt) ≡ Ok attempt)
Reads (message.Down (down.RemoveReplicas keys)) = (keys_in (keys_data keys) ≡ Ok keys)
Reads (message.Down (down.AcquireReplicas who_has)) = (who_has_in (who_has_data who_has) ≡ Ok who_has)
Reads (message.Down (down.RefreshWhoHas who_has)) = (who_has_in (who_has_data who_has) ≡ Ok who_has)
Reads (message.Up (up.TaskFinished seen key attempt)) = (count_in (number seen) ≡ Ok seen) × (key_in (number key) ≡ Ok key) × (count_in (number attempt) ≡ Ok attempt)
Reads (message.Up (up.TaskErred seen key attempt)) = (count_in (number seen) ≡ Ok seen) × (key_in (number key) ≡ Ok key) × (count_in (number attempt) ≡ Ok attempt)
Reads (message.Up (up.AddKeys seen keys)) = (count_in (number seen) ≡ Ok seen) × (keys_in (keys_data keys) ≡ Ok keys)
Reads (message.Up (up.ReleaseWorkerData seen key)) = (count_in (number seen) ≡ Ok seen) × (key_in (number key) ≡ Ok key)
Reads (message.Up (up.MissingData seen key holder copy)) = (count_in (number seen) ≡ Ok seen) × (key_in (number key) ≡ Ok key) × (key_in (number holder) ≡ Ok holder) × (count_in (number copy) ≡ Ok copy)
Reads (message.Up (up.RequestRefreshWhoHas seen key)) = (count_in (number seen) ≡ Ok seen) × (key_in (number key) ≡ Ok key)
Reads (message.Up (up.StealResponse seen key attempt truth)) = (count_in (number seen) ≡ Ok seen) × (key_in (number key) ≡ Ok key) × (count_in (number attempt) ≡ Ok attempt) × (truth_in (boolean truth) ≡ Ok truth)
Reads (message.ToClient (to_client.KeyInMemory key holders)) = (key_in (number key) ≡ Ok key) × (holders_in (holders_data holders) ≡ Ok holders)
Reads (message.ToClient (to_client.LostData key)) = (key_in (number key) ≡ Ok key)
Reads (message.ToClient (to_client.ClientTaskErred key blame)) = (key_in (number key) ≡ Ok key) × (key_in (number blame) ≡ Ok blame)
Reads (message.FromClient (from_client.Want keys)) = (keys_in (keys_data keys) ≡ Ok keys)
Reads (message.FromClient (from_client.Release keys)) = (keys_in (keys_data keys) ≡ Ok keys)
Reads (message.FromClient (from_client.Missing key holder copy)) = (key_in (number key) ≡ Ok key) × (key_in (number holder) ≡ Ok holder) × (count_in (number copy) ≡ Ok copy)
Reads (message.Peer (peer.GetData ask keys)) = (count_in (number ask) ≡ Ok ask) × (keys_in (keys_data keys) ≡ Ok keys)
Reads (message.Peer (peer.Data ask found)) = (count_in (number ask) ≡ Ok ask) × (keys_in (keys_data found) ≡ Ok found)
Reads (message.Hello role id) = (role_in (role_data role) ≡ Ok role) × (key_in (number id) ≡ Ok id)
