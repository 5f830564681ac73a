-- What is written reads back as the same message.
use Rattle.std.proofs.Common.{◌≡◌, Ok, refl}
use Rattle.cluster_msgs.specs.declared.messages.Down.TheVariants as down
use Rattle.cluster_msgs.specs.declared.messages.Up.TheVariants as up
use Rattle.cluster_msgs.specs.declared.messages.ToClient.TheVariants as to_client
use Rattle.cluster_msgs.specs.declared.messages.FromClient.TheVariants as from_client
use Rattle.cluster_msgs.specs.declared.messages.Peer.TheVariants as peer
use Rattle.cluster_msgs.specs.declared.messages.Message.{Message}
use Rattle.cluster_msgs.specs.declared.messages.Message.TheVariants as message
use Rattle.wire_msgs.specs.Names.{name, op_name, operations, operation_named, fields_of}
use Rattle.wire_msgs.specs.Finding.{flaw_of, field_fault, pair_fault, fault_at}
use Rattle.wire_msgs.specs.Messages.{operation_of, found, message_of, map_answer}
use Rattle.wire_msgs.specs.Written.{message_pairs, Reads}

pub read_back : (m : Message) → Reads m → map_answer (message_pairs m) ≡ Ok m
unfolding name op_name operations operation_named fields_of flaw_of field_fault pair_fault fault_at operation_of found message_of
read_back (message.Down (down.ComputeTask key attempt who_has)) h = rw (h.0, h.1, h.2) refl
read_back (message.Down (down.FreeKeys keys)) h = rw h refl
read_back (message.Down (down.StealRequest key attempt)) h = rw (h.0, h.1) refl
read_back (message.Down (down.RemoveReplicas keys)) h = rw h refl
read_back (message.Down (down.AcquireReplicas who_has)) h = rw h refl
read_back (message.Down (down.RefreshWhoHas who_has)) h = rw h refl
read_back (message.Up (up.TaskFinished seen key attempt)) h = rw (h.0, h.1, h.2) refl
read_back (message.Up (up.TaskErred seen key attempt)) h = rw (h.0, h.1, h.2) refl
read_back (message.Up (up.AddKeys seen keys)) h = rw (h.0, h.1) refl
read_back (message.Up (up.ReleaseWorkerData seen key)) h = rw (h.0, h.1) refl
read_back (message.Up (up.MissingData seen key holder copy)) h = rw (h.0, h.1, h.2, h.3) refl
read_back (message.Up (up.RequestRefreshWhoHas seen key)) h = rw (h.0, h.1) refl
read_back (message.Up (up.StealResponse seen key attempt truth)) h = rw (h.0, h.1, h.2) refl
read_back (message.ToClient (to_client.KeyInMemory key holders)) h = rw (h.0, h.1) refl
read_back (message.ToClient (to_client.LostData key)) h = rw h refl
read_back (message.ToClient (to_client.ClientTaskErred key blame)) h = rw (h.0, h.1) refl
read_back (message.FromClient (from_client.Want keys)) h = rw h refl
read_back (message.FromClient (from_client.Release keys)) h = rw h refl
read_back (message.FromClient (from_client.Missing key holder copy)) h = rw (h.0, h.1, h.2) refl
read_back (message.Peer (peer.GetData ask keys)) h = rw (h.0, h.1) refl
read_back (message.Peer (peer.Data ask keys)) h = rw (h.0, h.1) refl
read_back (message.Hello role id) h = rw (h.0, h.1) refl
