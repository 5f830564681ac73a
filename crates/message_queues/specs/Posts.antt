-- Messages as links carry them, and what is posted.
use Rattle.std.specs.Prelude.{ℕ, List, ◌++◌, map}
use Rattle.cluster_msgs.specs.declared.messages.Down.{Down}
use Rattle.cluster_msgs.specs.declared.messages.Up.{Up}
use Rattle.cluster_msgs.specs.declared.messages.ToClient.{ToClient}
use Rattle.cluster_msgs.specs.declared.messages.FromClient.{FromClient}
use Rattle.cluster_msgs.specs.declared.messages.Message.{Message}
use Rattle.cluster_msgs.specs.declared.messages.Message.TheVariants as message

abbrev pub downs : List Down → List Message
downs ms = map (λ m. message.Down m) ms

abbrev pub ups : List Up → List Message
ups ms = map (λ m. message.Up m) ms

abbrev pub to_clients : List ToClient → List Message
to_clients ms = map (λ m. message.ToClient m) ms

abbrev pub from_clients : List FromClient → List Message
from_clients ms = map (λ m. message.FromClient m) ms

-- each node gets its messages behind those that wait there
abbrev pub posted : (ℕ → List Message) → (ℕ → List Message) → ℕ → List Message
posted before sent = λ i. before i ++ sent i
