-- The rule of a link: what was sent is what was received, and then what the queue holds.
-- One pass at most may push, and it has the list of what was sent. The same for pops.
use Rattle.std.specs.Prelude.{◌≡◌, ℕ, Bool, true, List, ◌∷◌, ◌++◌, length, Option, Some, None}
use mathlib.Core.Option.{some}
use lib.ListN.{get_elem?}
use Rattle.cluster_msgs.specs.declared.packets.Packet.{Packet}
use Rattle.node_links.specs.declared.rule.Known.{Known}

module _ {B : Type 0} where
  -- what a pass knows: whether it may push and pop, what it pushed, and what it popped
  abbrev pub log : Bool → Bool → List (Packet B) → List (Packet B) → Known B
  log a b sent got = record { pushes = a; pops = b; sent = sent; got = got }

  -- the pass that may push is the one writer, and has the list of what was sent; likewise the one reader
  abbrev pub Fits : ℕ → ℕ → List (Packet B) → List (Packet B) → ℕ → Known B → Type 0
  Fits writer reader sent got port v =
      (v.pushes ≡ true → (port ≡ writer) × (v.sent ≡ sent)) × (v.pops ≡ true → (port ≡ reader) × (v.got ≡ got))

  -- a queue that was full: all that it held was sent, and is the end of what was sent
  pub record WasFull (capacity : ℕ) (sent : List (Packet B)) : Type 0 where
    pub before : List (Packet B)
    pub held : List (Packet B)
    pub full : length held ≡ capacity
    pub sent_is : sent ≡ before ++ held

  -- what was sent is what was received, and then what the queue holds
  abbrev pub InOrder : List (Packet B) → List (Known B) → Type 0
  InOrder items views =
      (writer : ℕ) × (reader : ℕ) × (sent : List (Packet B)) × (got : List (Packet B)) × (sent ≡ got ++ items)
      × ((port : ℕ) (v : Known B) → get_elem? views port ≡ some v → Fits writer reader sent got port v)

  -- the second list begins the first
  abbrev pub Begins : List (Packet B) → List (Packet B) → Type 0
  Begins sent got = (rest : List (Packet B)) × (sent ≡ got ++ rest)

  -- what was given to a port: what its link was sent, and then what waits
  abbrev pub posted : List (Packet B) → Option (Packet B) → List (Packet B) → List (Packet B)
  posted sent None waiting = sent ++ waiting
  posted sent (Some x) waiting = sent ++ x ∷ waiting
