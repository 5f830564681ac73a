-- What is posted, where a packet more is given to a port, or the first that waits is sent.
use Rattle.std.proofs.Common.{◌≡◌, List, [], ◌∷◌, ◌++◌, sym, ap, ◌∙◌, append_assoc, Option, Some, None}
use Rattle.cluster_msgs.specs.declared.packets.Packet.{Packet}
use Rattle.node_links.specs.Links.{posted, Begins}

module _ {B : Type 0} where
  -- a packet behind those that wait
  pub behind : (sent : List (Packet B)) (x : Packet B) (waiting : List (Packet B)) (y : Packet B) → posted sent (Some x) (waiting ++ y ∷ []) ≡ posted sent (Some x) waiting ++ y ∷ []
  behind sent x waiting y = sym (append_assoc sent (x ∷ waiting) (y ∷ []))

  -- the first is sent, and the next is the first
  pub next : (sent : List (Packet B)) (x y : Packet B) (waiting : List (Packet B)) → posted (sent ++ x ∷ []) (Some y) waiting ≡ posted sent (Some x) (y ∷ waiting)
  next sent x y waiting = append_assoc sent (x ∷ []) (y ∷ waiting)

  begins_more : (sent got more : List (Packet B)) → Begins sent got → Begins (sent ++ more) got
  begins_more sent got more b = (b.0 ++ more, ap (λ l. l ++ more) b.1 ∙ append_assoc got b.0 more)

  pub begins_posted : (sent got : List (Packet B)) (first : Option (Packet B)) (waiting : List (Packet B)) → Begins sent got → Begins (posted sent first waiting) got
  begins_posted sent got None waiting b = begins_more sent got waiting b
  begins_posted sent got (Some x) waiting b = begins_more sent got (x ∷ waiting) b
