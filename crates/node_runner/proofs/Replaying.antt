-- Replays of cores are replays of their facts.
use Rattle.std.proofs.Common.{List, [], ◌∷◌, ◌++◌, sym, ap, subst}
use Rattle.std.specs.Prelude.{Option, Some, None}
use Rattle.cluster_msgs.specs.declared.events.Entry.{Entry}
use Rattle.cluster_msgs.specs.declared.events.Event.{Event}
use Rattle.cluster_msgs.specs.declared.messages.Message.{Message}
use Rattle.turn_cell.specs.Histories.{Replays}
use Rattle.node_links.specs.Books.{Steps, StepsBy}

module _ {C D E : Type 0} (f : C → D) (says : C → Event → Option Message → Option E → Type 0) (by : C → E → C → Type 0)
    (says_of : D → Event → Option Message → Option E → Type 0) (by_of : D → E → D → Type 0) (I : C → Type 0)
    (tells : (c : C) (event : Event) (message : Option Message) (o : Option E) → I c → says c event message o → says_of (f c) event message o)
    (goes : (c : C) (e : E) (d : C) → I c → by c e d → I d × by_of (f c) e (f d)) where
  stepped : (o : Option E) (c d : C) → I c → StepsBy by o c d → I d × StepsBy by_of o (f c) (f d)
  stepped None c d i s = (subst I (sym s) i, ap f s)
  stepped (Some e) c d i s = goes c e d i s

  -- along the entries what holds of the first core goes on to hold
  pub replays_of : (c : C) (es : List Entry) (d : C) → I c → Replays (Steps says by) c es d → I d × Replays (Steps says_of by_of) (f c) es (f d)
  replays_of c [] d i r = (subst I r i, ap f r)
  replays_of c (e ∷ es) d i r =
      let o = r.1.0 in
      let s = stepped o c r.0 i r.1.2 in
      let t = replays_of r.0 es d s.0 r.2 in
      (t.0, (f r.0, (o, tells c e.event e.message o i r.1.1, s.1), t.1))

-- one after the other
pub replays_on : {F : Type 0} (steps : F → Entry → F → Type 0) (a : F) (es : List Entry) (b : F) (fs : List Entry) (c : F)
    → Replays steps a es b → Replays steps b fs c → Replays steps a (es ++ fs) c
replays_on steps a [] b fs c r s = subst (λ x. Replays steps x fs c) (sym r) s
replays_on steps a (e ∷ es) b fs c r s = (r.0, r.1, replays_on steps r.0 es b fs c r.2 s)
