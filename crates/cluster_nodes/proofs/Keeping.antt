-- Lists stay as long as they must be, and links carry messages of their own kind.
use Rattle.std.proofs.Common.{◌≡◌, ℕ, ◌+◌, Bool, List, Option, sym, ap, ◌∙◌, length}
use Rattle.std.specs.declared.sync.Arc.{Arc}
use Rattle.std.specs.declared.vec.Vec.{Vec}
use Rattle.std.specs.declared.alloc.Global.{Global}
use Rattle.cluster_msgs.specs.declared.messages.Message.{Message}
use Rattle.fact_rows.specs.Rows.{width, height}
use Rattle.gather_client.specs.CoreState.{CoreState}
use Rattle.message_queues.specs.Transit.{AreRequests, AreAnswers}
use Rattle.message_queues.specs.declared.transit.InTransit.{InTransit}
use Rattle.worker_core.specs.Core.{Core}
use Rattle.cluster_nodes.specs.declared.nodes.Nodes.{Nodes}
use Rattle.cluster_nodes.specs.Kept.{AreWorkersOver, AreClientsOver, IsSized, IsNodes}

module _ {B : Type 0} (old : Nodes B) where
  pub sized_links : (d u t x : List (List Message)) → length d ≡ length old.down → length u ≡ length old.up → length t ≡ length old.to_client → length x ≡ length old.from_client
      → IsSized old → IsSized (record old { down = d; up = u; to_client = t; from_client = x })
  sized_links d u t x a b c e s = record {
    alive = s.alive;
    spilled = s.spilled;
    down = a ∙ s.down;
    up = b ∙ s.up;
    held = s.held;
    inputs = s.inputs;
    to_client = c ∙ s.to_client;
    from_client = e ∙ s.from_client;
    got = s.got;
    spilled_keys = s.spilled_keys;
    held_keys = s.held_keys;
    inputs_keys = s.inputs_keys;
    got_keys = s.got_keys;
    workers = s.workers;
    clients = s.clients;
  }

  pub sized_worker : (ws : Vec Core Global) (sp : ℕ × List (List Bool)) (hd : ℕ × List (List (Option (Arc B Global)))) (u : List (List Message)) (r : List (InTransit B))
      → length ws.items ≡ length old.workers.items → height sp ≡ height old.spilled → width sp ≡ width old.spilled → height hd ≡ height old.held → width hd ≡ width old.held → length u ≡ length old.up
      → AreWorkersOver old.shape ws.items → IsSized old → IsSized (record old { workers = ws; spilled = sp; held = hd; up = u; requests = r })
  sized_worker ws sp hd u r l a b c d e o s = record {
    alive = s.alive ∙ sym l;
    spilled = a ∙ s.spilled ∙ sym l;
    down = s.down ∙ sym l;
    up = e ∙ s.up ∙ sym l;
    held = c ∙ s.held ∙ sym l;
    inputs = s.inputs ∙ sym l;
    to_client = s.to_client;
    from_client = s.from_client;
    got = s.got;
    spilled_keys = b ∙ s.spilled_keys;
    held_keys = d ∙ s.held_keys;
    inputs_keys = s.inputs_keys;
    got_keys = s.got_keys;
    workers = o;
    clients = s.clients;
  }

  pub sized_client : (cs : Vec CoreState Global) (gt : ℕ × List (List (Option (Arc B Global)))) (x : List (List Message)) (r : List (InTransit B))
      → length cs.items ≡ length old.clients.items → height gt ≡ height old.got → width gt ≡ width old.got → length x ≡ length old.from_client
      → AreClientsOver old.shape cs.items → IsSized old → IsSized (record old { clients = cs; got = gt; from_client = x; requests = r })
  sized_client cs gt x r l a b e o s = record {
    alive = s.alive;
    spilled = s.spilled;
    down = s.down;
    up = s.up;
    held = s.held;
    inputs = s.inputs;
    to_client = s.to_client ∙ sym l;
    from_client = e ∙ s.from_client ∙ sym l;
    got = a ∙ s.got ∙ sym l;
    spilled_keys = s.spilled_keys;
    held_keys = s.held_keys;
    inputs_keys = s.inputs_keys;
    got_keys = b ∙ s.got_keys;
    workers = s.workers;
    clients = o;
  }

  pub sized_lost : (al : List Bool) (sp : ℕ × List (List Bool)) (hd : ℕ × List (List (Option (Arc B Global))))
      → length al ≡ length old.alive → height sp ≡ height old.spilled → width sp ≡ width old.spilled → height hd ≡ height old.held → width hd ≡ width old.held
      → IsSized old → IsSized (record old { alive = al; spilled = sp; held = hd })
  sized_lost al sp hd a b c d e s = record {
    alive = a ∙ s.alive;
    spilled = b ∙ s.spilled;
    down = s.down;
    up = s.up;
    held = d ∙ s.held;
    inputs = s.inputs;
    to_client = s.to_client;
    from_client = s.from_client;
    got = s.got;
    spilled_keys = c ∙ s.spilled_keys;
    held_keys = e ∙ s.held_keys;
    inputs_keys = s.inputs_keys;
    got_keys = s.got_keys;
    workers = s.workers;
    clients = s.clients;
  }

  pub sized_spilled : (st : Bool) (sp : ℕ × List (List Bool)) → height sp ≡ height old.spilled → width sp ≡ width old.spilled → IsSized old → IsSized (record old { strays = st; spilled = sp })
  sized_spilled st sp b c s = record {
    alive = s.alive;
    spilled = b ∙ s.spilled;
    down = s.down;
    up = s.up;
    held = s.held;
    inputs = s.inputs;
    to_client = s.to_client;
    from_client = s.from_client;
    got = s.got;
    spilled_keys = c ∙ s.spilled_keys;
    held_keys = s.held_keys;
    inputs_keys = s.inputs_keys;
    got_keys = s.got_keys;
    workers = s.workers;
    clients = s.clients;
  }

  pub sized_moving : (r a : List (InTransit B)) → IsSized old → IsSized (record old { requests = r; answers = a })
  sized_moving r a s = record {
    alive = s.alive;
    spilled = s.spilled;
    down = s.down;
    up = s.up;
    held = s.held;
    inputs = s.inputs;
    to_client = s.to_client;
    from_client = s.from_client;
    got = s.got;
    spilled_keys = s.spilled_keys;
    held_keys = s.held_keys;
    inputs_keys = s.inputs_keys;
    got_keys = s.got_keys;
    workers = s.workers;
    clients = s.clients;
  }

  pub nodes_moving : (r a : List (InTransit B)) → AreRequests r → AreAnswers a → IsNodes old → IsNodes (record old { requests = r; answers = a })
  nodes_moving r a x y n = record { sized = sized_moving r a n.sized; sorted = record { down = n.sorted.down; up = n.sorted.up; to_client = n.sorted.to_client; from_client = n.sorted.from_client; requests = x; answers = y }; tidy = n.tidy }

  pub sized_inputs : (ins : ℕ × List (List (Option (List (Arc B Global))))) → height ins ≡ height old.inputs → width ins ≡ width old.inputs → IsSized old → IsSized (record old { inputs = ins })
  sized_inputs ins a b s = record {
    alive = s.alive;
    spilled = s.spilled;
    down = s.down;
    up = s.up;
    held = s.held;
    inputs = a ∙ s.inputs;
    to_client = s.to_client;
    from_client = s.from_client;
    got = s.got;
    spilled_keys = s.spilled_keys;
    held_keys = s.held_keys;
    inputs_keys = b ∙ s.inputs_keys;
    got_keys = s.got_keys;
    workers = s.workers;
    clients = s.clients;
  }

  one_more : (m n : ℕ) → m ≡ n → m + 1 ≡ n + 1
  one_more m n e = ap (λ z. z + 1) e

  pub sized_joined : (ws : Vec Core Global) (al : List Bool) (sp : ℕ × List (List Bool)) (d u : List (List Message)) (hd : ℕ × List (List (Option (Arc B Global)))) (ins : ℕ × List (List (Option (List (Arc B Global)))))
      → length ws.items ≡ length old.workers.items + 1 → length al ≡ length old.alive + 1 → height sp ≡ height old.spilled + 1 → width sp ≡ width old.spilled
      → length d ≡ length old.down + 1 → length u ≡ length old.up + 1 → height hd ≡ height old.held + 1 → width hd ≡ width old.held → height ins ≡ height old.inputs + 1 → width ins ≡ width old.inputs
      → AreWorkersOver old.shape ws.items → IsSized old → IsSized (record old { workers = ws; alive = al; spilled = sp; down = d; up = u; held = hd; inputs = ins })
  sized_joined ws al sp d u hd ins l a b bw p q h hw x xw o s = record {
    alive = a ∙ one_more _ _ s.alive ∙ sym l;
    spilled = b ∙ one_more _ _ s.spilled ∙ sym l;
    down = p ∙ one_more _ _ s.down ∙ sym l;
    up = q ∙ one_more _ _ s.up ∙ sym l;
    held = h ∙ one_more _ _ s.held ∙ sym l;
    inputs = x ∙ one_more _ _ s.inputs ∙ sym l;
    to_client = s.to_client;
    from_client = s.from_client;
    got = s.got;
    spilled_keys = bw ∙ s.spilled_keys;
    held_keys = hw ∙ s.held_keys;
    inputs_keys = xw ∙ s.inputs_keys;
    got_keys = s.got_keys;
    workers = o;
    clients = s.clients;
  }
