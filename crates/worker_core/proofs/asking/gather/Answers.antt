use Rattle.std.proofs.Common.{◌≡◌, ℕ, List, Option, Some, Vec, Global, sym, subst}
use Rattle.std.specs.Option.{option_map}
use Rattle.cluster_msgs.specs.Shape.{key_count}
use Rattle.cluster_rules.specs.Worker.{ask_to}
use Rattle.worker_core.proofs.CoreLemmas.{items_below}
use Rattle.open_asks.specs.Kept.{asked_items}
use Rattle.worker_facts.specs.Stored.{facts_of}
use Rattle.worker_core.proofs.asking.gather.Goals as goal

pub answer-requires : goal.answer-requires
answer-requires c =
    let f = facts_of c.args.table.now in
    let open_ask = ask_to f.asks c.args.peer in
    let is = c.in-Some.items.items in
    let there : ◌≡◌ {A = Option (List (ℕ × ℕ))} (Some is) (asked_items open_ask c.args.ask)
    = subst (λ (x : Option (Vec (ℕ × ℕ) Global)). option_map (λ (v : Vec (ℕ × ℕ) Global). v.items) x ≡ asked_items open_ask c.args.ask) c.in-Some.is c.in_ok-items.ensures in
    rw c.as_slice.ensures.value (items_below f.asks c.args.peer c.args.ask (key_count f.shape) is c.sound.ensures.named (sym there))
