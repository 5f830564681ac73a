use Rattle.std.proofs.Common.{◌≡◌, ◌∙◌, Some, ap, sym, length}
use Rattle.std.specs.Option.{option_copied}
use Rattle.cluster_rules.specs.Worker.{ask_to}
use Rattle.open_asks.proofs.AskLemmas.{within, all_copied, marked_within}
use Rattle.open_asks.proofs.asks.Asks.items.Goals as goal

pub returns-in-Some-clause-keys : goal.returns-in-Some-clause-keys
returns-in-Some-clause-keys c =
    let a = c.self.inside in
    let found : ask_to a.asks.items c.args.peer ≡ Some c.in-Some.ask.now = ap (λ xs. ask_to xs c.args.peer) (sym c.as_slice.ensures.value) ∙ sym c.find_ask.ensures ∙ ap option_copied c.in-Some.is in
    rw (← c.self.view_is) (all_copied (λ v. v.items) c.in-Some.ask.now.items (length a.flying) c.items_of.result (within a.asks.items c.args.peer c.in-Some.ask.now (length a.flying) found (λ k e. marked_within a.flying a.asks.items k (c.self.invariant.flying k) e)) c.items_of.ensures.same)
