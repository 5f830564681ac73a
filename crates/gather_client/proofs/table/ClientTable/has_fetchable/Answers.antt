use Rattle.std.proofs.Common.{◌∙◌, ℕ, ap, sym, arith, is_some}
use Rattle.cluster_msgs.specs.Shape.{key_count}
use Rattle.cluster_rules.specs.Worker.{item_at}
use Rattle.cluster_rules.specs.Client.{is_open, client_fetchable, client_keys}
use Rattle.gather_client.proofs.PeerLemmas.{unnamed}
use Rattle.gather_client.proofs.TableLemmas.{any_below, any_push, any_picked, any-gap}
use Rattle.gather_client.specs.Stored.{facts_of}
use Rattle.gather_client.specs.Steps.{open_item}
use Rattle.gather_client.proofs.table.ClientTable.has_fetchable.Goals as goal

pub returns-then-is_some : goal.returns-then-is_some
unfolding client_fetchable
returns-then-is_some c =
    let f = facts_of c.args.self.now in
    sym (any_picked (λ (k : ℕ). item_at c.args.peer k (f.located k)) (is_open f) (client_keys f)
    ∙ any_below (λ (k : ℕ). is_some (open_item f c.args.peer k)) c.in-Some.key (key_count f.shape) c.in-Some.ensures.1 (ap is_some (sym c.open_item.ensures) ∙ sym c.is_some.ensures ∙ c.if-is_some.true))

pub keys-preserved : goal.keys-preserved
keys-preserved c =
    let f = facts_of c.args.self.now in
    let first = c.in-Some.ensures in
    record {
      none = any_push (λ (k : ℕ). is_some (open_item f c.args.peer k)) c.in-Some.key
          (any-gap (λ (k : ℕ). is_some (open_item f c.args.peer k)) c.keys.from c.in-Some.key first.0 (λ j l m. ap is_some (unnamed f c.args.peer j (first.2 j l m))) ∙ c.keys.invariant.none)
          (ap is_some (sym c.open_item.ensures) ∙ sym c.is_some.ensures ∙ c.if-is_some.false);
      low = omega (arith, first.1);
    }

pub returns : goal.returns
unfolding client_fetchable
returns c =
    let f = facts_of c.args.self.now in
    sym (any_picked (λ (k : ℕ). item_at c.args.peer k (f.located k)) (is_open f) (client_keys f)
    ∙ any-gap (λ (k : ℕ). is_some (open_item f c.args.peer k)) c.keys.from (key_count f.shape) c.keys.invariant.low (λ j l m. ap is_some (unnamed f c.args.peer j (c.in_default.ensures j l m)))
    ∙ c.keys.invariant.none)
