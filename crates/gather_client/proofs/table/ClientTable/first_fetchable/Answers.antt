use Rattle.std.proofs.Common.{◌+◌, ◌∙◌, ℕ, ap, sym, arith, length}
use Rattle.std.proofs.lemmas.List.{take_all}
use Rattle.cluster_msgs.specs.Shape.{key_count}
use Rattle.cluster_rules.specs.Worker.{item_at}
use Rattle.cluster_rules.specs.Client.{is_open, client_fetchable}
use Rattle.gather_client.proofs.AskLemmas.{front_kept, kept_more, at_most_one}
use Rattle.gather_client.proofs.PeerLemmas.{unnamed}
use Rattle.gather_client.proofs.TableLemmas.{picked-gap}
use Rattle.gather_client.specs.Stored.{facts_of}
use Rattle.gather_client.proofs.table.ClientTable.first_fetchable.Goals as goal

pub keys-preserved : goal.keys-preserved
keys-preserved c =
    let f = facts_of c.args.self.now in
    let first = c.in-Some.ensures in
    record {
      made = kept_more (λ (k : ℕ). item_at c.args.peer k (f.located k)) (is_open f) c.keys.from c.in-Some.key _ _ c.open_item.result first.0 (λ j l m. unnamed f c.args.peer j (first.2 j l m)) c.keys.invariant.made c.open_item.ensures c.in_ok-push_item.ensures.ok;
      few = omega (arith, c.if-len-ge-ASK_KEYS.false, c.len.ensures);
      low = omega (arith, first.1);
    }

pub returns-then-len-ge-ASK_KEYS : goal.returns-then-len-ge-ASK_KEYS
unfolding client_fetchable
returns-then-len-ge-ASK_KEYS c =
    let f = facts_of c.args.self.now in
    let first = c.in-Some.ensures in
    let made = kept_more (λ (k : ℕ). item_at c.args.peer k (f.located k)) (is_open f) c.keys.from c.in-Some.key _ _ c.open_item.result first.0 (λ j l m. unnamed f c.args.peer j (first.2 j l m)) c.keys.invariant.made c.open_item.ensures c.in_ok-push_item.ensures.ok in
    made
    ∙ front_kept (λ (k : ℕ). item_at c.args.peer k (f.located k)) (is_open f) (c.in-Some.key + 1) (key_count f.shape) 16 (omega (arith, first.1))
    (sym (ap length made) ∙ omega (arith, c.if-len-ge-ASK_KEYS.true, c.len.ensures, c.keys.invariant.few, at_most_one _ _ _ c.in_ok-push_item.ensures.ok))

pub returns : goal.returns
unfolding client_fetchable
returns c =
    let f = facts_of c.args.self.now in
    let all = c.keys.invariant.made ∙ sym (picked-gap (λ (k : ℕ). item_at c.args.peer k (f.located k)) (is_open f) c.keys.from (key_count f.shape) c.keys.invariant.low (λ j l m. unnamed f c.args.peer j (c.in_default.ensures j l m))) in
    all ∙ sym (take_all 16 _ (omega (arith, c.keys.invariant.few, ap length all)))
