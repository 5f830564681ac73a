use Rattle.std.proofs.Common.{◌≡◌, ◌<◌, ◌∙◌, ℕ, All, ap, true, false, not}
use Rattle.std.proofs.lemmas.List.Elements.{All-filter}
use Rattle.cluster_msgs.specs.Shape.{key_count}
use Rattle.cluster_rules.specs.Derived.{is_in}
use Rattle.worker_core.proofs.CoreLemmas.{all_keys_of}
use Rattle.worker_core.proofs.CountLemmas.{same, same_arrived}
use Rattle.worker_facts.specs.Stored.{facts_of}
use Rattle.worker_core.specs.Core.{items_where}
use Rattle.worker_core.proofs.asking.answer.Goals as goal

pub arrive_all-requires : goal.arrive_all-requires
arrive_all-requires c =
    let n = key_count (facts_of c.args.table.now).shape in
    let came : All (λ i. i.0 < n) (items_where true c.args.items.now c.args.found.now) = All-filter (λ (i : ℕ × ℕ). is_in i.0 c.args.found.now) (λ i. i.0 < n) c.args.items.now c.requires in
    rw (c.as_slice-2.ensures, c.in_ok-keys.ensures, c.as_slice.ensures.value, c.in_ok-came.ensures, c.close_ask.ensures) (all_keys_of n (items_where true c.args.items.now c.args.found.now) came)

pub miss_all-requires : goal.miss_all-requires
miss_all-requires c =
    let n = key_count (facts_of c.args.table.now).shape in
    let missed : All (λ i. i.0 < n) (items_where false c.args.items.now c.args.found.now) = All-filter (λ (i : ℕ × ℕ). not (is_in i.0 c.args.found.now)) (λ i. i.0 < n) c.args.items.now c.requires in
    let closed = facts_of c.close_ask.new.self in
    let kept : key_count (facts_of c.arrive_all.new.table).shape ≡ n
    = ap (λ s. key_count s.facts.shape) c.in_ok-made.ensures ∙ ap key_count (same_arrived closed closed c.as_slice-2.result.now (same closed)).shape ∙ ap (λ f. key_count f.shape) c.close_ask.ensures in
    rw (c.as_slice-3.ensures.value, c.in_ok-missed.ensures, kept) missed
