use Rattle.std.proofs.Common.{◌≡◌, ℕ, List, ◌++◌, length, take, drop, ap, sym, ◌∙◌, arith, Bool}
use Rattle.std.proofs.lemmas.List.{take-append-le, take_all}
use Rattle.node_reach.specs.Marks.{marked}
use Rattle.node_reach.proofs.Marking.{marked-reaches, reaches-marked}
use Rattle.node_reach.proofs.marks.needed.Goals as goal

written-back : (n : ℕ) (new rest : List Bool) → length new ≡ n → take n (new ++ rest) ≡ new
written-back n new rest e = take-append-le n new rest (omega (arith, e)) ∙ take_all n new (omega (arith, e))

pub returns-clause-reached : goal.returns-clause-reached
returns-clause-reached c =
    let new = c.mark_needed.new.marks in
    let l : length new ≡ c.in_ok-room.room.len = omega (arith, c.mark_needed.ensures.grows.count, c.mark_all.ensures.count, ap length c.as_mut_slice-marks.ensures.value, c.in_ok-room.room.ok) in
    let same = written-back c.in_ok-room.room.len new (drop (length new) c.in_ok-room.room.items) l in
    λ n e. marked-reaches c.args.expr.now c.args.roots.now _ _ _ new (c.as_mut_slice-marks.ensures.value ∙ c.in_ok-room.ensures.items_if_clones_equal (λ y h. h)) c.mark_all.ensures (rw c.nodes-nodes.ensures.value at c.mark_needed.ensures.grows) n (ap (λ xs. marked xs n) (sym same) ∙ e)

pub returns-clause-all : goal.returns-clause-all
returns-clause-all c =
    let new = c.mark_needed.new.marks in
    let l : length new ≡ c.in_ok-room.room.len = omega (arith, c.mark_needed.ensures.grows.count, c.mark_all.ensures.count, ap length c.as_mut_slice-marks.ensures.value, c.in_ok-room.room.ok) in
    let same = written-back c.in_ok-room.room.len new (drop (length new) c.in_ok-room.room.items) l in
    λ n r. ap (λ xs. marked xs n) same ∙ reaches-marked c.args.expr.now c.args.roots.now _ _ _ new (c.as_mut_slice-marks.ensures.value ∙ c.in_ok-room.ensures.items_if_clones_equal (λ y h. h)) c.mark_all.ensures (rw c.nodes-nodes.ensures.value at c.mark_needed.ensures.grows) (rw c.nodes-nodes.ensures.value at c.mark_needed.ensures.operands) n r
