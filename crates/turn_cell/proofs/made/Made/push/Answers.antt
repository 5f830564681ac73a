use Rattle.std.proofs.Common.{◌≡◌, ◌++◌, ◌∷◌, [], sym, subst}
use Rattle.turn_cell.specs.Rows.{AllAt, IsWhole}
use Rattle.turn_cell.proofs.Lists.{all_at_pushed, all_pushed, EachOf}
use Rattle.turn_cell.proofs.made.Made.push.Goals as goal

pub invariant_of-result-clause-pairs : goal.invariant_of-result-clause-pairs
invariant_of-result-clause-pairs g c =
    let s = c.args.self in
    subst (λ ps. AllAt (λ p c. c.table.shared.table_id ≡ p.seat.table_id) ps c.push_reserved.new.self.items) (sym c.push_reserved-2.ensures.items)
    (subst (λ cs. AllAt (λ p c. c.table.shared.table_id ≡ p.seat.table_id) (s.passes.items ++ c.args.pass ∷ []) cs) (sym c.push_reserved.ensures.items)
    (all_at_pushed (λ p c. c.table.shared.table_id ≡ p.seat.table_id) s.passes.items s.cells.items c.args.pass c.args.cell s.pairs c.requires.own))

pub invariant_of-result-clause-whole : goal.invariant_of-result-clause-whole
invariant_of-result-clause-whole g c =
    let s = c.args.self in
    subst (EachOf (λ p. IsWhole s.parts p.seat)) (sym c.push_reserved-2.ensures.items)
    (all_pushed (λ p. IsWhole s.parts p.seat) s.passes.items c.args.pass s.whole c.requires.whole)
