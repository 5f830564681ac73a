use Rattle.std.proofs.Common.{arith, sym, length, get_or, eq-eqb}
use Rattle.std.specs.Prelude.{nat_eq}
use Rattle.std.proofs.lemmas.List.Sums.{position_or_len_is}
use Rattle.block_lowering.proofs.lists.place_in_list.Goals as goal

pub returns-then-axis-k : goal.returns-then-axis-k
returns-then-axis-k c =
    sym (position_or_len_is (nat_eq c.args.axis) c.args.axes.now c.loop-place.place 0 (omega arith) c.loop-place.invariant (λ h. eq-eqb c.args.axis (get_or c.args.axes.now c.loop-place.place 0) c.if-axis-k.true))

pub returns : goal.returns
returns c =
    sym (position_or_len_is (nat_eq c.args.axis) c.args.axes.now (length c.args.axes.now) 0 (omega arith) (λ k h. c.loop-place.invariant k (omega arith)) (λ h. absurd (omega arith)))
