use Rattle.std.proofs.Common.{arith, sym, length, get_or, eq-eqb}
use Rattle.std.specs.Prelude.{nat_eq}
use Rattle.std.proofs.lemmas.List.Sums.{position_or_len_is}
use Rattle.block_lowering.proofs.lists.place_of_key.Goals as goal

pub returns-then-key-other : goal.returns-then-key-other
returns-then-key-other c =
    sym (position_or_len_is (nat_eq c.args.key) c.args.keys.now c.loop-place.place 0 (omega arith) c.loop-place.invariant (λ h. eq-eqb c.args.key (get_or c.args.keys.now c.loop-place.place 0) c.if-key-other.true))

pub returns : goal.returns
returns c =
    sym (position_or_len_is (nat_eq c.args.key) c.args.keys.now (length c.args.keys.now) 0 (omega arith) (λ k h. c.loop-place.invariant k (omega arith)) (λ h. absurd (omega arith)))
