use Rattle.std.proofs.Common.{arith, ◌≡◌, ◌+◌, ◌/◌, ◌^◌, w64}
use Rattle.std.specs.Int.{trailing_zeros}
use Rattle.key_sets.proofs.BitLemmas.{no_first, first_bit, first_within}
use Rattle.key_sets.proofs.bits.lowest_from.Goals as goal

pub returns-then-rest-eq0-clause-first : goal.returns-then-rest-eq0-clause-first
returns-then-rest-eq0-clause-first c = no_first c.args.word c.args.place c.if-rest-eq0.true

pub returns-else-rest-eq0-clause-first : goal.returns-else-rest-eq0-clause-first
returns-else-rest-eq0-clause-first c = first_bit c.args.word c.args.place (omega arith) (omega arith)

pub returns-else-rest-eq0-clause-within : goal.returns-else-rest-eq0-clause-within
returns-else-rest-eq0-clause-within c r e =
    let w = first_within c.args.word c.args.place (omega arith) (omega arith) in
    let s : c.args.place + trailing_zeros w64 (c.args.word / 2 ^ c.args.place) ≡ r = cc in
    omega arith
