use Rattle.std.proofs.Common.{arith, ℕ, ◌%◌, ◌^◌, ◌-◌, Some, ap, sym, ◌∙◌, subst, w64}
use Rattle.std.specs.Int.{leading_zeros}
use Rattle.std.proofs.Math.Nat.{mod-le}
use Rattle.key_sets.specs.Sets.{bit, IsLast}
use Rattle.key_sets.proofs.BitLemmas.{no_last, last_low, one_shl}
use Rattle.key_sets.proofs.bits.highest_below.Goals as goal

pub returns-then-rest-eq0 : goal.returns-then-rest-eq0
returns-then-rest-eq0 c = no_last c.args.word c.args.place (sym (ap (λ m. c.args.word % m) (one_shl c.args.place c.requires)) ∙ c.if-rest-eq0.true)

pub returns-else-rest-eq0 : goal.returns-else-rest-eq0
returns-else-rest-eq0 c =
    let e = one_shl c.args.place c.requires in
    let small = mod-le c.args.word (2 ^ c.args.place) in
    subst (λ (m : ℕ). IsLast (bit c.args.word) c.args.place (Some (63 - leading_zeros w64 (c.args.word % m)))) (sym e)
    (last_low c.args.word c.args.place c.requires (omega (arith, ap (λ m. c.args.word % m) e)) (omega arith))
