use Rattle.std.proofs.Common.{ℕ, ◌≤◌, length, sym, subst}
use Rattle.block_kernels.proofs.Filling.{none-map, some-map}
use Rattle.block_kernels.proofs.Divisors.{some-both, none-zero, count-inside, count-zero, count-first}
use Rattle.block_kernels.proofs.binary.first_zero.Goals as goal

pub zero_in-requires : goal.zero_in-requires
zero_in-requires c = subst (λ (n : ℕ). n ≤ length c.args.divisors.cells.now) (sym c.count_of-count.ensures) c.requires.holds

pub returns-clause-none : goal.returns-clause-none
returns-clause-none c = none-map c.zero_in.result (none-zero c.args.divisors.cells.now c.args.divisors.single c.args.len c.count_of-count.result c.count_of-count.ensures c.requires.some) c.zero_in.ensures.none

pub returns-clause-inside : goal.returns-clause-inside
returns-clause-inside c = some-map c.zero_in.result (count-inside c.args.divisors.single c.args.len c.count_of-count.result c.count_of-count.ensures c.requires.some) c.zero_in.ensures.inside

pub returns-clause-zero : goal.returns-clause-zero
returns-clause-zero c = some-both c.zero_in.result c.zero_in.ensures.inside c.zero_in.ensures.zero (count-zero c.args.divisors.cells.now c.args.divisors.single c.args.len c.count_of-count.result c.count_of-count.ensures)

pub returns-clause-first : goal.returns-clause-first
returns-clause-first c = some-both c.zero_in.result c.zero_in.ensures.inside c.zero_in.ensures.first (count-first c.args.divisors.cells.now c.args.divisors.single c.args.len c.count_of-count.result c.count_of-count.ensures)
