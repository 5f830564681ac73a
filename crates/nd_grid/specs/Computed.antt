-- What a call that fails says of the definition that it computes: nothing where memory ran out.
use Rattle.std.specs.Prelude.{◌≡◌, ℕ, Result, Err}
use Rattle.nd_grid.specs.declared.formula.Fail.{Fail}
use Rattle.nd_grid.specs.declared.formula.Fail.TheVariants.{ZeroDivide, OutOfMemory}

abbrev pub FailsAs : {A : Type 0} → Fail → Result A ℕ → Type 0
FailsAs OutOfMemory r = Unit {0}
FailsAs (ZeroDivide q) r = r ≡ Err q
