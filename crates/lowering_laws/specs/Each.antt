-- What holds of every job.
use Rattle.std.specs.Prelude.{ℕ, ℤ, ◌<◌, List, length, All}
use Rattle.array_expr.specs.declared.expr.Node.{Node}
use Rattle.array_expr.specs.Node.{IsExpression}
use Rattle.lowering_laws.specs.Built.{AreBuilt}

-- of each expression, with saves that name its nodes
abbrev pub OfEachJob : (List Node → List ℕ → Type 0) → Type 0
OfEachJob P = (nodes : List Node) (saves : List ℕ) → IsExpression nodes → All (λ n. n < length nodes) saves → P nodes saves

-- and for each content of its inputs, where its numbers are int64
abbrev pub OfEachRun : ((ℕ → List ℕ → ℤ) → List Node → List ℕ → Type 0) → Type 0
OfEachRun P =
    (files : ℕ → List ℕ → ℤ) (nodes : List Node) (saves : List ℕ) → IsExpression nodes → AreBuilt nodes
    → All (λ n. n < length nodes) saves → P files nodes saves
