-- What is left of a text, and what was left when the step began.
use Rattle.std.specs.Prelude.{List}
use Rattle.grammar.specs.declared.symbol.Symbol.{Symbol}

pub record Pending : Type 0 where
  pub left : List Symbol
  pub base : List Symbol
