use Rattle.std.proofs.Common.{◌≡◌, ◌++◌, take, string_bytes}
use Rattle.dask_top.specs.Telling.{rest_of}
use Rattle.dask_top.proofs.tell.push_rest.Given as goal

abbrev pub invariant-loop-number : goal.invariant-loop-number
invariant-loop-number l = string_bytes l.text ≡ string_bytes l.fn.text ++ rest_of (take l.number-index l.numbers)
