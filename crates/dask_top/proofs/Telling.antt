-- The line of a refusal is what is told of it.
use Rattle.std.proofs.Common.{◌≡◌, ℕ, List, subst}
use Rattle.io_edge.specs.View.{View}
use Rattle.dask_top.specs.declared.answer.End.{End}
use Rattle.dask_top.specs.declared.answer.End.TheVariants.{Words, Job, Limit, Graph, Events, Done, File, Zero, Killed, ReadFault, WriteFault, OutOfMemory}
use Rattle.dask_top.specs.Ends.{GetsLine, Notes, line_of}
use Rattle.dask_top.specs.Reading.{Reading}
use Rattle.dask_top.specs.Telling.{IsRefusal}

refusal_notes : (reading : Reading) (old new : View) (end : End) → IsRefusal end → GetsLine (line_of reading end) old new → Notes reading old new end
refusal_notes reading old new (Job error) is gets = gets
refusal_notes reading old new (Limit quantity) is gets = gets
refusal_notes reading old new (File place error) is gets = gets
refusal_notes reading old new (Zero node block) is gets = gets
refusal_notes reading old new (Killed key losses) is gets = gets
refusal_notes reading old new (Graph quantity) is gets = gets
refusal_notes reading old new Done is gets = absurd is
refusal_notes reading old new ReadFault is gets = absurd is
refusal_notes reading old new WriteFault is gets = absurd is
refusal_notes reading old new OutOfMemory is gets = absurd is
refusal_notes reading old new Words is gets = absurd is
refusal_notes reading old new Events is gets = absurd is

pub printed_notes : (line : List ℕ) (reading : Reading) (old new : View) (end : End) → IsRefusal end → GetsLine line old new → line ≡ line_of reading end → Notes reading old new end
printed_notes line reading old new end is gets same = let P : List ℕ → Type 0 = λ l. GetsLine l old new in refusal_notes reading old new end is (subst P same gets)
