use Rattle.std.proofs.Common.{◌≤◌, sym, subst, rules}
use Rattle.io_edge.proofs.OpeningLaws.{raised_bounds}
use Rattle.io_edge.proofs.SpillLaws.{takes_written}
use Rattle.io_edge.specs.declared.spills.Disks.{Disks}
use Rattle.io_edge.proofs.spills.note_puts.Goals as goal

pub returns-in-Some-clause-takes : goal.returns-in-Some-clause-takes
returns-in-Some-clause-takes c =
    let d : Disks = c.in-Some.disks.now in
    let w : Disks = record { asked = d.asked; puts = c.raise-disks.result } in
    takes_written c.args.worker 0 c.args.book.now (c.get_mut.follows.lender w) d w (sym c.in-Some.ensures.value) ((c.get_mut.follows.holds w).3 (search rules))
    (subst (λ n. d.puts ≤ n) (sym c.raise-disks.ensures) (raised_bounds d.puts c.args.puts).0)
