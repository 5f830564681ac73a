use Rattle.std.proofs.Common.{None, sym, ap, ◌∙◌, get_or, take}
use Rattle.std.proofs.lemmas.List.{take_more}
use Rattle.fact_rows.specs.Rows.{read}
use Rattle.sched_facts.specs.Derived.{first_some}
use Rattle.sched_facts.proofs.DeriveLemmas.{first_some-push}
use Rattle.sched_facts.proofs.derived.first_blame.Goals as goal

pub loop-key-preserved : goal.loop-key-preserved
loop-key-preserved c =
    let r = read c.args.row.now None in
    let xs = c.args.keys.now in
    let i = c.loop-key.key-index in
    rw (c.or-found.ensures, c.read.ensures, c.loop-key.invariant) (sym (ap (first_some r) (take_more xs i 0 c.loop-key-test.true) ∙ first_some-push r (take i xs) (get_or xs i 0)))
