use Rattle.std.proofs.Common.{subst}
use Rattle.small_facts.proofs.Results.{on_err_from}
use Rattle.job_run.specs.Grouping.{waiting_of}
use Rattle.job_run.specs.Jobs.{plan_of}
use Rattle.saved_files.specs.Saving.{FillsAll, FillsSome, saving_at}
use Rattle.job_run.proofs.WaitingBlocks.{held-failed, held-written}
use Rattle.job_run.proofs.group.write_group.Goals as goal

pub returns-in_err-write_all-clause-right : goal.returns-in_err-write_all-clause-right
returns-in_err-write_all-clause-right g c =
    let w = waiting_of c.args.group.now in
    let fills = subst (λ rs. FillsSome rs w.blocks (saving_at c.args.files.now w.place) (saving_at c.write_all.new.self w.place)) c.as_slice.ensures.value
    (subst (λ bs. FillsSome c.as_slice.result.now bs (saving_at c.args.files.now w.place) (saving_at c.write_all.new.self w.place)) c.as_slice-2.ensures.value c.in_err-write_all.ensures.part) in
    on_err_from c.from_residual.result (λ named boxes held. held-failed (plan_of c.args.job.now) named boxes w c.args.files.now c.write_all.new.self c.requires.runs c.nodes-nodes.ensures.sound c.requires.open c.write_all.ensures.changes fills held)

pub returns-clause-held : goal.returns-clause-held
returns-clause-held g c named boxes held =
    let w = waiting_of c.args.group.now in
    let fills = subst (λ rs. FillsAll rs w.blocks (saving_at c.args.files.now w.place) (saving_at c.write_all.new.self w.place)) c.as_slice.ensures.value
    (subst (λ bs. FillsAll c.as_slice.result.now bs (saving_at c.args.files.now w.place) (saving_at c.write_all.new.self w.place)) c.as_slice-2.ensures.value c.in_ok-write_all.ensures.filled) in
    held-written (plan_of c.args.job.now) named boxes w c.args.files.now c.write_all.new.self c.requires.runs c.nodes-nodes.ensures.sound c.requires.open c.write_all.ensures.changes fills held
