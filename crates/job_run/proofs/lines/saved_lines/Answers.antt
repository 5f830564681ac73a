use Rattle.std.proofs.Common.{◌≡◌, ◌≤◌, ℕ, List, ◌<◌, ◌++◌, ◌∙◌, ap, sym, subst, length, get_or, arith}
use Rattle.std.proofs.lemmas.List.{length-map}
use Rattle.job_plan.specs.declared.job.Save.{Save}
use Rattle.job_run.specs.Jobs.{saved_of}
use Rattle.job_run.specs.Values.{saved_line}
use Rattle.job_run.proofs.SavesList.{lines_more, lines_whole, saved_node}
use Rattle.job_run.proofs.lines.saved_lines.Goals as goal

pub push_line-requires : goal.push_line-requires
push_line-requires c =
    let saves = c.args.job.now.saves.items in
    let e = c.deref-save-items.ensures.value in
    let L : List Save → Type 0 = λ l. c.loop-save.save-index < length l in
    let I : List Save → Type 0 = λ l. c.save-item.result ≡ get_or l c.loop-save.save-index c.save-item.result in
    let h = subst L e c.loop-save-test.true in
    let P : ℕ → Type 0 = λ n. n < length c.args.job.now.expr in
    subst P (saved_node saves c.loop-save.save-index c.save-item.result h (subst I e c.save-item.is)) (c.requires.saves c.loop-save.save-index (omega (arith, h, length-map saves saved_of)))

pub loop-save-preserved : goal.loop-save-preserved
loop-save-preserved c =
    let e = c.deref-save-items.ensures.value in
    let L : List Save → Type 0 = λ l. c.loop-save.save-index < length l in
    let I : List Save → Type 0 = λ l. c.save-item.result ≡ get_or l c.loop-save.save-index c.save-item.result in
    c.in_ok-push_line.ensures ∙ (ap (λ x. x ++ saved_line c.args.job.now.expr (saved_of c.save-item.result)) c.loop-save.invariant
    ∙ sym (lines_more c.args.job.now.expr c.args.job.now.saves.items c.loop-save.save-index c.save-item.result (subst L e c.loop-save-test.true) (subst I e c.save-item.is)))

pub returns : goal.returns
returns c =
    let e = c.deref-save-items.ensures.value in
    let L : List Save → Type 0 = λ l. length l ≤ c.loop-save.save-index in
    c.loop-save.invariant ∙ lines_whole c.args.job.now.expr c.args.job.now.saves.items c.loop-save.save-index (subst L e c.loop-save-test.false)
