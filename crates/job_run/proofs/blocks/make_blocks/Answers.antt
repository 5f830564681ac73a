use Rattle.std.proofs.Common.{◌≡◌, ◌≤◌, ◌+◌, length, ap, refl, subst, ◌∙◌, rules, arith}
use Rattle.std.proofs.lemmas.Result.{err_from_is_err_and}
use Rattle.std.specs.Prelude.{List, Option, ℕ}
use Rattle.small_facts.proofs.Results.{on_err_from}
use Rattle.block_lowering.specs.Jobs.{TellsFeed}
use Rattle.lowering_laws.specs.Lowered.{lowered}
use Rattle.job_run.specs.Evaluating.{boxes_made}
use Rattle.job_run.specs.Grouping.{FilesHeld, waiting_of}
use Rattle.job_run.specs.Jobs.{plan_of}
use Rattle.job_run.specs.Plan.{nodes_saved}
use Rattle.job_run.specs.Values.{tasks_of}
use Rattle.job_run.proofs.FilledFiles.{hold-whole}
use Rattle.job_run.proofs.SavingSteps.{same-files}
use Rattle.job_run.proofs.WaitingBlocks.{group-none, held-none}
use Rattle.job_run.proofs.Halting.{cause-later, given-later}
use Rattle.job_run.proofs.KeyValues.{ends-whole}
use Rattle.job_run.proofs.blocks.make_blocks.Goals as goal

pub returns-in_err-make_block-clause-right : goal.returns-in_err-make_block-clause-right
returns-in_err-make_block-clause-right g c =
    let right = rw c.loop-name.invariant.next at (rw c.loop-name.invariant.job at c.in_err-make_block.ensures.right) in
    on_err_from c.from_residual.result (λ t. right (c.loop-name.invariant.tells.1 t) (c.loop-name.invariant.holds t))

pub returns-in_err-make_block-clause-cause : goal.returns-in_err-make_block-clause-cause
returns-in_err-make_block-clause-cause g c =
    let heads = c.args.evaluation.now.job.job.heads in
    let files = g.S.In.Store.files in
    let count = g.S.In.Store.count in
    let cause = rw c.loop-name.invariant.job at c.in_err-make_block.ensures.cause in
    let p = err_from_is_err_and c.from_residual.result c.from_residual.ensures.1 in
    rw (p.1, p.2)
    (cause-later (plan_of c.args.job.now) g.E.Elements.named (TellsFeed heads (files c.loop-name.evaluation.feed)) (TellsFeed heads (files c.args.evaluation.now.feed)) c.make_block.new.files
    (count c.loop-name.evaluation.feed) (count c.args.evaluation.now.feed) (count c.make_block.new.evaluation.feed) c.in_err-make_block.field-0.0 c.loop-name.invariant.tells.1 c.loop-name.invariant.reads cause)

pub returns-in_err-make_block-clause-given : goal.returns-in_err-make_block-clause-given
returns-in_err-make_block-clause-given g c =
    let names = g.S.In.Store.names in
    let given = rw c.loop-name.invariant.job at c.in_err-make_block.ensures.given in
    let p = err_from_is_err_and c.from_residual.result c.from_residual.ensures.1 in
    rw (p.1, p.2)
    (given-later (plan_of c.args.job.now) c.args.evaluation.now.job.job.heads (names c.loop-name.evaluation.feed) (names c.args.evaluation.now.feed) (g.S.In.Store.gave c.make_block.new.evaluation.feed)
    c.in_err-make_block.field-0.0 (λ holds named. (c.loop-name.invariant.have holds named).1) given)

pub returns-in_err-make_block-clause-agreed : goal.returns-in_err-make_block-clause-agreed
returns-in_err-make_block-clause-agreed g c f a = c.loop-name.invariant.agreed f (c.in_err-make_block.ensures.agreed f a)

pub returns-in_err-make_block-clause-have : goal.returns-in_err-make_block-clause-have
returns-in_err-make_block-clause-have g c f n =
    let have = rw c.loop-name.invariant.job at c.in_err-make_block.ensures.have in
    (λ h. (c.loop-name.invariant.have f n).0 ((have f n).0 h), λ h. (have f n).1 ((c.loop-name.invariant.have f n).1 h))

pub loop-name-preserved : goal.loop-name-preserved
loop-name-preserved g c =
    let tells = rw c.loop-name.invariant.job at c.in_ok-make_block.ensures.tells in
    let have = rw c.loop-name.invariant.job at c.in_ok-make_block.ensures.have in
    let holds = rw c.loop-name.invariant.next at (rw c.loop-name.invariant.job at c.in_ok-make_block.ensures.holds) in
    record {
      job = c.in_ok-make_block.ensures.job ∙ c.loop-name.invariant.job;
      next = c.in_ok-make_block.ensures.next ∙ ap (λ n. n + 1) c.loop-name.invariant.next;
      tells = (λ t. c.loop-name.invariant.tells.0 (tells.0 t), λ t. tells.1 (c.loop-name.invariant.tells.1 t));
      reads = c.in_ok-make_block.ensures.reads ∙ c.loop-name.invariant.reads;
      agreed = λ f a. c.loop-name.invariant.agreed f (c.in_ok-make_block.ensures.agreed f a);
      have = λ f n. (λ h. (c.loop-name.invariant.have f n).0 ((have f n).0 h), λ h. (have f n).1 ((c.loop-name.invariant.have f n).1 h));
      same = search rules;
      group = c.in_ok-make_block.ensures.group;
      sound = c.in_ok-make_block.ensures.sound c.loop-name.invariant.sound;
      holds = λ t. holds (c.loop-name.invariant.tells.1 t) (c.loop-name.invariant.holds t);
    }

pub returns-in-Ok-clause-values : goal.returns-in-Ok-clause-values
returns-in-Ok-clause-values g c told =
    let p = plan_of c.args.job.now in
    let named = g.E.Elements.named in
    let laws = c.laws_hold.ensures named in
    let values = rw c.loop-name.invariant.job at c.sound.ensures.told in
    let count = ap (λ (l : List (Option (ℕ × ℕ))). length l) c.requires.names in
    let end : length (tasks_of (plan_of c.args.job.now)) ≤ c.loop-name.evaluation.next = omega (arith, laws.names.number, count, c.loop-name-test.false, c.loop-name.invariant.next) in
    ends-whole p named c.args.evaluation.now.job.job.tasks c.loop-name.evaluation.next laws c.requires.tasks end (values (c.loop-name.invariant.tells.1 told))

pub returns-in-Ok-clause-given_values : goal.returns-in-Ok-clause-given_values
returns-in-Ok-clause-given_values g c holds named agrees has =
    let p = plan_of c.args.job.now in
    let laws = c.laws_hold.ensures named in
    let values = rw c.loop-name.invariant.job at c.sound.ensures.given in
    let count = ap (λ (l : List (Option (ℕ × ℕ))). length l) c.requires.names in
    let end : length (tasks_of (plan_of c.args.job.now)) ≤ c.loop-name.evaluation.next = omega (arith, laws.names.number, count, c.loop-name-test.false, c.loop-name.invariant.next) in
    ends-whole p named c.args.evaluation.now.job.job.tasks c.loop-name.evaluation.next laws c.requires.tasks end (values holds named agrees ((c.loop-name.invariant.have holds named).1 has))

pub returns-in-Ok-clause-whole : goal.returns-in-Ok-clause-whole
returns-in-Ok-clause-whole g c told =
    let p = plan_of c.args.job.now in
    let named = g.E.Elements.named in
    let count = ap (λ (l : List (Option (ℕ × ℕ))). length l) c.requires.names in
    let all : c.loop-name.name-index ≡ length (lowered c.args.job.now.expr (nodes_saved (plan_of c.args.job.now))).names = omega (arith, count, c.loop-name-test.false, c.loop-name.auto.name-index-end) in
    let held = subst (λ n. FilesHeld (plan_of c.args.job.now) g.E.Elements.named (boxes_made (plan_of c.args.job.now) n) (waiting_of c.loop-name.group) c.loop-name.files) all (c.loop-name.invariant.holds told) in
    hold-whole p named c.write_group.new.files c.filled_is_whole.ensures c.requires.runs (c.laws_hold.ensures named)
    (c.in-Ok.ensures.held named (boxes_made p (length (lowered c.args.job.now.expr (nodes_saved (plan_of c.args.job.now))).names)) held)

pub loop-name-init : goal.loop-name-init
loop-name-init g c = record {
  job = refl;
  next = c.requires.first;
  tells = (λ t. t, λ t. t);
  reads = refl;
  agreed = λ f a. a;
  have = λ f n. (λ h. h, λ h. h);
  same = same-files c.args.files.now;
  sound = c.requires.sound;
  group = group-none (plan_of c.args.job.now) (waiting_of c.new-group.result) c.new-group.ensures.regions c.new-group.ensures.blocks;
  holds = λ t. held-none (plan_of c.args.job.now) g.E.Elements.named (boxes_made (plan_of c.args.job.now) 0) (waiting_of c.new-group.result) c.args.files.now c.new-group.ensures.regions c.requires.fresh;
}
