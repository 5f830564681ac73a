use Rattle.std.proofs.Common.{ℕ, List, Option}
use Rattle.std.proofs.lemmas.Result.{on_ok_weaker}
use Rattle.io_edge.specs.View.{Files}
use Rattle.nd_shape.specs.Block.{Array}
use Rattle.cluster_world.specs.Worlds.{cluster}
use Rattle.block_lowering.specs.Jobs.{dims_of}
use Rattle.sim_run.specs.Client.{HasGot}
use Rattle.saved_files.specs.Saving.{Saving}
use Rattle.job_run.specs.Jobs.{plan_of}
use Rattle.job_run.specs.Plan.{Plan}
use Rattle.job_run.proofs.Filling.{all-some, from-both}
use Rattle.job_run.proofs.Saves.{AreGiven, given-others, saves-left, saves-whole}
use Rattle.sim_run.proofs.saving.save_all.Goals as goal

pub returns-clause-whole : goal.returns-clause-whole
returns-clause-whole g c =
    let p : Plan = plan_of c.args.job.now in
    let created : List Saving = c.in_ok-files.files in
    let written : List Saving = c.save_arrays-done.new.files in
    let old : Files = (g.S.Site.view c.args.site.now).files in
    let mid : Files = (g.S.Site.view c.create_files.new.site).files in
    let new : Files = (g.S.Site.view c.give.new.site).files in
    let given : AreGiven p created written old mid new = record { runs = c.requires.runs; open_is = c.in_ok-files.ensures.open; fresh = c.in_ok-files.ensures.fresh; same = c.save_arrays-done.ensures.same; gives = c.give.ensures.gives } in
    on_ok_weaker c.save_arrays-done.result
    (saves-whole p created written old mid new given c.args.saved.now c.args.layouts.now ((cluster c.args.world.now).blocks.got 1) (HasGot c.args.world.now (dims_of c.args.world.now.job.job)) c.filled_is_whole.ensures c.requires.has)
    c.save_arrays-done.ensures.all

pub returns-clause-left : goal.returns-clause-left
returns-clause-left g c =
    let p : Plan = plan_of c.args.job.now in
    let created : List Saving = c.in_ok-files.files in
    let written : List Saving = c.save_arrays-done.new.files in
    let old : Files = (g.S.Site.view c.args.site.now).files in
    let mid : Files = (g.S.Site.view c.create_files.new.site).files in
    let new : Files = (g.S.Site.view c.give.new.site).files in
    let given : AreGiven p created written old mid new = record { runs = c.requires.runs; open_is = c.in_ok-files.ensures.open; fresh = c.in_ok-files.ensures.fresh; same = c.save_arrays-done.ensures.same; gives = c.give.ensures.gives } in
    let got : ℕ → Option Array = (cluster c.args.world.now).blocks.got 1 in
    saves-left p created written old mid new given c.args.saved.now c.args.layouts.now got
    (from-both c.save_arrays-done.result (on_ok_weaker c.save_arrays-done.result (all-some c.args.saved.now c.args.layouts.now got created written) c.save_arrays-done.ensures.all) c.save_arrays-done.ensures.part)

pub returns-clause-others : goal.returns-clause-others
returns-clause-others g c = λ n none.
    let p : Plan = plan_of c.args.job.now in
    let created : List Saving = c.in_ok-files.files in
    let written : List Saving = c.save_arrays-done.new.files in
    let old : Files = (g.S.Site.view c.args.site.now).files in
    let mid : Files = (g.S.Site.view c.create_files.new.site).files in
    let new : Files = (g.S.Site.view c.give.new.site).files in
    let given : AreGiven p created written old mid new = record { runs = c.requires.runs; open_is = c.in_ok-files.ensures.open; fresh = c.in_ok-files.ensures.fresh; same = c.save_arrays-done.ensures.same; gives = c.give.ensures.gives } in
    given-others p created written old mid new given n none (c.in_ok-files.ensures.others n none)
