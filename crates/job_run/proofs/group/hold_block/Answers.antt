use Rattle.std.proofs.lemmas.Result.{on_err_weaker, on_ok_weaker}
use Rattle.std.specs.Arc.{arc_value}
use Rattle.small_facts.proofs.Results.{on_err_from}
use Rattle.job_run.specs.Grouping.{waiting_of}
use Rattle.job_run.specs.Jobs.{plan_of}
use Rattle.job_run.proofs.WaitingBlocks.{adds-put, held-right, pushed, pushed-group, put_box}
use Rattle.job_run.proofs.group.hold_block.Goals as goal

pub returns-in_err-make_way-clause-right : goal.returns-in_err-make_way-clause-right
returns-in_err-make_way-clause-right g c = on_err_from c.from_residual-in_err-make_way.result (λ named boxes holds held. c.in_err-make_way.ensures.right named boxes held)

pub returns-in_err-push-clause-right : goal.returns-in_err-push-clause-right
returns-in_err-push-clause-right g c =
    on_err_from c.from_residual-in_err-push.result (λ named boxes holds held. held-right (plan_of c.args.job.now) named boxes (waiting_of c.make_way.new.group) c.make_way.new.files (c.in_ok-make_way.ensures.held named boxes held))

pub write_full_group-requires-clause-group : goal.write_full_group-requires-clause-group
write_full_group-requires-clause-group g c =
    pushed-group (plan_of c.args.job.now) (waiting_of c.make_way.new.group) (waiting_of c.push.new.self) c.args.place c.args.region (arc_value c.args.block.now) c.in_ok-shared.shared
    c.in_ok-make_way.ensures.group c.in_ok-make_way.ensures.place c.in_ok-shared.ensures c.in_ok-push.ensures.place c.in_ok-push.ensures.regions c.in_ok-push.ensures.blocks c.requires.there c.requires.inside c.requires.shape

pub returns-clause-held : goal.returns-clause-held
returns-clause-held g c =
    on_ok_weaker c.write_full_group.result (λ f named before after adds holds held. f named after
    (pushed (plan_of c.args.job.now) named before after (waiting_of c.make_way.new.group) (waiting_of c.push.new.self) c.args.place c.args.region (arc_value c.args.block.now) c.in_ok-shared.shared c.make_way.new.files
    c.in_ok-make_way.ensures.group c.in_ok-make_way.ensures.place c.in_ok-shared.ensures c.in_ok-push.ensures.place c.in_ok-push.ensures.regions c.in_ok-push.ensures.blocks adds holds (c.in_ok-make_way.ensures.held named before held))) c.write_full_group.ensures.held

pub returns-clause-right : goal.returns-clause-right
returns-clause-right g c =
    on_err_weaker c.write_full_group.result (λ f named boxes holds held. f named (put_box c.args.place c.args.region boxes)
    (pushed (plan_of c.args.job.now) named boxes (put_box c.args.place c.args.region boxes) (waiting_of c.make_way.new.group) (waiting_of c.push.new.self) c.args.place c.args.region (arc_value c.args.block.now) c.in_ok-shared.shared c.make_way.new.files
    c.in_ok-make_way.ensures.group c.in_ok-make_way.ensures.place c.in_ok-shared.ensures c.in_ok-push.ensures.place c.in_ok-push.ensures.regions c.in_ok-push.ensures.blocks (adds-put (plan_of c.args.job.now) c.args.place c.args.region boxes) holds
    (c.in_ok-make_way.ensures.held named boxes held))) c.write_full_group.ensures.right
