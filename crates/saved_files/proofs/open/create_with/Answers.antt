use Rattle.std.proofs.Common.{◌∙◌}
use Rattle.small_facts.proofs.Results.{on_err_from}
use Rattle.saved_files.proofs.Created.{leaves_all, leaves_part}
use Rattle.saved_files.proofs.open.create_with.Goals as goal

pub returns-in_err-file-clause-left : goal.returns-in_err-file-clause-left
returns-in_err-file-clause-left g c =
    on_err_from c.from_residual.result (leaves_all c.args.name.now c.args.shape.now (g.S.Site.view c.args.site.now).files (g.S.Site.view c.create.new.self).files c.in_err-file.ensures.failed)

pub returns-in-Err-clause-left : goal.returns-in-Err-clause-left
returns-in-Err-clause-left g c =
    leaves_part c.args.name.now c.args.shape.now c.args.front.now (g.S.Site.view c.args.site.now).files (g.S.Site.view c.give_file.new.self).files c.requires.front (record {
      mid = (g.S.Site.view c.create.new.self).files.held;
      made = g.S.Out.OutFile.content c.in_ok-file.file;
      content = g.S.Out.OutFile.content c.write_full.new.file;
      created = c.in_ok-file.ensures.held;
      count = c.elements.result;
      counted = c.elements.ensures;
      begins = c.in_ok-file.ensures.content;
      wrote = c.in-Err.ensures.part;
      last = g.S.Out.OutFile.named c.write_full.new.file;
      named = c.write_full.ensures.named ∙ c.in_ok-file.ensures.named;
      given = c.give_file.ensures.held;
    })
