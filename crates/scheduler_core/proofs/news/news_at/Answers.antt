use Rattle.task_table.specs.Tasks.{facts}
use Rattle.scheduler_core.specs.News.{was_held, was_erred}
use Rattle.scheduler_core.proofs.NewsLemmas.{news_is, was_there}
use Rattle.scheduler_core.proofs.news.news_at.Goals as goal

pub returns : goal.returns
returns c =
    let t = c.args.table.now in
    let f = facts t in
    let key = c.args.key in
    let asked = c.args.asked.now in
    rw (c.or.ensures, c.new_blame-blame.ensures, c.new_state-other.ensures, c.blame.ensures, c.held.ensures, c.was_held.ensures, c.was_erred.ensures, c.contains-is_asked.ensures, was_there t.held_before f asked key c.requires, was_there t.erred_before f asked key c.requires)
    (news_is f c.sound.ensures (was_held t asked) (was_erred t asked) key)
