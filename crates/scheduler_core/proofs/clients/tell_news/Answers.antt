use Rattle.std.proofs.Common.{sym, ◌∙◌, refl, append-nil}
use Rattle.scheduler_core.specs.News.{heard}
use Rattle.scheduler_core.proofs.clients.tell_news.Goals as goal

pub returns-in_ok-push : goal.returns-in_ok-push
unfolding heard
returns-in_ok-push c = rw (c.in_ok-push.ensures.ok, c.in_ok-message.ensures, sym c.wants.ensures ∙ c.if-wants.true) refl

pub returns-else-wants : goal.returns-else-wants
unfolding heard
returns-else-wants c = rw (sym c.wants.ensures ∙ c.if-wants.false) (sym (append-nil c.args.out.now))
