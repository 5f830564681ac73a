use Rattle.std.proofs.Common.{IsUtf8, sym, subst}
use Rattle.std.proofs.lemmas.Bool.{false≢true}
use Rattle.job_text.proofs.FileNames.{name-text}
use Rattle.job_text.proofs.job.name_of.Goals as goal

pub unreachable-requires : goal.unreachable-requires
unreachable-requires c = absurd (false≢true (c.in-Err.ensures.succeeds (subst IsUtf8 (sym c.into_name.ensures) (name-text c.args.named.name c.requires))))
