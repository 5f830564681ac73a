use Rattle.job_text.proofs.JobParts.{files-if}
use Rattle.job_text.proofs.reader.parse.Goals as goal

pub returns-clause-files : goal.returns-clause-files
returns-clause-files c = files-if c.args.text.now c.parsed.result c.parsed.ensures.ok
