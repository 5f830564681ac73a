use Rattle.std.proofs.Common.{map, string_bytes}
use Rattle.job_text.proofs.JobParts.{inputs-same}
use Rattle.job_text.proofs.job.job_of.Goals as goal

pub returns : goal.returns
returns c =
    let inputs = inputs-same c.args.built.expr c.args.inputs.items (map string_bytes c.in_ok-inputs.inputs.items) c.requires.inputs_fit c.in_ok-inputs.ensures in
    λ i. record { nodes = c.args.built.expr; inputs = inputs i; saves = c.in_ok-saves.ensures i; spans = c.args.built.spans }
