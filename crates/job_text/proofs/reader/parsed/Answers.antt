use Rattle.std.proofs.Common.{sym, subst, ◌∙◌, arith}
use Rattle.job_text.specs.Jobs.{IsBuilt, IsJob}
use Rattle.job_text.proofs.Files.{files-fit}
use Rattle.job_text.proofs.reader.parsed.Goals as goal

pub job_of-requires : goal.job_of-requires
job_of-requires c =
    let text = c.args.text.now in
    let built = c.in_ok-built.built in
    let parts = c.into_parts-asked in
    let is : IsJob text (record { nodes = built.expr; inputs = parts.result.1.items; saves = parts.result.2.items; spans = built.spans }) = record {
      short = omega (arith, c.if-text-gt-JOB_BYTES.false);
      script = c.in_ok-script.script;
      is_script = c.in_ok-script.ensures.script;
      whole = sym c.refusal-refusal.ensures ∙ c.in-None.is;
      built = subst (λ asked. IsBuilt text asked built.expr built.spans) parts.ensures.asked c.in_ok-built.ensures.ok;
      inputs_are = parts.ensures.inputs;
      saves_are = parts.ensures.saves;
    } in
    files-fit text (record { nodes = built.expr; inputs = parts.result.1.items; saves = parts.result.2.items; spans = built.spans }) is
