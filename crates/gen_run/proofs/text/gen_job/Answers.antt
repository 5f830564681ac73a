-- The statements in their order.
use Rattle.std.proofs.Common.{◌∙◌, ◌++◌, ap, codes}
use Rattle.gen_run.specs.Texts.{gen_text}
use Rattle.gen_run.proofs.text.gen_job.Goals as goal

pub returns : goal.returns
unfolding gen_text
returns c =
    c.in_ok-push_str-3.ensures.bytes
    ∙ ap (λ t. t ++ codes "save s \"s.npy\"\n") (c.in_ok-push_str-2.ensures.bytes ∙ ap (λ t. t ++ codes "let s = sum(t + 7, axis=(0))\n") (c.in_ok-push_str.ensures.bytes ∙ ap (λ t. t ++ codes "let t = tensordot(a, a.T, (1), (0))\n") c.in_ok-text.ensures))
