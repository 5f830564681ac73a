-- The first bytes of a text are refused as the whole is.
use Rattle.std.proofs.Common.{◌≡◌, ℕ, ◌^◌, ◌≤◌, List, length, take, subst, arith}
use Rattle.std.proofs.lemmas.List.{take_all, length-take}
use Rattle.job_text.specs.declared.error.JobError.{JobError}
use Rattle.job_text.specs.Jobs.{IsRefused, too_long, node, behind, no_memory}

pub short_same : (text : List ℕ) → length (take 1048577 text) ≤ 2 ^ 20 → take 1048577 text ≡ text
short_same text short = take_all 1048577 text (omega (arith, short, length-take 1048577 text))

pub refused_whole : (text : List ℕ) (e : JobError) → IsRefused (take 1048577 text) e → IsRefused text e
refused_whole text e (too_long x) = too_long (record { long = omega (arith, x.long, length-take 1048577 text); kind_is = x.kind_is; line_is = x.line_is; column_is = x.column_is })
refused_whole text e (node x) = let P : List ℕ → Type 0 = λ t. IsRefused t e in subst P (short_same text x.short) (node x)
refused_whole text e (behind x) = let P : List ℕ → Type 0 = λ t. IsRefused t e in subst P (short_same text x.short) (behind x)
refused_whole text e (no_memory x) = no_memory x
