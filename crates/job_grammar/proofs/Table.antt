-- The rows of the code pass the tests, and what follows.
use Rattle.std.proofs.Common.{◌≡◌, true, refl}
use Rattle.grammar.specs.Tables.{moves_end}
use Rattle.grammar.specs.Tests.{is_ll1}
use Rattle.job_grammar.specs.JobGrammar.{rule_of, job_rules}
use Rattle.job_grammar.specs.Heads.{heads, rows_same}
use Rattle.job_grammar.specs.JobRows.{job_rows, certificate, meanings, meaning_of}

pub job_ll1 : is_ll1 job_rows certificate ≡ true
unfolding job_rows certificate
job_ll1 = refl

pub job_moves : moves_end job_rows ≡ true
unfolding job_rows
job_moves = refl

pub job_same : rows_same rule_of 40 meaning_of job_rows ≡ true
unfolding job_rows job_rules meanings heads
job_same = refl
