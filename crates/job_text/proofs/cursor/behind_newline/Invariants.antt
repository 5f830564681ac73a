use Rattle.std.proofs.Common.{◌-◌, ◌+◌, ◌≡◌, ◌≤◌, take}
use Rattle.std.specs.List.{suffix_len}
use Rattle.job_tokens.specs.Places.{is_no_newline}
use Rattle.job_text.proofs.cursor.behind_newline.Given as goal

abbrev pub invariant-loop-first : goal.invariant-loop-first
invariant-loop-first l = record {
  within : l.first ≤ l.at;
  counted : suffix_len is_no_newline (take l.at l.text) ≡ l.at - l.first + suffix_len is_no_newline (take l.first l.text);
}

abbrev pub decreases-loop-first : goal.decreases-loop-first
decreases-loop-first l = l.first
