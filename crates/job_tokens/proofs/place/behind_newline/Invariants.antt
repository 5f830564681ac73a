-- The bytes so far end in as many that are no newline.
use Rattle.std.proofs.Common.{◌≡◌, ◌≤◌, take}
use Rattle.std.specs.List.{suffix_len}
use Rattle.job_tokens.specs.Places.{is_no_newline}
use Rattle.job_tokens.proofs.place.behind_newline.Given as goal

abbrev pub invariant-loop-byte : goal.invariant-loop-byte
invariant-loop-byte l = record {
  count : l.behind ≡ suffix_len is_no_newline (take l.byte-index l.before);
  within : l.behind ≤ l.byte-index;
}
