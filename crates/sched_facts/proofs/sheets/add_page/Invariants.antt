use Rattle.std.proofs.Common.{◌≡◌, ℕ, ◌+◌, get_or, vec_len}
use Rattle.std.specs.Vec.{vec_capacity}
use Rattle.sched_facts.proofs.sheets.add_page.Given as goal

abbrev pub invariant-loop-key : goal.invariant-loop-key
invariant-loop-key g l = record {
  long : vec_len l.items ≡ vec_len l.fn.items + l._key;
  room : vec_capacity l.items ≡ vec_capacity l.fn.items;
  same : (k : ℕ) → get_or l.items.items k l.rest ≡ get_or l.fn.items.items k l.rest;
}
