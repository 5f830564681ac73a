use Rattle.std.proofs.Common.{◌-◌, ◌≡◌, ◌≤◌}
use Rattle.job_text.specs.Cursors.{Stands}
use Rattle.job_text.proofs.cursor.Cursor.go_forward.Given as goal

abbrev pub invariant-loop-self : goal.invariant-loop-self
invariant-loop-self l = record {
  stands : Stands l.text l.self;
  before : l.fn.self.at ≤ l.at → l.self.at ≤ l.at;
  same : l.at ≤ l.fn.self.at → l.self ≡ l.fn.self;
}

abbrev pub decreases-loop-self : goal.decreases-loop-self
decreases-loop-self l = l.at - l.self.at
