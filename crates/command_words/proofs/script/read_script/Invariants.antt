-- What was read and what is left make the script.
use Rattle.std.proofs.Common.{◌≡◌, length}
use denote.Text.{Utf8}
use denote.Shadow.{shadow}
use Rattle.command_words.proofs.Readings.{IsReading}
use Rattle.command_words.proofs.script.read_script.Given as goal

abbrev pub invariant-loop-item : goal.invariant-loop-item
invariant-loop-item l = shadow (Utf8 l.rest) × IsReading l.fn.text l.items l.rest × (length l.items ≡ l._item)
