-- What a tally says of the events that it counted.
use Rattle.std.specs.Prelude.{◌≡◌, ℕ, ◌==◌, Bool, true, false, not, List, Option, Some, None, map}
use Rattle.cluster_msgs.specs.declared.events.Event.{Event}
use Rattle.cluster_msgs.specs.declared.events.Event.TheVariants.{Start}
use Rattle.cluster_rules.specs.Functions.{from_one}
use Rattle.cluster_rules.specs.Report.{Taken, is_join, is_start, starts_at, is_gather, is_loss, is_answer, how_many}
use Rattle.fact_rows.specs.Rows.{read}
use Rattle.run_report.specs.declared.tally.Tally.{Tally}

-- each count is that of its kind of event
pub record IsCountOf (t : Tally) (es : List Taken) : Type 0 where
  pub joins : t.joins ≡ how_many is_join es
  pub started : t.started ≡ how_many is_start es
  pub starts : (i : ℕ) → read t.starts 0 i ≡ how_many (starts_at i) es
  pub gathers : t.gathers ≡ how_many is_gather es
  pub confirmed : t.confirmed ≡ how_many (is_answer true) es
  pub refused : t.refused ≡ how_many (is_answer false) es
  pub losses : t.losses ≡ how_many is_loss es

-- the workers that joined, each with its starts
abbrev pub starts_of : Tally → List (ℕ × ℕ)
starts_of t = map (λ i. (i, read t.starts 0 i)) (from_one t.joins)

-- the worker of a start
abbrev pub starter : Event → Option ℕ
starter (Start i) = Some i
starter _ = None

-- whether the start, if it is one, is this worker's
abbrev pub starts_by : Option ℕ → ℕ → Bool
starts_by None i = false
starts_by (Some worker) i = worker == i

-- whether an answer says so
abbrev pub agrees_by : Bool → Option Bool → Bool
agrees_by agreed None = false
agrees_by true (Some said) = said
agrees_by false (Some said) = not said
