-- A whole simulation, put together.
use Rattle.std.proofs.Common.{◌≡◌, ℕ, ◌≤◌, ◌<◌, List, [], ◌++◌, Option, refl, sym, ap, ◌∙◌, arith, subst}
use Rattle.cluster_msgs.specs.Shape.{Shape, IsShape, key_count, deps_of}
use Rattle.cluster_msgs.specs.Values.{val}
use Rattle.cluster_msgs.specs.declared.events.Event.{Event}
use Rattle.cluster_msgs.specs.declared.events.Report.{Report}
use Rattle.cluster_rules.specs.Sched.{Setting}
use Rattle.cluster_rules.specs.World.{Job, IsJob, opening, rest}
use Rattle.cluster_rules.specs.Runs.{legal, reached, Safe}
use Rattle.cluster_rules.specs.Report.{Taken, taken, report}
use Rattle.cluster_rules.specs.Draw.{Plan, Verdict, OutOfTurns, opening_events, sim_from}
use Rattle.run_report.specs.Counts.{IsCountOf}
use Rattle.cluster_world.specs.declared.state.State.{State}
use Rattle.cluster_world.specs.Worlds.{world, setting, running}
use Rattle.cluster_sim.specs.Acts.{Stays}
use Rattle.cluster_sim.specs.Drawn.{word_of, IsAtTurn}
use Rattle.cluster_sim.specs.Plans.{IsPlan}
use Rattle.cluster_sim.specs.Seen.{IsSeen}
use Rattle.cluster_sim.specs.Standing.{sim_of, IsStanding}
use Rattle.cluster_sim.specs.Passing.{first_standing}
use Rattle.cluster_sim.specs.Openings.{IsOpening, AreWanted, HasOpened}
use Rattle.cluster_sim.specs.Led.{one_left, IsLed, IsLeftAlone}
use Rattle.cluster_sim.specs.Turns.{IsBetween, IsDrawn, HasServed, HasPlayed, HasHalted}
use Rattle.cluster_sim.specs.Simulations.{IsSimulated, IsReported, IsCut, IsStuck, IsDeserted, GoesOn, IsUnfinished}
use Rattle.std.specs.Option.{option_map}
use Rattle.cluster_world.specs.Safe.{LosesFew}
use Rattle.cluster_sim.specs.Faults.{fault_at, IfBlamed}
use Rattle.cluster_sim.proofs.FaultLemmas.{draw_keeps}
use Rattle.cluster_sim.specs.declared.position.Standing.{Standing}
use Rattle.cluster_sim.specs.declared.run.Run.{Run}
use Rattle.cluster_sim.proofs.CourseLemmas.{course_start, course_end}
use Rattle.cluster_sim.proofs.SimulateLemmas.{standing_first, blame_is}
use Rattle.cluster_sim.proofs.QuietLemmas.{nobody_there}
use Rattle.cluster_sim.proofs.LedLemmas.{left_alone}
use Rattle.cluster_sim.proofs.ActLemmas.{same_job, setting-world}

-- a simulation that has opened stands before its first turn
pub opened_between : {J B F : Type 0} (op : J → ℕ → List B → Option B) (tells : J → F → Type 0) (p : Plan) (wanted : List ℕ) (old new : State J B F) (r : Run) → IsOpening op old → IsShape (setting old).shape → IsPlan p → AreWanted (key_count (setting old).shape) wanted
    → HasOpened op tells wanted p.workers (opening_events p wanted) old new r.tally → Stays tells old new → r.standing ≡ first_standing → IsSeen wanted ((world new).clients 1) r.seen → IsBetween p wanted new r
opened_between {J} {B} {F} op tells p wanted old new r begins shape plan keys h stays is seen = record {
  going = h.going;
  standing = subst (λ (s : Standing). IsStanding p wanted (world new) s) (sym is)
      (standing_first p wanted (world new) first_standing plan h.opened (λ k q. subst (λ (s : Setting). k < key_count s.shape) (sym same) (keys.keys k q)) refl refl refl);
  seen = seen;
  turns = subst (λ (s : Standing). s.turns ≤ new.events) (sym is) (omega arith);
  led = subst (λ (x : Setting). IsLed x p wanted (sim_of p (world new) r.standing 1)) (sym stays.setting) (record {
    job = record { shape = shape; clients = begins.few; some = begins.saturation.0; most = begins.saturation.1 };
    client = begins.client;
    opens = h.run.legal;
    made = [];
    led = ap (λ w. one_left (sim_from p w)) h.run.reached ∙ ap (λ (s : Standing). sim_of p (world new) s 1) (sym is);
  });
}
  where
    same : (world new).sched.setting ≡ setting old
    same = setting-world new ∙ stays.setting

pub opened_drawn : {J B F : Type 0} (op : J → ℕ → List B → Option B) (tells : J → F → Type 0) (p : Plan) (wanted : List ℕ) (number : ℕ) (old new : State J B F) (r : Run)
    → IsOpening op old → IsShape (setting old).shape → HasOpened op tells wanted p.workers (opening_events p wanted) old new r.tally → Stays tells old new → r.standing ≡ first_standing → IsAtTurn r.words number 0 → tells old.job old.feed → IsDrawn op tells p wanted number new r
opened_drawn {J} {B} {F} op tells p wanted number old new r begins shape h stays is words told = record {
  told = stays.tells.1 told;
  job = subst IsJob (sym (same_job op tells old new stays)) (record { shape = shape; clients = begins.few; some = begins.saturation.0; most = begins.saturation.1 });
  words = subst (λ (s : Standing). IsAtTurn r.words number s.turns) (sym is) words;
  budget = rest (world new);
  course = course_start op (word_of number) p wanted new (sim_of p (world new) r.standing (rest (world new))) r.tally (h.all told) (ap (λ (s : Standing). sim_of p (world new) s (rest (world new))) is);
}

-- of what holds of each legal list of the job, as it was when it began
still : {J B F : Type 0} (op : J → ℕ → List B → Option B) (tells : J → F → Type 0) (old new : State J B F) → Stays tells old new → ((es : List Event) → legal (running op old) es → Safe (running op old) es) → (es : List Event) → legal (running op new) es → Safe (running op new) es
still op tells old new stays safe = subst (λ (j : Job). (es : List Event) → legal j es → Safe j es) (sym (same_job op tells old new stays)) safe

-- its report, and that it is the simulation
pub reported : {J B F : Type 0} (op : J → ℕ → List B → Option B) (tells : J → F → Type 0) (p : Plan) (wanted : List ℕ) (number : ℕ) (v : Verdict) (old new : State J B F) (r : Run) (made : Report) (g : Shape) → Stays tells old new → g ≡ (setting new).shape
    → ((es : List Taken) → IsCountOf r.tally es → made ≡ report g es) → ((es : List Event) → legal (running op old) es → Safe (running op old) es) → HasPlayed op tells p wanted number v new r → IsReported (running op old) (word_of number) p wanted v (world new) made
reported op tells p wanted number v old new r made g stays shape count safe h =
    let c = h.drawn.course in
    subst (λ (j : Job). IsReported j (word_of number) p wanted v (world new) made) (same_job op tells old new stays) (record {
      events = opening_events p wanted ++ c.later;
      simulated = course_end op (word_of number) p wanted (sim_of p (world new) r.standing h.drawn.budget) new r.tally v c (still op tells old new stays safe) h.ends;
      report = count _ c.all.counted ∙ ap (λ x. report x (taken (running op new) (opening (running op new)) (opening_events p wanted ++ c.later))) shape;
    })

pub cut_off : {J B F : Type 0} (op : J → ℕ → List B → Option B) (tells : J → F → Type 0) (p : Plan) (wanted : List ℕ) (number : ℕ) (v : Verdict) (old new : State J B F) (r : Run) → Stays tells old new → ((es : List Event) → legal (running op old) es → Safe (running op old) es) → HasPlayed op tells p wanted number v new r
    → IsCut (running op old) (word_of number) p wanted v (world new)
cut_off op tells p wanted number v old new r stays safe h =
    let c = h.drawn.course in
    subst (λ (j : Job). IsCut j (word_of number) p wanted v (world new)) (same_job op tells old new stays) (record {
      events = opening_events p wanted ++ c.later;
      simulated = course_end op (word_of number) p wanted (sim_of p (world new) r.standing h.drawn.budget) new r.tally v c (still op tells old new stays safe) h.ends;
    })

-- nothing moves, and no worker is there
pub deserted_by : {J B F : Type 0} (op : J → ℕ → List B → Option B) (tells : J → F → Type 0) (p : Plan) (wanted : List ℕ) (number : ℕ) (old new : State J B F) (r : Run) → Stays tells old new → ((es : List Event) → legal (running op old) es → Safe (running op old) es) → 1 ≤ (setting old).clients
    → IsStuck (world new) → HasPlayed op tells p wanted number OutOfTurns new r → IsDeserted (running op old) (word_of number) p wanted (world new)
deserted_by op tells p wanted number old new r stays safe some stuck h =
    let c = h.drawn.course in
    subst (λ (j : Job). IsDeserted j (word_of number) p wanted (world new)) (same_job op tells old new stays) (record {
      cut = record {
        events = opening_events p wanted ++ c.later;
        simulated = course_end op (word_of number) p wanted (sim_of p (world new) r.standing h.drawn.budget) new r.tally OutOfTurns c (still op tells old new stays safe) h.ends;
      };
      nobody = λ i a l. nobody_there (running op new) h.drawn.job (opening_events p wanted ++ c.later) (world new) c.all.made.run.legal c.all.made.run.reached (subst (λ (s : Setting). 1 ≤ s.clients) (sym stays.setting) some) stuck.waits stuck.still i a l;
    })

-- the same whatever the feed answers
pub halted_alone : {J B F : Type 0} (p : Plan) (wanted : List ℕ) (old new : State J B F) (r : Run) → setting new ≡ setting old → HasHalted p wanted new r → IsLeftAlone (setting old) p wanted (world new)
halted_alone p wanted old new r same h = subst (λ (x : Setting). IsLeftAlone x p wanted (world new)) same (left_alone (setting new) p wanted (world new) (sim_of p (world new) r.standing 1) h.between.led refl h.stuck)

pub unfinished_by : (j : Job) (words : ℕ → ℕ) (p : Plan) (wanted : List ℕ) (many : ℕ) → ((es : List Event) → legal j es → Safe j es) → GoesOn j words p wanted many → IsUnfinished j words p wanted many
unfinished_by j words p wanted many safe h = record { made = h; safe = safe (opening_events p wanted ++ h.later) h.legal }

pub blamed_by : {J B F : Type 0} (op : J → ℕ → List B → Option B) (tells : J → F → Type 0) (p : Plan) (wanted : List ℕ) (number : ℕ) (v : Verdict) (failure : Option ℕ) (old new : State J B F) (r : Run) → IsShape (setting old).shape → Stays tells old new
    → HasServed p wanted failure new r → ((es : List Event) → legal (running op old) es → LosesFew (reached (running op old) es).sched) → (es : List Event) → IsSimulated (running op old) (word_of number) p wanted es v (world new)
    → IfBlamed (running op old) es (deps_of (setting old).shape) (val (deps_of (setting old).shape) (op old.job)) wanted (option_map (fault_at (world new)) failure)
blamed_by op tells p wanted number v failure old new r sound stays served few es h =
    blame_is (setting old) (op old.job) wanted es (world new) failure sound h.legal
    (draw_keeps (running op old) (word_of number) p wanted es v h.drawn) (few es h.legal) (setting-world new ∙ stays.setting) h.reached served.between.standing.client served.over
