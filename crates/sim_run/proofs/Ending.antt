-- What a simulated run leaves at each of its ends.
use Rattle.std.proofs.Common.{◌≡◌, ℕ, List, refl, ap, sym, ◌∙◌, subst, inl, inr, arith, Option}
use Rattle.std.specs.Prelude.{IsSome, IsTrue}
use Rattle.io_edge.specs.Cause.{Rose}
use Rattle.io_edge.specs.Content.{Content, Told, Untold, OnTold, PrintsPart, file_at, followed_by, told_bytes}
use Rattle.io_edge.specs.Given.{GivesMore}
use Rattle.io_edge.proofs.GivenLaws.{more_same, more_then}
use Rattle.io_edge.specs.View.{View, Files, OnlyOut, OnlyReads, Opens, raised_by}
use Rattle.npy_codec.specs.declared.head.Head.{Head}
use Rattle.cluster_msgs.specs.declared.events.Report.{Report}
use Rattle.cluster_rules.specs.World.{Job}
use Rattle.block_lowering.specs.Jobs.{TellsFeed}
use Rattle.job_run.specs.declared.ends.Ended.{Ended}
use Rattle.job_run.specs.declared.ends.Ended.TheVariants.{Done, Limit, File, Zero, Killed, ReadFault, WriteFault, OutOfMemory}
use Rattle.job_run.specs.Inputs.{told_all}
use Rattle.job_run.specs.Lowering.{LowerCause}
use Rattle.job_run.specs.Part.{AreLeft, AreWhole, IsNoneOf, RaisedAtMost}
use Rattle.job_run.specs.Plan.{Plan, names_saved}
use Rattle.job_run.specs.Runs.{AreRight, AreSaved, HasValues, IsSmall, Looked, PrintsFront, ReadCause, RunsPlan, StopsPrinting}
use Rattle.job_run.specs.Told.{named_told}
use Rattle.job_run.specs.Values.{IsFaulty, MeetsNone, files_of}
use Rattle.job_run.proofs.Counting.{raised_at_most}
use Rattle.job_run.proofs.Naming.{OpenInputs, on_named}
use Rattle.job_run.proofs.Running.{HaveAccepted, left_before, lowering_runs, most_before, reading_runs, rose_before}
use Rattle.job_run.proofs.Told.{on_told, told_fact}
use Rattle.command_words.specs.declared.sim.SimWords.{SimWords}
use Rattle.sim_run.specs.declared.ends.SimEnded.{SimEnded}
use Rattle.sim_run.specs.declared.ends.SimEnded.TheVariants.{Events, Ran}
use Rattle.sim_run.specs.Ends.{Cause, Created, Opened, PrintsServed, Prints, RanCause, RanCreated, RanPrints, RanSaves, Saves, SavesPlan, SimulatesPlan, WhereTold}
use Rattle.sim_run.specs.Jobs.{IsTextJob, wanted_of}
use Rattle.sim_run.specs.Serving.{ServesAll, ServesFiles, ServesPart, job_named}
use Rattle.sim_run.specs.Simulated.{IsKilled, IsOutOfEvents, IsServed, SimulatesTo}
use Rattle.sim_run.specs.Texts.{lines_of}

-- ## Before the inputs are accepted

-- an end at which a simulated run leaves what any other leaves
ran : (p : Plan) (s : SimWords) (old new : View) (end : Ended) → RunsPlan p old new end → RanCause p s old new end → RanSaves p old.files new.files end → RanCreated (names_saved p) old.files.created new.files.created end → RanPrints p s old new end →
    SimulatesPlan p s old new (Ran end)
ran p s old new end r cause saves created prints = record {
  cause = cause;
  saves = saves;
  looked = r.looked;
  others = r.others;
  tells = r.tells;
  opened = r.opened;
  created = created;
  prints = prints;
  gave = r.gave;
  err = r.err;
  note_faults = r.note_faults;
}

-- there is no graph
pub lowering-ends : (p : Plan) (s : SimWords) (v : View) (end : Ended) → LowerCause p end → SimulatesPlan p s v v (Ran end)
lowering-ends p s v Done cause = absurd cause
lowering-ends p s v (Limit quantity) cause = let r = lowering_runs p v (Limit quantity) cause in ran p s v v (Limit quantity) r r.cause r.saves r.created r.prints
lowering-ends p s v (File place error) cause = absurd cause
lowering-ends p s v (Zero node block) cause = absurd cause
lowering-ends p s v (Killed key losses) cause = absurd cause
lowering-ends p s v ReadFault cause = absurd cause
lowering-ends p s v WriteFault cause = absurd cause
lowering-ends p s v OutOfMemory cause = let r = lowering_runs p v OutOfMemory cause in ran p s v v OutOfMemory r r.cause r.saves r.created r.prints

-- the inputs weren't opened, or one of them is refused
pub reading-ends : (p : Plan) (s : SimWords) (old new : View) (end : Ended) → IsSmall p → ReadCause p old new end → Opens p.inputs old.files new.files → OnlyReads old new → SimulatesPlan p s old new (Ran end)
reading-ends p s old new Done small cause opens only = absurd cause
reading-ends p s old new (Limit quantity) small cause opens only = absurd cause
reading-ends p s old new (File place error) small cause opens only =
    let r = reading_runs p old new (File place error) small cause opens only in
    ran p s old new (File place error) r r.cause r.saves r.created r.prints
reading-ends p s old new (Zero node block) small cause opens only = absurd cause
reading-ends p s old new (Killed key losses) small cause opens only = absurd cause
reading-ends p s old new ReadFault small cause opens only =
    let r = reading_runs p old new ReadFault small cause opens only in
    ran p s old new ReadFault r r.cause r.saves r.created r.prints
reading-ends p s old new WriteFault small cause opens only = absurd cause
reading-ends p s old new OutOfMemory small cause opens only =
    let r = reading_runs p old new OutOfMemory small cause opens only in
    ran p s old new OutOfMemory r r.cause r.saves r.created r.prints

-- ## Once the inputs are accepted

tells-own : (file : Content) → OnTold file (λ bytes. IsSome (told_bytes file))
tells-own (Told bytes) = refl
tells-own (Untold size) = tt

-- where the inputs are told, the feed tells them
where-told : (p : Plan) (old mid : Files) (files : List Content) (heads : List Head) (X : Type 0) → OpenInputs p old mid files heads → (TellsFeed heads files → X) → WhereTold p old X
where-told p old mid files heads X o holds = on_told (told_all old.held p.inputs) (λ contents. X) (λ contents e. holds (record {
  each = λ k h. told_fact p.inputs old mid files contents k (λ bytes. IsSome (told_bytes (file_at files k))) o.shows e (omega (arith, h, o.count, o.declared)) (tells-own (file_at files k));
}))

-- what all later ends have
record Follows (p : Plan) (old new : View) : Type 0 where
  looked : Looked p p.inputs old.files new.files
  others : (n : List ℕ) → IsNoneOf n (names_saved p) → new.files.held n ≡ old.files.held n
  tells : new.files.tells ≡ old.files.tells
  opened : new.files.opened ≡ raised_by p.inputs old.files.opened
  gave : GivesMore old.gave new.gave
  err : new.err ≡ old.err
  note_faults : new.note_faults ≡ old.note_faults

follows-out : (p : Plan) (old saved new : View) → OnlyOut saved new → Follows p old saved → Follows p old new
follows-out p old saved new only f =
    let P : Files → Type 0 = λ x. Looked p p.inputs old.files x in
    record {
      looked = subst P (sym only.files) f.looked;
      others = λ n none. ap (λ (x : Files). x.held n) only.files ∙ f.others n none;
      tells = ap (λ (x : Files). x.tells) only.files ∙ f.tells;
      opened = ap (λ (x : Files). x.opened) only.files ∙ f.opened;
      gave = more_then old.gave saved.gave new.gave f.gave (more_same saved.gave new.gave only.gave);
      err = only.err ∙ f.err;
      note_faults = only.note_faults ∙ f.note_faults;
    }

ends : (p : Plan) (s : SimWords) (old new : View) (end : SimEnded) → Follows p old new → Cause p s old new end → Saves p old.files new.files end → Opened p.inputs old.files.opened new.files.opened end →
    Created (names_saved p) old.files.created new.files.created end → Prints p s old new end → SimulatesPlan p s old new end
ends p s old new end f cause saves opened created prints = record {
  cause = cause;
  saves = saves;
  looked = f.looked;
  others = f.others;
  tells = f.tells;
  opened = opened;
  created = created;
  prints = prints;
  gave = f.gave;
  err = f.err;
  note_faults = f.note_faults;
}

module _ (p : Plan) (s : SimWords) (old mid : View) (files : List Content) (heads : List Head) (a : HaveAccepted p old mid files heads) where
  follows : (new : View) → ServesFiles p mid new → Follows p old new
  follows new f = record {
    looked = inr (record { opened = f.opened ∙ a.opened; inputs = a.fit; small = a.small });
    others = λ n none. f.others n none ∙ ap (λ g. g n) a.opens.held;
    tells = f.tells ∙ a.opens.tells;
    opened = f.opened ∙ a.opened;
    gave = more_then old.gave mid.gave new.gave a.only.gave f.gave;
    err = f.err ∙ a.only.err;
    note_faults = f.note_faults ∙ a.only.note_faults;
  }

  -- ### What the inputs hold

  text-job : IsTextJob p old.files s (job_named p s (named_told files heads)) (wanted_of p)
  text-job = record {
    small = a.small;
    inputs = a.fit;
    named = named_told files heads;
    runs = refl;
    wants = refl;
    told = on_named p old.files mid.files files heads (λ n. n ≡ named_told files heads) a.inputs (λ t. refl);
  }

  simulates : (P : Job → List ℕ → SimWords → Type 0) → (TellsFeed heads files → P (job_named p s (named_told files heads)) (wanted_of p) s) → WhereTold p old.files (SimulatesTo (IsTextJob p old.files s) s P)
  simulates P holds = where-told p old.files mid.files files heads (SimulatesTo (IsTextJob p old.files s) s P) a.inputs (λ t. record {
    job = job_named p s (named_told files heads);
    wanted = wanted_of p;
    is = text-job;
    ends = holds t;
  })

  has-values : (TellsFeed heads files → MeetsNone p (named_told files heads)) → HasValues p old.files
  has-values holds = record { inputs = a.fit; values = on_named p old.files mid.files files heads (λ n. MeetsNone p n) a.inputs holds }

  prints-served : (report : Report) (turns : ℕ) (Printed : List ℕ → Type 0) → (TellsFeed heads files → IsServed (job_named p s (named_told files heads)) (wanted_of p) s report turns) → Printed (lines_of p report turns) → PrintsServed p s old.files Printed
  prints-served report turns Printed served printed = record {
    report = report;
    turns = turns;
    served = simulates (λ job wanted s. IsServed job wanted s report turns) served;
    printed = printed;
  }

  -- ### The saved files

  are-right : (new : Files) → (TellsFeed heads files → AreLeft (names_saved p) (files_of p (named_told files heads)) mid.files new) → AreRight p old.files new
  are-right new left = on_named p old.files mid.files files heads (λ n. AreLeft (names_saved p) (files_of p n) old.files new) a.inputs
      (λ t. left_before (names_saved p) (files_of p (named_told files heads)) old.files mid.files new a.opens.held a.opens.tells (left t))

  are-saved : (new : Files) → (TellsFeed heads files → IsTrue mid.files.tells → AreWhole (names_saved p) (files_of p (named_told files heads)) new) → AreSaved p old.files new
  are-saved new whole = on_named p old.files mid.files files heads (λ n. IsTrue old.files.tells → AreWhole (names_saved p) (files_of p n) new) a.inputs (λ t tells. whole t (subst IsTrue (sym a.opens.tells) tells))

  created-most : (new : View) → ServesFiles p mid new → RaisedAtMost (names_saved p) old.files.created new.files.created
  created-most new f = most_before (names_saved p) old.files.created mid.files.created new.files.created a.opens.created f.created

  opened-most : (new : View) → Follows p old new → RaisedAtMost p.inputs old.files.opened new.files.opened
  opened-most new f = raised_at_most p.inputs old.files.opened new.files.opened f.opened

  -- ### The client didn't get all, or its blocks weren't all saved

  pub stopped-ends : (new : View) (end : SimEnded) → ServesFiles p mid new →
      ServesPart p s (named_told files heads) (TellsFeed heads files) (Rose mid.read_faults new.read_faults) (Rose mid.write_faults new.write_faults) mid.files new.files end → SimulatesPlan p s old new end
  stopped-ends new Events f part =
      let bare = part.bare tt in
      ends p s old new Events (follows new f) (a.small, a.fit, simulates IsOutOfEvents part.cause) (bare.0 ∙ a.opens.held) (f.opened ∙ a.opened) (bare.1 ∙ a.opens.created) (f.out ∙ a.only.out)
  stopped-ends new (Ran Done) f part = absurd part.cause
  stopped-ends new (Ran (Limit quantity)) f part = absurd part.cause
  stopped-ends new (Ran (File place error)) f part = absurd part.cause
  stopped-ends new (Ran (Zero node block)) f part =
      let bare = part.bare tt in
      ends p s old new (Ran (Zero node block)) (follows new f)
      (a.small, record { inputs = a.fit; zero_at = on_named p old.files mid.files files heads (λ n. IsFaulty p n node block) a.inputs part.cause })
      (bare.0 ∙ a.opens.held) (f.opened ∙ a.opened) (bare.1 ∙ a.opens.created) (f.out ∙ a.only.out)
  stopped-ends new (Ran (Killed key losses)) f part =
      let bare = part.bare tt in
      ends p s old new (Ran (Killed key losses)) (follows new f)
      (a.small, a.fit, part.cause.0, simulates (λ job wanted s. IsKilled job wanted s key) part.cause.1)
      (bare.0 ∙ a.opens.held) (f.opened ∙ a.opened) (bare.1 ∙ a.opens.created) (f.out ∙ a.only.out)
  stopped-ends new (Ran ReadFault) f part =
      ends p s old new (Ran ReadFault) (follows new f) (a.small, rose_before old.read_faults mid.read_faults new.read_faults a.later part.cause)
      (are-right new.files part.left) (opened-most new (follows new f)) (created-most new f) (f.out ∙ a.only.out)
  stopped-ends new (Ran WriteFault) f part =
      let got = part.cause.0 in
      ends p s old new (Ran WriteFault) (follows new f)
      (a.small, has-values got.values, inl (rose_before old.write_faults mid.write_faults new.write_faults (omega (arith, a.only.write_faults)) part.cause.1))
      (are-right new.files part.left) (opened-most new (follows new f)) (created-most new f)
      (prints-served got.report got.turns (PrintsFront p old new) got.served (inl (f.out ∙ a.only.out)))
  stopped-ends new (Ran OutOfMemory) f part = ends p s old new (Ran OutOfMemory) (follows new f) tt (are-right new.files part.left) (opened-most new (follows new f)) (created-most new f) (f.out ∙ a.only.out)

  -- ### All blocks were saved

  pub saves-plan : (new : View) (report : Report) (turns : ℕ) → ServesFiles p mid new →
      ServesAll p s (named_told files heads) (TellsFeed heads files) mid.files new.files report turns → SavesPlan p s old new report turns
  saves-plan new report turns f all =
      let g = follows new f in
      record {
        small = a.small;
        values = has-values all.values;
        served = simulates (λ job wanted s. IsServed job wanted s report turns) all.served;
        saved = are-saved new.files all.whole;
        right = are-right new.files all.left;
        looked = g.looked;
        others = g.others;
        tells = g.tells;
        opened = g.opened;
        created = all.created ∙ ap (raised_by (names_saved p)) a.opens.created;
        gave = g.gave;
        out = f.out ∙ a.only.out;
        err = g.err;
        note_faults = g.note_faults;
        print_faults = f.print_faults ∙ a.only.print_faults;
      }

-- ## Once all blocks were saved

module _ (p : Plan) (s : SimWords) (old saved : View) (report : Report) (turns : ℕ) (v : SavesPlan p s old saved report turns) where
  saved-follows : Follows p old saved
  saved-follows = record { looked = v.looked; others = v.others; tells = v.tells; opened = v.opened; gave = v.gave; err = v.err; note_faults = v.note_faults }

  saved-created : RaisedAtMost (names_saved p) old.files.created saved.files.created
  saved-created = raised_at_most (names_saved p) old.files.created saved.files.created v.created

  served-prints : (Printed : List ℕ → Type 0) → Printed (lines_of p report turns) → PrintsServed p s old.files Printed
  served-prints Printed printed = record { report = report; turns = turns; served = v.served; printed = printed }

  -- no memory was left for the lines
  pub starved-ends : SimulatesPlan p s old saved (Ran OutOfMemory)
  starved-ends = ends p s old saved (Ran OutOfMemory) saved-follows tt v.right (raised_at_most p.inputs old.files.opened saved.files.opened v.opened) saved-created v.out

  pub done-ends : (new : View) (text : List ℕ) → OnlyOut saved new → text ≡ lines_of p report turns → new.out ≡ followed_by saved.out text → SimulatesPlan p s old new (Ran Done)
  done-ends new text only is printed =
      let S : Files → Type 0 = λ x. AreSaved p old.files x in
      let g = follows-out p old saved new only saved-follows in
      ends p s old new (Ran Done) g (v.small, v.values) (subst S (sym only.files) v.saved) g.opened (ap (λ (x : Files). x.created) only.files ∙ v.created)
      (served-prints (λ lines. new.out ≡ followed_by old.out lines) (printed ∙ (ap (λ out. followed_by out text) v.out ∙ ap (followed_by old.out) is)))

  pub unprinted-ends : (new : View) (text : List ℕ) → OnlyOut saved new → text ≡ lines_of p report turns → PrintsPart saved.out new.out text → Rose saved.print_faults new.print_faults → SimulatesPlan p s old new (Ran WriteFault)
  unprinted-ends new text only is printed rose =
      let S : Files → Type 0 = λ x. AreSaved p old.files x in
      let R : Files → Type 0 = λ x. AreRight p old.files x in
      let C : Files → Type 0 = λ x. RaisedAtMost (names_saved p) old.files.created x.created in
      let O : Option (List ℕ) → Type 0 = λ out. PrintsPart out new.out text in
      let L : List ℕ → Type 0 = λ lines. PrintsPart old.out new.out lines in
      let g = follows-out p old saved new only saved-follows in
      let fault : Rose old.print_faults new.print_faults = rose_before old.print_faults saved.print_faults new.print_faults (omega (arith, v.print_faults)) rose in
      let stops : StopsPrinting p old new (lines_of p report turns) = record {
        saved = subst S (sym only.files) v.saved;
        created = ap (λ (x : Files). x.created) only.files ∙ v.created;
        fault = fault;
        front = subst L is (subst O v.out printed);
      } in
      ends p s old new (Ran WriteFault) g (v.small, v.values, inr fault) (subst R (sym only.files) v.right) (raised_at_most p.inputs old.files.opened new.files.opened g.opened) (subst C (sym only.files) saved-created)
      (served-prints (PrintsFront p old new) (inr (v.values, stops)))
