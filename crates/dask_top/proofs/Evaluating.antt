-- An evaluation of a job, whose text was read before it and whose end was told after it.
use Rattle.std.proofs.Common.{◌≡◌, ℕ, ◌≤◌, List, ◌++◌, ap, sym, ◌∙◌, subst, inl, inr, arith, Option, Some, Ok}
use Rattle.std.specs.Prelude.{IsSomeAnd, map}
use Rattle.io_edge.specs.Cause.{Rose}
use Rattle.io_edge.specs.Content.{followed_by, PrintsPart}
use Rattle.io_edge.proofs.GivenLaws.{given_before, given_later, more_same, more_then}
use Rattle.io_edge.specs.View.{View, Files, Opens, OnlyReads, OnlyErr, raised_by}
use Rattle.job_run.specs.declared.ends.Ended.{Ended}
use Rattle.job_run.specs.declared.ends.Ended.TheVariants as RunEnds
use Rattle.job_run.specs.Inputs.{FirstRefusal, InputsFit}
use Rattle.job_run.specs.Part.{RaisedAtMost}
use Rattle.job_run.specs.Plan.{Plan, names_saved}
use Rattle.job_run.specs.Runs.{AreRight, AreSaved, Cause as RunCause, Saves as RunSaves, Opened as RunOpened, Created as RunCreated, Prints as RunPrints, HasValues, Looked, PrintsFront, RunsPlan, StopsPrinting, WritesFail, lines_of}
use Rattle.job_run.proofs.Counting.{none_raised, raised_at_most}
use Rattle.dask_top.specs.declared.answer.End.{End}
use Rattle.dask_top.specs.Answers.{Performs}
use Rattle.dask_top.specs.Commands.{Evaluation}
use Rattle.dask_top.specs.Ends.{Notes, run_end}
use Rattle.dask_top.specs.Opening.{TextRead, JobRead}
use Rattle.dask_top.specs.Telling.{IsRefusal, Told, end_of}
use Rattle.dask_top.specs.Works.{Evaluates, JobOpened, WorkDoes}
use Rattle.dask_top.proofs.Opening.{raised_by-append, raised_first, raised_more}
use Rattle.dask_top.proofs.Reading.{is_given, is_read}
use Rattle.dask_top.proofs.Unread.{notes_before}
use Rattle.job_run.proofs.Running.{left_alone}

-- ## After it, only standard error got its line

cause_told : (p : Plan) (old mid new : View) (end : Ended) → OnlyErr mid new → RunCause p old mid end → RunCause p old new end
cause_told p old mid new RunEnds.Done only cause = (cause.0, cause.1, given_later old.gave mid.gave new.gave _ cause.2 (more_same mid.gave new.gave only.gave))
cause_told p old mid new (RunEnds.Limit quantity) only cause = cause
cause_told p old mid new (RunEnds.File place error) only cause = (cause.0, cause.1, given_later old.gave mid.gave new.gave (λ holds. FirstRefusal p (map holds p.inputs) place error) cause.2 (more_same mid.gave new.gave only.gave))
cause_told p old mid new (RunEnds.Zero node block) only cause = (cause.0, cause.1, given_later old.gave mid.gave new.gave _ cause.2 (more_same mid.gave new.gave only.gave))
cause_told p old mid new (RunEnds.Killed key losses) only cause = absurd cause
cause_told p old mid new RunEnds.ReadFault only cause = rw only.read_faults cause
cause_told p old mid new RunEnds.WriteFault only cause = rw (only.write_faults, only.print_faults) cause
cause_told p old mid new RunEnds.OutOfMemory only cause = tt

pub stops_told : (p : Plan) (old mid new : View) (lines : List ℕ) → OnlyErr mid new → StopsPrinting p old mid lines → StopsPrinting p old new lines
stops_told p old mid new lines only s =
    let S : Files → Type 0 = λ x. AreSaved p old.files x in
    let O : Option (List ℕ) → Type 0 = λ o. PrintsPart old.out o lines in
    let R : ℕ → Type 0 = λ n. Rose old.print_faults n in
    record {
      saved = subst S (sym only.files) s.saved;
      created = ap (λ (x : Files). x.created) only.files ∙ s.created;
      fault = subst R (sym only.print_faults) s.fault;
      front = subst O (sym only.out) s.front;
    }

pub front_told : (p : Plan) (old mid new : View) (lines : List ℕ) → OnlyErr mid new → PrintsFront p old mid lines → PrintsFront p old new lines
front_told p old mid new lines only prints = elim prints [ inl same ↦ inl (only.out ∙ same) | inr stops ↦ inr (stops.0, stops_told p old mid new lines only stops.1) ]

prints_told : (p : Plan) (old mid new : View) (end : Ended) → OnlyErr mid new → RunPrints p old mid end → RunPrints p old new end
prints_told p old mid new RunEnds.Done only prints = only.out ∙ prints
prints_told p old mid new RunEnds.WriteFault only prints = front_told p old mid new (lines_of p) only prints
prints_told p old mid new (RunEnds.Limit quantity) only prints = only.out ∙ prints
prints_told p old mid new (RunEnds.File place error) only prints = only.out ∙ prints
prints_told p old mid new (RunEnds.Zero node block) only prints = only.out ∙ prints
prints_told p old mid new (RunEnds.Killed key losses) only prints = only.out ∙ prints
prints_told p old mid new RunEnds.ReadFault only prints = only.out ∙ prints
prints_told p old mid new RunEnds.OutOfMemory only prints = only.out ∙ prints

evaluates_told : (sources : List (List ℕ)) (p : Plan) (old mid new : View) (end : Ended) → OnlyErr mid new → Evaluates sources p old mid end → Evaluates sources p old new end
evaluates_told sources p old mid new end only e =
    let S : Files → Type 0 = λ x. RunSaves p old.files x end in
    let L : Files → Type 0 = λ x. Looked p (sources ++ p.inputs) old.files x in
    let O : Files → Type 0 = λ x. JobOpened sources p.inputs old.files.opened x.opened end in
    let C : Files → Type 0 = λ x. RunCreated (names_saved p) old.files.created x.created end in
    record {
      cause = cause_told p old mid new end only e.cause;
      saves = subst S (sym only.files) e.saves;
      looked = subst L (sym only.files) e.looked;
      others = λ n none. ap (λ (x : Files). x.held n) only.files ∙ e.others n none;
      opened = subst O (sym only.files) e.opened;
      created = subst C (sym only.files) e.created;
      prints = prints_told p old mid new end only e.prints;
    }

-- ## Memory was wanted for a refusal's line

pub refusal_opened : (sources inputs : List (List ℕ)) (old new : List ℕ → ℕ) (end : Ended) → IsRefusal (end_of end) → JobOpened sources inputs old new end → RaisedAtMost (sources ++ inputs) old new
refusal_opened sources inputs old new (RunEnds.File place error) is opened = opened
refusal_opened sources inputs old new (RunEnds.Limit quantity) is opened = raised_first sources inputs old new opened
refusal_opened sources inputs old new (RunEnds.Zero node block) is opened = raised_at_most (sources ++ inputs) old new opened
refusal_opened sources inputs old new (RunEnds.Killed key losses) is opened = raised_at_most (sources ++ inputs) old new opened
refusal_opened sources inputs old new RunEnds.Done is opened = absurd is
refusal_opened sources inputs old new RunEnds.ReadFault is opened = absurd is
refusal_opened sources inputs old new RunEnds.WriteFault is opened = absurd is
refusal_opened sources inputs old new RunEnds.OutOfMemory is opened = absurd is

refusal_saves : (p : Plan) (old new : Files) (end : Ended) → IsRefusal (end_of end) → RunSaves p old new end → AreRight p old new
refusal_saves p old new (RunEnds.File place error) is saves = left_alone p old new saves
refusal_saves p old new (RunEnds.Limit quantity) is saves = left_alone p old new saves
refusal_saves p old new (RunEnds.Zero node block) is saves = saves
refusal_saves p old new (RunEnds.Killed key losses) is saves = saves
refusal_saves p old new RunEnds.Done is saves = absurd is
refusal_saves p old new RunEnds.ReadFault is saves = absurd is
refusal_saves p old new RunEnds.WriteFault is saves = absurd is
refusal_saves p old new RunEnds.OutOfMemory is saves = absurd is

pub refusal_created : (names : List (List ℕ)) (old new : List ℕ → ℕ) (end : Ended) → IsRefusal (end_of end) → RunCreated names old new end → RaisedAtMost names old new
refusal_created names old new (RunEnds.File place error) is created = none_raised names old new created
refusal_created names old new (RunEnds.Limit quantity) is created = none_raised names old new created
refusal_created names old new (RunEnds.Zero node block) is created = raised_at_most names old new created
refusal_created names old new (RunEnds.Killed key losses) is created = raised_at_most names old new created
refusal_created names old new RunEnds.Done is created = absurd is
refusal_created names old new RunEnds.ReadFault is created = absurd is
refusal_created names old new RunEnds.WriteFault is created = absurd is
refusal_created names old new RunEnds.OutOfMemory is created = absurd is

refusal_prints : (p : Plan) (old new : View) (end : Ended) → IsRefusal (end_of end) → RunPrints p old new end → new.out ≡ old.out
refusal_prints p old new (RunEnds.File place error) is prints = prints
refusal_prints p old new (RunEnds.Limit quantity) is prints = prints
refusal_prints p old new (RunEnds.Zero node block) is prints = prints
refusal_prints p old new (RunEnds.Killed key losses) is prints = prints
refusal_prints p old new RunEnds.Done is prints = absurd is
refusal_prints p old new RunEnds.ReadFault is prints = absurd is
refusal_prints p old new RunEnds.WriteFault is prints = absurd is
refusal_prints p old new RunEnds.OutOfMemory is prints = absurd is

evaluates_starved : (sources : List (List ℕ)) (p : Plan) (old new : View) (end : Ended) → IsRefusal (end_of end) → Evaluates sources p old new end → Evaluates sources p old new RunEnds.OutOfMemory
evaluates_starved sources p old new end is e = record {
  cause = tt;
  saves = refusal_saves p old.files new.files end is e.saves;
  looked = e.looked;
  others = e.others;
  opened = refusal_opened sources p.inputs old.files.opened new.files.opened end is e.opened;
  created = refusal_created (names_saved p) old.files.created new.files.created end is e.created;
  prints = refusal_prints p old new end is e.prints;
}

-- ## Its end as an end of the program

pub run_is : (P : Ended → Type 0) (end : Ended) → P end → IsSomeAnd (run_end (end_of end)) P
run_is P RunEnds.Done holds = holds
run_is P (RunEnds.Limit quantity) holds = holds
run_is P (RunEnds.File place error) holds = holds
run_is P (RunEnds.Zero node block) holds = holds
run_is P (RunEnds.Killed key losses) holds = holds
run_is P RunEnds.ReadFault holds = holds
run_is P RunEnds.WriteFault holds = holds
run_is P RunEnds.OutOfMemory holds = holds

evaluated : (sources : List (List ℕ)) (p : Plan) (old mid new : View) (end : Ended) (now : End) → Told (end_of end) now → OnlyErr mid new → Evaluates sources p old mid end → WorkDoes Evaluation sources p old new now
evaluated sources p old mid new end now told only e =
    let W : End → Type 0 = λ x. WorkDoes Evaluation sources p old new x in
    elim told [
      | inl same ↦ subst W (sym same) (run_is (Evaluates sources p old new) end (evaluates_told sources p old mid new end only e))
      | inr refused ↦ subst W (sym refused.1) (evaluates_told sources p old mid new RunEnds.OutOfMemory only (evaluates_starved sources p old mid end refused.0 e))
    ]

-- ## Before it, only the text was read

pub rose_later : (a b c : ℕ) → a ≤ b → Rose b c → Rose a c
rose_later a b c le rose = omega (arith, le, rose)

pub fit_before : (p : Plan) (old mid : Files) → mid.held ≡ old.held → mid.tells ≡ old.tells → InputsFit p mid → InputsFit p old
fit_before p old mid held tells fit = record { there = rw (← held, ← tells) fit.there; fit = rw (← held) fit.fit }

pub values_before : (p : Plan) (old mid : Files) → mid.held ≡ old.held → mid.tells ≡ old.tells → HasValues p mid → HasValues p old
values_before p old mid held tells has = record { inputs = fit_before p old mid held tells has.inputs; values = rw (← held) has.values }

writes_before : (p : Plan) (old mid new : View) → mid.files.held ≡ old.files.held → mid.files.tells ≡ old.files.tells → OnlyReads old mid → WritesFail p mid new → WritesFail p old new
writes_before p old mid new held tells only fail = elim fail [
  | inl write ↦ inl (rw (← only.write_faults) write)
  | inr print ↦ inr (values_before p old.files mid.files held tells print.0, rw (← only.print_faults) print.1)
]

pub cause_before : (p : Plan) (old mid new : View) (end : Ended) → mid.files.held ≡ old.files.held → mid.files.tells ≡ old.files.tells → OnlyReads old mid → old.read_faults ≤ mid.read_faults → RunCause p mid new end → RunCause p old new end
cause_before p old mid new RunEnds.Done held tells only later cause = (cause.0, values_before p old.files mid.files held tells cause.1, given_before old.gave mid.gave new.gave _ only.gave cause.2)
cause_before p old mid new (RunEnds.Limit quantity) held tells only later cause = cause
cause_before p old mid new (RunEnds.File place error) held tells only later cause = (
  cause.0,
  record { within = cause.1.within; there = rw (← held, ← tells) cause.1.there; first = rw (← held) cause.1.first },
  given_before old.gave mid.gave new.gave (λ holds. FirstRefusal p (map holds p.inputs) place error) only.gave cause.2,
)
cause_before p old mid new (RunEnds.Zero node block) held tells only later cause = (
  cause.0,
  record { inputs = fit_before p old.files mid.files held tells cause.1.inputs; zero_at = rw (← held) cause.1.zero_at },
  given_before old.gave mid.gave new.gave _ only.gave cause.2,
)
cause_before p old mid new (RunEnds.Killed key losses) held tells only later cause = absurd cause
cause_before p old mid new RunEnds.ReadFault held tells only later cause = (cause.0, rose_later old.read_faults mid.read_faults new.read_faults later cause.1)
cause_before p old mid new RunEnds.WriteFault held tells only later cause = (cause.0, fit_before p old.files mid.files held tells cause.1, writes_before p old mid new held tells only cause.2)
cause_before p old mid new RunEnds.OutOfMemory held tells only later cause = tt

pub right_before : (p : Plan) (old mid new : Files) → mid.held ≡ old.held → mid.tells ≡ old.tells → AreRight p mid new → AreRight p old new
right_before p old mid new held tells saves = rw (← held, ← tells) saves

pub saves_before : (p : Plan) (old mid new : Files) (end : Ended) → mid.held ≡ old.held → mid.tells ≡ old.tells → RunSaves p mid new end → RunSaves p old new end
saves_before p old mid new RunEnds.Done held tells saves = rw (← held, ← tells) saves
saves_before p old mid new (RunEnds.Limit quantity) held tells saves = saves ∙ held
saves_before p old mid new (RunEnds.File place error) held tells saves = saves ∙ held
saves_before p old mid new (RunEnds.Zero node block) held tells saves = right_before p old mid new held tells saves
saves_before p old mid new (RunEnds.Killed key losses) held tells saves = right_before p old mid new held tells saves
saves_before p old mid new RunEnds.ReadFault held tells saves = right_before p old mid new held tells saves
saves_before p old mid new RunEnds.WriteFault held tells saves = right_before p old mid new held tells saves
saves_before p old mid new RunEnds.OutOfMemory held tells saves = right_before p old mid new held tells saves

pub all_before : (names more : List (List ℕ)) (old mid new : List ℕ → ℕ) → mid ≡ raised_by names old → new ≡ raised_by more mid → new ≡ raised_by (names ++ more) old
all_before names more old mid new first opened = opened ∙ (ap (raised_by more) first ∙ raised_by-append names more old)

pub opened_before : (names more : List (List ℕ)) (old mid : Files) (new : List ℕ → ℕ) (end : Ended) → Opens names old mid → mid.opened ≡ raised_by names old.opened → RunOpened more mid.opened new end → JobOpened names more old.opened new end
opened_before names more old mid new RunEnds.Done opens first opened = all_before names more old.opened mid.opened new first opened
opened_before names more old mid new (RunEnds.Limit quantity) opens first opened = opened ∙ first
opened_before names more old mid new (RunEnds.File place error) opens first opened = raised_more names more old mid new opens opened
opened_before names more old mid new (RunEnds.Zero node block) opens first opened = all_before names more old.opened mid.opened new first opened
opened_before names more old mid new (RunEnds.Killed key losses) opens first opened = all_before names more old.opened mid.opened new first opened
opened_before names more old mid new RunEnds.ReadFault opens first opened = raised_more names more old mid new opens opened
opened_before names more old mid new RunEnds.WriteFault opens first opened = raised_more names more old mid new opens opened
opened_before names more old mid new RunEnds.OutOfMemory opens first opened = raised_more names more old mid new opens opened

pub looked_before : (names : List (List ℕ)) (p : Plan) (old mid new : Files) → Opens names old mid → mid.opened ≡ raised_by names old.opened → Looked p p.inputs mid new → Looked p (names ++ p.inputs) old new
looked_before names p old mid new opens first looked = elim looked [
  | inl same ↦ inl (record { held = same.held ∙ opens.held; created = same.created ∙ opens.created })
  | inr there ↦ inr (record { opened = all_before names p.inputs old.opened mid.opened new.opened first there.opened; inputs = fit_before p old mid opens.held opens.tells there.inputs; small = there.small })
]

pub stops_before : (p : Plan) (old mid new : View) (lines : List ℕ) → mid.files.held ≡ old.files.held → mid.files.tells ≡ old.files.tells → mid.files.created ≡ old.files.created → OnlyReads old mid → StopsPrinting p mid new lines → StopsPrinting p old new lines
stops_before p old mid new lines held tells created only s = record {
  saved = saves_before p old.files mid.files new.files RunEnds.Done held tells s.saved;
  created = s.created ∙ ap (raised_by (names_saved p)) created;
  fault = rw (← only.print_faults) s.fault;
  front = rw (← only.out) s.front;
}

pub front_before : (p : Plan) (old mid new : View) (lines : List ℕ) → mid.files.held ≡ old.files.held → mid.files.tells ≡ old.files.tells → mid.files.created ≡ old.files.created → OnlyReads old mid → PrintsFront p mid new lines → PrintsFront p old new lines
front_before p old mid new lines held tells created only prints = elim prints [
  | inl same ↦ inl (same ∙ only.out)
  | inr stops ↦ inr (values_before p old.files mid.files held tells stops.0, stops_before p old mid new lines held tells created only stops.1)
]

prints_before : (p : Plan) (old mid new : View) (end : Ended) → mid.files.held ≡ old.files.held → mid.files.tells ≡ old.files.tells → mid.files.created ≡ old.files.created → OnlyReads old mid → RunPrints p mid new end → RunPrints p old new end
prints_before p old mid new RunEnds.Done held tells created only prints = prints ∙ ap (λ o. followed_by o (lines_of p)) only.out
prints_before p old mid new RunEnds.WriteFault held tells created only prints = front_before p old mid new (lines_of p) held tells created only prints
prints_before p old mid new (RunEnds.Limit quantity) held tells created only prints = prints ∙ only.out
prints_before p old mid new (RunEnds.File place error) held tells created only prints = prints ∙ only.out
prints_before p old mid new (RunEnds.Zero node block) held tells created only prints = prints ∙ only.out
prints_before p old mid new (RunEnds.Killed key losses) held tells created only prints = prints ∙ only.out
prints_before p old mid new RunEnds.ReadFault held tells created only prints = prints ∙ only.out
prints_before p old mid new RunEnds.OutOfMemory held tells created only prints = prints ∙ only.out

evaluates : (names : List (List ℕ)) (p : Plan) (old mid new : View) (read : List ℕ) (end : Ended) → TextRead names old mid read → RunsPlan p mid new end → Evaluates names p old new end
evaluates names p old mid new read end t runs =
    let opens = t.opens in
    let C : (List ℕ → ℕ) → Type 0 = λ f. RunCreated (names_saved p) f new.files.created end in
    record {
      cause = cause_before p old mid new end opens.held opens.tells t.only t.later runs.cause;
      saves = saves_before p old.files mid.files new.files end opens.held opens.tells runs.saves;
      looked = looked_before names p old.files mid.files new.files opens t.opened runs.looked;
      others = λ n none. runs.others n none ∙ ap (λ f. f n) opens.held;
      opened = opened_before names p.inputs old.files mid.files new.files.opened end opens t.opened runs.opened;
      created = subst C opens.created runs.created;
      prints = prints_before p old mid new end opens.held opens.tells opens.created t.only runs.prints;
    }

pub run_performs : (names : List (List ℕ)) (p : Plan) (old mid done new : View) (end : Ended) (now : End) → JobRead names old mid p → RunsPlan p mid done end → Told (end_of end) now → OnlyErr done new →
    Notes (Some (Ok p)) done new now → Performs names Evaluation old new now
run_performs names p old mid done new end now j runs told only notes = record {
  reading = Some (Ok p);
  read = is_read names old mid j.read (Ok p) j.text j.says;
  given = is_given names old mid new j.read (Ok p) j.text j.says (more_then mid.gave done.gave new.gave runs.gave (more_same done.gave new.gave only.gave));
  does = evaluated names p old done new end now told only (evaluates names p old mid done j.read end j.text runs);
  tells = ap (λ (x : Files). x.tells) only.files ∙ (runs.tells ∙ j.text.opens.tells);
  notes = notes_before (Some (Ok p)) old done new now (runs.err ∙ j.text.only.err) (runs.note_faults ∙ j.text.only.note_faults) notes;
}
