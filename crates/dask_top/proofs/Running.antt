-- A run of a job by a cluster of threads, whose text was read before it and whose end was told after it.
use Rattle.std.proofs.Common.{◌≡◌, ℕ, ◌≤◌, List, ◌++◌, refl, ap, sym, ◌∙◌, subst, inl, inr, arith, Option, None, Some, Ok}
use Rattle.std.specs.Prelude.{IsSomeAnd, IsTrue, map}
use Rattle.io_edge.specs.Content.{followed_by}
use Rattle.io_edge.proofs.GivenLaws.{given_before, given_later, more_same, more_then}
use Rattle.io_edge.specs.View.{View, Files, Opens, OnlyReads, OnlyErr, raised_by, times}
use Rattle.command_words.specs.declared.run.RunWords.{RunWords}
use Rattle.job_run.specs.declared.ends.Ended.{Ended}
use Rattle.job_run.specs.declared.ends.Ended.TheVariants as RunEnds
use Rattle.job_run.specs.Part.{RaisedAtMost}
use Rattle.job_run.specs.Inputs.{FirstRefusal}
use Rattle.job_run.specs.Plan.{Plan, names_saved}
use Rattle.job_run.specs.Runs.{AreRight, Created, StopsPrinting}
use Rattle.job_run.proofs.Counting.{times-append}
use Rattle.thread_run.specs.Counts.{RaisedBetween, feeds, repeated}
use Rattle.thread_run.specs.Ends.{Cause, HasValues, Saves, Opened, Looked, Prints, PrintsRun, IsOutgrownRun, LeavesAs, RunsByThreads, WritesFail, left_as, lines_of, openings}
use Rattle.thread_run.specs.Losses.{losses_by}
use Rattle.thread_run.specs.Reports.{IsToldRun}
use Rattle.thread_run.specs.declared.ends.ThreadEnded.{ThreadEnded}
use Rattle.thread_run.specs.declared.ends.ThreadEnded.TheVariants as ThreadEnds
use Rattle.thread_run.specs.declared.verdict.Told.{Told as ToldOfRun}
use Rattle.thread_run.proofs.Serves.{kill-as}
use Rattle.dask_top.specs.declared.answer.End.{End}
use Rattle.dask_top.specs.Answers.{Performs}
use Rattle.dask_top.specs.Commands.{Running}
use Rattle.dask_top.specs.Ends.{Notes, thread_end}
use Rattle.dask_top.specs.Opening.{TextRead, JobRead}
use Rattle.dask_top.specs.Telling.{IsRefusal, Told, end_of, thread_end_of}
use Rattle.dask_top.specs.Works.{RunningOpened, Runs, RunsToEnd, WorkDoes}
use Rattle.dask_top.proofs.Evaluating.{cause_before, fit_before, refusal_created, right_before, rose_later, saves_before, stops_before, stops_told}
use Rattle.dask_top.proofs.Opening.{raised_by-append, raised_first, raised_more}
use Rattle.dask_top.proofs.Reading.{is_given, is_read}
use Rattle.dask_top.proofs.Unread.{notes_before}
use Rattle.job_run.proofs.Running.{left_alone}

-- ## After it, only standard error got its line

cause_told : (p : Plan) (said : RunWords) (old mid new : View) (end : Ended) → OnlyErr mid new → Cause p said old mid end → Cause p said old new end
cause_told p said old mid new RunEnds.Done only cause = (cause.0, cause.1, given_later old.gave mid.gave new.gave _ cause.2 (more_same mid.gave new.gave only.gave))
cause_told p said old mid new (RunEnds.Limit quantity) only cause = cause
cause_told p said old mid new (RunEnds.File place error) only cause = (cause.0, cause.1, given_later old.gave mid.gave new.gave (λ holds. FirstRefusal p (map holds p.inputs) place error) cause.2 (more_same mid.gave new.gave only.gave))
cause_told p said old mid new (RunEnds.Zero node block) only cause = (cause.0, cause.1, given_later old.gave mid.gave new.gave _ cause.2 (more_same mid.gave new.gave only.gave))
cause_told p said old mid new (RunEnds.Killed key losses) only cause = (
  cause.0,
  record { inputs = cause.1.inputs; needed = cause.1.needed; kill = rw only.read_faults cause.1.kill },
  given_later old.gave mid.gave new.gave _ cause.2 (more_same mid.gave new.gave only.gave),
)
cause_told p said old mid new RunEnds.ReadFault only cause = rw only.read_faults cause
cause_told p said old mid new RunEnds.WriteFault only cause = rw (only.write_faults, only.print_faults) cause
cause_told p said old mid new RunEnds.OutOfMemory only cause = tt

-- what is told of a run over files is told of it over files that hold the same
told_first : (p : Plan) (said : RunWords) (old mid : Files) → mid.held ≡ old.held → mid.tells ≡ old.tells → (told : ToldOfRun) → IsToldRun p said mid told → IsToldRun p said old told
told_first p said old mid held tells told t = record { named = t.named; told = t.told; told_is = rw (← held, ← tells) t.told_is; held = rw (← held) t.held; run = t.run }

-- lines of a run whose files hold the same, printed otherwise
over_run : (p : Plan) (said : RunWords) (old mid : Files) → mid.held ≡ old.held → mid.tells ≡ old.tells → (P Q : List ℕ → Type 0) → ((lines : List ℕ) → P lines → Q lines) → PrintsRun p said mid P
    → PrintsRun p said old Q
over_run p said old mid held tells P Q f r = record { told = r.told; asked = r.asked; of_run = told_first p said old mid held tells r.told r.of_run; printed = f (lines_of p r.told) r.printed }

prints_told : (p : Plan) (said : RunWords) (old mid new : View) (end : Ended) → OnlyErr mid new → Prints p said old mid end → Prints p said old new end
prints_told p said old mid new RunEnds.Done only prints =
    over_run p said old.files old.files refl refl (λ lines. mid.out ≡ followed_by old.out lines) (λ lines. new.out ≡ followed_by old.out lines) (λ lines printed. only.out ∙ printed) prints
prints_told p said old mid new RunEnds.WriteFault only prints = elim prints [
  | inl same ↦ inl (only.out ∙ same)
  | inr run ↦ inr (run.0, over_run p said old.files old.files refl refl (StopsPrinting p old mid) (StopsPrinting p old new) (λ lines stops. stops_told p old mid new lines only stops) run.1)
]
prints_told p said old mid new (RunEnds.Limit quantity) only prints = only.out ∙ prints
prints_told p said old mid new (RunEnds.File place error) only prints = only.out ∙ prints
prints_told p said old mid new (RunEnds.Zero node block) only prints = only.out ∙ prints
prints_told p said old mid new (RunEnds.Killed key losses) only prints = only.out ∙ prints
prints_told p said old mid new RunEnds.ReadFault only prints = only.out ∙ prints
prints_told p said old mid new RunEnds.OutOfMemory only prints = only.out ∙ prints

runs_told : (sources : List (List ℕ)) (p : Plan) (said : RunWords) (old mid new : View) (end : Ended) → OnlyErr mid new → Runs sources p said old mid end
    → Runs sources p said old new end
runs_told sources p said old mid new end only e =
    let S : Files → Type 0 = λ x. Saves p old.files x end in
    let L : Files → Type 0 = λ x. Looked p (sources ++ p.inputs) (sources ++ openings p said) old.files x in
    let O : Files → Type 0 = λ x. RunningOpened sources p said old.files.opened x.opened end in
    let C : Files → Type 0 = λ x. Created (names_saved p) old.files.created x.created end in
    record {
      cause = cause_told p said old mid new end only e.cause;
      saves = subst S (sym only.files) e.saves;
      looked = subst L (sym only.files) e.looked;
      others = λ n none. ap (λ (x : Files). x.held n) only.files ∙ e.others n none;
      opened = subst O (sym only.files) e.opened;
      created = subst C (sym only.files) e.created;
      prints = prints_told p said old mid new end only e.prints;
    }

-- ## Memory was wanted for a refusal's line

-- names that were opened at most so often were opened at most as often as more of them
more_times : (sources inputs rest : List (List ℕ)) (old new : List ℕ → ℕ) → RaisedAtMost (sources ++ inputs) old new → RaisedAtMost (sources ++ (inputs ++ rest)) old new
more_times sources inputs rest old new most = record {
  grows = most.grows;
  at_most = λ n. omega (arith, most.at_most n, times-append n sources inputs, times-append n sources (inputs ++ rest), times-append n inputs rest);
}

starved : (sources : List (List ℕ)) (p : Plan) (said : RunWords) (old new : View) (end : Ended) → IsRefusal (end_of end) → (IsTrue old.files.tells → AreRight p old.files new.files) → new.out ≡ old.out
    → RaisedAtMost (sources ++ openings p said) old.files.opened new.files.opened → Runs sources p said old new end → Runs sources p said old new RunEnds.OutOfMemory
starved sources p said old new end is saves prints opened e = record {
  cause = tt;
  saves = saves;
  looked = e.looked;
  others = e.others;
  opened = opened;
  created = refusal_created (names_saved p) old.files.created new.files.created end is e.created;
  prints = prints;
}

runs_starved : (sources : List (List ℕ)) (p : Plan) (said : RunWords) (old new : View) (end : Ended) → IsRefusal (end_of end) → Runs sources p said old new end
    → Runs sources p said old new RunEnds.OutOfMemory
runs_starved sources p said old new (RunEnds.File place error) is e =
    starved sources p said old new (RunEnds.File place error) is (λ t. left_alone p old.files new.files e.saves) e.prints
    (more_times sources p.inputs (repeated (feeds said) p.inputs) old.files.opened new.files.opened e.opened) e
runs_starved sources p said old new (RunEnds.Limit quantity) is e =
    starved sources p said old new (RunEnds.Limit quantity) is (λ t. left_alone p old.files new.files e.saves) e.prints (raised_first sources (openings p said) old.files.opened new.files.opened e.opened) e
runs_starved sources p said old new (RunEnds.Zero node block) is e = starved sources p said old new (RunEnds.Zero node block) is e.saves e.prints e.opened.at_most e
runs_starved sources p said old new (RunEnds.Killed key losses) is e = starved sources p said old new (RunEnds.Killed key losses) is e.saves e.prints e.opened.at_most e
runs_starved sources p said old new RunEnds.Done is e = absurd is
runs_starved sources p said old new RunEnds.ReadFault is e = absurd is
runs_starved sources p said old new RunEnds.WriteFault is e = absurd is
runs_starved sources p said old new RunEnds.OutOfMemory is e = absurd is

-- an end that a run in the calling thread may have is not that by the events of a core
ran : (sources : List (List ℕ)) (p : Plan) (said : RunWords) (old new : View) (end : Ended) → Runs sources p said old new end → RunsToEnd sources p said old new (ThreadEnds.Ran end)
ran sources p said old new end runs = record { runs = runs; events = λ is. absurd (other is) }
  where
    other : ◌≡◌ {A = ThreadEnded} (ThreadEnds.Ran end) ThreadEnds.Events → ⊥
    other e = cc

-- what holds of the end of a run holds of the end that is answered
thread_is : (P : ThreadEnded → Type 0) (end : ThreadEnded) → P end → IsSomeAnd (thread_end (thread_end_of end)) P
thread_is P ThreadEnds.Events holds = holds
thread_is P (ThreadEnds.Ran RunEnds.Done) holds = holds
thread_is P (ThreadEnds.Ran (RunEnds.Limit quantity)) holds = holds
thread_is P (ThreadEnds.Ran (RunEnds.File place error)) holds = holds
thread_is P (ThreadEnds.Ran (RunEnds.Zero node block)) holds = holds
thread_is P (ThreadEnds.Ran (RunEnds.Killed key losses)) holds = holds
thread_is P (ThreadEnds.Ran RunEnds.ReadFault) holds = holds
thread_is P (ThreadEnds.Ran RunEnds.WriteFault) holds = holds
thread_is P (ThreadEnds.Ran RunEnds.OutOfMemory) holds = holds

-- memory was wanted for a refusal's line
threads_starved : (sources : List (List ℕ)) (p : Plan) (said : RunWords) (old new : View) (end : ThreadEnded) → IsRefusal (thread_end_of end) → RunsToEnd sources p said old new end
    → Runs sources p said old new RunEnds.OutOfMemory
threads_starved sources p said old new ThreadEnds.Events is e = absurd is
threads_starved sources p said old new (ThreadEnds.Ran end) is e = runs_starved sources p said old new end is e.runs

run_told : (sources : List (List ℕ)) (p : Plan) (said : RunWords) (old mid new : View) (end : ThreadEnded) (now : End) → Told (thread_end_of end) now → OnlyErr mid new → RunsToEnd sources p said old mid end
    → WorkDoes (Running said) sources p old new now
run_told sources p said old mid new end now told only e =
    let W : End → Type 0 = λ x. WorkDoes (Running said) sources p old new x in
    elim told [
      | inl same ↦ subst W (sym same) (thread_is (RunsToEnd sources p said old new) end (record { runs = runs_told sources p said old mid new (left_as end) only e.runs; events = e.events }))
      | inr refused ↦ subst W (sym refused.1) (ran sources p said old new RunEnds.OutOfMemory
          (runs_told sources p said old mid new RunEnds.OutOfMemory only (threads_starved sources p said old mid end refused.0 e)))
    ]

-- ## Before it, only the text was read

values_first : (p : Plan) (old mid : Files) → mid.held ≡ old.held → mid.tells ≡ old.tells → HasValues p mid → HasValues p old
values_first p old mid held tells has = record { inputs = fit_before p old mid held tells has.inputs; values = rw (← held, ← tells) has.values }

writes_first : (p : Plan) (old mid new : View) → mid.files.held ≡ old.files.held → mid.files.tells ≡ old.files.tells → OnlyReads old mid → WritesFail p mid new → WritesFail p old new
writes_first p old mid new held tells only fail = elim fail [
  | inl write ↦ inl (rw (← only.write_faults) write)
  | inr print ↦ inr (values_first p old.files mid.files held tells print.0, rw (← only.print_faults) print.1)
]

cause_first : (p : Plan) (said : RunWords) (old mid new : View) (end : Ended) → mid.files.held ≡ old.files.held → mid.files.tells ≡ old.files.tells → OnlyReads old mid → old.read_faults ≤ mid.read_faults → Cause p said mid new end
    → Cause p said old new end
cause_first p said old mid new RunEnds.Done held tells only later cause =
    (cause.0, values_first p old.files mid.files held tells cause.1, given_before old.gave mid.gave new.gave _ only.gave cause.2)
cause_first p said old mid new (RunEnds.Limit quantity) held tells only later cause = cause
cause_first p said old mid new (RunEnds.File place error) held tells only later cause = cause_before p old mid new (RunEnds.File place error) held tells only later cause
cause_first p said old mid new (RunEnds.Zero node block) held tells only later cause = (
  cause.0,
  record { inputs = fit_before p old.files mid.files held tells cause.1.inputs; needed = cause.1.needed; zero_at = rw (← held, ← tells) cause.1.zero_at },
  given_before old.gave mid.gave new.gave _ only.gave cause.2,
)
cause_first p said old mid new (RunEnds.Killed key losses) held tells only later cause = (
  cause.0,
  record {
    inputs = fit_before p old.files mid.files held tells cause.1.inputs;
    needed = rw (← held, ← tells) cause.1.needed;
    kill = kill-as (losses_by said) _ _ losses (rose_later old.read_faults mid.read_faults new.read_faults later) cause.1.kill;
  },
  given_before old.gave mid.gave new.gave _ only.gave cause.2,
)
cause_first p said old mid new RunEnds.ReadFault held tells only later cause = cause_before p old mid new RunEnds.ReadFault held tells only later cause
cause_first p said old mid new RunEnds.WriteFault held tells only later cause =
    (cause.0, fit_before p old.files mid.files held tells cause.1, writes_first p old mid new held tells only cause.2)
cause_first p said old mid new RunEnds.OutOfMemory held tells only later cause = tt

saves_first : (p : Plan) (old mid new : Files) (end : Ended) → mid.held ≡ old.held → mid.tells ≡ old.tells → Saves p mid new end → Saves p old new end
saves_first p old mid new (RunEnds.Zero node block) held tells saves = λ t. right_before p old mid new held tells (saves (tells ∙ t))
saves_first p old mid new (RunEnds.Killed key losses) held tells saves = λ t. right_before p old mid new held tells (saves (tells ∙ t))
saves_first p old mid new (RunEnds.Limit quantity) held tells saves = saves ∙ held
saves_first p old mid new (RunEnds.File place error) held tells saves = saves ∙ held
saves_first p old mid new RunEnds.Done held tells saves = saves_before p old mid new RunEnds.Done held tells saves
saves_first p old mid new RunEnds.ReadFault held tells saves = λ t. right_before p old mid new held tells (saves (tells ∙ t))
saves_first p old mid new RunEnds.WriteFault held tells saves = λ t. right_before p old mid new held tells (saves (tells ∙ t))
saves_first p old mid new RunEnds.OutOfMemory held tells saves = λ t. right_before p old mid new held tells (saves (tells ∙ t))

between_first : (names least most : List (List ℕ)) (old mid : Files) (new : List ℕ → ℕ) → Opens names old mid → mid.opened ≡ raised_by names old.opened → RaisedBetween least most mid.opened new
    → RaisedBetween (names ++ least) (names ++ most) old.opened new
between_first names least most old mid new opens first between = record {
  at_least = λ n.
      let both : raised_by least mid.opened ≡ raised_by (names ++ least) old.opened = ap (raised_by least) first ∙ raised_by-append names least old.opened in
      subst (λ (f : List ℕ → ℕ). f n ≤ new n) both (between.at_least n);
  at_most = raised_more names most old mid new opens between.at_most;
}

opened_first : (names : List (List ℕ)) (p : Plan) (said : RunWords) (old mid : Files) (new : List ℕ → ℕ) (end : Ended) → Opens names old mid → mid.opened ≡ raised_by names old.opened
    → Opened p.inputs (openings p said) mid.opened new end → RunningOpened names p said old.opened new end
opened_first names p said old mid new RunEnds.Done opens first opened = between_first names p.inputs (openings p said) old mid new opens first opened
opened_first names p said old mid new (RunEnds.Limit quantity) opens first opened = opened ∙ first
opened_first names p said old mid new (RunEnds.File place error) opens first opened = raised_more names p.inputs old mid new opens opened
opened_first names p said old mid new (RunEnds.Zero node block) opens first opened = between_first names p.inputs (openings p said) old mid new opens first opened
opened_first names p said old mid new (RunEnds.Killed key losses) opens first opened = between_first names p.inputs (openings p said) old mid new opens first opened
opened_first names p said old mid new RunEnds.ReadFault opens first opened = raised_more names (openings p said) old mid new opens opened
opened_first names p said old mid new RunEnds.WriteFault opens first opened = between_first names p.inputs (openings p said) old mid new opens first opened
opened_first names p said old mid new RunEnds.OutOfMemory opens first opened = raised_more names (openings p said) old mid new opens opened

looked_first : (names : List (List ℕ)) (p : Plan) (said : RunWords) (old mid new : Files) → Opens names old mid → mid.opened ≡ raised_by names old.opened → Looked p p.inputs (openings p said) mid new
    → Looked p (names ++ p.inputs) (names ++ openings p said) old new
looked_first names p said old mid new opens first looked = elim looked [
  | inl same ↦ inl (record { held = same.held ∙ opens.held; created = same.created ∙ opens.created })
  | inr there ↦ inr (record {
    opened = between_first names p.inputs (openings p said) old mid new.opened opens first there.opened;
    inputs = fit_before p old mid opens.held opens.tells there.inputs;
    small = there.small;
  })
]

prints_first : (p : Plan) (said : RunWords) (old mid new : View) (end : Ended) → mid.files.held ≡ old.files.held → mid.files.tells ≡ old.files.tells → mid.files.created ≡ old.files.created → OnlyReads old mid
    → Prints p said mid new end → Prints p said old new end
prints_first p said old mid new RunEnds.Done held tells created only prints =
    over_run p said old.files mid.files held tells (λ lines. new.out ≡ followed_by mid.out lines) (λ lines. new.out ≡ followed_by old.out lines)
    (λ lines printed. printed ∙ ap (λ o. followed_by o lines) only.out) prints
prints_first p said old mid new RunEnds.WriteFault held tells created only prints = elim prints [
  | inl same ↦ inl (same ∙ only.out)
  | inr run ↦ inr (
    values_first p old.files mid.files held tells run.0,
    over_run p said old.files mid.files held tells (StopsPrinting p mid new) (StopsPrinting p old new) (λ lines stops. stops_before p old mid new lines held tells created only stops) run.1,
  )
]
prints_first p said old mid new (RunEnds.Limit quantity) held tells created only prints = prints ∙ only.out
prints_first p said old mid new (RunEnds.File place error) held tells created only prints = prints ∙ only.out
prints_first p said old mid new (RunEnds.Zero node block) held tells created only prints = prints ∙ only.out
prints_first p said old mid new (RunEnds.Killed key losses) held tells created only prints = prints ∙ only.out
prints_first p said old mid new RunEnds.ReadFault held tells created only prints = prints ∙ only.out
prints_first p said old mid new RunEnds.OutOfMemory held tells created only prints = prints ∙ only.out

runs : (names : List (List ℕ)) (p : Plan) (said : RunWords) (old mid new : View) (read : List ℕ) (end : Ended) → TextRead names old mid read → LeavesAs p said mid new end → Runs names p said old new end
runs names p said old mid new read end t by =
    let opens = t.opens in
    let C : (List ℕ → ℕ) → Type 0 = λ f. Created (names_saved p) f new.files.created end in
    record {
      cause = cause_first p said old mid new end opens.held opens.tells t.only t.later by.cause;
      saves = saves_first p old.files mid.files new.files end opens.held opens.tells by.saves;
      looked = looked_first names p said old.files mid.files new.files opens t.opened by.looked;
      others = λ n none. by.others n none ∙ ap (λ f. f n) opens.held;
      opened = opened_first names p said old.files mid.files new.files.opened end opens t.opened by.opened;
      created = subst C opens.created by.created;
      prints = prints_first p said old mid new end opens.held opens.tells opens.created t.only by.prints;
    }

-- what is said of a run whose histories passed their limit, over files that hold the same
outgrown_first : (p : Plan) (said : RunWords) (old mid : Files) → mid.held ≡ old.held → mid.tells ≡ old.tells → IsOutgrownRun p said mid → IsOutgrownRun p said old
outgrown_first p said old mid held tells o = record {
  small = o.small;
  inputs = fit_before p old mid held tells o.inputs;
  named = o.named;
  told = o.told;
  told_is = rw (← held, ← tells) o.told_is;
  held = rw (← held) o.held;
  run = o.run;
}

pub threads_perform : (names : List (List ℕ)) (p : Plan) (said : RunWords) (old mid done new : View) (end : ThreadEnded) (now : End) → JobRead names old mid p → RunsByThreads p said mid done end → Told (thread_end_of end) now
    → OnlyErr done new → Notes (Some (Ok p)) done new now → Performs names (Running said) old new now
threads_perform names p said old mid done new end now j by told only notes = record {
  reading = Some (Ok p);
  read = is_read names old mid j.read (Ok p) j.text j.says;
  given = is_given names old mid new j.read (Ok p) j.text j.says (more_then mid.gave done.gave new.gave by.leaves.gave (more_same done.gave new.gave only.gave));
  does = run_told names p said old done new end now told only (record {
    runs = runs names p said old mid done j.read (left_as end) j.text by.leaves;
    events = λ is. outgrown_first p said old.files mid.files j.text.opens.held j.text.opens.tells (by.events is);
  });
  tells = ap (λ (x : Files). x.tells) only.files ∙ (by.leaves.tells ∙ j.text.opens.tells);
  notes = notes_before (Some (Ok p)) old done new now (by.leaves.err ∙ j.text.only.err) (by.leaves.note_faults ∙ j.text.only.note_faults) notes;
}
