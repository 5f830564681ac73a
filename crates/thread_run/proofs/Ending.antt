-- What a run by threads leaves at each of its ends.
use Rattle.std.proofs.Common.{◌≡◌, ℕ, List, ◌++◌, refl, ap, sym, ◌∙◌, subst, inl, inr, arith, Bool, true, false, ◌&&◌, Option, Some, None, is_some}
use Rattle.std.specs.Prelude.{IfSome, IsTrue}
use Rattle.std.proofs.lemmas.Bool.{false≢true}
use Rattle.small_facts.proofs.Options.{if_some_weaker}
use Rattle.io_edge.specs.Cause.{Rose}
use Rattle.io_edge.specs.Content.{Content, PrintsPart, followed_by}
use Rattle.io_edge.specs.Given.{GivesMore}
use Rattle.io_edge.proofs.GivenLaws.{given_before, given_later, more_same, more_then}
use Rattle.io_edge.specs.View.{View, Files, OnlyOut, OnlyReads, Opens, raised_by}
use Rattle.npy_codec.specs.declared.head.Head.{Head}
use Rattle.plain_eval.specs.Eval.{held_in}
use Rattle.command_words.specs.declared.run.RunWords.{RunWords}
use Rattle.job_run.specs.declared.ends.Ended.{Ended}
use Rattle.job_run.specs.declared.ends.Ended.TheVariants.{Done, Limit, File, Zero, Killed, ReadFault, WriteFault, OutOfMemory}
use Rattle.job_run.specs.Inputs.{told_all}
use Rattle.job_run.specs.Lowering.{LowerCause}
use Rattle.job_run.specs.Part.{AreLeft, AreWhole, IsNoneOf, RaisedAtMost}
use Rattle.job_run.specs.Plan.{Plan, names_saved}
use Rattle.job_run.specs.Runs.{AreRight, AreSaved, Created, IsFitGiven, IsSmall, ReadCause, RunsPlan, StopsPrinting}
use Rattle.job_run.specs.Told.{named_told}
use Rattle.job_run.specs.Values.{IsFaulty, MeetsNone, Named, OnInputs, files_of, tasks_of}
use Rattle.job_run.specs.Wanted.{wanted_of}
use Rattle.task_graph.specs.Graphs.{shape_of}
use Rattle.job_run.proofs.Counting.{raised_at_most, times-append}
use Rattle.job_run.proofs.Naming.{on_named}
use Rattle.job_run.proofs.Running.{HaveAccepted, left_before, lowering_runs, most_before, reading_runs, rose_before}
use Rattle.thread_run.specs.Counts.{RaisedBetween, feeds, repeated}
use Rattle.thread_run.specs.Ends.{Cause, HasValues, Looked, Opened, Prints, PrintsRun, IsOutgrownRun, LeavesAs, RunsByThreads, Saves, lines_of, openings}
use Rattle.thread_run.specs.Feeding.{is_told}
use Rattle.thread_run.specs.Losses.{losses_by}
use Rattle.thread_run.specs.Reports.{IsOutgrownBy, IsToldBy, IsToldRun, label}
use Rattle.thread_run.specs.declared.ends.ThreadEnded.{ThreadEnded}
use Rattle.thread_run.specs.declared.ends.ThreadEnded.TheVariants.{Events, Ran}
use Rattle.thread_run.specs.declared.verdict.Told.{Told}
use Rattle.thread_run.specs.Serving.{ServesAll, ServesFiles, ServesPart}
use Rattle.thread_run.proofs.Serves.{kill-as}

-- ## Counts

most-front : (xs ys : List (List ℕ)) (old new : List ℕ → ℕ) → RaisedAtMost xs old new → RaisedAtMost (xs ++ ys) old new
most-front xs ys old new m = record { grows = m.grows; at_most = λ n. omega (arith, m.at_most n, times-append n xs ys) }

most-then : (xs ys : List (List ℕ)) (old mid new : List ℕ → ℕ) → RaisedAtMost xs old mid → RaisedAtMost ys mid new → RaisedAtMost (xs ++ ys) old new
most-then xs ys old mid new a b = record {
  grows = λ n. omega (arith, a.grows n, b.grows n);
  at_most = λ n. omega (arith, a.at_most n, b.at_most n, times-append n xs ys);
}

between : (xs ys : List (List ℕ)) (old mid new : List ℕ → ℕ) → mid ≡ raised_by xs old → RaisedAtMost ys mid new → RaisedBetween xs (xs ++ ys) old new
between xs ys old mid new all more = record {
  at_least = λ n. omega (arith, ap (λ (f : List ℕ → ℕ). f n) all, more.grows n);
  at_most = most-then xs ys old mid new (raised_at_most xs old mid all) more;
}

-- ## The ends as which a run in the calling thread may end

pub ran-ends : (p : Plan) (w : RunWords) (old new : View) (end : Ended) → LeavesAs p w old new end → RunsByThreads p w old new (Ran end)
ran-ends p w old new end leaves = record { leaves = leaves; events = λ is. absurd (other is) }
  where
    other : ◌≡◌ {A = ThreadEnded} (Ran end) Events → ⊥
    other e = cc

-- ## Before the inputs are accepted

-- an end at which a run leaves what any other leaves, with the inputs opened at most once
ran : (p : Plan) (w : RunWords) (old new : View) (end : Ended) → RunsPlan p old new end → new.files.held ≡ old.files.held → new.files.created ≡ old.files.created → Cause p w old new end → Saves p old.files new.files end →
    Opened p.inputs (openings p w) old.files.opened new.files.opened end → Created (names_saved p) old.files.created new.files.created end → Prints p w old new end → LeavesAs p w old new end
ran p w old new end r held made cause saves opened created prints = record {
  cause = cause;
  saves = saves;
  looked = inl (record { held = held; created = made });
  others = r.others;
  tells = r.tells;
  opened = opened;
  created = created;
  prints = prints;
  gave = r.gave;
  err = r.err;
  note_faults = r.note_faults;
}

-- there is no graph
pub lowering-ends : (p : Plan) (w : RunWords) (v : View) (end : Ended) → LowerCause p end → LeavesAs p w v v end
lowering-ends p w v Done cause = absurd cause
lowering-ends p w v (Limit quantity) cause = let r = lowering_runs p v (Limit quantity) cause in ran p w v v (Limit quantity) r refl refl r.cause r.saves r.opened r.created r.prints
lowering-ends p w v (File place error) cause = absurd cause
lowering-ends p w v (Zero node block) cause = absurd cause
lowering-ends p w v (Killed key losses) cause = absurd cause
lowering-ends p w v ReadFault cause = absurd cause
lowering-ends p w v WriteFault cause = absurd cause
lowering-ends p w v OutOfMemory cause =
    let r = lowering_runs p v OutOfMemory cause in
    ran p w v v OutOfMemory r refl refl r.cause (λ t. r.saves) (most-front p.inputs (repeated (feeds w) p.inputs) v.files.opened v.files.opened r.opened) r.created r.prints

-- the inputs weren't opened, or one of them is refused
pub reading-ends : (p : Plan) (w : RunWords) (old new : View) (end : Ended) → IsSmall p → ReadCause p old new end → Opens p.inputs old.files new.files → OnlyReads old new → LeavesAs p w old new end
reading-ends p w old new Done small cause opens only = absurd cause
reading-ends p w old new (Limit quantity) small cause opens only = absurd cause
reading-ends p w old new (File place error) small cause opens only =
    let r = reading_runs p old new (File place error) small cause opens only in
    ran p w old new (File place error) r opens.held opens.created r.cause r.saves r.opened r.created r.prints
reading-ends p w old new (Zero node block) small cause opens only = absurd cause
reading-ends p w old new (Killed key losses) small cause opens only = absurd cause
reading-ends p w old new ReadFault small cause opens only =
    let r = reading_runs p old new ReadFault small cause opens only in
    ran p w old new ReadFault r opens.held opens.created r.cause (λ t. r.saves) (most-front p.inputs (repeated (feeds w) p.inputs) old.files.opened new.files.opened r.opened) r.created r.prints
reading-ends p w old new WriteFault small cause opens only = absurd cause
reading-ends p w old new OutOfMemory small cause opens only =
    let r = reading_runs p old new OutOfMemory small cause opens only in
    ran p w old new OutOfMemory r opens.held opens.created r.cause (λ t. r.saves) (most-front p.inputs (repeated (feeds w) p.inputs) old.files.opened new.files.opened r.opened) r.created r.prints

-- ## Once the inputs are accepted

all-some : {A : Type 0} (o : Option A) (P : A → Type 0) → ((x : A) → P x) → IfSome o P
all-some None P h = tt
all-some (Some x) P h = h x

on-none : {A : Type 0} (o : Option A) (P : A → Type 0) → false ≡ is_some o → IfSome o P
on-none None P e = tt
on-none (Some x) P e = absurd cc

-- what all later ends have
record Follows (p : Plan) (w : RunWords) (old new : View) : Type 0 where
  looked : Looked p p.inputs (openings p w) old.files new.files
  others : (n : List ℕ) → IsNoneOf n (names_saved p) → new.files.held n ≡ old.files.held n
  tells : new.files.tells ≡ old.files.tells
  opened : RaisedBetween p.inputs (openings p w) old.files.opened new.files.opened
  gave : GivesMore old.gave new.gave
  err : new.err ≡ old.err
  note_faults : new.note_faults ≡ old.note_faults

follows-out : (p : Plan) (w : RunWords) (old saved new : View) → OnlyOut saved new → Follows p w old saved → Follows p w old new
follows-out p w old saved new only f =
    let L : Files → Type 0 = λ x. Looked p p.inputs (openings p w) old.files x in
    let O : Files → Type 0 = λ x. RaisedBetween p.inputs (openings p w) old.files.opened x.opened in
    record {
      looked = subst L (sym only.files) f.looked;
      others = λ n none. ap (λ (x : Files). x.held n) only.files ∙ f.others n none;
      tells = ap (λ (x : Files). x.tells) only.files ∙ f.tells;
      opened = subst O (sym only.files) f.opened;
      gave = more_then old.gave saved.gave new.gave f.gave (more_same saved.gave new.gave only.gave);
      err = only.err ∙ f.err;
      note_faults = only.note_faults ∙ f.note_faults;
    }

ends : (p : Plan) (w : RunWords) (old new : View) (end : Ended) → Follows p w old new → Cause p w old new end → Saves p old.files new.files end → Opened p.inputs (openings p w) old.files.opened new.files.opened end →
    Created (names_saved p) old.files.created new.files.created end → Prints p w old new end → LeavesAs p w old new end
ends p w old new end f cause saves opened created prints = record {
  cause = cause;
  saves = saves;
  looked = f.looked;
  others = f.others;
  tells = f.tells;
  opened = opened;
  created = created;
  prints = prints;
  gave = f.gave;
  err = f.err;
  note_faults = f.note_faults;
}

module _ (p : Plan) (w : RunWords) (old mid : View) (files : List Content) (heads : List Head) (a : HaveAccepted p old mid files heads) (told : Bool) (is : told ≡ is_told old.files p.inputs) where
  -- what holds of a run that is told holds of what the inputs hold, where the site tells
  on-inputs : (P : Named → Type 0) (t : Bool) → t ≡ is_told old.files p.inputs → (IsTrue t → P (named_told files heads)) → IsTrue old.files.tells → OnInputs p old.files (λ blocks. P (held_in blocks))
  on-inputs P true e holds tells = on_named p old.files mid.files files heads P a.inputs (λ t. holds refl)
  on-inputs P false e holds tells = on-none (told_all old.files.held p.inputs) _ (e ∙ ap (λ b. b && is_some (told_all old.files.held p.inputs)) tells)

  -- and what holds only where it tells, holds there
  on-telling : (P : Named → Type 0) (b : Bool) → (IsTrue b → OnInputs p old.files (λ blocks. P (held_in blocks))) → OnInputs p old.files (λ blocks. IsTrue b → P (held_in blocks))
  on-telling P true holds = if_some_weaker _ _ (told_all old.files.held p.inputs) (λ contents h blocks hold t. h blocks hold) (holds refl)
  on-telling P false holds = all-some (told_all old.files.held p.inputs) _ (λ contents blocks hold t. absurd (false≢true t))

  follows : (new : View) → ServesFiles p (feeds w) mid new → Follows p w old new
  follows new f =
      let opened : RaisedBetween p.inputs (openings p w) old.files.opened new.files.opened = between p.inputs (repeated (feeds w) p.inputs) old.files.opened mid.files.opened new.files.opened a.opened f.opened in
      record {
        looked = inr (record { opened = opened; inputs = a.fit; small = a.small });
        others = λ n none. f.others n none ∙ ap (λ g. g n) a.opens.held;
        tells = f.tells ∙ a.opens.tells;
        opened = opened;
        gave = more_then old.gave mid.gave new.gave a.only.gave f.gave;
        err = f.err ∙ a.only.err;
        note_faults = f.note_faults ∙ a.only.note_faults;
      }

  has-values : (IsTrue told → MeetsNone p (named_told files heads)) → HasValues p old.files
  has-values holds = record { inputs = a.fit; values = on-inputs (λ n. MeetsNone p n) told is holds }

  -- ### The saved files

  are-right : (new : Files) → (IsTrue told → AreLeft (names_saved p) (files_of p (named_told files heads)) mid.files new) → IsTrue old.files.tells → AreRight p old.files new
  are-right new left = on-inputs (λ n. AreLeft (names_saved p) (files_of p n) old.files new) told is
      (λ t. left_before (names_saved p) (files_of p (named_told files heads)) old.files mid.files new a.opens.held a.opens.tells (left t))

  are-saved : (new : Files) → (IsTrue told → IsTrue mid.files.tells → AreWhole (names_saved p) (files_of p (named_told files heads)) new) → AreSaved p old.files new
  are-saved new whole = on-telling (λ n. AreWhole (names_saved p) (files_of p n) new) old.files.tells
      (λ tells. on-inputs (λ n. AreWhole (names_saved p) (files_of p n) new) told is (λ t. whole t (subst IsTrue (sym a.opens.tells) tells)) tells)

  created-most : (new : View) → ServesFiles p (feeds w) mid new → RaisedAtMost (names_saved p) old.files.created new.files.created
  created-most new f = most_before (names_saved p) old.files.created mid.files.created new.files.created a.opens.created f.created

  -- ### A core had taken all events

  pub outgrown-run : IsOutgrownBy (label told w.settings.allowed (named_told files heads) (tasks_of p)) (shape_of (tasks_of p)) w → IsOutgrownRun p w old.files
  outgrown-run by = record {
    small = a.small;
    inputs = a.fit;
    named = named_told files heads;
    told = told;
    told_is = is;
    held = on_named p old.files mid.files files heads (λ n. n ≡ named_told files heads) a.inputs (λ t. refl);
    run = by;
  }

  -- ### Not all is saved

  pub stopped-ends : (new : View) (end : Ended) → ServesFiles p (feeds w) mid new → IsFitGiven p mid new →
      ServesPart p (losses_by w) (named_told files heads) (IsTrue told) (Rose mid.read_faults new.read_faults) (Rose mid.write_faults new.write_faults) mid.files new.files end → LeavesAs p w old new end
  stopped-ends new Done f given part = absurd part.cause
  stopped-ends new (Limit quantity) f given part = absurd part.cause
  stopped-ends new (File place error) f given part = absurd part.cause
  stopped-ends new (Zero node block) f given part =
      let g = follows new f in
      ends p w old new (Zero node block) g (
        a.small,
        record { inputs = a.fit; needed = part.cause.0; zero_at = on-inputs (λ n. IsFaulty p n node block) told is part.cause.1 },
        given_before old.gave mid.gave new.gave _ a.only.gave given,
      ) (are-right new.files part.left) g.opened
      (part.created ∙ ap (raised_by (names_saved p)) a.opens.created) (f.out ∙ a.only.out)
  stopped-ends new (Killed key losses) f given part =
      let g = follows new f in
      ends p w old new (Killed key losses) g (
        a.small,
        record {
          inputs = a.fit;
          needed = λ t. part.cause.0 (is ∙ t);
          kill = kill-as (losses_by w) _ _ losses (rose_before old.read_faults mid.read_faults new.read_faults a.later) part.cause.1;
        },
        given_before old.gave mid.gave new.gave _ a.only.gave given,
      ) (are-right new.files part.left) g.opened
      (part.created ∙ ap (raised_by (names_saved p)) a.opens.created) (f.out ∙ a.only.out)
  stopped-ends new ReadFault f given part =
      let g = follows new f in
      ends p w old new ReadFault g (a.small, rose_before old.read_faults mid.read_faults new.read_faults a.later part.cause) (are-right new.files part.left) g.opened.at_most (created-most new f) (f.out ∙ a.only.out)
  stopped-ends new WriteFault f given part =
      let g = follows new f in
      ends p w old new WriteFault g (a.small, a.fit, inl (rose_before old.write_faults mid.write_faults new.write_faults (omega (arith, a.only.write_faults)) part.cause)) (are-right new.files part.left) g.opened (created-most new f)
      (inl (f.out ∙ a.only.out))
  stopped-ends new OutOfMemory f given part = let g = follows new f in ends p w old new OutOfMemory g tt (are-right new.files part.left) g.opened.at_most (created-most new f) (f.out ∙ a.only.out)

  -- ### All is saved

  module _ (saved : View) (f : ServesFiles p (feeds w) mid saved) (all : ServesAll p (named_told files heads) (IsTrue told) mid.files saved.files) where
    -- no memory was left for the lines
    pub starved-ends : LeavesAs p w old saved OutOfMemory
    starved-ends = let g = follows saved f in ends p w old saved OutOfMemory g tt (are-right saved.files all.left) g.opened.at_most (created-most saved f) (f.out ∙ a.only.out)

    created-all : saved.files.created ≡ raised_by (names_saved p) old.files.created
    created-all = all.created ∙ ap (raised_by (names_saved p)) a.opens.created

    -- these are its lines, with what is told of the run
    module _ (told-then : Told) (asked : is_some told-then.report ≡ w.report) (by : IsToldBy (label told w.settings.allowed (named_told files heads) (tasks_of p)) (shape_of (tasks_of p)) w (wanted_of p) told-then) where
      of-run : IsToldRun p w old.files told-then
      of-run = record { named = named_told files heads; told = told; told_is = is; held = on_named p old.files mid.files files heads (λ n. n ≡ named_told files heads) a.inputs (λ t. refl); run = by }

      prints-run : (Printed : List ℕ → Type 0) → Printed (lines_of p told-then) → PrintsRun p w old.files Printed
      prints-run Printed printed = record { told = told-then; asked = asked; of_run = of-run; printed = printed }

      pub done-ends : (new : View) (text : List ℕ) → IsFitGiven p mid saved → OnlyOut saved new → text ≡ lines_of p told-then → new.out ≡ followed_by saved.out text → LeavesAs p w old new Done
      done-ends new text given only lines printed =
          let S : Files → Type 0 = λ x. AreSaved p old.files x in
          let g = follows-out p w old saved new only (follows saved f) in
          ends p w old new Done g (a.small, has-values all.values, given_later old.gave saved.gave new.gave _ (given_before old.gave mid.gave saved.gave _ a.only.gave given) (more_same saved.gave new.gave only.gave))
          (subst S (sym only.files) (are-saved saved.files all.whole)) g.opened (ap (λ (x : Files). x.created) only.files ∙ created-all)
          (prints-run (λ shown. new.out ≡ followed_by old.out shown) (printed ∙ (ap (λ out. followed_by out text) (f.out ∙ a.only.out) ∙ ap (followed_by old.out) lines)))

      pub unprinted-ends : (new : View) (text : List ℕ) → OnlyOut saved new → text ≡ lines_of p told-then → PrintsPart saved.out new.out text → Rose saved.print_faults new.print_faults → LeavesAs p w old new WriteFault
      unprinted-ends new text only lines printed rose =
          let g = follows-out p w old saved new only (follows saved f) in
          let S : Files → Type 0 = λ x. AreSaved p old.files x in
          let R : Files → Type 0 = λ x. IsTrue old.files.tells → AreRight p old.files x in
          let O : Option (List ℕ) → Type 0 = λ o. PrintsPart o new.out (lines_of p told-then) in
          let T : List ℕ → Type 0 = λ t. PrintsPart saved.out new.out t in
          let risen : Rose old.print_faults new.print_faults = rose_before old.print_faults saved.print_faults new.print_faults (omega (arith, f.print_faults, a.only.print_faults)) rose in
          let created : new.files.created ≡ raised_by (names_saved p) old.files.created = ap (λ (x : Files). x.created) only.files ∙ created-all in
          let stops : StopsPrinting p old new (lines_of p told-then) = record {
            saved = subst S (sym only.files) (are-saved saved.files all.whole);
            created = created;
            fault = risen;
            front = subst O (f.out ∙ a.only.out) (subst T lines printed);
          } in
          ends p w old new WriteFault g (a.small, a.fit, inr (has-values all.values, risen)) (subst R (sym only.files) (are-right saved.files all.left)) g.opened (raised_at_most (names_saved p) old.files.created new.files.created created) (inr (has-values all.values, prints-run (StopsPrinting p old new) stops))
