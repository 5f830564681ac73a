-- A job ends as its text, its inputs and its values say where nothing failed.
use Rattle.std.proofs.Common.{◌≡◌, ◌+◌, ◌≤◌, ℕ, List, [], ◌∷◌, get_or, string_bytes, refl, ap, sym, ◌∙◌, subst, inl, inr, arith, Option, Some, None, Ok, Err}
use Rattle.std.specs.Prelude.{◌⊎◌, IfSome, IsSomeAnd}
use Rattle.io_edge.specs.View.{View, Files}
use Rattle.nd_shape.specs.Block.{Array}
use Rattle.npy_codec.specs.declared.head.Head.{Head}
use Rattle.plain_eval.specs.Eval.{held_in}
use Rattle.task_graph.specs.declared.limit.Quantity.{Quantity}
use Rattle.lowering_laws.specs.Lowered.{limit_of}
use Rattle.job_run.specs.declared.ends.Ended.{Ended}
use Rattle.job_run.specs.declared.ends.Ended.TheVariants as RunEnds
use Rattle.job_run.specs.declared.ends.FileError.{FileError}
use Rattle.job_run.specs.declared.ends.FileError.TheVariants.{Npy, Shape}
use Rattle.job_run.specs.Inputs.{FitInputs, FirstRefusal, HoldArrays, HoldsArray, InputRefused, InputsFit, RefusesFile, told_all}
use Rattle.job_run.specs.Plan.{Plan, input_shapes}
use Rattle.job_run.specs.Runs.{Cause as RunCause, HasFault, HasValues, HasZero, IsSmall}
use Rattle.job_run.specs.Values.{IsFaulty, MeetsNone, MeetsZero, tasks_of}
use Rattle.job_run.proofs.OneArray.{not_refused, one_head}
use Rattle.job_text.specs.declared.error.JobError.{JobError}
use Rattle.job_text.specs.declared.error.JobKind.TheVariants as Kinds
use Rattle.job_text.specs.Jobs.{Parts, IsJob, IsRefused}
use Rattle.dask_top.specs.declared.answer.End.{End}
use Rattle.cluster_msgs.specs.declared.events.Item.{Item}
use Rattle.cluster_rules.specs.Runs.{event_limit}
use Rattle.cluster_rules.specs.World.{Job as ClusterJob}
use Rattle.cluster_laws.specs.Blocks.{job_of, setting_of}
use Rattle.cluster_sim.specs.Drawn.{word_of}
use Rattle.cluster_sim.specs.Simulations.{IsUnfinished}
use Rattle.task_graph.specs.Graphs.{operation, shape_of}
use Rattle.command_words.specs.Words.{SameRun, SameSim}
use Rattle.command_words.specs.declared.generate.GenWords.{GenWords}
use Rattle.command_words.specs.declared.run.RunWords.{RunWords}
use Rattle.command_words.specs.declared.settings.RunSettings.{RunSettings}
use Rattle.command_words.specs.declared.sim.Settings.{Settings}
use Rattle.command_words.specs.declared.sim.SimWords.{SimWords}
use Rattle.sim_run.specs.Jobs.{IsTextJob}
use Rattle.sim_run.specs.declared.ends.SimEnded.{SimEnded}
use Rattle.sim_run.specs.declared.ends.SimEnded.TheVariants as SimEnds
use Rattle.sim_run.specs.Ends.{Cause as SimCause, WhereTold}
use Rattle.cluster_sim.specs.Faults.{IsKill}
use Rattle.thread_run.specs.Losses.{IsKill as ThreadKill, losses_by}
use Rattle.thread_run.specs.Ends.{Cause as ThreadCause, HasFault as ThreadFault, HasValues as ThreadValues, IsOutgrownRun}
use Rattle.thread_run.specs.Reports.{IsOutgrown, label}
use Rattle.thread_run.specs.declared.ends.ThreadEnded.{ThreadEnded}
use Rattle.thread_run.specs.declared.ends.ThreadEnded.TheVariants as ThreadEnds
use Rattle.command_words.proofs.Saying.{one_gen, one_plain, one_run, one_sim}
use Rattle.dask_top.specs.declared.answer.End.TheVariants.{Words, Job, Limit, Graph, Events, Done, File, Zero, Killed, ReadFault, WriteFault, OutOfMemory}
use Rattle.dask_top.specs.Answers.{Answers, AskedDoes, CommandDoes, Performs}
use Rattle.dask_top.specs.Commands.{Command, Run, Plain, Sim, Gen, Asks, Asked, IsAsked, Known, Unread, Work, Running, Evaluation, Simulation, sources_of}
use Rattle.cluster_msgs.specs.Scripts.{removes_in}
use Rattle.dask_top.specs.Completing.{Allows, AllowsAll, AllowsRun, CommandEnds, Completes, EndsByInputs, EndsByNumber, EndsByRun, EndsBySimulation, EndsByTexts, EndsByWork, MeetNoZero, MeetZero, NeverEnds, NoFault}
use Rattle.dask_top.specs.Ends.{run_end, sim_end, status_of, thread_end}
use Rattle.dask_top.specs.Generating.{GenCause}
use Rattle.dask_top.specs.Reading.{IsRead, Reading, Reads, plan_said}
use Rattle.dask_top.specs.Telling.{end_of, sim_end_of, thread_end_of}
use Rattle.dask_top.proofs.Obeying.{gen_or_plain, gen_or_run, gen_or_sim, plain_or_run, plain_or_sim, run_or_sim}
use Rattle.dask_top.specs.Works.{Does, Evaluates, RefusalCause, RunsToEnd, Simulates, UnreadCause, WorkDoes}

told_and : {A : Type 0} (o : Option A) (P Q : A → Type 0) → IsSomeAnd o P → IfSome o Q → (x : A) × P x × Q x
told_and None P Q both if = absurd both
told_and (Some x) P Q both if = (x, both, if)

if_then : {A : Type 0} (o : Option A) (P Q : A → Type 0) → ((x : A) → P x → Q x) → IfSome o P → IfSome o Q
if_then None P Q f told = tt
if_then (Some x) P Q f told = f x told

-- ## A file that fits isn't refused

fits_not : (shape bytes : List ℕ) (array : Array) (error : FileError) → HoldsArray shape bytes array → RefusesFile shape bytes error → ⊥
fits_not shape bytes array (Npy error) holds refused = not_refused bytes holds.is.head error holds.is.front refused.0 refused.1
fits_not shape bytes array (Shape has declared) holds refused =
    let h : refused.head ≡ holds.is.head = one_head bytes refused.head holds.is.head refused.front holds.is.front in
    let s : has ≡ shape = refused.has_is ∙ (ap (λ (x : Head). x.shape) h ∙ (sym holds.is.content.shape ∙ holds.declared)) in
    refused.other (s ∙ sym refused.declared_is)

not_refused_input : (p : Plan) (files : Files) (place : ℕ) (error : FileError) → IsSomeAnd (told_all files.held p.inputs) (FitInputs p) → InputRefused p files place error → ⊥
not_refused_input p files place error fit refused =
    let t = told_and (told_all files.held p.inputs) (FitInputs p) (λ contents. FirstRefusal p contents place error) fit refused.first in
    let a = t.1.each place refused.within in
    fits_not (get_or (input_shapes p.nodes) place []) (get_or t.0 place []) a.0 error a.1 t.2.here

-- ## No zero divisor is met, or some

not_faulty : (p : Plan) (files : Files) (node : ℕ) (block : List ℕ) → IsSomeAnd (told_all files.held p.inputs) (MeetNoZero p) → HasFault p files node block → ⊥
not_faulty p files node block meets has =
    let t = told_and (told_all files.held p.inputs) (MeetNoZero p) (λ contents. (blocks : List Array) → HoldArrays (input_shapes p.nodes) contents blocks → IsFaulty p (held_in blocks) node block) meets has.zero_at in
    let fault = t.2 t.1.blocks t.1.hold in
    t.1.none fault.key (record { node = node; number = fault.number; needed = fault.needed; missing = fault.divides.missing })

first_faulty : (p : Plan) (files : Files) (node : ℕ) (block : List ℕ) → HasZero p files node block → HasFault p files node block
first_faulty p files node block has = record {
  inputs = has.inputs;
  zero_at = if_then (told_all files.held p.inputs) (λ contents. (blocks : List Array) → HoldArrays (input_shapes p.nodes) contents blocks → MeetsZero p (held_in blocks) node block)
      (λ contents. (blocks : List Array) → HoldArrays (input_shapes p.nodes) contents blocks → IsFaulty p (held_in blocks) node block) (λ contents meets blocks hold. (meets blocks hold).fault) has.zero_at;
}

not_all : (p : Plan) (files : Files) → IsSomeAnd (told_all files.held p.inputs) (MeetZero p) → HasValues p files → ⊥
not_all p files meets has =
    let t = told_and (told_all files.held p.inputs) (MeetZero p) (λ contents. (blocks : List Array) → HoldArrays (input_shapes p.nodes) contents blocks → MeetsNone p (held_in blocks)) meets has.values in
    t.2 t.1.blocks t.1.hold t.1.key t.1.fault

-- ## The laws of texts

pub record Laws : Type 0 where
  pub one : (text : List ℕ) (a b : Parts) → IsJob text a → IsJob text b → a ≡ b
  pub excluded : (text : List ℕ) (job : Parts) (e : JobError) → IsJob text job → IsRefused text e → e.kind ≡ Kinds.OutOfMemory

one_plan : Laws → (texts : List (List ℕ)) (p q : Plan) → Reads texts (Ok p) → Reads texts (Ok q) → q ≡ p
one_plan laws [] p q a b = absurd a
one_plan laws (text ∷ []) p q a b = b.says ∙ (ap plan_said (laws.one text b.parts a.parts b.job a.job) ∙ sym a.says)
one_plan laws (text ∷ other ∷ more) p q a b = absurd a

no_refusal : Laws → (texts : List (List ℕ)) (p : Plan) (e : JobError) → Reads texts (Ok p) → Reads texts (Err e) → ⊥
no_refusal laws [] p e says refuses = says
no_refusal laws (text ∷ []) p e says refuses = refuses.of_text (laws.excluded text says.parts e says.job refuses.refused)
no_refusal laws (text ∷ other ∷ more) p e says refuses = says

-- ## The end of a job

not_fit : (p : Plan) (files : Files) → IsSomeAnd (told_all files.held p.inputs) (λ contents. ¬ FitInputs p contents) → InputsFit p files → ⊥
not_fit p files unfit fit =
    let t = told_and (told_all files.held p.inputs) (λ contents. ¬ FitInputs p contents) (FitInputs p) unfit fit.fit in
    t.1 t.2

no_limit : (p : Plan) (quantity : Quantity) → limit_of p.nodes ≡ Some quantity → IsSmall p → ⊥
no_limit p quantity passes small = cc

run_memory : (p : Plan) (old : View) → EndsByInputs p old 8
run_memory p old = record { large = λ l. inr refl; unfit = λ s u. inr refl; some = λ s f m. inr refl; none = λ s f m. inr refl }

sim_memory : (p : Plan) (said : SimWords) (old : View) → EndsBySimulation p said old 8
sim_memory p said old = record {
  large = λ l. inr refl;
  unfit = λ s u. inr refl;
  some = λ s f m ends all. inr refl;
  none = λ s f m ends all. inr refl;
  some_limit = λ s f m all. inr (inr refl);
  none_limit = λ s f m all. inr (inr refl);
  some_killed = λ s f m. inr (inr (inr refl));
  none_killed = λ s f m. inr (inr (inr refl));
}

threads_memory : (p : Plan) (said : RunWords) (old : View) → EndsByRun p said old 8
threads_memory p said old = record {
  large = λ l. inr refl;
  unfit = λ s u. inr refl;
  some = λ t s f m all. inr (inr refl);
  none = λ t s f m all. inr (inr refl);
  either = λ s f all. inr (inr (inr refl));
  some_killed = λ t s f m. inr (inr (inr refl));
  none_killed = λ t s f m. inr (inr (inr refl));
  either_killed = λ s f. inr (inr (inr (inr refl)));
  events = λ s e. absurd (omega (arith, e));
}

memory_ends : (work : Work) (p : Plan) (old : View) → EndsByWork work p old 8
memory_ends (Running said) p old = threads_memory p said old
memory_ends Evaluation p old = run_memory p old
memory_ends (Simulation said) p old = sim_memory p said old

-- a job all of whose values are there
done_ends : (p : Plan) (old : View) → IsSmall p → HasValues p old.files → EndsByInputs p old (status_of (end_of RunEnds.Done))
done_ends p old small values = record {
  large = λ l. absurd (l small);
  unfit = λ s u. absurd (not_fit p old.files u values.inputs);
  some = λ s f m. absurd (not_all p old.files m values);
  none = λ s f m. inl refl;
}

run_completes : (p : Plan) (old new : View) (end : Ended) → NoFault old new → RunCause p old new end → EndsByInputs p old (status_of (end_of end))
run_completes p old new RunEnds.Done faults cause = done_ends p old cause.0 cause.1
run_completes p old new (RunEnds.Limit quantity) faults cause = record {
  large = λ l. inl refl;
  unfit = λ s u. absurd (no_limit p quantity cause s);
  some = λ s f m. absurd (no_limit p quantity cause s);
  none = λ s f m. absurd (no_limit p quantity cause s);
}
run_completes p old new (RunEnds.File place error) faults cause = record {
  large = λ l. absurd (l cause.0);
  unfit = λ s u. inl refl;
  some = λ s f m. absurd (not_refused_input p old.files place error f cause.1);
  none = λ s f m. absurd (not_refused_input p old.files place error f cause.1);
}
run_completes p old new (RunEnds.Zero node block) faults cause = record {
  large = λ l. absurd (l cause.0);
  unfit = λ s u. absurd (not_fit p old.files u cause.1.inputs);
  some = λ s f m. inl refl;
  none = λ s f m. absurd (not_faulty p old.files node block m (first_faulty p old.files node block cause.1));
}
run_completes p old new (RunEnds.Killed key losses) faults cause = absurd cause
run_completes p old new RunEnds.ReadFault faults cause = absurd (faults.read cause.1)
run_completes p old new RunEnds.WriteFault faults cause = absurd (elim cause.2 [ inl w ↦ faults.write w | inr q ↦ faults.print q.1 ])
run_completes p old new RunEnds.OutOfMemory faults cause = run_memory p old

-- ## The end of a simulation

-- a simulation of a small job may end with any status that an evaluation of it may
run_ends : (p : Plan) (said : SimWords) (old : View) (status : ℕ) → EndsByInputs p old status → EndsBySimulation p said old status
run_ends p said old status ends = record {
  large = ends.large;
  unfit = ends.unfit;
  some = λ s f m going all. ends.some s f m;
  none = λ s f m going all. ends.none s f m;
  some_limit = λ s f m all. elim (ends.some s f m) [ inl zero ↦ inl zero | inr memory ↦ inr (inr memory) ];
  none_limit = λ s f m all. elim (ends.none s f m) [ inl well ↦ inl well | inr memory ↦ inr (inr memory) ];
  some_killed = λ s f m. elim (ends.some s f m) [ inl zero ↦ inl zero | inr memory ↦ inr (inr (inr memory)) ];
  none_killed = λ s f m. elim (ends.none s f m) [ inl well ↦ inl well | inr memory ↦ inr (inr (inr memory)) ];
}

-- the limit of events was passed
limit_ends : (p : Plan) (said : SimWords) (old : View) → InputsFit p old.files → WhereTold p old.files (NeverEnds p said old) → EndsBySimulation p said old 9
limit_ends p said old fit never = record {
  large = λ l. inl refl;
  unfit = λ s u. absurd (not_fit p old.files u fit);
  some = λ s f m ends all. absurd (ends (told_and (told_all old.files.held p.inputs) (FitInputs p) (λ contents. NeverEnds p said old) f never).2);
  none = λ s f m ends all. absurd (ends (told_and (told_all old.files.held p.inputs) (FitInputs p) (λ contents. NeverEnds p said old) f never).2);
  some_limit = λ s f m all. inr (inl refl);
  none_limit = λ s f m all. inr (inl refl);
  some_killed = λ s f m. inr (inr (inl refl));
  none_killed = λ s f m. inr (inr (inl refl));
}

-- some needed block met a zero divisor, not always the first
fault_ends : (p : Plan) (old : View) (node : ℕ) (block : List ℕ) → IsSmall p → HasFault p old.files node block → EndsByInputs p old 4
fault_ends p old node block small has = record {
  large = λ l. absurd (l small);
  unfit = λ s u. absurd (not_fit p old.files u has.inputs);
  some = λ s f m. inl refl;
  none = λ s f m. absurd (not_faulty p old.files node block m has);
}

-- so many losses as kill a key are more than the script takes away
too_few : (allowed : Option ℕ) (script : List Item) (losses a : ℕ) → AllowsAll allowed script → allowed ≡ Some a → losses ≡ a + 1 → losses ≤ removes_in script → ⊥
too_few allowed script losses a all is above often = let few : removes_in script ≤ a = subst (λ o. AllowsAll o script) is all in omega (arith, few, above, often)

-- a key was killed in a simulation
sim_killed : (p : Plan) (said : SimWords) (old : View) (losses : ℕ) → IsSmall p → InputsFit p old.files → IsKill said.settings.allowed said.script losses → EndsBySimulation p said old 11
sim_killed p said old losses small fit kill =
    let not_all : Allows said → ⊥ = λ all. too_few said.settings.allowed said.script losses kill.above.0 all kill.above.1 kill.above.2 kill.often in
    record {
      large = λ l. absurd (l small);
      unfit = λ s u. absurd (not_fit p old.files u fit);
      some = λ s f m ends all. absurd (not_all all);
      none = λ s f m ends all. absurd (not_all all);
      some_limit = λ s f m all. absurd (not_all all);
      none_limit = λ s f m all. absurd (not_all all);
      some_killed = λ s f m. inr (inl refl);
      none_killed = λ s f m. inr (inl refl);
    }

-- a run of a job whose inputs are as declared, which met a zero divisor or gave all blocks: of zero divisors it tells where the site tells
module _ (p : Plan) (said : RunWords) (old : View) where
  threads_zero : (node : ℕ) (block : List ℕ) → IsSmall p → ThreadFault p old.files node block → EndsByRun p said old 4
  threads_zero node block small has = record {
    large = λ l. absurd (l small);
    unfit = λ s u. absurd (not_fit p old.files u has.inputs);
    some = λ t s f m all. inl refl;
    none = λ t s f m all. absurd (not_faulty p old.files node block m (record { inputs = has.inputs; zero_at = has.zero_at t }));
    either = λ s f all. inr (inl refl);
    some_killed = λ t s f m. inl refl;
    none_killed = λ t s f m. absurd (not_faulty p old.files node block m (record { inputs = has.inputs; zero_at = has.zero_at t }));
    either_killed = λ s f. inr (inl refl);
    events = λ s e. absurd (omega (arith, e));
  }

  threads_done : IsSmall p → ThreadValues p old.files → EndsByRun p said old 0
  threads_done small has = record {
    large = λ l. absurd (l small);
    unfit = λ s u. absurd (not_fit p old.files u has.inputs);
    some = λ t s f m all. absurd (not_all p old.files m (record { inputs = has.inputs; values = has.values t }));
    none = λ t s f m all. inl refl;
    either = λ s f all. inl refl;
    some_killed = λ t s f m. absurd (not_all p old.files m (record { inputs = has.inputs; values = has.values t }));
    none_killed = λ t s f m. inl refl;
    either_killed = λ s f. inl refl;
    events = λ s e. absurd (omega (arith, e));
  }

  threads_limit : (quantity : Quantity) → limit_of p.nodes ≡ Some quantity → EndsByRun p said old 9
  threads_limit quantity passes = record {
    large = λ l. inl refl;
    unfit = λ s u. absurd (no_limit p quantity passes s);
    some = λ t s f m all. absurd (no_limit p quantity passes s);
    none = λ t s f m all. absurd (no_limit p quantity passes s);
    either = λ s f all. absurd (no_limit p quantity passes s);
    some_killed = λ t s f m. absurd (no_limit p quantity passes s);
    none_killed = λ t s f m. absurd (no_limit p quantity passes s);
    either_killed = λ s f. absurd (no_limit p quantity passes s);
    events = λ s e. absurd (no_limit p quantity passes s);
  }

  threads_file : (place : ℕ) (error : FileError) → IsSmall p → InputRefused p old.files place error → EndsByRun p said old 3
  threads_file place error small refused = record {
    large = λ l. absurd (l small);
    unfit = λ s u. inl refl;
    some = λ t s f m all. absurd (not_refused_input p old.files place error f refused);
    none = λ t s f m all. absurd (not_refused_input p old.files place error f refused);
    either = λ s f all. absurd (not_refused_input p old.files place error f refused);
    some_killed = λ t s f m. absurd (not_refused_input p old.files place error f refused);
    none_killed = λ t s f m. absurd (not_refused_input p old.files place error f refused);
    either_killed = λ s f. absurd (not_refused_input p old.files place error f refused);
    events = λ s e. absurd (omega (arith, e));
  }

  -- a key was killed, and all reads went well
  threads_killed : (losses : ℕ) (reads : Type 0) → (reads → ⊥) → IsSmall p → InputsFit p old.files → ThreadKill (losses_by said) reads losses → EndsByRun p said old 11
  threads_killed losses reads read small fit kill =
      let never : AllowsRun said → ⊥ = λ all. elim kill.often [
        | inl often ↦ too_few said.settings.allowed said.script losses kill.above.0 all kill.above.1 kill.above.2 often
        | inr rose ↦ read rose
      ] in
      record {
        large = λ l. absurd (l small);
        unfit = λ s u. absurd (not_fit p old.files u fit);
        some = λ t s f m all. absurd (never all);
        none = λ t s f m all. absurd (never all);
        either = λ s f all. absurd (never all);
        some_killed = λ t s f m. inr (inl refl);
        none_killed = λ t s f m. inr (inl refl);
        either_killed = λ s f. inr (inr (inl refl));
        events = λ s e. absurd (omega (arith, e));
      }

  -- a node's core had taken all events: whether the inputs are as declared is known
  threads_events : IsOutgrownRun p said old.files → EndsByRun p said old 9
  threads_events has = record {
    large = λ l. inl refl;
    unfit = λ s u. absurd (not_fit p old.files u has.inputs);
    some = λ t s f m all. inr (inl refl);
    none = λ t s f m all. inr (inl refl);
    either = λ s f all. inr (inr (inl refl));
    some_killed = λ t s f m. inr (inr (inl refl));
    none_killed = λ t s f m. inr (inr (inl refl));
    either_killed = λ s f. inr (inr (inr (inl refl)));
    events = λ s e. has;
  }

threads_ran : (p : Plan) (said : RunWords) (old new : View) (end : Ended) → NoFault old new → ThreadCause p said old new end → EndsByRun p said old (status_of (end_of end))
threads_ran p said old new RunEnds.Done faults cause = threads_done p said old cause.0 cause.1
threads_ran p said old new (RunEnds.Limit quantity) faults cause = threads_limit p said old quantity cause
threads_ran p said old new (RunEnds.File place error) faults cause = threads_file p said old place error cause.0 cause.1
threads_ran p said old new (RunEnds.Zero node block) faults cause = threads_zero p said old node block cause.0 cause.1
threads_ran p said old new (RunEnds.Killed key losses) faults cause = threads_killed p said old losses _ faults.read cause.0 cause.1.inputs cause.1.kill
threads_ran p said old new RunEnds.ReadFault faults cause = absurd (faults.read cause.1)
threads_ran p said old new RunEnds.WriteFault faults cause = absurd (elim cause.2 [ inl w ↦ faults.write w | inr q ↦ faults.print q.1 ])
threads_ran p said old new RunEnds.OutOfMemory faults cause = threads_memory p said old

threads_complete : (sources : List (List ℕ)) (p : Plan) (said : RunWords) (old new : View) (end : ThreadEnded) → NoFault old new → RunsToEnd sources p said old new end
    → EndsByRun p said old (status_of (thread_end_of end))
threads_complete sources p said old new ThreadEnds.Events faults does = threads_events p said old (does.events refl)
threads_complete sources p said old new (ThreadEnds.Ran end) faults does = threads_ran p said old new end faults does.runs.cause

sim_run_completes : (p : Plan) (said : SimWords) (old new : View) (end : Ended) → NoFault old new → SimCause p said old new (SimEnds.Ran end) → EndsBySimulation p said old (status_of (end_of end))
sim_run_completes p said old new RunEnds.Done faults cause = run_ends p said old 0 (done_ends p old cause.0 cause.1)
sim_run_completes p said old new (RunEnds.Limit quantity) faults cause = run_ends p said old 9 (run_completes p old new (RunEnds.Limit quantity) faults cause)
sim_run_completes p said old new (RunEnds.File place error) faults cause = run_ends p said old 3 (run_completes p old new (RunEnds.File place error) faults cause)
sim_run_completes p said old new (RunEnds.Zero node block) faults cause = run_ends p said old 4 (fault_ends p old node block cause.0 cause.1)
sim_run_completes p said old new (RunEnds.Killed key losses) faults cause = sim_killed p said old losses cause.0 cause.1 cause.2
sim_run_completes p said old new RunEnds.ReadFault faults cause = absurd (faults.read cause.1)
sim_run_completes p said old new RunEnds.WriteFault faults cause = absurd (elim cause.2 [ inl w ↦ faults.write w | inr q ↦ faults.print q ])
sim_run_completes p said old new RunEnds.OutOfMemory faults cause = run_ends p said old 8 (run_memory p old)

sim_completes : (p : Plan) (said : SimWords) (old new : View) (end : SimEnded) → NoFault old new → SimCause p said old new end → EndsBySimulation p said old (status_of (sim_end_of end))
sim_completes p said old new SimEnds.Events faults cause = limit_ends p said old cause.1 cause.2
sim_completes p said old new (SimEnds.Ran end) faults cause = sim_run_completes p said old new end faults cause

-- ## The end of the work on a job

-- what is said of each end of a run is said of each end that is one
of_run : (P : Ended → Type 0) (Q : ℕ → Type 0) → ((e : Ended) → P e → Q (status_of (end_of e))) → (end : End) → IsSomeAnd (run_end end) P → Q (status_of end)
of_run P Q f Done holds = f RunEnds.Done holds
of_run P Q f (File place error) holds = f (RunEnds.File place error) holds
of_run P Q f (Zero node block) holds = f (RunEnds.Zero node block) holds
of_run P Q f (Killed key losses) holds = f (RunEnds.Killed key losses) holds
of_run P Q f ReadFault holds = f RunEnds.ReadFault holds
of_run P Q f WriteFault holds = f RunEnds.WriteFault holds
of_run P Q f OutOfMemory holds = f RunEnds.OutOfMemory holds
of_run P Q f Words holds = absurd holds
of_run P Q f (Job error) holds = absurd holds
of_run P Q f (Limit quantity) holds = absurd holds
of_run P Q f (Graph quantity) holds = f (RunEnds.Limit quantity) holds
of_run P Q f Events holds = absurd holds

of_sim : (P : SimEnded → Type 0) (Q : ℕ → Type 0) → ((e : SimEnded) → P e → Q (status_of (sim_end_of e))) → (end : End) → IsSomeAnd (sim_end end) P → Q (status_of end)
of_sim P Q f Done holds = f (SimEnds.Ran RunEnds.Done) holds
of_sim P Q f (File place error) holds = f (SimEnds.Ran (RunEnds.File place error)) holds
of_sim P Q f (Zero node block) holds = f (SimEnds.Ran (RunEnds.Zero node block)) holds
of_sim P Q f (Killed key losses) holds = f (SimEnds.Ran (RunEnds.Killed key losses)) holds
of_sim P Q f ReadFault holds = f (SimEnds.Ran RunEnds.ReadFault) holds
of_sim P Q f WriteFault holds = f (SimEnds.Ran RunEnds.WriteFault) holds
of_sim P Q f OutOfMemory holds = f (SimEnds.Ran RunEnds.OutOfMemory) holds
of_sim P Q f (Graph quantity) holds = f (SimEnds.Ran (RunEnds.Limit quantity)) holds
of_sim P Q f Events holds = f SimEnds.Events holds
of_sim P Q f Words holds = absurd holds
of_sim P Q f (Job error) holds = absurd holds
of_sim P Q f (Limit quantity) holds = absurd holds

of_thread : (P : ThreadEnded → Type 0) (Q : ℕ → Type 0) → ((e : ThreadEnded) → P e → Q (status_of (thread_end_of e))) → (end : End) → IsSomeAnd (thread_end end) P → Q (status_of end)
of_thread P Q f Done holds = f (ThreadEnds.Ran RunEnds.Done) holds
of_thread P Q f (File place error) holds = f (ThreadEnds.Ran (RunEnds.File place error)) holds
of_thread P Q f (Zero node block) holds = f (ThreadEnds.Ran (RunEnds.Zero node block)) holds
of_thread P Q f (Killed key losses) holds = f (ThreadEnds.Ran (RunEnds.Killed key losses)) holds
of_thread P Q f ReadFault holds = f (ThreadEnds.Ran RunEnds.ReadFault) holds
of_thread P Q f WriteFault holds = f (ThreadEnds.Ran RunEnds.WriteFault) holds
of_thread P Q f OutOfMemory holds = f (ThreadEnds.Ran RunEnds.OutOfMemory) holds
of_thread P Q f (Graph quantity) holds = f (ThreadEnds.Ran (RunEnds.Limit quantity)) holds
of_thread P Q f Events holds = f ThreadEnds.Events holds
of_thread P Q f Words holds = absurd holds
of_thread P Q f (Job error) holds = absurd holds
of_thread P Q f (Limit quantity) holds = absurd holds

work_completes : (work : Work) (sources : List (List ℕ)) (p : Plan) (old new : View) (end : End) → NoFault old new → WorkDoes work sources p old new end → EndsByWork work p old (status_of end)
work_completes (Running said) sources p old new end faults does = of_thread (RunsToEnd sources p said old new) (EndsByRun p said old) (λ e d. threads_complete sources p said old new e faults d) end does
work_completes Evaluation sources p old new end faults does = of_run (Evaluates sources p old new) (EndsByInputs p old) (λ e d. run_completes p old new e faults d.cause) end does
work_completes (Simulation said) sources p old new end faults does = of_sim (Simulates sources p said old new) (EndsBySimulation p said old) (λ e d. sim_completes p said old new e faults d.cause) end does

-- ## The end of a text

unread_memory : (old new : View) (end : End) → NoFault old new → UnreadCause old new end → status_of end ≡ 8
unread_memory old new ReadFault faults cause = absurd (faults.read cause)
unread_memory old new OutOfMemory faults cause = refl
unread_memory old new Done faults cause = absurd cause
unread_memory old new (File place error) faults cause = absurd cause
unread_memory old new (Zero node block) faults cause = absurd cause
unread_memory old new (Killed key losses) faults cause = absurd cause
unread_memory old new WriteFault faults cause = absurd cause
unread_memory old new Words faults cause = absurd cause
unread_memory old new (Job error) faults cause = absurd cause
unread_memory old new (Limit quantity) faults cause = absurd cause
unread_memory old new (Graph quantity) faults cause = absurd cause
unread_memory old new Events faults cause = absurd cause

abbrev IsRefusal : ℕ → Type 0
IsRefusal status = (status ≡ 2) ⊎ ((status ≡ 9) ⊎ (status ≡ 8))

refusal_ends : (e : JobError) (end : End) → RefusalCause e end → IsRefusal (status_of end)
refusal_ends e (Job error) cause = inl refl
refusal_ends e (Limit quantity) cause = inr (inl refl)
refusal_ends e OutOfMemory cause = inr (inr refl)
refusal_ends e Done cause = absurd cause
refusal_ends e (File place error) cause = absurd cause
refusal_ends e (Zero node block) cause = absurd cause
refusal_ends e (Killed key losses) cause = absurd cause
refusal_ends e ReadFault cause = absurd cause
refusal_ends e WriteFault cause = absurd cause
refusal_ends e Words cause = absurd cause
refusal_ends e (Graph quantity) cause = absurd cause
refusal_ends e Events cause = absurd cause

refused_completes : (sources : List (List ℕ)) (work : Work) (reading : Reading) (old new : View) (end : End) → IsSomeAnd (told_all old.files.held sources) (λ texts. (p : Plan) → ¬ Reads texts (Ok p)) → IfSome reading (IsRead sources old.files) → NoFault old new → Does work sources reading old new end →
    IsRefusal (status_of end)
refused_completes sources work None old new end none read faults does = inr (inr (unread_memory old new end faults does.cause))
refused_completes sources work (Some (Err e)) old new end none read faults does = refusal_ends e end does.cause
refused_completes sources work (Some (Ok q)) old new end none read faults does =
    let t = told_and (told_all old.files.held sources) (λ texts. (p : Plan) → ¬ Reads texts (Ok p)) (λ texts. read.texts ≡ texts) none read.held in
    let R : List (List ℕ) → Type 0 = λ texts. Reads texts (Ok q) in
    absurd (t.1 q (subst R t.2 read.reads))

job_completes : Laws → (sources : List (List ℕ)) (work : Work) (p : Plan) (reading : Reading) (old new : View) (end : End) → IsSomeAnd (told_all old.files.held sources) (λ texts. Reads texts (Ok p)) → IfSome reading (IsRead sources old.files) → NoFault old new → Does work sources reading old new end →
    EndsByWork work p old (status_of end)
job_completes laws sources work p None old new end says read faults does =
    let E : ℕ → Type 0 = λ s. EndsByWork work p old s in
    subst E (sym (unread_memory old new end faults does.cause)) (memory_ends work p old)
job_completes laws sources work p (Some (Err e)) old new end says read faults does =
    let t = told_and (told_all old.files.held sources) (λ texts. Reads texts (Ok p)) (λ texts. read.texts ≡ texts) says read.held in
    let R : List (List ℕ) → Type 0 = λ texts. Reads texts (Err e) in
    absurd (no_refusal laws t.0 p e t.1 (subst R t.2 read.reads))
job_completes laws sources work p (Some (Ok q)) old new end says read faults does =
    let t = told_and (told_all old.files.held sources) (λ texts. Reads texts (Ok p)) (λ texts. read.texts ≡ texts) says read.held in
    let R : List (List ℕ) → Type 0 = λ texts. Reads texts (Ok q) in
    let W : Plan → Type 0 = λ x. WorkDoes work sources x old new end in
    work_completes work sources p old new end faults (subst W (one_plan laws t.0 p q t.1 (subst R t.2 read.reads)) does)

text_completes : Laws → (sources : List (List ℕ)) (work : Work) (old new : View) (end : End) → Performs sources work old new end → NoFault old new → EndsByTexts sources work old (status_of end)
text_completes laws sources work old new end performs faults = record {
  refused = λ none. refused_completes sources work performs.reading old new end none performs.read faults performs.does;
  runs = λ p says. job_completes laws sources work p performs.reading old new end says performs.read faults performs.does;
}

text_memory : (sources : List (List ℕ)) (work : Work) (old : View) → EndsByTexts sources work old 8
text_memory sources work old = record { refused = λ none. inr (inr refl); runs = λ p says. memory_ends work p old }

-- ## The command that the words ask for

-- the same work on a job of an equal name
same_source : (work : Work) (job other : List ℕ) (old : View) (status : ℕ) → job ≡ other → EndsByTexts (job ∷ []) work old status → EndsByTexts (other ∷ []) work old status
same_source work job other old status same ends = let H : List ℕ → Type 0 = λ j. EndsByTexts (j ∷ []) work old status in subst H same ends

-- words of the same settings and script make a run of the same plan
same_outgrown : (p : Plan) (said read : RunWords) (files : Files) → SameRun said read → IsOutgrownRun p said files → IsOutgrownRun p read files
same_outgrown p said read files same is = record {
  small = is.small;
  inputs = is.inputs;
  named = is.named;
  told = is.told;
  told_is = is.told_is;
  held = is.held;
  run = record {
    plan = is.run.plan;
    plan_is = record {
      workers = is.run.plan_is.workers ∙ ap (λ (s : RunSettings). s.workers) same.settings;
      threads = is.run.plan_is.threads ∙ ap (λ (s : RunSettings). s.threads) same.settings;
      saturation = is.run.plan_is.saturation ∙ ap (λ (s : RunSettings). s.saturation) same.settings;
      allowed = is.run.plan_is.allowed ∙ ap (λ (s : RunSettings). s.allowed) same.settings;
      script = is.run.plan_is.script ∙ same.script;
    };
    run = subst (λ (s : RunSettings). IsOutgrown (label is.told s.allowed is.named (tasks_of p)) (shape_of (tasks_of p)) is.run.plan) same.settings is.run.run;
  };
}

allows_run : (said read : RunWords) → SameRun said read → AllowsRun read → AllowsRun said
allows_run said read same all = let A : Option ℕ × List Item → Type 0 = λ x. AllowsAll x.0 x.1 in subst A (λ i. ((sym same.settings i).allowed, sym same.script i)) all

-- of the words it is what losses are allowed, and the script, that decide how a run ends, and all of the plan only whether a core has taken all events
ran : (said read : RunWords) (old : View) (status : ℕ) → SameRun said read → EndsByTexts (string_bytes said.job ∷ []) (Running said) old status → EndsByTexts (string_bytes read.job ∷ []) (Running read) old status
ran said read old status same ends =
    let there = same_source (Running said) (string_bytes said.job) (string_bytes read.job) old status same.job ends in
    record {
      refused = there.refused;
      runs = λ p says. let e = there.runs p says in record {
        large = e.large;
        unfit = e.unfit;
        some = λ tells small fit meet all. e.some tells small fit meet (allows_run said read same all);
        none = λ tells small fit meet all. e.none tells small fit meet (allows_run said read same all);
        either = λ small fit all. e.either small fit (allows_run said read same all);
        some_killed = e.some_killed;
        none_killed = e.none_killed;
        either_killed = e.either_killed;
        events = λ small is. same_outgrown p said read old.files same (e.events small is);
      };
    }

-- a job of a text is one whatever the name of its file
is_kind : (p : Plan) (files : Files) (said read : SimWords) (job : ClusterJob) (wanted : List ℕ) → said.settings ≡ read.settings → IsTextJob p files said job wanted → IsTextJob p files read job wanted
is_kind p files said read job wanted same is = record {
  small = is.small;
  inputs = is.inputs;
  named = is.named;
  runs = is.runs ∙ ap (λ (x : Settings). job_of (setting_of (shape_of (tasks_of p)) 1 x.saturation x.allowed) (operation is.named (tasks_of p))) same;
  wants = is.wants;
  told = is.told;
}

-- words of the same settings and script simulate the same
never_ends : (p : Plan) (said read : SimWords) (old : View) → SameSim said read → NeverEnds p said old → NeverEnds p read old
never_ends p said read old same never =
    let U : Settings × List Item → Type 0 = λ x. IsUnfinished never.job (word_of x.0.number) (record { workers = x.0.workers; threads = x.0.threads; script = x.1 }) never.wanted event_limit in
    record {
      job = never.job;
      wanted = never.wanted;
      is = is_kind p old.files said read never.job never.wanted same.settings never.is;
      ends = subst U (λ i. (same.settings i, same.script i)) never.ends;
    }

allows : (said read : SimWords) → SameSim said read → Allows read → Allows said
allows said read same all = let A : Option ℕ × List Item → Type 0 = λ x. AllowsAll x.0 x.1 in subst A (λ i. ((sym same.settings i).allowed, sym same.script i)) all

simulated : (said read : SimWords) (old : View) (status : ℕ) → SameSim said read → EndsByTexts (string_bytes said.job ∷ []) (Simulation said) old status → EndsByTexts (string_bytes read.job ∷ []) (Simulation read) old status
simulated said read old status same ends =
    let there = same_source (Simulation said) (string_bytes said.job) (string_bytes read.job) old status same.job ends in
    record {
      refused = there.refused;
      runs = λ p says. let e = there.runs p says in record {
        large = e.large;
        unfit = e.unfit;
        some = λ small fit meet going all. e.some small fit meet (λ never. going (never_ends p said read old same never)) (allows said read same all);
        none = λ small fit meet going all. e.none small fit meet (λ never. going (never_ends p said read old same never)) (allows said read same all);
        some_limit = λ small fit meet all. e.some_limit small fit meet (allows said read same all);
        none_limit = λ small fit meet all. e.none_limit small fit meet (allows said read same all);
        some_killed = e.some_killed;
        none_killed = e.none_killed;
      };
    }

-- ## The job that a number makes

number_memory : (w : GenWords) → EndsByNumber w 8
number_memory w = record { going = λ ends. inr refl; limit = inr (inr refl) }

number_completes : (w : GenWords) (old new : View) (end : End) → NoFault old new → GenCause w old new end → EndsByNumber w (status_of end)
number_completes w old new Done faults cause = record { going = λ ends. inl refl; limit = inl refl }
number_completes w old new Events faults cause = record { going = λ ends. absurd (ends cause); limit = inr (inl refl) }
number_completes w old new WriteFault faults cause = absurd (faults.print cause)
number_completes w old new OutOfMemory faults cause = number_memory w
number_completes w old new Words faults cause = absurd cause
number_completes w old new (Job error) faults cause = absurd cause
number_completes w old new (Limit quantity) faults cause = absurd cause
number_completes w old new (Graph quantity) faults cause = absurd cause
number_completes w old new (File place error) faults cause = absurd cause
number_completes w old new (Zero node block) faults cause = absurd cause
number_completes w old new (Killed key losses) faults cause = absurd cause
number_completes w old new ReadFault faults cause = absurd cause

-- ## One command

-- what is said of the command that was read is said of each that the words ask for
same_command : (words : List (List ℕ)) (d c : Command) (old : View) (status : ℕ) → Asks words d → Asks words c → CommandEnds d old status → CommandEnds c old status
same_command words (Run said) (Run read) old status is also ends = ran said read old status (one_run words said read is also) ends
same_command words (Plain said) (Plain read) old status is also ends = same_source Evaluation (string_bytes said.job) (string_bytes read.job) old status (one_plain words said read is also) ends
same_command words (Sim said) (Sim read) old status is also ends = simulated said read old status (one_sim words said read is also) ends
same_command words (Gen said) (Gen read) old status is also ends = let E : GenWords → Type 0 = λ w. EndsByNumber w status in subst E (one_gen words said read is also) ends
same_command words (Run said) (Plain read) old status is also ends = absurd (plain_or_run (sym also.command ∙ is.command))
same_command words (Plain said) (Run read) old status is also ends = absurd (plain_or_run (sym is.command ∙ also.command))
same_command words (Run said) (Sim read) old status is also ends = absurd (run_or_sim (sym is.command ∙ also.command))
same_command words (Plain said) (Sim read) old status is also ends = absurd (plain_or_sim (sym is.command ∙ also.command))
same_command words (Sim said) (Run read) old status is also ends = absurd (run_or_sim (sym also.command ∙ is.command))
same_command words (Sim said) (Plain read) old status is also ends = absurd (plain_or_sim (sym also.command ∙ is.command))
same_command words (Gen said) (Run read) old status is also ends = absurd (gen_or_run (sym is.command ∙ also.command))
same_command words (Gen said) (Plain read) old status is also ends = absurd (gen_or_plain (sym is.command ∙ also.command))
same_command words (Gen said) (Sim read) old status is also ends = absurd (gen_or_sim (sym is.command ∙ also.command))
same_command words (Run said) (Gen read) old status is also ends = absurd (gen_or_run (sym also.command ∙ is.command))
same_command words (Plain said) (Gen read) old status is also ends = absurd (gen_or_plain (sym also.command ∙ is.command))
same_command words (Sim said) (Gen read) old status is also ends = absurd (gen_or_sim (sym also.command ∙ is.command))

command_completes : Laws → (c : Command) (old new : View) (end : End) → CommandDoes c old new end → NoFault old new → CommandEnds c old (status_of end)
command_completes laws (Run said) old new end does faults = text_completes laws (sources_of (Run said)) (Running said) old new end does faults
command_completes laws (Plain said) old new end does faults = text_completes laws (sources_of (Plain said)) Evaluation old new end does faults
command_completes laws (Sim said) old new end does faults = text_completes laws (sources_of (Sim said)) (Simulation said) old new end does faults
command_completes laws (Gen said) old new end does faults = number_completes said old new end faults does.cause

command_memory : (c : Command) (old : View) → CommandEnds c old 8
command_memory (Run said) old = text_memory (sources_of (Run said)) (Running said) old
command_memory (Plain said) old = text_memory (sources_of (Plain said)) Evaluation old
command_memory (Sim said) old = text_memory (sources_of (Sim said)) (Simulation said) old
command_memory (Gen said) old = number_memory said

asked_completes : Laws → (words : List (List ℕ)) (old new : View) (end : End) (asked : Asked) (c : Command) → IsAsked words asked → AskedDoes asked old new end → Asks words c → NoFault old new → CommandEnds c old (status_of end)
asked_completes laws words old new end (Known None) c none does asks faults = absurd (none c asks)
asked_completes laws words old new end (Known (Some d)) c asked does asks faults = same_command words d c old (status_of end) asked asks (command_completes laws d old new end does faults)
asked_completes laws words old new end Unread c first does asks faults = let E : End → Type 0 = λ e. CommandEnds c old (status_of e) in subst E (sym does.is) (command_memory c old)

pub completes : Laws → (words : List (List ℕ)) (old new : View) (status : ℕ) → Answers words old new status → Completes words old new status
completes laws words old new status answers c asks faults =
    let E : ℕ → Type 0 = λ s. CommandEnds c old s in
    subst E (sym answers.is_status) (asked_completes laws words old new answers.end answers.obeys.asked c answers.obeys.is answers.obeys.does asks faults)
