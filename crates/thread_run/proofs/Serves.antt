-- What a run of a graph leaves: feeds that are opened and given back, and files that are created, written and given back.
use Rattle.std.proofs.Common.{◌≡◌, ◌⊎◌, ℕ, ◌<◌, ◌≤◌, Bool, List, [], length, refl, ap, sym, ◌∙◌, subst, arith, Option, Some, None, Result, Ok, Err, inl, inr}
use Rattle.std.specs.Prelude.{IfErr, IfOk, IsOk, IsTrue, OnOk}
use Rattle.std.proofs.lemmas.Bool.{cases_lt, false≢true}
use Rattle.std.proofs.lemmas.List.{get_or_past}
use Rattle.io_edge.specs.Cause.{Rose}
use Rattle.io_edge.specs.declared.edge.OpenFault.{OpenFault}
use Rattle.io_edge.specs.declared.edge.OpenFault.TheVariants as fault
use Rattle.io_edge.proofs.GivenLaws.{more_same, more_then}
use Rattle.io_edge.specs.View.{View, Files, OnlyReads, OnlySpills, OnlyWrites, raised_by, times}
use Rattle.nd_shape.specs.Block.{Array}
use Rattle.cluster_msgs.specs.Labels.{LabelFacts}
use Rattle.cluster_msgs.specs.Shape.{Shape, deps_of}
use Rattle.cluster_msgs.specs.Values.{cone}
use Rattle.cluster_rules.proofs.Members.{any_some}
use Rattle.node_states.specs.declared.why.Why.{Why}
use Rattle.node_runner.specs.Runs.{AreWhole, HasCause, HasFailed, HowItEnded, IfStatus, IsAtFault}
use Rattle.node_runner.specs.declared.ends.Histories.{Histories}
use Rattle.node_runner.specs.declared.ends.RunStatus.{RunStatus}
use Rattle.node_runner.specs.declared.ends.RunStatus.TheVariants as status
use Rattle.node_runner.specs.declared.plan.RunPlan.{RunPlan}
use Rattle.job_run.specs.declared.ends.Ended.{Ended}
use Rattle.job_run.specs.declared.ends.Ended.TheVariants.{Done, Limit, File, Zero, Killed, ReadFault, WriteFault, OutOfMemory}
use Rattle.job_run.specs.Evaluating.{EvaluationCreates, HasLaws, LeavesAll}
use Rattle.job_run.specs.Part.{AreLeft, IsNoneOf, RaisedAtMost}
use Rattle.lowering_laws.specs.Lowered.{lowered}
use Rattle.job_run.specs.Plan.{IsRunnable, Plan, name_at, names_saved, nodes_saved}
use Rattle.job_run.specs.Values.{Named, files_of, tasks_of}
use Rattle.job_run.specs.Wanted.{EndsAtKey, IsBlockAt, wanted_of}
use Rattle.task_graph.specs.Graphs.{shape_of}
use Rattle.job_run.proofs.Counting.{none_raised, raised_at_most}
use Rattle.job_run.proofs.Running.{left_before, most_before}
use Rattle.job_run.proofs.SavedKeys.{is-faulty}
use Rattle.thread_run.specs.Counts.{repeated}
use Rattle.thread_run.specs.Ends.{IsNeededBlock}
use Rattle.thread_run.specs.Feeding.{OpensOften, TakesBack}
use Rattle.thread_run.specs.Losses.{IsKill, IsNeededKey, Losses, losses_in}
use Rattle.thread_run.specs.Serving.{IsUnsaved, IsWhy, ServesAll, ServesFiles, ServesPart, Stops, StopsAt}
use Rattle.thread_run.proofs.Agreed.{told_run}
use Rattle.thread_run.proofs.Planning.{removes-same}
use Rattle.thread_run.proofs.SaverEnds.{open-left}
use Rattle.thread_run.specs.Reports.{IsOutgrown, IsServedRun, IsToldOf, IsToldOfRun, label}
use Rattle.thread_run.specs.declared.verdict.Told.{Told}

-- ## Results

-- what holds where this one is a value, since others are values then
pub both-ok : {A B C E F G : Type 0} (a : Result A E) (b : Result B F) (c : Result C G) (P : Type 0) → OnOk a (IsOk b) → OnOk a (IsOk c) → (IsOk b → IsOk c → P) → OnOk a P
both-ok (Ok x) b c P left right f = f left right
both-ok (Err e) b c P left right f = tt

pub ok-holds : {A E : Type 0} (r : Result A E) (P : Type 0) → IsOk r → OnOk r P → P
ok-holds (Ok x) P ok h = h
ok-holds (Err e) P ok h = absurd (false≢true ok)

-- ## Faults

pub rose_after : (a b c : ℕ) → b ≤ c → Rose a b → Rose a c
rose_after a b c h rose = omega (arith, h, rose)

pub rose_first : (a b c : ℕ) → a ≤ b → Rose b c → Rose a c
rose_first a b c h rose = omega (arith, h, rose)

-- ## Why the cluster didn't give all blocks

why-status : {B A : Type 0} (l : LabelFacts B) (most : Losses) (wanted : List ℕ) (reads : Type 0) (result : Result A RunStatus) → result ≡ Err status.Memory → IfErr result (IsWhy l most wanted reads)
why-status {B} {A} l most wanted reads result e = let P : Result A RunStatus → Type 0 = λ r. IfErr r (IsWhy l most wanted reads) in subst P (sym e) tt

-- the same by a weaker reason
often-as : {A B C : Type 0} → (B → C) → A ⊎ B → A ⊎ C
often-as f (inl a) = inl a
often-as f (inr b) = inr (f b)

pub kill-as : (most : Losses) (reads' reads : Type 0) (losses : ℕ) → (reads' → reads) → IsKill most reads' losses → IsKill most reads losses
kill-as most reads' reads losses f kill = record { above = kill.above; often = often-as f kill.often }

pub why-of : {B A : Type 0} (l : LabelFacts B) (graph : Shape) (p : RunPlan) (wanted : List ℕ) (Failed reads : Type 0) (result : Result A RunStatus) (left : List (Option Why)) (h : Option Histories) → (Failed → reads) →
    HowItEnded l graph p wanted Failed result left h → IfErr result (IsWhy l (losses_in p) wanted reads)
why-of l graph p wanted Failed reads result left None f how = why-status l (losses_in p) wanted reads result how.memory
why-of l graph p wanted Failed reads (Ok blocks) left (Some h) f how = tt
why-of l graph p wanted Failed reads (Err (status.Zero key)) left (Some h) f how = how.1.cause
why-of l graph p wanted Failed reads (Err (status.Killed key losses)) left (Some h) f how =
    let c = how.1.cause in
    (c.0.failed, record { above = c.0.above; often = often-as f (subst (λ n. (losses ≤ n) ⊎ Failed) (removes-same p.script) c.2) })
why-of l graph p wanted Failed reads (Err status.Read) left (Some h) f how = f how.1.cause.1
why-of l graph p wanted Failed reads (Err status.Events) left (Some h) f how = tt
why-of l graph p wanted Failed reads (Err status.Memory) left (Some h) f how = tt

-- a run whose core had taken all events has histories of which one passed its limit
pub outgrew : {A : Type 0} (l : LabelFacts Array) (graph : Shape) (p : RunPlan) (wanted : List ℕ) (Failed : Type 0) (result : Result A RunStatus) (left : List (Option Why)) (h : Option Histories) → result ≡ Err status.Events →
    HowItEnded l graph p wanted Failed result left h → IsOutgrown l graph p
outgrew {A} l graph p wanted Failed result left None is how = absurd (other (sym is ∙ how.memory))
  where
    other : ◌≡◌ {A = Result A RunStatus} (Err status.Events) (Err status.Memory) → ⊥
    other e = cc
outgrew l graph p wanted Failed result left (Some h) is how =
    let C : Type 0 = AreWhole h → ⊥ in
    record { histories = h; last = how.0; are = how.1.histories; cut = subst (IfStatus (HasCause l p wanted how.0.scheduler left Failed C)) is how.1.cause }

-- the same of a label and a graph that are these
pub outgrown-as : (l m : LabelFacts Array) (graph shape : Shape) (p : RunPlan) → l ≡ m → graph ≡ shape → IsOutgrown l graph p → IsOutgrown m shape p
outgrown-as l m graph shape p e f o = let P : LabelFacts Array × Shape → Type 0 = λ x. IsOutgrown x.0 x.1 p in subst P (λ i. (e i, f i)) o

-- the histories of a run that gave all blocks
pub served-run : {A E : Type 0} (l : LabelFacts Array) (graph : Shape) (p : RunPlan) (wanted : List ℕ) (Failed : Type 0) (result : Result A RunStatus) (left : List (Option Why)) (h : Option Histories) (end : Result Histories E) →
    HowItEnded l graph p wanted Failed result left h → OnOk end (IsOk result) → IfOk end (λ x. h ≡ Some x) → IfOk end (IsServedRun l graph p wanted)
served-run l graph p wanted Failed result left h (Err e) how given are = tt
served-run l graph p wanted Failed (Err e) left h (Ok x) how given are = absurd (false≢true given)
served-run l graph p wanted Failed (Ok y) left h (Ok x) how given are =
    let run = subst (HowItEnded l graph p wanted Failed (Ok y) left) are how in
    record { last = run.0; are = run.1.histories; got = run.1.got }

-- what is told of such a run, of its plan
pub told-of-run : (l m : LabelFacts Array) (g h : Shape) (plan : RunPlan) (keys wanted : List ℕ) (hs : Histories) (t : Told) → l ≡ m → g ≡ h → keys ≡ wanted → IsServedRun l g plan keys hs → IsToldOf g plan.saturation plan.allowed hs t
    → IsToldOfRun m h plan wanted t
told-of-run l m g h plan keys wanted hs t same over all run told =
    let R : LabelFacts Array × Shape × List ℕ → Type 0 = λ x. IsToldOfRun x.0 x.1 plan x.2 t in
    subst R (λ i. (same i, over i, all i)) (told_run l g plan keys hs t run told)

-- ## The files

-- nothing but creations and writes of the saved files
pub record SavesFiles (p : Plan) (old new : View) : Type 0 where
  pub others : (n : List ℕ) → IsNoneOf n (names_saved p) → new.files.held n ≡ old.files.held n
  pub tells : new.files.tells ≡ old.files.tells
  pub opened : new.files.opened ≡ old.files.opened
  pub created : RaisedAtMost (names_saved p) old.files.created new.files.created
  pub only : OnlyWrites old new
  pub later : old.write_faults ≤ new.write_faults

-- the saved files were given back
pub record LeavesFiles (p : Plan) (old new : View) : Type 0 where
  pub others : (n : List ℕ) → IsNoneOf n (names_saved p) → new.files.held n ≡ old.files.held n
  pub tells : new.files.tells ≡ old.files.tells
  pub opened : new.files.opened ≡ old.files.opened
  pub created : new.files.created ≡ old.files.created
  pub only : OnlyWrites old new
  pub later : old.write_faults ≤ new.write_faults

pub leaves-none : (p : Plan) (v : View) → LeavesFiles p v v
leaves-none p v = record {
  others = λ n none. refl;
  tells = refl;
  opened = refl;
  created = refl;
  only = record { gave = refl; out = refl; err = refl; read_faults = refl; print_faults = refl; note_faults = refl };
  later = omega arith;
}

-- files were created, feeds given back, and the files given back
pub serves-saved : (p : Plan) (Failed : Type 0) (old made back new : View) → SavesFiles p old made → TakesBack Failed made back → LeavesFiles p back new → ServesFiles p 0 old new
serves-saved p Failed old made back new s t l =
    let created : back.files.created ≡ made.files.created = ap (λ (f : Files). f.created) t.files in
    let same : (n : List ℕ) → new.files.created n ≡ made.files.created n = λ n. ap (λ (f : List ℕ → ℕ). f n) (l.created ∙ created) in
    record {
      others = λ n none. l.others n none ∙ (ap (λ (f : Files). f.held n) t.files ∙ s.others n none);
      tells = l.tells ∙ (ap (λ (f : Files). f.tells) t.files ∙ s.tells);
      opened = none_raised [] old.files.opened new.files.opened (l.opened ∙ (ap (λ (f : Files). f.opened) t.files ∙ s.opened));
      created = record { grows = λ n. omega (arith, s.created.grows n, same n); at_most = λ n. omega (arith, s.created.at_most n, same n) };
      gave = more_then old.gave back.gave new.gave (more_then old.gave made.gave back.gave (more_same old.gave made.gave s.only.gave) t.only.gave) (more_same back.gave new.gave l.only.gave);
      out = l.only.out ∙ (t.only.out ∙ s.only.out);
      err = l.only.err ∙ (t.only.err ∙ s.only.err);
      note_faults = l.only.note_faults ∙ (t.only.note_faults ∙ s.only.note_faults);
      print_faults = l.only.print_faults ∙ (t.only.print_faults ∙ s.only.print_faults);
      read_later = omega (arith, s.only.read_faults, t.later, l.only.read_faults);
      write_later = omega (arith, s.later, t.only.write_faults, l.later);
    }

-- nothing was created
pub serves-none : (p : Plan) (most : ℕ) (old new : View) → OpensOften p.inputs most old new → ServesFiles p most old new
serves-none p most old new o = record {
  others = λ n none. ap (λ (f : List ℕ → Option (List ℕ)). f n) o.held;
  tells = o.tells;
  opened = o.opened;
  created = none_raised (names_saved p) old.files.created new.files.created o.created;
  gave = o.only.gave;
  out = o.only.out;
  err = o.only.err;
  note_faults = o.only.note_faults;
  print_faults = o.only.print_faults;
  read_later = o.later;
  write_later = omega (arith, o.only.write_faults);
}

-- feeds were opened before
pub serves-opened : (p : Plan) (most : ℕ) (old mid new : View) → OpensOften p.inputs most old mid → ServesFiles p 0 mid new → ServesFiles p most old new
serves-opened p most old mid new o s =
    let none : (n : List ℕ) → times n (repeated 0 p.inputs) ≡ 0 = λ n. refl in
    record {
      others = λ n apart. s.others n apart ∙ ap (λ (f : List ℕ → Option (List ℕ)). f n) o.held;
      tells = s.tells ∙ o.tells;
      opened = record { grows = λ n. omega (arith, o.opened.grows n, s.opened.grows n); at_most = λ n. omega (arith, o.opened.at_most n, s.opened.at_most n, none n) };
      created = most_before (names_saved p) old.files.created mid.files.created new.files.created o.created s.created;
      gave = more_then old.gave mid.gave new.gave o.only.gave s.gave;
      out = s.out ∙ o.only.out;
      err = s.err ∙ o.only.err;
      note_faults = s.note_faults ∙ o.only.note_faults;
      print_faults = s.print_faults ∙ o.only.print_faults;
      read_later = omega (arith, o.later, s.read_later);
      write_later = omega (arith, o.only.write_faults, s.write_later);
    }

-- a store was given back before
pub serves-after : (p : Plan) (most : ℕ) (old mid new : View) → mid.files ≡ old.files → OnlyReads old mid → mid.read_faults ≡ old.read_faults → ServesFiles p most mid new → ServesFiles p most old new
serves-after p most old mid new same only reads f =
    let P : Files → Type 0 = λ x. ServesFiles p most (record old { files = x }) new in
    subst P same (record {
      others = f.others;
      tells = f.tells;
      opened = f.opened;
      created = f.created;
      gave = more_then old.gave mid.gave new.gave only.gave f.gave;
      out = f.out ∙ only.out;
      err = f.err ∙ only.err;
      note_faults = f.note_faults ∙ only.note_faults;
      print_faults = f.print_faults ∙ only.print_faults;
      read_later = omega (arith, f.read_later, reads);
      write_later = omega (arith, f.write_later, only.write_faults);
    })

-- disks were made before and given back after
spills-read : (old new : View) → OnlySpills old new → OnlyReads old new
spills-read old new s = record { gave = more_same old.gave new.gave s.gave; out = s.out; err = s.err; write_faults = s.write_faults; print_faults = s.print_faults; note_faults = s.note_faults }

pub serves-between : (p : Plan) (most : ℕ) (old mid served new : View) → OnlySpills old mid → ServesFiles p most mid served → OnlySpills served new → ServesFiles p most old new
serves-between p most old mid served new a f b =
    let g : ServesFiles p most old served = serves-after p most old mid served a.files (spills-read old mid a) a.read_faults f in
    let P : Files → Type 0 = λ x. ServesFiles p most old (record new { files = x }) in
    subst P (sym b.files) (record {
      others = g.others;
      tells = g.tells;
      opened = g.opened;
      created = g.created;
      gave = more_then old.gave served.gave new.gave g.gave (more_same served.gave new.gave b.gave);
      out = b.out ∙ g.out;
      err = b.err ∙ g.err;
      note_faults = b.note_faults ∙ g.note_faults;
      print_faults = b.print_faults ∙ g.print_faults;
      read_later = omega (arith, g.read_later, b.read_faults);
      write_later = omega (arith, g.write_later, b.write_faults);
    })

-- ## The ends

-- where all files were created
pub creates-all : (names : List (List ℕ)) (old new : List ℕ → ℕ) (end : Ended) → new ≡ raised_by names old → EvaluationCreates names old new end
creates-all names old new Done all = all
creates-all names old new (Limit quantity) all = raised_at_most names old new all
creates-all names old new (File place error) all = raised_at_most names old new all
creates-all names old new (Zero node block) all = all
creates-all names old new (Killed key losses) all = all
creates-all names old new ReadFault all = raised_at_most names old new all
creates-all names old new WriteFault all = raised_at_most names old new all
creates-all names old new OutOfMemory all = raised_at_most names old new all

-- nothing was touched for want of memory
pub part_none : (p : Plan) (most : Losses) (named : Named) (told reads writes : Type 0) (old new : Files) → new.held ≡ old.held → new.created ≡ old.created → ServesPart p most named told reads writes old new OutOfMemory
part_none p most named told reads writes old new held created = record {
  cause = tt;
  left = λ t k lt. inl (ap (λ (f : List ℕ → Option (List ℕ)). f (name_at (names_saved p) k)) held);
  created = none_raised (names_saved p) old.created new.created created;
}

-- all was saved, and then memory was wanted
pub part_all : (p : Plan) (most : Losses) (named : Named) (told reads writes : Type 0) (old new : Files) → ServesAll p named told old new → ServesPart p most named told reads writes old new OutOfMemory
part_all p most named told reads writes old new all = record { cause = tt; left = all.left; created = raised_at_most (names_saved p) old.created new.created all.created }

stops-as : (p : Plan) (most : Losses) (named : Named) (told reads reads' writes writes' : Type 0) (end : Ended) → (reads' → reads) → (writes' → writes) → Stops p most named told reads' writes' end → Stops p most named told reads writes end
stops-as p most named told reads reads' writes writes' Done f g h = absurd h
stops-as p most named told reads reads' writes writes' (Limit quantity) f g h = absurd h
stops-as p most named told reads reads' writes writes' (File place error) f g h = absurd h
stops-as p most named told reads reads' writes writes' (Zero node block) f g h = h
stops-as p most named told reads reads' writes writes' (Killed key losses) f g h = (h.0, kill-as most reads' reads losses f h.1)
stops-as p most named told reads reads' writes writes' ReadFault f g h = f h
stops-as p most named told reads reads' writes writes' WriteFault f g h = g h
stops-as p most named told reads reads' writes writes' OutOfMemory f g h = tt

creates-before : (names : List (List ℕ)) (old mid new : List ℕ → ℕ) (end : Ended) → mid ≡ old → EvaluationCreates names mid new end → EvaluationCreates names old new end
creates-before names old mid new end same made = subst (λ (f : List ℕ → ℕ). EvaluationCreates names f new end) same made

-- what was done before left the files alone
pub part-before : (p : Plan) (most : Losses) (named : Named) (told reads reads' writes writes' : Type 0) (old mid new : Files) (end : Ended) → mid.held ≡ old.held → mid.created ≡ old.created → mid.tells ≡ old.tells → (reads' → reads) → (writes' → writes) →
    ServesPart p most named told reads' writes' mid new end → ServesPart p most named told reads writes old new end
part-before p most named told reads reads' writes writes' old mid new end held created tells f g part = record {
  cause = stops-as p most named told reads reads' writes writes' end f g part.cause;
  left = λ t. left_before (names_saved p) (files_of p named) old mid new held tells (part.left t);
  created = creates-before (names_saved p) old.created mid.created new.created end created part.created;
}

-- the same, and what was done after did too
pub part-between : (p : Plan) (most : Losses) (named : Named) (told reads reads' writes writes' : Type 0) (old mid served new : Files) (end : Ended) → mid ≡ old → new ≡ served → (reads' → reads) → (writes' → writes) →
    ServesPart p most named told reads' writes' mid served end → ServesPart p most named told reads writes old new end
part-between p most named told reads reads' writes writes' old mid served new end before after f g part =
    let P : Files × Files → Type 0 = λ x. ServesPart p most named told reads writes x.0 x.1 end in
    subst P (λ i. (before i, sym after i)) (record { cause = stops-as p most named told reads reads' writes writes' end f g part.cause; left = part.left; created = part.created })

pub all-before : (p : Plan) (named : Named) (told : Type 0) (old mid new : Files) → mid.held ≡ old.held → mid.created ≡ old.created → mid.tells ≡ old.tells → ServesAll p named told mid new → ServesAll p named told old new
all-before p named told old mid new held created tells all = record {
  values = all.values;
  whole = λ t is. all.whole t (subst IsTrue (sym tells) is);
  left = λ t. left_before (names_saved p) (files_of p named) old mid new held tells (all.left t);
  created = all.created ∙ ap (raised_by (names_saved p)) created;
}

pub all-between : (p : Plan) (named : Named) (told : Type 0) (old mid served new : Files) → mid ≡ old → new ≡ served → ServesAll p named told mid served → ServesAll p named told old new
all-between p named told old mid served new before after all = let P : Files × Files → Type 0 = λ x. ServesAll p named told x.0 x.1 in subst P (λ i. (before i, sym after i)) all

-- ## A zero divisor, and a killed key

-- the block that a key is, is needed
needed-block : (p : Plan) (named : Named) (key node : ℕ) (block : List ℕ) → HasLaws p named → IsBlockAt p key node block → IsNeededBlock p node block
needed-block p named key node block laws at = record { key = key; number = at.number; needed = record { within = within; name = at.name }; is_block = at.is_block }
  where
    nothing : {n : ℕ} {c : ℕ} → ◌≡◌ {A = Option (ℕ × ℕ)} None (Some (n, c)) → ⊥
    nothing e = cc

    within : key < length (tasks_of p)
    within = elim (cases_lt key (length (tasks_of p))) [
      | inl lt ↦ lt
      | inr ge ↦ absurd (nothing (sym (get_or_past (lowered p.nodes (nodes_saved p)).names key None (omega (arith, ge, laws.names.number))) ∙ at.name))
    ]

-- the client was told of a zero divisor
pub zero-stops : (p : Plan) (most : Losses) (named : Named) (told : Bool) (allowed : Option ℕ) (reads writes : Type 0) (key : ℕ) (end : Ended) → IsRunnable p → HasLaws p named → EndsAtKey p key end → IsAtFault (label told allowed named (tasks_of p)) (wanted_of p) key →
    Stops p most named (IsTrue told) reads writes end
zero-stops p most named told allowed reads writes key Done runs laws at said = absurd at
zero-stops p most named told allowed reads writes key (Limit quantity) runs laws at said = absurd at
zero-stops p most named told allowed reads writes key (File place error) runs laws at said = absurd at
zero-stops p most named told allowed reads writes key (Zero node block) runs laws at said =
    (needed-block p named key node block laws at, λ t. is-faulty p named said.failed.0 key node block runs laws at said.failed.1 (said.failed.2 t) (said.fault t))
zero-stops p most named told allowed reads writes key (Killed k losses) runs laws at said = absurd at
zero-stops p most named told allowed reads writes key ReadFault runs laws at said = absurd at
zero-stops p most named told allowed reads writes key WriteFault runs laws at said = absurd at
zero-stops p most named told allowed reads writes key OutOfMemory runs laws at said = tt

-- a key that something wanted failed by is needed
is-needed : (p : Plan) (named : Named) (told : Bool) (allowed : Option ℕ) (key : ℕ) → HasFailed (label told allowed named (tasks_of p)) (wanted_of p) key → IsTrue told → IsNeededKey p key
is-needed p named told allowed key failed t = any_some (λ k. cone (deps_of (shape_of (tasks_of p))) k key) (wanted_of p) failed.0 failed.1 (failed.2 t)

-- how the cluster ended, and what was written, say why the run is stopped
pub stopped : {A B : Type 0} (p : Plan) (most : Losses) (named : Named) (told : Bool) (allowed : Option ℕ) (reads writes : Type 0) (facts : LabelFacts Array) (all : List ℕ) (given : Result A RunStatus) (written : Result B OpenFault) (end : Ended) → IsRunnable p → HasLaws p named →
    facts ≡ label told allowed named (tasks_of p) → all ≡ wanted_of p → IfErr given (IsWhy facts most all reads) → (written ≡ Err fault.Failed → writes) → StopsAt p given written end → Stops p most named (IsTrue told) reads writes end
stopped p most named told allowed reads writes facts all given written Done runs laws same are why failed at = absurd at
stopped p most named told allowed reads writes facts all given written (Limit quantity) runs laws same are why failed at = absurd at
stopped p most named told allowed reads writes facts all given written (File place error) runs laws same are why failed at = absurd at
stopped {A} p most named told allowed reads writes facts all given written (Zero node block) runs laws same are why failed at =
    let W : Result A RunStatus → Type 0 = λ r. IfErr r (IsWhy facts most all reads) in
    let F : LabelFacts Array × List ℕ → Type 0 = λ x. IsAtFault x.0 x.1 at.0 in
    zero-stops p most named told allowed reads writes at.0 (Zero node block) runs laws at.2 (subst F (λ i. (same i, are i)) (subst W at.1 why))
stopped {A} p most named told allowed reads writes facts all given written (Killed key losses) runs laws same are why failed at =
    let W : Result A RunStatus → Type 0 = λ r. IfErr r (IsWhy facts most all reads) in
    let F : LabelFacts Array × List ℕ → Type 0 = λ x. HasFailed x.0 x.1 key in
    let said : HasFailed facts all key × IsKill most reads losses = subst W at why in
    (λ t. is-needed p named told allowed key (subst F (λ i. (same i, are i)) said.0) t, said.1)
stopped {A} p most named told allowed reads writes facts all given written ReadFault runs laws same are why failed at = let W : Result A RunStatus → Type 0 = λ r. IfErr r (IsWhy facts most all reads) in subst W at why
stopped p most named told allowed reads writes facts all given written WriteFault runs laws same are why failed at = failed at
stopped p most named told allowed reads writes facts all given written OutOfMemory runs laws same are why failed at = tt

-- ## How a run ended

pub stops_zero : {A B : Type 0} (p : Plan) (given : Result A RunStatus) (written : Result B OpenFault) (key : ℕ) (end : Ended) → given ≡ Err (status.Zero key) → EndsAtKey p key end → StopsAt p given written end
stops_zero p given written key Done is at = absurd at
stops_zero p given written key (Limit quantity) is at = absurd at
stops_zero p given written key (File place error) is at = absurd at
stops_zero p given written key (Zero node block) is at = (key, is, at)
stops_zero p given written key (Killed k losses) is at = absurd at
stops_zero p given written key ReadFault is at = absurd at
stops_zero p given written key WriteFault is at = absurd at
stops_zero p given written key OutOfMemory is at = tt

pub stops_unsaved : {A B : Type 0} (p : Plan) (given : Result A RunStatus) (written : Result B OpenFault) (why : OpenFault) (end : Ended) → written ≡ Err why → IsUnsaved why end → StopsAt p given written end
stops_unsaved p given written fault.Failed end is unsaved = subst (StopsAt p given written) (sym unsaved) is
stops_unsaved p given written fault.OutOfMemory end is unsaved = subst (StopsAt p given written) (sym unsaved) tt

-- ## A file couldn't be created

pub uncreated : (p : Plan) (most : Losses) (named : Named) (told reads writes : Type 0) (old made new : Files) (why : OpenFault) (end : Ended) → IsRunnable p → HasLaws p named → LeavesAll p old made → new ≡ made → RaisedAtMost (names_saved p) old.created made.created →
    (why ≡ fault.Failed → writes) → IsUnsaved why end → ServesPart p most named told reads writes old new end
uncreated p most named told reads writes old made new why end runs laws leaves same created failed unsaved =
    let M : Files → Type 0 = λ x. AreLeft (names_saved p) (files_of p named) old x in
    let left : AreLeft (names_saved p) (files_of p named) old new = subst M (sym same) (open-left p named old made runs laws leaves) in
    let raised : RaisedAtMost (names_saved p) old.created new.created = subst (λ (x : Files). RaisedAtMost (names_saved p) old.created x.created) (sym same) created in
    turn why failed unsaved left raised
  where
    turn : (f : OpenFault) → (f ≡ fault.Failed → writes) → IsUnsaved f end → AreLeft (names_saved p) (files_of p named) old new → RaisedAtMost (names_saved p) old.created new.created → ServesPart p most named told reads writes old new end
    turn fault.Failed failed is left raised = subst (ServesPart p most named told reads writes old new) (sym is) (record { cause = failed refl; left = λ t. left; created = raised })
    turn fault.OutOfMemory failed is left raised = subst (ServesPart p most named told reads writes old new) (sym is) (record { cause = tt; left = λ t. left; created = raised })
