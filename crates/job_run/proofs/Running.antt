-- What a run leaves at each of its ends.
use Rattle.std.proofs.Common.{◌≡◌, ℕ, ◌≤◌, List, [], get_or, refl, ap, sym, ◌∙◌, subst, inl, inr, arith}
use Rattle.std.specs.Prelude.{IfSome, IsTrue, Option, Some, None}
use Rattle.io_edge.specs.Cause.{Rose}
use Rattle.io_edge.specs.Content.{Content, followed_by, PrintsPart}
use Rattle.io_edge.proofs.GivenLaws.{given_before, given_later, more_same, more_then}
use Rattle.io_edge.specs.View.{View, Files, Opens, OnlyReads, OnlyOut, raised_by}
use Rattle.nd_shape.specs.Block.{Array}
use Rattle.npy_codec.specs.declared.head.Head.{Head}
use Rattle.plain_eval.specs.Eval.{held_in}
use Rattle.block_lowering.specs.Jobs.{TellsFeed}
use Rattle.saved_files.specs.Saving.{IsLeft}
use Rattle.job_run.specs.declared.ends.Ended.{Ended}
use Rattle.job_run.specs.declared.ends.Ended.TheVariants.{Done, Limit, File, Zero, Killed, ReadFault, WriteFault, OutOfMemory}
use Rattle.job_run.specs.Evaluating.{EvaluatesInputs}
use Rattle.job_run.specs.Inputs.{HoldArrays, InputsFit, told_all}
use Rattle.job_run.specs.Lowering.{LowerCause}
use Rattle.job_run.specs.Part.{AreLeft, AreWhole, RaisedAtMost}
use Rattle.job_run.specs.Plan.{Plan, input_shapes, names_saved}
use Rattle.job_run.specs.Runs.{AreRight, AreSaved, Cause, Created, HasValues, IsSmall, Opened, Prints, ReadCause, RunsPlan, Saves, StopsPrinting, lines_of}
use Rattle.job_run.specs.Told.{named_told}
use Rattle.job_run.specs.Values.{MeetsNone, MeetsZero, Named, OnInputs, files_of}
use Rattle.job_run.proofs.Counting.{none_raised, opened_most, raised_at_most}
use Rattle.job_run.proofs.Naming.{OpenInputs, on_named}

-- ## Before anything is created

-- what holds of all arrays holds of those that the inputs hold
always : (p : Plan) (files : Files) (Q : List Array → Type 0) → ((blocks : List Array) → Q blocks) → OnInputs p files Q
always p files Q f = turn (told_all files.held p.inputs)
  where
    turn : (o : Option (List (List ℕ))) → IfSome o (λ contents. (blocks : List Array) → HoldArrays (input_shapes p.nodes) contents blocks → Q blocks)
    turn None = tt
    turn (Some contents) = λ blocks hold. f blocks

-- the ends that leave all files alone
abbrev IsEarly : Ended → Type 0
IsEarly Done = ⊥
IsEarly (Zero node block) = ⊥
IsEarly (Killed key losses) = ⊥
IsEarly WriteFault = ⊥
IsEarly end = Unit {0}

pub left_alone : (p : Plan) (old new : Files) → new.held ≡ old.held → AreRight p old new
left_alone p old new same = always p old (λ blocks. AreLeft (names_saved p) (files_of p (held_in blocks)) old new) (λ blocks k h. inl (ap (λ f. f (get_or (names_saved p) k [])) same))

early_saves : (p : Plan) (old new : Files) (end : Ended) → IsEarly end → new.held ≡ old.held → Saves p old new end
early_saves p old new Done is same = absurd is
early_saves p old new (Limit quantity) is same = same
early_saves p old new (File place error) is same = same
early_saves p old new (Zero node block) is same = absurd is
early_saves p old new (Killed key losses) is same = absurd is
early_saves p old new ReadFault is same = left_alone p old new same
early_saves p old new WriteFault is same = absurd is
early_saves p old new OutOfMemory is same = left_alone p old new same

early_created : (names : List (List ℕ)) (old new : List ℕ → ℕ) (end : Ended) → IsEarly end → new ≡ old → Created names old new end
early_created names old new Done is same = absurd is
early_created names old new (Limit quantity) is same = same
early_created names old new (File place error) is same = same
early_created names old new (Zero node block) is same = absurd is
early_created names old new (Killed key losses) is same = absurd is
early_created names old new ReadFault is same = none_raised names old new same
early_created names old new WriteFault is same = absurd is
early_created names old new OutOfMemory is same = none_raised names old new same

early_prints : (p : Plan) (old new : View) (end : Ended) → IsEarly end → new.out ≡ old.out → Prints p old new end
early_prints p old new Done is same = absurd is
early_prints p old new (Limit quantity) is same = same
early_prints p old new (File place error) is same = same
early_prints p old new (Zero node block) is same = absurd is
early_prints p old new (Killed key losses) is same = absurd is
early_prints p old new ReadFault is same = same
early_prints p old new WriteFault is same = absurd is
early_prints p old new OutOfMemory is same = same

early_runs : (p : Plan) (old new : View) (end : Ended) → IsEarly end → Cause p old new end → Opens p.inputs old.files new.files → OnlyReads old new → Opened p.inputs old.files.opened new.files.opened end → RunsPlan p old new end
early_runs p old new end is cause opens only opened = record {
  cause = cause;
  saves = early_saves p old.files new.files end is opens.held;
  looked = inl (record { held = opens.held; created = opens.created });
  others = λ n none. ap (λ f. f n) opens.held;
  tells = opens.tells;
  opened = opened;
  created = early_created (names_saved p) old.files.created new.files.created end is opens.created;
  prints = early_prints p old new end is only.out;
  gave = only.gave;
  err = only.err;
  note_faults = only.note_faults;
}

opens_nothing : (names : List (List ℕ)) (files : Files) → Opens names files files
opens_nothing names files = record {
  tells = refl;
  held = refl;
  created = refl;
  grows = λ n. omega arith;
  at_most = λ n. omega arith;
  size_kept = λ n s e. e;
  size_others = λ n none. refl;
}

reads_nothing : (v : View) → OnlyReads v v
reads_nothing v = record { gave = more_same v.gave v.gave refl; out = refl; err = refl; write_faults = refl; print_faults = refl; note_faults = refl }

-- want of memory before the inputs are opened
pub memory_runs : (p : Plan) (v : View) → RunsPlan p v v OutOfMemory
memory_runs p v = early_runs p v v OutOfMemory tt tt (opens_nothing p.inputs v.files) (reads_nothing v) (none_raised p.inputs v.files.opened v.files.opened refl)

-- there is no graph
pub lowering_runs : (p : Plan) (v : View) (end : Ended) → LowerCause p end → RunsPlan p v v end
lowering_runs p v Done cause = absurd cause
lowering_runs p v (Limit quantity) cause = early_runs p v v (Limit quantity) tt cause (opens_nothing p.inputs v.files) (reads_nothing v) refl
lowering_runs p v (File place error) cause = absurd cause
lowering_runs p v (Zero node block) cause = absurd cause
lowering_runs p v (Killed key losses) cause = absurd cause
lowering_runs p v ReadFault cause = absurd cause
lowering_runs p v WriteFault cause = absurd cause
lowering_runs p v OutOfMemory cause = memory_runs p v

-- the inputs weren't opened, or one of them is refused
pub reading_runs : (p : Plan) (old new : View) (end : Ended) → IsSmall p → ReadCause p old new end → Opens p.inputs old.files new.files → OnlyReads old new → RunsPlan p old new end
reading_runs p old new Done small cause opens only = absurd cause
reading_runs p old new (Limit quantity) small cause opens only = absurd cause
reading_runs p old new (File place error) small cause opens only = early_runs p old new (File place error) tt (small, cause.0, cause.1) opens only (opened_most p.inputs old.files new.files opens)
reading_runs p old new (Zero node block) small cause opens only = absurd cause
reading_runs p old new (Killed key losses) small cause opens only = absurd cause
reading_runs p old new ReadFault small cause opens only = early_runs p old new ReadFault tt (small, cause) opens only (opened_most p.inputs old.files new.files opens)
reading_runs p old new WriteFault small cause opens only = absurd cause
reading_runs p old new OutOfMemory small cause opens only = early_runs p old new OutOfMemory tt tt opens only (opened_most p.inputs old.files new.files opens)

-- ## Once the inputs are accepted

-- the inputs were opened, and are as declared
pub record HaveAccepted (p : Plan) (old mid : View) (files : List Content) (heads : List Head) : Type 0 where
  pub small : IsSmall p
  pub fit : InputsFit p old.files
  pub inputs : OpenInputs p old.files mid.files files heads
  pub opens : Opens p.inputs old.files mid.files
  pub opened : mid.files.opened ≡ raised_by p.inputs old.files.opened
  pub only : OnlyReads old mid
  pub later : old.read_faults ≤ mid.read_faults

pub rose_before : (a b c : ℕ) → a ≤ b → Rose b c → Rose a c
rose_before a b c h rose = omega (arith, h, rose)

pub left_before : (names files : List (List ℕ)) (old mid new : Files) → mid.held ≡ old.held → mid.tells ≡ old.tells → AreLeft names files mid new → AreLeft names files old new
left_before names files old mid new held tells left = λ k h. turn (get_or names k []) (get_or files k []) (left k h)
  where
    turn : (name bytes : List ℕ) → IsLeft name bytes mid new → IsLeft name bytes old new
    turn name bytes l = elim l [ inl e ↦ inl (e ∙ ap (λ f. f name) held) | inr q ↦ inr (q.0, λ t. q.1 (subst IsTrue (sym tells) t)) ]

pub most_before : (names : List (List ℕ)) (old mid new : List ℕ → ℕ) → mid ≡ old → RaisedAtMost names mid new → RaisedAtMost names old new
most_before names old mid new same most = let P : (List ℕ → ℕ) → Type 0 = λ f. RaisedAtMost names f new in subst P same most

-- what an evaluation does where the feed's elements are named
abbrev pub EvaluatesFeed : Plan → List Content → List Head → View → View → Ended → Type 0
EvaluatesFeed p files heads old new end = EvaluatesInputs p (named_told files heads) (TellsFeed heads files) old new end

module _ (p : Plan) (old mid : View) (files : List Content) (heads : List Head) (a : HaveAccepted p old mid files heads) where
  on_accepted : (P : Named → Type 0) → (TellsFeed heads files → P (named_told files heads)) → OnInputs p old.files (λ blocks. P (held_in blocks))
  on_accepted P holds = on_named p old.files mid.files files heads P a.inputs holds

module _ (p : Plan) (old mid new : View) (files : List Content) (heads : List Head) (end : Ended) (a : HaveAccepted p old mid files heads) (e : EvaluatesFeed p files heads mid new end) where
  right_after : AreRight p old.files new.files
  right_after = on_accepted p old mid files heads a (λ n. AreLeft (names_saved p) (files_of p n) old.files new.files)
      (λ t. left_before (names_saved p) (files_of p (named_told files heads)) old.files mid.files new.files a.opens.held a.opens.tells (e.left t))

  opened_after : new.files.opened ≡ raised_by p.inputs old.files.opened
  opened_after = e.opened ∙ a.opened

  evaluated_runs : Cause p old new end → Saves p old.files new.files end → Opened p.inputs old.files.opened new.files.opened end → Created (names_saved p) old.files.created new.files.created end → Prints p old new end → RunsPlan p old new end
  evaluated_runs cause saves opened created prints = record {
    cause = cause;
    saves = saves;
    looked = inr (record { opened = opened_after; inputs = a.fit; small = a.small });
    others = λ n none. e.others n none ∙ ap (λ f. f n) a.opens.held;
    tells = e.tells ∙ a.opens.tells;
    opened = opened;
    created = created;
    prints = prints;
    gave = more_then old.gave mid.gave new.gave a.only.gave e.gave;
    err = e.err ∙ a.only.err;
    note_faults = e.note_faults ∙ a.only.note_faults;
  }

-- not all blocks were made and written
pub stopped_runs : (p : Plan) (old mid new : View) (files : List Content) (heads : List Head) (end : Ended) → HaveAccepted p old mid files heads → EvaluatesFeed p files heads mid new end → (end ≡ Done → ⊥) → RunsPlan p old new end
stopped_runs p old mid new files heads Done a e not = absurd (not refl)
stopped_runs p old mid new files heads (Limit quantity) a e not = absurd e.cause
stopped_runs p old mid new files heads (File place error) a e not = absurd e.cause
stopped_runs p old mid new files heads (Killed key losses) a e not = absurd e.cause
stopped_runs p old mid new files heads (Zero node block) a e not =
    evaluated_runs p old mid new files heads (Zero node block) a e (
      a.small,
      record { inputs = a.fit; zero_at = on_accepted p old mid files heads a (λ n. MeetsZero p n node block) e.cause },
      given_before old.gave mid.gave new.gave _ a.only.gave e.given,
    )
    (right_after p old mid new files heads (Zero node block) a e) (opened_after p old mid new files heads (Zero node block) a e)
    (e.created ∙ ap (raised_by (names_saved p)) a.opens.created) (e.out ∙ a.only.out)
stopped_runs p old mid new files heads ReadFault a e not =
    evaluated_runs p old mid new files heads ReadFault a e (a.small, rose_before old.read_faults mid.read_faults new.read_faults a.later e.cause)
    (right_after p old mid new files heads ReadFault a e) (raised_at_most p.inputs old.files.opened new.files.opened (opened_after p old mid new files heads ReadFault a e))
    (most_before (names_saved p) old.files.created mid.files.created new.files.created a.opens.created e.created) (e.out ∙ a.only.out)
stopped_runs p old mid new files heads WriteFault a e not =
    evaluated_runs p old mid new files heads WriteFault a e (a.small, a.fit, inl (rose_before old.write_faults mid.write_faults new.write_faults (omega (arith, a.only.write_faults)) e.cause))
    (right_after p old mid new files heads WriteFault a e) (raised_at_most p.inputs old.files.opened new.files.opened (opened_after p old mid new files heads WriteFault a e))
    (most_before (names_saved p) old.files.created mid.files.created new.files.created a.opens.created e.created) (inl (e.out ∙ a.only.out))
stopped_runs p old mid new files heads OutOfMemory a e not =
    evaluated_runs p old mid new files heads OutOfMemory a e tt
    (right_after p old mid new files heads OutOfMemory a e) (raised_at_most p.inputs old.files.opened new.files.opened (opened_after p old mid new files heads OutOfMemory a e))
    (most_before (names_saved p) old.files.created mid.files.created new.files.created a.opens.created e.created) (e.out ∙ a.only.out)

-- ## Once all is saved

module _ (p : Plan) (old mid saved new : View) (files : List Content) (heads : List Head) (a : HaveAccepted p old mid files heads) (e : EvaluatesFeed p files heads mid saved Done) (prints : OnlyOut saved new) where
  values_after : HasValues p old.files
  values_after = record { inputs = a.fit; values = on_accepted p old mid files heads a (MeetsNone p) e.cause }

  saved_after : AreSaved p old.files new.files
  saved_after = on_accepted p old mid files heads a (λ n. IsTrue old.files.tells → AreWhole (names_saved p) (files_of p n) new.files) (λ t tells.
      let P : Files → Type 0 = λ f. AreWhole (names_saved p) (files_of p (named_told files heads)) f in
      subst P (sym prints.files) (e.saves t (subst IsTrue (sym a.opens.tells) tells)))

  created_after : new.files.created ≡ raised_by (names_saved p) old.files.created
  created_after = ap (λ (f : Files). f.created) prints.files ∙ (e.created ∙ ap (raised_by (names_saved p)) a.opens.created)

  all_opened : new.files.opened ≡ raised_by p.inputs old.files.opened
  all_opened = ap (λ (f : Files). f.opened) prints.files ∙ (e.opened ∙ a.opened)

  out_before : saved.out ≡ old.out
  out_before = e.out ∙ a.only.out

  printed_runs : (end : Ended) → Cause p old new end → Saves p old.files new.files end → Opened p.inputs old.files.opened new.files.opened end → Created (names_saved p) old.files.created new.files.created end → Prints p old new end → RunsPlan p old new end
  printed_runs end cause saves opened created out = record {
    cause = cause;
    saves = saves;
    looked = inr (record { opened = all_opened; inputs = a.fit; small = a.small });
    others = λ n none. ap (λ (f : Files). f.held n) prints.files ∙ (e.others n none ∙ ap (λ f. f n) a.opens.held);
    tells = ap (λ (f : Files). f.tells) prints.files ∙ (e.tells ∙ a.opens.tells);
    opened = opened;
    created = created;
    prints = out;
    gave = more_then old.gave saved.gave new.gave (more_then old.gave mid.gave saved.gave a.only.gave e.gave) (more_same saved.gave new.gave prints.gave);
    err = prints.err ∙ (e.err ∙ a.only.err);
    note_faults = prints.note_faults ∙ (e.note_faults ∙ a.only.note_faults);
  }

  pub done_runs : new.out ≡ followed_by saved.out (lines_of p) → RunsPlan p old new Done
  done_runs printed = printed_runs Done
      (a.small, values_after, given_later old.gave saved.gave new.gave _ (given_before old.gave mid.gave saved.gave _ a.only.gave e.given) (more_same saved.gave new.gave prints.gave)) saved_after all_opened created_after (printed ∙ ap (λ o. followed_by o (lines_of p)) out_before)

  pub print_fault_runs : PrintsPart saved.out new.out (lines_of p) → Rose saved.print_faults new.print_faults → RunsPlan p old new WriteFault
  print_fault_runs part rose =
      let risen : Rose old.print_faults new.print_faults = rose_before old.print_faults saved.print_faults new.print_faults (omega (arith, e.print_faults, a.only.print_faults)) rose in
      let right : AreRight p old.files new.files = let P : Files → Type 0 = λ f. AreRight p old.files f in subst P (sym prints.files) (right_after p old mid saved files heads Done a e) in
      let O : Option (List ℕ) → Type 0 = λ o. PrintsPart o new.out (lines_of p) in
      let stops : StopsPrinting p old new (lines_of p) = record { saved = saved_after; created = created_after; fault = risen; front = subst O out_before part } in
      printed_runs WriteFault (a.small, a.fit, inr (values_after, risen)) right (raised_at_most p.inputs old.files.opened new.files.opened all_opened)
      (raised_at_most (names_saved p) old.files.created new.files.created created_after) (inr (values_after, stops))
