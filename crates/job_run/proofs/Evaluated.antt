-- What an evaluation leaves at each of its ends.
use Rattle.std.proofs.Common.{◌≡◌, ℕ, ◌<◌, ◌≤◌, List, [], length, refl, ap, ap₂, sym, ◌∙◌, subst, inr, arith, Some}
use Rattle.std.specs.Prelude.{Bool, bytes_eq, false, IfSome, IsSome, IsTrue, Option}
use Rattle.std.proofs.lemmas.List.{get_or-map, length-map}
use Rattle.io_edge.specs.Cause.{Rose, TakesFaults}
use Rattle.io_edge.specs.Content.{Content, Told, Untold, OnTold, file_at, told_bytes}
use Rattle.io_edge.specs.Given.{Piece}
use Rattle.io_edge.proofs.GivenLaws.{more_around, more_same}
use Rattle.io_edge.specs.View.{View, Files, OnlyReads, OnlyWrites, raised_by}
use Rattle.nd_shape.specs.Block.{Array}
use Rattle.array_expr.specs.Node.{shape_at}
use Rattle.npy_codec.specs.declared.head.Head.{Head}
use Rattle.task_graph.specs.declared.graph.Task.{Task}
use Rattle.block_lowering.specs.Jobs.{Job, TellsFeed}
use Rattle.saved_files.specs.Filling.{IsFilling, IsPart, file_of as bytes_of}
use Rattle.saved_files.specs.Saving.{Saving, saving_at, GivesBack, IsLeft, IsOf, TakesAll, WereCreated}
use Rattle.job_run.specs.declared.blocks.Halt.{Halt}
use Rattle.job_run.specs.declared.blocks.Halt.TheVariants as halts
use Rattle.job_run.specs.declared.ends.Ended.{Ended}
use Rattle.job_run.specs.declared.ends.Ended.TheVariants.{Done, Zero, Killed, ReadFault, WriteFault, OutOfMemory}
use Rattle.job_run.specs.Evaluating.{AreFresh, AreSameFiles, EvaluatesInputs, EvaluationCause, EvaluationCreates, EvaluationGiven, EvaluationSaves, FilesHold, FilesRight, FilesWhole, GivenOver, HaltCause, HaltGiven, LeavesAll, array_at, node_at}
use Rattle.job_run.specs.Part.{AreLeft, AreWhole, IsNoneOf, RaisedAtMost}
use Rattle.job_run.specs.Plan.{AreApart, Plan, Saved, name_at, names_saved}
use Rattle.job_run.specs.Starting.{AreOfShapes, end_of}
use Rattle.job_run.specs.Values.{MeetsNone, MeetsZero, Named, OfGiven, file_of, files_of, cells_at, values_of}
use Rattle.job_run.proofs.Counting.{raised_at_most}
use Rattle.job_run.proofs.SavedArrays.{array-saved}

-- ## Files and arrays

-- the file of each save is that of its array
pub file_saved : (p : Plan) (named : Named) (k : ℕ) → k < length p.saves → bytes_of (array_at p named k) ≡ name_at (files_of p named) k
file_saved p named k h =
    let s : Saved = record { node = 0; file = [] } in
    ap bytes_of (array-saved p named k h)
    ∙ (ap (λ n. file_of (cells_at (values_of p named) n)) (get_or-map (λ (x : Saved). x.node) p.saves k s 0 h)
    ∙ sym (get_or-map (λ (x : Saved). file_of (cells_at (values_of p named) x.node)) p.saves k s [] h))

-- a fresh file is right as far as it is written
pub fresh_holds : (p : Plan) (named : Named) (tells : Bool) (files : List Saving) → AreOfShapes p → AreFresh p tells files → FilesHold p named (λ k. []) files
fresh_holds p named tells files shapes fresh k h = on_content (saving_at files k).content (fresh k h).filling
  where
    on_content : (c : Content) → OnTold c (λ bytes. (a : Array) → IsOf (shape_at p.nodes (node_at p k)) a → IsFilling a [] bytes) → OnTold c (IsFilling (array_at p named k) [])
    on_content (Told bytes) filling = filling (array_at p named k) (shapes named k h)
    on_content (Untold size) filling = tt

right_part : (a : Array) (c : Content) → OnTold c (IsFilling a []) → OnTold c (λ bytes. IsPart bytes (bytes_of a))
right_part a (Told bytes) filling = filling.part
right_part a (Untold size) filling = tt

pub whole_told : (c : Content) (bytes : List ℕ) → IsSome (told_bytes c) → OnTold c (λ b. b ≡ bytes) → told_bytes c ≡ Some bytes
whole_told (Told b) bytes some e = ap Some e
whole_told (Untold size) bytes some e = cc

pub part_told : (c : Content) (final : List ℕ) → OnTold c (λ b. IsPart b final) → IfSome (told_bytes c) (λ b. IsPart b final)
part_told (Told b) final part = part
part_told (Untold size) final part = tt

creates : (names : List (List ℕ)) (old new : List ℕ → ℕ) (end : Ended) → new ≡ raised_by names old → EvaluationCreates names old new end
creates names old new Done is = is
creates names old new (Zero node block) is = is
creates names old new (Killed key losses) is = is
creates names old new end is = raised_at_most names old new is

-- ## The site, step by step

-- from its view before to the one after all files were created
pub record HaveCreated (p : Plan) (old mid : View) (files : List Saving) : Type 0 where
  pub number : length files ≡ length p.saves
  pub fresh : AreFresh p old.files.tells files
  pub created : mid.files.created ≡ raised_by (names_saved p) old.files.created
  pub others : (n : List ℕ) → IsNoneOf n (names_saved p) → mid.files.held n ≡ old.files.held n
  pub tells : mid.files.tells ≡ old.files.tells
  pub opened : mid.files.opened ≡ old.files.opened
  pub only : OnlyWrites old mid
  pub later : old.write_faults ≤ mid.write_faults

-- the store, with this count of faults, was given back, and then the files, which are those that were created
pub record HaveGiven (files now : List Saving) (given : ℕ) (mid between new : View) : Type 0 where
  pub same : AreSameFiles files now
  pub files_same : between.files ≡ mid.files
  pub reads : OnlyReads mid between
  pub faults : TakesFaults given mid.read_faults between.read_faults
  pub gives : GivesBack now between.files new.files
  pub writes : OnlyWrites between new
  pub later : between.write_faults ≤ new.write_faults
  pub takes : TakesAll now between.write_faults new.write_faults

-- the files alone were given back, just as they were created
pub files_given : (files : List Saving) (mid new : View) → GivesBack files mid.files new.files → OnlyWrites mid new → mid.write_faults ≤ new.write_faults → TakesAll files mid.write_faults new.write_faults → HaveGiven files files 0 mid mid new
files_given files mid new gives writes later takes = record {
  same = record { count = refl; names = λ k h. refl; dims = λ k h. refl; told = λ k h t. t };
  files_same = refl;
  reads = record { gave = more_same mid.gave mid.gave refl; out = refl; err = refl; write_faults = refl; print_faults = refl; note_faults = refl };
  faults = record { later = omega arith; risen = λ h. absurd (omega (arith, h)) };
  gives = gives;
  writes = writes;
  later = later;
  takes = takes;
}

module _ (p : Plan) (named : Named) (old mid between new : View) (files now : List Saving) (given : ℕ) (made : HaveCreated p old mid files) (back : HaveGiven files now given mid between new) where
  name_is : (k : ℕ) → k < length p.saves → (saving_at now k).name ≡ name_at (names_saved p) k
  name_is k h = back.same.names k (omega (arith, h, made.number)) ∙ (made.fresh k h).name_is

  below_now : (k : ℕ) → k < length now → k < length p.saves
  below_now k h = omega (arith, h, back.same.count, made.number)

  held_is : AreApart (names_saved p) → (k : ℕ) → k < length p.saves → new.files.held (name_at (names_saved p) k) ≡ told_bytes (saving_at now k).content
  held_is apart k h =
      let parted : (i j : ℕ) → i < j → j < length now → bytes_eq (saving_at now j).name (saving_at now i).name ≡ false = λ i j l b.
      let c : j < length p.saves = below_now j b in
      ap₂ bytes_eq (name_is j c) (name_is i (omega (arith, l, c))) ∙ apart i j l (omega (arith, c, length-map p.saves (λ (s : Saved). s.file))) in
      ap new.files.held (sym (name_is k h)) ∙ back.gives.held parted k (omega (arith, h, back.same.count, made.number))

  others_are : (n : List ℕ) → IsNoneOf n (names_saved p) → new.files.held n ≡ old.files.held n
  others_are n none =
      back.gives.others n (λ k b. let c : k < length p.saves = below_now k b in ap (λ x. bytes_eq x n) (name_is k c) ∙ none k (omega (arith, c, length-map p.saves (λ (s : Saved). s.file))))
      ∙ (ap (λ (f : Files). f.held n) back.files_same ∙ made.others n none)

  told_now : IsTrue old.files.tells → (k : ℕ) → k < length p.saves → IsSome (told_bytes (saving_at now k).content)
  told_now tells k h = back.same.told k (omega (arith, h, made.number)) ((made.fresh k h).told tells)

  -- whole files are left whole
  pub are_whole : AreApart (names_saved p) → FilesWhole p named now → IsTrue old.files.tells → AreWhole (names_saved p) (files_of p named) new.files
  are_whole apart whole tells k h =
      let b : k < length p.saves = omega (arith, h, length-map p.saves (λ (s : Saved). s.file)) in
      held_is apart k b ∙ (whole_told (saving_at now k).content (bytes_of (array_at p named k)) (told_now tells k b) (whole k b) ∙ ap Some (file_saved p named k b))

  -- right files are left right
  are_left : AreApart (names_saved p) → FilesRight p named now → AreLeft (names_saved p) (files_of p named) old.files new.files
  are_left apart right k h =
      let b : k < length p.saves = omega (arith, h, length-map p.saves (λ (s : Saved). s.file)) in
      let P : Option (List ℕ) → Type 0 = λ o. IfSome o (λ held. IsPart held (name_at (files_of p named) k)) × (IsTrue old.files.tells → IsSome o) in
      let Q : List ℕ → Type 0 = λ final. IfSome (told_bytes (saving_at now k).content) (λ held. IsPart held final) in
      inr (subst P (sym (held_is apart k b)) (subst Q (file_saved p named k b) (part_told (saving_at now k).content (bytes_of (array_at p named k)) (right k b)), λ tells. told_now tells k b))

  created_is : new.files.created ≡ raised_by (names_saved p) old.files.created
  created_is = back.gives.created ∙ (ap (λ (f : Files). f.created) back.files_same ∙ made.created)

  -- all that is left, whatever the end
  pub evaluated : (told : Type 0) (end : Ended) → AreApart (names_saved p) → (told → FilesRight p named now) → EvaluationCause p named told old new end
      → EvaluationGiven p old new end → EvaluationSaves p named told old.files new.files end → EvaluatesInputs p named told old new end
  evaluated told end apart right cause given_too saves = record {
    cause = cause;
    given = given_too;
    saves = saves;
    left = λ t. are_left apart (right t);
    others = others_are;
    tells = back.gives.tells ∙ (ap (λ (f : Files). f.tells) back.files_same ∙ made.tells);
    opened = back.gives.opened ∙ (ap (λ (f : Files). f.opened) back.files_same ∙ made.opened);
    created = creates (names_saved p) old.files.created new.files.created end created_is;
    gave = more_around old.gave mid.gave between.gave new.gave made.only.gave back.reads.gave back.writes.gave;
    out = back.writes.out ∙ (back.reads.out ∙ made.only.out);
    err = back.writes.err ∙ (back.reads.err ∙ made.only.err);
    note_faults = back.writes.note_faults ∙ (back.reads.note_faults ∙ made.only.note_faults);
    print_faults = back.writes.print_faults ∙ (back.reads.print_faults ∙ made.only.print_faults);
    read_later = omega (arith, back.writes.read_faults, back.faults.later, made.only.read_faults);
    write_later = omega (arith, back.later, back.reads.write_faults, made.later);
  }

-- ## Its ends

pub tells_same : (heads again : List Head) (files same : List Content) → again ≡ heads → same ≡ files → TellsFeed heads files → TellsFeed again same
tells_same heads again files same e f tells = record {
  each = λ j h.
      let P : List Head → Type 0 = λ hs. j < length hs in
      let Q : List Content → Type 0 = λ fs. IsSome (told_bytes (file_at fs j)) in
      subst Q (sym f) (tells.each j (subst P e h));
}

pub heads_same : (j : Job) (tasks : List Task) (heads : List Head) → j ≡ record { tasks = tasks; heads = heads } → j.heads ≡ heads
heads_same j tasks heads e = ap (λ (x : Job). x.heads) e

pub were_created : (files now : List Saving) (mid between : Files) → AreSameFiles files now → between ≡ mid → WereCreated files mid → WereCreated now between
were_created files now mid between same e created k h =
    let there : k < length files = omega (arith, h, same.count) in
    let P : List ℕ → Type 0 = λ name. 0 < mid.created name in
    let Q : Files → Type 0 = λ f. 0 < f.created (saving_at now k).name in
    subst Q (sym e) (subst P (sym (same.names k there)) (created k there))

pub fresh_right : (p : Plan) (named : Named) (tells : Bool) (files : List Saving) → AreOfShapes p → AreFresh p tells files → FilesRight p named files
fresh_right p named tells files shapes fresh k h = right_part (array_at p named k) (saving_at files k).content (fresh_holds p named tells files shapes fresh k h)

pub rose_from : (a b c d : ℕ) → a ≤ b → c ≤ d → Rose b c → Rose a d
rose_from a b c d low high rose = omega (arith, low, high, rose)

-- whole files are right
whole_right : (a : Array) (c : Content) → OnTold c (λ bytes. bytes ≡ bytes_of a) → OnTold c (λ bytes. IsPart bytes (bytes_of a))
whole_right a (Told bytes) e = let P : List ℕ → Type 0 = λ b. IsPart b (bytes_of a) in subst P (sym e) (record { size = refl; each = λ q h. inr refl })
whole_right a (Untold size) e = tt

-- all blocks were made and written
pub ended : (p : Plan) (named : Named) (old mid between new : View) (files now : List Saving) (given : ℕ) (told again : Type 0) → HaveCreated p old mid files → HaveGiven files now given mid between new → AreApart (names_saved p) →
    (told → again) → (again → MeetsNone p named) → OfGiven p old new (MeetsNone p) → (again → FilesWhole p named now) → EvaluatesInputs p named told old new Done
ended p named old mid between new files now given told again made back apart gives values given_values whole =
    evaluated p named old mid between new files now given made back told Done apart (λ t k h. whole_right (array_at p named k) (saving_at now k).content (whole (gives t) k h)) (λ t. values (gives t)) given_values
    (λ t tells. are_whole p named old mid between new files now given made back apart (whole (gives t)) tells)

-- not all blocks were made and written; the two numbers are the feed's counts of faults
pub halted : (p : Plan) (named : Named) (old mid between new : View) (files now : List Saving) (given before count : ℕ) (told again : Type 0) (halt : Halt) → HaveCreated p old mid files → HaveGiven files now given mid between new → AreApart (names_saved p) →
    given ≡ count → (told → again) → (again → FilesRight p named now) → HaltCause p named again now before count halt → EvaluationGiven p old new (end_of halt)
    → EvaluatesInputs p named told old new (end_of halt)
halted p named old mid between new files now given before count told again (halts.Zero node block) made back apart same gives right cause given_too =
    evaluated p named old mid between new files now given made back told (Zero node block) apart (λ t. right (gives t)) (λ t. cause (gives t)) given_too tt
halted p named old mid between new files now given before count told again halts.ReadFault made back apart same gives right cause given_too =
    let rose : Rose mid.read_faults between.read_faults = back.faults.risen (omega (arith, same, cause)) in
    evaluated p named old mid between new files now given made back told ReadFault apart (λ t. right (gives t))
    (rose_from old.read_faults mid.read_faults between.read_faults new.read_faults (omega (arith, made.only.read_faults)) (omega (arith, back.writes.read_faults)) rose) tt tt
halted p named old mid between new files now given before count told again halts.WriteFault made back apart same gives right cause given_too =
    let rose : Rose between.write_faults new.write_faults = back.takes.risen cause.place cause.there cause.failed in
    evaluated p named old mid between new files now given made back told WriteFault apart (λ t. right (gives t))
    (rose_from old.write_faults between.write_faults new.write_faults new.write_faults (omega (arith, made.later, back.reads.write_faults)) (omega arith) rose) tt tt
halted p named old mid between new files now given before count told again halts.OutOfMemory made back apart same gives right cause given_too =
    evaluated p named old mid between new files now given made back told OutOfMemory apart (λ t. right (gives t)) tt tt tt

-- what is said of a halt is said of the end that it makes
pub halt_given : (p : Plan) (old new : View) (heads : List Head) (names : List (List ℕ)) (pieces : List Piece) (halt : Halt)
    → ((P : Named → Type 0) → GivenOver heads names pieces P → OfGiven p old new P) → HaltGiven p heads names pieces halt → EvaluationGiven p old new (end_of halt)
halt_given p old new heads names pieces (halts.Zero node block) over given = over (λ named. MeetsZero p named node block) given
halt_given p old new heads names pieces halts.ReadFault over given = tt
halt_given p old new heads names pieces halts.WriteFault over given = tt
halt_given p old new heads names pieces halts.OutOfMemory over given = tt

-- not all files were created, and those that were are given back
pub record HaveRefused (p : Plan) (old mid : View) : Type 0 where
  pub left : LeavesAll p old.files mid.files
  pub created : RaisedAtMost (names_saved p) old.files.created mid.files.created
  pub others : (n : List ℕ) → IsNoneOf n (names_saved p) → mid.files.held n ≡ old.files.held n
  pub tells : mid.files.tells ≡ old.files.tells
  pub opened : mid.files.opened ≡ old.files.opened
  pub only : OnlyWrites old mid
  pub later : old.write_faults ≤ mid.write_faults

-- then the store was given back
pub record HaveClosed (mid new : View) : Type 0 where
  pub files_same : new.files ≡ mid.files
  pub reads : OnlyReads mid new
  pub later : mid.read_faults ≤ new.read_faults

refused_left : (p : Plan) (named : Named) (old mid new : View) → AreOfShapes p → HaveRefused p old mid → HaveClosed mid new → AreLeft (names_saved p) (files_of p named) old.files new.files
refused_left p named old mid new shapes r c k h =
    let b : k < length p.saves = omega (arith, h, length-map p.saves (λ (s : Saved). s.file)) in
    let P : List ℕ → Type 0 = λ final. IsLeft (name_at (names_saved p) k) final old.files mid.files in
    let Q : Files → Type 0 = λ f. IsLeft (name_at (names_saved p) k) (name_at (files_of p named) k) old.files f in
    subst Q (sym c.files_same) (subst P (file_saved p named k b) (r.left k (array_at p named k) b (shapes named k b)))

pub refused : (p : Plan) (named : Named) (old mid new : View) (told : Type 0) (end : Ended) → AreOfShapes p → HaveRefused p old mid → HaveClosed mid new → EvaluationCause p named told old new end → EvaluationGiven p old new end →
    EvaluationSaves p named told old.files new.files end →
    (RaisedAtMost (names_saved p) old.files.created new.files.created → EvaluationCreates (names_saved p) old.files.created new.files.created end) → EvaluatesInputs p named told old new end
refused p named old mid new told end shapes r c cause given_too saves created = record {
  cause = cause;
  given = given_too;
  saves = saves;
  left = λ t. refused_left p named old mid new shapes r c;
  others = λ n none. ap (λ (f : Files). f.held n) c.files_same ∙ r.others n none;
  tells = ap (λ (f : Files). f.tells) c.files_same ∙ r.tells;
  opened = ap (λ (f : Files). f.opened) c.files_same ∙ r.opened;
  created = created (let P : (List ℕ → ℕ) → Type 0 = λ x. RaisedAtMost (names_saved p) old.files.created x in subst P (sym (ap (λ (f : Files). f.created) c.files_same)) r.created);
  gave = more_around old.gave mid.gave new.gave new.gave r.only.gave c.reads.gave refl;
  out = c.reads.out ∙ r.only.out;
  err = c.reads.err ∙ r.only.err;
  note_faults = c.reads.note_faults ∙ r.only.note_faults;
  print_faults = c.reads.print_faults ∙ r.only.print_faults;
  read_later = omega (arith, c.later, r.only.read_faults);
  write_later = omega (arith, r.later, c.reads.write_faults);
}
