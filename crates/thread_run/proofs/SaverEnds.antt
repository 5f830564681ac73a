-- What the files of a plan's saves are in the end, of which blocks were written as they came.
use Rattle.std.proofs.Common.{◌≡◌, ℕ, ◌<◌, Bool, true, false, List, [], length, get_or, refl, ap, ap₂, sym, ◌∙◌, subst, arith, Option, Some, None, inr}
use Rattle.std.specs.Prelude.{All, IfSome, IsSome, IsTrue, bytes_eq, is_some, slice_index_or}
use Rattle.std.proofs.lemmas.List.{get_or-map}
use Rattle.std.proofs.lemmas.Option.{same_Some}
use Rattle.io_edge.specs.declared.edge.OpenFault.{OpenFault}
use Rattle.io_edge.specs.Cause.{Rose}
use Rattle.io_edge.specs.Content.{Content, Told, Untold, OnTold, told_bytes}
use Rattle.io_edge.specs.View.{Files, raised_by}
use Rattle.nd_shape.specs.Block.{Array}
use Rattle.nd_shape.specs.Index.{IsIn}
use Rattle.nd_shape.specs.Region.{Box, moved}
use Rattle.nd_shape.specs.Shape.{elements}
use Rattle.nd_grid.specs.Grid.{Holds, grid_of}
use Rattle.array_expr.specs.Node.{shape_at}
use Rattle.expr_laws.specs.Formulas.{whole}
use Rattle.chunk_layout.specs.Layouts.{block_of, blocks, lengths, region}
use Rattle.chunk_layout.proofs.Parting.{in-region}
use Rattle.cluster_msgs.specs.Labels.{LabelFacts}
use Rattle.cluster_msgs.specs.Shape.{deps_of}
use Rattle.cluster_msgs.proofs.ValueLemmas.{bad-above}
use Rattle.task_graph.specs.Graphs.{operation, shape_of, value}
use Rattle.lowering_laws.specs.Lowered.{lowered}
use Rattle.lowering_laws.specs.Named.{IsName, box_of, layout_of, name_of}
use Rattle.lowering_laws.specs.Whole.{IsSound}
use Rattle.saved_files.proofs.Filled.{whole as filled-whole}
use Rattle.saved_files.specs.Filling.{Cover, HoldsBox, IsPart, file_of as bytes_of}
use Rattle.saved_files.specs.Saving.{GivesBack, IsLeft, IsOf, Saving, TakesAll, WereCreated, saving_at}
use Rattle.job_run.specs.Evaluating.{AreFresh, AreOpenFor, AreSameFiles, FilesRight, FilesWhole, HasFailed, HasLaws, LeavesAll, array_at, node_at}
use Rattle.job_run.specs.Filling.{keys_at, layout_at}
use Rattle.job_run.specs.Part.{AreLeft, AreWhole, IsNoneOf}
use Rattle.job_run.specs.Plan.{IsRunnable, Plan, name_at, names_saved, nodes_saved}
use Rattle.job_run.specs.Values.{MeetsNone, Named, files_of, tasks_of}
use Rattle.job_run.specs.Wanted.{IsWantedOf, wanted_of}
use Rattle.job_run.proofs.Evaluated.{file_saved, whole_told, part_told}
use Rattle.job_run.proofs.Reached.{each, member}
use Rattle.job_run.proofs.SavedArrays.{holds-saved, part-of, saved-is}
use Rattle.job_run.proofs.SavedBlocks.{count-saves}
use Rattle.job_run.proofs.SavedKeys.{each-joined, meets-none, saved-small, valued}
use Rattle.thread_run.specs.Reports.{label}
use Rattle.thread_run.specs.Saver.{AreSaved, HasBoxes, IsAmong, IsFitted, IsLabelOf, IsMadeOf, Saves, SavesOn, had_in}
use Rattle.thread_run.specs.Serving.{ServesAll}
use Rattle.thread_run.proofs.SaverOpen.{keys-small, saves-known}
use Rattle.job_run.proofs.Creating.{count_names}

-- ## A block of a key

some-none : {A : Type 0} (o : Option A) (x : A) → o ≡ Some x → o ≡ None → ⊥
some-none None x e n = cc
some-none (Some y) x e n = cc

-- no key of the cone of one that has a value is faulty
sound-key : (p : Plan) (named : Named) (key : ℕ) (block : Array) → HasLaws p named → value named (tasks_of p) key ≡ Some block → IsSound named (tasks_of p) key
sound-key p named key block laws is j inside fault =
    some-none (value named (tasks_of p) key) block is (bad-above (deps_of (shape_of (tasks_of p))) (operation named (tasks_of p)) laws.order.run.below key j inside fault)

-- the block of a key with a name holds its node's elements, whatever the other keys have
key-holds : (p : Plan) (named : Named) (key n c : ℕ) (block : Array) → HasLaws p named → key < length (tasks_of p) → value named (tasks_of p) key ≡ Some block → name_of p.nodes (nodes_saved p) key ≡ Some (n, c) →
    Holds (grid_of block) (whole named p.nodes n) (box_of p.nodes n c)
key-holds p named key n c block laws lt is name =
    let h = laws.named_is key n c lt name (sound-key p named key block laws is) in
    let same : h.0 ≡ block = same_Some h.0 block (sym h.1 ∙ is) in
    subst (λ (b : Array). Holds (grid_of b) (whole named p.nodes n) (box_of p.nodes n c)) same h.2

pub key-fits : (p : Plan) (named : Named) (k c key : ℕ) (block : Array) → HasLaws p named → k < length p.saves → key < length (tasks_of p) → name_of p.nodes (nodes_saved p) key ≡ Some (node_at p k, c) → value named (tasks_of p) key ≡ Some block →
    HoldsBox (array_at p named k) (region (layout_of p.nodes (node_at p k)) c) block
key-fits p named k c key block laws there lt name is =
    let n : ℕ = node_at p k in
    let at : IsName p.nodes (nodes_saved p) key n c = laws.names.each key n c lt name in
    holds-saved p named k n (box_of p.nodes n c) block laws.expression there refl (part-of p.nodes n c laws.expression at.node at.block) (key-holds p named key n c block laws lt is name)

-- ## Boxes that hold every index

covers : (layout : List (List ℕ)) (boxes : List Box) → ((c : ℕ) → c < blocks layout → IsAmong boxes (region layout c)) → Cover (lengths layout) boxes
covers layout boxes h i inside =
    let r = in-region layout i inside in
    let b : IsAmong boxes (region layout (block_of layout i)) = h (block_of layout i) r.0 in
    record {
      box = b.place;
      there = b.there;
      within = r.1.0;
      inside = subst (λ (x : Box). IsIn x.lengths r.1.0) (sym b.is) r.1.1;
      is = ap (λ (x : Box). moved x.start r.1.0) b.is ∙ r.1.2;
    }

-- ## One file

module _ (facts : LabelFacts Array) (layout : List (List ℕ)) (keys : List ℕ) (had : List Bool) (fault : Option OpenFault) (a : Array) (made : IsMadeOf facts layout keys a) where
  abbrev AreHad : List ℕ → Type 0
  AreHad bytes = (a : Array) → IsMadeOf facts layout keys a → HasBoxes layout keys had fault a bytes

  right-file : (c : Content) → OnTold c AreHad → OnTold c (λ bytes. IsPart bytes (bytes_of a))
  right-file (Told bytes) h = let boxes = h a made in boxes.filling.part
  right-file (Untold size) h = tt

  whole-file : (c : Content) → fault ≡ None → length keys ≡ blocks layout → ((n : ℕ) → n < length keys → had_in had (slice_index_or keys n 0) ≡ true) → OnTold c AreHad → OnTold c (λ bytes. bytes ≡ bytes_of a)
  whole-file (Told bytes) sound count all h =
      let here : HasBoxes layout keys had fault a bytes = h a made in
      let cover : Cover (lengths layout) here.boxes = covers layout here.boxes (λ n lt. here.all sound n (omega (arith, lt, count)) (all n (omega (arith, lt, count)))) in
      filled-whole a here.boxes bytes (made.lengths_are.count ∙ ap elements (sym made.lengths_are.shape)) here.filling (subst (λ ns. Cover ns here.boxes) (sym made.lengths_are.shape) cover)
  whole-file (Untold size) sound count all h = tt

-- ## All files

-- files that were created, written, and given back
pub record IsGiven (p : Plan) (created written : List Saving) (old mid new : Files) : Type 0 where
  pub runs : IsRunnable p
  pub open_is : AreOpenFor p created
  pub fresh : AreFresh p old.tells created
  pub same : AreSameFiles created written
  pub gives : GivesBack written mid new

module _ (p : Plan) (named : Named) (created written : List Saving) (old mid new : Files) (r : IsGiven p created written old mid new) where
  count : length written ≡ length p.saves
  count = r.same.count ∙ r.open_is.count

  name-is : (k : ℕ) → k < length p.saves → (saving_at written k).name ≡ name_at (names_saved p) k
  name-is k lt = r.same.names k (omega (arith, lt, r.open_is.count)) ∙ r.open_is.names k lt

  are-apart : (j k : ℕ) → j < k → k < length written → bytes_eq (saving_at written k).name (saving_at written j).name ≡ false
  are-apart j k h lt =
      let lk : k < length p.saves = omega (arith, lt, count) in
      ap₂ bytes_eq (name-is k lk) (name-is j (omega (arith, h, lk))) ∙ r.runs.apart j k h (omega (arith, lk, count_names p))

  held-at : (k : ℕ) → k < length p.saves → new.held (name_at (names_saved p) k) ≡ told_bytes (saving_at written k).content
  held-at k lt = ap new.held (sym (name-is k lt)) ∙ r.gives.held are-apart k (omega (arith, lt, count))

  still-told : IsTrue old.tells → (k : ℕ) → k < length p.saves → IsSome (told_bytes (saving_at written k).content)
  still-told tells k lt = r.same.told k (omega (arith, lt, r.open_is.count)) ((r.fresh k lt).told tells)

  pub given-others : (n : List ℕ) → IsNoneOf n (names_saved p) → mid.held n ≡ old.held n → new.held n ≡ old.held n
  given-others n apart before =
      r.gives.others n (λ k lt. let l : k < length p.saves = omega (arith, lt, count) in ap (λ m. bytes_eq m n) (name-is k l) ∙ apart k (omega (arith, l, count_names p))) ∙ before

  pub given-whole : FilesWhole p named written → IsTrue old.tells → AreWhole (names_saved p) (files_of p named) new
  given-whole all tells k lt =
      let l : k < length p.saves = omega (arith, lt, count_names p) in
      held-at k l ∙ (whole_told (saving_at written k).content (bytes_of (array_at p named k)) (still-told tells k l) (all k l) ∙ ap Some (file_saved p named k l))

  pub given-left : FilesRight p named written → AreLeft (names_saved p) (files_of p named) old new
  given-left right k lt =
      let l : k < length p.saves = omega (arith, lt, count_names p) in
      let P : Option (List ℕ) → Type 0 = λ o. IfSome o (λ held. IsPart held (bytes_of (array_at p named k))) × (IsTrue old.tells → IsSome o) in
      let L : List ℕ → Type 0 = λ bytes. IsLeft (name_at (names_saved p) k) bytes old new in
      subst L (file_saved p named k l) (inr (subst P (sym (held-at k l)) (part_told (saving_at written k).content (bytes_of (array_at p named k)) (right k l), λ tells. still-told tells k l)))

-- ## What was had of a plan

module _ (p : Plan) (named : Named) (told : Bool) (allowed : Option ℕ) (s : Saves) (runs : IsRunnable p) (laws : HasLaws p named) (wanted : IsWantedOf p s.wanted) (saved : AreSaved (label told allowed named (tasks_of p)) s) where
  abbrev facts : LabelFacts Array
  facts = label told allowed named (tasks_of p)

  known-label : IsLabelOf p facts
  known-label = record { told = told; allowed = allowed; named = named; is = refl }

  number : length s.files ≡ length p.saves
  number = saved.count ∙ (saves-known p named facts s.wanted runs laws known-label wanted).keys

  layout-is : (k : ℕ) → k < length p.saves → layout_of p.nodes (node_at p k) ≡ layout_at s.wanted.layouts k
  layout-is k lt = sym (ap (λ (ls : List (List (List ℕ))). get_or ls k []) wanted.layouts_are ∙ get_or-map (layout_of p.nodes) (nodes_saved p) k 0 [] (omega (arith, lt, count-saves p)))

  -- the array of each save is made of what fits the keys
  made-of : IsTrue told → (k : ℕ) → k < length p.saves → IsMadeOf facts (layout_at s.wanted.layouts k) (keys_at s.wanted.saved k) (array_at p named k)
  made-of t k lt =
      let known = saves-known p named facts s.wanted runs laws known-label wanted in
      let shape : shape_at p.nodes (node_at p k) ≡ lengths (layout_at s.wanted.layouts k) = known.shapes k lt in
      let of_lengths : IsOf (shape_at p.nodes (node_at p k)) (array_at p named k) = saved-is p named k runs laws.expression lt in
      record {
        lengths_are = subst (λ ns. IsOf ns (array_at p named k)) shape of_lengths;
        each = λ c b lc fits.
            let lk : k < length s.wanted.saved = omega (arith, lt, known.keys) in
            let key : ℕ = slice_index_or (keys_at s.wanted.saved k) c 0 in
            let small : key < length (tasks_of p) = keys-small p named facts s.wanted runs laws known-label wanted k c lk lc in
            let l : k < length (nodes_saved p) = omega (arith, lt, count-saves p) in
            let lb : c < blocks (layout_of p.nodes (node_at p k)) = omega (arith, lc, ap (λ (ss : List (List ℕ)). length (keys_at ss k)) wanted.saved_is, laws.names.blocks_are k l) in
            let N : List (List ℕ) → Type 0 = λ ss. name_of p.nodes (nodes_saved p) (slice_index_or (keys_at ss k) c 0) ≡ Some (node_at p k, c) in
            let name : N s.wanted.saved = subst N (sym wanted.saved_is) (laws.names.saved k c l lb) in
            let holds : HoldsBox (array_at p named k) (region (layout_of p.nodes (node_at p k)) c) b = key-fits p named k c key b laws lt small name (fits.value t) in
            subst (λ (layout : List (List ℕ)). HoldsBox (array_at p named k) (region layout c) b) (layout-is k lt) holds;
      }

  -- each file is right as far as it is written, however many keys were had, and whatever has failed
  pub files-right : IsTrue told → FilesRight p named s.files
  files-right t k lt =
      right-file facts (layout_at s.wanted.layouts k) (keys_at s.wanted.saved k) s.had s.fault (array_at p named k) (made-of t k lt) (saving_at s.files k).content (saved.filled k (omega (arith, lt, number)))

  -- ## Where all was had

  module _ (all : All (λ k. had_in s.had k ≡ true) (wanted_of p)) where
    had-at : (k c : ℕ) → k < length p.saves → c < length (keys_at s.wanted.saved k) → had_in s.had (slice_index_or (keys_at s.wanted.saved k) c 0) ≡ true
    had-at k c lt lc =
        let H : List (List ℕ) → Type 0 = λ ss. had_in s.had (slice_index_or (keys_at ss k) c 0) ≡ true in
        let rows = (lowered p.nodes (nodes_saved p)).saved in
        let lk : k < length rows = omega (arith, lt, laws.names.saves_are, count-saves p) in
        let lr : c < length (keys_at rows k) = omega (arith, lc, ap (λ (ss : List (List ℕ)). length (keys_at ss k)) wanted.saved_is) in
        subst H (sym wanted.saved_is) (each-joined (λ key. had_in s.had key ≡ true) rows (each (λ key. had_in s.had key ≡ true) (wanted_of p) (λ i l. all i 0 l)) k c lk lr)

    pub files-whole : IsTrue told → s.fault ≡ None → FilesWhole p named s.files
    files-whole t sound k lt =
        let known = saves-known p named facts s.wanted runs laws known-label wanted in
        whole-file facts (layout_at s.wanted.layouts k) (keys_at s.wanted.saved k) s.had s.fault (array_at p named k) (made-of t k lt) (saving_at s.files k).content sound (known.blocks_are k lt).count
        (λ c lc. had-at k c lt lc) (saved.filled k (omega (arith, lt, number)))

    -- no needed block lacks an element
    pub none-met : IsTrue told → length s.had ≡ length (tasks_of p) → MeetsNone p named
    none-met t keys = meets-none p named runs laws (valued p named runs laws (each (λ k. IsSome (value named (tasks_of p) k)) (wanted_of p) (λ i l.
        let key : ℕ = get_or (wanted_of p) i 0 in
        let small : key < length (tasks_of p) = member (λ j. j < length (tasks_of p)) (wanted_of p) i (saved-small p named runs laws) l in
        let f : IsFitted facts key = saved.fit key (omega (arith, small, keys)) (all i 0 l) in
        ap is_some (f.fits.value t))))

-- ## The ends

-- what was created and what is held now, of a plan whose label is picked
pub record IsServed (p : Plan) (named : Named) (told : Bool) (allowed : Option ℕ) (created s : Saves) (old mid new : Files) : Type 0 where
  pub runs : IsRunnable p
  pub laws : HasLaws p named
  pub wanted : IsWantedOf p created.wanted
  pub keys : length created.had ≡ length (tasks_of p)
  pub open_is : AreOpenFor p created.files
  pub fresh : AreFresh p old.tells created.files
  pub on : SavesOn created s
  pub saved : AreSaved (label told allowed named (tasks_of p)) s
  pub gives : GivesBack s.files mid new

module _ (p : Plan) (named : Named) (told : Bool) (allowed : Option ℕ) (created s : Saves) (old mid new : Files) (r : IsServed p named told allowed created s old mid new) where
  given : IsGiven p created.files s.files old mid new
  given = record { runs = r.runs; open_is = r.open_is; fresh = r.fresh; same = r.on.same; gives = r.gives }

  wanted-still : IsWantedOf p s.wanted
  wanted-still = subst (IsWantedOf p) (sym r.on.wanted_is) r.wanted

  -- whatever was had and whatever failed: parts of the right files
  pub served-left : IsTrue told → AreLeft (names_saved p) (files_of p named) old new
  served-left t = given-left p named created.files s.files old mid new given (files-right p named told allowed s r.runs r.laws wanted-still r.saved t)

  pub served-others : (n : List ℕ) → IsNoneOf n (names_saved p) → mid.held n ≡ old.held n → new.held n ≡ old.held n
  served-others = given-others p named created.files s.files old mid new given

  -- all was had
  pub served-values : All (λ k. had_in s.had k ≡ true) (wanted_of p) → IsTrue told → MeetsNone p named
  served-values all t = none-met p named told allowed s r.runs r.laws wanted-still r.saved all t (r.on.keys_are ∙ r.keys)

  -- and nothing failed
  pub served-all : All (λ k. had_in s.had k ≡ true) (wanted_of p) → s.fault ≡ None → mid.created ≡ raised_by (names_saved p) old.created → ServesAll p named (IsTrue told) old new
  served-all all sound created_is = record {
    values = served-values all;
    whole = λ t tells. given-whole p named created.files s.files old mid new given (files-whole p named told allowed s r.runs r.laws wanted-still r.saved all t sound) tells;
    left = served-left;
    created = r.gives.created ∙ created_is;
  }

-- files that are the same ones were created where those were
pub still-created : (old new : List Saving) (at later : Files) → AreSameFiles old new → later.created ≡ at.created → WereCreated old at → WereCreated new later
still-created old new at later same is created k lt =
    let l : k < length old = omega (arith, lt, same.count) in
    let P : (List ℕ → ℕ) → List ℕ → Type 0 = λ f n. 0 < f n in
    subst (λ f. P f (saving_at new k).name) (sym is) (subst (P at.created) (sym (same.names k l)) (created k l))

-- the files couldn't be created
pub open-left : (p : Plan) (named : Named) (old new : Files) → IsRunnable p → HasLaws p named → LeavesAll p old new → AreLeft (names_saved p) (files_of p named) old new
open-left p named old new runs laws leaves k lt =
    let l : k < length p.saves = omega (arith, lt, count_names p) in
    let L : List ℕ → Type 0 = λ bytes. IsLeft (name_at (names_saved p) k) bytes old new in
    subst L (file_saved p named k l) (leaves k (array_at p named k) l (saved-is p named k runs laws.expression l))

-- a file that failed raises the site's count where it is given back
pub give-failed : (files : List Saving) (before now : ℕ) → HasFailed files → TakesAll files before now → Rose before now
give-failed files before now failed takes = takes.risen failed.place failed.there failed.failed
