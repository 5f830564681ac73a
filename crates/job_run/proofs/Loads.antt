-- Heads that are read one after another, and what follows for the run.
use Rattle.std.proofs.Common.{◌≡◌, ℕ, suc, ◌+◌, ◌<◌, ◌≤◌, List, [], ◌∷◌, ◌++◌, length, take, get_or, cond, refl, ap, sym, ◌∙◌, subst, inl, inr, arith, length-append, Bool, true, false, Some}
use Rattle.std.proofs.Math.Seq.{get_or-append_seam}
use Rattle.std.proofs.lemmas.List.{get_or_append_left, take_more}
use Rattle.io_edge.specs.Cause.{Rose}
use Rattle.io_edge.specs.Content.{Content, Told, OnTold, file_at}
use Rattle.io_edge.specs.Given.{Piece}
use Rattle.io_edge.specs.View.{View, Files, Shows}
use Rattle.nd_shape.specs.Block.{Array}
use Rattle.nd_rows.proofs.Turns.{split as below_or}
use Rattle.array_expr.specs.declared.expr.Node.{Node}
use Rattle.array_expr.specs.Elem.{is_input}
use Rattle.npy_codec.specs.declared.head.Head.{Head}
use Rattle.npy_codec.specs.Regions.{no_head}
use Rattle.job_run.specs.declared.ends.Ended.{Ended}
use Rattle.job_run.specs.declared.ends.Ended.TheVariants.{Done, Limit, File, Zero, Killed, ReadFault, WriteFault, OutOfMemory}
use Rattle.job_run.specs.declared.ends.FileError.{FileError}
use Rattle.job_run.specs.Inputs.{FirstRefusal, FitInputs, FitsShape, HoldsArray, InputsFit, RefusesFile, told_all}
use Rattle.job_run.specs.Loading.{AreHeads, HeadEnds, IsHeadFor, IsRefusedAt, LoadEnds, LoadGiven}
use Rattle.job_run.specs.Plan.{Plan, input_shapes}
use Rattle.job_run.specs.Runs.{ReadCause}
use Rattle.job_run.specs.Told.{array_told}
use Rattle.job_run.proofs.GivenLoads.{refusal_given, shape_at}
use Rattle.job_run.proofs.Told.{held_array, inputs_there, on_content, on_told, told_fact}

-- ## Declared shapes

shapes_append : (xs ys : List Node) → input_shapes (xs ++ ys) ≡ input_shapes xs ++ input_shapes ys
shapes_append [] ys = refl
shapes_append (n ∷ xs) ys = turn (is_input n.op) n.shape (input_shapes (xs ++ ys)) (input_shapes xs) (input_shapes ys) (shapes_append xs ys)
  where
    turn : (b : Bool) (s : List ℕ) (all some rest : List (List ℕ)) → all ≡ some ++ rest → cond b (s ∷ all) all ≡ cond b (s ∷ some) some ++ rest
    turn true s all some rest e = ap (λ l. s ∷ l) e
    turn false s all some rest e = e

pub shapes_more : (nodes : List Node) (i : ℕ) (node : Node) → i < length nodes → node ≡ get_or nodes i node → input_shapes (take (i + 1) nodes) ≡ input_shapes (take i nodes) ++ cond (is_input node.op) (node.shape ∷ []) []
shapes_more nodes i node h is = ap input_shapes (take_more nodes i node h ∙ ap (λ n. take i nodes ++ n ∷ []) (sym is)) ∙ shapes_append (take i nodes) (node ∷ [])

-- ## One more of a list

pub pushed : {X : Type 0} (P : ℕ → X → Type 0) (xs : List X) (x d : X) → ((k : ℕ) → k < length xs → P k (get_or xs k d)) → P (length xs) x → (k : ℕ) → k < length (xs ++ x ∷ []) → P k (get_or (xs ++ x ∷ []) k d)
pushed {X} P xs x d each next k h = elim (below_or k (length xs)) [
  | inl b ↦ subst (P k) (sym (get_or_append_left xs (x ∷ []) d k b)) (each k b)
  | inr b ↦
      let l : length (xs ++ x ∷ []) ≡ length xs + 1 = length-append xs (x ∷ []) in
      let e : length xs ≡ k = omega (arith, b, h, l) in
      let Q : ℕ → Type 0 = λ i. P i (get_or (xs ++ x ∷ []) i d) in
      subst Q e (subst (P (length xs)) (sym (get_or-append_seam xs x [] d)) next)
]

-- where the loop stands: the files of the store, as they were at its start, and the place and the shape that come next
pub record Next (shapes : List (List ℕ)) (files now : List Content) (count k : ℕ) (shape : List ℕ) : Type 0 where
  pub same : now ≡ files
  pub place : count ≡ k
  pub within : k < length shapes
  pub shape_is : shape ≡ get_or shapes k shape

shape_next : (shapes : List (List ℕ)) (files now : List Content) (count k : ℕ) (shape : List ℕ) → Next shapes files now count k shape → shape ≡ get_or shapes count []
shape_next shapes files now count k shape n = sym (shape_at shapes k shape n.within n.shape_is) ∙ ap (λ i. get_or shapes i []) (sym n.place)

file_next : (shapes : List (List ℕ)) (files now : List Content) (count k : ℕ) (shape : List ℕ) → Next shapes files now count k shape → file_at now k ≡ file_at files count
file_next shapes files now count k shape n = ap (λ fs. file_at fs k) n.same ∙ ap (file_at files) (sym n.place)

pub heads_next : (shapes : List (List ℕ)) (files now : List Content) (heads after : List Head) (k : ℕ) (shape : List ℕ) (head : Head) → Next shapes files now (length heads) k shape → AreHeads shapes files heads →
    IsHeadFor shape (file_at now k) head → after ≡ heads ++ head ∷ [] → AreHeads shapes files after
heads_next shapes files now heads after k shape head n are is is_after =
    let S : List ℕ → Type 0 = λ s. IsHeadFor s (file_at now k) head in
    let F : Content → Type 0 = λ f. IsHeadFor (get_or shapes (length heads) []) f head in
    let next : IsHeadFor (get_or shapes (length heads) []) (file_at files (length heads)) head = subst F (file_next shapes files now (length heads) k shape n) (subst S (shape_next shapes files now (length heads) k shape n) is) in
    let A : List Head → Type 0 = λ hs. AreHeads shapes files hs in
    subst A (sym is_after) (record { each = λ j none h. pushed (λ i x. IsHeadFor (get_or shapes i []) (file_at files i) x) heads head none (λ i b. are.each i none b) next j h })

-- ## Why a file is refused

fits_head : (shape : List ℕ) (file : Content) (head : Head) → IsHeadFor shape file head → OnTold file (FitsShape shape)
fits_head shape file head is = on_content file _ (FitsShape shape) (λ bytes front. record { head = head; front = front; declared = is.declared }) is.front

refused_at : (shapes : List (List ℕ)) (files now : List Content) (heads : List Head) (k at : ℕ) (shape : List ℕ) (error : FileError) → Next shapes files now (length heads) k shape → AreHeads shapes files heads → at ≡ k →
    OnTold (file_at now k) (λ bytes. RefusesFile shape bytes error) → IsRefusedAt shapes files at error
refused_at shapes files now heads k at shape error n are is_at refused =
    let count : ℕ = length heads in
    let S : List ℕ → Type 0 = λ s. OnTold (file_at now k) (λ bytes. RefusesFile s bytes error) in
    let F : Content → Type 0 = λ f. OnTold f (λ bytes. RefusesFile (get_or shapes count []) bytes error) in
    let here : OnTold (file_at files count) (λ bytes. RefusesFile (get_or shapes count []) bytes error) = subst F (file_next shapes files now count k shape n) (subst S (shape_next shapes files now count k shape n) refused) in
    let P : ℕ → Type 0 = λ i. IsRefusedAt shapes files i error in
    let some : (j : ℕ) → j < count → (h : Head) × IsHeadFor (get_or shapes j []) (file_at files j) h = λ j b. one_of heads j b (λ none. are.each j none b) in
    subst P (n.place ∙ sym is_at) (record {
      within = omega (arith, n.within, n.place);
      before = λ j b. let h = some j b in fits_head (get_or shapes j []) (file_at files j) h.0 h.1;
      here = here;
    })
  where
    one_of : {P : Head → Type 0} (xs : List Head) (j : ℕ) → j < length xs → ((none : Head) → P (get_or xs j none)) → (h : Head) × P h
    one_of [] j b each = absurd (omega (arith, b))
    one_of (x ∷ xs) j b each = (get_or (x ∷ xs) j x, each x)

rose_from : (a b c : ℕ) → b ≡ a → Rose b c → Rose a c
rose_from a b c e rose = omega (arith, e, rose)

pub head_ends : (shapes : List (List ℕ)) (files now : List Content) (heads : List Head) (k : ℕ) (shape : List ℕ) (first before after : ℕ) (end : Ended) → Next shapes files now (length heads) k shape → AreHeads shapes files heads → before ≡ first →
    HeadEnds shape (file_at now k) k before after end → LoadEnds shapes files first after end
head_ends shapes files now heads k shape first before after (File at error) n are kept ends = refused_at shapes files now heads k at shape error n are ends.0 ends.1
head_ends shapes files now heads k shape first before after ReadFault n are kept ends = rose_from first before after kept ends
head_ends shapes files now heads k shape first before after OutOfMemory n are kept ends = tt
head_ends shapes files now heads k shape first before after Done n are kept ends = absurd ends
head_ends shapes files now heads k shape first before after (Limit quantity) n are kept ends = absurd ends
head_ends shapes files now heads k shape first before after (Zero node block) n are kept ends = absurd ends
head_ends shapes files now heads k shape first before after (Killed key losses) n are kept ends = absurd ends
head_ends shapes files now heads k shape first before after WriteFault n are kept ends = absurd ends

-- ## The inputs of a job

-- a store that was opened for a job's inputs
pub record Opened (p : Plan) (old mid : Files) (files : List Content) : Type 0 where
  pub shows : Shows p.inputs old mid files
  pub declared : length p.inputs ≡ length (input_shapes p.nodes)

refused_first : (p : Plan) (old mid : Files) (files : List Content) (place : ℕ) (error : FileError) (contents : List (List ℕ)) → Opened p old mid files → IsRefusedAt (input_shapes p.nodes) files place error → told_all old.held p.inputs ≡ Some contents →
    FirstRefusal p contents place error
refused_first p old mid files place error contents o refused e = record {
  before = λ k b. told_fact p.inputs old mid files contents k (FitsShape (get_or (input_shapes p.nodes) k [])) o.shows e (omega (arith, b, refused.within, o.declared)) (refused.before k b);
  here = told_fact p.inputs old mid files contents place (λ bytes. RefusesFile (get_or (input_shapes p.nodes) place []) bytes error) o.shows e (omega (arith, refused.within, o.declared)) refused.here;
}

-- the pieces of a store that was opened for the inputs and given back
pub record GivenBack (p : Plan) (names : List (List ℕ)) (fresh store old mid new : List Piece) : Type 0 where
  pub named : names ≡ p.inputs
  pub before : mid ≡ old
  pub is : new ≡ mid ++ store

pub load_cause : (p : Plan) (old new : View) (mid : Files) (files : List Content) (now : ℕ) (names : List (List ℕ)) (fresh store between : List Piece) (end : Ended) → Opened p old.files mid files → (0 < now → Rose old.read_faults new.read_faults) → GivenBack p names fresh store old.gave between new.gave →
    LoadGiven names (input_shapes p.nodes) fresh store end → LoadEnds (input_shapes p.nodes) files 0 now end → ReadCause p old new end
load_cause p old new mid files now names fresh store between (File place error) o risen back given ends =
    let within : place < length p.inputs = omega (arith, ends.within, o.declared) in (
      record {
        within = within;
        there = λ t. inputs_there p.inputs old.files mid files o.shows t;
        first = on_told (told_all old.files.held p.inputs) (λ contents. FirstRefusal p contents place error) (λ contents e. refused_first p old.files mid files place error contents o ends e);
      },
      refusal_given p names place error fresh store old.gave between new.gave back.named within back.before back.is given,
    )
load_cause p old new mid files now names fresh store between ReadFault o risen back given ends = risen (omega (arith, ends))
load_cause p old new mid files now names fresh store between OutOfMemory o risen back given ends = tt
load_cause p old new mid files now names fresh store between Done o risen back given ends = absurd ends
load_cause p old new mid files now names fresh store between (Limit quantity) o risen back given ends = absurd ends
load_cause p old new mid files now names fresh store between (Zero node block) o risen back given ends = absurd ends
load_cause p old new mid files now names fresh store between (Killed key losses) o risen back given ends = absurd ends
load_cause p old new mid files now names fresh store between WriteFault o risen back given ends = absurd ends

fits_file : (shape : List ℕ) (file : Content) (head : Head) → IsHeadFor shape file head → OnTold file (λ bytes. (array : Array) × HoldsArray shape bytes array)
fits_file shape file head is = on_content file _ (λ bytes. (array : Array) × HoldsArray shape bytes array) (λ bytes front. (array_told (Told bytes) head, held_array shape bytes head front is.declared)) is.front

pub loaded_fit : (p : Plan) (old mid : Files) (files : List Content) (heads : List Head) → Opened p old mid files → AreHeads (input_shapes p.nodes) files heads → length heads ≡ length (input_shapes p.nodes) → InputsFit p old
loaded_fit p old mid files heads o are count =
    record {
      there = λ t. inputs_there p.inputs old mid files o.shows t;
      fit = on_told (told_all old.held p.inputs) (FitInputs p) (λ contents e. record {
        each = λ k h. told_fact p.inputs old mid files contents k (λ bytes. (array : Array) × HoldsArray (get_or (input_shapes p.nodes) k []) bytes array) o.shows e h
            (fits_file (get_or (input_shapes p.nodes) k []) (file_at files k) (get_or heads k no_head) (are.each k no_head (omega (arith, h, count, o.declared))));
      });
    }

-- ## Counts

pub pushed_count : {X : Type 0} (xs after : List X) (x : X) (k : ℕ) → length xs ≡ k → after ≡ xs ++ x ∷ [] → length after ≡ k + 1
pushed_count xs after x k e is = let l : length (xs ++ x ∷ []) ≡ length xs + 1 = length-append xs (x ∷ []) in ap length is ∙ omega (arith, l, e)

pub few_shapes : (nodes : List Node) → length (input_shapes nodes) ≤ length nodes
few_shapes [] = omega arith
few_shapes (n ∷ nodes) = turn (is_input n.op) n.shape (input_shapes nodes) (length nodes) (few_shapes nodes)
  where
    turn : (b : Bool) (s : List ℕ) (shapes : List (List ℕ)) (count : ℕ) → length shapes ≤ count → length (cond b (s ∷ shapes) shapes) ≤ suc count
    turn true s shapes count h = omega (arith, h)
    turn false s shapes count h = omega (arith, h)
