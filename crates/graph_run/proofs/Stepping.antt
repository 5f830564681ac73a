-- What holds of an evaluation, before and after a step.
use Rattle.std.proofs.Common.{◌≡◌, ℕ, ◌+◌, ◌<◌, ◌≤◌, List, get_or, sym, ap, subst, ◌∙◌, inl, inr, arith}
use Rattle.std.specs.Prelude.{Option, Some, IsSome, is_some, ◌↔◌}
use Rattle.std.specs.List.{All}
use Rattle.std.specs.Arc.{arc_value}
use Rattle.std.specs.declared.sync.Arc.{Arc}
use Rattle.std.specs.declared.alloc.Global.{Global}
use Rattle.std.proofs.lemmas.Bool.{cases_eq}
use Rattle.std.proofs.lemmas.List.Elements.{All-from_recursion, Contains-get_or}
use Rattle.cluster_msgs.specs.Shape.{Shape, IsShape, key_count, deps_of}
use Rattle.cluster_msgs.specs.Values.{val}
use Rattle.graph_run.specs.Evaluations.{HaveValues, IfMade, value_of_step}
use Rattle.graph_run.specs.Kept.{AreValues, IsEvaluation, IsTraced}
use Rattle.graph_run.specs.Slots.{block_at, IsKeeping}
use Rattle.graph_run.specs.declared.evaluation.Step.{Step}
use Rattle.graph_run.specs.declared.evaluation.Step.TheVariants.{Made}

module _ {B : Type 0} (deps : ℕ → List ℕ) (op : ℕ → List B → Option B) where
  -- one key more has a value
  have-more : (next : ℕ) (block : B) → HaveValues deps op next → Some block ≡ val deps op next → HaveValues deps op (next + 1)
  have-more next block have made k below = elim (cases_eq k next) [
    | inl same ↦ ap is_some (ap (val deps op) same ∙ sym made)
    | inr ne ↦ have k (omega arith)
  ]

  -- the blocks that are kept after one key more are values
  are-more : (last : List ℕ) (next : ℕ) (block : B) (slots new : List (Option (Arc B Global))) → IsKeeping last next block slots new → AreValues deps op slots → Some block ≡ val deps op next → AreValues deps op new
  are-more last next block slots new kept are made k b at = elim (kept.known k b at) [
    | inl h ↦ are k b h
    | inr h ↦ ap (val deps op) h.0 ∙ sym made ∙ ap (λ x. Some x) (sym h.1)
  ]

  -- what a step gave, where it made a block
  made-value : (next : ℕ) (step : Step B) (block : Arc B Global) → step ≡ Made block → value_of_step step ≡ val deps op next → Some (arc_value block) ≡ val deps op next
  made-value next step block is gives = sym (ap value_of_step is) ∙ gives

module _ {J B F : Type 0} (graph : J → Shape) (key_dims : J → ℕ → List ℕ) (block_dims : B → List ℕ) (operation : J → ℕ → List B → Option B) (feed_fits feed_tells : J → F → Type 0) (job : J) where
  abbrev Holds : F → ℕ → List ℕ → List (Option (Arc B Global)) → Type 0
  Holds feed next last slots = IsEvaluation graph key_dims block_dims operation feed_fits feed_tells job feed next last slots

  abbrev value : ℕ → Option B
  value k = val (deps_of (graph job)) (operation job) k

  -- each dependency of the next key has its block
  pub inputs-kept : (feed : F) (next : ℕ) (last : List ℕ) (slots shown : List (Option (Arc B Global))) → Holds feed next last slots → IsShape (graph job) → next < key_count (graph job) → shown ≡ slots → All (λ k. IsSome (block_at shown k)) (deps_of (graph job) next)
  inputs-kept feed next last slots shown e s lt same = λ i d within.
      let deps : List ℕ = deps_of (graph job) next in
      let k : ℕ = get_or deps i d in
      let below : k < next = All-from_recursion (λ d. d < next) deps (s.below next) i d within in
      let used : next ≤ get_or last k 0 = (e.uses.each k (omega arith)).after_all next lt (Contains-get_or deps i d within) in
      subst (λ xs. IsSome (block_at xs k)) (sym same) (e.kept.kept k below used)

  -- a feed that fits and tells as before
  pub feed-kept : (old new : F) (next : ℕ) (last : List ℕ) (slots : List (Option (Arc B Global))) → Holds old next last slots → feed_fits job new → feed_tells job new ↔ feed_tells job old → Holds new next last slots
  feed-kept old new next last slots e fits tells = record {
    fits = fits;
    within = e.within;
    uses = e.uses;
    kept = e.kept;
    dims = e.dims;
    before = λ t. e.before (tells.0 t);
    values = λ t. e.values (tells.0 t);
  }

  -- the next key's block was made
  pub stepped : (feed : F) (next : ℕ) (last : List ℕ) (slots new : List (Option (Arc B Global))) (step : Step B) (block : Arc B Global) → Holds feed next last slots → next < key_count (graph job)
      → IsKeeping last next (arc_value block) slots new → step ≡ Made block → IfMade step (λ b. block_dims b ≡ key_dims job next) → (feed_tells job feed → value_of_step step ≡ value next) → Holds feed (next + 1) last new
  stepped feed next last slots new step block e lt kept is fits-key gives =
      let dims : block_dims (arc_value block) ≡ key_dims job next = subst (λ s. IfMade s (λ b. block_dims b ≡ key_dims job next)) is fits-key in
      let deps : ℕ → List ℕ = deps_of (graph job) in
      let op : ℕ → List B → Option B = operation job in
      let made : feed_tells job feed → Some (arc_value block) ≡ value next = λ t. made-value deps op next step block is (gives t) in
      record {
        fits = e.fits;
        within = omega arith;
        uses = e.uses;
        kept = kept.next;
        dims = λ k b at. elim (kept.known k b at) [
          | inl h ↦ e.dims k b h
          | inr h ↦ ap block_dims h.1 ∙ dims ∙ ap (key_dims job) (sym h.0)
        ];
        before = λ t. have-more deps op next (arc_value block) (e.before t) (made t);
        values = λ t. are-more deps op last next (arc_value block) slots new kept (e.values t) (made t);
      }

module _ {J B F H N : Type 0} (graph : J → Shape) (agrees : F → H → Type 0) (has : J → F → H → N → Type 0) (made_of : J → N → ℕ → List B → Option B) (job : J) where
  abbrev Traces : F → ℕ → List (Option (Arc B Global)) → Type 0
  Traces feed next slots = IsTraced graph agrees has made_of job feed next slots

  -- a feed that gave all that it gave before, over files that hold the same
  pub traced-kept : (old new : F) (next : ℕ) (slots : List (Option (Arc B Global))) → Traces old next slots → ((holds : H) → agrees new holds → agrees old holds) → ((holds : H) (named : N) → has job new holds named ↔ has job old holds named) → Traces new next slots
  traced-kept old new next slots e agreed same = record {
    before = λ holds named a h. e.before holds named (agreed holds a) ((same holds named).0 h);
    values = λ holds named a h. e.values holds named (agreed holds a) ((same holds named).0 h);
  }

  -- the next key's block was made
  pub traced-stepped : (feed : F) (next : ℕ) (last : List ℕ) (slots new : List (Option (Arc B Global))) (step : Step B) (block : Arc B Global) → Traces feed next slots → IsKeeping last next (arc_value block) slots new → step ≡ Made block
      → ((holds : H) (named : N) → agrees feed holds → has job feed holds named → value_of_step step ≡ val (deps_of (graph job)) (made_of job named) next) → Traces feed (next + 1) new
  traced-stepped feed next last slots new step block e kept is gives =
      let deps : ℕ → List ℕ = deps_of (graph job) in
      let made : (holds : H) (named : N) → agrees feed holds → has job feed holds named → Some (arc_value block) ≡ val deps (made_of job named) next = λ holds named a h. made-value deps (made_of job named) next step block is (gives holds named a h) in
      record {
        before = λ holds named a h. have-more deps (made_of job named) next (arc_value block) (e.before holds named a h) (made holds named a h);
        values = λ holds named a h. are-more deps (made_of job named) last next (arc_value block) slots new kept (e.values holds named a h) (made holds named a h);
      }
