-- What a task makes of blocks that fit the label of its run fits it too.
use Rattle.std.proofs.Common.{◌≡◌, ℕ, Bool, List, [], ◌∷◌, ◌++◌, map, refl, sym, ap, subst, ◌∙◌}
use Rattle.std.specs.Prelude.{Option, Some, None, IsTrue, Result, Ok, Err, IfOk}
use Rattle.std.proofs.lemmas.List.{map-append}
use Rattle.std.specs.Arc.{arc_value}
use Rattle.std.specs.List.{AllZip}
use Rattle.std.specs.declared.sync.Arc.{Arc}
use Rattle.std.specs.declared.alloc.Global.{Global}
use Rattle.cluster_msgs.specs.Jobs.{blocks_of, value_of, IfValue}
use Rattle.cluster_msgs.specs.declared.jobs.Outcome.{Outcome}
use Rattle.cluster_msgs.specs.declared.jobs.Outcome.TheVariants.{Value, Zero}
use Rattle.cluster_msgs.specs.declared.jobs.RunFail.{RunFail}
use Rattle.cluster_msgs.specs.Labels.{LabelFacts, BlockFits, ErrorFits, label_of}
use Rattle.cluster_msgs.specs.Shape.{Shape, IsShape, deps_of}
use Rattle.cluster_msgs.specs.Values.{with_first, all_of, val}
use Rattle.cluster_msgs.proofs.ShapeLemmas.{earlier}
use Rattle.cluster_msgs.proofs.ValueLemmas.{val-values, faulty-values}
use Rattle.node_links.specs.Fits.{ParcelFits}
use Rattle.node_links.proofs.Parcels.{parcel_push}
use Rattle.node_runner.specs.Naming.{run_facts}

module _ {B : Type 0} (facts : LabelFacts B) where
  -- the lengths of blocks that fit are those of their keys
  dims_fit : (ks : List ℕ) (bs : List B) → AllZip (BlockFits facts) ks bs → map facts.block_dims bs ≡ map facts.dims ks
  dims_fit [] [] z = refl
  dims_fit [] (b ∷ bs) z = absurd z
  dims_fit (k ∷ ks) [] z = absurd z
  dims_fit (k ∷ ks) (b ∷ bs) z = ap (λ d. d ∷ map facts.block_dims bs) z.0.dims ∙ ap (λ ds. facts.dims k ∷ ds) (dims_fit ks bs z.1)

  -- in a told run they are the values of their keys
  values_fit : IsTrue facts.told → (ks : List ℕ) (bs : List B) → AllZip (BlockFits facts) ks bs → all_of (map facts.value ks) ≡ Some bs
  values_fit t [] [] z = refl
  values_fit t [] (b ∷ bs) z = absurd z
  values_fit t (k ∷ ks) [] z = absurd z
  values_fit t (k ∷ ks) (b ∷ bs) z = ap (λ o. with_first o (all_of (map facts.value ks))) (z.0.value t) ∙ ap (with_first (Some b)) (values_fit t ks bs z.1)

-- one block more, of what has a key
pub fits_more : {B X : Type 0} (facts : LabelFacts B) (key : X → ℕ) (xs : List X) (x : X) (bs : List (Arc B Global)) (b : Arc B Global)
    → ParcelFits facts (map key xs) bs → BlockFits facts (key x) (arc_value b) → ParcelFits facts (map key (xs ++ x ∷ [])) (bs ++ b ∷ [])
fits_more facts key xs x bs b h fit = subst (λ ks. ParcelFits facts ks (bs ++ b ∷ [])) (sym (map-append key xs (x ∷ []))) (parcel_push facts (map key xs) bs (key x) b h fit)

module _ {J B : Type 0} (graph : J → Shape) (op : J → ℕ → List B → Option B) (dims : J → ℕ → List ℕ) (block_dims : B → List ℕ) (told : Bool)
    (allowed : Option ℕ) (named : Option J) (job : J) (key : ℕ) (ks : List ℕ) (bs : List (Arc B Global)) (is : named ≡ Some job)
    (same : ks ≡ (run_facts graph op dims block_dims told allowed named).deps key) (fits : ParcelFits (run_facts graph op dims block_dims told allowed named) ks bs) where
  abbrev facts_of_job : LabelFacts B
  facts_of_job = label_of told allowed (graph job) (op job) (dims job) block_dims

  fit : AllZip (BlockFits facts_of_job) ks (blocks_of bs)
  fit = (subst (λ n. ParcelFits (run_facts graph op dims block_dims told allowed n) ks bs) is fits).blocks_fit

  keys_are : ks ≡ deps_of (graph job) key
  keys_are = subst (λ n. ks ≡ (run_facts graph op dims block_dims told allowed n).deps key) is same

  -- the inputs have the lengths of the key's dependencies
  pub inputs_fit : map block_dims (blocks_of bs) ≡ map (dims job) (deps_of (graph job) key)
  inputs_fit = dims_fit facts_of_job ks (blocks_of bs) fit ∙ ap (map (dims job)) keys_are

  have_values : IsTrue told → all_of (map (val (deps_of (graph job)) (op job)) (deps_of (graph job) key)) ≡ Some (blocks_of bs)
  have_values t = ap (λ ds. all_of (map (val (deps_of (graph job)) (op job)) ds)) (sym keys_are) ∙ values_fit facts_of_job t ks (blocks_of bs) fit

  -- a block that the operation made
  pub value_fits : IsShape (graph job) → (b : B) → (IsTrue told → Some b ≡ op job key (blocks_of bs)) → block_dims b ≡ dims job key
      → BlockFits (run_facts graph op dims block_dims told allowed named) key b
  value_fits shape b made long = subst (λ n. BlockFits (run_facts graph op dims block_dims told allowed n) key b) (sym is) (record {
    dims = long;
    value = λ t. val-values (deps_of (graph job)) (op job) (earlier (graph job) shape) key (blocks_of bs) (have_values t) ∙ sym (made t);
  })

  -- a zero divisor that it met
  pub zero_fits : IsShape (graph job) → (IsTrue told → None ≡ op job key (blocks_of bs)) → ErrorFits (run_facts graph op dims block_dims told allowed named) key
  zero_fits shape made = subst (λ n. ErrorFits (run_facts graph op dims block_dims told allowed n) key) (sym is)
      (λ t. faulty-values (deps_of (graph job)) (op job) (earlier (graph job) shape) key (blocks_of bs) (have_values t) (sym (made t)))

  -- what the operation answered
  pub outcome_value : IsShape (graph job) → (r : Result (Outcome B) RunFail) → IfOk r (λ o. IsTrue told → value_of o ≡ op job key (blocks_of bs))
      → IfOk r (λ o. IfValue o (λ b. block_dims b ≡ dims job key)) → IfOk r (λ o. IfValue o (BlockFits (run_facts graph op dims block_dims told allowed named) key))
  outcome_value shape (Ok (Value b)) made long = value_fits shape b made long
  outcome_value shape (Ok Zero) made long = tt
  outcome_value shape (Err e) made long = tt

  pub outcome_zero : IsShape (graph job) → (r : Result (Outcome B) RunFail) → IfOk r (λ o. IsTrue told → value_of o ≡ op job key (blocks_of bs))
      → IfOk r (λ o. o ≡ Zero → ErrorFits (run_facts graph op dims block_dims told allowed named) key)
  outcome_zero shape (Ok o) made = λ zero. zero_fits shape (λ t. subst (λ z. value_of z ≡ op job key (blocks_of bs)) zero (made t))
  outcome_zero shape (Err e) made = tt
