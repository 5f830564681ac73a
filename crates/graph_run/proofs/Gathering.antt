-- What gathered blocks are, one for each key.
use Rattle.std.proofs.Common.{◌≡◌, ℕ, List, [], ◌∷◌, map, refl, sym, ap, ◌∙◌}
use Rattle.std.specs.Prelude.{Option, Some}
use Rattle.std.specs.declared.sync.Arc.{Arc}
use Rattle.std.specs.declared.alloc.Global.{Global}
use Rattle.cluster_msgs.specs.Jobs.{blocks_of}
use Rattle.cluster_msgs.specs.Shape.{Shape, IsShape, deps_of}
use Rattle.cluster_msgs.specs.Values.{with_first, all_of, val}
use Rattle.cluster_msgs.proofs.ShapeLemmas.{earlier}
use Rattle.cluster_msgs.proofs.ValueLemmas.{val-values}

module _ {B : Type 0} (block : ℕ → Option B) where
  -- what each block has of its key, they have of their keys
  pub map-gathered : {A : Type 0} (f : B → A) (g : ℕ → A) (ks : List ℕ) (bs : List B) → map (λ b. Some b) bs ≡ map block ks → ((k : ℕ) (b : B) → block k ≡ Some b → f b ≡ g k) → map f bs ≡ map g ks
  map-gathered f g [] [] e h = refl
  map-gathered f g [] (b ∷ bs) e h = cc
  map-gathered f g (k ∷ ks) [] e h = cc
  map-gathered f g (k ∷ ks) (b ∷ bs) e h =
      let here : block k ≡ Some b = cc in
      let rest : map (λ b. Some b) bs ≡ map block ks = cc in
      ap (λ x. x ∷ map f bs) (h k b here) ∙ ap (λ xs. g k ∷ xs) (map-gathered f g ks bs rest h)

  all-gathered : (value : ℕ → Option B) (ks : List ℕ) (bs : List B) → map (λ b. Some b) bs ≡ map block ks → ((k : ℕ) (b : B) → block k ≡ Some b → value k ≡ Some b) → all_of (map value ks) ≡ Some bs
  all-gathered value [] [] e h = refl
  all-gathered value [] (b ∷ bs) e h = cc
  all-gathered value (k ∷ ks) [] e h = cc
  all-gathered value (k ∷ ks) (b ∷ bs) e h =
      let here : block k ≡ Some b = cc in
      let rest : map (λ b. Some b) bs ≡ map block ks = cc in
      ap (λ o. with_first o (all_of (map value ks))) (h k b here) ∙ ap (with_first (Some b)) (all-gathered value ks bs rest h)

  -- what the operation of a key makes of the gathered values of its dependencies is the value of the key
  pub val-gathered : (g : Shape) (op : ℕ → List B → Option B) (key : ℕ) (bs : List B) (made outcome : Option B) → IsShape g → map (λ b. Some b) bs ≡ map block (deps_of g key) → made ≡ outcome → outcome ≡ op key bs
      → ((k : ℕ) (b : B) → block k ≡ Some b → val (deps_of g) op k ≡ Some b) → made ≡ val (deps_of g) op key
  val-gathered g op key bs made outcome s e m o h = m ∙ o ∙ sym (val-values (deps_of g) op (earlier g s) key bs (all-gathered (val (deps_of g) op) (deps_of g key) bs e h))

-- the list that was gathered for a key, as it is passed on
pub gathered-of : {B : Type 0} (block : ℕ → Option B) (xs ys : List (Arc B Global)) (ks : List ℕ) (shape graph : Shape) (key : ℕ) → xs ≡ ys → map (λ b. Some b) (blocks_of ys) ≡ map block ks → ks ≡ deps_of shape key → shape ≡ graph
    → map (λ b. Some b) (blocks_of xs) ≡ map block (deps_of graph key)
gathered-of block xs ys ks shape graph key same e deps is = ap (λ bs. map (λ b. Some b) (blocks_of bs)) same ∙ e ∙ ap (map block) (deps ∙ ap (λ g. deps_of g key) is)
