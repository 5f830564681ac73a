-- What a well formed operation asks of each kernel.
use Rattle.std.proofs.Common.{◌≡◌, ℕ, ◌<◌, List, [], ◌∷◌, length, map, get_or, ap, sym, subst, ◌∙◌, arith, ℤ, Ok, w64, to_z, of_z}
use Rattle.std.specs.Prelude.{Result, IfOk, IfErr}
use Rattle.std.proofs.lemmas.Int.{to_z-of_z}
use mir.Val.{SFits}
use Rattle.nd_shape.specs.Block.{Array}
use Rattle.nd_grid.specs.declared.formula.Fail.{Fail}
use Rattle.nd_grid.specs.Computed.{FailsAs}
use Rattle.nd_shape.specs.Shape.{IsShape}
use Rattle.nd_shape.specs.Region.{Box}
use Rattle.nd_shape.specs.declared.slice.Steps.{Steps}
use Rattle.nd_grid.specs.declared.operation.Binary.{Binary}
use Rattle.nd_grid.specs.Grid.{SlicesFit, sliced_shape, IsTranspose, block_of, part, ramp}
use Rattle.block_kernels.specs.declared.spec.Operand.{Operand}
use Rattle.block_kernels.specs.declared.spec.Spec.{Spec}
use Rattle.block_kernels.specs.declared.spec.Spec.TheVariants.{Elementwise, Where, Slice, Transpose}
use Rattle.block_kernels.specs.Kernels.{input_shapes, result_shape}
use Rattle.block_kernels.specs.WellFormed.{FitsPair, FitsWhere, Fits, IsWellFormed}

pub pair-ready : (spec : Spec) (op : Binary) (l r : Operand) (ins xs : List (List ℕ)) (shape : List ℕ) → spec ≡ Elementwise op l r ins shape → IsWellFormed spec → xs ≡ input_shapes spec → FitsPair l r xs shape
pair-ready spec op l r ins xs shape e w s = subst (λ ys. FitsPair l r ys shape) (sym (s ∙ ap input_shapes e)) (subst Fits e w.rules)

pub where-ready : (spec : Spec) (c a b : Operand) (ins xs : List (List ℕ)) (shape : List ℕ) → spec ≡ Where c a b ins shape → IsWellFormed spec → xs ≡ input_shapes spec → FitsWhere c a b xs shape
where-ready spec c a b ins xs shape e w s = subst (λ ys. FitsWhere c a b ys shape) (sym (s ∙ ap input_shapes e)) (subst Fits e w.rules)

pub slice-shape : (spec : Spec) (steps : List Steps) (d input ms : List ℕ) (xs : List (List ℕ)) → spec ≡ Slice steps d input → xs ≡ input_shapes spec → ms ≡ get_or xs 0 [] → ms ≡ input
slice-shape spec steps d input ms xs e s m = m ∙ ap (λ ys. get_or ys 0 []) (s ∙ ap input_shapes e)

pub slice-ready : (spec : Spec) (steps : List Steps) (d input ms : List ℕ) → spec ≡ Slice steps d input → IsWellFormed spec → ms ≡ input → SlicesFit 0 steps ms d
slice-ready spec steps d input ms e w m = subst (λ ns. SlicesFit 0 steps ns d) (sym m) (subst Fits e w.rules).fits

pub slice-limits : (spec : Spec) (steps : List Steps) (d input : List ℕ) → spec ≡ Slice steps d input → IsWellFormed spec → IsShape (sliced_shape 0 steps d)
slice-limits spec steps d input e w = subst (λ s. IsShape (result_shape s)) e w.shape

pub turn-shape : (spec : Spec) (axes input ms : List ℕ) (xs : List (List ℕ)) → spec ≡ Transpose axes input → xs ≡ input_shapes spec → ms ≡ get_or xs 0 [] → ms ≡ input
turn-shape spec axes input ms xs e s m = m ∙ ap (λ ys. get_or ys 0 []) (s ∙ ap input_shapes e)

pub turn-ready : (spec : Spec) (axes input ms : List ℕ) → spec ≡ Transpose axes input → IsWellFormed spec → ms ≡ input → IsTranspose axes (length ms)
turn-ready spec axes input ms e w m = subst (λ ns. IsTranspose axes (length ns)) (sym m) (subst Fits e w.rules)

pub turn-limits : (spec : Spec) (axes input ms : List ℕ) → spec ≡ Transpose axes input → IsWellFormed spec → ms ≡ input → IsShape (map (λ a. get_or ms a 0) axes)
turn-limits spec axes input ms e w m = subst (λ ns. IsShape (map (λ a. get_or ns a 0) axes)) (sym m) (subst (λ s. IsShape (result_shape s)) e w.shape)

pub one-input : (spec : Spec) (xs : List (List ℕ)) (input : List ℕ) → xs ≡ input_shapes spec → input_shapes spec ≡ input ∷ [] → 0 < length xs
one-input spec xs input s e = subst (λ ys. 0 < length ys) (sym (s ∙ e)) (omega arith)

-- a start and a step that are handed on as 64 bits
pub slope-ok : (box : Box) (whole : List ℕ) (a s : ℤ) (r : Result Array Fail) → SFits w64 a → SFits w64 s → IfOk r (λ block. block_of (part box (ramp whole (to_z w64 (of_z w64 a)) (to_z w64 (of_z w64 s)))) ≡ Ok block) → IfOk r (λ block. block_of (part box (ramp whole a s)) ≡ Ok block)
slope-ok box whole a s r fa fs h =
    subst (λ (t : ℤ). IfOk r (λ block. block_of (part box (ramp whole a t)) ≡ Ok block)) (to_z-of_z w64 s fs)
    (subst (λ (t : ℤ). IfOk r (λ block. block_of (part box (ramp whole t (to_z w64 (of_z w64 s)))) ≡ Ok block)) (to_z-of_z w64 a fa) h)

pub slope-err : (box : Box) (whole : List ℕ) (a s : ℤ) (r : Result Array Fail) → SFits w64 a → SFits w64 s → IfErr r (λ e. FailsAs e (block_of (part box (ramp whole (to_z w64 (of_z w64 a)) (to_z w64 (of_z w64 s)))))) → IfErr r (λ e. FailsAs e (block_of (part box (ramp whole a s))))
slope-err box whole a s r fa fs h =
    subst (λ (t : ℤ). IfErr r (λ e. FailsAs e (block_of (part box (ramp whole a t))))) (to_z-of_z w64 s fs)
    (subst (λ (t : ℤ). IfErr r (λ e. FailsAs e (block_of (part box (ramp whole t (to_z w64 (of_z w64 s))))))) (to_z-of_z w64 a fa) h)
