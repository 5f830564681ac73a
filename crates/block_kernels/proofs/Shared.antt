-- The inputs at their places.
use Rattle.std.proofs.Common.{◌≡◌, ℕ, ◌<◌, List, [], ◌∷◌, length, get_or, ap, sym, ◌∙◌, arith}
use Rattle.std.specs.Arc.{arc_value}
use Rattle.std.specs.declared.sync.Arc.{Arc}
use Rattle.std.specs.declared.alloc.Global.{Global}
use Rattle.std.proofs.lemmas.List.{length-map, get_or-map}
use Rattle.nd_shape.specs.Block.{Array}
use Rattle.nd_grid.specs.Grid.{grid_of}
use Rattle.block_kernels.specs.Kernels.{nth, no_grid}
use Rattle.block_kernels.specs.Inputs.{blocks_of, grids_of, shapes_of}

block-at : (shared : List (Arc Array Global)) (p : ℕ) (a : Arc Array Global) (d : Array) → p < length shared → a ≡ get_or shared p a → get_or (blocks_of shared) p d ≡ arc_value a
block-at shared p a d h e = get_or-map arc_value shared p a d h ∙ ap arc_value (sym e)

pub input-grid : (shared : List (Arc Array Global)) (p : ℕ) (a : Arc Array Global) → p < length shared → a ≡ get_or shared p a → nth (grids_of (blocks_of shared)) p ≡ grid_of (arc_value a)
input-grid shared p a h e =
    let l : p < length (blocks_of shared) = omega (arith, length-map shared arc_value) in
    get_or-map grid_of (blocks_of shared) p (arc_value a) no_grid l ∙ ap grid_of (block-at shared p a (arc_value a) h e)

pub input-shape : (shared : List (Arc Array Global)) (p : ℕ) (a : Arc Array Global) → p < length shared → a ≡ get_or shared p a → get_or (shapes_of (blocks_of shared)) p [] ≡ (arc_value a).shape
input-shape shared p a h e =
    let l : p < length (blocks_of shared) = omega (arith, length-map shared arc_value) in
    get_or-map (λ (b : Array). b.shape) (blocks_of shared) p (arc_value a) [] l ∙ ap (λ (b : Array). b.shape) (block-at shared p a (arc_value a) h e)

pub one-block : (shared : List (Arc Array Global)) (ns : List ℕ) → shapes_of (blocks_of shared) ≡ ns ∷ [] → 0 < length shared
one-block [] ns e = cc
one-block (x ∷ xs) ns e = omega arith
