-- The pieces of a plan, whose sources are blocks by their numbers, as those of a task, whose sources are places of inputs.
use Rattle.std.proofs.Common.{◌≡◌, ℕ, zero, suc, ◌+◌, ◌<◌, List, [], ◌∷◌, ◌++◌, length, map, take, drop, get_or, refl, ap, sym, ◌∙◌, add-one, arith}
use Rattle.std.proofs.Math.ListN.{set}
use Rattle.std.specs.List.{AllByRecursion}
use Rattle.nd_shape.specs.declared.region.Piece.{Piece}
use Rattle.nd_shape.specs.Index.{IsIn, place, index_at}
use Rattle.nd_shape.specs.Chunk.{total}
use Rattle.nd_shape.proofs.Places.{index_at-place, index_at-in}
use Rattle.std.proofs.lemmas.List.{length-map}
use Rattle.chunk_layout.specs.Layouts.{counts, blocks, lengths, lengths_at}
use Rattle.chunk_layout.specs.Plans.{Overlap, chunks_in, piece, parts, plan}
use Rattle.block_kernels.specs.declared.spec.Spec.TheVariants.{Assemble}
use Rattle.task_graph.specs.Graphs.{task}
use Rattle.lowering_laws.specs.Sources.{Source, key_of, placed, rechunk_task}
use Rattle.lowering_laws.proofs.Pieces.{parts-fit}
use Rattle.lowering_laws.proofs.Rising.{parts-in}
use Rattle.block_lowering.specs.Rechunking.{renamed, assembled}

-- ---- naming places

abbrev pub named : ℕ → Piece → Piece
named p x = record { source = p; from = x.from; to = x.to }

renamed-next : (p k : ℕ) (xs : List Piece) (d : Piece) → k < length xs
    → set (renamed p (take k xs) ++ drop k xs) k (named (p + k) (get_or (renamed p (take k xs) ++ drop k xs) k d)) ≡ renamed p (take (suc k) xs) ++ drop (suc k) xs
renamed-next p k [] d h = absurd (omega arith)
renamed-next p zero (x ∷ xs) d h = let e : p + 0 ≡ p = omega arith in ap (λ q. named q x ∷ xs) e
renamed-next p (suc k) (x ∷ xs) d h =
    let e : p + suc k ≡ suc p + k = omega arith in
    ap (λ q. named p x ∷ set (renamed (suc p) (take k xs) ++ drop k xs) k (named q (get_or (renamed (suc p) (take k xs) ++ drop k xs) k d))) e
    ∙ ap (λ ys. named p x ∷ ys) (renamed-next (suc p) k xs d (omega arith))

-- one more piece has its place
pub renamed-more : (k : ℕ) (xs ys : List Piece) (d : Piece) → k < length xs → ys ≡ renamed 0 (take k xs) ++ drop k xs
    → set ys k (named k (get_or ys k d)) ≡ renamed 0 (take (k + 1) xs) ++ drop (k + 1) xs
renamed-more k xs ys d h e =
    let z : 0 + k ≡ k = omega arith in
    ap (λ zs. set zs k (named k (get_or zs k d))) e
    ∙ ap (λ q. set (renamed 0 (take k xs) ++ drop k xs) k (named q (get_or (renamed 0 (take k xs) ++ drop k xs) k d))) (sym z)
    ∙ renamed-next 0 k xs d h ∙ ap (λ j. renamed 0 (take j xs) ++ drop j xs) (sym (add-one k))

-- ---- a plan

renamed-placed : (f : List Overlap → ℕ) (p : ℕ) (oss : List (List Overlap)) → renamed p (map (λ os. piece (f os) os) oss) ≡ placed p oss
renamed-placed f p [] = refl
renamed-placed f p (os ∷ oss) = ap (λ xs. piece p os ∷ xs) (renamed-placed f (suc p) oss)

mapped : {A : Type 0} (f : List Overlap → ℕ) (g : ℕ → A) (oss : List (List Overlap)) → map (λ (x : Piece). g x.source) (map (λ os. piece (f os) os) oss) ≡ map (λ os. g (f os)) oss
mapped f g [] = refl
mapped f g (os ∷ oss) = ap (λ xs. g (f os) ∷ xs) (mapped f g oss)

shapes-found : (layout : List (List ℕ)) (oss : List (List Overlap)) → AllByRecursion (λ os. IsIn (counts layout) (chunks_in os)) oss
    → map (λ os. lengths_at layout (index_at (counts layout) (place (counts layout) (chunks_in os)))) oss ≡ map (λ os. lengths_at layout (chunks_in os)) oss
shapes-found layout [] a = refl
shapes-found layout (os ∷ oss) a =
    ap (λ bs. lengths_at layout bs ∷ map (λ os. lengths_at layout (index_at (counts layout) (place (counts layout) (chunks_in os)))) oss) (index_at-place (counts layout) (chunks_in os) a.0)
    ∙ ap (λ xs. lengths_at layout (chunks_in os) ∷ xs) (shapes-found layout oss a.1)

-- the task of a planned block
assembled-plan : (s : Source) (to : List (List ℕ)) (c : ℕ) → lengths s.layout ≡ lengths to → c < blocks to
    → assembled s (plan s.layout to c) (lengths_at to (index_at (counts to) c)) ≡ rechunk_task s to (index_at (counts to) c)
assembled-plan s to c e h =
    let bs = index_at (counts to) c in
    let oss = parts s.layout to bs in
    let axes : length s.layout ≡ length to = sym (length-map s.layout (λ (sizes : List ℕ). total sizes)) ∙ ap length e ∙ length-map to (λ (sizes : List ℕ). total sizes) in
    let inside = parts-in s.layout to bs (parts-fit s.layout to bs axes (index_at-in (counts to) c h)) in
    let at = λ (os : List Overlap). place (counts s.layout) (chunks_in os) in
    let pieces = renamed-placed at 0 oss in
    let shapes = mapped at (λ p. lengths_at s.layout (index_at (counts s.layout) p)) oss ∙ shapes-found s.layout oss inside in
    let keys = mapped at (key_of s) oss in
    ap (λ ps. task (Assemble ps (map (λ (p : Piece). lengths_at s.layout (index_at (counts s.layout) p.source)) (plan s.layout to c)) (lengths_at to bs)) (map (λ (p : Piece). key_of s p.source) (plan s.layout to c))) pieces
    ∙ ap (λ ss. task (Assemble (placed 0 oss) ss (lengths_at to bs)) (map (λ (p : Piece). key_of s p.source) (plan s.layout to c))) shapes
    ∙ ap (λ ks. task (Assemble (placed 0 oss) (map (λ os. lengths_at s.layout (chunks_in os)) oss) (lengths_at to bs)) ks) keys

pub planned-task : (s : Source) (to : List (List ℕ)) (c : ℕ) (bs : List ℕ) (pieces : List Piece) (shape : List ℕ) → lengths s.layout ≡ lengths to → c < blocks to → bs ≡ index_at (counts to) c
    → pieces ≡ plan s.layout to c → shape ≡ lengths_at to bs → assembled s pieces shape ≡ rechunk_task s to bs
planned-task s to c bs pieces shape e h at planned same =
    ap (λ ps. assembled s ps shape) planned ∙ ap (assembled s (plan s.layout to c)) (same ∙ ap (lengths_at to) at) ∙ assembled-plan s to c e h ∙ ap (rechunk_task s to) (sym at)
