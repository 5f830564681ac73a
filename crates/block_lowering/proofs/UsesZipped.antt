-- Keys and shapes beside one another, and what is read of them.
use Rattle.std.proofs.Common.{◌≡◌, ℕ, ◌+◌, ◌<◌, List, [], ◌∷◌, ◌++◌, length, map, take, get_or, refl, ap, sym, arith, ◌∙◌}
use Rattle.std.proofs.lemmas.List.{map_more}
use Rattle.lowering_laws.specs.Stages.{Use, keys_used, shapes_used, deps_of_uses}
use Rattle.task_graph.specs.Orders.{ascending, position}
use Rattle.block_lowering.specs.Using.{zipped, AreGathered}

pub keys-zipped : (keys : List ℕ) (shapes : List (List ℕ)) → length keys ≡ length shapes → keys_used (zipped keys shapes) ≡ keys
keys-zipped [] shapes h = refl
keys-zipped (k ∷ keys) [] h = absurd (omega arith)
keys-zipped (k ∷ keys) (shape ∷ shapes) h = ap (λ ks. k ∷ ks) (keys-zipped keys shapes (omega arith))

pub shapes-zipped : (keys : List ℕ) (shapes : List (List ℕ)) → length keys ≡ length shapes → shapes_used (zipped keys shapes) ≡ shapes
shapes-zipped [] [] h = refl
shapes-zipped [] (shape ∷ shapes) h = absurd (omega arith)
shapes-zipped (k ∷ keys) [] h = absurd (omega arith)
shapes-zipped (k ∷ keys) (shape ∷ shapes) h = ap (λ xs. shape ∷ xs) (shapes-zipped keys shapes (omega arith))

pub zipped-push : (keys : List ℕ) (shapes : List (List ℕ)) (k : ℕ) (shape : List ℕ) → length keys ≡ length shapes
    → zipped (keys ++ k ∷ []) (shapes ++ shape ∷ []) ≡ zipped keys shapes ++ record { key = k; shape = shape } ∷ []
zipped-push [] [] k shape h = refl
zipped-push [] (s ∷ shapes) k shape h = absurd (omega arith)
zipped-push (j ∷ keys) [] k shape h = absurd (omega arith)
zipped-push (j ∷ keys) (s ∷ shapes) k shape h = let u : Use = record { key = j; shape = s } in ap (λ us. u ∷ us) (zipped-push keys shapes k shape (omega arith))

-- what uses are of keys and shapes
pub keys-of : (keys : List ℕ) (shapes : List (List ℕ)) (uses : List Use) → length keys ≡ length shapes → zipped keys shapes ≡ uses → keys_used uses ≡ keys
keys-of keys shapes uses h e = ap keys_used (sym e) ∙ keys-zipped keys shapes h

pub shapes-of : (keys : List ℕ) (shapes : List (List ℕ)) (uses : List Use) → length keys ≡ length shapes → zipped keys shapes ≡ uses → shapes_used uses ≡ shapes
shapes-of keys shapes uses h e = ap shapes_used (sym e) ∙ shapes-zipped keys shapes h

pub deps-of : (keys : List ℕ) (shapes : List (List ℕ)) (deps : List ℕ) (uses : List Use) → AreGathered keys shapes deps → zipped keys shapes ≡ uses → deps ≡ deps_of_uses uses
deps-of keys shapes deps uses g e = g.deps_are ∙ ap ascending (sym (keys-of keys shapes uses g.same e))

-- the shape at a key's first place
pub shape-of : (keys : List ℕ) (shapes : List (List ℕ)) (uses : List Use) (key : ℕ) → length keys ≡ length shapes → zipped keys shapes ≡ uses
    → get_or shapes (position keys key) [] ≡ get_or (shapes_used uses) (position (keys_used uses) key) []
shape-of keys shapes uses key h e =
    ap (λ (xs : List (List ℕ)). get_or xs (position keys key) []) (sym (shapes-of keys shapes uses h e))
    ∙ ap (λ (ks : List ℕ). get_or (shapes_used uses) (position ks key) []) (sym (keys-of keys shapes uses h e))

-- shapes that are gathered by `push`
pub shapes-more : (f : ℕ → List ℕ) (keys : List ℕ) (own next : List (List ℕ)) (n : ℕ) (x : List ℕ) → n < length keys → next ≡ own ++ x ∷ [] → own ≡ map f (take n keys) → x ≡ f (get_or keys n 0)
    → next ≡ map f (take (n + 1) keys)
shapes-more f keys own next n x h e o s =
    e ∙ ap (λ (xs : List (List ℕ)). xs ++ x ∷ []) o ∙ ap (λ (y : List ℕ). map f (take n keys) ++ y ∷ []) s ∙ sym (map_more f keys n 0 h)
