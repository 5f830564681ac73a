-- An expression grows by a node.
use Rattle.std.proofs.Common.{◌≡◌, ℕ, zero, suc, ◌+◌, ◌<◌, List, [], ◌∷◌, ◌++◌, length, take, Some, refl, sym, subst, ◌∙◌, arith, inl, inr, length-append}
use Rattle.std.specs.Prelude.{slice_get}
use Rattle.std.proofs.lemmas.Option.{slice_get_within}
use Rattle.std.proofs.lemmas.List.{take-append-le}
use Rattle.std.proofs.Math.Seq.{take-append_seam}
use Rattle.std.proofs.lemmas.Bool.{cases_lt}
use Rattle.array_expr.specs.declared.expr.Node.{Node}
use Rattle.array_expr.specs.Node.{IsNode, IsExpression}

pub slice_get-front : {A : Type 0} (xs ys : List A) (k : ℕ) → k < length xs → slice_get (xs ++ ys) k ≡ slice_get xs k
slice_get-front [] ys k h = absurd (omega arith)
slice_get-front (x ∷ xs) ys zero h = refl
slice_get-front (x ∷ xs) ys (suc k) h = slice_get-front xs ys k (omega arith)

pub slice_get-end : {A : Type 0} (xs : List A) (x : A) → slice_get (xs ++ x ∷ []) (length xs) ≡ Some x
slice_get-end [] x = refl
slice_get-end (y ∷ xs) x = slice_get-end xs x

pub expression-more : (nodes : List Node) (node : Node) → IsExpression nodes → length nodes < 65536 → IsNode nodes node → IsExpression (nodes ++ node ∷ [])
expression-more nodes node e room fits = record {
  count = omega (arith, length-append nodes (node ∷ []));
  each = λ k x is. elim (cases_lt k (length nodes)) [
    | inl h ↦ rw (take-append-le k nodes (node ∷ []) (omega arith)) (e.each k x (sym (slice_get-front nodes (node ∷ []) k h) ∙ is))
    | inr h ↦
        let b : k < length (nodes ++ node ∷ []) = slice_get_within (nodes ++ node ∷ []) k x is in
        let at : k ≡ length nodes = omega (arith, length-append nodes (node ∷ [])) in
        let same : node ≡ x = cc (slice_get-end nodes node, is, at) in
        subst (λ j. IsNode (take j (nodes ++ node ∷ [])) x) (sym at) (rw (take-append_seam nodes (node ∷ [])) (subst (IsNode nodes) same fits))
  ];
}
