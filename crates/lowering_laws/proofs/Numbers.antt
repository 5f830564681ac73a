-- The numbers of a list of nodes fit, node by node.
use Rattle.std.proofs.Common.{◌≡◌, ℕ, zero, suc, ◌+◌, ◌<◌, List, [], ◌∷◌, length, take, get_or, subst, ◌∙◌, arith, Some, None}
use Rattle.std.specs.Prelude.{slice_get, Option}
use Rattle.array_expr.specs.declared.expr.Node.{Node}
use Rattle.lowering_laws.specs.Built.{IsBuilt, AreBuilt}

same-node : (x y : Node) → ◌≡◌ {A = Option Node} (Some x) (Some y) → x ≡ y
same-node x y h = cc

no-node : (x : Node) → ◌≡◌ {A = Option Node} None (Some x) → ⊥
no-node x h = cc

each-more : (nodes : List Node) (i : ℕ) (x : Node) → x ≡ get_or nodes i x → i < length nodes → IsBuilt x.op → ((k : ℕ) (node : Node) → slice_get (take i nodes) k ≡ Some node → IsBuilt node.op)
    → (k : ℕ) (node : Node) → slice_get (take (suc i) nodes) k ≡ Some node → IsBuilt node.op
each-more [] i x e lt b h k node g = absurd (omega arith)
each-more (y ∷ ys) zero x e lt b h zero node g = subst (λ (n : Node). IsBuilt n.op) (e ∙ same-node y node g) b
each-more (y ∷ ys) zero x e lt b h (suc k) node g = absurd (no-node node g)
each-more (y ∷ ys) (suc i) x e lt b h zero node g = h zero node g
each-more (y ∷ ys) (suc i) x e lt b h (suc k) node g = each-more ys i x e (omega arith) b (λ j n f. h (suc j) n f) k node g

pub built-more : (nodes : List Node) (i : ℕ) (x : Node) → x ≡ get_or nodes i x → i < length nodes → IsBuilt x.op → AreBuilt (take i nodes) → AreBuilt (take (i + 1) nodes)
built-more nodes i x e lt b h =
    let z : suc i ≡ i + 1 = omega arith in
    subst (λ k. AreBuilt (take k nodes)) z (record { each = each-more nodes i x e lt b h.each })
