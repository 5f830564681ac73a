-- Marks, one after another.
use Rattle.std.proofs.Common.{◌≡◌, ◌≢◌, ℕ, zero, suc, ◌+◌, ◌-◌, ◌<◌, ◌≤◌, List, length, get_or, set, refl, ap, sym, ◌∙◌, inl, inr, arith, Option, Some, None, Bool, true, false, eqb}
use Rattle.std.specs.Prelude.{◌||◌, ◌&&◌, slice_get, All, Any, replicate}
use Rattle.std.specs.List.{list_any}
use Rattle.std.proofs.Math.Bool.{or-false, or-true, or_assoc}
use Rattle.std.proofs.lemmas.Bool.{eqb-true, eq-eqb, or_cases, cases_order, false≢true}
use Rattle.std.proofs.lemmas.Bool.Decides.{eqb_tells}
use Rattle.std.proofs.lemmas.List.{get_or-set_other}
use Rattle.std.proofs.lemmas.Grind.{get_or-set_at, get_or_default_zero}
use Rattle.std.proofs.lemmas.List.Folds.{Any-from_list_any, list_any_at}
use Rattle.std.proofs.lemmas.Option.{slice_get_within}
use Rattle.small_facts.proofs.Truth.{and_first, and_second}
use Rattle.array_expr.specs.declared.expr.Node.{Node}
use Rattle.array_expr.specs.declared.op.Op.{Op}
use Rattle.array_expr.specs.declared.op.Op.TheVariants.{Input, Full, Ramp, Negate, Elementwise, Where, Slice, Transpose, Rechunk, Concatenate, Reduce, Tensordot}
use Rattle.array_expr.specs.Node.{NamesEarlier}
use Rattle.node_reach.specs.Marks.{Grows, HasOperands, Marks, marked}
use Rattle.node_reach.specs.Reach.{Reaches, is_operand}

-- ## One mark

mark-at : (marks : List Bool) (n k : ℕ) → n < length marks → get_or (set marks n true) k false ≡ (get_or marks k false || eqb n k)
mark-at marks n k h = elim (eqb_tells n k) [
  | inl same ↦ get_or-set_at marks n k true false (sym same.1) h ∙ sym (ap (λ b. get_or marks k false || b) same.0 ∙ or-true (get_or marks k false))
  | inr other ↦ get_or-set_other marks n k true false (λ e. other.1 (sym e)) ∙ sym (ap (λ b. get_or marks k false || b) other.0 ∙ or-false (get_or marks k false))
]

pub marks-one : (marks new : List Bool) (n at : ℕ) → at ≡ n → new ≡ set marks at true → length new ≡ length marks → n < length marks → Marks (λ k. eqb n k) marks new
marks-one marks new n at is_at is_new count h = record {
  count = count;
  each = λ k. ap (λ xs. get_or xs k false) (is_new ∙ ap (λ i. set marks i true) is_at) ∙ mark-at marks n k h;
}

pub marks-none : (named : ℕ → Bool) (marks : List Bool) → ((k : ℕ) → named k ≡ false) → Marks named marks marks
marks-none named marks none = record { count = refl; each = λ k. sym (ap (λ b. marked marks k || b) (none k) ∙ or-false (marked marks k)) }

pub marks-two : (a b : ℕ → Bool) (old mid new : List Bool) → Marks a old mid → Marks b mid new → Marks (λ k. a k || b k) old new
marks-two a b old mid new first second = record {
  count = second.count ∙ first.count;
  each = λ k. second.each k ∙ (ap (λ x. x || b k) (first.each k) ∙ or_assoc (marked old k) (a k) (b k));
}

pub marks-same : (a b : ℕ → Bool) (old new : List Bool) → ((k : ℕ) → a k ≡ b k) → Marks a old new → Marks b old new
marks-same a b old new same m = record { count = m.count; each = λ k. m.each k ∙ ap (λ x. marked old k || x) (same k) }

-- ## Operands come earlier

any-below : (of : List ℕ) (n k : ℕ) → All (λ j. j < n) of → Any (λ j. eqb j k ≡ true) of → k < n
any-below of n k all any = omega (arith, all any.0 any.1 any.2, any.3, eqb-true any.1 k any.4)

same-below : (of n k : ℕ) → of < n → eqb of k ≡ true → k < n
same-below of n k h e = omega (arith, h, eqb-true of k e)

two-below : (a b n k : ℕ) → a < n → b < n → (eqb a k || eqb b k) ≡ true → k < n
two-below a b n k ha hb e = elim (or_cases (eqb a k) (eqb b k) e) [ inl x ↦ same-below a n k ha x | inr y ↦ same-below b n k hb y ]

three-below : (a b c n k : ℕ) → a < n → b < n → c < n → (eqb a k || (eqb b k || eqb c k)) ≡ true → k < n
three-below a b c n k ha hb hc e = elim (or_cases (eqb a k) (eqb b k || eqb c k) e) [ inl x ↦ same-below a n k ha x | inr y ↦ two-below b c n k hb hc y ]

pub operand-below : (op : Op) (n k : ℕ) → NamesEarlier op n → is_operand op k ≡ true → k < n
operand-below (Input dims chunks) n k names e = absurd (false≢true e)
operand-below (Full dims value chunks) n k names e = absurd (false≢true e)
operand-below (Ramp dims start step chunks) n k names e = absurd (false≢true e)
operand-below (Negate of) n k names e = same-below of n k names e
operand-below (Elementwise op left right) n k names e = two-below left right n k names.0 names.1 e
operand-below (Where condition first second) n k names e = three-below condition first second n k names.0 names.1 names.2 e
operand-below (Slice of parts) n k names e = same-below of n k names e
operand-below (Transpose of axes) n k names e = same-below of n k names e
operand-below (Rechunk of chunks) n k names e = same-below of n k names e
operand-below (Concatenate of axis) n k names e = any-below of n k names (Any-from_list_any (λ j. eqb j k) of e)
operand-below (Reduce fold of axes split) n k names e = same-below of n k names e
operand-below (Tensordot left right left_axes right_axes) n k names e = two-below left right n k names.0 names.1 e

all-more : (of : List ℕ) (a b : ℕ) → a ≤ b → All (λ j. j < a) of → All (λ j. j < b) of
all-more of a b h all = λ i d within. omega (arith, h, all i d within)

pub names-more : (op : Op) (a b : ℕ) → a ≤ b → NamesEarlier op a → NamesEarlier op b
names-more (Input dims chunks) a b h names = tt
names-more (Full dims value chunks) a b h names = tt
names-more (Ramp dims start step chunks) a b h names = tt
names-more (Negate of) a b h names = omega (arith, h, names)
names-more (Elementwise op left right) a b h names = (omega (arith, h, names.0), omega (arith, h, names.1))
names-more (Where condition first second) a b h names = (omega (arith, h, names.0), omega (arith, h, names.1), omega (arith, h, names.2))
names-more (Slice of parts) a b h names = omega (arith, h, names)
names-more (Transpose of axes) a b h names = omega (arith, h, names)
names-more (Rechunk of chunks) a b h names = omega (arith, h, names)
names-more (Concatenate of axis) a b h names = all-more of a b h names
names-more (Reduce fold of axes split) a b h names = omega (arith, h, names)
names-more (Tensordot left right left_axes right_axes) a b h names = (omega (arith, h, names.0), omega (arith, h, names.1))

-- ## One node's operands

some-same : (a b : Node) → ◌≡◌ {A = Option Node} (Some a) (Some b) → a ≡ b
some-same a b e = ap (value a) e
  where
    value : Node → Option Node → Node
    value d None = d
    value d (Some x) = x

mark-kept : (named : ℕ → Bool) (old new : List Bool) (k : ℕ) → Marks named old new → marked old k ≡ true → marked new k ≡ true
mark-kept named old new k m e = m.each k ∙ ap (λ b. b || named k) e

pub operands-step : (nodes : List Node) (j : ℕ) (node : Node) (old new : List Bool) → slice_get nodes j ≡ Some node → NamesEarlier node.op j → Marks (λ k. marked old j && is_operand node.op k) old new →
    HasOperands nodes (j + 1) (marked old) → HasOperands nodes j (marked new)
operands-step nodes j node old new at names m has n k other from is in_new operand = elim (cases_order j n) [
  | inl same ↦
      let is_node : node ≡ other = some-same node other (sym at ∙ (ap (slice_get nodes) same ∙ is)) in
      let in_j : marked new j ≡ true = ap (marked new) same ∙ in_new in
      let was : marked old j ≡ true = elim (or_cases (marked old j) (marked old j && is_operand node.op j) (sym (m.each j) ∙ in_j)) [ inl e ↦ e | inr e ↦ and_first (marked old j) (is_operand node.op j) e ] in
      let named : is_operand node.op k ≡ true = ap (λ (x : Node). is_operand x.op k) is_node ∙ operand in
      m.each k ∙ (ap (λ b. marked old k || (b && is_operand node.op k)) was ∙ (ap (λ b. marked old k || b) named ∙ or-true (marked old k)))
  | inr either ↦ elim either [
    | inl below ↦ elim (or_cases (marked old n) (marked old j && is_operand node.op n) (sym (m.each n) ∙ in_new)) [
      | inl e ↦ mark-kept (λ i. marked old j && is_operand node.op i) old new k m (has n k other (omega (arith, below)) is e operand)
      | inr e ↦ absurd (omega (arith, below, operand-below node.op j n names (and_second (marked old j) (is_operand node.op n) e)))
    ]
    | inr above ↦ absurd (omega (arith, above, from))
  ]
]

pub grows-step : (nodes : List Node) (j : ℕ) (node : Node) (first old new : List Bool) → slice_get nodes j ≡ Some node → Marks (λ k. marked old j && is_operand node.op k) old new →
    Grows nodes first old → Grows nodes first new
grows-step nodes j node first old new at m grows = record {
  count = m.count ∙ grows.count;
  grown = λ k e. mark-kept (λ i. marked old j && is_operand node.op i) old new k m (grows.grown k e);
  least = λ set has in_set k e. elim (or_cases (marked old k) (marked old j && is_operand node.op k) (sym (m.each k) ∙ e)) [
    | inl was ↦ grows.least set has in_set k was
    | inr both ↦ has j k node (omega arith) at (grows.least set has in_set j (and_first (marked old j) (is_operand node.op k) both)) (and_second (marked old j) (is_operand node.op k) both)
  ];
}

pub grows-none : (nodes : List Node) (marks : List Bool) → Grows nodes marks marks
grows-none nodes marks = record { count = refl; grown = λ k e. e; least = λ set has in_set k e. in_set k e }

-- behind the last node there is nothing
pub operands-none : (nodes : List Node) (from : ℕ) (set : ℕ → Bool) → length nodes ≤ from → HasOperands nodes from set
operands-none nodes from set h n k node le is in_set operand = absurd (omega (arith, h, le, slice_get_within nodes n node is))

-- ## The roots and all that they reach

none-marked : (n k : ℕ) → marked (replicate n false) k ≡ false
none-marked zero k = refl
none-marked (suc n) zero = refl
none-marked (suc n) (suc k) = none-marked n k

root-in : (roots : List ℕ) (set : ℕ → Bool) → ((i : ℕ) → i < length roots → set (get_or roots i 0) ≡ true) → (k : ℕ) → Any (λ j. eqb j k ≡ true) roots → set k ≡ true
root-in roots set in_set k any =
    let e : k ≡ get_or roots any.0 0 = sym (eqb-true any.1 k any.4) ∙ (sym any.3 ∙ get_or_default_zero roots any.0 any.1 any.2) in
    ap set e ∙ in_set any.0 any.2

rooted : (roots : List ℕ) (count k : ℕ) (marks first : List Bool) → first ≡ replicate count false → Marks (λ k. list_any (λ j. eqb j k) roots) first marks → marked marks k ≡ list_any (λ j. eqb j k) roots
rooted roots count k marks first is m = m.each k ∙ ap (λ b. b || list_any (λ j. eqb j k) roots) (ap (λ xs. marked xs k) is ∙ none-marked count k)

pub marked-reaches : (nodes : List Node) (roots : List ℕ) (count : ℕ) (first old new : List Bool) → first ≡ replicate count false → Marks (λ k. list_any (λ j. eqb j k) roots) first old → Grows nodes old new →
    (n : ℕ) → marked new n ≡ true → Reaches nodes roots n
marked-reaches nodes roots count first old new is m grows n e = λ set closed.
    grows.least set (λ i k node from at in_set operand. closed.operands i k node at in_set operand)
    (λ k was. root-in roots set closed.roots_in k (Any-from_list_any (λ j. eqb j k) roots (sym (rooted roots count k old first is m) ∙ was))) n e

pub reaches-marked : (nodes : List Node) (roots : List ℕ) (count : ℕ) (first old new : List Bool) → first ≡ replicate count false → Marks (λ k. list_any (λ j. eqb j k) roots) first old → Grows nodes old new →
    HasOperands nodes 0 (marked new) → (n : ℕ) → Reaches nodes roots n → marked new n ≡ true
reaches-marked nodes roots count first old new is m grows has n reaches = reaches (marked new) (record {
  roots_in = λ k h. grows.grown (get_or roots k 0) (rooted roots count (get_or roots k 0) old first is m ∙ list_any_at (λ j. eqb j (get_or roots k 0)) roots k 0 h (eq-eqb (get_or roots k 0) (get_or roots k 0) refl));
  operands = λ i k node at in_new operand. has i k node (omega arith) at in_new operand;
})
