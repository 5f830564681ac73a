-- Regions that are widened by what elements use of the operands of a concatenation.
use Rattle.std.proofs.Common.{◌≡◌, ◌≢◌, ℕ, zero, suc, ◌+◌, ◌-◌, ◌<◌, ◌≤◌, ◌^◌, min, max, List, [], ◌∷◌, ◌++◌, length, get_or, set, take, map, ap, sym, subst, ◌∙◌, arith, inl, inr, ◌⊎◌, Option}
use Rattle.std.proofs.lemmas.List.{get_or-set_same, get_or-set_other, set-set, length-set, get_or-map, length-map, take_more, map-append, get_or_default}
use Rattle.std.proofs.lemmas.Bool.{cases_eq}
use Rattle.nd_shape.specs.Region.{Box}
use Rattle.nd_shape.specs.Index.{IsIn}
use Rattle.nd_shape.proofs.Places.{IsIn-length}
use Rattle.nd_shape.proofs.Axes.{IsIn-at, IsIn-from}
use Rattle.array_expr.specs.declared.expr.Node.{Node}
use Rattle.array_expr.specs.Node.{shape_at, first_shape, joined, length_on_axis}
use Rattle.input_regions.specs.Needed.{region_at}
use Rattle.input_regions.specs.Uses.{IsInBranch, IsInBranches, before_operand}
use Rattle.input_regions.specs.Widening.{Widens, AreFull, CanAskAll, CanHave, IsEither, IsFromTo, IsUsed, IsJoinedRange}
use Rattle.input_regions.proofs.Between.{AreBetween, between-set, from-between, from-to-first, from-to-low, from-to-high, from-to-set}
use Rattle.input_regions.proofs.Widened.{widens-between, widens-same, widens-two, widens-none, shape-limits, can-have}

-- ---- lengths along the axis

along-append : (axis : ℕ) (xs : List (List ℕ)) (n : List ℕ) → length_on_axis axis (xs ++ n ∷ []) ≡ length_on_axis axis xs + get_or n axis 0
along-append axis [] n = omega arith
along-append axis (x ∷ xs) n = omega (arith, along-append axis xs n)

pub before-next : (shape : ℕ → List ℕ) (axis : ℕ) (of : List ℕ) (branch node : ℕ) → branch < length of → get_or of branch node ≡ node → before_operand shape axis of (branch + 1) ≡ before_operand shape axis of branch + get_or (shape node) axis 0
before-next shape axis of branch node h e =
    ap (λ xs. length_on_axis axis (map shape xs)) (take_more of branch node h) ∙ ap (length_on_axis axis) (map-append shape (take branch of) (get_or of branch node ∷ []))
    ∙ along-append axis (map shape (take branch of)) (shape (get_or of branch node)) ∙ ap (λ n. before_operand shape axis of branch + get_or (shape n) axis 0) e

along-front : (axis n : ℕ) (shape : ℕ → List ℕ) (of : List ℕ) → length_on_axis axis (map shape (take n of)) ≤ length_on_axis axis (map shape of)
along-front axis zero shape of = omega arith
along-front axis (suc n) shape [] = omega arith
along-front axis (suc n) shape (x ∷ of) = omega (arith, along-front axis n shape of)

pub before-limit : (shape : ℕ → List ℕ) (axis : ℕ) (of : List ℕ) (branch : ℕ) → before_operand shape axis of branch ≤ length_on_axis axis (map shape of)
before-limit shape axis of branch = along-front axis branch shape of

-- ---- the index in an operand

first-length : (nodes : List Node) (of : List ℕ) (axis : ℕ) (first last i : List ℕ) → IsJoinedRange nodes of axis first last → IsFromTo first last i → length i ≡ length (first_shape (map (shape_at nodes) of))
first-length nodes of axis first last i r f =
    let shapes = map (shape_at nodes) of in
    IsIn-length (joined (map (shape_at nodes) of) axis) i (r.inside i f) ∙ length-set (first_shape shapes) axis (length_on_axis axis shapes)

pub axis-inside : (nodes : List Node) (of : List ℕ) (axis : ℕ) (first last i : List ℕ) → IsJoinedRange nodes of axis first last → IsFromTo first last i → axis < length i
axis-inside nodes of axis first last i r f = omega (arith, first-length nodes of axis first last i r f, r.joinable.there)

pub axis-small : (nodes : List Node) (of : List ℕ) (axis : ℕ) (first last i : List ℕ) → IsJoinedRange nodes of axis first last → IsFromTo first last i → get_or i axis 0 < length_on_axis axis (map (shape_at nodes) of)
axis-small nodes of axis first last i r f =
    let shapes = map (shape_at nodes) of in
    let l = IsIn-at (joined (map (shape_at nodes) of) axis) i axis (r.inside i f) (omega (arith, length-set (first_shape shapes) axis (length_on_axis axis shapes), r.joinable.there)) in
    omega (arith, l, get_or-set_same (first_shape shapes) axis (length_on_axis axis shapes) 0 r.joinable.there)

operand-shape : (nodes : List Node) (of : List ℕ) (branch k : ℕ) → branch < length of → k ≡ get_or of branch 0 → get_or (map (shape_at nodes) of) branch [] ≡ shape_at nodes k
operand-shape nodes of branch k h e = get_or-map (shape_at nodes) of branch 0 [] h ∙ ap (shape_at nodes) (sym e)

pub operand-axes : (nodes : List Node) (of : List ℕ) (axis branch k : ℕ) (first last i : List ℕ) → IsJoinedRange nodes of axis first last → IsFromTo first last i → branch < length of → k ≡ get_or of branch 0 → length (shape_at nodes k) ≡ length i
operand-axes nodes of axis branch k first last i r f h e =
    sym (ap length (operand-shape nodes of branch k h e)) ∙ r.joinable.axes branch [] (omega (arith, length-map of (shape_at nodes))) ∙ sym (first-length nodes of axis first last i r f)

pub branch-in : (nodes : List Node) (of : List ℕ) (axis branch : ℕ) (first last : List ℕ) → IsJoinedRange nodes of axis first last → branch < length of → (k : ℕ) (j : List ℕ) → IsUsed first last (IsInBranch (shape_at nodes) axis of branch) k j → IsIn (shape_at nodes k) j
branch-in nodes of axis branch first last r h k j u = subst (IsIn (shape_at nodes k)) (sym u.is.same) (IsIn-from (shape_at nodes k) (set u.index axis (get_or u.index axis 0 - before_operand (shape_at nodes) axis of branch)) lengths (λ a b. at a b (cases_eq a axis)))
  where
    lengths : length (set u.index axis (get_or u.index axis 0 - before_operand (shape_at nodes) axis of branch)) ≡ length (shape_at nodes k)
    lengths = length-set u.index axis (get_or u.index axis 0 - before_operand (shape_at nodes) axis of branch) ∙ sym (operand-axes nodes of axis branch k first last u.index r u.inside h u.is.operand)

    at : (a : ℕ) → a < length (shape_at nodes k) → (a ≡ axis) ⊎ (a ≢ axis) → get_or (set u.index axis (get_or u.index axis 0 - before_operand (shape_at nodes) axis of branch)) a 0 < get_or (shape_at nodes k) a 0
    at a b (inl e) =
        let p = axis-inside nodes of axis first last u.index r u.inside in
        subst (λ m. get_or (set u.index axis (get_or u.index axis 0 - before_operand (shape_at nodes) axis of branch)) m 0 < get_or (shape_at nodes k) m 0) (sym e)
        (omega (arith, get_or-set_same u.index axis (get_or u.index axis 0 - before_operand (shape_at nodes) axis of branch) 0 p, u.is.low, u.is.high))
    at a b (inr ne) =
        let shapes = map (shape_at nodes) of in
        let whole = length_on_axis axis (map (shape_at nodes) of) in
        let there : a < length (first_shape (map (shape_at nodes) of)) = omega (arith, b, operand-axes nodes of axis branch k first last u.index r u.inside h u.is.operand, first-length nodes of axis first last u.index r u.inside) in
        let below = IsIn-at (joined (map (shape_at nodes) of) axis) u.index a (r.inside u.index u.inside) (omega (arith, there, length-set (first_shape shapes) axis whole)) in
        let mine : get_or (shape_at nodes k) a 0 ≡ get_or (first_shape (map (shape_at nodes) of)) a 0 =
        subst (λ ns. get_or ns a 0 ≡ get_or (first_shape (map (shape_at nodes) of)) a 0) (operand-shape nodes of branch k h u.is.operand) (r.joinable.others a ne branch [] (omega (arith, length-map of (shape_at nodes)))) in
        omega (arith, get_or-set_other u.index axis a (get_or u.index axis 0 - before_operand (shape_at nodes) axis of branch) 0 ne, below, get_or-set_other (first_shape shapes) axis a whole 0 ne, mine)

-- ---- one operand

module _ (nodes : List Node) (of : List ℕ) (axis branch node before len start end : ℕ) (first last : List ℕ) (r : IsJoinedRange nodes of axis first last) (o : IsFromTo first last last) (there : branch < length of)
    (node_is : node ≡ get_or of branch 0) (before_is : before ≡ before_operand (shape_at nodes) axis of branch) (len_is : len ≡ get_or (shape_at nodes node) axis 0)
    (start_is : start ≡ max (get_or first axis 0) before) (end_is : end ≡ min (get_or last axis 0 + 1) (before + len)) where
  bounds : (k : ℕ) (j : List ℕ) (u : IsUsed first last (IsInBranch (shape_at nodes) axis of branch) k j) → (start ≤ get_or u.index axis 0) × (get_or u.index axis 0 < end)
  bounds k j u =
      let same : get_or (shape_at nodes k) axis 0 ≡ len = ap (λ n. get_or (shape_at nodes n) axis 0) (u.is.operand ∙ sym node_is) ∙ sym len_is in (
        omega (arith, u.is.low, before_is, start_is, from-to-low first last u.index axis u.inside),
        omega (arith, u.is.high, before_is, end_is, same, from-to-high first last u.index axis u.inside),
      )

  pub branch-none : (old : List (Option Box)) → AreFull old → end ≤ start → Widens (IsUsed first last (IsInBranch (shape_at nodes) axis of branch)) old old
  branch-none old f h = widens-none (IsUsed first last (IsInBranch (shape_at nodes) axis of branch)) old f (λ k j u. let b = bounds k j u in absurd (omega (arith, b.0, b.1, h)))

  pub element : (x : ℕ) (i : List ℕ) → IsFromTo first last i → start ≤ x → x < end → IsUsed first last (IsInBranch (shape_at nodes) axis of branch) node (set i axis (x - before))
  element x i f l h =
      let there : axis < length i = axis-inside nodes of axis first last i r f in
      let at : get_or (set i axis x) axis 0 ≡ x = get_or-set_same i axis x 0 there in
      record {
        index = set i axis x;
        inside = from-to-set axis x first last i (omega (arith, l, start_is)) (omega (arith, h, end_is)) f;
        is = record {
          operand = node_is;
          low = omega (arith, at, l, start_is, before_is);
          high = omega (arith, at, h, end_is, before_is, len_is);
          same = sym (ap (λ y. set (set i axis x) axis (y - before_operand (shape_at nodes) axis of branch)) at ∙ ap (λ b. set (set i axis x) axis (x - b)) (sym before_is) ∙ set-set i axis x (x - before));
        };
      }

  pub branch-used : (low high : List ℕ) (old new : List (Option Box)) → start < end → low ≡ set first axis (start - before) → high ≡ set last axis (end - 1 - before) → Widens (IsEither node low high) old new
      → Widens (IsUsed first last (IsInBranch (shape_at nodes) axis of branch)) old new
  branch-used low high old new h el eh w =
      widens-between node (set first axis (start - before)) (set last axis (end - 1 - before)) (IsUsed first last (IsInBranch (shape_at nodes) axis of branch)) old new
      (subst (λ x. Widens (IsEither node (set first axis (start - before)) x) old new) eh (subst (λ x. Widens (IsEither node x high) old new) el w))
      (element start first (from-to-first first last last o) (omega arith) h)
      (element (end - 1) last o (omega (arith, h)) (omega (arith, h)))
      between
    where
      between : (k : ℕ) (j : List ℕ) → IsUsed first last (IsInBranch (shape_at nodes) axis of branch) k j → (k ≡ node) × AreBetween (set first axis (start - before)) (set last axis (end - 1 - before)) j
      between k j u =
          let b = bounds k j u in (
            u.is.operand ∙ sym node_is,
            subst (AreBetween (set first axis (start - before)) (set last axis (end - 1 - before))) (sym u.is.same)
                (between-set axis (start - before) (end - 1 - before) (get_or u.index axis 0 - before_operand (shape_at nodes) axis of branch) first last u.index
                (inl (omega (arith, b.0, before_is), omega (arith, b.1, before_is))) (from-between first last u.index u.inside)),
          )

-- ---- all operands

pub branches-none : (shape : ℕ → List ℕ) (axis : ℕ) (of first last : List ℕ) (old : List (Option Box)) → AreFull old → Widens (IsUsed first last (IsInBranches shape axis of 0)) old old
branches-none shape axis of first last old f = widens-none (IsUsed first last (IsInBranches shape axis of 0)) old f (λ k j u. absurd (omega (arith, u.is.there)))

pub branches-more : (shape : ℕ → List ℕ) (axis : ℕ) (of : List ℕ) (count : ℕ) (first last : List ℕ) (old mid new : List (Option Box)) → Widens (IsUsed first last (IsInBranches shape axis of count)) old mid → Widens (IsUsed first last (IsInBranch shape axis of count)) mid new
    → Widens (IsUsed first last (IsInBranches shape axis of (count + 1))) old new
branches-more shape axis of count first last old mid new v w =
    widens-same (λ k j. IsUsed first last (IsInBranches shape axis of count) k j ⊎ IsUsed first last (IsInBranch shape axis of count) k j) (IsUsed first last (IsInBranches shape axis of (count + 1))) old new there back
    (widens-two (IsUsed first last (IsInBranches shape axis of count)) (IsUsed first last (IsInBranch shape axis of count)) old mid new v w)
  where
    there : (k : ℕ) (j : List ℕ) → IsUsed first last (IsInBranches shape axis of count) k j ⊎ IsUsed first last (IsInBranch shape axis of count) k j → IsUsed first last (IsInBranches shape axis of (count + 1)) k j
    there k j (inl u) = record { index = u.index; inside = u.inside; is = record { branch = u.is.branch; there = omega (arith, u.is.there); is = u.is.is } }
    there k j (inr u) = record { index = u.index; inside = u.inside; is = record { branch = count; there = omega arith; is = u.is } }

    back : (k : ℕ) (j : List ℕ) → IsUsed first last (IsInBranches shape axis of (count + 1)) k j → IsUsed first last (IsInBranches shape axis of count) k j ⊎ IsUsed first last (IsInBranch shape axis of count) k j
    back k j u = by (cases_eq u.is.branch count)
      where
        by : (u.is.branch ≡ count) ⊎ (u.is.branch ≢ count) → IsUsed first last (IsInBranches shape axis of count) k j ⊎ IsUsed first last (IsInBranch shape axis of count) k j
        by (inl e) = inr (record { index = u.index; inside = u.inside; is = subst (λ b. IsInBranch shape axis of b u.index k j) e u.is.is })
        by (inr ne) = inl (record { index = u.index; inside = u.inside; is = record { branch = u.is.branch; there = omega (arith, u.is.there, ne); is = u.is.is } })

-- ---- what one operand's numbers are

pub record BranchFacts (nodes : List Node) (of : List ℕ) (axis branch node : ℕ) (first last : List ℕ) : Type 0 where
  pub is : node ≡ get_or of branch 0
  pub here : node < length nodes
  pub axis_first : axis < length first
  pub axis_last : axis < length last
  pub few_first : length first ≤ 8
  pub few_last : length last ≤ 8
  pub dims : axis < length (shape_at nodes node)
  pub small : get_or last axis 0 < 2 ^ 31
  pub sum : before_operand (shape_at nodes) axis of branch + get_or (shape_at nodes node) axis 0 ≤ 2 ^ 31

pub branch-facts : (nodes : List Node) (regions : List (Option Box)) (of : List ℕ) (axis branch node : ℕ) (first last : List ℕ) → CanAskAll nodes regions of → IsJoinedRange nodes of axis first last → IsFromTo first last last → branch < length of → node ≡ get_or of branch node
    → BranchFacts nodes of axis branch node first last
branch-facts nodes regions of axis branch node first last c r o h e =
    let f = from-to-first first last last o in
    let is : node ≡ get_or of branch 0 = e ∙ get_or_default of branch node 0 h in
    let here : node < length nodes = subst (λ n. n < length nodes) (sym is) (c.there branch 0 h) in
    let limits = shape-limits nodes node c.sound here in
    let l = operand-axes nodes of axis branch node first last first r f h is in
    let m = operand-axes nodes of axis branch node first last last r o h is in
    let x = axis-inside nodes of axis first last first r f in
    let y = axis-inside nodes of axis first last last r o in
    let n = before-next (shape_at nodes) axis of branch node h (sym e) in
    record {
      is = is;
      here = here;
      axis_first = x;
      axis_last = y;
      few_first = omega (arith, l, limits.axes);
      few_last = omega (arith, m, limits.axes);
      dims = omega (arith, l, x);
      small = omega (arith, axis-small nodes of axis first last last r o, r.limit);
      sum = omega (arith, n, before-limit (shape_at nodes) axis of (branch + 1), r.limit);
    }

pub node-have : (nodes : List Node) (regions : List (Option Box)) (of : List ℕ) (axis branch node : ℕ) (first last i : List ℕ) → CanAskAll nodes regions of → IsJoinedRange nodes of axis first last → branch < length of → node ≡ get_or of branch 0
    → IsUsed first last (IsInBranch (shape_at nodes) axis of branch) node i → CanHave (region_at regions node) i
node-have nodes regions of axis branch node first last i c r h e u =
    let here : node < length nodes = subst (λ n. n < length nodes) (sym e) (c.there branch 0 h) in
    can-have nodes regions node i (shape-limits nodes node c.sound here) c.fit (branch-in nodes of axis branch first last r h node i u)
