-- The pass over the nodes, from the last to the first.
use Rattle.std.proofs.Common.{◌≡◌, ◌≢◌, ℕ, zero, suc, ◌+◌, ◌<◌, ◌≤◌, ◌^◌, List, [], ◌∷◌, ◌++◌, length, get_or, refl, ap, sym, subst, ◌∙◌, arith, inl, inr, ◌⊎◌, Option, Some, None}
use Rattle.std.specs.Prelude.{slice_get}
use Rattle.std.proofs.lemmas.List.{get_or_past, same_lists, get_or_default, length-take-le, get_or_append_left, get_or_push, length_push}
use Rattle.std.proofs.lemmas.Bool.{cases_eq, cases_lt}
use Rattle.std.proofs.lemmas.Option.{same_Some, slice_get_within, slice_get-get_or}
use Rattle.std.proofs.Math.Nat.{pos_of_ne-zero}
use Rattle.std.proofs.lemmas.Grind.{get_or_default_zero}
use Rattle.nd_shape.specs.declared.slice.Steps.{Steps}
use Rattle.nd_shape.specs.Region.{Box, IsPart}
use Rattle.array_expr.specs.declared.op.Op.{Op}
use Rattle.array_expr.specs.declared.op.Op.TheVariants.{Input, Full, Ramp, Negate, Elementwise, Where, Slice, Transpose, Rechunk, Concatenate, Reduce, Tensordot}
use Rattle.array_expr.specs.declared.expr.Node.{Node}
use Rattle.array_expr.specs.Node.{IsExpression, NamesEarlier, shape_at}
use Rattle.input_regions.specs.Boxes.{IsInBox, IsInRegion, IsLeast}
use Rattle.input_regions.specs.Uses.{IsAt, Uses}
use Rattle.input_regions.specs.Needed.{region_at, IsAsked, IsUsedFrom, AreNeeded}
use Rattle.input_regions.specs.Widening.{Widens, IsFull, AreFull, IsFilledPart, AreFit, IsFromTo, IsUsed, AsksOperands, AsksNode, IsUsedBy, IsLastOf, IsWhatIsAsked, IsAskedOf}
use Rattle.input_regions.proofs.Least.{least-same, least-more, full-least}
use Rattle.input_regions.proofs.Between.{from-to-low, from-to-high, from-to-lengths, from-to-all}
use Rattle.input_regions.proofs.Widened.{widens-same, widens-none, region-least, fit-full, shape-limits}

-- ---- a set has one least box

box-same : (a b : Box) → a.start ≡ b.start → a.lengths ≡ b.lengths → a ≡ b
box-same a b s l = ap (λ (x : List ℕ). record { start = x; lengths = a.lengths }) s ∙ ap (λ (x : List ℕ). record { start = b.start; lengths = x }) l

pub least-one : (P : List ℕ → Type 0) (a b : Option Box) → IsLeast P a → IsLeast P b → a ≡ b
least-one P None None l m = refl
least-one P None (Some b) l m = absurd (l m.some.0 m.some.1)
least-one P (Some a) None l m = absurd (m l.some.0 l.some.1)
least-one P (Some a) (Some b) l m = ap Some (box-same a b starts lengths)
  where
    number : length a.start ≡ length b.start
    number = sym (l.has l.some.0 l.some.1).axes ∙ (m.has l.some.0 l.some.1).axes

    first : (k : ℕ) → k < length a.start → get_or a.start k 0 ≡ get_or b.start k 0
    first k h =
        let x = l.first k h in
        let y = m.first k (omega (arith, number)) in
        omega (arith, x.2, y.2, (m.has x.0 x.1).low k (omega (arith, number)), (l.has y.0 y.1).low k h)

    last : (k : ℕ) → k < length a.start → get_or a.lengths k 0 ≡ get_or b.lengths k 0
    last k h =
        let x = l.last k h in
        let y = m.last k (omega (arith, number)) in
        omega (arith, first k h, x.2, y.2, (m.has x.0 x.1).high k (omega (arith, number)), (l.has y.0 y.1).high k h)

    starts : a.start ≡ b.start
    starts = same_lists a.start b.start number (λ k d h. get_or_default_zero a.start k d h ∙ first k h ∙ sym (get_or_default_zero b.start k d (omega (arith, number))))

    lengths : a.lengths ≡ b.lengths
    lengths = same_lists a.lengths b.lengths (l.sides ∙ number ∙ sym m.sides)
        (λ k d h. get_or_default_zero a.lengths k d h ∙ last k (omega (arith, l.sides)) ∙ sym (get_or_default_zero b.lengths k d (omega (arith, l.sides, number, m.sides))))

-- ---- a node uses earlier ones

at-below : (of n k : ℕ) (at j : List ℕ) → of < n → IsAt of at k j → k < n
at-below of n k at j h u = omega (arith, u.0)

pub uses-below : (op : Op) (taken : List Steps) (shape : ℕ → List ℕ) (i : List ℕ) (n k : ℕ) (j : List ℕ) → NamesEarlier op n → Uses op taken shape i k j → k < n
uses-below (Input dims chunks) taken shape i n k j names u = absurd u
uses-below (Full dims value chunks) taken shape i n k j names u = absurd u
uses-below (Ramp dims start step chunks) taken shape i n k j names u = absurd u
uses-below (Negate of) taken shape i n k j names u = omega (arith, u.0, names)
uses-below (Elementwise op left right) taken shape i n k j names (inl u) = omega (arith, u.0, names.0)
uses-below (Elementwise op left right) taken shape i n k j names (inr u) = omega (arith, u.0, names.1)
uses-below (Where condition first second) taken shape i n k j names (inl u) = omega (arith, u.0, names.0)
uses-below (Where condition first second) taken shape i n k j names (inr (inl u)) = omega (arith, u.0, names.1)
uses-below (Where condition first second) taken shape i n k j names (inr (inr u)) = omega (arith, u.0, names.2)
uses-below (Slice of parts) taken shape i n k j names u = omega (arith, u.0, names)
uses-below (Transpose of axes) taken shape i n k j names u = omega (arith, u.0, names)
uses-below (Rechunk of chunks) taken shape i n k j names u = omega (arith, u.0, names)
uses-below (Concatenate of axis) taken shape i n k j names u = omega (arith, u.is.operand, names u.branch 0 u.there)
uses-below (Reduce fold of axes split) taken shape i n k j names u = omega (arith, u.operand, names)
uses-below (Tensordot left right left_axes right_axes) taken shape i n k j names (inl u) = omega (arith, u.operand, names.0)
uses-below (Tensordot left right left_axes right_axes) taken shape i n k j names (inr u) = omega (arith, u.operand, names.1)

-- ---- a region by its first and its last index

pub box-from-to : (box : Box) (last i : List ℕ) → IsFull box → IsLastOf box last → IsFromTo box.start last i → IsInBox box i
box-from-to box last i f l h = record {
  axes = (from-to-lengths box.start last i h).1;
  low = λ a b. from-to-low box.start last i a h;
  high = λ a b. omega (arith, from-to-high box.start last i a h, l.each a b);
}

pub from-to-box : (box : Box) (last i : List ℕ) → IsLastOf box last → IsInBox box i → IsFromTo box.start last i
from-to-box box last i l h = from-to-all box.start last i l.axes h.axes (λ a b. (h.low a b, omega (arith, h.high a b, l.each a b)))

pub last-order : (box : Box) (last : List ℕ) → IsFull box → IsLastOf box last → IsFromTo box.start last last
last-order box last f l = from-to-all box.start last last l.axes l.axes (λ a b. (omega (arith, l.each a b, f.filled a b), omega arith))

pub asks-some : (nodes : List Node) (k : ℕ) (box : Box) (last : List ℕ) (old new : List (Option Box)) → region_at old k ≡ Some box → IsFull box → IsLastOf box last → AsksOperands nodes k box.start last old new → AsksNode nodes k old new
asks-some nodes k box last old new e f l a = record {
  each = λ node is.
      subst (λ r. Widens (IsUsedBy nodes r node) old new) (sym e)
      (widens-same (IsUsed box.start last (Uses node.op node.taken (shape_at nodes))) (IsUsedBy nodes (Some box) node) old new
      (λ m j u. record { index = u.index; inside = box-from-to box last u.index f l u.inside; uses = u.is })
      (λ m j u. record { index = u.index; inside = from-to-box box last u.index l u.inside; is = u.uses })
      (a.each node is));
}

pub asks-none : (nodes : List Node) (k : ℕ) (old : List (Option Box)) → region_at old k ≡ None → AreFull old → AsksNode nodes k old old
asks-none nodes k old e f = record {
  each = λ node is.
      subst (λ r. Widens (IsUsedBy nodes r node) old old) (sym e) (widens-none (IsUsedBy nodes None node) old f (λ m j u. u.inside));
}

-- ---- what is asked for

zero-cases : (ns : List ℕ) → ((a : ℕ) × (a < length ns) × (get_or ns a 0 ≡ 0)) ⊎ ((a : ℕ) → a < length ns → get_or ns a 0 ≡ 0 → ⊥)
zero-cases [] = inr (λ a h. absurd (omega arith))
zero-cases (zero ∷ ns) = inl (0, omega arith, refl)
zero-cases (suc n ∷ ns) = by (zero-cases ns)
  where
    by : ((a : ℕ) × (a < length ns) × (get_or ns a 0 ≡ 0)) ⊎ ((a : ℕ) → a < length ns → get_or ns a 0 ≡ 0 → ⊥) → ((a : ℕ) × (a < length (suc n ∷ ns)) × (get_or (suc n ∷ ns) a 0 ≡ 0)) ⊎ ((a : ℕ) → a < length (suc n ∷ ns) → get_or (suc n ∷ ns) a 0 ≡ 0 → ⊥)
    by (inl x) = inl (suc x.0, omega (arith, x.1), x.2)
    by (inr f) = inr none
      where
        none : (a : ℕ) → a < length (suc n ∷ ns) → get_or (suc n ∷ ns) a 0 ≡ 0 → ⊥
        none zero h e = absurd (omega (arith, e))
        none (suc a) h e = f a (omega (arith, h)) e

pub record IsAskedFrom (nodes : List Node) (n : ℕ) (box : Box) (regions : List (Option Box)) (from : ℕ) : Type 0 where
  pub count : length regions ≡ n + 1
  pub each : (k : ℕ) → k ≤ n → IsLeast (λ j. IsAsked n box k j ⊎ IsUsedFrom nodes regions from k j) (region_at regions k)

region-past : (regions : List (Option Box)) (k : ℕ) (j : List ℕ) → length regions ≤ k → IsInRegion (region_at regions k) j → ⊥
region-past regions k j h b = subst (λ r. IsInRegion r j) (get_or_past regions k None h) b

part-full : (box : Box) (dims : List ℕ) → IsPart box dims → ((a : ℕ) → a < length dims → get_or dims a 0 ≤ 2 ^ 31) → ((a : ℕ) → a < length box.lengths → get_or box.lengths a 0 ≡ 0 → ⊥) → IsFull box
part-full box dims p small f = record {
  sides = p.lengths ∙ sym p.starts;
  filled = λ a h. pos_of_ne-zero (f a (omega (arith, p.lengths, p.starts)));
  ends = λ a h. omega (arith, p.ends a (omega (arith, p.starts)), small a (omega (arith, p.starts)));
}

asked-one : (nodes : List Node) (n : ℕ) (box : Box) (regions : List (Option Box)) → IsPart box (shape_at nodes n) → IsExpression nodes → n < length nodes → length regions ≡ n + 1 → IsAskedOf box (region_at regions n)
    → IsLeast (λ j. IsAsked n box n j ⊎ IsUsedFrom nodes regions (n + 1) n j) (region_at regions n)
asked-one nodes n box regions p s h count a = by (zero-cases box.lengths)
  where
    late : (j : List ℕ) → IsUsedFrom nodes regions (n + 1) n j → ⊥
    late j u = region-past regions u.user u.index (omega (arith, count, u.later)) u.inside

    by : ((a : ℕ) × (a < length box.lengths) × (get_or box.lengths a 0 ≡ 0)) ⊎ ((a : ℕ) → a < length box.lengths → get_or box.lengths a 0 ≡ 0 → ⊥) → IsLeast (λ j. IsAsked n box n j ⊎ IsUsedFrom nodes regions (n + 1) n j) (region_at regions n)
    by (inl x) = subst (IsLeast (λ j. IsAsked n box n j ⊎ IsUsedFrom nodes regions (n + 1) n j)) (sym (a.empty x.0 x.1 x.2)) none
      where
        none : (j : List ℕ) → IsAsked n box n j ⊎ IsUsedFrom nodes regions (n + 1) n j → ⊥
        none j (inl q) = let k : x.0 < length box.start = omega (arith, x.1, p.starts, p.lengths) in absurd (omega (arith, q.1.low x.0 k, q.1.high x.0 k, x.2))
        none j (inr u) = late j u
    by (inr f) =
        subst (IsLeast (λ j. IsAsked n box n j ⊎ IsUsedFrom nodes regions (n + 1) n j)) (sym (a.filled f))
        (least-same (IsInBox box) (λ j. IsAsked n box n j ⊎ IsUsedFrom nodes regions (n + 1) n j) (Some box) (λ j b. inl (refl, b)) back
        (full-least box (part-full box (shape_at nodes n) p (λ a b. (shape-limits nodes n s h).lengths a 0 b) f)))
      where
        back : (j : List ℕ) → IsAsked n box n j ⊎ IsUsedFrom nodes regions (n + 1) n j → IsInBox box j
        back j (inl q) = q.1
        back j (inr u) = absurd (late j u)

pub first-asked : (nodes : List Node) (n : ℕ) (box : Box) (regions : List (Option Box)) → IsPart box (shape_at nodes n) → IsExpression nodes → n < length nodes → IsWhatIsAsked (n + 1) box regions → IsAskedFrom nodes n box regions (n + 1)
first-asked nodes n box regions p s h w = record { count = w.number; each = λ k b. each k b (cases_eq k n) }
  where
    each : (k : ℕ) → k ≤ n → (k ≡ n) ⊎ (k ≢ n) → IsLeast (λ j. IsAsked n box k j ⊎ IsUsedFrom nodes regions (n + 1) k j) (region_at regions k)
    each k b (inl e) = subst (λ m. IsLeast (λ j. IsAsked n box m j ⊎ IsUsedFrom nodes regions (n + 1) m j) (region_at regions m)) (sym e) (asked-one nodes n box regions p s h w.number (w.last n refl))
    each k b (inr ne) = subst (IsLeast (λ j. IsAsked n box k j ⊎ IsUsedFrom nodes regions (n + 1) k j)) (sym (w.others k (omega (arith, b, ne)))) none
      where
        none : (j : List ℕ) → IsAsked n box k j ⊎ IsUsedFrom nodes regions (n + 1) k j → ⊥
        none j (inl q) = ne q.0
        none j (inr u) = region-past regions u.user u.index (omega (arith, w.number, u.later)) u.inside

pub some-only : (a b : Box) → ◌≡◌ {A = Option Box} (Some a) (Some b) → a ≡ b
some-only a b e = same_Some a b e

pub some-none : (a : Box) → ◌≡◌ {A = Option Box} None (Some a) → ⊥
some-none a e = cc

pub first-fit : (nodes : List Node) (n : ℕ) (box : Box) (regions : List (Option Box)) → IsPart box (shape_at nodes n) → IsWhatIsAsked (n + 1) box regions → AreFit nodes regions
first-fit nodes n box regions p w = record { each = λ k b e. each k b e (cases_eq k n) }
  where
    here : (b : Box) → region_at regions n ≡ Some b → IsFilledPart (shape_at nodes n) b
    here b e = by (zero-cases box.lengths)
      where
        by : ((a : ℕ) × (a < length box.lengths) × (get_or box.lengths a 0 ≡ 0)) ⊎ ((a : ℕ) → a < length box.lengths → get_or box.lengths a 0 ≡ 0 → ⊥) → IsFilledPart (shape_at nodes n) b
        by (inl x) = absurd (some-none b (sym ((w.last n refl).empty x.0 x.1 x.2) ∙ e))
        by (inr f) = subst (IsFilledPart (shape_at nodes n)) (some-only box b (sym ((w.last n refl).filled f) ∙ e)) (record { part = p; filled = λ a h. pos_of_ne-zero (f a (omega (arith, p.lengths))) })

    each : (k : ℕ) (b : Box) → region_at regions k ≡ Some b → (k ≡ n) ⊎ (k ≢ n) → IsFilledPart (shape_at nodes k) b
    each k b e (inl is) = subst (λ m. IsFilledPart (shape_at nodes m) b) (sym is) (here b (ap (region_at regions) (sym is) ∙ e))
    each k b e (inr ne) = by (cases_lt k n)
      where
        by : (k < n) ⊎ (n ≤ k) → IsFilledPart (shape_at nodes k) b
        by (inl h) = absurd (some-none b (sym (w.others k (omega (arith, h))) ∙ e))
        by (inr h) = absurd (some-none b (sym (get_or_past regions k None (omega (arith, w.number, h, ne))) ∙ e))

-- ---- one node on

kept-region : (Q : ℕ → List ℕ → Type 0) (old new : List (Option Box)) (u : ℕ) → AreFull old → Widens Q old new → ((j : List ℕ) → Q u j → ⊥) → region_at new u ≡ region_at old u
kept-region Q old new u f w none = by (cases_lt u (length old))
  where
    back : (j : List ℕ) → IsInRegion (region_at old u) j ⊎ Q u j → IsInRegion (region_at old u) j
    back j (inl b) = b
    back j (inr q) = absurd (none j q)

    by : (u < length old) ⊎ (length old ≤ u) → region_at new u ≡ region_at old u
    by (inl h) = least-one (IsInRegion (region_at old u)) (region_at new u) (region_at old u) (least-same (λ j. IsInRegion (region_at old u) j ⊎ Q u j) (IsInRegion (region_at old u)) (region_at new u) back (λ j b. inl b) (w.each u h)) (region-least (region_at old u) (f.each u))
    by (inr h) = get_or_past new u None (omega (arith, w.count, h)) ∙ sym (get_or_past old u None h)

pub next-asked : (nodes : List Node) (n : ℕ) (box : Box) (old new : List (Option Box)) (m : ℕ) (node : Node) → slice_get nodes m ≡ Some node → NamesEarlier node.op m → AreFull old → IsAskedFrom nodes n box old (m + 1) → AsksNode nodes m old new
    → IsAskedFrom nodes n box new m
next-asked nodes n box old new m node is names f a asks = record { count = (asks.each node is).count ∙ a.count; each = each }
  where
    kept : (u : ℕ) → m ≤ u → region_at new u ≡ region_at old u
    kept u h = kept-region (IsUsedBy nodes (region_at old m) node) old new u f (asks.each node is) (λ j x. absurd (omega (arith, h, uses-below node.op node.taken (shape_at nodes) x.index m u j names x.uses)))

    same : (other : Node) → slice_get nodes m ≡ Some other → other ≡ node
    same other e = same_Some other node (sym e ∙ is)

    each : (k : ℕ) → k ≤ n → IsLeast (λ j. IsAsked n box k j ⊎ IsUsedFrom nodes new m k j) (region_at new k)
    each k h =
        least-same (λ j. (IsAsked n box k j ⊎ IsUsedFrom nodes old (m + 1) k j) ⊎ IsUsedBy nodes (region_at old m) node k j) (λ j. IsAsked n box k j ⊎ IsUsedFrom nodes new m k j) (region_at new k) there back
        (least-more (λ j. IsAsked n box k j ⊎ IsUsedFrom nodes old (m + 1) k j) (IsUsedBy nodes (region_at old m) node k) (region_at old k) (region_at new k) (a.each k h) ((asks.each node is).each k (omega (arith, h, a.count))))
      where
        there : (j : List ℕ) → (IsAsked n box k j ⊎ IsUsedFrom nodes old (m + 1) k j) ⊎ IsUsedBy nodes (region_at old m) node k j → IsAsked n box k j ⊎ IsUsedFrom nodes new m k j
        there j (inl (inl q)) = inl q
        there j (inl (inr u)) = inr (record {
          user = u.user;
          later = omega (arith, u.later);
          node = u.node;
          is = u.is;
          index = u.index;
          inside = subst (λ r. IsInRegion r u.index) (sym (kept u.user (omega (arith, u.later)))) u.inside;
          uses = u.uses;
        })
        there j (inr u) = inr (record {
          user = m;
          later = omega arith;
          node = node;
          is = is;
          index = u.index;
          inside = subst (λ r. IsInRegion r u.index) (sym (kept m (omega arith))) u.inside;
          uses = u.uses;
        })

        back : (j : List ℕ) → IsAsked n box k j ⊎ IsUsedFrom nodes new m k j → (IsAsked n box k j ⊎ IsUsedFrom nodes old (m + 1) k j) ⊎ IsUsedBy nodes (region_at old m) node k j
        back j (inl q) = inl (inl q)
        back j (inr u) = by (cases_eq u.user m)
          where
            inside : IsInRegion (region_at old u.user) u.index
            inside = subst (λ r. IsInRegion r u.index) (kept u.user u.later) u.inside

            by : (u.user ≡ m) ⊎ (u.user ≢ m) → (IsAsked n box k j ⊎ IsUsedFrom nodes old (m + 1) k j) ⊎ IsUsedBy nodes (region_at old m) node k j
            by (inl e) =
                let e_node : u.node ≡ node = same u.node (ap (slice_get nodes) (sym e) ∙ u.is) in
                inr (record {
                  index = u.index;
                  inside = subst (λ x. IsInRegion (region_at old x) u.index) e inside;
                  uses = subst (λ (x : Node). Uses x.op x.taken (shape_at nodes) u.index k j) e_node u.uses;
                })
            by (inr ne) = inl (inr (record { user = u.user; later = omega (arith, u.later, ne); node = u.node; is = u.is; index = u.index; inside = inside; uses = u.uses }))

pub all-asked : (nodes : List Node) (n : ℕ) (box : Box) (regions : List (Option Box)) → IsAskedFrom nodes n box regions 0 → AreNeeded nodes n box regions
all-asked nodes n box regions a = record { count = a.count; each = a.each }

-- ---- there is one list of needed regions

used-later : (nodes : List Node) (regions : List (Option Box)) (k : ℕ) (j : List ℕ) → IsExpression nodes → (u : IsUsedFrom nodes regions 0 k j) → k < u.user
used-later nodes regions k j s u =
    let h : u.user < length nodes = slice_get_within nodes u.user u.node u.is in
    let n : NamesEarlier u.node.op u.user = subst (NamesEarlier u.node.op) (length-take-le u.user nodes (omega (arith, h))) (s.each u.user u.node u.is).names.there in
    uses-below u.node.op u.node.taken (shape_at nodes) u.index u.user k j n u.uses

used-within : (nodes : List Node) (regions : List (Option Box)) (n k : ℕ) (j : List ℕ) → length regions ≡ n + 1 → (u : IsUsedFrom nodes regions 0 k j) → u.user ≤ n
used-within nodes regions n k j count u = by (cases_lt u.user (n + 1))
  where
    by : (u.user < n + 1) ⊎ (n + 1 ≤ u.user) → u.user ≤ n
    by (inl h) = omega (arith, h)
    by (inr h) = absurd (region-past regions u.user u.index (omega (arith, count, h)) u.inside)

asked-turn : (nodes : List Node) (n : ℕ) (box : Box) (a b : List (Option Box)) (k : ℕ) → IsExpression nodes → length a ≡ n + 1 → ((u : ℕ) → k < u → u ≤ n → region_at a u ≡ region_at b u) → (j : List ℕ) → IsAsked n box k j ⊎ IsUsedFrom nodes a 0 k j → IsAsked n box k j ⊎ IsUsedFrom nodes b 0 k j
asked-turn nodes n box a b k s count same j (inl q) = inl q
asked-turn nodes n box a b k s count same j (inr u) = inr (record {
  user = u.user;
  later = u.later;
  node = u.node;
  is = u.is;
  index = u.index;
  inside = subst (λ r. IsInRegion r u.index) (same u.user (used-later nodes a k j s u) (used-within nodes a n k j count u)) u.inside;
  uses = u.uses;
})

regions-same : (nodes : List Node) (n : ℕ) (box : Box) (a b : List (Option Box)) → IsExpression nodes → AreNeeded nodes n box a → AreNeeded nodes n box b → (m k : ℕ) → k ≤ n → n < k + m → region_at a k ≡ region_at b k
regions-same nodes n box a b s x y zero k h d = absurd (omega (arith, h, d))
regions-same nodes n box a b s x y (suc m) k h d =
    let later : (u : ℕ) → k < u → u ≤ n → region_at a u ≡ region_at b u = λ u l e. regions-same nodes n box a b s x y m u e (omega (arith, d, l)) in
    least-one (λ j. IsAsked n box k j ⊎ IsUsedFrom nodes b 0 k j) (region_at a k) (region_at b k)
    (least-same (λ j. IsAsked n box k j ⊎ IsUsedFrom nodes a 0 k j) (λ j. IsAsked n box k j ⊎ IsUsedFrom nodes b 0 k j) (region_at a k) (asked-turn nodes n box a b k s x.count later) (asked-turn nodes n box b a k s y.count (λ u l e. sym (later u l e))) (x.each k h))
    (y.each k h)

pub needed-one : (nodes : List Node) (n : ℕ) (box : Box) (a b : List (Option Box)) → IsExpression nodes → AreNeeded nodes n box a → AreNeeded nodes n box b → a ≡ b
needed-one nodes n box a b s x y = same_lists a b (x.count ∙ sym y.count) (λ k d h.
    get_or_default a k d None h ∙ regions-same nodes n box a b s x y (n + 1) k (omega (arith, h, x.count)) (omega arith) ∙ sym (get_or_default b k d None (omega (arith, h, x.count, y.count))))

-- ---- the loops that fill a list

pub last-pushed : (xs ys : List ℕ) (x k : ℕ) (f : ℕ → ℕ) → ys ≡ xs ++ x ∷ [] → length xs ≡ k → ((a : ℕ) → a < k → get_or xs a 0 + 1 ≡ f a) → x + 1 ≡ f k → (a : ℕ) → a < k + 1 → get_or ys a 0 + 1 ≡ f a
last-pushed xs ys x k f e n before here a h = by (cases_lt a k)
  where
    by : (a < k) ⊎ (k ≤ a) → get_or ys a 0 + 1 ≡ f a
    by (inl b) = ap (λ zs. get_or zs a 0 + 1) e ∙ ap (λ m. m + 1) (get_or_append_left xs (x ∷ []) 0 a (omega (arith, n, b))) ∙ before a b
    by (inr b) = let same : a ≡ k = omega (arith, h, b) in ap (λ zs. get_or zs a 0 + 1) e ∙ ap (λ m. m + 1) (get_or_push xs x 0 a (n ∙ sym same)) ∙ here ∙ ap f (sym same)

pub none-pushed : (xs : List (Option Box)) (k : ℕ) → ((j : ℕ) → region_at xs j ≡ None) → region_at (xs ++ None ∷ []) k ≡ None
none-pushed [] zero f = refl
none-pushed [] (suc k) f = refl
none-pushed (x ∷ xs) zero f = f 0
none-pushed (x ∷ xs) (suc k) f = none-pushed xs k (λ j. f (suc j))

pub asked-pushed : (xs ys : List (Option Box)) (r : Option Box) (count : ℕ) (box : Box) → ys ≡ xs ++ r ∷ [] → length xs + 1 ≡ count → ((j : ℕ) → region_at xs j ≡ None) → IsAskedOf box r → IsWhatIsAsked count box ys
asked-pushed xs ys r count box e n f a = record {
  number = ap length e ∙ length_push xs r ∙ n;
  others = λ k h. ap (λ zs. region_at zs k) e ∙ get_or_append_left xs (r ∷ []) None k (omega (arith, h, n)) ∙ f k;
  last = λ k h. subst (IsAskedOf box) (sym (ap (λ zs. region_at zs k) e ∙ get_or_push xs r None k (omega (arith, h, n)))) a;
}

pub next-asked-at : (nodes : List Node) (n : ℕ) (box : Box) (old new : List (Option Box)) (m : ℕ) → IsExpression nodes → m < length nodes → AreFit nodes old → IsAskedFrom nodes n box old (m + 1) → AsksNode nodes m old new → IsAskedFrom nodes n box new m
next-asked-at nodes n box old new m s h f a w = at (first nodes (omega (arith, h)))
  where
    first : (nodes : List Node) → 0 < length nodes → Node
    first [] h = absurd (omega (arith, h))
    first (n ∷ nodes) h = n

    at : Node → IsAskedFrom nodes n box new m
    at d =
        let node = get_or nodes m d in
        let is : slice_get nodes m ≡ Some (get_or nodes m d) = slice_get-get_or nodes m d h in
        next-asked nodes n box old new m node is (subst (NamesEarlier node.op) (length-take-le m nodes (omega (arith, h))) (s.each m node is).names.there) (fit-full nodes old s f) a w
