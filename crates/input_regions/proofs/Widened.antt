-- Regions that are widened: by one index, by two sets, and by all that lies between two indexes.
use Rattle.std.proofs.Common.{◌≡◌, ◌≢◌, ℕ, ◌+◌, ◌<◌, ◌≤◌, ◌^◌, List, [], ◌∷◌, length, get_or, set, refl, ap, sym, subst, ◌∙◌, arith, inl, inr, ◌⊎◌, Option, Some, None}
use Rattle.std.proofs.lemmas.List.{get_or-set_same, get_or-set_other, get_or_past, get_or_default, length-set, get_or-map, length-map}
use Rattle.std.proofs.lemmas.Bool.{cases_eq, cases_lt}
use Rattle.std.proofs.lemmas.Option.{slice_get-get_or}
use Rattle.nd_shape.specs.Region.{Box, IsPart}
use Rattle.nd_shape.specs.Shape.{IsShape}
use Rattle.nd_shape.specs.Index.{IsIn}
use Rattle.nd_shape.proofs.Places.{IsIn-length}
use Rattle.nd_shape.proofs.Axes.{IsIn-at, IsIn-from}
use Rattle.array_expr.specs.declared.expr.Node.{Node}
use Rattle.array_expr.specs.Node.{IsExpression, shape_at, shapes_of}
use Rattle.input_regions.specs.Boxes.{IsInBox, IsInRegion, IsLeastBox, IsLeast}
use Rattle.input_regions.specs.Needed.{region_at}
use Rattle.input_regions.specs.Widening.{Widens, IsFull, AreFull, CanHave, IsFilledPart, AreFit, IsEither}
use Rattle.input_regions.proofs.Least.{least-same, least-more, full-least, least-full}
use Rattle.input_regions.proofs.Between.{AreBetween, between-length, between-at, IsBetween}

-- ---- regions that stay

pub region-least : (r : Option Box) → ((box : Box) → r ≡ Some box → IsFull box) → IsLeast (IsInRegion r) r
region-least None f = λ j h. h
region-least (Some box) f = full-least box (f box refl)

pub region-small : (r : Option Box) → ((box : Box) → r ≡ Some box → IsFull box) → (j : List ℕ) → IsInRegion r j → (a : ℕ) → a < length j → get_or j a 0 < 2 ^ 31
region-small None f j h a b = absurd h
region-small (Some box) f j h a b =
    let k : a < length box.start = omega (arith, h.axes) in
    omega (arith, h.high a k, (f box refl).ends a k)

kept-least : (r : Option Box) (Q : List ℕ → Type 0) → ((box : Box) → r ≡ Some box → IsFull box) → ((j : List ℕ) → Q j → ⊥) → IsLeast (λ j. IsInRegion r j ⊎ Q j) r
kept-least r Q f none = least-same (IsInRegion r) (λ j. IsInRegion r j ⊎ Q j) r (λ j h. inl h) back (region-least r f)
  where
    back : (j : List ℕ) → IsInRegion r j ⊎ Q j → IsInRegion r j
    back j (inl h) = h
    back j (inr q) = absurd (none j q)

pub widens-none : (Q : ℕ → List ℕ → Type 0) (old : List (Option Box)) → AreFull old → ((k : ℕ) (j : List ℕ) → Q k j → ⊥) → Widens Q old old
widens-none Q old f none = record { count = refl; each = λ k h. kept-least (region_at old k) (Q k) (f.each k) (none k) }

-- ---- one index

pub widens-one : (old new : List (Option Box)) (of at : ℕ) (i : List ℕ) (box : Box) → new ≡ set old at (Some box) → at ≡ of → of < length old → AreFull old → IsLeast (λ j. IsInRegion (region_at old of) j ⊎ (j ≡ i)) (Some box)
    → Widens (λ k j. (k ≡ of) × (j ≡ i)) old new
widens-one old new of at i box e same h f l = subst (Widens (λ k j. (k ≡ of) × (j ≡ i)) old) (sym (e ∙ ap (λ n. set old n (Some box)) same)) (record {
  count = length-set old of (Some box);
  each = λ k b. each k b (cases_eq k of);
})
  where
    here : IsLeast (λ j. IsInRegion (region_at old of) j ⊎ ((of ≡ of) × (j ≡ i))) (Some box)
    here = least-same (λ j. IsInRegion (region_at old of) j ⊎ (j ≡ i)) (λ j. IsInRegion (region_at old of) j ⊎ ((of ≡ of) × (j ≡ i))) (Some box) there back l
      where
        there : (j : List ℕ) → IsInRegion (region_at old of) j ⊎ (j ≡ i) → IsInRegion (region_at old of) j ⊎ ((of ≡ of) × (j ≡ i))
        there j (inl b) = inl b
        there j (inr s) = inr (refl, s)

        back : (j : List ℕ) → IsInRegion (region_at old of) j ⊎ ((of ≡ of) × (j ≡ i)) → IsInRegion (region_at old of) j ⊎ (j ≡ i)
        back j (inl b) = inl b
        back j (inr s) = inr s.1

    each : (k : ℕ) → k < length old → (k ≡ of) ⊎ (k ≢ of) → IsLeast (λ j. IsInRegion (region_at old k) j ⊎ ((k ≡ of) × (j ≡ i))) (region_at (set old of (Some box)) k)
    each k b (inl is) =
        subst (λ n. IsLeast (λ j. IsInRegion (region_at old n) j ⊎ ((n ≡ of) × (j ≡ i))) (region_at (set old of (Some box)) n)) (sym is)
        (subst (IsLeast (λ j. IsInRegion (region_at old of) j ⊎ ((of ≡ of) × (j ≡ i)))) (sym (get_or-set_same old of (Some box) None h)) here)
    each k b (inr other) =
        subst (IsLeast (λ j. IsInRegion (region_at old k) j ⊎ ((k ≡ of) × (j ≡ i)))) (sym (get_or-set_other old of k (Some box) None other))
        (kept-least (region_at old k) (λ j. (k ≡ of) × (j ≡ i)) (f.each k) (λ j q. other q.0))

-- ---- sets

pub widens-same : (Q R : ℕ → List ℕ → Type 0) (old new : List (Option Box)) → ((k : ℕ) (j : List ℕ) → Q k j → R k j) → ((k : ℕ) (j : List ℕ) → R k j → Q k j) → Widens Q old new → Widens R old new
widens-same Q R old new there back w = record {
  count = w.count;
  each = λ k h. least-same (λ j. IsInRegion (region_at old k) j ⊎ Q k j) (λ j. IsInRegion (region_at old k) j ⊎ R k j) (region_at new k) (turn k Q R (there k)) (turn k R Q (back k)) (w.each k h);
}
  where
    turn : (k : ℕ) (Q R : ℕ → List ℕ → Type 0) → ((j : List ℕ) → Q k j → R k j) → (j : List ℕ) → IsInRegion (region_at old k) j ⊎ Q k j → IsInRegion (region_at old k) j ⊎ R k j
    turn k Q R f j (inl b) = inl b
    turn k Q R f j (inr q) = inr (f j q)

pub widens-two : (Q R : ℕ → List ℕ → Type 0) (old mid new : List (Option Box)) → Widens Q old mid → Widens R mid new → Widens (λ k j. Q k j ⊎ R k j) old new
widens-two Q R old mid new v w = record {
  count = w.count ∙ v.count;
  each = λ k h. least-same (λ j. (IsInRegion (region_at old k) j ⊎ Q k j) ⊎ R k j) (λ j. IsInRegion (region_at old k) j ⊎ (Q k j ⊎ R k j)) (region_at new k) (there k) (back k)
      (least-more (λ j. IsInRegion (region_at old k) j ⊎ Q k j) (R k) (region_at mid k) (region_at new k) (v.each k h) (w.each k (omega (arith, v.count))));
}
  where
    there : (k : ℕ) (j : List ℕ) → (IsInRegion (region_at old k) j ⊎ Q k j) ⊎ R k j → IsInRegion (region_at old k) j ⊎ (Q k j ⊎ R k j)
    there k j (inl (inl b)) = inl b
    there k j (inl (inr q)) = inr (inl q)
    there k j (inr r) = inr (inr r)

    back : (k : ℕ) (j : List ℕ) → IsInRegion (region_at old k) j ⊎ (Q k j ⊎ R k j) → (IsInRegion (region_at old k) j ⊎ Q k j) ⊎ R k j
    back k j (inl b) = inl (inl b)
    back k j (inr (inl q)) = inl (inr q)
    back k j (inr (inr r)) = inr r

-- of a set that lies between two of its indexes
pub widens-between : (of : ℕ) (first last : List ℕ) (Q : ℕ → List ℕ → Type 0) (old new : List (Option Box)) → Widens (IsEither of first last) old new → Q of first → Q of last
    → ((k : ℕ) (j : List ℕ) → Q k j → (k ≡ of) × AreBetween first last j) → Widens Q old new
widens-between of first last Q old new w p q between = record { count = w.count; each = λ k h. each k (region_at new k) (w.each k h) }
  where
    one : (k : ℕ) (j : List ℕ) → IsEither of first last k j → Q k j
    one k j (e, inl s) = subst (λ n. Q n j) (sym e) (subst (Q of) (sym s) p)
    one k j (e, inr s) = subst (λ n. Q n j) (sym e) (subst (Q of) (sym s) q)

    any : (k : ℕ) (j : List ℕ) → IsInRegion (region_at old k) j ⊎ IsEither of first last k j → IsInRegion (region_at old k) j ⊎ Q k j
    any k j (inl b) = inl b
    any k j (inr e) = inr (one k j e)

    inside : (k : ℕ) (box : Box) → IsLeastBox (λ j. IsInRegion (region_at old k) j ⊎ IsEither of first last k j) box → (j : List ℕ) → IsInRegion (region_at old k) j ⊎ Q k j → IsInBox box j
    inside k box l j (inl b) = l.has j (inl b)
    inside k box l j (inr r) =
        let b = between k j r in
        let f = l.has first (inr (b.0, inl refl)) in
        let g = l.has last (inr (b.0, inr refl)) in
        record {
          axes = between-length first last j b.1 ∙ f.axes;
          low = λ a h. low a (f.low a h) (g.low a h) (between-at first last j a b.1);
          high = λ a h. high a (f.high a h) (g.high a h) (between-at first last j a b.1);
        }
      where
        low : (a : ℕ) → get_or box.start a 0 ≤ get_or first a 0 → get_or box.start a 0 ≤ get_or last a 0 → IsBetween (get_or first a 0) (get_or last a 0) (get_or j a 0) → get_or box.start a 0 ≤ get_or j a 0
        low a x y (inl b) = omega (arith, b.0)
        low a x y (inr b) = omega (arith, b.0)

        high : (a : ℕ) → get_or first a 0 < get_or box.start a 0 + get_or box.lengths a 0 → get_or last a 0 < get_or box.start a 0 + get_or box.lengths a 0 → IsBetween (get_or first a 0) (get_or last a 0) (get_or j a 0) → get_or j a 0 < get_or box.start a 0 + get_or box.lengths a 0
        high a x y (inl b) = omega (arith, b.1)
        high a x y (inr b) = omega (arith, b.1)

    each : (k : ℕ) (r : Option Box) → IsLeast (λ j. IsInRegion (region_at old k) j ⊎ IsEither of first last k j) r → IsLeast (λ j. IsInRegion (region_at old k) j ⊎ Q k j) r
    each k None l = none
      where
        none : (j : List ℕ) → IsInRegion (region_at old k) j ⊎ Q k j → ⊥
        none j (inl b) = l j (inl b)
        none j (inr r) = l first (inr ((between k j r).0, inl refl))
    each k (Some box) l = record {
      sides = l.sides;
      has = inside k box l;
      some = (l.some.0, any k l.some.0 l.some.1);
      first = λ a h. let x = l.first a h in (x.0, any k x.0 x.1, x.2);
      last = λ a h. let x = l.last a h in (x.0, any k x.0 x.1, x.2);
    }

-- ---- what stays true

past-none : (old new : List (Option Box)) (k : ℕ) (box : Box) → length new ≡ length old → length old ≤ k → region_at new k ≡ Some box → ⊥
past-none old new k box e h s = some-none box (sym (get_or_past new k None (omega (arith, e))) ∙ s)
  where
    some-none : (box : Box) → ◌≡◌ {A = Option Box} None (Some box) → ⊥
    some-none box e = cc

pub widens-full : (Q : ℕ → List ℕ → Type 0) (old new : List (Option Box)) → AreFull old → Widens Q old new → ((k : ℕ) (j : List ℕ) → Q k j → (a : ℕ) → a < length j → get_or j a 0 < 2 ^ 31) → AreFull new
widens-full Q old new f w small = record { each = λ k box e. each k box e (cases_lt k (length old)) }
  where
    all : (k : ℕ) (j : List ℕ) → IsInRegion (region_at old k) j ⊎ Q k j → (a : ℕ) → a < length j → get_or j a 0 < 2 ^ 31
    all k j (inl b) = region-small (region_at old k) (f.each k) j b
    all k j (inr q) = small k j q

    each : (k : ℕ) (box : Box) → region_at new k ≡ Some box → (k < length old) ⊎ (length old ≤ k) → IsFull box
    each k box e (inl h) = least-full (λ j. IsInRegion (region_at old k) j ⊎ Q k j) box (all k) (subst (IsLeast (λ j. IsInRegion (region_at old k) j ⊎ Q k j)) e (w.each k h))
    each k box e (inr h) = absurd (past-none old new k box w.count h e)

least-part : (P : List ℕ → Type 0) (dims : List ℕ) (box : Box) → ((j : List ℕ) → P j → IsIn dims j) → IsLeastBox P box → IsFilledPart dims box
least-part P dims box inside l =
    let axes : length box.start ≡ length dims = sym (l.has l.some.0 l.some.1).axes ∙ IsIn-length dims l.some.0 (inside l.some.0 l.some.1) in
    record {
      part = record {
        starts = axes;
        lengths = l.sides ∙ axes;
        ends = λ a h. let x = l.last a (omega (arith, axes)) in omega (arith, x.2, IsIn-at dims x.0 a (inside x.0 x.1) h);
      };
      filled = λ a h. let x = l.first a (omega (arith, axes)) in omega (arith, x.2, (l.has x.0 x.1).high a (omega (arith, axes)));
    }

pub filled-in : (dims : List ℕ) (box : Box) (j : List ℕ) → IsPart box dims → IsInBox box j → IsIn dims j
filled-in dims box j p b = IsIn-from dims j (b.axes ∙ p.starts) (λ a h. omega (arith, b.high a (omega (arith, p.starts)), p.ends a h))

pub region-in : (dims : List ℕ) (r : Option Box) (j : List ℕ) → ((box : Box) → r ≡ Some box → IsFilledPart dims box) → IsInRegion r j → IsIn dims j
region-in dims None j f h = absurd h
region-in dims (Some box) j f h = filled-in dims box j (f box refl).part h

pub widens-fit : (nodes : List Node) (Q : ℕ → List ℕ → Type 0) (old new : List (Option Box)) → AreFit nodes old → Widens Q old new → ((k : ℕ) (j : List ℕ) → Q k j → IsIn (shape_at nodes k) j) → AreFit nodes new
widens-fit nodes Q old new f w inside = record { each = λ k box e. each k box e (cases_lt k (length old)) }
  where
    all : (k : ℕ) (j : List ℕ) → IsInRegion (region_at old k) j ⊎ Q k j → IsIn (shape_at nodes k) j
    all k j (inl b) = region-in (shape_at nodes k) (region_at old k) j (f.each k) b
    all k j (inr q) = inside k j q

    each : (k : ℕ) (box : Box) → region_at new k ≡ Some box → (k < length old) ⊎ (length old ≤ k) → IsFilledPart (shape_at nodes k) box
    each k box e (inl h) = least-part (λ j. IsInRegion (region_at old k) j ⊎ Q k j) (shape_at nodes k) box (all k) (subst (IsLeast (λ j. IsInRegion (region_at old k) j ⊎ Q k j)) e (w.each k h))
    each k box e (inr h) = absurd (past-none old new k box w.count h e)

-- ---- shapes of nodes

pub shape-of : (nodes : List Node) (k : ℕ) (node : Node) → k < length nodes → get_or nodes k node ≡ node → shape_at nodes k ≡ node.shape
shape-of nodes k node h e = get_or-map (λ (n : Node). n.shape) nodes k node [] h ∙ ap (λ (n : Node). n.shape) e

pub shape-limits : (nodes : List Node) (k : ℕ) → IsExpression nodes → k < length nodes → IsShape (shape_at nodes k)
shape-limits nodes k s h = at nodes k s h (first nodes (omega (arith, h)))
  where
    first : (nodes : List Node) → 0 < length nodes → Node
    first [] h = absurd (omega (arith, h))
    first (n ∷ nodes) h = n

    at : (nodes : List Node) (k : ℕ) → IsExpression nodes → k < length nodes → Node → IsShape (shape_at nodes k)
    at nodes k s h d =
        subst IsShape (sym (get_or-map (λ (n : Node). n.shape) nodes k d [] h)) (s.each k (get_or nodes k d) (slice_get-get_or nodes k d h)).limits

shape-small : (nodes : List Node) (k a : ℕ) → IsExpression nodes → get_or (shape_at nodes k) a 0 ≤ 2 ^ 31
shape-small nodes k a s = by (cases_lt k (length nodes)) (cases_lt a (length (shape_at nodes k)))
  where
    by : (k < length nodes) ⊎ (length nodes ≤ k) → (a < length (shape_at nodes k)) ⊎ (length (shape_at nodes k) ≤ a) → get_or (shape_at nodes k) a 0 ≤ 2 ^ 31
    by (inl h) (inl b) = (shape-limits nodes k s h).lengths a 0 b
    by (inr h) (inl b) =
        let none : shape_at nodes k ≡ [] = get_or_past (shapes_of nodes) k [] (omega (arith, length-map nodes (λ (n : Node). n.shape))) in
        absurd (omega (arith, ap length none, b))
    by x (inr b) = let z : get_or (shape_at nodes k) a 0 ≡ 0 = get_or_past (shape_at nodes k) a 0 b in omega (arith, z)

pub fit-full : (nodes : List Node) (regions : List (Option Box)) → IsExpression nodes → AreFit nodes regions → AreFull regions
fit-full nodes regions s f = record {
  each = λ k box e.
      let p = f.each k box e in
      record {
        sides = p.part.lengths ∙ sym p.part.starts;
        filled = λ a h. p.filled a (omega (arith, p.part.starts));
        ends = λ a h. omega (arith, p.part.ends a (omega (arith, p.part.starts)), shape-small nodes k a s);
      };
}

pub can-have : (nodes : List Node) (regions : List (Option Box)) (of : ℕ) (i : List ℕ) → IsShape (shape_at nodes of) → AreFit nodes regions → IsIn (shape_at nodes of) i → CanHave (region_at regions of) i
can-have nodes regions of i s f h = record {
  few = omega (arith, IsIn-length (shape_at nodes of) i h, s.axes);
  small = λ a b.
      let n : a < length (shape_at nodes of) = omega (arith, IsIn-length (shape_at nodes of) i h) in
      omega (arith, IsIn-at (shape_at nodes of) i a h n, s.lengths a 0 n);
  axes = λ box e. (f.each of box e).part.starts ∙ sym (IsIn-length (shape_at nodes of) i h);
}

-- ---- one index, then two

pub widens-at : (old : List (Option Box)) (of at : ℕ) (i : List ℕ) (box : Box) (d : Option Box) → at ≡ of → of < length old → AreFull old → IsLeast (λ j. IsInRegion (get_or old at d) j ⊎ (j ≡ i)) (Some box) → Widens (λ k j. (k ≡ of) × (j ≡ i)) old (set old at (Some box))
widens-at old of at i box d e h f l =
    let here : get_or old at d ≡ region_at old of = get_or_default old at d None (omega (arith, e, h)) ∙ ap (region_at old) e in
    widens-one old (set old at (Some box)) of at i box refl e h f (subst (λ r. IsLeast (λ j. IsInRegion r j ⊎ (j ≡ i)) (Some box)) here l)

pub one-full : (of : ℕ) (i : List ℕ) (r : Option Box) (old new : List (Option Box)) → AreFull old → CanHave r i → Widens (λ k j. (k ≡ of) × (j ≡ i)) old new → AreFull new
one-full of i r old new f c w = widens-full (λ k j. (k ≡ of) × (j ≡ i)) old new f w (λ k j q. subst (λ (js : List ℕ). (a : ℕ) → a < length js → get_or js a 0 < 2 ^ 31) (sym q.1) c.small)

pub both-widened : (of : ℕ) (first last : List ℕ) (old mid new : List (Option Box)) → Widens (λ k j. (k ≡ of) × (j ≡ first)) old mid → Widens (λ k j. (k ≡ of) × (j ≡ last)) mid new → Widens (IsEither of first last) old new
both-widened of first last old mid new v w =
    widens-same (λ k j. ((k ≡ of) × (j ≡ first)) ⊎ ((k ≡ of) × (j ≡ last))) (IsEither of first last) old new there back (widens-two (λ k j. (k ≡ of) × (j ≡ first)) (λ k j. (k ≡ of) × (j ≡ last)) old mid new v w)
  where
    there : (k : ℕ) (j : List ℕ) → ((k ≡ of) × (j ≡ first)) ⊎ ((k ≡ of) × (j ≡ last)) → IsEither of first last k j
    there k j (inl q) = (q.0, inl q.1)
    there k j (inr q) = (q.0, inr q.1)

    back : (k : ℕ) (j : List ℕ) → IsEither of first last k j → ((k ≡ of) × (j ≡ first)) ⊎ ((k ≡ of) × (j ≡ last))
    back k j (e, inl s) = inl (e, s)
    back k j (e, inr s) = inr (e, s)
