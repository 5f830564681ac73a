-- Least boxes of sets: of more indexes, of other sets.
use Rattle.std.proofs.Common.{◌≡◌, ℕ, ◌+◌, ◌-◌, ◌<◌, ◌≤◌, ◌^◌, ◌≢◌, min, max, cond, List, [], ◌∷◌, ◌++◌, length, get_or, set, replicate, refl, ap, sym, subst, ◌∙◌, arith, inl, inr, ◌⊎◌, Option, Some, None}
use Rattle.std.proofs.lemmas.List.{length-replicate, get_or-replicate, get_or-set_same, get_or-set_other, length-set, get_or_append_left, get_or_push}
use Rattle.std.specs.Prelude.{nat_eq}
use Rattle.std.proofs.lemmas.Bool.{cases_lt, cases_eq}
use Rattle.nd_shape.specs.Region.{Box}
use Rattle.input_regions.specs.Boxes.{IsInBox, IsInRegion, IsLeastBox, IsLeast}
use Rattle.input_regions.specs.Widening.{IsFull, Reaches}

-- ---- one index

pub point-least : (i : List ℕ) (box : Box) → ◌≡◌ {A = Box} box (record { start = i; lengths = replicate (length i) 1 }) → IsLeast (λ j. ⊥ ⊎ (j ≡ i)) (Some box)
point-least i box e = subst (λ b. IsLeast (λ j. ⊥ ⊎ (j ≡ i)) (Some b)) (sym e) least
  where
    one : (a : ℕ) → a < length i → get_or {A = ℕ} (replicate {A = ℕ} (length i) 1) a 0 ≡ 1
    one a h = get_or-replicate (length i) a 1 0 h

    inside : IsInBox (record { start = i; lengths = replicate (length i) 1 }) i
    inside = record { axes = refl; low = λ a h. omega arith; high = λ a h. omega (arith, one a h) }

    has : (j : List ℕ) → ⊥ ⊎ (j ≡ i) → IsInBox (record { start = i; lengths = replicate (length i) 1 }) j
    has j (inl x) = absurd x
    has j (inr e) = subst (IsInBox (record { start = i; lengths = replicate (length i) 1 })) (sym e) inside

    least : IsLeastBox (λ j. ⊥ ⊎ (j ≡ i)) (record { start = i; lengths = replicate (length i) 1 })
    least = record {
      sides = length-replicate (length i) 1;
      has = has;
      some = (i, inr refl);
      first = λ a h. (i, inr refl, refl);
      last = λ a h. (i, inr refl, omega (arith, one a h));
    }

-- ---- one index more

min-cases : (m n : ℕ) → (min m n ≡ m) ⊎ (min m n ≡ n)
min-cases m n = elim (cases_lt m n) [ inl h ↦ inl (omega arith) | inr h ↦ inr (omega arith) ]

max-cases : (m n : ℕ) → (max m n ≡ m) ⊎ (max m n ≡ n)
max-cases m n = elim (cases_lt m n) [ inl h ↦ inr (omega arith) | inr h ↦ inl (omega arith) ]

-- the first index of a box lies in it, and with it one that is last on an axis
start-inside : (box : Box) → IsFull box → IsInBox box box.start
start-inside box f = record { axes = refl; low = λ a h. omega arith; high = λ a h. omega (arith, f.filled a h) }

end_on : Box → ℕ → List ℕ
end_on box a = set box.start a (get_or box.start a 0 + get_or box.lengths a 0 - 1)

end-at : (box : Box) (a : ℕ) → IsFull box → a < length box.start → get_or (end_on box a) a 0 + 1 ≡ get_or box.start a 0 + get_or box.lengths a 0
unfolding end_on
end-at box a f h = omega (arith, get_or-set_same box.start a (get_or box.start a 0 + get_or box.lengths a 0 - 1) 0 h, f.filled a h)

end-inside : (box : Box) (a : ℕ) → IsFull box → a < length box.start → IsInBox box (end_on box a)
unfolding end_on
end-inside box a f h = record {
  axes = length-set box.start a (get_or box.start a 0 + get_or box.lengths a 0 - 1);
  low = λ b k. low b k (cases_eq b a);
  high = λ b k. high b k (cases_eq b a);
}
  where
    low : (b : ℕ) → b < length box.start → (b ≡ a) ⊎ (b ≢ a) → get_or box.start b 0 ≤ get_or (end_on box a) b 0
    low b k (inl e) = subst (λ c. get_or box.start c 0 ≤ get_or (end_on box a) c 0) (sym e) (omega (arith, end-at box a f h, f.filled a h))
    low b k (inr ne) = omega (arith, get_or-set_other box.start a b (get_or box.start a 0 + get_or box.lengths a 0 - 1) 0 ne)

    high : (b : ℕ) → b < length box.start → (b ≡ a) ⊎ (b ≢ a) → get_or (end_on box a) b 0 < get_or box.start b 0 + get_or box.lengths b 0
    high b k (inl e) = subst (λ c. get_or (end_on box a) c 0 < get_or box.start c 0 + get_or box.lengths c 0) (sym e) (omega (arith, end-at box a f h))
    high b k (inr ne) = omega (arith, get_or-set_other box.start a b (get_or box.start a 0 + get_or box.lengths a 0 - 1) 0 ne, f.filled b k)

pub reached-least : (old : Box) (i : List ℕ) (new : Box) → IsFull old → length old.start ≡ length i → Reaches old i new → IsLeast (λ j. IsInBox old j ⊎ (j ≡ i)) (Some new)
reached-least old i new f e r = record {
  sides = r.lengths ∙ sym r.starts;
  has = has;
  some = (i, inr refl);
  first = λ a h. first a (omega (arith, r.starts)) (min-cases (get_or old.start a 0) (get_or i a 0));
  last = λ a h. last a (omega (arith, r.starts)) (max-cases (get_or old.start a 0 + get_or old.lengths a 0) (get_or i a 0 + 1));
}
  where
    has : (j : List ℕ) → IsInBox old j ⊎ (j ≡ i) → IsInBox new j
    has j (inl b) = record {
      axes = b.axes ∙ e ∙ sym r.starts;
      low = λ a h. omega (arith, r.starts, r.start a (omega (arith, r.starts)), b.low a (omega (arith, r.starts, e)));
      high = λ a h. omega (arith, r.starts, r.end a (omega (arith, r.starts)), b.high a (omega (arith, r.starts, e)));
    }
    has j (inr same) = subst (IsInBox new) (sym same) (record {
      axes = sym r.starts;
      low = λ a h. omega (arith, r.start a (omega (arith, r.starts)));
      high = λ a h. omega (arith, r.end a (omega (arith, r.starts)));
    })

    first : (a : ℕ) → a < length i → (min (get_or old.start a 0) (get_or i a 0) ≡ get_or old.start a 0) ⊎ (min (get_or old.start a 0) (get_or i a 0) ≡ get_or i a 0) → (j : List ℕ) × (IsInBox old j ⊎ (j ≡ i)) × (get_or j a 0 ≡ get_or new.start a 0)
    first a h (inl m) = (old.start, inl (start-inside old f), sym m ∙ sym (r.start a h))
    first a h (inr m) = (i, inr refl, sym m ∙ sym (r.start a h))

    last : (a : ℕ) → a < length i → (max (get_or old.start a 0 + get_or old.lengths a 0) (get_or i a 0 + 1) ≡ get_or old.start a 0 + get_or old.lengths a 0) ⊎ (max (get_or old.start a 0 + get_or old.lengths a 0) (get_or i a 0 + 1) ≡ get_or i a 0 + 1)
        → (j : List ℕ) × (IsInBox old j ⊎ (j ≡ i)) × (get_or j a 0 + 1 ≡ get_or new.start a 0 + get_or new.lengths a 0)
    last a h (inl m) = (end_on old a, inl (end-inside old a f (omega (arith, e))), end-at old a f (omega (arith, e)) ∙ sym m ∙ sym (r.end a h))
    last a h (inr m) = (i, inr refl, sym m ∙ sym (r.end a h))

-- ---- other sets

-- of the same indexes
pub least-same : (P Q : List ℕ → Type 0) (box : Option Box) → ((j : List ℕ) → P j → Q j) → ((j : List ℕ) → Q j → P j) → IsLeast P box → IsLeast Q box
least-same P Q None there back l = λ j q. l j (back j q)
least-same P Q (Some box) there back l = record {
  sides = l.sides;
  has = λ j q. l.has j (back j q);
  some = (l.some.0, there l.some.0 l.some.1);
  first = λ a h. let w = l.first a h in (w.0, there w.0 w.1, w.2);
  last = λ a h. let w = l.last a h in (w.0, there w.0 w.1, w.2);
}

-- the least box of what a least box has, and more
pub least-more : (P Q : List ℕ → Type 0) (old new : Option Box) → IsLeast P old → IsLeast (λ j. IsInRegion old j ⊎ Q j) new → IsLeast (λ j. P j ⊎ Q j) new
least-more P Q None new l m = least-same (λ j. ⊥ ⊎ Q j) (λ j. P j ⊎ Q j) new there back m
  where
    there : (j : List ℕ) → ⊥ ⊎ Q j → P j ⊎ Q j
    there j (inl x) = absurd x
    there j (inr q) = inr q

    back : (j : List ℕ) → P j ⊎ Q j → ⊥ ⊎ Q j
    back j (inl p) = absurd (l j p)
    back j (inr q) = inr q
least-more P Q (Some old) None l m = absurd (m l.some.0 (inl (l.has l.some.0 l.some.1)))
least-more P Q (Some old) (Some new) l m = record {
  sides = m.sides;
  has = has;
  some = (l.some.0, inl l.some.1);
  first = λ a h. let w = m.first a h in first a h w.0 w.1 w.2;
  last = λ a h. let w = m.last a h in last a h w.0 w.1 w.2;
}
  where
    has : (j : List ℕ) → P j ⊎ Q j → IsInBox new j
    has j (inl p) = m.has j (inl (l.has j p))
    has j (inr q) = m.has j (inr q)

    sides : length new.start ≡ length old.start
    sides = sym (has l.some.0 (inl l.some.1)).axes ∙ (l.has l.some.0 l.some.1).axes

    first : (a : ℕ) → a < length new.start → (j : List ℕ) → IsInBox old j ⊎ Q j → get_or j a 0 ≡ get_or new.start a 0 → (i : List ℕ) × (P i ⊎ Q i) × (get_or i a 0 ≡ get_or new.start a 0)
    first a h j (inr q) e = (j, inr q, e)
    first a h j (inl b) e =
        let k : a < length old.start = omega (arith, sides) in
        let w = l.first a k in
        (w.0, inl w.1, omega (arith, w.2, e, b.low a k, (has w.0 (inl w.1)).low a h))

    last : (a : ℕ) → a < length new.start → (j : List ℕ) → IsInBox old j ⊎ Q j → get_or j a 0 + 1 ≡ get_or new.start a 0 + get_or new.lengths a 0 → (i : List ℕ) × (P i ⊎ Q i) × (get_or i a 0 + 1 ≡ get_or new.start a 0 + get_or new.lengths a 0)
    last a h j (inr q) e = (j, inr q, e)
    last a h j (inl b) e =
        let k : a < length old.start = omega (arith, sides) in
        let w = l.last a k in
        (w.0, inl w.1, omega (arith, w.2, e, b.high a k, (has w.0 (inl w.1)).high a h))

-- a full box is the least one of what it has
pub full-least : (box : Box) → IsFull box → IsLeastBox (IsInBox box) box
full-least box f = record {
  sides = f.sides;
  has = λ j b. b;
  some = (box.start, start-inside box f);
  first = λ a h. (box.start, start-inside box f, refl);
  last = λ a h. (end_on box a, end-inside box a f h, end-at box a f h);
}

-- the least box of small indexes is full
pub least-full : (P : List ℕ → Type 0) (box : Box) → ((j : List ℕ) → P j → (a : ℕ) → a < length j → get_or j a 0 < 2 ^ 31) → IsLeastBox P box → IsFull box
least-full P box small l = record {
  sides = l.sides;
  filled = λ a h. let w = l.first a h in omega (arith, w.2, (l.has w.0 w.1).high a h);
  ends = λ a h. let w = l.last a h in omega (arith, w.2, small w.0 w.1 a (omega (arith, (l.has w.0 w.1).axes)));
}

-- ---- one axis more

pub pushed-at : (xs ys : List ℕ) (x k : ℕ) (f : ℕ → ℕ) → ys ≡ xs ++ x ∷ [] → length xs ≡ k → ((a : ℕ) → a < k → get_or xs a 0 ≡ f a) → x ≡ f k → (a : ℕ) → a < k + 1 → get_or ys a 0 ≡ f a
pushed-at xs ys x k f e n before here a h = by (cases_lt a k)
  where
    by : (a < k) ⊎ (k ≤ a) → get_or ys a 0 ≡ f a
    by (inl b) = ap (λ zs. get_or zs a 0) e ∙ get_or_append_left xs (x ∷ []) 0 a (omega (arith, n, b)) ∙ before a b
    by (inr b) = let same : a ≡ k = omega (arith, h, b) in ap (λ zs. get_or zs a 0) e ∙ get_or_push xs x 0 a (n ∙ sym same) ∙ here ∙ ap f (sym same)

pub pushed-sum : (xs ys us vs : List ℕ) (x u k : ℕ) (f : ℕ → ℕ) → ys ≡ xs ++ x ∷ [] → vs ≡ us ++ u ∷ [] → length xs ≡ k → length us ≡ k → ((a : ℕ) → a < k → get_or xs a 0 + get_or us a 0 ≡ f a) → x + u ≡ f k → (a : ℕ) → a < k + 1 → get_or ys a 0 + get_or vs a 0 ≡ f a
pushed-sum xs ys us vs x u k f e g n m before here a h =
    let p = pushed-at xs ys x k (λ b. cond (nat_eq b k) x (get_or xs b 0)) e n (λ b l. sym (other b l)) (sym (same k refl)) a h in
    let q = pushed-at us vs u k (λ b. cond (nat_eq b k) u (get_or us b 0)) g m (λ b l. sym (rest b l)) (sym (last k refl)) a h in
    by (cases_lt a k) p q
  where
    other : (b : ℕ) → b < k → cond (nat_eq b k) x (get_or xs b 0) ≡ get_or xs b 0
    other b l = grind arith

    rest : (b : ℕ) → b < k → cond (nat_eq b k) u (get_or us b 0) ≡ get_or us b 0
    rest b l = grind arith

    same : (b : ℕ) → b ≡ k → cond (nat_eq b k) x (get_or xs b 0) ≡ x
    same b l = grind arith

    last : (b : ℕ) → b ≡ k → cond (nat_eq b k) u (get_or us b 0) ≡ u
    last b l = grind arith

    by : (a < k) ⊎ (k ≤ a) → get_or ys a 0 ≡ cond (nat_eq a k) x (get_or xs a 0) → get_or vs a 0 ≡ cond (nat_eq a k) u (get_or us a 0) → get_or ys a 0 + get_or vs a 0 ≡ f a
    by (inl b) p q = omega (arith, p ∙ other a b, q ∙ rest a b, before a b)
    by (inr b) p q = let e : a ≡ k = omega (arith, h, b) in omega (arith, p ∙ same a e, q ∙ last a e, here, ap f e)
