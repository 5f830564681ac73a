-- Regions that are widened by what elements use of one operand.
use Rattle.std.proofs.Common.{◌≡◌, ◌≢◌, ℕ, zero, suc, ◌+◌, ◌-◌, ◌<◌, ◌≤◌, List, [], ◌∷◌, ◌++◌, length, get_or, take, drop, cond, Bool, true, false, refl, ap, sym, subst, ◌∙◌, arith, inl, inr, ◌⊎◌, Option, add-one, append_assoc}
use Rattle.std.specs.Prelude.{Contains, IsTrue}
use Rattle.std.proofs.lemmas.List.{take_at, drop_at, length-take-le, drop_more, drop-drop}
use Rattle.small_facts.proofs.Lists.{first_of_drop}
use Rattle.nd_shape.specs.Region.{Box}
use Rattle.nd_shape.specs.Index.{IsIn}
use Rattle.nd_shape.proofs.Axes.{IsIn-at}
use Rattle.nd_grid.specs.Grid.{kept_shape, is_among}
use Rattle.nd_grid.proofs.Slicing.{in-cons, next-drop, there as in-list}
use Rattle.array_expr.specs.declared.expr.Node.{Node}
use Rattle.array_expr.specs.Node.{shape_at}
use Rattle.input_regions.specs.Needed.{region_at}
use Rattle.input_regions.specs.Uses.{IsAt, IsAlong, kept_number}
use Rattle.input_regions.specs.Widening.{Widens, AreFull, AreFit, CanAsk, CanHave, IsEither, IsFromTo, IsUsed, end_along}
use Rattle.input_regions.proofs.Between.{AreBetween, IsBetween, front-in, from-between, from-to-first, from-to-front, from-to-back, from-to-lengths, from-to-with-front, from-to-with-back}
use Rattle.input_regions.proofs.Widened.{widens-between, widens-same, widens-two, widens-none, widens-fit, fit-full, can-have, shape-limits}
use Rattle.nd_grid.proofs.Woven.{in-rest}
use Rattle.plain_eval.proofs.Contracting.{left-kept}

-- ---- one element each

pub image-used : (of : ℕ) (f : List ℕ → List ℕ) (first last low high : List ℕ) (old new : List (Option Box)) → IsFromTo first last last → low ≡ f first → high ≡ f last → ((i : List ℕ) → IsFromTo first last i → AreBetween (f first) (f last) (f i))
    → Widens (IsEither of low high) old new → Widens (IsUsed first last (λ i k j. IsAt of (f i) k j)) old new
image-used of f first last low high old new o el eh between w =
    widens-between of (f first) (f last) (IsUsed first last (λ i k j. IsAt of (f i) k j)) old new
    (subst (λ h. Widens (IsEither of (f first) h) old new) eh (subst (λ l. Widens (IsEither of l high) old new) el w))
    (record { index = first; inside = from-to-first first last last o; is = (refl, refl) })
    (record { index = last; inside = o; is = (refl, refl) })
    (λ k j u. (u.is.0, subst (AreBetween (f first) (f last)) (sym u.is.1) (between u.index u.inside)))

pub image-in : (nodes : List Node) (of : ℕ) (f : List ℕ → List ℕ) (first last : List ℕ) → ((i : List ℕ) → IsFromTo first last i → IsIn (shape_at nodes of) (f i)) → (k : ℕ) (j : List ℕ) → IsUsed first last (λ i k j. IsAt of (f i) k j) k j → IsIn (shape_at nodes k) j
image-in nodes of f first last inside k j u = subst (λ n. IsIn (shape_at nodes n) j) (sym u.is.0) (subst (IsIn (shape_at nodes of)) (sym u.is.1) (inside u.index u.inside))

pub ask-full : (nodes : List Node) (regions : List (Option Box)) (of : ℕ) → CanAsk nodes regions of → AreFull regions
ask-full nodes regions of c = fit-full nodes regions c.sound c.fit

pub ask-have : (nodes : List Node) (regions : List (Option Box)) (of : ℕ) (i : List ℕ) → CanAsk nodes regions of → IsIn (shape_at nodes of) i → CanHave (region_at regions of) i
ask-have nodes regions of i c h = can-have nodes regions of i (shape-limits nodes of c.sound c.there) c.fit h

pub image-both : (nodes : List Node) (of : ℕ) (f : List ℕ → List ℕ) (first last low high : List ℕ) (old new : List (Option Box)) → CanAsk nodes old of → IsFromTo first last last → ((i : List ℕ) → IsFromTo first last i → IsIn (shape_at nodes of) (f i)) → low ≡ f first → high ≡ f last
    → ((i : List ℕ) → IsFromTo first last i → AreBetween (f first) (f last) (f i)) → Widens (IsEither of low high) old new → Widens (IsUsed first last (λ i k j. IsAt of (f i) k j)) old new × AreFit nodes new
image-both nodes of f first last low high old new c o inside el eh between w =
    let u = image-used of f first last low high old new o el eh between w in
    (u, widens-fit nodes (IsUsed first last (λ i k j. IsAt of (f i) k j)) old new c.fit u (image-in nodes of f first last inside))

-- ---- all along some axes

some-nonzero : (n : ℕ) → n ≢ 0 → n - 1 < n
some-nonzero zero h = absurd (h refl)
some-nonzero (suc n) h = omega arith

pub end-inside : (k : ℕ) (ns axes is : List ℕ) (e : Bool) → ((a : ℕ) → a < length ns → get_or ns a 0 ≢ 0) → IsIn (kept_shape k ns axes) is → IsIn ns (end_along k ns axes is e)
end-inside k [] axes is e filled h = tt
end-inside k (n ∷ ns) axes is e filled h = by_case (λ js g. end-inside (suc k) ns axes js e (λ a b. filled (suc a) (omega (arith, b))) g) (is_among k axes) h
  where
    end : (e : Bool) → cond e (n - 1) 0 < n
    end true = some-nonzero n (filled 0 (omega arith))
    end false = omega (arith, some-nonzero n (filled 0 (omega arith)))

    by_case : ((js : List ℕ) → IsIn (kept_shape (suc k) ns axes) js → IsIn ns (end_along (suc k) ns axes js e)) → (b : Bool) → IsIn (cond b (kept_shape (suc k) ns axes) (n ∷ kept_shape (suc k) ns axes)) is
        → IsIn (n ∷ ns) (cond b (cond e (n - 1) 0 ∷ end_along (suc k) ns axes is e) (get_or is 0 0 ∷ end_along (suc k) ns axes (drop 1 is) e))
    by_case rest true g = (end e, rest is g)
    by_case rest false g = let p = front-in n (kept_shape (suc k) ns axes) is g in (p.0, rest (drop 1 is) p.1)

pub end-kept : (k : ℕ) (ns axes is : List ℕ) (e : Bool) → IsIn (kept_shape k ns axes) is → kept_shape k (end_along k ns axes is e) axes ≡ is
end-kept k [] axes [] e h = refl
end-kept k [] axes (i ∷ is) e h = absurd h
end-kept k (n ∷ ns) axes is e h = by_case (λ js g. end-kept (suc k) ns axes js e g) (is_among k axes) refl h
  where
    read : (b : Bool) (m : ℕ) (ms : List ℕ) → is_among k axes ≡ b → kept_shape k (m ∷ ms) axes ≡ cond b (kept_shape (suc k) ms axes) (m ∷ kept_shape (suc k) ms axes)
    read b m ms same = ap (λ x. cond x (kept_shape (suc k) ms axes) (m ∷ kept_shape (suc k) ms axes)) same

    whole : ((js : List ℕ) → IsIn (kept_shape (suc k) ns axes) js → kept_shape (suc k) (end_along (suc k) ns axes js e) axes ≡ js) → (is : List ℕ) → IsIn (n ∷ kept_shape (suc k) ns axes) is → get_or is 0 0 ∷ kept_shape (suc k) (end_along (suc k) ns axes (drop 1 is) e) axes ≡ is
    whole rest [] g = absurd g
    whole rest (i ∷ is) g = ap (λ js. i ∷ js) (rest is g.1)

    by_case : ((js : List ℕ) → IsIn (kept_shape (suc k) ns axes) js → kept_shape (suc k) (end_along (suc k) ns axes js e) axes ≡ js) → (b : Bool) → is_among k axes ≡ b → IsIn (cond b (kept_shape (suc k) ns axes) (n ∷ kept_shape (suc k) ns axes)) is
        → kept_shape k (cond b (cond e (n - 1) 0 ∷ end_along (suc k) ns axes is e) (get_or is 0 0 ∷ end_along (suc k) ns axes (drop 1 is) e)) axes ≡ is
    by_case rest true same g = read true (cond e (n - 1) 0) (end_along (suc k) ns axes is e) same ∙ rest is g
    by_case rest false same g = read false (get_or is 0 0) (end_along (suc k) ns axes (drop 1 is) e) same ∙ whole rest is g

front-between : (i : ℕ) (ps bs is : List ℕ) → AreBetween ps bs (i ∷ is) → IsBetween (get_or ps 0 0) (get_or bs 0 0) i × AreBetween (drop 1 ps) (drop 1 bs) is
front-between i [] [] is h = absurd h
front-between i [] (y ∷ bs) is h = absurd h
front-between i (x ∷ ps) [] is h = absurd h
front-between i (x ∷ ps) (y ∷ bs) is h = h

pub end-between : (k : ℕ) (ns axes ps bs js : List ℕ) → IsIn ns js → AreBetween ps bs (kept_shape k js axes) → AreBetween (end_along k ns axes ps false) (end_along k ns axes bs true) js
end-between k [] axes ps bs [] h g = tt
end-between k [] axes ps bs (j ∷ js) h g = absurd h
end-between k (n ∷ ns) axes ps bs [] h g = absurd h
end-between k (n ∷ ns) axes ps bs (j ∷ js) h g = by_case (λ x y r. end-between (suc k) ns axes x y js h.1 r) (is_among k axes) g
  where
    by_case : ((x y : List ℕ) → AreBetween x y (kept_shape (suc k) js axes) → AreBetween (end_along (suc k) ns axes x false) (end_along (suc k) ns axes y true) js) → (b : Bool) → AreBetween ps bs (cond b (kept_shape (suc k) js axes) (j ∷ kept_shape (suc k) js axes))
        → AreBetween (cond b (0 ∷ end_along (suc k) ns axes ps false) (get_or ps 0 0 ∷ end_along (suc k) ns axes (drop 1 ps) false))
        (cond b ((n - 1) ∷ end_along (suc k) ns axes bs true) (get_or bs 0 0 ∷ end_along (suc k) ns axes (drop 1 bs) true)) (j ∷ js)
    by_case rest true g = (inl (omega arith, omega (arith, h.0)), rest ps bs g)
    by_case rest false g = let p = front-between j ps bs (kept_shape (suc k) js axes) g in (p.0, rest (drop 1 ps) (drop 1 bs) p.1)

pub along-used : (of : ℕ) (dims axes first last low high : List ℕ) (old new : List (Option Box)) → IsFromTo first last last → ((a : ℕ) → a < length dims → get_or dims a 0 ≢ 0) → IsIn (kept_shape 0 dims axes) first → IsIn (kept_shape 0 dims axes) last
    → low ≡ end_along 0 dims axes first false → high ≡ end_along 0 dims axes last true → Widens (IsEither of low high) old new → Widens (IsUsed first last (IsAlong of dims axes)) old new
along-used of dims axes first last low high old new o filled hf hl el eh w =
    let a = end_along 0 dims axes first false in
    let b = end_along 0 dims axes last true in
    widens-between of a b (IsUsed first last (IsAlong of dims axes)) old new
    (subst (λ h. Widens (IsEither of a h) old new) eh (subst (λ l. Widens (IsEither of l high) old new) el w))
    (record { index = first; inside = from-to-first first last last o; is = record { operand = refl; inside = end-inside 0 dims axes first false filled hf; same = end-kept 0 dims axes first false hf } })
    (record { index = last; inside = o; is = record { operand = refl; inside = end-inside 0 dims axes last true filled hl; same = end-kept 0 dims axes last true hl } })
    (λ k j u. (u.is.operand, end-between 0 dims axes first last j u.is.inside (subst (AreBetween first last) (sym u.is.same) (from-between first last u.index u.inside))))

pub along-none : (of : ℕ) (dims axes first last : List ℕ) (old : List (Option Box)) (a : ℕ) → a < length dims → get_or dims a 0 ≡ 0 → AreFull old → Widens (IsUsed first last (IsAlong of dims axes)) old old
along-none of dims axes first last old a h z f = widens-none (IsUsed first last (IsAlong of dims axes)) old f (λ k j u. absurd (omega (arith, IsIn-at dims j a u.is.inside h, z)))

pub along-in : (nodes : List Node) (of : ℕ) (axes first last : List ℕ) (k : ℕ) (j : List ℕ) → IsUsed first last (IsAlong of (shape_at nodes of) axes) k j → IsIn (shape_at nodes k) j
along-in nodes of axes first last k j u = subst (λ n. IsIn (shape_at nodes n) j) (sym u.is.operand) u.is.inside

pub along-both : (nodes : List Node) (of : ℕ) (dims axes first last low high : List ℕ) (old new : List (Option Box)) → dims ≡ shape_at nodes of → CanAsk nodes old of → IsFromTo first last last → ((a : ℕ) → a < length dims → get_or dims a 0 ≢ 0) → ((i : List ℕ) → IsFromTo first last i → IsIn (kept_shape 0 (shape_at nodes of) axes) i)
    → low ≡ end_along 0 dims axes first false → high ≡ end_along 0 dims axes last true → Widens (IsEither of low high) old new → Widens (IsUsed first last (IsAlong of (shape_at nodes of) axes)) old new × AreFit nodes new
along-both nodes of dims axes first last low high old new e c o filled inside el eh w =
    let u = along-used of (shape_at nodes of) axes first last low high old new o (subst (λ (ns : List ℕ). (a : ℕ) → a < length ns → get_or ns a 0 ≢ 0) e filled) (inside first (from-to-first first last last o)) (inside last o)
    (el ∙ ap (λ ns. end_along 0 ns axes first false) e) (eh ∙ ap (λ ns. end_along 0 ns axes last true) e) w in
    (u, widens-fit nodes (IsUsed first last (IsAlong of (shape_at nodes of) axes)) old new c.fit u (along-in nodes of axes first last))

-- an end of what lies along some axes can be had
pub end-have : (nodes : List Node) (of : ℕ) (dims axes is i : List ℕ) (e : Bool) (old : List (Option Box)) → dims ≡ shape_at nodes of → CanAsk nodes old of → ((a : ℕ) → a < length dims → get_or dims a 0 ≢ 0) → IsIn (kept_shape 0 (shape_at nodes of) axes) is → i ≡ end_along 0 dims axes is e → CanHave (region_at old of) i
end-have nodes of dims axes is i e old same c filled inside is_end =
    ask-have nodes old of i c (subst (IsIn (shape_at nodes of)) (sym (is_end ∙ ap (λ ns. end_along 0 ns axes is e) same))
    (end-inside 0 (shape_at nodes of) axes is e (subst (λ (ns : List ℕ). (a : ℕ) → a < length ns → get_or ns a 0 ≢ 0) same filled) inside))

-- ---- two operands

pub used-two : (first last : List ℕ) (U V : List ℕ → ℕ → List ℕ → Type 0) (old mid new : List (Option Box)) → Widens (IsUsed first last U) old mid → Widens (IsUsed first last V) mid new → Widens (IsUsed first last (λ i k j. U i k j ⊎ V i k j)) old new
used-two first last U V old mid new v w =
    widens-same (λ k j. IsUsed first last U k j ⊎ IsUsed first last V k j) (IsUsed first last (λ i k j. U i k j ⊎ V i k j)) old new there back (widens-two (IsUsed first last U) (IsUsed first last V) old mid new v w)
  where
    there : (k : ℕ) (j : List ℕ) → IsUsed first last U k j ⊎ IsUsed first last V k j → IsUsed first last (λ i k j. U i k j ⊎ V i k j) k j
    there k j (inl u) = record { index = u.index; inside = u.inside; is = inl u.is }
    there k j (inr u) = record { index = u.index; inside = u.inside; is = inr u.is }

    back : (k : ℕ) (j : List ℕ) → IsUsed first last (λ i k j. U i k j ⊎ V i k j) k j → IsUsed first last U k j ⊎ IsUsed first last V k j
    back k j u = by u.index u.inside u.is
      where
        by : (i : List ℕ) → IsFromTo first last i → U i k j ⊎ V i k j → IsUsed first last U k j ⊎ IsUsed first last V k j
        by i h (inl x) = inl (record { index = i; inside = h; is = x })
        by i h (inr x) = inr (record { index = i; inside = h; is = x })

pub used-front : (n : ℕ) (first last : List ℕ) (U : List ℕ → ℕ → List ℕ → Type 0) (old new : List (Option Box)) → n ≤ length first → IsFromTo first last last → Widens (IsUsed (take n first) (take n last) U) old new → Widens (IsUsed first last (λ i. U (take n i))) old new
used-front n first last U old new h o w = widens-same (IsUsed (take n first) (take n last) U) (IsUsed first last (λ i. U (take n i))) old new there back w
  where
    there : (k : ℕ) (j : List ℕ) → IsUsed (take n first) (take n last) U k j → IsUsed first last (λ i. U (take n i)) k j
    there k j u = record {
      index = u.index ++ drop n first;
      inside = from-to-with-front n first last u.index h o u.inside;
      is = subst (λ i. U i k j) (sym (take_at u.index (drop n first) n (number u.index u.inside))) u.is;
    }
      where
        number : (i : List ℕ) → IsFromTo (take n first) (take n last) i → length i ≡ n
        number i f = (from-to-lengths (take n first) (take n last) i f).1 ∙ length-take-le n first h

    back : (k : ℕ) (j : List ℕ) → IsUsed first last (λ i. U (take n i)) k j → IsUsed (take n first) (take n last) U k j
    back k j u = record { index = take n u.index; inside = from-to-front n first last u.index u.inside; is = u.is }

pub used-back : (n : ℕ) (first last : List ℕ) (U : List ℕ → ℕ → List ℕ → Type 0) (old new : List (Option Box)) → n ≤ length first → IsFromTo first last last → Widens (IsUsed (drop n first) (drop n last) U) old new → Widens (IsUsed first last (λ i. U (drop n i))) old new
used-back n first last U old new h o w = widens-same (IsUsed (drop n first) (drop n last) U) (IsUsed first last (λ i. U (drop n i))) old new there back w
  where
    there : (k : ℕ) (j : List ℕ) → IsUsed (drop n first) (drop n last) U k j → IsUsed first last (λ i. U (drop n i)) k j
    there k j u = record {
      index = take n first ++ u.index;
      inside = from-to-with-back n first last u.index h o u.inside;
      is = subst (λ i. U i k j) (sym (drop_at (take n first) u.index n (length-take-le n first h))) u.is;
    }

    back : (k : ℕ) (j : List ℕ) → IsUsed first last (λ i. U (drop n i)) k j → IsUsed (drop n first) (drop n last) U k j
    back k j u = record { index = drop n u.index; inside = from-to-back n first last u.index u.inside; is = u.is }

-- ---- the loop over the axes of an operand

pub record AlongStep (ns axes kept own res : List ℕ) (k used : ℕ) (e gone : Bool) : Type 0 where
  pub there : gone ≡ false → used < length kept
  pub inside : IsIn (kept_shape (k + 1) (drop (k + 1) ns) axes) (drop (cond gone used (used + 1)) kept)
  pub value : (own ++ cond gone (cond e (get_or ns k 0 - 1) 0) (get_or kept used 0) ∷ []) ++ end_along (k + 1) (drop (k + 1) ns) axes (drop (cond gone used (used + 1)) kept) e ≡ res

pub along-step : (ns axes kept own res : List ℕ) (k used : ℕ) (e gone : Bool) → k < length ns → gone ≡ is_among k axes → IsIn (kept_shape k (drop k ns) axes) (drop used kept) → own ++ end_along k (drop k ns) axes (drop used kept) e ≡ res → AlongStep ns axes kept own res k used e gone
along-step ns axes kept own res k used e gone h b inside value =
    let dn : drop k ns ≡ get_or ns k 0 ∷ drop (k + 1) ns = drop_more ns k 0 h in
    let there : IsIn (cond gone (kept_shape (suc k) (drop (k + 1) ns) axes) (get_or ns k 0 ∷ kept_shape (suc k) (drop (k + 1) ns) axes)) (drop used kept) =
    subst (λ x. IsIn (cond x (kept_shape (suc k) (drop (k + 1) ns) axes) (get_or ns k 0 ∷ kept_shape (suc k) (drop (k + 1) ns) axes)) (drop used kept)) (sym b) (subst (λ xs. IsIn (kept_shape k xs axes) (drop used kept)) dn inside) in
    let whole : own ++ cond gone (cond e (get_or ns k 0 - 1) 0 ∷ end_along (suc k) (drop (k + 1) ns) axes (drop used kept) e) (get_or (drop used kept) 0 0 ∷ end_along (suc k) (drop (k + 1) ns) axes (drop 1 (drop used kept)) e) ≡ res =
    subst (λ x. own ++ cond x (cond e (get_or ns k 0 - 1) 0 ∷ end_along (suc k) (drop (k + 1) ns) axes (drop used kept) e) (get_or (drop used kept) 0 0 ∷ end_along (suc k) (drop (k + 1) ns) axes (drop 1 (drop used kept)) e) ≡ res) (sym b)
    (ap (λ xs. own ++ end_along k xs axes (drop used kept) e) (sym dn) ∙ value) in
    by_case gone there whole
  where
    by_case : (gone : Bool) → IsIn (cond gone (kept_shape (suc k) (drop (k + 1) ns) axes) (get_or ns k 0 ∷ kept_shape (suc k) (drop (k + 1) ns) axes)) (drop used kept)
        → own ++ cond gone (cond e (get_or ns k 0 - 1) 0 ∷ end_along (suc k) (drop (k + 1) ns) axes (drop used kept) e) (get_or (drop used kept) 0 0 ∷ end_along (suc k) (drop (k + 1) ns) axes (drop 1 (drop used kept)) e) ≡ res
        → AlongStep ns axes kept own res k used e gone
    by_case true there whole = record {
      there = λ x. cc;
      inside = subst (λ m. IsIn (kept_shape m (drop (k + 1) ns) axes) (drop used kept)) (sym (add-one k)) there;
      value = subst (λ m. (own ++ cond e (get_or ns k 0 - 1) 0 ∷ []) ++ end_along m (drop (k + 1) ns) axes (drop used kept) e ≡ res) (sym (add-one k)) (append_assoc own (cond e (get_or ns k 0 - 1) 0 ∷ []) _ ∙ whole);
    }
    by_case false there whole =
        let i = in-cons (get_or ns k 0) (kept_shape (suc k) (drop (k + 1) ns) axes) (drop used kept) there in
        record {
          there = λ x. in-list kept used i.0 i.1 i.2;
          inside = subst (λ m. IsIn (kept_shape m (drop (k + 1) ns) axes) (drop (used + 1) kept)) (sym (add-one k)) (subst (IsIn (kept_shape (suc k) (drop (k + 1) ns) axes)) (sym (next-drop kept used i.0 i.1 i.2)) i.4);
          value = subst (λ m. (own ++ get_or kept used 0 ∷ []) ++ end_along m (drop (k + 1) ns) axes (drop (used + 1) kept) e ≡ res) (sym (add-one k))
              (append_assoc own (get_or kept used 0 ∷ []) _
              ∙ ap (λ x. own ++ x ∷ end_along (suc k) (drop (k + 1) ns) axes (drop (used + 1) kept) e) (sym (first_of_drop kept used))
              ∙ ap (λ xs. own ++ get_or (drop used kept) 0 0 ∷ end_along (suc k) (drop (k + 1) ns) axes xs e) (sym (drop-drop 1 used kept))
              ∙ whole);
        }

-- ---- lengths that aren't 0

pub no-zero : (dims : List ℕ) (b : Bool) → (Contains dims 0 → IsTrue b) → b ≡ false → (a : ℕ) → a < length dims → get_or dims a 0 ≢ 0
no-zero dims b f e a h z = absurd (not_both b (f (a, h, z)) e)
  where
    not_both : (b : Bool) → IsTrue b → b ≡ false → ⊥
    not_both b t e = cc

pub end-lengths : (k : ℕ) (ns axes is : List ℕ) (e : Bool) → length (end_along k ns axes is e) ≡ length ns
end-lengths k [] axes is e = refl
end-lengths k (n ∷ ns) axes is e = by_case (λ js. end-lengths (suc k) ns axes js e) (is_among k axes)
  where
    by_case : ((js : List ℕ) → length (end_along (suc k) ns axes js e) ≡ length ns) → (b : Bool) → length (cond b (cond e (n - 1) 0 ∷ end_along (suc k) ns axes is e) (get_or is 0 0 ∷ end_along (suc k) ns axes (drop 1 is) e)) ≡ suc (length ns)
    by_case rest true = ap suc (rest is)
    by_case rest false = ap suc (rest (drop 1 is))

-- ---- the operands of a product

pub paired-used : (left right : ℕ) (ls ms left_axes right_axes first last ff lf fb lb : List ℕ) (n : ℕ) (old mid new : List (Option Box)) → IsFromTo first last last → n ≡ kept_number ls left_axes → n ≤ length first → ff ≡ take n first → lf ≡ take n last → fb ≡ drop n first → lb ≡ drop n last
    → Widens (IsUsed ff lf (IsAlong left ls left_axes)) old mid → Widens (IsUsed fb lb (IsAlong right ms right_axes)) mid new
    → Widens (IsUsed first last (λ i k j. IsAlong left ls left_axes (take (kept_number ls left_axes) i) k j ⊎ IsAlong right ms right_axes (drop (kept_number ls left_axes) i) k j)) old new
paired-used left right ls ms left_axes right_axes first last ff lf fb lb n old mid new o e h a b c d v w =
    subst (λ m. Widens (IsUsed first last (λ i k j. IsAlong left ls left_axes (take m i) k j ⊎ IsAlong right ms right_axes (drop m i) k j)) old new) e
    (used-two first last (λ i. IsAlong left ls left_axes (take n i)) (λ i. IsAlong right ms right_axes (drop n i)) old mid new
    (used-front n first last (IsAlong left ls left_axes) old mid h o (subst (λ x. Widens (IsUsed (take n first) x (IsAlong left ls left_axes)) old mid) b (subst (λ x. Widens (IsUsed x lf (IsAlong left ls left_axes)) old mid) a v)))
    (used-back n first last (IsAlong right ms right_axes) mid new h o (subst (λ x. Widens (IsUsed (drop n first) x (IsAlong right ms right_axes)) mid new) d (subst (λ x. Widens (IsUsed x lb (IsAlong right ms right_axes)) mid new) c w))))

front-of-both : (ns ms is rest : List ℕ) → length is ≡ length ns → IsIn (ns ++ ms) (is ++ rest) → IsIn ns is
front-of-both [] ms [] rest e h = tt
front-of-both [] ms (i ∷ is) rest e h = absurd (omega (arith, e))
front-of-both (n ∷ ns) ms [] rest e h = absurd (omega (arith, e))
front-of-both (n ∷ ns) ms (i ∷ is) rest e h = (h.0, front-of-both ns ms is rest (omega (arith, e)) h.1)

pub front-inside : (ns ms first last : List ℕ) (n : ℕ) → n ≡ length ns → n ≤ length first → IsFromTo first last last → ((i : List ℕ) → IsFromTo first last i → IsIn (ns ++ ms) i) → (i : List ℕ) → IsFromTo (take n first) (take n last) i → IsIn ns i
front-inside ns ms first last n e h o inside i f =
    front-of-both ns ms i (drop n first) ((from-to-lengths (take n first) (take n last) i f).1 ∙ length-take-le n first h ∙ e) (inside (i ++ drop n first) (from-to-with-front n first last i h o f))

pub back-inside : (ns ms first last : List ℕ) (n : ℕ) → n ≡ length ns → n ≤ length first → IsFromTo first last last → ((i : List ℕ) → IsFromTo first last i → IsIn (ns ++ ms) i) → (i : List ℕ) → IsFromTo (drop n first) (drop n last) i → IsIn ms i
back-inside ns ms first last n e h o inside i f =
    subst (IsIn ms) (ap (λ m. drop m (take n first ++ i)) (sym e) ∙ drop_at (take n first) i n (length-take-le n first h)) (in-rest ns ms (take n first ++ i) (inside (take n first ++ i) (from-to-with-back n first last i h o f)))

pub both-number : (ns ms first last : List ℕ) → IsFromTo first last last → ((i : List ℕ) → IsFromTo first last i → IsIn (ns ++ ms) i) → (length ns ≤ length first) × (length ns ≤ length last)
both-number ns ms first last o inside = (left-kept ns ms first (inside first (from-to-first first last last o)), left-kept ns ms last (inside last o))
