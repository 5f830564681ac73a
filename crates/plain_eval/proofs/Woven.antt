-- The loop over the axes of a product's operand, and that the index made of both parts lies in the operand.
use Rattle.std.proofs.Common.{◌≡◌, ℕ, suc, ◌+◌, ◌<◌, ◌≤◌, cond, Bool, true, false, List, [], ◌∷◌, ◌++◌, length, drop, take, set, get_or, ap, sym, subst, refl, ◌∙◌, arith, append_assoc, append-nil, add-one}
use Rattle.std.specs.Prelude.{nat_eq}
use Rattle.std.specs.List.{position_or_len}
use Rattle.std.proofs.lemmas.List.{drop_more, drop_all, drop-drop, take_all, take_more_set}
use Rattle.small_facts.proofs.Lists.{first_of_drop}
use Rattle.nd_shape.specs.Index.{IsIn}
use Rattle.nd_grid.specs.Grid.{is_among, kept_shape, woven}

-- what the loop has at axis k
pub record Weaving (ns axes is rs own res : List ℕ) (k used : ℕ) : Type 0 where
  pub kept : length (kept_shape k (drop k ns) axes) + used ≤ length is
  pub value : own ++ woven k (drop k ns) axes (drop used is) rs ≡ res

-- one axis on
pub record Woven (ns axes is rs own res : List ℕ) (k used : ℕ) (gone : Bool) : Type 0 where
  pub kept : gone ≡ false → used < length is
  pub next : Weaving ns axes is rs (own ++ cond gone (get_or rs (position_or_len (nat_eq k) axes) 0) (get_or is used 0) ∷ []) res (k + 1) (cond gone used (used + 1))

pub weave_step : (ns axes is rs own res : List ℕ) (k used : ℕ) (gone : Bool) → k < length ns → gone ≡ is_among k axes → Weaving ns axes is rs own res k used → Woven ns axes is rs own res k used gone
weave_step ns axes is rs own res k used gone h b loop =
    let dn : drop k ns ≡ get_or ns k 0 ∷ drop (k + 1) ns = drop_more ns k 0 h in
    let kept : length (cond gone (kept_shape (suc k) (drop (k + 1) ns) axes) (get_or ns k 0 ∷ kept_shape (suc k) (drop (k + 1) ns) axes)) + used ≤ length is =
    subst (λ x. length (cond x (kept_shape (suc k) (drop (k + 1) ns) axes) (get_or ns k 0 ∷ kept_shape (suc k) (drop (k + 1) ns) axes)) + used ≤ length is) (sym b) (subst (λ xs. length (kept_shape k xs axes) + used ≤ length is) dn loop.kept) in
    let value : own ++ cond gone (get_or rs (position_or_len (nat_eq k) axes) 0 ∷ woven (suc k) (drop (k + 1) ns) axes (drop used is) rs) (get_or (drop used is) 0 0 ∷ woven (suc k) (drop (k + 1) ns) axes (drop 1 (drop used is)) rs) ≡ res =
    subst (λ x. own ++ cond x (get_or rs (position_or_len (nat_eq k) axes) 0 ∷ woven (suc k) (drop (k + 1) ns) axes (drop used is) rs) (get_or (drop used is) 0 0 ∷ woven (suc k) (drop (k + 1) ns) axes (drop 1 (drop used is)) rs) ≡ res)
    (sym b) (ap (λ xs. own ++ woven k xs axes (drop used is) rs) (sym dn) ∙ loop.value) in
    by_case gone kept value
  where
    by_case : (gone : Bool) → length (cond gone (kept_shape (suc k) (drop (k + 1) ns) axes) (get_or ns k 0 ∷ kept_shape (suc k) (drop (k + 1) ns) axes)) + used ≤ length is
        → own ++ cond gone (get_or rs (position_or_len (nat_eq k) axes) 0 ∷ woven (suc k) (drop (k + 1) ns) axes (drop used is) rs) (get_or (drop used is) 0 0 ∷ woven (suc k) (drop (k + 1) ns) axes (drop 1 (drop used is)) rs) ≡ res
        → Woven ns axes is rs own res k used gone
    by_case true kept value = record {
      kept = λ x. cc;
      next = record {
        kept = subst (λ m. length (kept_shape m (drop (k + 1) ns) axes) + used ≤ length is) (sym (add-one k)) kept;
        value = subst (λ m. (own ++ get_or rs (position_or_len (nat_eq k) axes) 0 ∷ []) ++ woven m (drop (k + 1) ns) axes (drop used is) rs ≡ res) (sym (add-one k))
            (append_assoc own (get_or rs (position_or_len (nat_eq k) axes) 0 ∷ []) _ ∙ value);
      };
    }
    by_case false kept value = record {
      kept = λ x. omega arith;
      next = record {
        kept = subst (λ m. length (kept_shape m (drop (k + 1) ns) axes) + (used + 1) ≤ length is) (sym (add-one k)) (omega arith);
        value = subst (λ m. (own ++ get_or is used 0 ∷ []) ++ woven m (drop (k + 1) ns) axes (drop (used + 1) is) rs ≡ res) (sym (add-one k))
            (append_assoc own (get_or is used 0 ∷ []) _
            ∙ ap (λ x. own ++ x ∷ woven (suc k) (drop (k + 1) ns) axes (drop (used + 1) is) rs) (sym (first_of_drop is used))
            ∙ ap (λ xs. own ++ get_or (drop used is) 0 0 ∷ woven (suc k) (drop (k + 1) ns) axes xs rs) (sym (drop-drop 1 used is))
            ∙ value);
      };
    }

-- the place is written
pub weaving_written : (ns axes is rs own res : List ℕ) (k used v : ℕ) → k < length own → Weaving ns axes is rs (take k own ++ v ∷ []) res (k + 1) used → Weaving ns axes is rs (take (k + 1) (set own k v)) res (k + 1) used
weaving_written ns axes is rs own res k used v h s = subst (λ xs. Weaving ns axes is rs xs res (k + 1) used) (sym (take_more_set own k v h)) s

-- all axes are done
pub weaving_end : (ns axes is rs own res : List ℕ) (k used : ℕ) → length ns ≤ k → length own ≤ k → Weaving ns axes is rs (take k own) res k used → own ≡ res
weaving_end ns axes is rs own res k used h o s =
    sym (append-nil own) ∙ ap (λ xs. xs ++ []) (sym (take_all k own o)) ∙ ap (λ xs. take k own ++ woven k xs axes (drop used is) rs) (sym (drop_all k ns h)) ∙ s.value

-- ---- the index lies in the operand

-- an index, or more, whose first coordinates lie in a shape
abbrev pub BeginsIn : List ℕ → List ℕ → Type 0
BeginsIn [] is = Unit {0}
BeginsIn (n ∷ ns) [] = ⊥
BeginsIn (n ∷ ns) (i ∷ is) = (i < n) × BeginsIn ns is

pub begins-front : (ns ms is : List ℕ) → IsIn (ns ++ ms) is → BeginsIn ns is
begins-front [] ms is h = tt
begins-front (n ∷ ns) ms [] h = h
begins-front (n ∷ ns) ms (i ∷ is) h = (h.0, begins-front ns ms is h.1)

pub begins-all : (ns is : List ℕ) → IsIn ns is → BeginsIn ns is
begins-all [] is h = tt
begins-all (n ∷ ns) [] h = h
begins-all (n ∷ ns) (i ∷ is) h = (h.0, begins-all ns is h.1)

pub begins-length : (ns is : List ℕ) → BeginsIn ns is → length ns ≤ length is
begins-length [] is h = omega arith
begins-length (n ∷ ns) [] h = absurd h
begins-length (n ∷ ns) (i ∷ is) h = omega (arith, begins-length ns is h.1)

begins-cons : (n : ℕ) (ns is : List ℕ) → BeginsIn (n ∷ ns) is → (get_or is 0 0 < n) × BeginsIn ns (drop 1 is)
begins-cons n ns [] h = absurd h
begins-cons n ns (i ∷ is) h = h

pub woven-in : (k : ℕ) (ns axes is rs : List ℕ) → BeginsIn (kept_shape k ns axes) is → ((j : ℕ) → j < length ns → is_among (k + j) axes ≡ true → get_or rs (position_or_len (nat_eq (k + j)) axes) 0 < get_or ns j 0) → IsIn ns (woven k ns axes is rs)
woven-in k [] axes is rs h f = tt
woven-in k (n ∷ ns) axes is rs h f =
    let z : k + 0 ≡ k = omega arith in
    let here : is_among k axes ≡ true → get_or rs (position_or_len (nat_eq k) axes) 0 < n =
    λ a. subst (λ m. get_or rs (position_or_len (nat_eq m) axes) 0 < n) z (f 0 (omega arith) (ap (λ m. is_among m axes) z ∙ a)) in
    let later : (j : ℕ) → j < length ns → is_among (suc k + j) axes ≡ true → get_or rs (position_or_len (nat_eq (suc k + j)) axes) 0 < get_or ns j 0 =
    λ j b a.
    let s : k + suc j ≡ suc k + j = omega arith in
    subst (λ m. get_or rs (position_or_len (nat_eq m) axes) 0 < get_or ns j 0) s (f (suc j) (omega arith) (ap (λ m. is_among m axes) s ∙ a)) in
    by_case (is_among k axes) here (λ js g. woven-in (suc k) ns axes js rs g later) h
  where
    by_case : (b : Bool) → (b ≡ true → get_or rs (position_or_len (nat_eq k) axes) 0 < n) → ((js : List ℕ) → BeginsIn (kept_shape (suc k) ns axes) js → IsIn ns (woven (suc k) ns axes js rs))
        → BeginsIn (cond b (kept_shape (suc k) ns axes) (n ∷ kept_shape (suc k) ns axes)) is
        → IsIn (n ∷ ns) (cond b (get_or rs (position_or_len (nat_eq k) axes) 0 ∷ woven (suc k) ns axes is rs) (get_or is 0 0 ∷ woven (suc k) ns axes (drop 1 is) rs))
    by_case true here rest g = (here refl, rest is g)
    by_case false here rest g = let p = begins-cons n (kept_shape (suc k) ns axes) is g in (p.0, rest (drop 1 is) p.1)

-- ---- how many axes are kept

pub count_step : (ns axes : List ℕ) (k : ℕ) (gone : Bool) (count total : ℕ) → k < length ns → gone ≡ is_among k axes → count + length (kept_shape k (drop k ns) axes) ≡ total → cond gone count (count + 1) + length (kept_shape (k + 1) (drop (k + 1) ns) axes) ≡ total
count_step ns axes k gone count total h b e =
    let dn : drop k ns ≡ get_or ns k 0 ∷ drop (k + 1) ns = drop_more ns k 0 h in
    let now : count + length (cond gone (kept_shape (suc k) (drop (k + 1) ns) axes) (get_or ns k 0 ∷ kept_shape (suc k) (drop (k + 1) ns) axes)) ≡ total =
    subst (λ x. count + length (cond x (kept_shape (suc k) (drop (k + 1) ns) axes) (get_or ns k 0 ∷ kept_shape (suc k) (drop (k + 1) ns) axes)) ≡ total) (sym b) (subst (λ xs. count + length (kept_shape k xs axes) ≡ total) dn e) in
    subst (λ m. cond gone count (count + 1) + length (kept_shape m (drop (k + 1) ns) axes) ≡ total) (sym (add-one k)) (by_case gone now)
  where
    by_case : (gone : Bool) → count + length (cond gone (kept_shape (suc k) (drop (k + 1) ns) axes) (get_or ns k 0 ∷ kept_shape (suc k) (drop (k + 1) ns) axes)) ≡ total → cond gone count (count + 1) + length (kept_shape (suc k) (drop (k + 1) ns) axes) ≡ total
    by_case true e = e
    by_case false e = omega arith

pub count_end : (ns axes : List ℕ) (k count total : ℕ) → length ns ≤ k → count + length (kept_shape k (drop k ns) axes) ≡ total → count ≡ total
count_end ns axes k count total h e =
    let none : length (kept_shape k (drop k ns) axes) ≡ 0 = ap (λ xs. length (kept_shape k xs axes)) (drop_all k ns h) in
    omega (arith, none)
