-- The loop over the axes of a slice, and that the operand's index lies in the operand.
use Rattle.std.proofs.Common.{◌≡◌, ℕ, suc, ◌+◌, ◌<◌, ◌≤◌, ◌^◌, cond, Bool, true, false, List, [], ◌∷◌, ◌++◌, length, drop, take, set, get_or, refl, ap, sym, subst, ◌∙◌, arith, append_assoc, append-nil, add-one, ℤ, pos, negsuc, ◌+ℤ◌, ◌*ℤ◌, ◌≤ℤ◌, ◌<ℤ◌, inl, inr}
use Rattle.std.specs.Prelude.{unsigned_abs}
use Rattle.std.specs.List.{All}
use Rattle.std.proofs.lemmas.Int.{ints}
use Rattle.std.proofs.lemmas.List.{drop_more, drop_all, drop-drop, get_or-drop, take_all, take_more_set}
use Rattle.std.proofs.lemmas.Bool.{cases_lt}
use Rattle.nd_shape.specs.declared.slice.Steps.{Steps}
use Rattle.nd_shape.specs.Index.{IsIn}
use Rattle.nd_shape.specs.Slice.{StepsFitAxis, position, coordinate}
use Rattle.nd_grid.specs.Grid.{SlicesFit, sliced_shape, sliced_from, is_among}

pub SlicesFit-length : (k : ℕ) (ss : List Steps) (ns dropped : List ℕ) → SlicesFit k ss ns dropped → length ss ≡ length ns
SlicesFit-length k [] [] dropped f = refl
SlicesFit-length k [] (n ∷ ns) dropped f = absurd f
SlicesFit-length k (s ∷ ss) [] dropped f = absurd f
SlicesFit-length k (s ∷ ss) (n ∷ ns) dropped f = ap suc (SlicesFit-length (suc k) ss ns dropped f.2)

-- a place between 0 and a length
below_length : (z : ℤ) (n : ℕ) → pos 0 ≤ℤ z → z <ℤ pos n → unsigned_abs z < n
below_length (pos m) n low high = omega (arith, ints, high)
below_length (negsuc m) n low high = absurd (omega (arith, ints, low))

-- what the loop has at axis k
pub record Slicing (ss : List Steps) (ns dropped is own res : List ℕ) (k used : ℕ) : Type 0 where
  pub fits : SlicesFit k (drop k ss) (drop k ns) dropped
  pub inside : IsIn (sliced_shape k (drop k ss) dropped) (drop used is)
  pub value : own ++ sliced_from k (drop k ss) dropped (drop used is) ≡ res

fits-cons : (k : ℕ) (s : Steps) (ss : List Steps) (ns dropped : List ℕ) → SlicesFit k (s ∷ ss) ns dropped → (n : ℕ) × (ms : List ℕ) × (ns ≡ n ∷ ms) × StepsFitAxis s n × SlicesFit (suc k) ss ms dropped
fits-cons k s ss [] dropped f = absurd f
fits-cons k s ss (n ∷ ns) dropped f = (n, ns, refl, f.0, f.2)

pub in-cons : (n : ℕ) (ns is : List ℕ) → IsIn (n ∷ ns) is → (i : ℕ) × (js : List ℕ) × (is ≡ i ∷ js) × (i < n) × IsIn ns js
in-cons n ns [] h = absurd h
in-cons n ns (i ∷ js) h = (i, js, refl, h.0, h.1)

pub next-drop : (xs : List ℕ) (k x : ℕ) (ys : List ℕ) → drop k xs ≡ x ∷ ys → drop (k + 1) xs ≡ ys
next-drop xs k x ys e = sym (drop-drop 1 k xs) ∙ ap (drop 1) e

pub read-drop : (xs : List ℕ) (k x : ℕ) (ys : List ℕ) → drop k xs ≡ x ∷ ys → get_or xs k 0 ≡ x
read-drop xs k x ys e = let z : k + 0 ≡ k = omega arith in ap (λ j. get_or xs j 0) (sym z) ∙ sym (get_or-drop k xs 0 0) ∙ ap (λ zs. get_or zs 0 0) e

pub there : (xs : List ℕ) (k x : ℕ) (ys : List ℕ) → drop k xs ≡ x ∷ ys → k < length xs
there xs k x ys e = elim (cases_lt k (length xs)) [ inl h ↦ h | inr h ↦ absurd (let q : [] ≡ x ∷ ys = sym (drop_all k xs h) ∙ e in cc) ]

-- one axis on
pub record Sliced (ss : List Steps) (ns dropped is own res : List ℕ) (k used : ℕ) (s : Steps) (gone : Bool) : Type 0 where
  pub there : gone ≡ false → used < length is
  pub forward : gone ≡ false → pos 0 ≤ℤ position s (get_or is used 0)
  pub small : gone ≡ false → coordinate s (get_or is used 0) < 2 ^ 31
  pub next : Slicing ss ns dropped is (own ++ cond gone s.start (coordinate s (get_or is used 0)) ∷ []) res (k + 1) (cond gone used (used + 1))

pub sliced_step : (ss : List Steps) (ns dropped is own res : List ℕ) (k used : ℕ) (s d : Steps) (gone : Bool) → k < length ss → s ≡ get_or ss k d → gone ≡ is_among k dropped → All (λ n. n ≤ 2 ^ 31) ns
    → Slicing ss ns dropped is own res k used → Sliced ss ns dropped is own res k used s gone
sliced_step ss ns dropped is own res k used s d gone h e b bound loop =
    let ds : drop k ss ≡ s ∷ drop (k + 1) ss = drop_more ss k d h ∙ ap (λ x. x ∷ drop (k + 1) ss) (sym e) in
    let f = fits-cons k s (drop (k + 1) ss) (drop k ns) dropped (subst (λ xs. SlicesFit k xs (drop k ns) dropped) ds loop.fits) in
    let kn : k < length ns = there ns k f.0 f.1 f.2 in
    let nb : f.0 ≤ 2 ^ 31 = subst (λ x. x ≤ 2 ^ 31) (read-drop ns k f.0 f.1 f.2) (bound k 0 kn) in
    let tail : SlicesFit (suc k) (drop (k + 1) ss) (drop (k + 1) ns) dropped = subst (λ xs. SlicesFit (suc k) (drop (k + 1) ss) xs dropped) (sym (next-drop ns k f.0 f.1 f.2)) f.4 in
    let inside : IsIn (cond gone (sliced_shape (suc k) (drop (k + 1) ss) dropped) (s.count ∷ sliced_shape (suc k) (drop (k + 1) ss) dropped)) (drop used is) =
    subst (λ x. IsIn (cond x (sliced_shape (suc k) (drop (k + 1) ss) dropped) (s.count ∷ sliced_shape (suc k) (drop (k + 1) ss) dropped)) (drop used is)) (sym b) (subst (λ xs. IsIn (sliced_shape k xs dropped) (drop used is)) ds loop.inside) in
    let value : own ++ cond gone (s.start ∷ sliced_from (suc k) (drop (k + 1) ss) dropped (drop used is)) (coordinate s (get_or (drop used is) 0 0) ∷ sliced_from (suc k) (drop (k + 1) ss) dropped (drop 1 (drop used is))) ≡ res =
    subst (λ x. own ++ cond x (s.start ∷ sliced_from (suc k) (drop (k + 1) ss) dropped (drop used is)) (coordinate s (get_or (drop used is) 0 0) ∷ sliced_from (suc k) (drop (k + 1) ss) dropped (drop 1 (drop used is))) ≡ res) (sym b)
    (ap (λ xs. own ++ sliced_from k xs dropped (drop used is)) (sym ds) ∙ loop.value) in
    by_case gone inside value nb f.3 tail
  where
    by_case : (gone : Bool) → IsIn (cond gone (sliced_shape (suc k) (drop (k + 1) ss) dropped) (s.count ∷ sliced_shape (suc k) (drop (k + 1) ss) dropped)) (drop used is)
        → own ++ cond gone (s.start ∷ sliced_from (suc k) (drop (k + 1) ss) dropped (drop used is)) (coordinate s (get_or (drop used is) 0 0) ∷ sliced_from (suc k) (drop (k + 1) ss) dropped (drop 1 (drop used is))) ≡ res
        → {n : ℕ} → n ≤ 2 ^ 31 → StepsFitAxis s n → SlicesFit (suc k) (drop (k + 1) ss) (drop (k + 1) ns) dropped → Sliced ss ns dropped is own res k used s gone
    by_case true inside value nb f tail = record {
      there = λ x. cc;
      forward = λ x. absurd (cc);
      small = λ x. cc;
      next = record {
        fits = subst (λ m. SlicesFit m (drop (k + 1) ss) (drop (k + 1) ns) dropped) (sym (add-one k)) tail;
        inside = subst (λ m. IsIn (sliced_shape m (drop (k + 1) ss) dropped) (drop used is)) (sym (add-one k)) inside;
        value = subst (λ m. (own ++ s.start ∷ []) ++ sliced_from m (drop (k + 1) ss) dropped (drop used is) ≡ res) (sym (add-one k)) (append_assoc own (s.start ∷ []) _ ∙ value);
      };
    }
    by_case false inside value {n} nb f tail =
        let i = in-cons s.count (sliced_shape (suc k) (drop (k + 1) ss) dropped) (drop used is) inside in
        let g : get_or is used 0 ≡ i.0 = read-drop is used i.0 i.1 i.2 in
        let z : used + 0 ≡ used = omega arith in
        let g0 : get_or (drop used is) 0 0 ≡ get_or is used 0 = get_or-drop used is 0 0 ∙ ap (λ j. get_or is j 0) z in
        let lt : get_or is used 0 < s.count = rw g i.3 in
        let c : coordinate s (get_or is used 0) < n = below_length (position s (get_or is used 0)) n (f.low (get_or is used 0) lt) (f.high (get_or is used 0) lt) in
        record {
          there = λ x. there is used i.0 i.1 i.2;
          forward = λ x. f.low (get_or is used 0) lt;
          small = λ x. omega (arith, c, nb);
          next = record {
            fits = subst (λ m. SlicesFit m (drop (k + 1) ss) (drop (k + 1) ns) dropped) (sym (add-one k)) tail;
            inside = subst (λ m. IsIn (sliced_shape m (drop (k + 1) ss) dropped) (drop (used + 1) is)) (sym (add-one k)) (subst (IsIn (sliced_shape (suc k) (drop (k + 1) ss) dropped)) (sym (next-drop is used i.0 i.1 i.2)) i.4);
            value = subst (λ m. (own ++ coordinate s (get_or is used 0) ∷ []) ++ sliced_from m (drop (k + 1) ss) dropped (drop (used + 1) is) ≡ res) (sym (add-one k))
                (append_assoc own (coordinate s (get_or is used 0) ∷ []) _
                ∙ ap (λ c. own ++ coordinate s c ∷ sliced_from (suc k) (drop (k + 1) ss) dropped (drop (used + 1) is)) (sym g0)
                ∙ ap (λ xs. own ++ coordinate s (get_or (drop used is) 0 0) ∷ sliced_from (suc k) (drop (k + 1) ss) dropped xs) (sym (drop-drop 1 used is))
                ∙ value);
          };
        }

pub next-le : (gone : Bool) (used k : ℕ) → used ≤ k → cond gone used (used + 1) ≤ k + 1
next-le true used k h = omega arith
next-le false used k h = omega arith

-- the place is written
pub slicing_written : (ss : List Steps) (ns dropped is own res : List ℕ) (k used v : ℕ) → k < length own → Slicing ss ns dropped is (take k own ++ v ∷ []) res (k + 1) used → Slicing ss ns dropped is (take (k + 1) (set own k v)) res (k + 1) used
slicing_written ss ns dropped is own res k used v h s = subst (λ xs. Slicing ss ns dropped is xs res (k + 1) used) (sym (take_more_set own k v h)) s

-- all axes are done
pub slicing_end : (ss : List Steps) (ns dropped is own res : List ℕ) (k used : ℕ) → length ss ≤ k → length own ≤ k → Slicing ss ns dropped is (take k own) res k used → own ≡ res
slicing_end ss ns dropped is own res k used h o s =
    sym (append-nil own) ∙ ap (λ xs. xs ++ []) (sym (take_all k own o)) ∙ ap (λ xs. take k own ++ sliced_from k xs dropped (drop used is)) (sym (drop_all k ss h)) ∙ s.value

pub sliced-in : (k : ℕ) (ss : List Steps) (ns dropped is : List ℕ) → SlicesFit k ss ns dropped → IsIn (sliced_shape k ss dropped) is → IsIn ns (sliced_from k ss dropped is)
sliced-in k [] [] dropped is f h = tt
sliced-in k [] (n ∷ ns) dropped is f h = absurd f
sliced-in k (s ∷ ss) [] dropped is f h = absurd f
sliced-in k (s ∷ ss) (n ∷ ns) dropped is f h =
    by_case (is_among k dropped) f.1 (λ js g. sliced-in (suc k) ss ns dropped js f.2 g) h
  where
    first : s.count ≡ 1 → s.start < n
    first c = let b : unsigned_abs (position s 0) < n = below_length (position s 0) n (f.0.low 0 (omega arith)) (f.0.high 0 (omega arith)) in let z : position s 0 ≡ pos s.start = at_zero s.start s.step in omega (arith, b, ap unsigned_abs z)
      where
        at_zero : (a : ℕ) (x : ℤ) → pos a +ℤ (x *ℤ pos 0) ≡ pos a
        at_zero a (pos m) = omega (arith, ints)
        at_zero a (negsuc m) = omega (arith, ints)

    by_case : (b : Bool) → (b ≡ true → s.count ≡ 1) → ((js : List ℕ) → IsIn (sliced_shape (suc k) ss dropped) js → IsIn ns (sliced_from (suc k) ss dropped js)) → IsIn (cond b (sliced_shape (suc k) ss dropped) (s.count ∷ sliced_shape (suc k) ss dropped)) is
        → IsIn (n ∷ ns) (cond b (s.start ∷ sliced_from (suc k) ss dropped is) (coordinate s (get_or is 0 0) ∷ sliced_from (suc k) ss dropped (drop 1 is)))
    by_case true one rest g = (first (one refl), rest is g)
    by_case false one rest g =
        let i = in-cons s.count (sliced_shape (suc k) ss dropped) is g in
        let at : get_or is 0 0 ≡ i.0 = ap (λ xs. get_or xs 0 0) i.2 in
        let tail : drop 1 is ≡ i.1 = ap (drop 1) i.2 in
        let lt : get_or is 0 0 < s.count = rw at i.3 in
        (below_length (position s (get_or is 0 0)) n (f.0.low (get_or is 0 0) lt) (f.0.high (get_or is 0 0) lt), rest (drop 1 is) (subst (IsIn (sliced_shape (suc k) ss dropped)) (sym tail) i.4))
