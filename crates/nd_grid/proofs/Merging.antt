-- The loop over the axes of a reduction, and that the index made of both parts lies in the operand.
use Rattle.std.proofs.Common.{◌≡◌, ℕ, suc, ◌+◌, ◌<◌, ◌≤◌, cond, Bool, true, false, List, [], ◌∷◌, ◌++◌, length, drop, take, set, get_or, ap, sym, subst, ◌∙◌, arith, append_assoc, append-nil, add-one}
use Rattle.std.proofs.lemmas.List.{drop_more, drop_all, drop-drop, take_all, take_more_set}
use Rattle.small_facts.proofs.Lists.{first_of_drop}
use Rattle.nd_shape.specs.Index.{IsIn}
use Rattle.nd_grid.specs.Grid.{is_among, kept_shape, folded_shape, merged}
use Rattle.nd_grid.proofs.Slicing.{in-cons, next-drop, there}

-- what the loop has at axis k
pub record Merging (ns axes is rs own res : List ℕ) (k used spent : ℕ) : Type 0 where
  pub kept : IsIn (kept_shape k (drop k ns) axes) (drop used is)
  pub folded : IsIn (folded_shape k (drop k ns) axes) (drop spent rs)
  pub value : own ++ merged k (drop k ns) axes (drop used is) (drop spent rs) ≡ res

-- one axis on
pub record Merged (ns axes is rs own res : List ℕ) (k used spent : ℕ) (gone : Bool) : Type 0 where
  pub folded : gone ≡ true → spent < length rs
  pub kept : gone ≡ false → used < length is
  pub next : Merging ns axes is rs (own ++ cond gone (get_or rs spent 0) (get_or is used 0) ∷ []) res (k + 1) (cond gone used (used + 1)) (cond gone (spent + 1) spent)

pub merge_step : (ns axes is rs own res : List ℕ) (k used spent : ℕ) (gone : Bool) → k < length ns → gone ≡ is_among k axes → Merging ns axes is rs own res k used spent → Merged ns axes is rs own res k used spent gone
merge_step ns axes is rs own res k used spent gone h b loop =
    let n = get_or ns k 0 in
    let tail = drop (k + 1) ns in
    let dn : drop k ns ≡ get_or ns k 0 ∷ drop (k + 1) ns = drop_more ns k 0 h in
    let kept : IsIn (cond gone (kept_shape (suc k) (drop (k + 1) ns) axes) (get_or ns k 0 ∷ kept_shape (suc k) (drop (k + 1) ns) axes)) (drop used is) =
    subst (λ x. IsIn (cond x (kept_shape (suc k) (drop (k + 1) ns) axes) (get_or ns k 0 ∷ kept_shape (suc k) (drop (k + 1) ns) axes)) (drop used is)) (sym b) (subst (λ xs. IsIn (kept_shape k xs axes) (drop used is)) dn loop.kept) in
    let folded : IsIn (cond gone (get_or ns k 0 ∷ folded_shape (suc k) (drop (k + 1) ns) axes) (folded_shape (suc k) (drop (k + 1) ns) axes)) (drop spent rs) =
    subst (λ x. IsIn (cond x (get_or ns k 0 ∷ folded_shape (suc k) (drop (k + 1) ns) axes) (folded_shape (suc k) (drop (k + 1) ns) axes)) (drop spent rs)) (sym b) (subst (λ xs. IsIn (folded_shape k xs axes) (drop spent rs)) dn loop.folded) in
    let value : own ++ cond gone (get_or (drop spent rs) 0 0 ∷ merged (suc k) (drop (k + 1) ns) axes (drop used is) (drop 1 (drop spent rs))) (get_or (drop used is) 0 0 ∷ merged (suc k) (drop (k + 1) ns) axes (drop 1 (drop used is)) (drop spent rs)) ≡ res =
    subst (λ x. own ++ cond x (get_or (drop spent rs) 0 0 ∷ merged (suc k) (drop (k + 1) ns) axes (drop used is) (drop 1 (drop spent rs))) (get_or (drop used is) 0 0 ∷ merged (suc k) (drop (k + 1) ns) axes (drop 1 (drop used is)) (drop spent rs)) ≡ res)
    (sym b) (ap (λ xs. own ++ merged k xs axes (drop used is) (drop spent rs)) (sym dn) ∙ loop.value) in
    by_case gone kept folded value
  where
    by_case : (gone : Bool) → IsIn (cond gone (kept_shape (suc k) (drop (k + 1) ns) axes) (get_or ns k 0 ∷ kept_shape (suc k) (drop (k + 1) ns) axes)) (drop used is)
        → IsIn (cond gone (get_or ns k 0 ∷ folded_shape (suc k) (drop (k + 1) ns) axes) (folded_shape (suc k) (drop (k + 1) ns) axes)) (drop spent rs)
        → own ++ cond gone (get_or (drop spent rs) 0 0 ∷ merged (suc k) (drop (k + 1) ns) axes (drop used is) (drop 1 (drop spent rs))) (get_or (drop used is) 0 0 ∷ merged (suc k) (drop (k + 1) ns) axes (drop 1 (drop used is)) (drop spent rs)) ≡ res
        → Merged ns axes is rs own res k used spent gone
    by_case true kept folded value =
        let i = in-cons (get_or ns k 0) (folded_shape (suc k) (drop (k + 1) ns) axes) (drop spent rs) folded in
        record {
          folded = λ x. there rs spent i.0 i.1 i.2;
          kept = λ x. cc;
          next = record {
            kept = subst (λ m. IsIn (kept_shape m (drop (k + 1) ns) axes) (drop used is)) (sym (add-one k)) kept;
            folded = subst (λ m. IsIn (folded_shape m (drop (k + 1) ns) axes) (drop (spent + 1) rs)) (sym (add-one k)) (subst (IsIn (folded_shape (suc k) (drop (k + 1) ns) axes)) (sym (next-drop rs spent i.0 i.1 i.2)) i.4);
            value = subst (λ m. (own ++ get_or rs spent 0 ∷ []) ++ merged m (drop (k + 1) ns) axes (drop used is) (drop (spent + 1) rs) ≡ res) (sym (add-one k))
                (append_assoc own (get_or rs spent 0 ∷ []) _
                ∙ ap (λ x. own ++ x ∷ merged (suc k) (drop (k + 1) ns) axes (drop used is) (drop (spent + 1) rs)) (sym (first_of_drop rs spent))
                ∙ ap (λ xs. own ++ get_or (drop spent rs) 0 0 ∷ merged (suc k) (drop (k + 1) ns) axes (drop used is) xs) (sym (drop-drop 1 spent rs))
                ∙ value);
          };
        }
    by_case false kept folded value =
        let i = in-cons (get_or ns k 0) (kept_shape (suc k) (drop (k + 1) ns) axes) (drop used is) kept in
        record {
          folded = λ x. cc;
          kept = λ x. there is used i.0 i.1 i.2;
          next = record {
            kept = subst (λ m. IsIn (kept_shape m (drop (k + 1) ns) axes) (drop (used + 1) is)) (sym (add-one k)) (subst (IsIn (kept_shape (suc k) (drop (k + 1) ns) axes)) (sym (next-drop is used i.0 i.1 i.2)) i.4);
            folded = subst (λ m. IsIn (folded_shape m (drop (k + 1) ns) axes) (drop spent rs)) (sym (add-one k)) folded;
            value = subst (λ m. (own ++ get_or is used 0 ∷ []) ++ merged m (drop (k + 1) ns) axes (drop (used + 1) is) (drop spent rs) ≡ res) (sym (add-one k))
                (append_assoc own (get_or is used 0 ∷ []) _
                ∙ ap (λ x. own ++ x ∷ merged (suc k) (drop (k + 1) ns) axes (drop (used + 1) is) (drop spent rs)) (sym (first_of_drop is used))
                ∙ ap (λ xs. own ++ get_or (drop used is) 0 0 ∷ merged (suc k) (drop (k + 1) ns) axes xs (drop spent rs)) (sym (drop-drop 1 used is))
                ∙ value);
          };
        }

pub spent-le : (gone : Bool) (spent k : ℕ) → spent ≤ k → cond gone (spent + 1) spent ≤ k + 1
spent-le true spent k h = omega arith
spent-le false spent k h = omega arith

-- the place is written
pub merging_written : (ns axes is rs own res : List ℕ) (k used spent v : ℕ) → k < length own → Merging ns axes is rs (take k own ++ v ∷ []) res (k + 1) used spent → Merging ns axes is rs (take (k + 1) (set own k v)) res (k + 1) used spent
merging_written ns axes is rs own res k used spent v h s = subst (λ xs. Merging ns axes is rs xs res (k + 1) used spent) (sym (take_more_set own k v h)) s

-- all axes are done
pub merging_end : (ns axes is rs own res : List ℕ) (k used spent : ℕ) → length ns ≤ k → length own ≤ k → Merging ns axes is rs (take k own) res k used spent → own ≡ res
merging_end ns axes is rs own res k used spent h o s =
    sym (append-nil own) ∙ ap (λ xs. xs ++ []) (sym (take_all k own o)) ∙ ap (λ xs. take k own ++ merged k xs axes (drop used is) (drop spent rs)) (sym (drop_all k ns h)) ∙ s.value

pub merged-in : (k : ℕ) (ns axes is rs : List ℕ) → IsIn (kept_shape k ns axes) is → IsIn (folded_shape k ns axes) rs → IsIn ns (merged k ns axes is rs)
merged-in k [] axes is rs h f = tt
merged-in k (n ∷ ns) axes is rs h f =
    by_case (is_among k axes) (λ js qs g e. merged-in (suc k) ns axes js qs g e) h f
  where
    by_case : (b : Bool) → ((js qs : List ℕ) → IsIn (kept_shape (suc k) ns axes) js → IsIn (folded_shape (suc k) ns axes) qs → IsIn ns (merged (suc k) ns axes js qs))
        → IsIn (cond b (kept_shape (suc k) ns axes) (n ∷ kept_shape (suc k) ns axes)) is → IsIn (cond b (n ∷ folded_shape (suc k) ns axes) (folded_shape (suc k) ns axes)) rs
        → IsIn (n ∷ ns) (cond b (get_or rs 0 0 ∷ merged (suc k) ns axes is (drop 1 rs)) (get_or is 0 0 ∷ merged (suc k) ns axes (drop 1 is) rs))
    by_case true rest g e =
        let i = in-cons n (folded_shape (suc k) ns axes) rs e in
        let at : get_or rs 0 0 ≡ i.0 = ap (λ xs. get_or xs 0 0) i.2 in
        let tail : drop 1 rs ≡ i.1 = ap (drop 1) i.2 in
        let lt : get_or rs 0 0 < n = rw at i.3 in
        (lt, rest is (drop 1 rs) g (subst (IsIn (folded_shape (suc k) ns axes)) (sym tail) i.4))
    by_case false rest g e =
        let i = in-cons n (kept_shape (suc k) ns axes) is g in
        let at : get_or is 0 0 ≡ i.0 = ap (λ xs. get_or xs 0 0) i.2 in
        let tail : drop 1 is ≡ i.1 = ap (drop 1) i.2 in
        let lt : get_or is 0 0 < n = rw at i.3 in
        (lt, rest (drop 1 is) rs (subst (IsIn (kept_shape (suc k) ns axes)) (sym tail) i.4) e)
