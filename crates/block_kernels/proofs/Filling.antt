-- What each kernel writes into a row is its formula's.
use Rattle.std.proofs.Common.{◌≡◌, ℕ, ◌+◌, ◌-◌, ◌*◌, ◌<◌, ◌≤◌, Bool, List, [], ◌∷◌, length, get_or, ap, sym, subst, ◌∙◌, arith, ℤ, pos, ◌+ℤ◌, ◌*ℤ◌, Some, None, w64, to_z, of_z}
use Rattle.std.specs.Prelude.{Option, IfNone, IfSome}
use Rattle.std.proofs.lemmas.Int.{to_z-of_z}
use mir.Val.{SFits}
use Rattle.nd_shape.specs.Block.{Array}
use Rattle.nd_shape.specs.Shape.{elements}
use Rattle.nd_shape.specs.Index.{IsIn, place, index_at}
use Rattle.nd_shape.specs.Region.{Box, moved}
use Rattle.nd_shape.specs.Broadcast.{broadcast, Agree}
use Rattle.nd_grid.specs.declared.operation.Binary.{Binary}
use Rattle.nd_grid.specs.Int64.{wrap}
use Rattle.nd_grid.specs.Operation.{apply, combine, pick, pick_all}
use Rattle.nd_grid.specs.Grid.{grid_of, elementwise, chosen, under, ramp, part}
use Rattle.nd_grid.proofs.Under.{under-in}
use Rattle.block_kernels.specs.Rows.{at_place, Fills, Misses, item, Applied, Refused, row_count, row_length}
use Rattle.block_kernels.proofs.Slopes.{moved-row, slope-from}
use Rattle.block_kernels.proofs.RunLemmas.{in-row, first-in}

-- ---- element by element

pair-at : (op : Binary) (a b : Array) (bs : List ℕ) (p : ℕ) (x y : ℤ) → broadcast (a.shape ∷ b.shape ∷ []) ≡ bs → (grid_of a).at (under a.shape (index_at bs p)) ≡ Some x → (grid_of b).at (under b.shape (index_at bs p)) ≡ Some y
    → at_place (elementwise op (grid_of a) (grid_of b)) p ≡ apply op x y
pair-at op a b bs p x y e ex ey =
    ap (λ ms. combine op ((grid_of a).at (under a.shape (index_at ms p))) ((grid_of b).at (under b.shape (index_at ms p)))) e
    ∙ ap (λ v. combine op v ((grid_of b).at (under b.shape (index_at bs p)))) ex ∙ ap (combine op (Some x)) ey

pub pair-fills : (op : Binary) (a b : Array) (bs : List ℕ) (first n : ℕ) (xs ys out : List ℤ) (one one' : Bool) → broadcast (a.shape ∷ b.shape ∷ []) ≡ bs
    → ((r : ℕ) → r < n → (grid_of a).at (under a.shape (index_at bs (first + r))) ≡ Some (item xs one r)) → ((r : ℕ) → r < n → (grid_of b).at (under b.shape (index_at bs (first + r))) ≡ Some (item ys one' r))
    → length out ≡ n → Applied op xs one ys one' out → Fills (elementwise op (grid_of a) (grid_of b)) first n out
pair-fills op a b bs first n xs ys out one one' e ex ey len made = record {
  each = λ r h. pair-at op a b bs (first + r) (item xs one r) (item ys one' r) e (ex r h) (ey r h) ∙ made.each r (omega arith);
}

pub pair-misses : (op : Binary) (a b : Array) (bs : List ℕ) (first n z : ℕ) (xs ys : List ℤ) (one one' : Bool) → broadcast (a.shape ∷ b.shape ∷ []) ≡ bs
    → ((r : ℕ) → r < n → (grid_of a).at (under a.shape (index_at bs (first + r))) ≡ Some (item xs one r)) → ((r : ℕ) → r < n → (grid_of b).at (under b.shape (index_at bs (first + r))) ≡ Some (item ys one' r))
    → Refused op xs one ys one' n z → Misses (elementwise op (grid_of a) (grid_of b)) first n z
pair-misses op a b bs first n z xs ys one one' e ex ey made =
    let inside : z < n = made.inside in
    record {
      inside = inside;
      here = pair-at op a b bs (first + z) (item xs one z) (item ys one' z) e (ex z inside) (ey z inside) ∙ made.here;
      before = λ r h q. made.before r h (sym (pair-at op a b bs (first + r) (item xs one r) (item ys one' r) e (ex r (omega arith)) (ey r (omega arith))) ∙ q);
    }

pub choice-fills : (c a b : Array) (bs : List ℕ) (first n : ℕ) (zs xs ys out : List ℤ) (one one' one'' : Bool) → broadcast (c.shape ∷ a.shape ∷ b.shape ∷ []) ≡ bs
    → ((r : ℕ) → r < n → (grid_of c).at (under c.shape (index_at bs (first + r))) ≡ Some (item zs one r)) → ((r : ℕ) → r < n → (grid_of a).at (under a.shape (index_at bs (first + r))) ≡ Some (item xs one' r))
    → ((r : ℕ) → r < n → (grid_of b).at (under b.shape (index_at bs (first + r))) ≡ Some (item ys one'' r)) → ((r : ℕ) → r < n → pick (item zs one r) (item xs one' r) (item ys one'' r) ≡ get_or out r (pos 0))
    → Fills (chosen (grid_of c) (grid_of a) (grid_of b)) first n out
choice-fills c a b bs first n zs xs ys out one one' one'' e ec ea eb made = record {
  each = λ r h.
      ap (λ ms. pick_all ((grid_of c).at (under c.shape (index_at ms (first + r)))) ((grid_of a).at (under a.shape (index_at ms (first + r)))) ((grid_of b).at (under b.shape (index_at ms (first + r))))) e
      ∙ ap (λ v. pick_all v ((grid_of a).at (under a.shape (index_at bs (first + r)))) ((grid_of b).at (under b.shape (index_at bs (first + r))))) (ec r h)
      ∙ ap (λ v. pick_all (Some (item zs one r)) v ((grid_of b).at (under b.shape (index_at bs (first + r))))) (ea r h)
      ∙ ap (pick_all (Some (item zs one r)) (Some (item xs one' r))) (eb r h)
      ∙ ap Some (made r h);
}

-- an operand's index lies in it
pub under-all : (shapes : List (List ℕ)) (ns bs : List ℕ) (j : ℕ) → j < length shapes → get_or shapes j ns ≡ ns → Agree shapes → broadcast shapes ≡ bs → (i : List ℕ) → IsIn bs i → IsIn ns (under ns i)
under-all shapes ns bs j h e a s i b = under-in shapes ns i (j, h, e) a (subst (λ ms. IsIn ms i) (sym s) b)

-- ---- parts that rise

pub slope-fills : (box : Box) (whole shape : List ℕ) (k q n place0 : ℕ) (a s : ℤ) (out : List ℤ) → length whole ≡ length shape → length box.start ≡ length shape → box.lengths ≡ shape → k ≡ length shape - 1 → q < row_count shape k → n ≡ row_length shape k
    → place0 ≡ place whole (moved box.start (index_at shape (q * n))) → ((r : ℕ) → r < n → get_or out r (pos 0) ≡ wrap (wrap (a +ℤ (s *ℤ pos place0)) +ℤ (s *ℤ pos r))) → Fills (part box (ramp whole a s)) (q * n) n out
slope-fills box whole shape k q n place0 a s out lw ls es hk hq hn e0 made = record {
  each = λ r h.
      let m : place whole (moved box.start (index_at shape (q * n + r))) ≡ place0 + r =
      ap (λ m. place whole (moved box.start (index_at shape (q * m + r)))) hn ∙ moved-row whole box.start shape k q r lw ls hk hq (omega arith)
      ∙ ap (λ m. place whole (moved box.start (index_at shape (q * m))) + r) (sym hn) ∙ ap (λ p. p + r) (sym e0) in
      ap (λ ms. Some (wrap (a +ℤ (s *ℤ pos (place whole (moved box.start (index_at ms (q * n + r)))))))) es
      ∙ ap (λ p. Some (wrap (a +ℤ (s *ℤ pos p)))) m
      ∙ ap Some (sym (slope-from a s place0 r)) ∙ ap Some (sym (made r h));
}

-- ---- what a row's kernel is asked

pub none-map : {A B : Type 0} → (r : Option ℕ) → (A → B) → IfNone r A → IfNone r B
none-map None f a = f a
none-map (Some z) f a = a

pub some-map : {P Q : ℕ → Type 0} → (r : Option ℕ) → ((z : ℕ) → P z → Q z) → IfSome r P → IfSome r Q
some-map None f a = a
some-map (Some z) f a = f z a

-- a row of a grid is a row of the shape that it has
pub row-in : (g bs : List ℕ) (k q n : ℕ) → g ≡ bs → q < row_count g k → n ≡ row_length g k → (q < row_count bs k) × (n ≡ row_length bs k)
row-in g bs k q n e hq hn = (subst (λ ms. q < row_count ms k) e hq, hn ∙ ap (λ ms. row_length ms k) e)

pub row-first : (g bs : List ℕ) (k q n : ℕ) → g ≡ bs → q < row_count g k → n ≡ row_length g k → 0 < n → q * n < elements bs
row-first g bs k q n e hq hn some = let r = row-in g bs k q n e hq hn in first-in bs k q n r.0 r.1 some

pub row-short : (g bs : List ℕ) (k q n : ℕ) → g ≡ bs → q < row_count g k → n ≡ row_length g k → 0 < n → n ≤ elements bs
row-short g bs k q n e hq hn some =
    let r = row-in g bs k q n e hq hn in
    let b : q * row_length bs k + (n - 1) < elements bs = in-row bs k q (n - 1) r.0 (omega (arith, r.1)) in
    omega (arith, b)

-- values that are handed on as 64 bits
pub slope-made : (a s v : ℤ) (p n : ℕ) (out : List ℤ) → SFits w64 a → SFits w64 s → SFits w64 v → v ≡ wrap (to_z w64 (of_z w64 a) +ℤ (to_z w64 (of_z w64 s) *ℤ pos p)) → ((r : ℕ) → r < n → get_or out r (pos 0) ≡ wrap (to_z w64 (of_z w64 v) +ℤ (to_z w64 (of_z w64 s) *ℤ pos r)))
    → (r : ℕ) → r < n → get_or out r (pos 0) ≡ wrap (wrap (a +ℤ (s *ℤ pos p)) +ℤ (s *ℤ pos r))
slope-made a s v p n out fa fs fv e made r h =
    made r h
    ∙ ap (λ z. wrap (z +ℤ (to_z w64 (of_z w64 s) *ℤ pos r))) (to_z-of_z w64 v fv ∙ e ∙ ap (λ z. wrap (z +ℤ (to_z w64 (of_z w64 s) *ℤ pos p))) (to_z-of_z w64 a fa))
    ∙ ap (λ t. wrap (wrap (a +ℤ (t *ℤ pos p)) +ℤ (t *ℤ pos r))) (to_z-of_z w64 s fs)
