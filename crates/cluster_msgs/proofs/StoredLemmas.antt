-- What rows tell when one more stands at their end.
use Rattle.std.proofs.Common.{◌≡◌, ◌+◌, ◌<◌, ◌++◌, ◌∷◌, [], ℕ, suc, List, length, map, take, drop, slice_index_or, sym, ap, ◌∙◌, subst, arith}
use Rattle.std.proofs.lemmas.List.{map_push, take_more, length-take-le, length-map}
use Rattle.std.proofs.Math.Seq.{split_at}
use Rattle.cluster_msgs.specs.Shape.{Shape, IsShape, Follows, pushed, key_count, edge_count}
use Rattle.cluster_msgs.specs.Stored.{told, IsUnfit}
use Rattle.cluster_msgs.specs.declared.shape.GraphRow.{GraphRow}
use Rattle.cluster_msgs.proofs.ShapeLemmas.{IsShape-pushed, total_length-append}

pub told-push : (rows : List GraphRow) (row : GraphRow) → told (rows ++ row ∷ []) ≡ pushed (told rows) row.deps row.work row.nbytes
told-push rows row = λ i. record {
  deps = map_push (λ (r : GraphRow). r.deps) rows row i;
  work = map_push (λ (r : GraphRow). r.work) rows row i;
  nbytes = map_push (λ (r : GraphRow). r.nbytes) rows row i;
}

pub more-shape : (rows : List GraphRow) (row : GraphRow) → Follows (told rows) row.deps row.work row.nbytes → IsShape (told rows) → IsShape (told (rows ++ row ∷ []))
more-shape rows row b s = rw told-push (IsShape-pushed (told rows) row.deps row.work row.nbytes s b.room b.edges b.rising b.below b.light b.small)

pub more-edges : (rows : List GraphRow) (row : GraphRow) → edge_count (told (rows ++ row ∷ [])) ≡ edge_count (told rows) + length row.deps
more-edges rows row = ap edge_count (told-push rows row) ∙ total_length-append _ _

-- rows that make a graph with so many dependencies
pub record AreSummed (rows : List GraphRow) (sum : ℕ) : Type 0 where
  pub shape : IsShape (told rows)
  pub edges : sum ≡ edge_count (told rows)

-- the rows before a place, as the graph that a key of that number is held against
place-count : (rows : List GraphRow) (k : ℕ) → k < length rows → key_count (told (take k rows)) ≡ k
place-count rows k l = length-map (take k rows) (λ (r : GraphRow). r.deps) ∙ length-take-le k rows (omega arith)

-- the row at a place can come next, by what was answered for every graph of so many keys and dependencies
pub row-follows : (rows : List GraphRow) (k total : ℕ) (row : GraphRow) → k < length rows → AreSummed (take k rows) total
    → ((g : Shape) → key_count g ≡ k → edge_count g ≡ total → Follows g row.deps row.work row.nbytes)
    → Follows (told (take k rows)) row.deps row.work row.nbytes
row-follows rows k total row l s each = each (told (take k rows)) (place-count rows k l) (sym s.edges)

pub next-row : (rows : List GraphRow) (k total : ℕ) (row : GraphRow) → k < length rows → row ≡ slice_index_or rows k row
    → AreSummed (take k rows) total → Follows (told (take k rows)) row.deps row.work row.nbytes
    → AreSummed (take (k + 1) rows) (total + length row.deps)
next-row rows k total row l is s f =
    let e : take (k + 1) rows ≡ take k rows ++ row ∷ [] = take_more rows k row l ∙ ap (λ (x : GraphRow). take k rows ++ x ∷ []) (sym is) in
    subst (λ (rs : List GraphRow). AreSummed rs (total + length row.deps)) (sym e) (record {
      shape = more-shape (take k rows) row f s.shape;
      edges = ap (λ (n : ℕ). n + length row.deps) s.edges ∙ sym (more-edges (take k rows) row);
    })

-- the first row that can't come next
pub unfit-row : (rows : List GraphRow) (k total : ℕ) (row : GraphRow) → k < length rows → row ≡ slice_index_or rows k row
    → AreSummed (take k rows) total
    → ((g : Shape) → key_count g ≡ k → edge_count g ≡ total → Follows g row.deps row.work row.nbytes → ⊥)
    → IsUnfit rows k
unfit-row rows k total row l is s none = record {
  before = take k rows;
  row = row;
  after = drop (suc k) rows;
  whole = split_at rows k row l ∙ ap (λ (x : GraphRow). take k rows ++ x ∷ drop (suc k) rows) (sym is);
  place = sym (length-take-le k rows (omega arith));
  fits = s.shape;
  unfit = none (told (take k rows)) (place-count rows k l) (sym s.edges);
}
