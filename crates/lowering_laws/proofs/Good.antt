-- Tasks whose dependencies rise and lie below their own key, and whose operations name places among them: stage by stage.
use Rattle.std.proofs.Common.{◌≡◌, ℕ, suc, ◌+◌, ◌-◌, ◌*◌, ◌<◌, ◌≤◌, cond, Bool, true, false, List, [], ◌∷◌, ◌++◌, length, map, refl, sym, subst, arith, inl, inr, ℤ, length-append}
use Rattle.std.specs.List.{AllByRecursion, range_with_len}
use Rattle.std.proofs.lemmas.Bool.{cases_lt}
use Rattle.std.proofs.Math.Nat.{mul-le-mul_left}
use Rattle.std.proofs.lemmas.List.{length-map, get_or_append_left, get_or-append_right}
use Rattle.std.proofs.lemmas.List.FromFn.{length-map-range_with_len, get_or-map-range_with_len}
use Rattle.nd_shape.specs.declared.slice.Steps.{Steps}
use Rattle.nd_shape.specs.declared.region.Piece.{Piece}
use Rattle.nd_shape.specs.Index.{IsIn, place, index_at}
use Rattle.nd_shape.proofs.Places.{index_at-in, place-below}
use Rattle.nd_grid.specs.Grid.{turned, SlicesFit, IsTranspose}
use Rattle.nd_grid.proofs.Turning.{turned-in}
use Rattle.chunk_layout.specs.Layouts.{counts, lengths, blocks, lengths_at, box_at}
use Rattle.chunk_layout.specs.Plans.{Overlap, chunks_in, parts}
use Rattle.chunk_layout.specs.Slices.{pieces_of}
use Rattle.cluster_msgs.proofs.Dags.{all-weaker}
use Rattle.block_kernels.specs.declared.spec.Spec.TheVariants as kernels
use Rattle.task_graph.specs.declared.graph.Task.{Task}
use Rattle.task_graph.specs.Graphs.{task, task_at, no_task}
use Rattle.lowering_laws.specs.Sources.{Source, Made, key_of, key_at, one_each, placed, rechunk_task, rechunked, same_layout, fitted}
use Rattle.lowering_laws.specs.Stages.{after, filled_blocks, loaded_blocks, sliced_blocks, slice_task, transposed_blocks, turned_layout, pieces_at, chunks_taken, kept_axes}
use Rattle.lowering_laws.specs.Law.{HaveChunks}
use Rattle.task_graph.specs.Numberings.{PlacesFit}
use Rattle.lowering_laws.proofs.Fitting.{same-layout}
use Rattle.lowering_laws.proofs.Pieces.{parts-fit}
use Rattle.lowering_laws.proofs.Plain.{IsOrder, counts-turned}
use Rattle.lowering_laws.proofs.Sliced.{slice-of, lists_of}
use Rattle.task_graph.proofs.Rising.{Rises, Rising, rises-mapped, all-mapped}
use Rattle.lowering_laws.proofs.Rising.{place_in, parts-in, parts-rise}

-- a task that may stand behind `bound` others
pub record IsGood (bound : ℕ) (t : Task) : Type 0 where
  pub below : AllByRecursion (λ d. d < bound) t.deps
  pub rising : Rising t.deps
  pub places : PlacesFit t.spec (length t.deps)

-- tasks that may stand from key `base` on
pub record AreGood (base : ℕ) (tasks : List Task) : Type 0 where
  pub at : (j : ℕ) → j < length tasks → IsGood (base + j) (task_at tasks j)

-- an array whose keys are below `bound`, each block at one of its own
pub record IsBelow (bound : ℕ) (s : Source) : Type 0 where
  pub keys : (c : ℕ) → c < blocks s.layout → key_of s c < bound
  pub apart : 0 < s.stride

-- tasks behind `base` others, and their array
pub record IsMade (base : ℕ) (m : Made) : Type 0 where
  pub good : AreGood base m.tasks
  pub below : IsBelow (base + length m.tasks) m.source

pub good-weaker : (b c : ℕ) (t : Task) → b ≤ c → IsGood b t → IsGood c t
good-weaker b c t h g = record { below = all-weaker (λ d. d < b) (λ d. d < c) t.deps (λ d l. omega arith) g.below; rising = g.rising; places = g.places }

pub below-weaker : (b c : ℕ) (s : Source) → b ≤ c → IsBelow b s → IsBelow c s
below-weaker b c s h g = record { keys = λ k l. let q : key_of s k < b = g.keys k l in omega arith; apart = g.apart }

pub none-good : (base : ℕ) → AreGood base []
none-good base = record { at = λ j h. absurd (omega arith) }

pub good-append : (base : ℕ) (xs ys : List Task) → AreGood base xs → AreGood (base + length xs) ys → AreGood base (xs ++ ys)
good-append base xs ys a b = record {
  at = λ j h. elim (cases_lt j (length xs)) [
    | inl lt ↦ subst (IsGood (base + j)) (sym (get_or_append_left xs ys no_task j lt)) (a.at j lt)
    | inr ge ↦ let z : base + length xs + (j - length xs) ≡ base + j = omega arith in
        subst (IsGood (base + j)) (sym (get_or-append_right xs ys (length xs) j no_task refl ge)) (subst (λ k. IsGood k (task_at ys (j - length xs))) z (b.at (j - length xs) (omega (arith, length-append xs ys))))
  ];
}

pub made-after : (base : ℕ) (tasks : List Task) (more : ℕ → Made) → AreGood base tasks → IsMade (base + length tasks) (more (base + length tasks)) → IsMade base (after tasks more base)
made-after base tasks more a m = record {
  good = good-append base tasks (more (base + length tasks)).tasks a m.good;
  below = below-weaker (base + length tasks + length (more (base + length tasks)).tasks) (base + length (tasks ++ (more (base + length tasks)).tasks)) (more (base + length tasks)).source (omega (arith, length-append tasks (more (base + length tasks)).tasks)) m.below;
}

pub key-below : (bound : ℕ) (s : Source) (bs : List ℕ) → IsBelow bound s → IsIn (counts s.layout) bs → key_at s bs < bound
key-below bound s bs b h = b.keys (place (counts s.layout) bs) (place-below (counts s.layout) bs h)

-- ---- one task for each block

pub made-each : (base : ℕ) (layout : List (List ℕ)) (task_of : List ℕ → Task) → ((bs : List ℕ) → IsIn (counts layout) bs → IsGood base (task_of bs)) → IsMade base (one_each base layout task_of)
made-each base layout task_of g =
    let count : length (map (λ c. task_of (index_at (counts layout) c)) (range_with_len 0 (blocks layout))) ≡ blocks layout = length-map-range_with_len (λ c. task_of (index_at (counts layout) c)) 0 (blocks layout) in
    record {
      good = record {
        at = λ j h.
            let lt : j < blocks layout = omega arith in
            subst (IsGood (base + j)) (sym (get_or-map-range_with_len (λ c. task_of (index_at (counts layout) c)) 0 (blocks layout) j j no_task lt (omega arith)))
            (good-weaker base (base + j) (task_of (index_at (counts layout) j)) (omega arith) (g (index_at (counts layout) j) (index_at-in (counts layout) j lt)));
      };
      below = record { keys = λ c h. let z : base + 1 * c ≡ base + c = omega arith in omega arith; apart = omega arith };
    }

pub made-filled : (dims : List ℕ) (layout : List (List ℕ)) (start step : ℤ) (base : ℕ) → IsMade base (filled_blocks dims layout start step base)
made-filled dims layout start step base = made-each base layout (λ bs. task (kernels.Fill dims (box_at layout bs) start step) []) (λ bs h. record { below = tt; rising = tt; places = tt })

pub made-loaded : (input : ℕ) (layout : List (List ℕ)) (base : ℕ) → IsMade base (loaded_blocks input layout base)
made-loaded input layout base = made-each base layout (λ bs. task (kernels.Load input (box_at layout bs)) []) (λ bs h. record { below = tt; rising = tt; places = tt })

pub made-sliced : (s : Source) (steps : List Steps) (dropped : List ℕ) (base : ℕ) → HaveChunks s.layout → SlicesFit 0 steps (lengths s.layout) dropped → IsBelow base s → IsMade base (sliced_blocks s steps dropped base)
made-sliced s steps dropped base some fits b =
    made-each base (kept_axes 0 (lists_of s.layout steps) dropped) (slice_task s (pieces_of s.layout steps) dropped) (λ bs h.
    let r = slice-of 0 dropped s.layout steps bs some fits h in
    record { below = (key-below base s (chunks_taken (pieces_at 0 (pieces_of s.layout steps) dropped bs)) b r.inside, tt); rising = (tt, tt); places = omega arith })

pub made-transposed : (s : Source) (axes : List ℕ) (base : ℕ) → IsOrder axes (length s.layout) → IsBelow base s → IsMade base (transposed_blocks s axes base)
made-transposed s axes base o b =
    let lc : length (counts s.layout) ≡ length s.layout = length-map s.layout (λ (sizes : List ℕ). length sizes) in
    made-each base (turned_layout axes s.layout) (λ bs. task (kernels.Transpose axes (lengths_at s.layout (turned axes bs))) (key_at s (turned axes bs) ∷ [])) (λ bs h.
    record {
      below = (key-below base s (turned axes bs) b (turned-in axes (counts s.layout) bs (subst (IsTranspose axes) (sym lc) o.each) (subst (λ ns. IsIn ns bs) (counts-turned axes s.layout) h)), tt);
      rising = (tt, tt);
      places = omega arith;
    })

-- ---- rechunking

placed-below : (p : ℕ) (oss : List (List Overlap)) (n : ℕ) → p + length oss ≤ n → AllByRecursion (λ (q : Piece). q.source < n) (placed p oss)
placed-below p [] n h = tt
placed-below p (os ∷ oss) n h = (omega arith, placed-below (suc p) oss n (omega arith))

keys-rise : (s : Source) (oss : List (List Overlap)) → 0 < s.stride → Rises (place_in (counts s.layout)) oss → Rises (λ os. key_at s (chunks_in os)) oss
keys-rise s [] h r = tt
keys-rise s (os ∷ oss) h r =
    (all-weaker (λ y. place_in (counts s.layout) os < place_in (counts s.layout) y) (λ y. key_at s (chunks_in os) < key_at s (chunks_in y)) oss (λ y l. scaled s.first s.stride (place_in (counts s.layout) os) (place_in (counts s.layout) y) h l) r.0, keys-rise s oss h r.1)
  where
    scaled : (f d a b : ℕ) → 0 < d → a < b → f + d * a < f + d * b
    scaled f d a b h l = let m : d * suc a ≤ d * b = mul-le-mul_left d (omega arith) in omega (arith, m)

pub made-rechunked : (s : Source) (layout : List (List ℕ)) (base : ℕ) → length s.layout ≡ length layout → IsBelow base s → IsMade base (rechunked base s layout)
made-rechunked s layout base e b =
    made-each base layout (rechunk_task s layout) (λ bs h.
    let oss = parts s.layout layout bs in
    let fit = parts-fit s.layout layout bs e h in
    record {
      below = all-mapped (λ os. IsIn (counts s.layout) (chunks_in os)) (λ d. d < base) (λ os. key_at s (chunks_in os)) oss (λ os i. key-below base s (chunks_in os) b i) (parts-in s.layout layout bs fit);
      rising = rises-mapped (λ k. k) (λ os. key_at s (chunks_in os)) oss (keys-rise s oss b.apart (parts-rise s.layout layout bs e h));
      places = placed-below 0 oss (length (map (λ os. key_at s (chunks_in os)) oss)) (omega (arith, length-map oss (λ os. key_at s (chunks_in os))));
    })

-- in a layout of as many axes
pub record IsFit (base : ℕ) (layout : List (List ℕ)) (m : Made) : Type 0 where
  pub made : IsMade base m
  pub layout_is : m.source.layout ≡ layout

pub made-fitted : (s : Source) (layout : List (List ℕ)) (base : ℕ) → length s.layout ≡ length layout → IsBelow base s → IsFit base layout (fitted base s layout)
made-fitted s layout base e b = in-case (same_layout s.layout layout) (same-layout s.layout layout)
  where
    in-case : (c : Bool) → (c ≡ true → s.layout ≡ layout) → IsFit base layout (cond c (record { tasks = []; source = s }) (rechunked base s layout))
    in-case true h = record { made = record { good = none-good base; below = below-weaker base (base + 0) s (omega arith) b }; layout_is = h refl }
    in-case false h = record { made = made-rechunked s layout base e b; layout_is = refl }
