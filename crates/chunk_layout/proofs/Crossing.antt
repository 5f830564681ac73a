-- The pieces of a plan, chunk by chunk along an axis, and axis by axis.
use Rattle.std.proofs.Common.{◌≡◌, ◌≢◌, ℕ, zero, suc, ◌+◌, ◌-◌, ◌*◌, ◌<◌, ◌≤◌, ◌^◌, min, List, [], ◌∷◌, ◌++◌, append_assoc, append-nil, length, get_or, map, take, drop, refl, ap, sym, subst, ◌∙◌, arith, inl, inr}
use Rattle.std.specs.Prelude.{max}
use Rattle.std.specs.List.{flat_map}
use Rattle.std.proofs.lemmas.Grind.{flat_map-append}
use Rattle.std.proofs.lemmas.List.{drop_more, drop_all, take_all, length_push, map-append, length-map}
use Rattle.std.proofs.lemmas.Bool.{cases_lt, cases_eq}
use Rattle.std.proofs.Math.Nat.{mul-le-mul_right, mul-pos}
use Rattle.nd_shape.specs.declared.region.Piece.{Piece}
use Rattle.nd_shape.specs.Index.{IsIn, place}
use Rattle.nd_shape.specs.Chunk.{total}
use Rattle.nd_shape.specs.Shape.{elements}
use Rattle.nd_shape.proofs.Totals.{total-more, total-ge}
use Rattle.chunk_layout.specs.Layouts.{counts, lengths, blocks, chunk_of}
use Rattle.chunk_layout.specs.Cuts.{AllSome, AllCut, AreStarts, IsLayout}
use Rattle.chunk_layout.specs.Plans.{Overlap, with_overlap, overlaps_from, overlaps, chunks_in, piece, parts}
use Rattle.chunk_layout.specs.Crossings.{extended, IsOpen, AllOpen, HasElements, pieces_at}
use Rattle.chunk_layout.proofs.Parting.{total-before, in-chunk, InChunk}
use Rattle.chunk_layout.proofs.Cutting.{blocks-cut}

-- ---- along an axis

pub nothing : (k at low a b : ℕ) (more : List Overlap) → b ≤ a → with_overlap k at low a b more ≡ more
nothing k at low a b more h = grind arith

something : (k at low a b : ℕ) (more : List Overlap) → a < b → with_overlap k at low a b more ≡ record { chunk = k; from = a - at; to = a - low; len = b - a } ∷ more
something k at low a b more h = grind arith

-- chunks that end before the range
skipped : (k at low high : ℕ) (ss : List ℕ) (c : ℕ) → c ≤ length ss → at + total (take c ss) ≤ low
    → overlaps_from k at low high ss ≡ overlaps_from (k + c) (at + total (take c ss)) low high (drop c ss)
skipped k at low high ss zero h b =
    let e : k ≡ k + 0 = omega arith in
    let f : at ≡ at + 0 = omega arith in
    ap (λ (x : ℕ). overlaps_from x at low high ss) e ∙ ap (λ (x : ℕ). overlaps_from (k + 0) x low high ss) f
skipped k at low high [] (suc c) h b = absurd (omega arith)
skipped k at low high (s ∷ ss) (suc c) h b =
    let e : suc k + c ≡ k + suc c = omega arith in
    let f : at + s + total (take c ss) ≡ at + (s + total (take c ss)) = omega arith in
    nothing k at low (max low at) (min high (at + s)) (overlaps_from (suc k) (at + s) low high ss) (omega arith)
    ∙ skipped (suc k) (at + s) low high ss c (omega arith) (omega arith)
    ∙ ap (λ (x : ℕ). overlaps_from x (at + s + total (take c ss)) low high (drop c ss)) e
    ∙ ap (λ (x : ℕ). overlaps_from (k + suc c) x low high (drop c ss)) f

-- chunks that begin behind it
behind : (k at low high : ℕ) (ss : List ℕ) → high ≤ at → overlaps_from k at low high ss ≡ []
behind k at low high [] h = refl
behind k at low high (s ∷ ss) h =
    nothing k at low (max low at) (min high (at + s)) (overlaps_from (suc k) (at + s) low high ss) (omega arith) ∙ behind (suc k) (at + s) low high ss (omega arith)

pub some-at : (xs : List ℕ) (i : ℕ) → AllSome xs → i < length xs → 0 < get_or xs i 0
some-at [] i a h = absurd (omega arith)
some-at (x ∷ xs) zero a h = a.0
some-at (x ∷ xs) (suc i) a h = some-at xs i a.1 (omega arith)

-- a chunk that meets it
meets : (k at low high s : ℕ) (ss : List ℕ) → low < high → at < high → low < at + s → 0 < s
    → overlaps_from k at low high (s ∷ ss) ≡ record { chunk = k; from = max low at - at; to = max low at - low; len = min high (at + s) - max low at } ∷ overlaps_from (suc k) (at + s) low high ss
meets k at low high s ss h a b p = something k at low (max low at) (min high (at + s)) (overlaps_from (suc k) (at + s) low high ss) (omega arith)

-- where the walk over the chunks stands
pub record IsWalked (from : List ℕ) (n : ℕ) (p : Piece) (low high chunk : ℕ) (outs res : List Piece) : Type 0 where
  pub there : chunk ≤ length from
  pub above : chunk < length from → low < total (take chunk from) + get_or from chunk 0
  pub value : outs ++ map (extended n p) (overlaps_from chunk (total (take chunk from)) low high (drop chunk from)) ≡ res

pub walked-first : (from : List ℕ) (n : ℕ) (p : Piece) (low high chunk : ℕ) (outs : List Piece) → chunk < length from → total (take chunk from) ≤ low → low < total (take chunk from) + get_or from chunk 0
    → IsWalked from n p low high chunk outs (outs ++ map (extended n p) (overlaps_from 0 0 low high from))
walked-first from n p low high chunk outs h b a =
    let e : 0 + chunk ≡ chunk = omega arith in
    let f : 0 + total (take chunk from) ≡ total (take chunk from) = omega arith in
    record {
      there = omega arith;
      above = λ g. a;
      value = ap (λ (os : List Overlap). outs ++ map (extended n p) os)
          (sym (skipped 0 0 low high from chunk (omega arith) (omega arith)
          ∙ ap (λ (x : ℕ). overlaps_from x (0 + total (take chunk from)) low high (drop chunk from)) e
          ∙ ap (λ (x : ℕ). overlaps_from chunk x low high (drop chunk from)) f));
    }

pub walked-end : (from : List ℕ) (n : ℕ) (p : Piece) (low high chunk : ℕ) (outs res : List Piece) → IsWalked from n p low high chunk outs res → high ≤ total (take chunk from) → outs ≡ res
walked-end from n p low high chunk outs res w h =
    sym (append-nil outs) ∙ ap (λ (os : List Overlap). outs ++ map (extended n p) os) (sym (behind chunk (total (take chunk from)) low high (drop chunk from) h)) ∙ w.value

pub walked-more : (from : List ℕ) (n : ℕ) (p : Piece) (low high chunk at end begin : ℕ) (outs res : List Piece) → AllSome from → low < high → chunk < length from
    → at ≡ total (take chunk from) → at < high → end ≡ min (total (take (chunk + 1) from)) high → begin ≡ max at low → IsWalked from n p low high chunk outs res
    → IsWalked from n p low high (chunk + 1) (outs ++ extended n p (record { chunk = chunk; from = begin - at; to = begin - low; len = end - begin }) ∷ []) res
walked-more from n p low high chunk at end begin outs res a lt h ea b ee eb w =
    let s = get_or from chunk 0 in
    let t = total (take chunk from) in
    let m : total (take (chunk + 1) from) ≡ t + s = total-more from chunk h in
    let u : low < t + s = w.above h in
    let ps : 0 < s = some-at from chunk a h in
    let o1 : overlaps_from chunk t low high (drop chunk from) ≡ record { chunk = chunk; from = max low t - t; to = max low t - low; len = min high (t + s) - max low t } ∷ overlaps_from (suc chunk) (t + s) low high (drop (chunk + 1) from) =
    ap (overlaps_from chunk t low high) (drop_more from chunk 0 h) ∙ meets chunk t low high s (drop (chunk + 1) from) lt (omega arith) u ps in
    let e1 : begin - at ≡ max low t - t = omega arith in
    let e2 : begin - low ≡ max low t - low = omega arith in
    let e3 : end - begin ≡ min high (t + s) - max low t = omega arith in
    let e4 : chunk + 1 ≡ suc chunk = omega arith in
    let here : Overlap = record { chunk = chunk; from = begin - at; to = begin - low; len = end - begin } in
    let rest : List Overlap = overlaps_from (chunk + 1) (total (take (chunk + 1) from)) low high (drop (chunk + 1) from) in
    let o2 : overlaps_from chunk t low high (drop chunk from) ≡ here ∷ rest =
    o1 ∙ same chunk (max low t - t) (max low t - low) (min high (t + s) - max low t) (begin - at) (begin - low) (end - begin) _ (sym e1) (sym e2) (sym e3)
    ∙ ap (λ (x : ℕ). here ∷ overlaps_from x (t + s) low high (drop (chunk + 1) from)) (sym e4) ∙ ap (λ (x : ℕ). here ∷ overlaps_from (chunk + 1) x low high (drop (chunk + 1) from)) (sym m) in
    record {
      there = omega arith;
      above = λ g. omega arith;
      value = append_assoc outs (extended n p here ∷ []) (map (extended n p) rest) ∙ ap (λ (os : List Overlap). outs ++ map (extended n p) os) (sym o2) ∙ w.value;
    }
  where
    same : (k f t l f' t' l' : ℕ) (more : List Overlap) → f ≡ f' → t ≡ t' → l ≡ l'
        → record { chunk = k; from = f; to = t; len = l } ∷ more ≡ record { chunk = k; from = f'; to = t'; len = l' } ∷ more
    same k f t l f' t' l' more a b c = λ i. record { chunk = k; from = a i; to = b i; len = c i } ∷ more

-- ---- axis by axis

-- a piece with its parts on all axes that are left
abbrev pub after : List (List ℕ) → Piece → List Overlap → Piece
after from p os = record {
  source = p.source * blocks from + place (counts from) (chunks_in os);
  from = record { start = p.from.start ++ map (λ (o : Overlap). o.from) os; lengths = p.from.lengths ++ map (λ (o : Overlap). o.len) os };
  to = record { start = p.to.start ++ map (λ (o : Overlap). o.to) os; lengths = p.to.lengths ++ map (λ (o : Overlap). o.len) os };
}

after-cons : (xs : List ℕ) (from : List (List ℕ)) (p : Piece) (o : Overlap) (os : List Overlap) → after (xs ∷ from) p (o ∷ os) ≡ after from (extended (length xs) p o) os
after-cons xs from p o os =
    let e : p.source * (length xs * blocks from) + (o.chunk * blocks from + place (counts from) (chunks_in os)) ≡ (p.source * length xs + o.chunk) * blocks from + place (counts from) (chunks_in os) =
    ring p.source (length xs) (blocks from) o.chunk (place (counts from) (chunks_in os)) in
    let f1 = sym (append_assoc p.from.start (o.from ∷ []) (map (λ (q : Overlap). q.from) os)) in
    let f2 = sym (append_assoc p.from.lengths (o.len ∷ []) (map (λ (q : Overlap). q.len) os)) in
    let f3 = sym (append_assoc p.to.start (o.to ∷ []) (map (λ (q : Overlap). q.to) os)) in
    let f4 = sym (append_assoc p.to.lengths (o.len ∷ []) (map (λ (q : Overlap). q.len) os)) in
    λ i. record { source = e i; from = record { start = f1 i; lengths = f2 i }; to = record { start = f3 i; lengths = f4 i } }
  where
    ring : (s n b c r : ℕ) → s * (n * b) + (c * b + r) ≡ (s * n + c) * b + r
    ring s n b c r = omega arith

after-tuples : (xs : List ℕ) (from : List (List ℕ)) (p : Piece) (o : Overlap) (ts : List (List Overlap)) → map (after (xs ∷ from) p) (map (λ t. o ∷ t) ts) ≡ map (after from (extended (length xs) p o)) ts
after-tuples xs from p o [] = refl
after-tuples xs from p o (t ∷ ts) =
    ap (λ (q : Piece). q ∷ map (after (xs ∷ from) p) (map (λ t. o ∷ t) ts)) (after-cons xs from p o t)
    ∙ ap (λ (qs : List Piece). after from (extended (length xs) p o) t ∷ qs) (after-tuples xs from p o ts)

after-axis : (xs : List ℕ) (from : List (List ℕ)) (p : Piece) (os : List Overlap) (ts : List (List Overlap))
    → map (after (xs ∷ from) p) (flat_map (λ o. map (λ t. o ∷ t) ts) os) ≡ flat_map (λ (q : Piece). map (after from q) ts) (map (extended (length xs) p) os)
after-axis xs from p [] ts = refl
after-axis xs from p (o ∷ os) ts =
    map-append (after (xs ∷ from) p) (map (λ t. o ∷ t) ts) (flat_map (λ o. map (λ t. o ∷ t) ts) os)
    ∙ ap (λ (qs : List Piece). qs ++ map (after (xs ∷ from) p) (flat_map (λ o. map (λ t. o ∷ t) ts) os)) (after-tuples xs from p o ts)
    ∙ ap (λ (qs : List Piece). map (after from (extended (length xs) p o)) ts ++ qs) (after-axis xs from p os ts)

after-pieces : (xs : List ℕ) (from : List (List ℕ)) (ps : List Piece) (os : List Overlap) (ts : List (List Overlap))
    → flat_map (λ (p : Piece). map (after (xs ∷ from) p) (flat_map (λ o. map (λ t. o ∷ t) ts) os)) ps ≡ flat_map (λ (q : Piece). map (after from q) ts) (flat_map (λ (p : Piece). map (extended (length xs) p) os) ps)
after-pieces xs from [] os ts = refl
after-pieces xs from (p ∷ ps) os ts =
    ap (λ (qs : List Piece). qs ++ flat_map (λ (p : Piece). map (after (xs ∷ from) p) (flat_map (λ o. map (λ t. o ∷ t) ts) os)) ps) (after-axis xs from p os ts)
    ∙ ap (λ (qs : List Piece). flat_map (λ (q : Piece). map (after from q) ts) (map (extended (length xs) p) os) ++ qs) (after-pieces xs from ps os ts)
    ∙ sym (flat_map-append (λ (q : Piece). map (after from q) ts) (map (extended (length xs) p) os) (flat_map (λ (p : Piece). map (extended (length xs) p) os) ps))

-- what is left to be done of the pieces
abbrev pub done_with : List (List ℕ) → List (List ℕ) → List ℕ → List Piece → List Piece
done_with from to bs ps = flat_map (λ (p : Piece). map (after from p) (parts from to bs)) ps

abbrev pub no_axis : Piece
no_axis = record { source = 0; from = record { start = []; lengths = [] }; to = record { start = []; lengths = [] } }

first-piece : (from : List (List ℕ)) (os : List Overlap) → after from no_axis os ≡ piece (place (counts from) (chunks_in os)) os
first-piece from os = let e : 0 * blocks from + place (counts from) (chunks_in os) ≡ place (counts from) (chunks_in os) = omega arith in ap (λ (n : ℕ). piece n os) e

pub done-first : (from to : List (List ℕ)) (bs : List ℕ) → done_with from to bs (no_axis ∷ []) ≡ pieces_at from to bs
done-first from to bs = append-nil (map (after from no_axis) (parts from to bs)) ∙ each (parts from to bs)
  where
    each : (ts : List (List Overlap)) → map (after from no_axis) ts ≡ map (λ os. piece (place (counts from) (chunks_in os)) os) ts
    each [] = refl
    each (t ∷ ts) = ap (λ (q : Piece). q ∷ map (after from no_axis) ts) (first-piece from t) ∙ ap (λ (qs : List Piece). piece (place (counts from) (chunks_in t)) t ∷ qs) (each ts)

last-piece : (p : Piece) → after [] p [] ≡ p
last-piece p =
    let e : p.source * 1 + 0 ≡ p.source = omega arith in
    let f1 = append-nil p.from.start in
    let f2 = append-nil p.from.lengths in
    let f3 = append-nil p.to.start in
    let f4 = append-nil p.to.lengths in
    λ i. record { source = e i; from = record { start = f1 i; lengths = f2 i }; to = record { start = f3 i; lengths = f4 i } }

done-none : (ps : List Piece) → flat_map (λ (p : Piece). after [] p [] ∷ []) ps ≡ ps
done-none [] = refl
done-none (p ∷ ps) = ap (λ (q : Piece). q ∷ flat_map (λ (p : Piece). after [] p [] ∷ []) ps) (last-piece p) ∙ ap (λ (qs : List Piece). p ∷ qs) (done-none ps)

pub done-end : (from to : List (List ℕ)) (bs : List ℕ) (k : ℕ) (ps : List Piece) → length from ≤ k → done_with (drop k from) (drop k to) (drop k bs) ps ≡ pieces_at from to bs → ps ≡ pieces_at from to bs
done-end from to bs k ps h e =
    let n : drop k from ≡ [] = drop_all k from h in
    let z : done_with [] (drop k to) (drop k bs) ps ≡ pieces_at from to bs = rw n at e in
    sym (done-none ps) ∙ z

-- ---- room

open-part : (r n : ℕ) (axes : ℕ) (p : Piece) (o : Overlap) → o.chunk < n → IsOpen (suc axes) (n * r) p → IsOpen axes r (extended n p o)
open-part r n axes p o h w =
    let f : length p.from.lengths + suc axes ≤ 8 = w.from_room in
    let t : length p.to.lengths + suc axes ≤ 8 = w.to_room in
    let m : (p.source + 1) * (n * r) ≤ 2 ^ 31 = w.numbers in
    let lf : length (p.from.lengths ++ o.len ∷ []) ≡ length p.from.lengths + 1 = length_push p.from.lengths o.len in
    let lt : length (p.to.lengths ++ o.len ∷ []) ≡ length p.to.lengths + 1 = length_push p.to.lengths o.len in
    record { from_room = omega arith; to_room = omega arith; numbers = below p.source n r o.chunk h m }
  where
    below : (s n r c : ℕ) → c < n → (s + 1) * (n * r) ≤ 2 ^ 31 → (s * n + c + 1) * r ≤ 2 ^ 31
    below s n r c h m = let g : (s * n + c + 1) * r ≤ ((s + 1) * n) * r = mul-le-mul_right r (omega arith) in omega arith

-- the chunks of the parts are chunks
abbrev AllBelow : ℕ → List Overlap → Type 0
AllBelow n [] = Unit {0}
AllBelow n (o ∷ os) = (o.chunk < n) × AllBelow n os

with-below : (n k at low a b : ℕ) (more : List Overlap) → k < n → AllBelow n more → AllBelow n (with_overlap k at low a b more)
with-below n k at low a b more h m = elim (cases_lt a b) [
  | inl lt ↦ subst (AllBelow n) (sym (something k at low a b more lt)) (h, m)
  | inr ge ↦ subst (AllBelow n) (sym (nothing k at low a b more ge)) m
]

below-from : (n k at low high : ℕ) (ss : List ℕ) → k + length ss ≤ n → AllBelow n (overlaps_from k at low high ss)
below-from n k at low high [] h = tt
below-from n k at low high (s ∷ ss) h =
    with-below n k at low (max low at) (min high (at + s)) (overlaps_from (suc k) (at + s) low high ss) (omega arith) (below-from n (suc k) (at + s) low high ss (omega arith))

open-append : (axes r : ℕ) (ps qs : List Piece) → AllOpen axes r ps → AllOpen axes r qs → AllOpen axes r (ps ++ qs)
open-append axes r [] qs a b = b
open-append axes r (p ∷ ps) qs a b = (a.0, open-append axes r ps qs a.1 b)

open-parts : (r n axes : ℕ) (p : Piece) (os : List Overlap) → AllBelow n os → IsOpen (suc axes) (n * r) p → AllOpen axes r (map (extended n p) os)
open-parts r n axes p [] b w = tt
open-parts r n axes p (o ∷ os) b w = (open-part r n axes p o b.0 w, open-parts r n axes p os b.1 w)

open-all : (r n axes : ℕ) (ps : List Piece) (os : List Overlap) → AllBelow n os → AllOpen (suc axes) (n * r) ps → AllOpen axes r (flat_map (λ (p : Piece). map (extended n p) os) ps)
open-all r n axes [] os b w = tt
open-all r n axes (p ∷ ps) os b w = open-append axes r (map (extended n p) os) _ (open-parts r n axes p os b w.0) (open-all r n axes ps os b w.1)

-- room for all blocks is room for those of the next axis
open-less : (r n axes : ℕ) (ps : List Piece) → 0 < r → AllOpen (suc axes) (n * r) ps → AllOpen 1 n ps
open-less r n axes [] h w = tt
open-less r n axes (p ∷ ps) h w =
    let f : length p.from.lengths + suc axes ≤ 8 = w.0.from_room in
    let t : length p.to.lengths + suc axes ≤ 8 = w.0.to_room in
    let m : (p.source + 1) * (n * r) ≤ 2 ^ 31 = w.0.numbers in
    (record { from_room = omega arith; to_room = omega arith; numbers = fewer (p.source + 1) n r h m }, open-less r n axes ps h w.1)
  where
    fewer : (s n r : ℕ) → 0 < r → s * (n * r) ≤ 2 ^ 31 → s * n ≤ 2 ^ 31
    fewer s n zero h m = absurd (omega arith)
    fewer s n (suc r) h m = omega arith

all_cut-drop : (layout : List (List ℕ)) (k : ℕ) → AllCut layout → AllCut (drop k layout)
all_cut-drop layout zero a = a
all_cut-drop [] (suc k) a = tt
all_cut-drop (s ∷ layout) (suc k) a = all_cut-drop layout k a.1

some-blocks : (layout : List (List ℕ)) → AllCut layout → 0 < blocks layout
some-blocks [] a = omega arith
some-blocks (s ∷ layout) a = let p : 0 < length s = a.0.some in mul-pos p (some-blocks layout a.1)

-- ---- one axis more

pub record IsCrossed (from to : List (List ℕ)) (bs : List ℕ) (k : ℕ) (ps : List Piece) : Type 0 where
  pub room : AllOpen (length (drop k from)) (blocks (drop k from)) ps
  pub value : done_with (drop k from) (drop k to) (drop k bs) ps ≡ pieces_at from to bs

pub crossed-room : (from to : List (List ℕ)) (bs : List ℕ) (k : ℕ) (ps : List Piece) → AllCut from → k < length from → IsCrossed from to bs k ps → AllOpen 1 (length (get_or from k [])) ps
crossed-room from to bs k ps a h c =
    let d : drop k from ≡ get_or from k [] ∷ drop (k + 1) from = drop_more from k [] h in
    let w : AllOpen (suc (length (drop (k + 1) from))) (length (get_or from k []) * blocks (drop (k + 1) from)) ps = rw d at c.room in
    open-less (blocks (drop (k + 1) from)) (length (get_or from k [])) (length (drop (k + 1) from)) ps (some-blocks (drop (k + 1) from) (all_cut-drop from (k + 1) a)) w

pub crossed-more : (from to : List (List ℕ)) (bs : List ℕ) (k low high : ℕ) (ps qs : List Piece) → k < length from → k < length to → k < length bs
    → low ≡ total (take (get_or bs k 0) (get_or to k [])) → high ≡ total (take (get_or bs k 0) (get_or to k [])) + get_or (get_or to k []) (get_or bs k 0) 0
    → qs ≡ flat_map (λ (p : Piece). map (extended (length (get_or from k [])) p) (overlaps_from 0 0 low high (get_or from k []))) ps
    → IsCrossed from to bs k ps → IsCrossed from to bs (k + 1) qs
crossed-more from to bs k low high ps qs h g b el eh eq c =
    let xs = get_or from k [] in
    let ys = get_or to k [] in
    let j = get_or bs k 0 in
    let df : drop k from ≡ xs ∷ drop (k + 1) from = drop_more from k [] h in
    let dt : drop k to ≡ ys ∷ drop (k + 1) to = drop_more to k [] g in
    let db : drop k bs ≡ j ∷ drop (k + 1) bs = drop_more bs k 0 b in
    let w : AllOpen (suc (length (drop (k + 1) from))) (length xs * blocks (drop (k + 1) from)) ps = rw df at c.room in
    let os : overlaps_from 0 0 low high xs ≡ overlaps xs ys j = ap (λ (n : ℕ). overlaps_from 0 0 n high xs) el ∙ ap (λ (n : ℕ). overlaps_from 0 0 (total (take j ys)) n xs) eh in
    let q : qs ≡ flat_map (λ (p : Piece). map (extended (length xs) p) (overlaps xs ys j)) ps = eq ∙ ap (λ (zs : List Overlap). flat_map (λ (p : Piece). map (extended (length xs) p) zs) ps) os in
    let v : done_with (xs ∷ drop (k + 1) from) (ys ∷ drop (k + 1) to) (j ∷ drop (k + 1) bs) ps ≡ pieces_at from to bs = rw (df, dt, db) at c.value in
    record {
      room = subst (AllOpen (length (drop (k + 1) from)) (blocks (drop (k + 1) from))) (sym q)
          (open-all (blocks (drop (k + 1) from)) (length xs) (length (drop (k + 1) from)) ps (overlaps xs ys j) (below-from (length xs) 0 0 (total (take j ys)) (total (take j ys) + get_or ys j 0) xs (omega arith)) w);
      value = ap (done_with (drop (k + 1) from) (drop (k + 1) to) (drop (k + 1) bs)) q
          ∙ sym (after-pieces xs (drop (k + 1) from) ps (overlaps xs ys j) (parts (drop (k + 1) from) (drop (k + 1) to) (drop (k + 1) bs))) ∙ v;
    }

pub crossed-first : (from to : List (List ℕ)) (bs : List ℕ) → length from ≤ 8 → blocks from ≤ 2 ^ 31 → IsCrossed from to bs 0 (no_axis ∷ [])
crossed-first from to bs h b = record { room = (record { from_room = omega arith; to_room = omega arith; numbers = omega arith }, tt); value = done-first from to bs }

-- ---- an empty block

no-overlap : (k at low high : ℕ) (ss : List ℕ) → high ≤ low → overlaps_from k at low high ss ≡ []
no-overlap k at low high [] h = refl
no-overlap k at low high (s ∷ ss) h =
    nothing k at low (max low at) (min high (at + s)) (overlaps_from (suc k) (at + s) low high ss) (omega arith) ∙ no-overlap (suc k) (at + s) low high ss h

none-each : (os : List Overlap) → flat_map (λ (o : Overlap). map (λ (t : List Overlap). o ∷ t) []) os ≡ []
none-each [] = refl
none-each (o ∷ os) = none-each os

pub no-parts : (from to : List (List ℕ)) (bs : List ℕ) → lengths from ≡ lengths to → IsIn (counts to) bs → (HasElements to bs → ⊥) → parts from to bs ≡ []
no-parts from [] bs e i h = absurd (h (λ k b. absurd (omega arith)))
no-parts [] (ys ∷ to) bs e i h = absurd (cc)
no-parts (xs ∷ from) (ys ∷ to) [] e i h = absurd i
no-parts (xs ∷ from) (ys ∷ to) (b ∷ bs) e i h = elim (cases_eq (get_or ys b 0) 0) [
  | inl z ↦ ap (λ (os : List Overlap). flat_map (λ o. map (λ t. o ∷ t) (parts from to bs)) os) (no-overlap 0 0 (total (take b ys)) (total (take b ys) + get_or ys b 0) xs (omega arith))
  | inr d ↦ ap (λ (ts : List (List Overlap)). flat_map (λ o. map (λ t. o ∷ t) ts) (overlaps xs ys b)) (no-parts from to bs (cc) i.1 (λ r. h (both d r))) ∙ none-each (overlaps xs ys b)
]
  where
    both : get_or ys b 0 ≢ 0 → HasElements to bs → HasElements (ys ∷ to) (b ∷ bs)
    both d r zero g = d
    both d r (suc k) g = r k (omega arith)

-- ---- as the code has it

pub number-there : (layout : List (List ℕ)) (bs : List ℕ) (k : ℕ) → IsIn (counts layout) bs → k < length layout → (k < length bs) × (get_or bs k 0 < length (get_or layout k []))
number-there [] bs k i h = absurd (omega arith)
number-there (ss ∷ layout) [] k i h = absurd i
number-there (ss ∷ layout) (b ∷ bs) zero i h = (omega arith, i.0)
number-there (ss ∷ layout) (b ∷ bs) (suc k) i h = let r = number-there layout bs k i.1 (omega arith) in let r0 : k < length bs = r.0 in (omega arith, r.1)

pub walked-begin : (from : List ℕ) (n : ℕ) (p : Piece) (low high chunk : ℕ) (outs : List Piece) → low < total from → chunk ≡ chunk_of from low
    → IsWalked from n p low high chunk outs (outs ++ map (extended n p) (overlaps_from 0 0 low high from))
walked-begin from n p low high chunk outs h e =
    let i : InChunk from low chunk = subst (InChunk from low) (sym e) (in-chunk from low h) in
    walked-first from n p low high chunk outs i.there i.low i.high

pub record WalkedHere (from starts : List ℕ) (low high chunk : ℕ) : Type 0 where
  pub inside : chunk < length from
  pub at_is : get_or starts chunk 0 ≡ total (take chunk from)
  pub next_is : get_or starts (chunk + 1) 0 ≡ total (take (chunk + 1) from)
  pub past : low < total (take (chunk + 1) from)
  pub grows : total (take chunk from) ≤ total (take (chunk + 1) from)

pub walked-here : (from starts : List ℕ) (n : ℕ) (p : Piece) (low high chunk : ℕ) (outs res : List Piece) → AreStarts from starts → IsWalked from n p low high chunk outs res
    → get_or starts chunk 0 < high → high ≤ total from → WalkedHere from starts low high chunk
walked-here from starts n p low high chunk outs res s w b t =
    let at : get_or starts chunk 0 ≡ total (take chunk from) = s.at chunk w.there in
    let h : chunk < length from = elim (cases_lt chunk (length from)) [
      | inl lt ↦ lt
      | inr ge ↦ let e : total (take chunk from) ≡ total from = ap total (take_all chunk from ge) in absurd (omega arith)
    ] in
    let m : total (take (chunk + 1) from) ≡ total (take chunk from) + get_or from chunk 0 = total-more from chunk h in
    let u : low < total (take chunk from) + get_or from chunk 0 = w.above h in
    record { inside = h; at_is = at; next_is = s.at (chunk + 1) (omega arith); past = omega arith; grows = omega arith }

some-elements : (to : List (List ℕ)) (bs : List ℕ) → IsIn (counts to) bs → HasElements to bs → 0 < elements (lengths to)
some-elements [] bs i h = omega arith
some-elements (ys ∷ to) [] i h = absurd i
some-elements (ys ∷ to) (b ∷ bs) i h =
    let d : get_or ys b 0 ≢ 0 = h 0 (omega arith) in
    let g : get_or ys b 0 ≤ total ys = total-ge ys b i.0 in
    mul-pos (some d g) (some-elements to bs i.1 (λ k lt. h (suc k) (omega arith)))
  where
    some : get_or ys b 0 ≢ 0 → get_or ys b 0 ≤ total ys → 0 < total ys
    some d g = omega arith

pub crossed-begin : (from to : List (List ℕ)) (bs : List ℕ) → IsLayout from → lengths from ≡ lengths to → IsIn (counts to) bs → HasElements to bs → IsCrossed from to bs 0 (no_axis ∷ [])
crossed-begin from to bs l e i h =
    let p : 0 < elements (lengths to) = some-elements to bs i h in
    let q : 0 < elements (lengths from) = rw e p in
    let b : blocks from ≤ elements (lengths from) = blocks-cut from l.cuts q in
    let s : elements (lengths from) ≤ 2 ^ 31 = l.shape.product in
    let n : length (lengths from) ≡ length from = length-map from (λ (ss : List ℕ). total ss) in
    let a : length (lengths from) ≤ 8 = l.shape.axes in
    crossed-first from to bs (omega arith) (omega arith)

-- the range of a chunk of the block, which has an element
pub record RangeHere (xs ys starts : List ℕ) (j : ℕ) : Type 0 where
  pub low_is : get_or starts j 0 ≡ total (take j ys)
  pub high_is : get_or starts (j + 1) 0 ≡ total (take j ys) + get_or ys j 0
  pub some : get_or starts j 0 < get_or starts (j + 1) 0
  pub top : get_or starts (j + 1) 0 ≤ total xs

pub range-here : (xs ys starts : List ℕ) (j : ℕ) → AreStarts ys starts → total xs ≡ total ys → j < length ys → get_or ys j 0 ≢ 0 → RangeHere xs ys starts j
range-here xs ys starts j s e h d =
    let a : get_or starts j 0 ≡ total (take j ys) = s.at j (omega arith) in
    let z : get_or starts (j + 1) 0 ≡ total (take (j + 1) ys) = s.at (j + 1) (omega arith) in
    let m : total (take (j + 1) ys) ≡ total (take j ys) + get_or ys j 0 = total-more ys j h in
    let b : total (take j ys) + get_or ys j 0 ≤ total ys = total-before ys j h in
    record { low_is = a; high_is = omega arith; some = positive d; top = omega arith }
  where
    positive : get_or ys j 0 ≢ 0 → get_or starts j 0 < get_or starts (j + 1) 0
    positive q = let a : get_or starts j 0 ≡ total (take j ys) = s.at j (omega arith) in
        let z : get_or starts (j + 1) 0 ≡ total (take (j + 1) ys) = s.at (j + 1) (omega arith) in
        let m : total (take (j + 1) ys) ≡ total (take j ys) + get_or ys j 0 = total-more ys j h in
        omega arith

pub no_pieces : (from to : List (List ℕ)) (bs : List ℕ) → lengths from ≡ lengths to → IsIn (counts to) bs → (HasElements to bs → ⊥) → [] ≡ pieces_at from to bs
no_pieces from to bs e i h = sym (ap (λ (ts : List (List Overlap)). map (λ os. piece (place (counts from) (chunks_in os)) os) ts) (no-parts from to bs e i h))
