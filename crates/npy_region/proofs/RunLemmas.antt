-- Runs that are put together element by element hold all elements of a region, in as few runs as there can be.
use Rattle.std.proofs.Common.{◌≡◌, ℕ, ◌≤◌, ◌<◌, ◌+◌, ◌-◌, ◌*◌, ◌/◌, inl, inr, List, [], ◌∷◌, ◌++◌, length, get_or, refl, ap, ap₂, sym, ◌∙◌, arith, subst, length-append}
use Rattle.std.specs.Prelude.{Bool, false}
use Rattle.std.proofs.lemmas.Nat.{div-mul-add}
use Rattle.std.proofs.lemmas.List.{get_or_append_left, get_or-append_right}
use Rattle.std.proofs.Math.Nat.{mul-le-mul_right}
use Rattle.small_facts.proofs.Numbers.{product_left}
use Rattle.nd_shape.specs.Shape.{elements}
use Rattle.nd_shape.specs.Index.{IsIn}
use Rattle.nd_shape.specs.Region.{Box, IsPart}
use Rattle.nd_rows.specs.Storage.{Walk, Targets, IsRow, spot, count_of, walk_of, target, stored}
use Rattle.nd_rows.proofs.Order.{count-walk_of, IsPart-walk_of, spot-place_by, spot-ascends, number_of, number_of-below, target-number_of, index_of}
use Rattle.nd_rows.proofs.Turns.{split}
use Rattle.npy_codec.specs.declared.head.Head.{Head}
use Rattle.npy_codec.specs.Regions.{number_at}
use Rattle.npy_region.specs.declared.runs.Run.{Run}
use Rattle.npy_region.specs.Runs.{AreRuns, StandsIn, GoesOn, no_run}
use Rattle.npy_region.specs.Building.{IsJoined, PutsRun, IsUnit, IsWord, HasWords, HoldsOnly, Comes, Covers, Splits}
use Rattle.npy_region.proofs.Widths.{at_plus, below_by, last_word, parts, whole-div, word_in}

-- ---- lists of runs

at_front : (runs : List Run) (last : Run) (k : ℕ) → k < length runs → get_or (runs ++ last ∷ []) k no_run ≡ get_or runs k no_run
at_front runs last k h = get_or_append_left runs (last ∷ []) no_run k h

at_end : (runs : List Run) (last : Run) (k : ℕ) → k ≡ length runs → get_or (runs ++ last ∷ []) k no_run ≡ last
at_end runs last k h =
    let z : k - k ≡ 0 = omega arith in
    get_or-append_right runs (last ∷ []) k k no_run (sym h) (omega arith) ∙ ap (λ n. get_or (last ∷ []) n no_run) z

-- a fact about each run and about the last one is one about each of all
each_of_all : (P : Run → Type 0) (runs : List Run) (last : Run) → ((k : ℕ) → k < length runs → P (get_or runs k no_run)) → P last → (k : ℕ) → k < length (runs ++ last ∷ []) → P (get_or (runs ++ last ∷ []) k no_run)
each_of_all P runs last front here k h =
    let n : length (runs ++ last ∷ []) ≡ length runs + 1 = length-append runs (last ∷ []) in
    elim (split k (length runs)) [ inl low ↦ subst P (sym (at_front runs last k low)) (front k low) | inr high ↦ subst P (sym (at_end runs last k (omega arith))) here ]

-- the same of each run and the next
each_pair : (R : Run → Run → Type 0) (runs : List Run) (last : Run) → ((k : ℕ) → k + 1 < length runs → R (get_or runs k no_run) (get_or runs (k + 1) no_run)) → ((k : ℕ) → k + 1 ≡ length runs → R (get_or runs k no_run) last) →
    (k : ℕ) → k + 1 < length (runs ++ last ∷ []) → R (get_or (runs ++ last ∷ []) k no_run) (get_or (runs ++ last ∷ []) (k + 1) no_run)
each_pair R runs last front here k h =
    let n : length (runs ++ last ∷ []) ≡ length runs + 1 = length-append runs (last ∷ []) in
    let a : get_or (runs ++ last ∷ []) k no_run ≡ get_or runs k no_run = at_front runs last k (omega arith) in
    elim (split (k + 1) (length runs)) [
      | inl low ↦ subst (λ x. R (get_or (runs ++ last ∷ []) k no_run) x) (sym (at_front runs last (k + 1) low)) (subst (λ x. R x (get_or runs (k + 1) no_run)) (sym a) (front k low))
      | inr high ↦
          let e : k + 1 ≡ length runs = omega arith in
          subst (λ x. R (get_or (runs ++ last ∷ []) k no_run) x) (sym (at_end runs last (k + 1) e)) (subst (λ x. R x last) (sym a) (here k e))
    ]

-- ---- one more unit

wider : (w : ℕ) (f g : ℕ → ℕ) (count more : ℕ) (run : Run) → count ≤ more → HoldsOnly w f g count run → HoldsOnly w f g more run
wider w f g count more run h only = λ j word. let x = only j word in (x.0, omega (arith, x.1), x.2)

unit_words : (w : ℕ) (f g : ℕ → ℕ) (from n : ℕ) (run : Run) → IsUnit w f g from n run → HasWords w run
unit_words w f g from n run u = (n, u.some, u.length_is)

unit_word : (w : ℕ) (f g : ℕ → ℕ) (from n j : ℕ) (run : Run) → IsUnit w f g from n run → j < n → IsWord w f g run j (from + j)
unit_word w f g from n j run u h =
    let l : run.length ≡ w * n = u.length_is in
    record { word = omega (arith, l, word_in w j n h); offset_is = u.offsets j h; place_is = u.places j h }

unit_only : (w : ℕ) (f g : ℕ → ℕ) (from n : ℕ) (run : Run) → 0 < w → IsUnit w f g from n run → HoldsOnly w f g (from + n) run
unit_only w f g from n run wide u = λ j word.
    let l : run.length ≡ w * n = u.length_is in
    let j_in : j < n = below_by w j n wide (omega (arith, l, word)) in
    (from + j, omega (arith, j_in), unit_word w f g from n j run u j_in)

pub first_unit : (w : ℕ) (f g : ℕ → ℕ) (n : ℕ) (run : Run) → 0 < w → IsUnit w f g 0 n run → Covers w f g n [] run
first_unit w f g n run wide u = record {
  words = λ k h. absurd (omega arith);
  last_words = unit_words w f g 0 n run u;
  only = λ k h. absurd (omega arith);
  last_only = wider w f g (0 + n) n run (omega arith) (unit_only w f g 0 n run wide u);
  all = λ q h.
      let e : 0 + q ≡ q = omega arith in
      inr (q, subst (IsWord w f g run q) e (unit_word w f g 0 n q run u h));
  ascending = λ k h. absurd (omega arith);
  last_ascending = λ k h. absurd (omega arith);
  maximal = λ k h. absurd (omega arith);
  last_maximal = λ k h. absurd (omega arith);
}

-- a run ends before the next element
ends_before : (w : ℕ) (f g : ℕ → ℕ) (count : ℕ) (run : Run) → ((q q' : ℕ) → q < q' → q' ≤ count → f q + w ≤ f q') → HasWords w run → HoldsOnly w f g count run → run.offset + run.length ≤ f count
ends_before w f g count run up words only =
    let l : run.length ≡ w * words.0 = words.2 in
    let some : 0 < words.0 = words.1 in
    let whole : w * (words.0 - 1) + w ≡ w * words.0 = last_word w words.0 some in
    let x = only (words.0 - 1) (omega (arith, l, whole)) in
    let o : f x.0 ≡ run.offset + w * (words.0 - 1) = x.2.offset_is in
    let a : f x.0 + w ≤ f count = up x.0 count x.1 (omega arith) in
    omega (arith, l, whole, o, a)

-- an element of the second run in both of them
joined_word : (w : ℕ) (f g : ℕ → ℕ) (count n c j : ℕ) (last next run : Run) → 0 < w → IsUnit w f g count n next → IsJoined w last next run → last.length ≡ w * c → j < n → IsWord w f g run (c + j) (count + j)
joined_word w f g count n c j last next run wide u joined l h =
    let r : run.length ≡ last.length + next.length = joined.length_is in
    let m : next.length ≡ w * n = u.length_is in
    let o : next.offset ≡ last.offset + last.length = joined.next.offset in
    let p : next.place ≡ last.place + c = joined.next.place ∙ ap (λ k. last.place + k) (whole-div w c last.length wide l) in
    record {
      word = omega (arith, r, m, l, word_in w j n h);
      offset_is = let f_is : f (count + j) ≡ next.offset + w * j = u.offsets j h in omega (arith, f_is, o, l, joined.offset_is);
      place_is = let g_is : g (count + j) ≡ next.place + j = u.places j h in omega (arith, g_is, p, joined.place_is);
    }

joined_unit : (w : ℕ) (f g : ℕ → ℕ) (count n : ℕ) (runs : List Run) (last next run : Run) → 0 < w → IsUnit w f g count n next → IsJoined w last next run → Covers w f g count runs last → Covers w f g (count + n) runs run
joined_unit w f g count n runs last next run wide u j c =
    let l : run.length ≡ last.length + next.length = j.length_is in
    let o : run.offset ≡ last.offset = j.offset_is in
    let p : run.place ≡ last.place = j.place_is in
    let m : next.length ≡ w * n = u.length_is in
    let first = c.last_words.0 in
    let f_is : last.length ≡ w * first = c.last_words.2 in
    let some : 0 < first = c.last_words.1 in
    let all : run.length ≡ w * (first + n) = l ∙ (ap₂ (λ x y. x + y) f_is m ∙ parts w first n (first + n) refl) in
    record {
      words = c.words;
      last_words = (first + n, omega (arith, some), all);
      only = λ k h. wider w f g count (count + n) (get_or runs k no_run) (omega arith) (c.only k h);
      last_only = λ i word. elim (split i first) [
        | inl low ↦
            let x = c.last_only i (omega (arith, f_is, word_in w i first low)) in
            let xo : f x.0 ≡ last.offset + w * i = x.2.offset_is in
            let xp : g x.0 ≡ last.place + i = x.2.place_is in
            (x.0, omega (arith, x.1), record { word = word; offset_is = omega (arith, xo, o); place_is = omega (arith, xp, p) })
        | inr high ↦
            let i_in : i < first + n = below_by w i (first + n) wide (subst (λ z. w * i + w ≤ z) all word) in
            let j_in : i - first < n = omega (arith, i_in, high) in
            let back : first + (i - first) ≡ i = omega (arith, high) in
            (count + (i - first), omega (arith, j_in), subst (λ z. IsWord w f g run z (count + (i - first))) back (joined_word w f g count n first (i - first) last next run wide u j f_is j_in))
      ];
      all = λ q h. elim (split q count) [
        | inl low ↦ elim (c.all q low) [
          | inl x ↦ inl x
          | inr x ↦
              let xw : w * x.0 + w ≤ last.length = x.1.word in
              let xo : f q ≡ last.offset + w * x.0 = x.1.offset_is in
              let xp : g q ≡ last.place + x.0 = x.1.place_is in
              inr (x.0, record { word = omega (arith, xw, l); offset_is = omega (arith, xo, o); place_is = omega (arith, xp, p) })
        ]
        | inr high ↦
            let j_in : q - count < n = omega (arith, h, high) in
            let back : count + (q - count) ≡ q = omega (arith, high) in
            inr (first + (q - count), subst (IsWord w f g run (first + (q - count))) back (joined_word w f g count n first (q - count) last next run wide u j f_is j_in))
      ];
      ascending = c.ascending;
      last_ascending = λ k h. let a : (get_or runs k no_run).offset + (get_or runs k no_run).length ≤ last.offset = c.last_ascending k h in omega (arith, a, o);
      maximal = c.maximal;
      last_maximal = λ k h goes. c.last_maximal k h (record { offset = sym o ∙ goes.offset; place = sym p ∙ goes.place });
    }

put_unit : (w : ℕ) (f g : ℕ → ℕ) (count n : ℕ) (runs : List Run) (last next : Run) → 0 < w → ((q q' : ℕ) → q < q' → q' ≤ count → f q + w ≤ f q') → IsUnit w f g count n next → (GoesOn w last next → ⊥) → Covers w f g count runs last → Covers w f g (count + n) (runs ++ last ∷ []) next
put_unit w f g count n runs last next wide up u apart c =
    let size : length (runs ++ last ∷ []) ≡ length runs + 1 = length-append runs (last ∷ []) in
    let o : next.offset ≡ f count = u.offset_is in
    let ends : last.offset + last.length ≤ f count = ends_before w f g count last up c.last_words c.last_only in
    record {
      words = each_of_all (HasWords w) runs last c.words c.last_words;
      last_words = unit_words w f g count n next u;
      only = each_of_all (HoldsOnly w f g (count + n)) runs last (λ k h. wider w f g count (count + n) (get_or runs k no_run) (omega arith) (c.only k h)) (wider w f g count (count + n) last (omega arith) c.last_only);
      last_only = unit_only w f g count n next wide u;
      all = λ q h. elim (split q count) [
        | inl low ↦ elim (c.all q low) [
          | inl x ↦ inl (x.0, x.1, omega (arith, x.2), subst (λ r. IsWord w f g r x.1 q) (sym (at_front runs last x.0 x.2)) x.3)
          | inr x ↦ inl (length runs, x.0, omega arith, subst (λ r. IsWord w f g r x.0 q) (sym (at_end runs last (length runs) refl)) x.1)
        ]
        | inr high ↦
            let q_in : q - count < n = omega (arith, h, high) in
            let back : count + (q - count) ≡ q = omega (arith, high) in
            inr (q - count, subst (IsWord w f g next (q - count)) back (unit_word w f g count n (q - count) next u q_in))
      ];
      ascending = each_pair Comes runs last c.ascending c.last_ascending;
      last_ascending = λ k h. subst (λ r. Comes r next) (sym (at_end runs last k (omega arith))) (omega arith);
      maximal = each_pair (λ a b. GoesOn w a b → ⊥) runs last c.maximal c.last_maximal;
      last_maximal = λ k h. subst (λ r. GoesOn w r next → ⊥) (sym (at_end runs last k (omega arith))) apart;
    }

pub next_unit : (w : ℕ) (f g : ℕ → ℕ) (count n : ℕ) (before after : List Run) (last next run : Run) → 0 < w → ((q q' : ℕ) → q < q' → q' ≤ count → f q + w ≤ f q') → IsUnit w f g count n next → PutsRun w before last next after run → Covers w f g count before last → Covers w f g (count + n) after run
next_unit w f g count n before after last next run wide up u puts c =
    elim puts [
      | inl x ↦ subst (λ rs. Covers w f g (count + n) rs run) (sym x.0) (joined_unit w f g count n before last next run wide u x.1 c)
      | inr x ↦ subst (λ rs. Covers w f g (count + n) rs run) (sym x.0) (subst (Covers w f g (count + n) (before ++ last ∷ [])) (sym x.1) (put_unit w f g count n before last next wide up u x.2 c))
    ]

-- ---- the elements of a region

-- the offset and the place of the q-th element of a region in the order of storage
abbrev pub offset_at : Head → Box → ℕ → ℕ
offset_at head region q = number_at head (spot (walk_of head.fortran head.shape region) q)

abbrev pub place_at : Head → Box → ℕ → ℕ
place_at head region q = target head.fortran (stored head.fortran region.lengths) q

pub offsets_ascend : (head : Head) (region : Box) (q q' : ℕ) → IsPart region head.shape → q < q' → q' < count_of (walk_of head.fortran head.shape region) → offset_at head region q + head.width ≤ offset_at head region q'
offsets_ascend head region q q' part h b =
    let a : spot (walk_of head.fortran head.shape region) q < spot (walk_of head.fortran head.shape region) q' = spot-ascends (walk_of head.fortran head.shape region) q q' (IsPart-walk_of head.fortran head.shape region part) h b in
    omega (arith, word_in head.width (spot (walk_of head.fortran head.shape region) q) (spot (walk_of head.fortran head.shape region) q') a)

stands_at : (head : Head) (region : Box) (run : Run) (j q : ℕ) (i : List ℕ) → IsPart region head.shape → IsIn region.lengths i → number_of head.fortran region.lengths i ≡ q → IsWord head.width (offset_at head region) (place_at head region) run j q → StandsIn head region run j i
stands_at head region run j q i part i_in number w = record {
  inside = i_in;
  word = w.word;
  offset = ap (number_at head) (sym (spot-place_by head.fortran head.shape region i part i_in)) ∙ ap (offset_at head region) number ∙ w.offset_is;
  target = sym (target-number_of head.fortran region.lengths i i_in) ∙ ap (place_at head region) number ∙ w.place_is;
}

pub are_runs : (head : Head) (region : Box) (count : ℕ) (runs : List Run) (last : Run) → IsPart region head.shape → count ≡ elements region.lengths → Covers head.width (offset_at head region) (place_at head region) count runs last → AreRuns head region (runs ++ last ∷ [])
are_runs head region count runs last part is_count c =
    let size : length (runs ++ last ∷ []) ≡ length runs + 1 = length-append runs (last ∷ []) in
    let only = each_of_all (HoldsOnly head.width (offset_at head region) (place_at head region) count) runs last c.only c.last_only in
    record {
      words = each_of_all (HasWords head.width) runs last c.words c.last_words;
      only = λ k j h word.
          let x = only k h j word in
          let i = index_of head.fortran region.lengths x.0 (subst (λ n. x.0 < n) is_count x.1) in
          (i.index, stands_at head region (get_or (runs ++ last ∷ []) k no_run) j x.0 i.index part i.inside i.number x.2);
      all = λ i i_in.
          let q = number_of head.fortran region.lengths i in
          let b : q < count = subst (λ n. q < n) (sym is_count) (number_of-below head.fortran region.lengths i i_in) in
          elim (c.all q b) [
            | inl x ↦ (x.0, x.1, omega (arith, x.2), stands_at head region (get_or (runs ++ last ∷ []) x.0 no_run) x.1 q i part i_in refl (subst (λ r. IsWord head.width (offset_at head region) (place_at head region) r x.1 q) (sym (at_front runs last x.0 x.2)) x.3))
            | inr x ↦ (length runs, x.0, omega arith, stands_at head region (get_or (runs ++ last ∷ []) (length runs) no_run) x.0 q i part i_in refl (subst (λ r. IsWord head.width (offset_at head region) (place_at head region) r x.0 q) (sym (at_end runs last (length runs) refl)) x.1))
          ];
      ascending = each_pair Comes runs last c.ascending c.last_ascending;
      maximal = each_pair (λ a b. GoesOn head.width a b → ⊥) runs last c.maximal c.last_maximal;
    }

pub no_runs : (head : Head) (region : Box) → elements region.lengths ≡ 0 → AreRuns head region []
no_runs head region none = record {
  words = λ k h. absurd (omega arith);
  only = λ k j h word. absurd (omega arith);
  all = λ i i_in. let b : number_of head.fortran region.lengths i < elements region.lengths = number_of-below head.fortran region.lengths i i_in in absurd (omega (arith, b));
  ascending = λ k h. absurd (omega arith);
  maximal = λ k h. absurd (omega arith);
}

-- ---- units

pub rows_split : (walk : Walk) (row : ℕ) → IsRow walk row → Splits false walk row
rows_split walk row h = record {
  some = h.some;
  units = h.rows;
  whole = h.whole;
  together = h.together;
  places = λ k j k_in j_in. refl;
}

pub singles_split : (by_column : Bool) (walk : Walk) → Splits by_column walk 1
singles_split by_column walk = record {
  some = omega arith;
  units = count_of walk;
  whole = omega arith;
  together = λ k j k_in j_in. let z : j ≡ 0 = omega arith in let e : k * 1 + j ≡ k * 1 = omega arith in ap (spot walk) e ∙ (let r : spot walk (k * 1) ≡ spot walk (k * 1) + j = omega arith in r);
  places = λ k j k_in j_in. let z : j ≡ 0 = omega arith in let e : k * 1 + j ≡ k * 1 = omega arith in ap (target by_column walk.region.lengths) e ∙ (let r : target by_column walk.region.lengths (k * 1) ≡ target by_column walk.region.lengths (k * 1) + j = omega arith in r);
}

-- the run of a unit
pub unit_is : (head : Head) (region : Box) (unit k : ℕ) (run : Run) (s : Splits head.fortran (walk_of head.fortran head.shape region) unit) → k < s.units →
    run ≡ record { offset = offset_at head region (k * unit); length = head.width * unit; place = place_at head region (k * unit) } → IsUnit head.width (offset_at head region) (place_at head region) (k * unit) unit run
unit_is head region unit k run s k_in e = subst (λ r. IsUnit head.width (offset_at head region) (place_at head region) (k * unit) unit r) (sym e) (record {
  some = s.some;
  offset_is = refl;
  length_is = refl;
  place_is = refl;
  offsets = λ j j_in. let t : spot (walk_of head.fortran head.shape region) (k * unit + j) ≡ spot (walk_of head.fortran head.shape region) (k * unit) + j = s.together k j k_in j_in in ap (number_at head) t ∙ sym (at_plus head (spot (walk_of head.fortran head.shape region) (k * unit)) j);
  places = λ j j_in. s.places k j k_in j_in;
})

pub units_are : (by_column : Bool) (walk : Walk) (unit : ℕ) (s : Splits by_column walk unit) → count_of walk / unit ≡ s.units
units_are by_column walk unit s =
    let some : 0 < unit = s.some in
    let w : count_of walk ≡ s.units * unit + 0 = s.whole ∙ omega arith in
    ap (λ n. n / unit) w ∙ div-mul-add s.units unit 0 some

-- ---- for the loop of the code

-- the run that the code makes of a unit
run_here : (head : Head) (region : Box) (walk : Walk) (targets : Targets) (block : List ℕ) (unit q : ℕ) (run : Run) → walk ≡ walk_of head.fortran head.shape region → targets ≡ record { by_column = head.fortran; lengths = stored head.fortran block } → block ≡ region.lengths →
    run ≡ record { offset = number_at head (spot walk q); length = head.width * unit; place = target targets.by_column targets.lengths q } → run ≡ record { offset = offset_at head region q; length = head.width * unit; place = place_at head region q }
run_here head region walk targets block unit q run is_walk is_targets is_block e =
    let made : ℕ → ℕ → Run = λ o p. record { offset = o; length = head.width * unit; place = p } in
    e ∙ ap₂ made (ap (λ (w : Walk). number_at head (spot w q)) is_walk) (ap (λ (t : Targets). target t.by_column t.lengths q) is_targets ∙ ap (λ (b : List ℕ). target head.fortran (stored head.fortran b) q) is_block)

pub unit_here : (head : Head) (region : Box) (walk : Walk) (targets : Targets) (block : List ℕ) (unit k count : ℕ) (run : Run) → walk ≡ walk_of head.fortran head.shape region → targets ≡ record { by_column = head.fortran; lengths = stored head.fortran block } → block ≡ region.lengths →
    Splits head.fortran walk unit → count ≡ count_of walk → k < count / unit → run ≡ record { offset = number_at head (spot walk (k * unit)); length = head.width * unit; place = target targets.by_column targets.lengths (k * unit) } →
    IsUnit head.width (offset_at head region) (place_at head region) (k * unit) unit run
unit_here head region walk targets block unit k count run is_walk is_targets is_block s is_count k_in e =
    let s' : Splits head.fortran (walk_of head.fortran head.shape region) unit = subst (λ w. Splits head.fortran w unit) is_walk s in
    let n : count / unit ≡ s'.units = ap (λ c. c / unit) (is_count ∙ ap count_of is_walk) ∙ units_are head.fortran (walk_of head.fortran head.shape region) unit s' in
    unit_is head region unit k run s' (subst (λ m. k < m) n k_in) (run_here head region walk targets block unit (k * unit) run is_walk is_targets is_block e)

pub units_some : (b : Bool) (walk : Walk) (unit count : ℕ) → Splits b walk unit → count ≡ count_of walk → 0 < count → 0 < count / unit
units_some b walk unit count s is_count some = subst (λ n. 0 < n) (sym (ap (λ c. c / unit) is_count ∙ units_are b walk unit s)) (product_left s.units unit (subst (λ n. 0 < n) (is_count ∙ s.whole) some))

pub first_here : (head : Head) (region : Box) (walk : Walk) (targets : Targets) (block : List ℕ) (unit count : ℕ) (run : Run) → 0 < head.width → walk ≡ walk_of head.fortran head.shape region → targets ≡ record { by_column = head.fortran; lengths = stored head.fortran block } → block ≡ region.lengths →
    Splits head.fortran walk unit → count ≡ count_of walk → 0 < count → run ≡ record { offset = number_at head (spot walk 0); length = head.width * unit; place = target targets.by_column targets.lengths 0 } →
    Covers head.width (offset_at head region) (place_at head region) (1 * unit) [] run
first_here head region walk targets block unit count run wide is_walk is_targets is_block s is_count some e =
    let z : 0 ≡ 0 * unit = omega arith in
    let one : unit ≡ 1 * unit = omega arith in
    let u : IsUnit head.width (offset_at head region) (place_at head region) (0 * unit) unit run = unit_here head region walk targets block unit 0 count run is_walk is_targets is_block s is_count (units_some head.fortran walk unit count s is_count some)
    (subst (λ q. run ≡ record { offset = number_at head (spot walk q); length = head.width * unit; place = target targets.by_column targets.lengths q }) z e) in
    subst (λ n. Covers head.width (offset_at head region) (place_at head region) n [] run) one (first_unit head.width (offset_at head region) (place_at head region) unit run wide (subst (λ q. IsUnit head.width (offset_at head region) (place_at head region) q unit run) (sym z) u))

unit_end : (b : Bool) (walk : Walk) (unit count k : ℕ) → Splits b walk unit → count ≡ count_of walk → k ≤ count / unit → k * unit ≤ count_of walk
unit_end b walk unit count k s is_count k_in =
    let n : count / unit ≡ s.units = ap (λ c. c / unit) is_count ∙ units_are b walk unit s in
    subst (λ m. k * unit ≤ m) (sym s.whole) (mul-le-mul_right unit (omega (arith, n)))

pub unit_starts : (b : Bool) (walk : Walk) (unit count k : ℕ) → Splits b walk unit → count ≡ count_of walk → k < count / unit → k * unit < count_of walk
unit_starts b walk unit count k s is_count k_in =
    let e : (k + 1) * unit ≤ count_of walk = unit_end b walk unit count (k + 1) s is_count (omega arith) in
    let some : 0 < unit = s.some in
    omega (arith, e)

pub next_here : (head : Head) (region : Box) (walk : Walk) (targets : Targets) (block : List ℕ) (unit k count : ℕ) (before after : List Run) (last next run : Run) → 0 < head.width → IsPart region head.shape → walk ≡ walk_of head.fortran head.shape region →
    targets ≡ record { by_column = head.fortran; lengths = stored head.fortran block } → block ≡ region.lengths → Splits head.fortran walk unit → count ≡ count_of walk → k < count / unit →
    next ≡ record { offset = number_at head (spot walk (k * unit)); length = head.width * unit; place = target targets.by_column targets.lengths (k * unit) } → PutsRun head.width before last next after run →
    Covers head.width (offset_at head region) (place_at head region) (k * unit) before last → Covers head.width (offset_at head region) (place_at head region) ((k + 1) * unit) after run
next_here head region walk targets block unit k count before after last next run wide part is_walk is_targets is_block s is_count k_in e puts c =
    let m : k * unit + unit ≡ (k + 1) * unit = omega arith in
    let b : k * unit < count_of (walk_of head.fortran head.shape region) = subst (λ w. k * unit < count_of w) is_walk (unit_starts head.fortran walk unit count k s is_count k_in) in
    subst (λ n. Covers head.width (offset_at head region) (place_at head region) n after run) m
    (next_unit head.width (offset_at head region) (place_at head region) (k * unit) unit before after last next run wide (λ q q' h h'. offsets_ascend head region q q' part h (omega (arith, b)))
    (unit_here head region walk targets block unit k count next is_walk is_targets is_block s is_count k_in e) puts c)

-- all units were taken
pub runs_end : (head : Head) (region : Box) (walk : Walk) (unit k count : ℕ) (runs : List Run) (last : Run) → IsPart region head.shape → walk ≡ walk_of head.fortran head.shape region → Splits head.fortran walk unit → count ≡ count_of walk → k ≡ count / unit →
    Covers head.width (offset_at head region) (place_at head region) (k * unit) runs last → AreRuns head region (runs ++ last ∷ [])
runs_end head region walk unit k count runs last part is_walk s is_count is_k c =
    let e : k * unit ≡ elements region.lengths = ap (λ n. n * unit) (is_k ∙ ap (λ n. n / unit) is_count ∙ units_are head.fortran walk unit s) ∙ sym s.whole ∙ ap count_of is_walk ∙ count-walk_of head.fortran head.shape region in
    are_runs head region (k * unit) runs last part e c

-- ---- bounds

pub run_length : (w : ℕ) (before after : List Run) (last next run : Run) (m : ℕ) → PutsRun w before last next after run → last.length ≤ m → run.length ≤ m + next.length
run_length w before after last next run m puts h = elim puts [ inl x ↦ omega (arith, x.1.length_is) | inr x ↦ let e : run.length ≡ next.length = ap (λ (r : Run). r.length) x.1 in omega (arith, e) ]

pub run_offset : (w : ℕ) (before after : List Run) (last next run : Run) (m : ℕ) → PutsRun w before last next after run → last.offset ≤ m → next.offset ≤ m → run.offset ≤ m
run_offset w before after last next run m puts h h' = elim puts [ inl x ↦ omega (arith, x.1.offset_is) | inr x ↦ let e : run.offset ≡ next.offset = ap (λ (r : Run). r.offset) x.1 in omega (arith, e) ]

pub run_place : (w : ℕ) (before after : List Run) (last next run : Run) (m : ℕ) → PutsRun w before last next after run → last.place ≤ m → next.place ≤ m → run.place ≤ m
run_place w before after last next run m puts h h' = elim puts [ inl x ↦ omega (arith, x.1.place_is) | inr x ↦ let e : run.place ≡ next.place = ap (λ (r : Run). r.place) x.1 in omega (arith, e) ]

pub unit_fits : (b : Bool) (walk : Walk) (unit count : ℕ) → Splits b walk unit → count ≡ count_of walk → 0 < count → unit ≤ count
unit_fits b walk unit count s is_count some =
    let u : 0 < count / unit = units_some b walk unit count s is_count some in
    let e : 1 * unit ≤ count_of walk = unit_end b walk unit count 1 s is_count u in
    omega (arith, e)

-- the places of a region's block go with its walk
pub same_lengths : (b : Bool) (dims block : List ℕ) (region : Box) (walk : Walk) (targets : Targets) → walk ≡ walk_of b dims region → targets ≡ record { by_column = b; lengths = stored b block } → block ≡ region.lengths → targets.lengths ≡ walk.region.lengths
same_lengths b dims block region walk targets is_walk is_targets is_block = ap (λ (t : Targets). t.lengths) is_targets ∙ ap (stored b) is_block ∙ by_order b ∙ ap (λ (w : Walk). w.region.lengths) (sym is_walk)
  where
    by_order : (b : Bool) → stored b region.lengths ≡ (walk_of b dims region).region.lengths
    by_order b = refl
