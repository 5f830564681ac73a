-- Open files at their places.
use Rattle.std.proofs.Common.{◌≡◌, ◌≢◌, ℕ, ◌≤◌, ◌<◌, ◌-◌, List, [], ◌∷◌, ◌++◌, map, length, get_or, set, refl, ap, sym, ◌∙◌, subst, arith}
use Rattle.std.proofs.lemmas.List.{get_or_append_left, get_or-append_right, get_or-map, get_or-set_other, get_or-set_same, length-map, length_push, length-set, map-set}
use Rattle.io_edge.specs.Content.{Untold}
use Rattle.saved_files.specs.Saving.{Saving, saving_at}

-- the files before one that was added
pub at_old : (files : List Saving) (s : Saving) (k : ℕ) → k < length files → saving_at (files ++ s ∷ []) k ≡ saving_at files k
at_old files s k h = get_or_append_left files (s ∷ []) (record { name = []; dims = []; content = Untold 0; faults = 0 }) k h

-- and that one
pub at_new : (files : List Saving) (s : Saving) (k : ℕ) → k ≡ length files → saving_at (files ++ s ∷ []) k ≡ s
at_new files s k e =
    let z : k - length files ≡ 0 = omega (arith, e) in
    get_or-append_right files (s ∷ []) (length files) k (record { name = []; dims = []; content = Untold 0; faults = 0 }) refl (omega (arith, e)) ∙ ap (saving_at (s ∷ [])) z

pub last_place : (files : List Saving) (s : Saving) (k : ℕ) → k < length (files ++ s ∷ []) → length files ≤ k → k ≡ length files
last_place files s k h high = omega (arith, h, high, length_push files s)

pub at_item : {X : Type 0} (f : X → Saving) (items : List X) (k : ℕ) (item : X) → k < length items → item ≡ get_or items k item → saving_at (map f items) k ≡ f item
at_item f items k item h is = get_or-map f items k item (record { name = []; dims = []; content = Untold 0; faults = 0 }) h ∙ ap f (sym is)

-- ## One file that changed

-- the file at a place was one and is another, and the others are as they were
pub record Replaces (place : ℕ) (old new : List Saving) (was is : Saving) : Type 0 where
  pub count : length new ≡ length old
  pub others : (k : ℕ) → k ≢ place → saving_at new k ≡ saving_at old k
  pub before : saving_at old place ≡ was
  pub after : saving_at new place ≡ is

pub replaces : {X : Type 0} (f : X → Saving) (items : List X) (place : ℕ) (was is : X) (old : List Saving) → map f items ≡ old → place < length old → was ≡ get_or items place was → Replaces place old (map f (set items place is)) (f was) (f is)
replaces f items place was is old viewed there at =
    let l : length old ≡ length items = ap length (sym viewed) ∙ length-map items f in
    let h : place < length items = omega (arith, there, l) in
    let none : Saving = record { name = []; dims = []; content = Untold 0; faults = 0 } in
    record {
      count = length-map (set items place is) f ∙ (length-set items place is ∙ sym l);
      others = λ k apart. ap (λ l. saving_at l k) (map-set f items place is) ∙ (get_or-set_other (map f items) place k (f is) none apart ∙ ap (λ l. saving_at l k) viewed);
      before = ap (λ l. saving_at l place) (sym viewed) ∙ at_item f items place was h at;
      after = ap (λ l. saving_at l place) (map-set f items place is) ∙ get_or-set_same (map f items) place (f is) none (omega (arith, h, length-map items f));
    }

-- what is so of both is so at the place
pub at_place : (P : Saving → Saving → Type 0) (place : ℕ) (old new : List Saving) (was is : Saving) → Replaces place old new was is → P was is → P (saving_at old place) (saving_at new place)
at_place P place old new was is r p = subst (P (saving_at old place)) (sym r.after) (subst (λ s. P s is) (sym r.before) p)
