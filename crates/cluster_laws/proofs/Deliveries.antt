-- Blocks in lists: those of a list of keys, and those under way.
use Rattle.std.proofs.Common.{◌≡◌, ℕ, Bool, true, false, not, ◌&&◌, ◌||◌, List, [], ◌∷◌, Option, Some, None, refl, sym, ap, ◌∙◌, subst, cond, is_some, filter, find, map}
use Rattle.std.specs.Prelude.{◌==◌}
use Rattle.std.specs.Option.{option_map}
use Rattle.std.specs.List.{list_any, list_all, filter_map, cons_option, AllByRecursion}
use Rattle.std.proofs.lemmas.Bool.{false≢true, eqb-true, and_parts, or_right, eq-eqb}
use Rattle.std.proofs.lemmas.Option.{none-some, same_Some}
use Rattle.cluster_msgs.specs.Values.{all_of, with_first}
use Rattle.cluster_msgs.specs.declared.events.Asker.{Asker}
use Rattle.cluster_rules.specs.World.{Parcel, parcel_before, with_parcel, is_parcel, parcel_of, without_parcel}
use Rattle.cluster_laws.specs.Blocks.{Delivery}
use Rattle.cluster_laws.specs.Moves.{block_among, delivery_of, without_delivery, with_delivery}
use Rattle.cluster_laws.specs.AreValues.{IsPlace, AreOf}

-- where all have values, the first and the rest have
pub first_of : {B : Type 0} (o : Option B) (r : Option (List B)) (bs : List B) → with_first o r ≡ Some bs → (b : B) × (cs : List B) × (o ≡ Some b) × (r ≡ Some cs) × (bs ≡ b ∷ cs)
first_of None r bs e = absurd (none-some bs e)
first_of (Some b) None bs e = absurd (none-some bs e)
first_of (Some b) (Some cs) bs e = (b, cs, refl, refl, sym (same_Some (b ∷ cs) bs e))

module _ {B : Type 0} (value : ℕ → Option B) where
  -- a block among those of keys is the value of its key
  pub among_right : (ks : List ℕ) (bs : List B) → AreOf value ks bs → (q : ℕ) (b : B) → block_among ks bs q ≡ Some b → value q ≡ Some b
  among_right [] bs h q b e = absurd (none-some b e)
  among_right (k ∷ ks) [] h q b e = absurd (none-some b e)
  among_right (k ∷ ks) (x ∷ bs) h q b e = pick (k == q) refl e (λ i. among_right ks bs (parts.3 ∙ ap (λ z. Some z) (sym tail)) q b i)
    where
      parts : (y : B) × (cs : List B) × (value k ≡ Some y) × (all_of (map value ks) ≡ Some cs) × (x ∷ bs ≡ y ∷ cs)
      parts = first_of (value k) (all_of (map value ks)) (x ∷ bs) h

      head : x ≡ parts.0
      head = let s = parts.4 in cc

      tail : bs ≡ parts.1
      tail = let s = parts.4 in cc

      pick : (c : Bool) → (k == q) ≡ c → cond c (Some x) (block_among ks bs q) ≡ Some b → (block_among ks bs q ≡ Some b → value q ≡ Some b) → value q ≡ Some b
      pick true i e r = subst (λ z. value z ≡ Some b) (eqb-true k q i) (parts.2 ∙ ap (λ z. Some z) (sym head) ∙ e)
      pick false i e r = r e

  -- each of the keys has one there
  pub among_present : (ks : List ℕ) (bs : List B) → AreOf value ks bs → (q : ℕ) → list_any (λ k. k == q) ks ≡ true → is_some (block_among ks bs q) ≡ true
  among_present [] bs h q e = absurd (false≢true e)
  among_present (k ∷ ks) [] h q e = let parts = first_of (value k) (all_of (map value ks)) [] h in absurd (empty parts.0 parts.1 parts.4)
    where
      empty : (y : B) (cs : List B) → [] ≡ y ∷ cs → ⊥
      empty y cs s = cc
  among_present (k ∷ ks) (x ∷ bs) h q e = pick (k == q) e (λ i. among_present ks bs (parts.3 ∙ ap (λ z. Some z) (sym tail)) q i)
    where
      parts : (y : B) × (cs : List B) × (value k ≡ Some y) × (all_of (map value ks) ≡ Some cs) × (x ∷ bs ≡ y ∷ cs)
      parts = first_of (value k) (all_of (map value ks)) (x ∷ bs) h

      tail : bs ≡ parts.1
      tail = let s = parts.4 in cc

      pick : (c : Bool) → (c || list_any (λ j. j == q) ks) ≡ true → (list_any (λ j. j == q) ks ≡ true → is_some (block_among ks bs q) ≡ true) → is_some (cond c (Some x) (block_among ks bs q)) ≡ true
      pick true e r = refl
      pick false e r = r e

  -- so all of them have
  pub all_present : (ks : List ℕ) → (p : ℕ → Bool) → ((q : ℕ) → list_any (λ k. k == q) ks ≡ true → p q ≡ true) → AllByRecursion (λ q. p q ≡ true) ks
  all_present [] p h = tt
  all_present (k ∷ ks) p h = (h k (ap (λ b. b || list_any (λ j. j == k) ks) (eq-eqb k k refl)), all_present ks p (λ q e. h q (or_right (k == q) (list_any (λ j. j == q) ks) e)))

  -- the blocks that stand at these keys are their values
  pub gathered_right : (counted : ℕ → Bool) (block : ℕ → Option B) → ((k : ℕ) → IsPlace (value k) (counted k) (block k)) → (ks : List ℕ) → list_all counted ks ≡ true → AreOf value ks (filter_map block ks)
  gathered_right counted block h [] e = refl
  gathered_right counted block h (k ∷ ks) e =
      let p = and_parts (counted k) (list_all counted ks) e in
      by (block k) refl ((h k).present p.0) (gathered_right counted block h ks p.1)
    where
      by : (o : Option B) → block k ≡ o → is_some (block k) ≡ true → AreOf value ks (filter_map block ks) → with_first (value k) (all_of (map value ks)) ≡ Some (cons_option o (filter_map block ks))
      by None s i r = absurd (false≢true (sym (ap is_some s) ∙ i))
      by (Some b) s i r = ap (λ x. with_first x (all_of (map value ks))) ((h k).right b s) ∙ ap (λ x. with_first (Some b) x) r

  counted_all : (counted : ℕ → Bool) (ks : List ℕ) → list_all counted (filter counted ks) ≡ true
  counted_all counted [] = refl
  counted_all counted (k ∷ ks) = pick (counted k) refl (counted_all counted ks)
    where
      pick : (c : Bool) → counted k ≡ c → list_all counted (filter counted ks) ≡ true → list_all counted (cond c (k ∷ filter counted ks) (filter counted ks)) ≡ true
      pick true e r = ap (λ x. x && list_all counted (filter counted ks)) e ∙ r
      pick false e r = r

  pub served_right : (counted : ℕ → Bool) (block : ℕ → Option B) → ((k : ℕ) → IsPlace (value k) (counted k) (block k)) → (ks : List ℕ) → AreOf value (filter counted ks) (filter_map block (filter counted ks))
  served_right counted block h ks = gathered_right counted block h (filter counted ks) (counted_all counted ks)

-- deliveries stand as their parcels do
abbrev pub parcels : {B : Type 0} → List (Delivery B) → List Parcel
parcels ds = map (λ d. d.parcel) ds

pub parcels_with : {B : Type 0} (d : Delivery B) (ds : List (Delivery B)) → parcels (with_delivery d ds) ≡ with_parcel d.parcel (parcels ds)
parcels_with d [] = refl
parcels_with d (x ∷ ds) = pick (parcel_before d.parcel x.parcel) (parcels_with d ds)
  where
    pick : (b : Bool) → parcels (with_delivery d ds) ≡ with_parcel d.parcel (parcels ds) → parcels (cond b (d ∷ x ∷ ds) (x ∷ with_delivery d ds)) ≡ cond b (d.parcel ∷ x.parcel ∷ parcels ds) (x.parcel ∷ with_parcel d.parcel (parcels ds))
    pick true r = refl
    pick false r = ap (λ y. x.parcel ∷ y) r

pub parcels_without : {B : Type 0} (a : Asker) (p n : ℕ) (ds : List (Delivery B)) → parcels (without_delivery a p n ds) ≡ without_parcel a p n (parcels ds)
parcels_without a p n [] = refl
parcels_without a p n (x ∷ ds) = pick (not (is_parcel a p n x.parcel)) (parcels_without a p n ds)
  where
    pick : (b : Bool) → parcels (without_delivery a p n ds) ≡ without_parcel a p n (parcels ds) → parcels (cond b (x ∷ without_delivery a p n ds) (without_delivery a p n ds)) ≡ cond b (x.parcel ∷ without_parcel a p n (parcels ds)) (without_parcel a p n (parcels ds))
    pick true r = ap (λ y. x.parcel ∷ y) r
    pick false r = r

pub parcel_found : {B : Type 0} (a : Asker) (p n : ℕ) (ds : List (Delivery B)) → parcel_of a p n (parcels ds) ≡ option_map (λ (d : Delivery B). d.parcel) (delivery_of a p n ds)
parcel_found a p n [] = refl
parcel_found {B = B} a p n (x ∷ ds) = pick (is_parcel a p n x.parcel) (parcel_found a p n ds)
  where
    pick : (b : Bool) → parcel_of a p n (parcels ds) ≡ option_map (λ (d : Delivery B). d.parcel) (delivery_of a p n ds) → cond b (Some x.parcel) (parcel_of a p n (parcels ds)) ≡ option_map (λ (d : Delivery B). d.parcel) (cond b (Some x) (delivery_of a p n ds))
    pick true r = refl
    pick false r = r

-- a fact of each delivery
module _ {B : Type 0} (P : Delivery B → Type 0) where
  pub all_with : (d : Delivery B) (ds : List (Delivery B)) → P d → AllByRecursion P ds → AllByRecursion P (with_delivery d ds)
  all_with d [] v h = (v, tt)
  all_with d (x ∷ ds) v h = pick (parcel_before d.parcel x.parcel) (all_with d ds v h.1)
    where
      pick : (b : Bool) → AllByRecursion P (with_delivery d ds) → AllByRecursion P (cond b (d ∷ x ∷ ds) (x ∷ with_delivery d ds))
      pick true r = (v, h)
      pick false r = (h.0, r)

  pub all_filter : (t : Delivery B → Bool) (ds : List (Delivery B)) → AllByRecursion P ds → AllByRecursion P (filter t ds)
  all_filter t [] h = tt
  all_filter t (x ∷ ds) h = pick (t x) (all_filter t ds h.1)
    where
      pick : (b : Bool) → AllByRecursion P (filter t ds) → AllByRecursion P (cond b (x ∷ filter t ds) (filter t ds))
      pick true r = (h.0, r)
      pick false r = r

  pub all_found : (t : Delivery B → Bool) (ds : List (Delivery B)) (d : Delivery B) → find t ds ≡ Some d → AllByRecursion P ds → P d
  all_found t [] d e h = absurd (none-some d e)
  all_found t (x ∷ ds) d e h = pick (t x) e (λ i. all_found t ds d i h.1)
    where
      pick : (b : Bool) → cond b (Some x) (find t ds) ≡ Some d → (find t ds ≡ Some d → P d) → P d
      pick true e r = subst (λ y. P y) (same_Some x d e) h.0
      pick false e r = r e
