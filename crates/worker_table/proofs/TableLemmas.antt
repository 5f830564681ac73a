-- The sets fit the facts after the keys that a change touches were looked at.
use Rattle.std.proofs.Common.{◌≡◌, ℕ, ◌<◌, ◌≤◌, Bool, true, false, List, [], ◌∷◌, refl, sym, ap, ◌∙◌, subst, arith, All}
use Rattle.std.specs.Prelude.{◌==◌}
use Rattle.std.specs.List.{list_any}
use Rattle.std.proofs.lemmas.Bool.{false≢true, or_from}
use Rattle.std.proofs.lemmas.Bool.Decides.{nat_tests}
use Rattle.std.proofs.lemmas.List.Elements.{All-head, All-tail}
use Rattle.small_facts.proofs.Numbers.{unequal_between}
use Rattle.cluster_msgs.specs.Shape.{Shape, key_count, deps_of}
use Rattle.cluster_rules.specs.Derived.{is_in}
use Rattle.cluster_rules.specs.Worker.{WorkerFacts, running_count}
use Rattle.worker_table.specs.Links.{dependents, IsLinked}
use Rattle.worker_table.specs.Parts.{parts}
use Rattle.worker_table.specs.Plan.{IsAt, HasRoom, nothing}
use Rattle.worker_table.specs.Table.{Fits}
use Rattle.worker_table.specs.declared.plan.Plan.{Plan}
use Rattle.worker_table.proofs.PartLemmas.{depends_within}
use Rattle.worker_table.proofs.PlanLemmas.{Looked, Leaves, looked, looked_twice, one_looked}

unlike : (k key n : ℕ) → n ≤ k → key < n → (k == key) ≡ false
unlike k key n h l = grind (arith, nat_tests)

-- a list of keys doesn't name a greater number
none_named : {A : Type 0} (at : A → ℕ) (n k : ℕ) (xs : List A) → All (λ x. at x < n) xs → n ≤ k → list_any (λ x. at x == k) xs ≡ false
none_named at n k [] a l = refl
none_named at n k (x ∷ xs) a l = or_from (at x == k) (list_any (λ y. at y == k) xs) (unequal_between (at x) k n (All-head (λ y. at y < n) x xs a) l) (none_named at n k xs (All-tail (λ y. at y < n) x xs a) l)

room_in : (f h : WorkerFacts) (p : Plan) → h.shape ≡ f.shape → HasRoom (key_count f.shape) p → HasRoom (key_count h.shape) p
room_in f h p s r = subst (λ (g : Shape). HasRoom (key_count g) p) (sym s) r

linked_in : (f h : WorkerFacts) (lists : List (List ℕ)) → h.shape ≡ f.shape → IsLinked f.shape lists → IsLinked h.shape lists
linked_in f h lists s l = subst (λ (g : Shape). IsLinked g lists) (sym s) l

no_longer : (f h : WorkerFacts) (k : ℕ) → h.shape ≡ f.shape → key_count h.shape ≤ k → key_count f.shape ≤ k
no_longer f h k s l = let e : key_count h.shape ≡ key_count f.shape = ap key_count s in omega arith

-- no key was touched
pub fits_same : (f h : WorkerFacts) (lists : List (List ℕ)) (p : Plan) (n m : ℕ) → h.shape ≡ f.shape → Fits f lists p n → ((k : ℕ) → parts f k ≡ parts h k) → m ≡ running_count h → Fits h lists p m
fits_same f h lists p n m s v same c = record {
  linked = linked_in f h lists s v.linked;
  room = room_in f h p s v.room;
  at = λ k. subst (λ q. IsAt q p k) (same k) (v.at k);
  outside = λ k l. v.outside k (no_longer f h k s l);
  count = c;
}

-- one key was
pub fits_one : (f h : WorkerFacts) (lists : List (List ℕ)) (old new : Plan) (n m key : ℕ) → h.shape ≡ f.shape → key < key_count f.shape → Fits f lists old n
    → ((k : ℕ) → (k == key) ≡ false → parts f k ≡ parts h k) → IsAt (parts h key) new key → Leaves (λ k. k == key) old new → ((i : ℕ) → HasRoom i old → HasRoom i new) → m ≡ running_count h → Fits h lists new m
fits_one f h lists old new n m key s low v same here others room c = record {
  linked = linked_in f h lists s v.linked;
  room = room_in f h new s (room (key_count f.shape) v.room);
  at = looked (λ k. k == key) f h old new v.at same (one_looked h new key here) others;
  outside = λ k l. others nothing k (unlike k key (key_count f.shape) (no_longer f h k s l) low) (v.outside k (no_longer f h k s l));
  count = c;
}

-- those that a list names were
pub fits_list : {A : Type 0} (name : A → ℕ) (xs : List A) (f h : WorkerFacts) (lists : List (List ℕ)) (old new : Plan) (n m : ℕ) → h.shape ≡ f.shape → All (λ x. name x < key_count f.shape) xs → Fits f lists old n
    → ((k : ℕ) → list_any (λ x. name x == k) xs ≡ false → parts f k ≡ parts h k) → Looked (λ k. list_any (λ x. name x == k) xs) h new → Leaves (λ k. list_any (λ x. name x == k) xs) old new
    → ((i : ℕ) → HasRoom i old → HasRoom i new) → m ≡ running_count h → Fits h lists new m
fits_list name xs f h lists old new n m s low v same here others room c = record {
  linked = linked_in f h lists s v.linked;
  room = room_in f h new s (room (key_count f.shape) v.room);
  at = looked (λ k. list_any (λ x. name x == k) xs) f h old new v.at same here others;
  outside = λ k l. others nothing k (none_named name (key_count f.shape) k xs low (no_longer f h k s l)) (v.outside k (no_longer f h k s l));
  count = c;
}

-- a key was, and then those of a list
pub fits_twice : (f h : WorkerFacts) (lists : List (List ℕ)) (old mid new : Plan) (n m key : ℕ) (ks : List ℕ) → h.shape ≡ f.shape → key < key_count f.shape → All (λ k. k < key_count f.shape) ks → Fits f lists old n
    → ((k : ℕ) → (k == key) ≡ false → is_in k ks ≡ false → parts f k ≡ parts h k)
    → IsAt (parts h key) mid key → Leaves (λ k. k == key) old mid → ((i : ℕ) → HasRoom i old → HasRoom i mid)
    → Looked (λ k. is_in k ks) h new → Leaves (λ k. is_in k ks) mid new → ((i : ℕ) → HasRoom i mid → HasRoom i new) → m ≡ running_count h → Fits h lists new m
fits_twice f h lists old mid new n m key ks s low all v same here others room here' others' room' c = record {
  linked = linked_in f h lists s v.linked;
  room = room_in f h new s (room' (key_count f.shape) (room (key_count f.shape) v.room));
  at = looked_twice (λ k. k == key) (λ k. is_in k ks) f h old mid new v.at same (one_looked h mid key here) others here' others';
  outside = λ k l. others' nothing k (none_named (λ (d : ℕ). d) (key_count f.shape) k ks all (no_longer f h k s l)) (others nothing k (unlike k key (key_count f.shape) (no_longer f h k s l) low) (v.outside k (no_longer f h k s l)));
  count = c;
}

-- what doesn't depend on a key isn't among those that do
pub not_dependent : (g : Shape) (lists : List (List ℕ)) (key k : ℕ) → IsLinked g lists → is_in k (dependents lists key) ≡ false → is_in key (deps_of g k) ≡ false
not_dependent g lists key k l out = pick (is_in key (deps_of g k)) refl
  where
    pick : (b : Bool) → is_in key (deps_of g k) ≡ b → is_in key (deps_of g k) ≡ false
    pick true e = absurd (false≢true (sym out ∙ l.each k key (depends_within g key k e) e))
    pick false e = e
