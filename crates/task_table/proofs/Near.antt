-- What a change of one fact leaves as it was.
use Rattle.std.proofs.Common.{◌≡◌, ℕ, ◌+◌, Bool, true, false, ◌&&◌, eqb, cond, Option, Some, None, is_some, refl, sym, ap, ◌∙◌, subst}
use Rattle.std.specs.List.{list_any}
use Rattle.std.proofs.Math.Bool.{and-false}
use Rattle.std.proofs.lemmas.Option.{same_Some}
use Rattle.cluster_rules.specs.Functions.{put, put_pair, from_one}
use Rattle.cluster_rules.specs.Sched.{Facts, held, wanted}
use Rattle.task_table.specs.Changes.{with_change, changed_key}
use Rattle.task_table.specs.declared.change.Change.{Change}
use Rattle.task_table.specs.declared.change.Change.TheVariants.{Want, Unwant, Hold, Lose, Assign, Unassign, Steal, Unsteal, Fail, Count, Forgive, Connect, Disconnect, Send, Fence, Finish}

-- what derived facts rest on is the same but for one key
pub record IsNear (f g : Facts) (key : ℕ) : Type 0 where
  pub setting : g.setting ≡ f.setting
  pub wanted : (k : ℕ) → eqb k key ≡ false → wanted g k ≡ wanted f k
  pub held : (k : ℕ) → eqb k key ≡ false → held g k ≡ held f k
  pub bad : (k : ℕ) → eqb k key ≡ false → g.bad k ≡ f.bad k
  pub losses : (k : ℕ) → eqb k key ≡ false → g.losses k ≡ f.losses k
  pub on : (k : ℕ) → eqb k key ≡ false → g.on k ≡ f.on k
  pub has : (w k : ℕ) → eqb k key ≡ false → g.has w k ≡ f.has w k
  pub want : (c k : ℕ) → eqb k key ≡ false → g.want c k ≡ f.want c k

put_other : {A : Type 0} (f : ℕ → A) (key k : ℕ) (x : A) → eqb k key ≡ false → put f key x k ≡ f k
put_other f key k x e = ap (λ t. cond t x (f k)) e

pair_other : {A : Type 0} (f : ℕ → ℕ → A) (w key v k : ℕ) (x : A) → eqb k key ≡ false → put_pair f w key x v k ≡ f v k
pair_other f w key v k x e = ap (λ t. cond (eqb v w && t) x (f v k)) e ∙ ap (λ t. cond t x (f v k)) (and-false (eqb v w))

wanted_by : (f : Facts) (want : ℕ → ℕ → Bool) (k : ℕ) → ((c : ℕ) → want c k ≡ f.want c k) → wanted (record f { want = want }) k ≡ wanted f k
unfolding wanted
wanted_by f want k e = ap (λ (p : ℕ → Bool). list_any p (from_one f.setting.clients)) (λ i c. e c i)

held_by : (f : Facts) (has : ℕ → ℕ → Option ℕ) (k : ℕ) → ((w : ℕ) → has w k ≡ f.has w k) → held (record f { has = has }) k ≡ held f k
unfolding held
held_by f has k e = ap (λ (p : ℕ → Bool). list_any p (from_one f.last_worker)) (λ i w. is_some (e w i))

-- fields that wanted and held do not rest on
pub wanted_same : (f g : Facts) → g.want ≡ f.want → g.setting ≡ f.setting → (k : ℕ) → wanted g k ≡ wanted f k
unfolding wanted
wanted_same f g e s k = λ i. list_any (λ c. e i c k) (from_one (s i).clients)

pub held_same : (f g : Facts) → g.has ≡ f.has → g.last_worker ≡ f.last_worker → (k : ℕ) → held g k ≡ held f k
unfolding held
held_same f g e s k = λ i. list_any (λ w. is_some (e i w k)) (from_one (s i))

near_want : (f : Facts) (c key : ℕ) (b : Bool) → IsNear f (record f { want = put_pair f.want c key b }) key
near_want f c key b = record {
  setting = refl;
  wanted = λ k e. wanted_by f (put_pair f.want c key b) k (λ d. pair_other f.want c key d k b e);
  held = λ k e. held_same f (record f { want = put_pair f.want c key b }) refl refl k;
  bad = λ k e. refl;
  losses = λ k e. refl;
  on = λ k e. refl;
  has = λ w k e. refl;
  want = λ d k e. pair_other f.want c key d k b e;
}

near_has : (f : Facts) (w key n : ℕ) (x : Option ℕ) → IsNear f (record f { has = put_pair f.has w key x; counter = n }) key
near_has f w key n x = record {
  setting = refl;
  wanted = λ k e. wanted_same f (record f { has = put_pair f.has w key x; counter = n }) refl refl k;
  held = λ k e. held_same (record f { has = put_pair f.has w key x }) (record f { has = put_pair f.has w key x; counter = n }) refl refl k ∙ held_by f (put_pair f.has w key x) k (λ v. pair_other f.has w key v k x e);
  bad = λ k e. refl;
  losses = λ k e. refl;
  on = λ k e. refl;
  has = λ v k e. pair_other f.has w key v k x e;
  want = λ c k e. refl;
}

near_on : (f : Facts) (key n : ℕ) (x : Option (ℕ × ℕ)) (s : ℕ → Option (ℕ × Bool)) → IsNear f (record f { on = put f.on key x; steal = s; counter = n }) key
near_on f key n x s = record {
  setting = refl;
  wanted = λ k e. wanted_same f (record f { on = put f.on key x; steal = s; counter = n }) refl refl k;
  held = λ k e. held_same f (record f { on = put f.on key x; steal = s; counter = n }) refl refl k;
  bad = λ k e. refl;
  losses = λ k e. refl;
  on = λ k e. put_other f.on key k x e;
  has = λ w k e. refl;
  want = λ c k e. refl;
}

near_bad : (f : Facts) (key : ℕ) (b : Bool) → IsNear f (record f { bad = put f.bad key b }) key
near_bad f key b = record {
  setting = refl;
  wanted = λ k e. wanted_same f (record f { bad = put f.bad key b }) refl refl k;
  held = λ k e. held_same f (record f { bad = put f.bad key b }) refl refl k;
  bad = λ k e. put_other f.bad key k b e;
  losses = λ k e. refl;
  on = λ k e. refl;
  has = λ w k e. refl;
  want = λ c k e. refl;
}

near_losses : (f : Facts) (key n : ℕ) → IsNear f (record f { losses = put f.losses key n }) key
near_losses f key n = record {
  setting = refl;
  wanted = λ k e. wanted_same f (record f { losses = put f.losses key n }) refl refl k;
  held = λ k e. held_same f (record f { losses = put f.losses key n }) refl refl k;
  bad = λ k e. refl;
  losses = λ k e. put_other f.losses key k n e;
  on = λ k e. refl;
  has = λ w k e. refl;
  want = λ c k e. refl;
}

near_forgiven : (f : Facts) (key : ℕ) → IsNear f (record f { bad = put f.bad key false; losses = put f.losses key 0 }) key
near_forgiven f key = record {
  setting = refl;
  wanted = λ k e. wanted_same f (record f { bad = put f.bad key false; losses = put f.losses key 0 }) refl refl k;
  held = λ k e. held_same f (record f { bad = put f.bad key false; losses = put f.losses key 0 }) refl refl k;
  bad = λ k e. put_other f.bad key k false e;
  losses = λ k e. put_other f.losses key k 0 e;
  on = λ k e. refl;
  has = λ w k e. refl;
  want = λ c k e. refl;
}

pub no_key : {A : Type 0} (b : ℕ) → ◌≡◌ {A = Option ℕ} None (Some b) → A
no_key {A} b e = subst (λ (o : Option ℕ). is_there o) e tt
  where
    is_there : Option ℕ → Type 0
    is_there None = Unit
    is_there (Some x) = A

-- a key is not none
pub some_key : {A : Type 0} (b : ℕ) → ◌≡◌ {A = Option ℕ} (Some b) None → A
some_key {A} b e = no_key b (sym e)

pub near_change : (f : Facts) (c : Change) (key : ℕ) → changed_key c ≡ Some key → IsNear f (with_change f c) key
near_change f (Want c k) key e = subst (λ (q : ℕ). IsNear f (with_change f (Want c k)) q) (same_Some k key e) (near_want f c k true)
near_change f (Unwant c k) key e = subst (λ (q : ℕ). IsNear f (with_change f (Unwant c k)) q) (same_Some k key e) (near_want f c k false)
near_change f (Hold w k) key e = subst (λ (q : ℕ). IsNear f (with_change f (Hold w k)) q) (same_Some k key e) (near_has f w k (f.counter + 1) (Some f.counter))
near_change f (Lose w k) key e = subst (λ (q : ℕ). IsNear f (with_change f (Lose w k)) q) (same_Some k key e) (near_has f w k f.counter None)
near_change f (Assign k w) key e = subst (λ (q : ℕ). IsNear f (with_change f (Assign k w)) q) (same_Some k key e) (near_on f k (f.counter + 1) (Some (w, f.counter)) (put f.steal k None))
near_change f (Unassign k) key e = subst (λ (q : ℕ). IsNear f (with_change f (Unassign k)) q) (same_Some k key e) (near_on f k f.counter None (put f.steal k None))
near_change f (Steal k thief refused) key e = no_key key e
near_change f (Unsteal k) key e = no_key key e
near_change f (Fail k) key e = subst (λ (q : ℕ). IsNear f (with_change f (Fail k)) q) (same_Some k key e) (near_bad f k true)
near_change f (Count k) key e = subst (λ (q : ℕ). IsNear f (with_change f (Count k)) q) (same_Some k key e) (near_losses f k (f.losses k + 1))
near_change f (Forgive k) key e = subst (λ (q : ℕ). IsNear f (with_change f (Forgive k)) q) (same_Some k key e) (near_forgiven f k)
near_change f (Connect threads) key e = no_key key e
near_change f (Disconnect w) key e = no_key key e
near_change f (Send w) key e = no_key key e
near_change f (Fence w k) key e = no_key key e
near_change f Finish key e = no_key key e
