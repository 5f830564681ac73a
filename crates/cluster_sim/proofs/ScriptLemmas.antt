-- The script, item by item.
use Rattle.std.proofs.Common.{◌≡◌, ℕ, zero, suc, ◌+◌, ◌≤◌, ◌<◌, Bool, true, false, not, ◌&&◌, cond, List, [], ◌∷◌, drop, length, get_or, Option, Some, None, refl, sym, ap, ◌∙◌, arith, subst, add-one, drop-cons}
use Rattle.std.specs.Option.{option_map}
use Rattle.std.proofs.lemmas.List.{drop_all}
use Rattle.cluster_msgs.specs.declared.events.Item.{Item}
use Rattle.cluster_msgs.specs.declared.events.Event.{Event}
use Rattle.std.specs.Prelude.{nat_lt}
use Rattle.std.proofs.lemmas.Bool.{and_from, le-leb, lt-ltb}
use Rattle.std.proofs.Math.Bool.{and-true}
use Rattle.cluster_msgs.specs.declared.events.Event.TheVariants.{Join, Lose, Suspect}
use Rattle.cluster_rules.specs.Sched.{workers}
use Rattle.cluster_rules.specs.SchedTable.{sched_takes}
use Rattle.cluster_rules.specs.Enabled.{enabled}
use Rattle.cluster_rules.specs.World.{World, is_connected}
use Rattle.cluster_rules.specs.Draw.{is_reached, is_idle, is_blocked, item_event, scripted}
use Rattle.cluster_sim.specs.Scripts.{IsBefore, step_by}
use Rattle.cluster_sim.specs.declared.script.Step.{Step}

item_at : (xs : List Item) (at : ℕ) (i : Item) → at < length xs → i ≡ get_or xs at i → drop at xs ≡ i ∷ drop (at + 1) xs
item_at xs at i h e = drop-cons xs at i h ∙ ap (λ x. x ∷ drop (suc at) xs) (sym e) ∙ ap (λ n. i ∷ drop n xs) (sym (add-one at))

-- what is read inside a list, whatever is read outside
pub same_item : (xs : List Item) (at : ℕ) (d : Item) → at < length xs → get_or xs at d ≡ get_or xs at (get_or xs at d)
same_item [] at d h = absurd (omega (arith, h))
same_item (x ∷ xs) zero d h = refl
same_item (x ∷ xs) (suc at) d h = same_item xs at d (omega (arith, h))

-- an item that isn't reached, that does nothing, or that comes
pub script_waits : (threads : ℕ) (w : World) (xs : List Item) (at : ℕ) (i : Item) → at < length xs → i ≡ get_or xs at i → is_reached w i ≡ false → scripted threads w (drop at xs) ≡ None
script_waits threads w xs at i h e r = ap (scripted threads w) (item_at xs at i h e) ∙ ap (λ b. cond (not b) None (cond (is_idle w i) (scripted threads w (drop (at + 1) xs)) (cond (is_blocked w i) None (Some (item_event threads i, drop (at + 1) xs))))) r

pub script_passes : (threads : ℕ) (w : World) (xs : List Item) (at : ℕ) (i : Item) → at < length xs → i ≡ get_or xs at i → is_reached w i ≡ true → is_idle w i ≡ true → scripted threads w (drop at xs) ≡ scripted threads w (drop (at + 1) xs)
script_passes threads w xs at i h e r z =
    ap (scripted threads w) (item_at xs at i h e)
    ∙ ap (λ b. cond (not b) None (cond (is_idle w i) (scripted threads w (drop (at + 1) xs)) (cond (is_blocked w i) None (Some (item_event threads i, drop (at + 1) xs))))) r
    ∙ ap (λ b. cond b (scripted threads w (drop (at + 1) xs)) (cond (is_blocked w i) None (Some (item_event threads i, drop (at + 1) xs)))) z

pub script_comes : (threads : ℕ) (w : World) (xs : List Item) (at : ℕ) (i : Item) → at < length xs → i ≡ get_or xs at i → is_reached w i ≡ true → is_idle w i ≡ false
    → scripted threads w (drop at xs) ≡ cond (is_blocked w i) None (Some (item_event threads i, drop (at + 1) xs))
script_comes threads w xs at i h e r z =
    ap (scripted threads w) (item_at xs at i h e)
    ∙ ap (λ b. cond (not b) None (cond (is_idle w i) (scripted threads w (drop (at + 1) xs)) (cond (is_blocked w i) None (Some (item_event threads i, drop (at + 1) xs))))) r
    ∙ ap (λ b. cond b (scripted threads w (drop (at + 1) xs)) (cond (is_blocked w i) None (Some (item_event threads i, drop (at + 1) xs)))) z

pub step_mapped : (threads : ℕ) (xs : List Item) (i : Item) (at : ℕ) (b : Bool) (o : Option Step) → o ≡ step_by b (item_event threads i) at
    → option_map {U = Event × List Item} (λ (s : Step). (s.event, drop s.passed xs)) o ≡ cond b None (Some (item_event threads i, drop at xs))
step_mapped threads xs i at true o e = ap (option_map {U = Event × List Item} (λ (s : Step). (s.event, drop s.passed xs))) e
step_mapped threads xs i at false o e = ap (option_map {U = Event × List Item} (λ (s : Step). (s.event, drop s.passed xs))) e

pub step_before : (threads : ℕ) (i : Item) (passed at items : ℕ) (b : Bool) (o : Option Step) → o ≡ step_by b (item_event threads i) (at + 1) → passed ≤ at → at < items → IsBefore passed o items
step_before threads i passed at items true o e l u = subst (λ x. IsBefore passed x items) (sym e) tt
step_before threads i passed at items false o e l u = subst (λ x. IsBefore passed x items) (sym e) (omega (arith, l), omega (arith, u))

-- a join is enabled exactly where there is a place
pub join_free : (w : World) (threads : ℕ) → (1 ≤ threads) × (threads ≤ 16) → w.sched.last_worker < 1024 → enabled w (Join threads) ≡ nat_lt (length (workers w.sched)) 64
unfolding enabled sched_takes
join_free w threads t n =
    ap (λ b. b && (nat_lt (length (workers w.sched)) 64 && nat_lt w.sched.last_worker 1024)) (and_from _ _ (le-leb 1 threads t.0) (le-leb threads 16 t.1))
    ∙ ap (λ b. nat_lt (length (workers w.sched)) 64 && b) (lt-ltb w.sched.last_worker 1024 n)
    ∙ and-true (nat_lt (length (workers w.sched)) 64)

pub lose_is : (w : World) (i : ℕ) → enabled w (Lose i) ≡ w.alive i
unfolding enabled
lose_is w i = refl

pub suspect_is : (w : World) (i : ℕ) → enabled w (Suspect i) ≡ is_connected w i
unfolding enabled
suspect_is w i = refl

-- behind the last item nothing comes
pub script_ends : (threads : ℕ) (w : World) (xs : List Item) (at : ℕ) → length xs ≤ at → scripted threads w (drop at xs) ≡ None
script_ends threads w xs at h = ap (scripted threads w) (drop_all at xs h)
