-- What comes next, rule by rule.
use Rattle.std.proofs.Common.{◌≡◌, ℕ, ◌<◌, ◌%◌, Bool, true, false, ◌&&◌, cond, List, [], ◌∷◌, length, Option, Some, None, refl, sym, ap, ◌∙◌, arith}
use Rattle.std.specs.Prelude.{◌==◌, nat_lt, slice_get}
use Rattle.std.proofs.lemmas.Bool.{and_parts, ltb-true, ne_eqb}
use Rattle.std.proofs.lemmas.Option.{none-some}
use Rattle.cluster_msgs.specs.declared.events.Item.{Item}
use Rattle.cluster_msgs.specs.declared.events.Event.{Event}
use Rattle.cluster_rules.specs.Worker.{has_any}
use Rattle.cluster_rules.specs.Enabled.{progress}
use Rattle.cluster_rules.specs.Draw.{Plan, Sim, Next, Over, Scripted, Evicts, Balances, Spent, Drawn, over, scripted, evicts_now, balances_now, drawn, draw_one, turn, unscripted, next_by, next}
use Rattle.cluster_sim.specs.Standing.{HasTurn}

pub next_over : (words : ℕ → ℕ) (p : Plan) (s : Sim) (failure : Option ℕ) → Some failure ≡ over (s.world.clients 1) → Over failure ≡ next words p s
unfolding next
next_over words p s failure e = ap (λ o. next_by words s o (scripted p.threads s.world s.script)) e

pub next_on : (words : ℕ → ℕ) (p : Plan) (s : Sim) (n : Next) → None ≡ over (s.world.clients 1) → n ≡ next_by words s None (scripted p.threads s.world s.script) → n ≡ next words p s
unfolding next
next_on words p s n e h = h ∙ ap (λ o. next_by words s o (scripted p.threads s.world s.script)) e

pub next_scripted : (words : ℕ → ℕ) (s : Sim) (e : Event) (later : List Item) (o : Option (Event × List Item)) → Some (e, later) ≡ o → Scripted e later ≡ next_by words s None o
next_scripted words s e later o h = ap (λ x. next_by words s None x) h

pub next_unscripted : (words : ℕ → ℕ) (s : Sim) (n : Next) (o : Option (Event × List Item)) → None ≡ o → n ≡ unscripted words s → n ≡ next_by words s None o
next_unscripted words s n o h e = e ∙ ap (λ x. next_by words s None x) h

pub unscripted_evicts : (words : ℕ → ℕ) (s : Sim) (b : Bool) → b ≡ evicts_now s → b ≡ true → Evicts ≡ unscripted words s
unscripted_evicts words s b e h = sym (ap (λ d. cond d Evicts (cond (balances_now s) Balances (turn words s))) (sym e ∙ h))

pub unscripted_balances : (words : ℕ → ℕ) (s : Sim) (b d : Bool) → b ≡ evicts_now s → b ≡ false → d ≡ balances_now s → d ≡ true → Balances ≡ unscripted words s
unscripted_balances words s b d e h f q =
    sym (ap (λ x. cond x Evicts (cond (balances_now s) Balances (turn words s))) (sym e ∙ h) ∙ ap (λ x. cond x Balances (turn words s)) (sym f ∙ q))

pub unscripted_turns : (words : ℕ → ℕ) (s : Sim) (b d : Bool) (n : Next) → b ≡ evicts_now s → b ≡ false → d ≡ balances_now s → d ≡ false → n ≡ turn words s → n ≡ unscripted words s
unscripted_turns words s b d n e h f q t =
    t ∙ sym (ap (λ x. cond x Evicts (cond (balances_now s) Balances (turn words s))) (sym e ∙ h) ∙ ap (λ x. cond x Balances (turn words s)) (sym f ∙ q))

-- what is picked from a list shows that it has a member
some_picked : (es : List Event) (n : ℕ) (e : Event) → Some e ≡ slice_get es n → has_any es ≡ true
some_picked [] n e q = absurd (none-some e (sym q))
some_picked (x ∷ xs) n e q = refl

pub turn_drawn : (words : ℕ → ℕ) (s : Sim) (word : ℕ) (e : Event) → HasTurn s.world s.budget → words s.turns ≡ word → Some e ≡ slice_get (progress s.world) (word % length (progress s.world)) → Drawn e ≡ turn words s
turn_drawn words s word e h w q =
    ap drawn q ∙ ap (λ n. draw_one n (progress s.world)) (sym w) ∙ sym (ap (λ x. cond x Spent (draw_one (words s.turns) (progress s.world))) (ne_eqb s.budget 0 left))
  where
    left : s.budget ≡ 0 → ⊥
    left z = let l = h (some_picked (progress s.world) (word % length (progress s.world)) e q) in omega (arith, z, l)

-- nothing moves, whether or not a turn is left
pub turn_still : (words : ℕ → ℕ) (s : Sim) (word : ℕ) → words s.turns ≡ word → None ≡ slice_get (progress s.world) (word % length (progress s.world)) → Spent ≡ turn words s
turn_still words s word w q = by (s.budget == 0)
  where
    by : (b : Bool) → Spent ≡ cond b Spent (draw_one (words s.turns) (progress s.world))
    by true = refl
    by false = ap drawn q ∙ ap (λ n. draw_one n (progress s.world)) (sym w)

pub due_then : (due t e r : Bool) → due ≡ t → due ≡ true → r ≡ e → r ≡ (t && e)
due_then due t e r q h s = s ∙ ap (λ b. b && e) (sym h ∙ q)

pub due_else : (due t e : Bool) → due ≡ t → due ≡ false → false ≡ (t && e)
due_else due t e q h = ap (λ b. b && e) (sym h ∙ q)

pub few_due : (a b : Bool) (made keys : ℕ) → (a && (b && nat_lt made keys)) ≡ true → made < keys
few_due a b made keys h = ltb-true made keys (and_parts b (nat_lt made keys) (and_parts a (b && nat_lt made keys) h).1).1
