-- A turn that failed, and a play that ends.
use Rattle.std.proofs.Common.{◌≡◌, ℕ, ◌-◌, ◌<◌, List, Option, Some, None, Result, Err, refl, sym, ◌∙◌, subst, arith}
use Rattle.cluster_msgs.specs.declared.events.Event.{Event}
use Rattle.cluster_rules.specs.Draw.{Plan, Next, Verdict, Served, OutOfTurns, next, event_of, verdict}
use Rattle.cluster_world.specs.declared.state.State.{State}
use Rattle.cluster_world.specs.Worlds.{world, running}
use Rattle.cluster_rules.specs.Runs.{event_limit}
use Rattle.cluster_sim.proofs.ActLemmas.{same_job}
use Rattle.cluster_rules.specs.World.{Job}
use Rattle.cluster_sim.specs.Acts.{Stays}
use Rattle.cluster_sim.specs.Drawn.{word_of}
use Rattle.cluster_sim.specs.Simulations.{GoesOn}
use Rattle.cluster_sim.specs.Standing.{sim_of, HasTurn}
use Rattle.cluster_sim.specs.Turns.{IsBetween, IsDrawn, HasGone, HasStayed, HasEnded, AfterTurn, DrawnTurn, HasServed, HasPlayed, HasHalted, AfterPlay, DrawnPlay, IsFull}
use Rattle.cluster_sim.specs.declared.run.Run.{Run}
use Rattle.cluster_sim.specs.declared.act.SimError.{SimError}
use Rattle.cluster_sim.specs.declared.act.SimError.TheVariants.{Stuck, Feed, Spent, OutOfMemory}

pub turn_failed : {J B F : Type 0} (p : Plan) (wanted : List ℕ) (old new : State J B F) (a b : Run) (e : SimError) → (e ≡ Stuck → ⊥) → (e ≡ Spent → IsFull new) → AfterTurn p wanted old new a b (Err e)
turn_failed p wanted old new a b Stuck f s = absurd (f refl)
turn_failed p wanted old new a b Feed f s = tt
turn_failed p wanted old new a b Spent f s = s refl
turn_failed p wanted old new a b OutOfMemory f s = tt

pub drawn_failed : {J B F : Type 0} (op : J → ℕ → List B → Option B) (tells : J → F → Type 0) (p : Plan) (wanted : List ℕ) (number : ℕ) (old new : State J B F) (a b : Run) (e : SimError) (x : Event) → (d : IsDrawn op tells p wanted number old a)
    → event_of (next (word_of number) p (sim_of p (world old) a.standing d.budget)) ≡ Some x → (e ≡ Stuck → ⊥) → (e ≡ Spent → old.events ≡ event_limit) → DrawnTurn op tells p wanted number old new a b (Err e)
drawn_failed op tells p wanted number old new a b Stuck x d n f s = absurd (f refl)
drawn_failed op tells p wanted number old new a b Feed x d n f s = tt
drawn_failed op tells p wanted number old new a b Spent x d n f s = record { later = d.course.later; stands = sim_of p (world old) a.standing d.budget; drawn = d.course.drawn; legal = d.course.all.made.run.legal; count = d.course.all.made.count ∙ s refl; goes_on = (x, n) }
drawn_failed op tells p wanted number old new a b OutOfMemory x d n f s = tt

-- a turn that found the end, and what a play says then
pub served_by : {J B F : Type 0} (p : Plan) (wanted : List ℕ) (failure : Option ℕ) (old new : State J B F) (a b : Run) → IsBetween p wanted old a → HasEnded failure old new a b → HasServed p wanted failure new b
served_by p wanted failure old new a b h e =
    subst (λ s. HasServed p wanted failure s b) (sym e.stayed.world) (subst (λ (r : Run). HasServed p wanted failure old r) (sym e.stayed.run) (record { between = h; over = e.over }))

pub played_by : {J B F : Type 0} (op : J → ℕ → List B → Option B) (tells : J → F → Type 0) (p : Plan) (wanted : List ℕ) (number : ℕ) (failure : Option ℕ) (old new : State J B F) (a b : Run)
    → HasStayed old new a b → HasPlayed op tells p wanted number (Served a.standing.turns failure) old a → HasPlayed op tells p wanted number (Served b.standing.turns failure) new b
played_by op tells p wanted number failure old new a b s v =
    subst (λ x. HasPlayed op tells p wanted number (Served b.standing.turns failure) x b) (sym s.world) (subst (λ (r : Run). HasPlayed op tells p wanted number (Served r.standing.turns failure) old r) (sym s.run) v)

-- a play whose turn failed
pub play_failed : {J B F : Type 0} (p : Plan) (wanted : List ℕ) (old new : State J B F) (a b : Run) (e : SimError) → IsBetween p wanted old a → AfterTurn p wanted old new a b (Err e) → AfterPlay p wanted new b (Err e)
play_failed {J} {B} {F} p wanted old new a b Stuck g h =
    subst (λ (s : State J B F). HasHalted p wanted s b) (sym h.stayed.world) (subst (λ (r : Run). HasHalted p wanted old r) (sym h.stayed.run) (record { between = g; stuck = h.stuck }))
play_failed p wanted old new a b Feed g h = tt
play_failed p wanted old new a b Spent g h = h
play_failed p wanted old new a b OutOfMemory g h = tt

pub drawn_play_failed : {J B F : Type 0} (op : J → ℕ → List B → Option B) (tells : J → F → Type 0) (p : Plan) (wanted : List ℕ) (number : ℕ) (old new : State J B F) (a b : Run) (e : SimError)
    → Stays tells old new → AfterTurn p wanted old new a b (Err e) → DrawnTurn op tells p wanted number old new a b (Err e) → DrawnPlay op tells p wanted number new b (Err e)
drawn_play_failed op tells p wanted number old new a b Stuck k s v =
    subst (λ x. HasPlayed op tells p wanted number OutOfTurns x b) (sym s.stayed.world) (subst (λ (r : Run). HasPlayed op tells p wanted number OutOfTurns old r) (sym s.stayed.run) v)
drawn_play_failed op tells p wanted number old new a b Feed k s v = tt
drawn_play_failed op tells p wanted number old new a b Spent k s v = subst (λ (j : Job). GoesOn j (word_of number) p wanted event_limit) (sym (same_job op tells old new k)) v
drawn_play_failed op tells p wanted number old new a b OutOfMemory k s v = tt

-- fewer events are left of those that a world takes
pub fewer_left : {J B F : Type 0} (p : Plan) (wanted : List ℕ) (old new : State J B F) (b : Run) → HasGone p wanted old new b → event_limit - new.events < event_limit - old.events
fewer_left p wanted old new b h = let r = h.room in let c = h.counted in omega (arith, r, c)

-- the rules end a simulation as the choice says
pub ends_by : {J B F : Type 0} (op : J → ℕ → List B → Option B) (tells : J → F → Type 0) (p : Plan) (wanted : List ℕ) (number word : ℕ) (v : Verdict) (n : Next) (s : State J B F) (r : Run) → (d : IsDrawn op tells p wanted number s r) → HasTurn (world s) d.budget → r.words.word ≡ word
    → ((words : ℕ → ℕ) (budget : ℕ) → words r.standing.turns ≡ word → HasTurn (world s) budget → n ≡ next words p (sim_of p (world s) r.standing budget)) → verdict (sim_of p (world s) r.standing d.budget) n ≡ Some v → HasPlayed op tells p wanted number v s r
ends_by op tells p wanted number word v n s r d left at is e = record {
  drawn = d;
  ends = subst (λ x. verdict (sim_of p (world s) r.standing d.budget) x ≡ Some v) (is (word_of number) d.budget (sym d.words.word ∙ at) left) e;
}

-- the errors of a play, told apart
pub spent_play : {J B F : Type 0} (p : Plan) (wanted : List ℕ) (s : State J B F) (r : Run) (e : SimError) → e ≡ Spent → AfterPlay p wanted s r (Err e) → IsFull s
spent_play p wanted s r e q h = subst (λ x. AfterPlay p wanted s r (Err x)) q h

pub stuck_play : {J B F : Type 0} (p : Plan) (wanted : List ℕ) (s : State J B F) (r : Run) (e : SimError) → e ≡ Stuck → AfterPlay p wanted s r (Err e) → HasHalted p wanted s r
stuck_play p wanted s r e q h = subst (λ x. AfterPlay p wanted s r (Err x)) q h

pub unfinished_play : {J B F : Type 0} (op : J → ℕ → List B → Option B) (tells : J → F → Type 0) (p : Plan) (wanted : List ℕ) (number : ℕ) (old s : State J B F) (r : Run) (e : SimError) → Stays tells old s → e ≡ Spent → DrawnPlay op tells p wanted number s r (Err e)
    → GoesOn (running op old) (word_of number) p wanted event_limit
unfinished_play op tells p wanted number old s r e k q h =
    subst (λ (j : Job). GoesOn j (word_of number) p wanted event_limit) (same_job op tells old s k) (subst (λ x. DrawnPlay op tells p wanted number s r (Err x)) q h)

pub cut_play : {J B F : Type 0} (op : J → ℕ → List B → Option B) (tells : J → F → Type 0) (p : Plan) (wanted : List ℕ) (number : ℕ) (s : State J B F) (r : Run) (e : SimError) → e ≡ Stuck → DrawnPlay op tells p wanted number s r (Err e) → HasPlayed op tells p wanted number OutOfTurns s r
cut_play op tells p wanted number s r e q h = subst (λ x. DrawnPlay op tells p wanted number s r (Err x)) q h

pub same_error : {A : Type 0} (a b : SimError) → ◌≡◌ {A = Result A SimError} (Err a) (Err b) → a ≡ b
same_error a b h = cc
