-- No block stands where its key isn't counted, whatever happens.
use Rattle.std.proofs.Common.{◌≡◌, ℕ, ◌<◌, Bool, true, false, not, ◌&&◌, ◌||◌, List, [], ◌∷◌, ◌++◌, Option, None, refl, sym, ap, ◌∙◌, subst, cond, length, get_or}
use Rattle.std.specs.Prelude.{◌==◌, slice_get}
use Rattle.std.specs.declared.sync.Arc.{Arc}
use Rattle.std.specs.declared.alloc.Global.{Global}
use Rattle.std.proofs.lemmas.Bool.{true≢false, eqb-true, and_right}
use Rattle.cluster_msgs.specs.Shape.{Shape}
use Rattle.cluster_rules.specs.Derived.{is_in}
use Rattle.cluster_rules.specs.Functions.{put, put_pair}
use Rattle.cluster_rules.specs.Worker.{WorkerFacts}
use Rattle.cluster_rules.specs.Client.{ClientFacts}
use Rattle.cluster_laws.specs.Moves.{keeps}
use Rattle.fact_rows.specs.Rows.{read, cell}
use Rattle.gather_client.specs.CoreState.{CoreState, client_facts}
use Rattle.worker_core.specs.Core.{Core, facts}
use Rattle.cluster_nodes.specs.Nodes.{worker_of, if_alive, workers_of, clients_of}
use Rattle.cluster_nodes.specs.Kept.{IsTidy}
use Rattle.cluster_nodes.proofs.Leaving.{Leaves}
use Rattle.cluster_nodes.proofs.NodeLemmas.{worker_was, client_was}
use Rattle.cluster_nodes.proofs.Changing.{workers_joined}

-- what isn't counted after an event wasn't before, but for the keys that the event names
pub was_out : (gone : List ℕ) (old new : ℕ → Bool) → Leaves gone old new → (k : ℕ) → new k ≡ false → is_in k gone ≡ false → old k ≡ false
was_out gone old new f k h n = pick (old k) refl
  where
    pick : (b : Bool) → old k ≡ b → old k ≡ false
    pick true e = absurd (true≢false (sym (f k n e) ∙ h))
    pick false e = e

at_other : {A : Type 0} (f : ℕ → A) (i j : ℕ) (x : A) → (j == i) ≡ false → put f i x j ≡ f j
at_other f i j x e = ap (λ b. cond b x (f j)) e

-- one node turned: elsewhere all is as it was
module _ {X : Type 0} (d : X) (old new : ℕ → ℕ → X) (was is : ℕ → ℕ → Bool) (i : ℕ) where
  pub tidy_turned : (row : ℕ → X) → new ≡ put old i row → ((k : ℕ) → is i k ≡ false → row k ≡ d)
      → ((j : ℕ) → (j == i) ≡ false → is j ≡ was j) → ((j k : ℕ) → was j k ≡ false → old j k ≡ d) → (j k : ℕ) → is j k ≡ false → new j k ≡ d
  tidy_turned row e own others before j k h = ap (λ (f : ℕ → ℕ → X). f j k) e ∙ pick (j == i) refl
    where
      pick : (b : Bool) → (j == i) ≡ b → cond {A = ℕ → X} b row (old j) k ≡ d
      pick true p = own k (subst (λ v. is v k ≡ false) (eqb-true j i p) h)
      pick false p = before j k (ap (λ (f : ℕ → Bool). f k) (sym (others j p)) ∙ h)

kept_none : {A : Type 0} (b : Bool) (x y : Option A) → b ≡ false → keeps b x y ≡ None
kept_none b x y e = ap (λ c. keeps c x y) e

-- nobody stands past the end
past : (xs : List Bool) → get_or xs (length xs) false ≡ false
past [] = refl
past (x ∷ xs) = past xs

dead : (w : WorkerFacts) (k : ℕ) (b : Bool) → b ≡ false → (if_alive b w).mem k ≡ false
dead w k b e = ap (λ c. (if_alive c w).mem k) e

nobody_has : (g : Shape) (alive : List Bool) (workers : List Core) (k : ℕ) → length alive ≡ length workers → (workers_of g alive workers (length workers)).mem k ≡ false
unfolding workers_of
nobody_has g alive workers k l = dead (worker_of g (length workers) (slice_get workers (length workers))) k (read alive false (length workers)) (ap (read alive false) (sym l) ∙ past alive)

module _ {B : Type 0} (strays : Bool) (alive : List Bool) (workers : List Core) (clients : List CoreState) (spilled : ℕ × List (List Bool)) (held got : ℕ × List (List (Option (Arc B Global)))) where
  -- a worker took an event
  pub tidy_worker : (new : List Core) (sp : ℕ × List (List Bool)) (hd : ℕ × List (List (Option (Arc B Global)))) (i : ℕ) (core : Core) (x : Shape → WorkerFacts) (came : ℕ → Option (Arc B Global))
      → i < length new → read alive false i ≡ true → core ≡ get_or new i core
      → ((g : Shape) → workers_of g alive new ≡ put (workers_of g alive workers) i (x g))
      → cell sp false ≡ put (cell spilled false) i (λ k. cell spilled false i k && (facts core).mem k)
      → cell hd None ≡ put (cell held None) i (λ k. keeps ((facts core).mem k) (cell held None i k) (came k))
      → IsTidy strays alive workers clients spilled held got → IsTidy strays alive new clients sp hd got
  tidy_worker new sp hd i core x came l a c e s h n = record {
    held = λ g. tidy_turned None (cell held None) (cell hd None) (λ j. (workers_of g alive workers j).mem) (λ j. (workers_of g alive new j).mem) i (λ k. keeps ((facts core).mem k) (cell held None i k) (came k)) h
        (λ k q. kept_none ((facts core).mem k) (cell held None i k) (came k) (own g k ∙ q)) (others g) (n.held g);
    spilled = λ q g. tidy_turned false (cell spilled false) (cell sp false) (λ j. (workers_of g alive workers j).mem) (λ j. (workers_of g alive new j).mem) i (λ k. cell spilled false i k && (facts core).mem k) s
        (λ k r. and_right (cell spilled false i k) ((facts core).mem k) (own g k ∙ r)) (others g) (n.spilled q g);
    got = n.got;
  }
    where
      own : (g : Shape) (k : ℕ) → (facts core).mem k ≡ (workers_of g alive new i).mem k
      own g k = ap (λ (w : WorkerFacts). w.mem k) (sym (worker_was g alive new i core l a c))

      others : (g : Shape) (j : ℕ) → (j == i) ≡ false → (workers_of g alive new j).mem ≡ (workers_of g alive workers j).mem
      others g j p = ap (λ (w : WorkerFacts). w.mem) (ap (λ (f : ℕ → WorkerFacts). f j) (e g) ∙ at_other (workers_of g alive workers) i j (x g) p)

  -- a client took one
  pub tidy_client : (new : List CoreState) (gt : ℕ × List (List (Option (Arc B Global)))) (i : ℕ) (core : CoreState) (x : Shape → ClientFacts) (came : ℕ → Option (Arc B Global))
      → i < length new → core ≡ get_or new i core
      → ((g : Shape) → clients_of g new ≡ put (clients_of g clients) i (x g))
      → cell gt None ≡ put (cell got None) i (λ k. keeps ((client_facts core).got k) (cell got None i k) (came k))
      → IsTidy strays alive workers clients spilled held got → IsTidy strays alive workers new spilled held gt
  tidy_client new gt i core x came l c e h n = record {
    held = n.held;
    spilled = n.spilled;
    got = λ g. tidy_turned None (cell got None) (cell gt None) (λ j. (clients_of g clients j).got) (λ j. (clients_of g new j).got) i (λ k. keeps ((client_facts core).got k) (cell got None i k) (came k)) h
        (λ k q. kept_none ((client_facts core).got k) (cell got None i k) (came k) (own g k ∙ q)) (others g) (n.got g);
  }
    where
      own : (g : Shape) (k : ℕ) → (client_facts core).got k ≡ (clients_of g new i).got k
      own g k = ap (λ (w : ClientFacts). w.got k) (sym (client_was g new i core l c))

      others : (g : Shape) (j : ℕ) → (j == i) ≡ false → (clients_of g new j).got ≡ (clients_of g clients j).got
      others g j p = ap (λ (w : ClientFacts). w.got) (ap (λ (f : ℕ → ClientFacts). f j) (e g) ∙ at_other (clients_of g clients) i j (x g) p)

  -- a worker died
  pub tidy_lost : (al : List Bool) (sp : ℕ × List (List Bool)) (hd : ℕ × List (List (Option (Arc B Global)))) (i : ℕ)
      → read al false ≡ put (read alive false) i false
      → cell sp false ≡ (λ w k. cond (w == i) false (cell spilled false w k))
      → cell hd None ≡ (λ w k. cond (w == i) None (cell held None w k))
      → IsTidy strays alive workers clients spilled held got → IsTidy strays al workers clients sp hd got
  unfolding workers_of
  tidy_lost al sp hd i a s h n = record {
    held = λ g j k q. ap (λ (f : ℕ → ℕ → Option (Arc B Global)). f j k) h ∙ row None (cell held None) j k (j == i) refl (λ p. n.held g j k (before g j k p q));
    spilled = λ r g j k q. ap (λ (f : ℕ → ℕ → Bool). f j k) s ∙ row false (cell spilled false) j k (j == i) refl (λ p. n.spilled r g j k (before g j k p q));
    got = n.got;
  }
    where
      row : {X : Type 0} (d : X) (old : ℕ → ℕ → X) (j k : ℕ) (b : Bool) → (j == i) ≡ b → ((j == i) ≡ false → old j k ≡ d) → cond b d (old j k) ≡ d
      row d old j k true p f = refl
      row d old j k false p f = f p

      before : (g : Shape) (j k : ℕ) → (j == i) ≡ false → (if_alive (read al false j) (worker_of g j (slice_get workers j))).mem k ≡ false → (if_alive (read alive false j) (worker_of g j (slice_get workers j))).mem k ≡ false
      before g j k p q = ap (λ b. (if_alive b (worker_of g j (slice_get workers j))).mem k) (sym (ap (λ (f : ℕ → Bool). f j) a ∙ at_other (read alive false) i j false p)) ∙ q

  -- one joined, who has nothing yet
  pub tidy_joined : (al : List Bool) (new : List Core) (sp : ℕ × List (List Bool)) (hd : ℕ × List (List (Option (Arc B Global)))) (v : Core)
      → length alive ≡ length workers → al ≡ alive ++ true ∷ [] → new ≡ workers ++ v ∷ []
      → cell sp false ≡ cell spilled false → cell hd None ≡ cell held None
      → IsTidy strays alive workers clients spilled held got → IsTidy strays al new clients sp hd got
  tidy_joined al new sp hd v l a e s h n = record {
    held = λ g j k q. ap (λ (f : ℕ → ℕ → Option (Arc B Global)). f j k) h ∙ n.held g j k (before g j k q);
    spilled = λ r g j k q. ap (λ (f : ℕ → ℕ → Bool). f j k) s ∙ n.spilled r g j k (before g j k q);
    got = n.got;
  }
    where
      more : (g : Shape) → workers_of g al new ≡ put (workers_of g alive workers) (length workers) (facts v)
      more g = ap (λ x. workers_of g x new) a ∙ ap (λ x. workers_of g (alive ++ true ∷ []) x) e ∙ workers_joined g alive workers v l

      before : (g : Shape) (j k : ℕ) → (workers_of g al new j).mem k ≡ false → (workers_of g alive workers j).mem k ≡ false
      before g j k q = pick (j == length workers) refl
        where
          pick : (b : Bool) → (j == length workers) ≡ b → (workers_of g alive workers j).mem k ≡ false
          pick true p = subst (λ z. (workers_of g alive workers z).mem k ≡ false) (sym (eqb-true j (length workers) p)) (nobody_has g alive workers k l)
          pick false p = ap (λ (w : WorkerFacts). w.mem k) (sym (ap (λ (f : ℕ → WorkerFacts). f j) (more g) ∙ at_other (workers_of g alive workers) (length workers) j (facts v) p)) ∙ q

  -- a key was spilled: it is astray where its worker doesn't have it
  pub tidy_spilled : (sp : ℕ × List (List Bool)) (i k : ℕ) (has : Bool) → ((g : Shape) → has ≡ (workers_of g alive workers i).mem k) → cell sp false ≡ put_pair (cell spilled false) i k true
      → IsTidy strays alive workers clients spilled held got → IsTidy (strays || not has) alive workers clients sp held got
  tidy_spilled sp i k has e s n = record {
    held = n.held;
    spilled = λ r g j q m. ap (λ (f : ℕ → ℕ → Bool). f j q) s ∙ pick g j q (j == i) refl (q == k) refl r m;
    got = n.got;
  }
    where
      first : (a b : Bool) → (a || not b) ≡ false → a ≡ false
      first true b e = e
      first false b e = refl

      second : (a b : Bool) → (a || not b) ≡ false → b ≡ true
      second true b e = absurd (true≢false e)
      second false true e = refl
      second false false e = absurd (true≢false e)

      pick : (g : Shape) (j q : ℕ) (b : Bool) → (j == i) ≡ b → (c : Bool) → (q == k) ≡ c → (strays || not has) ≡ false → (workers_of g alive workers j).mem q ≡ false → cond (b && c) true (cell spilled false j q) ≡ false
      pick g j q true p true o r m = absurd (true≢false (sym (second strays has r) ∙ e g ∙ ap (λ x. (workers_of g alive workers i).mem x) (sym (eqb-true q k o)) ∙ ap (λ x. (workers_of g alive workers x).mem q) (sym (eqb-true j i p)) ∙ m))
      pick g j q true p false o r m = n.spilled (first strays has r) g j q m
      pick g j q false p c o r m = n.spilled (first strays has r) g j q m

-- nothing stands anywhere
pub tidy_none : {B : Type 0} (strays : Bool) (alive : List Bool) (workers : List Core) (clients : List CoreState) (spilled : ℕ × List (List Bool)) (held got : ℕ × List (List (Option (Arc B Global))))
    → ((i k : ℕ) → cell spilled false i k ≡ false) → cell held None ≡ (λ i k. None) → cell got None ≡ (λ i k. None) → IsTidy strays alive workers clients spilled held got
tidy_none {B = B} strays alive workers clients spilled held got s h x = record {
  held = λ g i k q. ap (λ (f : ℕ → ℕ → Option (Arc B Global)). f i k) h;
  spilled = λ r g i k q. s i k;
  got = λ g c k q. ap (λ (f : ℕ → ℕ → Option (Arc B Global)). f c k) x;
}
