-- Counts of a list with one more member.
use Rattle.std.proofs.Common.{◌≡◌, ℕ, zero, suc, ◌+◌, ◌-◌, ◌^◌, ◌≤◌, ◌<◌, min, Bool, true, false, cond, List, [], ◌∷◌, ◌++◌, length, filter, map, get_or, Option, refl, sym, ap, ◌∙◌, arith, add-one, add-zero}
use Rattle.std.specs.Prelude.{◌==◌}
use Rattle.std.specs.List.{range_with_len}
use Rattle.std.proofs.Math.Nat.{min-eq_left}
use Rattle.std.proofs.lemmas.List.{length-append, map-append}
use Rattle.std.proofs.lemmas.List.Elements.{filter-append}
use Rattle.cluster_msgs.specs.Shape.{Shape, key_count, edge_count}
use Rattle.cluster_msgs.specs.declared.messages.Message.{Message}
use Rattle.cluster_msgs.specs.declared.events.Event.{Event}
use Rattle.cluster_msgs.specs.declared.events.Event.TheVariants.{Start}
use Rattle.cluster_msgs.specs.declared.events.Report.{Report}
use Rattle.cluster_rules.specs.Functions.{from_one, put}
use Rattle.cluster_rules.specs.Report.{Taken, is_join, is_start, starts_at, is_gather, is_loss, is_answer, how_many, report}
use Rattle.std.proofs.lemmas.Bool.{eqb-true}
use Rattle.small_facts.proofs.Numbers.{eqb_turned}
use Rattle.small_facts.proofs.Ranges.{range_suc}
use Rattle.run_report.specs.Counts.{IsCountOf, starts_of, starter, starts_by}
use Rattle.run_report.specs.declared.tally.Tally.{Tally}

one : {A : Type 0} (p : A → Bool) (x : A) → length (filter p (x ∷ [])) ≡ cond (p x) 1 0
one {A} p x = pick (p x)
  where
    pick : (b : Bool) → length (cond b (x ∷ []) []) ≡ cond b 1 0
    pick true = refl
    pick false = refl

how_many-push : (p : Taken → Bool) (es : List Taken) (e : Taken) → how_many p (es ++ e ∷ []) ≡ how_many p es + cond (p e) 1 0
how_many-push p es e = ap length (filter-append p es (e ∷ [])) ∙ length-append (filter p es) (filter p (e ∷ [])) ∙ ap (λ n. how_many p es + n) (one p e)

few-of : (p : Taken → Bool) (es : List Taken) → how_many p es ≤ length es
few-of p [] = omega arith
few-of p (e ∷ es) = pick (p e) (few-of p es)
  where
    pick : (b : Bool) → how_many p es ≤ length es → length (cond b (e ∷ filter p es) (filter p es)) ≤ length (e ∷ es)
    pick true h = omega arith
    pick false h = omega arith

-- a count that goes on
counted : (p : Taken → Bool) (es : List Taken) (e : Taken) (old new : ℕ) (b : Bool) → length es < 2 ^ 64 - 1 → old ≡ how_many p es → b ≡ p e → new ≡ min (old + cond b 1 0) (2 ^ 64 - 1) → new ≡ how_many p (es ++ e ∷ [])
counted p es e old new b few h is n =
    n ∙ min-eq_left (small b) ∙ ap (λ c. old + cond c 1 0) is ∙ ap (λ m. m + cond (p e) 1 0) h ∙ sym (how_many-push p es e)
  where
    small : (b : Bool) → old + cond b 1 0 ≤ 2 ^ 64 - 1
    small true = let f = few-of p es in omega (arith, f, h, few)
    small false = let f = few-of p es in omega (arith, f, h, few)

counted_joins : (es : List Taken) (e : Taken) (old new : ℕ) (b : Bool) → how_many is_join es < 2 ^ 32 - 1 → old ≡ how_many is_join es → b ≡ is_join e → new ≡ min (old + cond b 1 0) (2 ^ 32 - 1) → new ≡ how_many is_join (es ++ e ∷ [])
counted_joins es e old new b few h is n =
    n ∙ min-eq_left (small b) ∙ ap (λ c. old + cond c 1 0) is ∙ ap (λ m. m + cond (is_join e) 1 0) h ∙ sym (how_many-push is_join es e)
  where
    small : (b : Bool) → old + cond b 1 0 ≤ 2 ^ 32 - 1
    small true = omega (arith, h, few)
    small false = omega (arith, h, few)

-- the starts of each worker
started_is : (e : Event) (m : Option Message) (i : ℕ) → starts_at i (e, m) ≡ starts_by (starter e) i
started_is (Start worker) m i = refl
started_is _ m i = refl

counted_starts : (es : List Taken) (e : Event) (m : Option Message) (i old new : ℕ) → length es < 2 ^ 64 - 1 → old ≡ how_many (starts_at i) es → new ≡ cond (starts_by (starter e) i) (min (old + 1) (2 ^ 64 - 1)) old → new ≡ how_many (starts_at i) (es ++ (e, m) ∷ [])
counted_starts es e m i old new few h n = n ∙ pick (starts_by (starter e) i) (started_is e m i) ∙ sym (how_many-push (starts_at i) es (e, m))
  where
    small : old + 1 ≤ 2 ^ 64 - 1
    small = let f = few-of (starts_at i) es in omega (arith, f, h, few)

    pick : (b : Bool) → starts_at i (e, m) ≡ b → cond b (min (old + 1) (2 ^ 64 - 1)) old ≡ how_many (starts_at i) es + cond (starts_at i (e, m)) 1 0
    pick true q = min-eq_left small ∙ ap (λ k. k + 1) h ∙ ap (λ c. how_many (starts_at i) es + cond c 1 0) (sym q)
    pick false q = h ∙ sym (add-zero (how_many (starts_at i) es)) ∙ ap (λ c. how_many (starts_at i) es + cond c 1 0) (sym q)

-- all counts go on
pub record Goes (t u : Tally) (e : Event) (m : Option Message) : Type 0 where
  pub join : Bool
  pub start : Bool
  pub gather : Bool
  pub confirm : Bool
  pub refuse : Bool
  pub loss : Bool
  pub by_join : join ≡ is_join (e, m)
  pub by_start : start ≡ is_start (e, m)
  pub by_gather : gather ≡ is_gather (e, m)
  pub by_confirm : confirm ≡ is_answer true (e, m)
  pub by_refuse : refuse ≡ is_answer false (e, m)
  pub by_loss : loss ≡ is_loss (e, m)
  pub joins : u.joins ≡ min (t.joins + cond join 1 0) (2 ^ 32 - 1)
  pub started : u.started ≡ min (t.started + cond start 1 0) (2 ^ 64 - 1)
  pub gathers : u.gathers ≡ min (t.gathers + cond gather 1 0) (2 ^ 64 - 1)
  pub confirmed : u.confirmed ≡ min (t.confirmed + cond confirm 1 0) (2 ^ 64 - 1)
  pub refused : u.refused ≡ min (t.refused + cond refuse 1 0) (2 ^ 64 - 1)
  pub losses : u.losses ≡ min (t.losses + cond loss 1 0) (2 ^ 64 - 1)
  pub starts : (i : ℕ) → get_or u.starts i 0 ≡ cond (starts_by (starter e) i) (min (get_or t.starts i 0 + 1) (2 ^ 64 - 1)) (get_or t.starts i 0)

pub count_goes : (t u : Tally) (e : Event) (m : Option Message) (es : List Taken) → Goes t u e m → length es < 2 ^ 64 - 1 → how_many is_join es < 2 ^ 32 - 1 → IsCountOf t es → IsCountOf u (es ++ (e, m) ∷ [])
count_goes t u e m es g few rare h = record {
  joins = counted_joins es (e, m) t.joins u.joins g.join rare h.joins g.by_join g.joins;
  started = counted is_start es (e, m) t.started u.started g.start few h.started g.by_start g.started;
  starts = λ i. counted_starts es e m i (get_or t.starts i 0) (get_or u.starts i 0) few (h.starts i) (g.starts i);
  gathers = counted is_gather es (e, m) t.gathers u.gathers g.gather few h.gathers g.by_gather g.gathers;
  confirmed = counted (is_answer true) es (e, m) t.confirmed u.confirmed g.confirm few h.confirmed g.by_confirm g.confirmed;
  refused = counted (is_answer false) es (e, m) t.refused u.refused g.refuse few h.refused g.by_refuse g.refused;
  losses = counted is_loss es (e, m) t.losses u.losses g.loss few h.losses g.by_loss g.losses;
}

-- a list of counts with one more of 0, or with one that is written
pub zero-push : (xs : List ℕ) (k : ℕ) → get_or (xs ++ 0 ∷ []) k 0 ≡ get_or xs k 0
zero-push [] zero = refl
zero-push [] (suc k) = refl
zero-push (x ∷ xs) zero = refl
zero-push (x ∷ xs) (suc k) = zero-push xs k

-- a count that is written
pub add_is : (f g : ℕ → ℕ) (worker more i : ℕ) → ((k : ℕ) → g k ≡ f k) → more ≡ min (g worker + 1) (2 ^ 64 - 1) → put g worker more i ≡ cond (worker == i) (min (f i + 1) (2 ^ 64 - 1)) (f i)
add_is f g worker more i same e = pick (i == worker) refl ∙ ap (λ b. cond b (min (f i + 1) (2 ^ 64 - 1)) (f i)) (eqb_turned i worker)
  where
    pick : (b : Bool) → (i == worker) ≡ b → cond b more (g i) ≡ cond b (min (f i + 1) (2 ^ 64 - 1)) (f i)
    pick true q = e ∙ ap (λ n. min (n + 1) (2 ^ 64 - 1)) (ap g (sym (eqb-true i worker q)) ∙ same i)
    pick false q = same i

mapped_more : {B : Type 0} (g : ℕ → B) (n : ℕ) → map g (from_one (n + 1)) ≡ map g (from_one n) ++ g (n + 1) ∷ []
mapped_more g n =
    let q : 1 + n ≡ n + 1 = omega arith in
    ap (λ k. map g (from_one k)) (add-one n)
    ∙ ap (map g) (range_suc 1 n)
    ∙ map-append g (range_with_len 1 n) ((1 + n) ∷ [])
    ∙ ap (λ k. map g (range_with_len 1 n) ++ g k ∷ []) q

pub workers_more : (f : ℕ → ℕ) (n : ℕ) → map {B = ℕ × ℕ} (λ i. (i, f i)) (from_one (n + 1)) ≡ map {B = ℕ × ℕ} (λ i. (i, f i)) (from_one n) ++ (n + 1, f (n + 1)) ∷ []
workers_more f n = mapped_more {B = ℕ × ℕ} (λ i. (i, f i)) n

-- the report of what was counted
pub report_is : (t : Tally) (g : Shape) (es : List Taken) (workers : List (ℕ × ℕ)) (keys edges : ℕ) → workers ≡ starts_of t → keys ≡ key_count g → edges ≡ edge_count g → IsCountOf t es
    → ◌≡◌ {A = Report} (record { keys = keys; edges = edges; started = t.started; workers = workers; gathers = t.gathers; confirmed = t.confirmed; refused = t.refused; losses = t.losses }) (report g es)
unfolding report
report_is t g es workers keys edges e k d h = λ i. record {
  keys = k i;
  edges = d i;
  started = h.started i;
  workers = (e ∙ starts) i;
  gathers = h.gathers i;
  confirmed = h.confirmed i;
  refused = h.refused i;
  losses = h.losses i;
}
  where
    starts : starts_of t ≡ map (λ k. (k, how_many (starts_at k) es)) (from_one (how_many is_join es))
    starts = λ j. map (λ k. (k, h.starts k j)) (from_one (h.joins j))
