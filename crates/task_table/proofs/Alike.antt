-- Facts on which the same derived facts rest.
use Rattle.std.proofs.Common.{◌≡◌, ℕ, ◌<◌, Bool, true, false, ◌&&◌, ◌||◌, ◌==◌, eqb, ltb, not, nat_lt, length, Option, is_none, refl, sym, ap, ◌∙◌, subst}
use Rattle.std.specs.List.{list_all}
use Rattle.cluster_msgs.specs.Shape.{key_count, deps_of}
use Rattle.cluster_rules.specs.Functions.{count}
use Rattle.cluster_rules.specs.Derived.{err, reach, below, is_in}
use Rattle.cluster_rules.specs.Sched.{Facts, Setting, IsSound, keys, held, wanted, known, erred, need, ready, fed, waiters}
use Rattle.spread_flags.specs.Spread.{flag, leaders}
use Rattle.standing.proofs.Unique.{need-waited, ready-by}
use Rattle.task_table.specs.Tasks.{SameAt, is_root, queued_root, queued_other}
use Rattle.task_table.specs.Standing.{IsOver, IsSeeded, IsDerivedAt, SameLevels, is_ready_by}
use Rattle.task_table.specs.Parts.{IsParts, IsNearly, IsRoomy}
use Rattle.task_table.specs.declared.levels.Levels.{Levels}
use Rattle.task_table.specs.declared.parts.Parts.{Parts}
use Rattle.task_table.proofs.Near.{IsNear}

pub record IsAlike (f g : Facts) : Type 0 where
  pub setting : g.setting ≡ f.setting
  pub wanted : wanted g ≡ wanted f
  pub held : held g ≡ held f
  pub bad : g.bad ≡ f.bad
  pub losses : g.losses ≡ f.losses
  pub on : g.on ≡ f.on

known_alike : (f g : Facts) → IsAlike f g → known g ≡ known f
unfolding known
known_alike f g a = λ i. reach (λ k. deps_of (a.setting i).shape k) (key_count (a.setting i).shape) (a.wanted i) (λ j. true)

erred_alike : (f g : Facts) → IsAlike f g → erred g ≡ erred f
unfolding erred
erred_alike f g a = λ i. err (λ k. deps_of (a.setting i).shape k) (a.held i) (a.bad i)

need_alike : (f g : Facts) → IsAlike f g → need g ≡ need f
unfolding need
need_alike f g a = λ i. reach (λ k. deps_of (a.setting i).shape k) (key_count (a.setting i).shape) (a.wanted i) (λ j. not (a.held i j) && not (erred_alike f g a i j))

fed_alike : (f g : Facts) → IsAlike f g → (k : ℕ) → fed g k ≡ fed f k
fed_alike f g a k = λ i. list_all (a.held i) (deps_of (a.setting i).shape k)

ready_alike : (f g : Facts) → IsAlike f g → (k : ℕ) → ready g k ≡ ready f k
unfolding ready
ready_alike f g a k = λ i. (need_alike f g a i k && (not (a.held i k) && not (erred_alike f g a i k))) && fed_alike f g a k i

waiters_alike : (f g : Facts) → IsAlike f g → (k : ℕ) → waiters g k ≡ waiters f k
unfolding waiters
waiters_alike f g a k = λ i. count (λ j. is_in k (deps_of (a.setting i).shape j) && (need_alike f g a i j && (not (a.held i j) && not (erred_alike f g a i j)))) (below (key_count (a.setting i).shape))

pub same_alike : (f g : Facts) (k : ℕ) → IsAlike f g → ((w : ℕ) → g.has w k ≡ f.has w k) → ((c : ℕ) → g.want c k ≡ f.want c k) → SameAt f g k
same_alike f g k a h w = record {
  known = ap (λ (p : ℕ → Bool). p k) (known_alike f g a);
  erred = ap (λ (p : ℕ → Bool). p k) (erred_alike f g a);
  need = ap (λ (p : ℕ → Bool). p k) (need_alike f g a);
  held = ap (λ (p : ℕ → Bool). p k) a.held;
  ready = ready_alike f g a k;
  fed = fed_alike f g a k;
  waiters = waiters_alike f g a k;
  bad = ap (λ (p : ℕ → Bool). p k) a.bad;
  losses = ap (λ (p : ℕ → ℕ). p k) a.losses;
  on = ap (λ (p : ℕ → Option (ℕ × ℕ)). p k) a.on;
  has = h;
  want = w;
}

over_alike : (s t : Setting) (l : Levels) → t ≡ s → IsOver s.shape l → IsOver t.shape l
over_alike s t l e o = subst (λ (x : Setting). IsOver x.shape l) (sym e) o

low : (f g : Facts) (k : ℕ) → g.setting ≡ f.setting → k < keys g → k < keys f
low f g k e l = subst (λ (x : Setting). k < key_count x.shape) e l

seeded_alike : (f g : Facts) (l : Levels) (k : ℕ) → wanted g k ≡ wanted f k → held g k ≡ held f k → g.bad k ≡ f.bad k → IsSeeded f l k → IsSeeded g l k
seeded_alike f g l k w h b s = record {
  known_seed = s.known_seed ∙ sym w;
  known_gate = s.known_gate;
  erred_seed = s.erred_seed ∙ sym b;
  erred_gate = s.erred_gate ∙ ap not (sym h);
  waiting_seed = s.waiting_seed ∙ sym w;
  waiting_gate = s.waiting_gate ∙ ap (λ t. not t && not (flag l.erred k)) (sym h);
  missing_seed = s.missing_seed;
  missing_gate = s.missing_gate ∙ ap not (sym h);
}

derived_alike : (f g : Facts) (l : Levels) (k : ℕ) → IsAlike f g → IsDerivedAt f l k → IsDerivedAt g l k
derived_alike f g l k a d = record {
  known = d.known ∙ sym (ap (λ (p : ℕ → Bool). p k) (known_alike f g a));
  erred = d.erred ∙ sym (ap (λ (p : ℕ → Bool). p k) (erred_alike f g a));
  waiting = d.waiting ∙ sym (λ i. (not (a.held i k) && not (erred_alike f g a i k)) && need_alike f g a i k);
  waiters = d.waiters ∙ sym (waiters_alike f g a k);
  missing = d.missing ∙ sym (ap (λ (p : ℕ → Bool). not (p k)) a.held);
  fed = d.fed ∙ sym (ap not (fed_alike f g a k));
}

root_alike : (f g : Facts) (k : ℕ) → g.setting ≡ f.setting → is_root g k ≡ is_root f k
root_alike f g k e = λ i. length (deps_of (e i).shape k) == 0

queued_alike : (f g : Facts) (k : ℕ) → IsAlike f g → (queued_root f k ≡ queued_root g k) × (queued_other f k ≡ queued_other g k)
queued_alike f g k a = (
  sym (λ i. (ready_alike f g a k i && is_none (a.on i k)) && root_alike f g k a.setting i),
  sym (λ i. (ready_alike f g a k i && is_none (a.on i k)) && not (root_alike f g k a.setting i)),
)

pub parts_alike : (f g : Facts) (p : Parts) → IsAlike f g → IsParts f p → IsParts g p
parts_alike f g p a h = record {
  standing = record {
    over = over_alike f.setting g.setting p.levels a.setting h.standing.over;
    seeded = λ k l. seeded_alike f g p.levels k (ap (λ (q : ℕ → Bool). q k) a.wanted) (ap (λ (q : ℕ → Bool). q k) a.held) (ap (λ (q : ℕ → Bool). q k) a.bad) (h.standing.seeded k (low f g k a.setting l));
    derived = λ k l. derived_alike f g p.levels k a (h.standing.derived k (low f g k a.setting l));
  };
  quiet = h.quiet;
  roomy = subst (λ (x : Setting). IsRoomy (key_count x.shape) p) (sym a.setting) h.roomy;
  roots = λ k l. h.roots k (low f g k a.setting l) ∙ (queued_alike f g k a).0;
  others = λ k l. h.others k (low f g k a.setting l) ∙ (queued_alike f g k a).1;
}

-- ready, by the flags
pub ready_flags : (f : Facts) (l : Levels) (k : ℕ) → IsDerivedAt f l k → is_ready_by l k ≡ ready f k
ready_flags f l k d = ready-by f k (flag l.waiting k) (nat_lt 0 (leaders l.missing k)) d.waiting d.fed

-- near another key the parts are those of the facts, but for the key
pub parts_near : (f g : Facts) (p : Parts) (key : ℕ) → IsNear f g key → IsParts f p → IsNearly g p key
parts_near f g p key n h = record {
  seeded = record {
    over = over_alike f.setting g.setting p.levels n.setting h.standing.over;
    seeded = λ k l e. seeded_alike f g p.levels k (n.wanted k e) (n.held k e) (n.bad k e) (h.standing.seeded k (low f g k n.setting l));
  };
  quiet = h.quiet;
  roomy = subst (λ (x : Setting). IsRoomy (key_count x.shape) p) (sym n.setting) h.roomy;
  roots = λ k l e. h.roots k (low f g k n.setting l) ∙ sym (λ i. (ready_flags f p.levels k (h.standing.derived k (low f g k n.setting l)) i && is_none (n.on k e i)) && root_alike f g k n.setting i);
  others = λ k l e. h.others k (low f g k n.setting l) ∙ sym (λ i. (ready_flags f p.levels k (h.standing.derived k (low f g k n.setting l)) i && is_none (n.on k e i)) && not (root_alike f g k n.setting i));
}

not_same : (a b : Bool) → not a ≡ not b → a ≡ b
not_same true true e = refl
not_same true false e = sym e
not_same false true e = sym e
not_same false false e = refl

-- where no flag and no count of a key differs nothing that is known of it does
pub same_levels : (f g : Facts) (l m : Levels) (k key : ℕ) → IsSound f → IsSound g → IsNear f g key → eqb k key ≡ false → IsDerivedAt f l k → IsDerivedAt g m k → SameLevels l m k → SameAt f g k
same_levels f g l m k key s t n e d h q = record {
  known = sym h.known ∙ q.known ∙ d.known;
  erred = sym h.erred ∙ q.erred ∙ d.erred;
  need = sym (need-waited g t k) ∙ (λ i. n.wanted k e i || ltb 0 (waited i)) ∙ need-waited f s k;
  held = n.held k e;
  ready = sym (ready_flags g m k h) ∙ (λ i. q.waiting i && not (nat_lt 0 (q.lacks i))) ∙ ready_flags f l k d;
  fed = not_same (fed g k) (fed f k) (sym h.fed ∙ ap (nat_lt 0) q.lacks ∙ d.fed);
  waiters = waited;
  bad = n.bad k e;
  losses = n.losses k e;
  on = n.on k e;
  has = λ w. n.has w k e;
  want = λ c. n.want c k e;
}
  where
    waited : waiters g k ≡ waiters f k
    waited = sym h.waiters ∙ q.waiters ∙ d.waiters
