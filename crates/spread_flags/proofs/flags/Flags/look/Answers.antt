use Rattle.std.proofs.Common.{◌≡◌, ℕ, ◌+◌, ◌<◌, Bool, true, false, not, cond, ◌&&◌, ◌||◌, ltb, List, [], get_or, arith, sym, ap, ◌∙◌, subst}
use Rattle.std.specs.List.{AllByRecursion}
use Rattle.std.specs.List.Sorted.{IsStrictlyIncreasing}
use Rattle.std.proofs.lemmas.List.{get_or_read}
use Rattle.fact_rows.specs.Rows.{read}
use Rattle.cluster_rules.specs.Derived.{is_in}
use Rattle.cluster_rules.proofs.DerivedLemmas.{none_in}
use Rattle.key_sets.specs.Sets.{has}
use Rattle.spread_flags.specs.Spread.{Spread, size, targets, seed, gate, flag, leaders, due, was}
use Rattle.spread_flags.specs.Spreads.{spread_of}
use Rattle.spread_flags.proofs.CountLemmas.{rec_at}
use Rattle.spread_flags.proofs.KeepLemmas.{leader_counted, leaders_few, kept-turned, was-turned, flip, not_false}
use Rattle.spread_flags.proofs.flags.Flags.look.Goals as goal

-- the flag that is due, as it was computed
due_is : (s : Spread) (key : ℕ) (a b : Bool) (n : ℕ) → a ≡ gate s key → b ≡ seed s key → n ≡ leaders s key → (a && (b || ltb 0 n)) ≡ due s key
due_is s key a b n e f g = ap (λ x. x && (b || ltb 0 n)) e ∙ ap (λ x. gate s key && (x || ltb 0 n)) f ∙ ap (λ x. gate s key && (seed s key || ltb 0 x)) g

-- the links of the key, as they were read
links_are : (s : Spread) (key : ℕ) (read_links keys : List ℕ) → key < size s → read_links ≡ get_or s.links key read_links → keys ≡ read_links → keys ≡ targets s key
links_are s key read_links keys l e f = f ∙ get_or_read s.links key read_links l e []

pub count_turn-requires-clause-keys : goal.count_turn-requires-clause-keys
count_turn-requires-clause-keys c k d l =
    let s = spread_of c.self.inside in
    let key = c.args.key in
    let low : key < size s = subst (λ (z : Spread). key < size z) (sym c.self.view_is) c.requires in
    let same = links_are s key c.index.result.now c.as_slice-keys.result.now low c.index.ensures c.as_slice-keys.ensures in
    let at : get_or c.as_slice-keys.result.now k d < size s = rec_at (λ j. j < size s) c.as_slice-keys.result.now (subst (λ (xs : List ℕ). AllByRecursion (λ j. j < size s) xs) (sym same) (c.self.invariant.linked.within key)) k d l in
    omega (arith, at, c.self.invariant.count_row)

pub count_turn-requires-clause-rising : goal.count_turn-requires-clause-rising
count_turn-requires-clause-rising c =
    let s = spread_of c.self.inside in
    let key = c.args.key in
    let low : key < size s = subst (λ (z : Spread). key < size z) (sym c.self.view_is) c.requires in
    subst (λ (xs : List ℕ). IsStrictlyIncreasing xs) (sym (links_are s key c.index.result.now c.as_slice-keys.result.now low c.index.ensures c.as_slice-keys.ensures)) (c.self.invariant.linked.rising key)

pub count_turn-requires-clause-few : goal.count_turn-requires-clause-few
count_turn-requires-clause-few c k = leaders_few (spread_of c.self.inside) k c.self.invariant

pub count_turn-requires-clause-enough : goal.count_turn-requires-clause-enough
count_turn-requires-clause-enough c e k i =
    let s = spread_of c.self.inside in
    let key = c.args.key in
    let low : key < size s = subst (λ (z : Spread). key < size z) (sym c.self.view_is) c.requires in
    let same = links_are s key c.index.result.now c.as_slice-keys.result.now low c.index.ensures c.as_slice-keys.ensures in
    leader_counted s key k c.self.invariant low (not_false (flag s key) (sym e ∙ flip_back (c.get.result && (c.get-2.result || ltb 0 c.get-3.result)) (flag s key) (sym (c.get-4.ensures false) ∙ flip (c.get.result && (c.get-2.result || ltb 0 c.get-3.result)) c.get-4.result c.if-to-get.true))) (sym (ap (is_in k) same) ∙ i)
  where
    flip_back : (b f : Bool) → f ≡ not b → b ≡ not f
    flip_back true f e = sym (ap not e)
    flip_back false f e = sym (ap not e)

pub mark_all-requires : goal.mark_all-requires
mark_all-requires c k d l =
    let s = spread_of c.self.inside in
    let key = c.args.key in
    let low : key < size s = subst (λ (z : Spread). key < size z) (sym c.self.view_is) c.requires in
    let same = links_are s key c.index.result.now c.as_slice-keys.result.now low c.index.ensures c.as_slice-keys.ensures in
    let at : get_or c.as_slice-keys.result.now k d < size s = rec_at (λ j. j < size s) c.as_slice-keys.result.now (subst (λ (xs : List ℕ). AllByRecursion (λ j. j < size s) xs) (sym same) (c.self.invariant.linked.within key)) k d l in
    omega (arith, at, c.self.invariant.stale_room, c.remove.ensures.room)

pub invariant_of-self : goal.invariant_of-self
invariant_of-self c =
    let s = spread_of c.self.inside in
    let key = c.args.key in
    let to = c.get.result && (c.get-2.result || ltb 0 c.get-3.result) in
    let low : key < size s = subst (λ (z : Spread). key < size z) (sym c.self.view_is) c.requires in
    let same = links_are s key c.index.result.now c.as_slice-keys.result.now low c.index.ensures c.as_slice-keys.ensures in
    kept-turned s key to c.set.new.self c.count_turn.new.counts c.remove.new.self c.mark_all.new.stale c.toggle.new.self c.self.invariant low
    (due_is s key c.get.result c.get-2.result c.get-3.result (c.get.ensures false) (c.get-2.ensures false) (c.get-3.ensures 0))
    (sym (c.get-4.ensures false) ∙ flip to c.get-4.result c.if-to-get.true)
    (c.set.ensures.meaning false) c.set.ensures.length
    c.remove.ensures.keys c.remove.ensures.room
    (λ k. c.mark_all.ensures.marked k ∙ ap (λ xs. has c.remove.new.self k || is_in k xs) same) c.mark_all.ensures.room
    c.toggle.ensures.keys c.toggle.ensures.room
    (λ k. subst (λ (xs : List ℕ). ◌≡◌ {A = ℕ} (read c.count_turn.new.counts 0 k + cond (is_in k xs && not to) 1 0) (read c.self.inside.counts 0 k + cond (is_in k xs && to) 1 0)) same (c.count_turn.ensures.counted k)) c.count_turn.ensures.length
    (λ k m. none_in k (size s) (targets s key) (c.self.invariant.linked.within key) m)

pub returns-then-to-get-clause-was : goal.returns-then-to-get-clause-was
returns-then-to-get-clause-was c k =
    let s = spread_of c.self.inside in
    let to = c.get.result && (c.get-2.result || ltb 0 c.get-3.result) in
    was-turned s c.args.key to c.set.new.self c.toggle.new.self
    (sym (c.get-4.ensures false) ∙ flip to c.get-4.result c.if-to-get.true) (c.set.ensures.meaning false) c.toggle.ensures.keys k
    ∙ ap (λ z. was z k) c.self.view_is
