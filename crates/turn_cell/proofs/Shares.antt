-- Cutting a pass in two, joining two, the first pass and the last one.
use Rattle.std.proofs.Common.{◌≡◌, ℕ, ◌<◌, ◌≤◌, inl, inr, Bool, true, false, List, [], ◌∷◌, ◌++◌, length, set, sym, refl, ap, ◌∙◌, subst, ⊎_elim, arith, Option, Some, None, nat_le, if◌then◌else◌}
use mathlib.Core.Option.{some, some-injective}
use mathlib.Core.Logic.{dite}
use native.Mathlib.Decide.{ℕ_discrete}
use lib.ListN.{get_elem?}
use Rattle.atomic_table.specs.Table.{State, Splits, Joins, opening, Final, Seen}
use Rattle.atomic_table.proofs.Lists.{at_snoc, at_longer, set_else}
use Rattle.cluster_msgs.specs.declared.events.Entry.{Entry}
use Rattle.turn_cell.specs.declared.rule.View.{View}
use Rattle.turn_cell.specs.declared.rule.Start.{Start}
use Rattle.turn_cell.specs.Histories.{StartsWith, weigh, Ascending, Replays}
use Rattle.turn_cell.specs.Turns.{total_of, spent, first_view, left_view, right_view, both_views, IsLive, Knows, All, AtHome, IsOut, TurnRule, Ended}
use Rattle.turn_cell.proofs.Sums.{total_set, total_snoc, two_at, total_alone, all_one, all_set, weigh-append, starts_light}
use Rattle.std.proofs.Common.{drop}
use Rattle.std.proofs.lemmas.Bool.Decides.{nat_tests}
use Rattle.turn_cell.proofs.Steps.{live, here, not_none}

module _ {S C : Type 0} (entries : S → List Entry) (core : S → C) (cut : S → Bool) (steps : C → Entry → C → Type 0) where
  abbrev St : Type 0
  St = State (Option S) (View S)

  abbrev Rule : Start S → St → Type 0
  Rule = TurnRule entries core cut steps

  all_snoc : (F : ℕ → View S → Type 0) (views : List (View S)) (w : View S) → ((j : ℕ) → F j w) → ((j : ℕ) (u : View S) → get_elem? views j ≡ some u → F j u) → (j : ℕ) (u : View S) → get_elem? (views ++ w ∷ []) j ≡ some u → F j u
  all_snoc F views w mine others j u e = ⊎_elim (λ x. others j u x) (λ (x : w ≡ u). subst (F j) x (mine j)) (at_snoc views w u j e)

  -- the rule as one fact of the views, where the state stays where it is
  moves : (key : Start S) (s t : St) (h : Rule key s) → t.words ≡ s.words → t.homes ≡ s.homes
      → ((holder : ℕ) (x : S) → ((v : View S) × (get_elem? s.views holder ≡ some v) × (v.out ≡ Some x)) → (v : View S) × (get_elem? t.views holder ≡ some v) × (v.out ≡ Some x))
      → ((P : ℕ → Type 0) → All entries core cut steps (λ id v. P id → v.out ≡ None) s.views → All entries core cut steps (λ id v. P id → v.out ≡ None) t.views)
      → All entries core cut steps (λ _ v. Knows entries core cut steps key.state.value key.parts h.log v) t.views
      → total_of (λ v. v.parts) t.views ≡ total_of (λ v. v.parts) s.views → ((g : Entry → ℕ) → total_of (λ v. weigh g v.mine) t.views ≡ total_of (λ v. weigh g v.mine) s.views)
      → Rule key t
  moves key s t h words homes noted outs knows parts once = record {
    log = h.log;
    ascending = h.ascending;
    placed = ⊎_elim
        (λ (p : AtHome entries core cut steps key.state.value h.log s). inl (record {
          state = p.state;
          words = words ∙ p.words;
          homes = homes ∙ p.homes;
          replay = p.replay;
          nobody = λ j u e. outs (λ _. Unit {0}) (λ i v a _. p.nobody i v a) j u e tt;
        }))
        (λ (p : IsOut entries core cut steps key.state.value h.log s). inr (record {
          state = p.state;
          holder = p.holder;
          words = words ∙ p.words;
          homes = homes ∙ p.homes;
          replay = p.replay;
          noted = noted p.holder p.state p.noted;
          nobody_else = outs (λ i. ¬ (i ≡ p.holder)) p.nobody_else;
        }))
        h.placed;
    knows = knows;
    parts = parts ∙ h.parts;
    once = λ g. once g ∙ h.once g;
  }

  pub splits : (key : Start S) (id : ℕ) (v : View S) → 2 ≤ v.parts → Splits (Rule key) id v (left_view v) (right_view v)
  splits key id v two s h at =
      let l = live entries core cut steps key.state.value key.parts h.log v (omega arith) (h.knows id v at) in
      let vs : List (View S) = set s.views id (left_view v) in let r : View S = right_view v in let t : St = record { words = s.words; homes = s.homes; views = vs ++ r ∷ [] } in
      let K : ℕ → View S → Type 0 = λ _ u. Knows entries core cut steps key.state.value key.parts h.log u in
      let at' : get_elem? vs id ≡ some (left_view v) = here entries core cut steps s.views id v (left_view v) at in
      moves key s t h refl refl
      (λ holder x n. dite (ℕ_discrete holder id)
      (λ e. (left_view v, at_longer vs (r ∷ []) holder (left_view v) (ap (get_elem? vs) e ∙ at'), ap (λ (u : View S). u.out) (some-injective v n.0 (sym at ∙ sym (ap (get_elem? s.views) e) ∙ n.1)) ∙ n.2))
      (λ ne. (n.0, at_longer vs (r ∷ []) holder n.0 (set_else s.views id holder (left_view v) ne ∙ n.1), n.2)))
      (λ P a. all_snoc (λ j u. P j → u.out ≡ None) vs r (λ j _. refl) (all_set (λ j u. P j → u.out ≡ None) s.views id (left_view v) (λ p. a id v at p) (λ j u n e. a j u e)))
      (all_snoc K vs r (λ _. inr (record { some_part = omega arith; start_is = l.start_is; total_is = l.total_is; seen = l.seen; among = λ g z. refl }))
      (all_set K s.views id (left_view v) (inr (record { some_part = omega arith; start_is = l.start_is; total_is = l.total_is; seen = l.seen; among = l.among })) (λ j u n e. h.knows j u e)))
      (let a = total_set (λ u. u.parts) s.views id v (left_view v) at in let b = total_snoc (λ u. u.parts) vs r in omega arith)
      (λ g. let a = total_set (λ u. weigh g u.mine) s.views id v (left_view v) at in let b = total_snoc (λ u. weigh g u.mine) vs r in omega arith)

  -- of two beginnings the longer is one of the two
  either_of : (P : List Entry → Type 0) (xs ys : List Entry) (b : Bool) → P xs → P ys → P (if b then xs else ys)
  either_of P xs ys true p q = p
  either_of P xs ys false p q = q

  -- of two beginnings of one list the shorter begins the longer
  begins_longer : (log xs ys : List Entry) → StartsWith log xs → StartsWith log ys → length ys ≤ length xs → StartsWith xs ys
  begins_longer log xs [] a b le = (xs, refl)
  begins_longer log [] (y ∷ ys) a b le = absurd (omega arith)
  begins_longer [] (x ∷ xs) (y ∷ ys) a b le = absurd (omega (arith, ap length a.1))
  begins_longer (z ∷ log) (x ∷ xs) (y ∷ ys) a b le =
      let r = begins_longer log xs ys (a.0, ap (drop 1) a.1) (b.0, ap (drop 1) b.1) (omega arith) in
      let zx : z ≡ x = some-injective z x (ap (λ l. get_elem? l 0) a.1) in let zy : z ≡ y = some-injective z y (ap (λ l. get_elem? l 0) b.1) in
      (r.0, λ i. (sym zx ∙ zy) i ∷ r.1 i)

  light_both : (g : Entry → ℕ) (log xs ys : List Entry) (b : Bool) → nat_le (length ys) (length xs) ≡ b → StartsWith log xs → StartsWith log ys → weigh g (if b then xs else ys) ≡ 0 → (weigh g xs ≡ 0) × (weigh g ys ≡ 0)
  light_both g log xs ys true is a c z = (z, starts_light g xs ys (begins_longer log xs ys a c (grind (arith, nat_tests))) z)
  light_both g log xs ys false is a c z = (starts_light g ys xs (begins_longer log ys xs c a (grind (arith, nat_tests))) z, z)

  pub joins : (key : Start S) (id : ℕ) (v : View S) (other : ℕ) (w : View S) → 0 < v.parts → 0 < w.parts → w.out ≡ None → Joins (Rule key) id v other w (both_views v w) spent
  joins key id v other w pv pw idle s h at apart at' =
      let start : S = key.state.value in let b : View S = both_views v w in let vs : List (View S) = set s.views id b in let t : St = record { words = s.words; homes = s.homes; views = set vs other spent } in
      let l = live entries core cut steps start key.parts h.log v pv (h.knows id v at) in
      let was : get_elem? s.views other ≡ some w = sym (set_else s.views id other b apart) ∙ at' in
      let m = live entries core cut steps start key.parts h.log w pw (h.knows other w was) in
      let K : ℕ → View S → Type 0 = λ _ u. Knows entries core cut steps start key.parts h.log u in
      let at_b : get_elem? vs id ≡ some b = here entries core cut steps s.views id v b at in
      moves key s t h refl refl
      (λ holder x n.
      let not_other : ¬ (holder ≡ other) = λ e. not_none entries core cut steps x (sym n.2 ∙ ap (λ (u : View S). u.out) (some-injective n.0 w (sym n.1 ∙ ap (get_elem? s.views) e ∙ was)) ∙ idle) in
      dite (ℕ_discrete holder id)
      (λ e. (b, set_else vs other holder spent not_other ∙ ap (get_elem? vs) e ∙ at_b, ap (λ (u : View S). u.out) (some-injective v n.0 (sym at ∙ sym (ap (get_elem? s.views) e) ∙ n.1)) ∙ n.2))
      (λ ne. (n.0, set_else vs other holder spent not_other ∙ set_else s.views id holder b ne ∙ n.1, n.2)))
      (λ P a. all_set (λ j u. P j → u.out ≡ None) vs other spent (λ p. refl) (λ j u n e. all_set (λ j u. P j → u.out ≡ None) s.views id b (λ p. a id v at p) (λ j u n e. a j u e) j u e))
      (all_set K vs other spent (inl refl) (λ j u n e. all_set K s.views id b
      (inr (record {
        some_part = omega arith;
        start_is = l.start_is;
        total_is = l.total_is;
        seen = either_of (StartsWith h.log) v.seen w.seen (nat_le (length w.seen) (length v.seen)) l.seen m.seen;
        among = λ g z. let two = light_both g h.log v.seen w.seen (nat_le (length w.seen) (length v.seen)) refl l.seen m.seen z in
            let a = l.among g two.0 in let c = m.among g two.1 in weigh-append g v.mine w.mine ∙ omega arith;
      }))
      (λ j u n e. h.knows j u e) j u e))
      (let a = total_set (λ u. u.parts) s.views id v b at in let c = total_set (λ u. u.parts) vs other w spent at' in omega arith)
      (λ g. let a = total_set (λ u. weigh g u.mine) s.views id v b at in let c = total_set (λ u. weigh g u.mine) vs other w spent at' in let d = weigh-append g v.mine w.mine in omega arith)

  pub begins : (key : Start S) → entries key.state.value ≡ [] → 0 < key.parts → Rule key (opening (0 ∷ 0 ∷ []) (Some key.state.value ∷ []) (first_view key))
  begins key none_yet pos =
      let v : View S = first_view key in let start : S = key.state.value in
      record {
        log = [];
        ascending = tt;
        placed = inl (record { state = start; words = refl; homes = refl; replay = (none_yet, λ _. refl); nobody = all_one (λ _ u. u.out ≡ None) v refl });
        knows = all_one (λ _ u. Knows entries core cut steps start key.parts [] u) v (inr (record { some_part = pos; start_is = refl; total_is = refl; seen = ([], refl); among = λ g z. refl }));
        parts = omega arith;
        once = λ g. refl;
      }

  pub ends : (key : Start S) (id : ℕ) (v : View S) (words : List ℕ) (xs : List (Option S)) (o : Option S) → v.parts ≡ v.total → v.out ≡ None → 0 < v.parts → get_elem? xs 0 ≡ some o
      → Final (Seen (Rule key) id v) words xs → (x : S) × (o ≡ Some x) × Ended entries core cut steps v x
  ends key id v words xs o whole idle pos got f =
      let s : St = f.0 in let h : Rule key s = f.1.0 in let at : get_elem? s.views id ≡ some v = f.1.1 in let start : S = key.state.value in
      let l = live entries core cut steps start key.parts h.log v pos (h.knows id v at) in
      let others : (j : ℕ) (u : View S) → ¬ (j ≡ id) → get_elem? s.views j ≡ some u → u ≡ spent = λ j u n e. ⊎_elim (λ q. q)
      (λ (k : IsLive entries core cut steps start key.parts h.log u). absurd (let a = two_at (λ (y : View S). y.parts) s.views id j v u at e n in let b = k.some_part in let c = h.parts in let d = l.total_is in omega arith)) (h.knows j u e) in
      let mine : (g : Entry → ℕ) → weigh g v.mine ≡ weigh g h.log = λ g. sym (total_alone (λ (u : View S). weigh g u.mine) s.views id v at (λ j u n e. ap (λ (y : View S). weigh g y.mine) (others j u n e))) ∙ h.once g in
      ⊎_elim
      (λ (p : AtHome entries core cut steps start h.log s).
      let x : S = p.state in
      let home : get_elem? s.homes 0 ≡ some (some (Some x)) = ap (λ hs. get_elem? hs 0) p.homes in
      let is : o ≡ Some x = some-injective o (Some x) (sym got ∙ f.4 0 (Some x) home) in (
        x,
        is,
        record {
          start = start;
          start_is = l.start_is;
          replay = λ n. subst (λ es. Replays steps (core start) es (core x)) (sym p.replay.0) (p.replay.1 n);
          seen = subst (λ es. StartsWith es v.seen) (sym p.replay.0) l.seen;
          ascending = subst Ascending (sym p.replay.0) h.ascending;
          just_mine = λ g. ap (weigh g) p.replay.0 ∙ sym (mine g);
        },
      ))
      (λ (p : IsOut entries core cut steps start h.log s). dite (ℕ_discrete p.holder id)
      (λ e. absurd (not_none entries core cut steps p.state (sym p.noted.2 ∙ ap (λ (u : View S). u.out) (some-injective p.noted.0 v (sym p.noted.1 ∙ ap (get_elem? s.views) e ∙ at)) ∙ idle)))
      (λ n. absurd (not_none entries core cut steps p.state (sym p.noted.2 ∙ ap (λ (u : View S). u.out) (others p.holder p.noted.0 n p.noted.1)))))
      h.placed
