use Rattle.std.proofs.Common.{◌≡◌, ◌<◌, ◌∙◌, ◌||◌, ◌&&◌, ℕ, Some, None, List, ap, sym, refl, arith, false, true, not, get_or, length}
use Rattle.std.specs.Prelude.{◌==◌, nat_lt}
use Rattle.std.specs.List.{list_any, remove, position_or_len}
use Rattle.std.proofs.lemmas.List.{get_or_past}
use Rattle.std.proofs.lemmas.Bool.{ltb-true}
use Rattle.small_facts.proofs.Options.{cond_some_none}
use Rattle.small_facts.proofs.Truth.{or_second_false}
use Rattle.cluster_rules.specs.Worker.{Ask, is_asked_for, names_key, ask_to}
use Rattle.open_asks.specs.Kept.{without_first}
use Rattle.open_asks.proofs.AskLemmas.{flying_all, place_some}
use Rattle.open_asks.proofs.FirstLemmas.{without_first-remove, found_at, found_none, kept-none, asked-first, place_low}
use Rattle.open_asks.proofs.MarkLemmas.{left_over}
use Rattle.open_asks.proofs.asks.Asks.take.Goals as goal

pub invariant_of-self : goal.invariant_of-self
invariant_of-self c =
    let a = c.self.inside in
    let v = c.self.invariant in
    let bs = a.asks.items in
    let p = c.args.peer in
    let x = c.remove-ask.result in
    let at : c.in-Some.place ≡ position_or_len (λ (b : Ask). b.peer == p) bs = place_some _ _ _ c.in-Some.ensures ∙ ap (position_or_len (λ (b : Ask). b.peer == p)) c.as_slice.ensures.value in
    let low : position_or_len (λ (b : Ask). b.peer == p) bs < length bs
    = ltb-true _ _ (ap (λ (ys : List Ask). nat_lt (position_or_len (λ (b : Ask). b.peer == p) ys) (length ys)) (sym c.as_slice.ensures.value) ∙ place_low _ _ _ c.in-Some.ensures) in
    let found : ask_to bs p ≡ Some x = found_at p bs x low ∙ sym (ap (λ (y : Ask). Some y) (c.remove-ask.ensures.value ∙ ap (λ n. get_or bs n x) at)) in
    let rest : c.remove-ask.new.self.items ≡ without_first bs p = c.remove-ask.ensures.items ∙ ap (remove bs) at ∙ without_first-remove p bs in
    let first : (k : ℕ) → is_asked_for bs k ≡ (names_key k x || is_asked_for (without_first bs p) k) = λ k. asked-first p bs x k found in
    record {
      flying = flying_all c.mark_asked.new.row c.remove-ask.new.self.items (length a.flying) (c.mark_asked.ensures.length ∙ c.unmark_items.ensures.length)
          (λ k h. c.mark_asked.ensures.marked k (omega (arith, h, c.unmark_items.ensures.length))
          ∙ ap (λ (ys : List Ask). get_or c.unmark_items.new.row k false || is_asked_for ys k) (c.as_slice-in-Some.ensures.value ∙ rest)
          ∙ ap (λ b. b || is_asked_for (without_first bs p) k) (c.unmark_items.ensures.marked k h
          ∙ ap (λ b. b && not (list_any (λ (i : ℕ × ℕ). i.0 == k) c.items.result.now)) (v.flying k ∙ first k)
          ∙ ap (λ is. (names_key k x || is_asked_for (without_first bs p) k) && not (list_any (λ (i : ℕ × ℕ). i.0 == k) is)) c.items.ensures)
          ∙ left_over (names_key k x) (is_asked_for (without_first bs p) k) ∙ sym (ap (λ (ys : List Ask). is_asked_for ys k) rest))
          (λ k h. ap (λ (ys : List Ask). is_asked_for ys k) rest ∙ or_second_false (names_key k x) (is_asked_for (without_first bs p) k) (sym (first k) ∙ sym (v.flying k) ∙ get_or_past a.flying k false h));
    }

pub returns-in-Some-clause-ask : goal.returns-in-Some-clause-ask
returns-in-Some-clause-ask c =
    let a = c.self.inside in
    let bs = a.asks.items in
    let p = c.args.peer in
    let x = c.remove-ask.result in
    let at : c.in-Some.place ≡ position_or_len (λ (b : Ask). b.peer == p) bs = place_some _ _ _ c.in-Some.ensures ∙ ap (position_or_len (λ (b : Ask). b.peer == p)) c.as_slice.ensures.value in
    let low : position_or_len (λ (b : Ask). b.peer == p) bs < length bs
    = ltb-true _ _ (ap (λ (ys : List Ask). nat_lt (position_or_len (λ (b : Ask). b.peer == p) ys) (length ys)) (sym c.as_slice.ensures.value) ∙ place_low _ _ _ c.in-Some.ensures) in
    let found : ask_to bs p ≡ Some x = found_at p bs x low ∙ sym (ap (λ (y : Ask). Some y) (c.remove-ask.ensures.value ∙ ap (λ n. get_or bs n x) at)) in
    rw (← c.self.view_is) (sym found)

pub returns-in-Some-clause-rest : goal.returns-in-Some-clause-rest
returns-in-Some-clause-rest c =
    let a = c.self.inside in
    let bs = a.asks.items in
    let p = c.args.peer in
    let at : c.in-Some.place ≡ position_or_len (λ (b : Ask). b.peer == p) bs = place_some _ _ _ c.in-Some.ensures ∙ ap (position_or_len (λ (b : Ask). b.peer == p)) c.as_slice.ensures.value in
    let rest : c.remove-ask.new.self.items ≡ without_first bs p = c.remove-ask.ensures.items ∙ ap (remove bs) at ∙ without_first-remove p bs in
    rw (← c.self.view_is, rest, c.mark_asked.ensures.length, c.unmark_items.ensures.length) refl

pub returns-in-None-clause-ask : goal.returns-in-None-clause-ask
returns-in-None-clause-ask c =
    let a = c.self.inside in
    let bs = a.asks.items in
    let p = c.args.peer in
    let none : ask_to bs p ≡ None = found_none p bs (ap (λ (ys : List Ask). nat_lt (position_or_len (λ (b : Ask). b.peer == p) ys) (length ys)) (sym c.as_slice.ensures.value) ∙ cond_some_none _ _ c.in-None.ensures) in
    rw (← c.self.view_is) (sym none)

pub returns-in-None-clause-rest : goal.returns-in-None-clause-rest
returns-in-None-clause-rest c =
    let a = c.self.inside in
    let bs = a.asks.items in
    let p = c.args.peer in
    let none : ask_to bs p ≡ None = found_none p bs (ap (λ (ys : List Ask). nat_lt (position_or_len (λ (b : Ask). b.peer == p) ys) (length ys)) (sym c.as_slice.ensures.value) ∙ cond_some_none _ _ c.in-None.ensures) in
    rw (← c.self.view_is) (kept-none (length a.flying) p bs none)
