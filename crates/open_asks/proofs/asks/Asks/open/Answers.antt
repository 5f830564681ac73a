use Rattle.std.proofs.Common.{◌≡◌, ◌<◌, ◌≤◌, ◌∙◌, ◌||◌, ℕ, ap, sym, refl, arith, false, length, get_or}
use Rattle.std.specs.Prelude.{◌==◌, nat_lt}
use Rattle.std.specs.List.{list_any, insert, position_or_len}
use Rattle.std.proofs.lemmas.List.{get_or_past}
use Rattle.std.proofs.Math.Bool.{or_comm}
use Rattle.std.proofs.lemmas.Bool.{false_from_ne_true}
use Rattle.cluster_rules.specs.Worker.{Ask, is_asked_for, names_key, with_ask}
use Rattle.open_asks.proofs.MarkLemmas.{put_in}
use Rattle.open_asks.proofs.AskLemmas.{flying_all, asked-with, with_ask-insert}
use Rattle.open_asks.proofs.asks.Asks.open.Goals as goal

pub invariant_of-self-2 : goal.invariant_of-self-2
invariant_of-self-2 c =
    let a = c.self.inside in
    let v = c.self.invariant in
    let ask : Ask = record { peer = c.args.peer; number = c.args.number; items = c.args.items.items } in
    let kept : c.insert.new.self.items ≡ with_ask ask a.asks.items
    = c.in_ok-insert.ensures.items
    ∙ ap (λ n. insert a.asks.items n c.new.result) (c.place_for-place.ensures.place ∙ ap (position_or_len (λ (b : Ask). nat_lt c.args.peer b.peer)) c.as_slice.ensures.value)
    ∙ ap (λ x. insert a.asks.items (position_or_len (λ (b : Ask). nat_lt c.args.peer b.peer) a.asks.items) x) c.new.ensures
    ∙ with_ask-insert ask a.asks.items in
    let named = rw (← c.self.view_is) at c.requires in
    let place = c.place_for-place.result in
    let within : place ≤ length a.asks.items = omega (arith, c.place_for-place.ensures.within, ap length c.as_slice.ensures.value) in
    let opened : c.index.result.now ≡ ask
    = c.index.ensures ∙ ap (λ xs. get_or xs place c.index.result.now) c.in_ok-insert.ensures.items
    ∙ put_in a.asks.items c.new.result c.index.result.now place (omega arith) ∙ c.new.ensures in
    record {
      flying = flying_all c.mark_items.new.row c.insert.new.self.items (length a.flying) c.mark_items.ensures.length
          (λ k h. c.mark_items.ensures.marked k h
          ∙ ap (λ b. b || list_any (λ (i : ℕ × ℕ). i.0 == k) c.items.result.now) (v.flying k)
          ∙ ap (λ is. is_asked_for a.asks.items k || list_any (λ (i : ℕ × ℕ). i.0 == k) is) (c.items.ensures ∙ ap (λ (x : Ask). x.items) opened)
          ∙ or_comm (is_asked_for a.asks.items k) (names_key k ask) ∙ sym (asked-with ask a.asks.items k) ∙ sym (ap (λ bs. is_asked_for bs k) kept))
          (λ k h. ap (λ bs. is_asked_for bs k) kept ∙ asked-with ask a.asks.items k
          ∙ ap (λ b. b || is_asked_for a.asks.items k) (false_from_ne_true (names_key k ask) (λ e. let l : k < length a.flying = named k e in omega (arith, l, h)))
          ∙ sym (v.flying k) ∙ get_or_past a.flying k false h);
    }

pub returns-clause-ok : goal.returns-clause-ok
returns-clause-ok c =
    let a = c.self.inside in
    let ask : Ask = record { peer = c.args.peer; number = c.args.number; items = c.args.items.items } in
    let kept : c.insert.new.self.items ≡ with_ask ask a.asks.items
    = c.in_ok-insert.ensures.items
    ∙ ap (λ n. insert a.asks.items n c.new.result) (c.place_for-place.ensures.place ∙ ap (position_or_len (λ (b : Ask). nat_lt c.args.peer b.peer)) c.as_slice.ensures.value)
    ∙ ap (λ x. insert a.asks.items (position_or_len (λ (b : Ask). nat_lt c.args.peer b.peer) a.asks.items) x) c.new.ensures
    ∙ with_ask-insert ask a.asks.items in
    rw (← c.self.view_is, kept, c.mark_items.ensures.length) refl
