use Rattle.std.proofs.Common.{◌≡◌, ◌∙◌, ◌||◌, ◌&&◌, List, ap, sym, refl, rules, arith, false, not, length, get_or}
use Rattle.std.specs.List.{list_any}
use Rattle.std.specs.Prelude.{◌==◌}
use Rattle.std.proofs.lemmas.Fn.{filter_same}
use Rattle.std.proofs.lemmas.List.{get_or_past}
use Rattle.cluster_rules.specs.Worker.{Ask, is_asked_for, without_ask}
use Rattle.open_asks.specs.Flying.{names_to}
use Rattle.open_asks.proofs.MarkLemmas.{asked-split, left_over}
use Rattle.open_asks.proofs.AskLemmas.{flying_all, asked-without}
use Rattle.open_asks.proofs.asks.Asks.close.Goals as goal

pub invariant_of-self : goal.invariant_of-self
invariant_of-self c =
    let a = c.self.inside in
    let v = c.self.invariant in
    let kept : c.retain.new.self.items ≡ without_ask a.asks.items c.args.peer = filter_same _ (λ (b : Ask). not (b.peer == c.args.peer)) _ (λ x b f' k. search rules) _ _ c.retain.ensures.filtered in
    record {
      flying = flying_all c.mark_asked.new.row c.retain.new.self.items (length a.flying) (c.mark_asked.ensures.length ∙ c.unmark_asked.ensures.length)
          (λ k h. c.mark_asked.ensures.marked k (omega (arith, h, c.unmark_asked.ensures.length))
          ∙ ap (λ (bs : List Ask). get_or c.unmark_asked.new.row k false || is_asked_for bs k) (c.as_slice-2.ensures.value ∙ kept)
          ∙ ap (λ b. b || is_asked_for (without_ask a.asks.items c.args.peer) k) (c.unmark_asked.ensures.marked k h
          ∙ ap (λ b. b && not (list_any (names_to c.args.peer k) c.as_slice.result.now)) (v.flying k ∙ asked-split a.asks.items c.args.peer k)
          ∙ ap (λ (bs : List Ask). (list_any (names_to c.args.peer k) a.asks.items || is_asked_for (without_ask a.asks.items c.args.peer) k) && not (list_any (names_to c.args.peer k) bs)) c.as_slice.ensures.value)
          ∙ left_over (list_any (names_to c.args.peer k) a.asks.items) (is_asked_for (without_ask a.asks.items c.args.peer) k) ∙ sym (ap (λ (bs : List Ask). is_asked_for bs k) kept))
          (λ k h. ap (λ bs. is_asked_for bs k) kept ∙ asked-without a.asks.items c.args.peer k (sym (v.flying k) ∙ get_or_past a.flying k false h));
    }

pub returns : goal.returns
returns c =
    let a = c.self.inside in
    let kept : c.retain.new.self.items ≡ without_ask a.asks.items c.args.peer = filter_same _ (λ (b : Ask). not (b.peer == c.args.peer)) _ (λ x b f' k. search rules) _ _ c.retain.ensures.filtered in
    rw (← c.self.view_is, kept, c.mark_asked.ensures.length, c.unmark_asked.ensures.length) refl
