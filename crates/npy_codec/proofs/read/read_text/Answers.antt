use Rattle.std.proofs.Common.{◌≡◌, List, ℕ, length, take, drop, ap, sym, subst, ◌∙◌}
use Rattle.std.proofs.lemmas.Result.{err_from_is_err_and}
use Rattle.io_edge.specs.Content.{file_at, OnTold}
use Rattle.npy_codec.proofs.FrontLemmas.{text_heads, text_errors, text_at, text_width}
use Rattle.npy_codec.proofs.GivenFronts.{heads_given, text_faults, text_given}
use Rattle.npy_codec.proofs.read.read_text.Goals as goal

pub returns-clause-at : goal.returns-clause-at
returns-clause-at g c = text_at c.deref.result.now c.args.front.now.wide c.args.front.now.fixed c.args.front.now.len c.head_of_text.result (ap length c.deref.ensures.value ∙ c.in_ok-text.ensures.size) c.head_of_text.ensures.declared

pub returns-clause-width : goal.returns-clause-width
returns-clause-width g c = text_width c.deref.result.now c.args.front.now.wide c.args.front.now.fixed c.head_of_text.result c.head_of_text.ensures.declared

pub returns-clause-declared : goal.returns-clause-declared
returns-clause-declared g c =
    let file = file_at (g.S.Store.files c.args.store.now) c.args.file in
    let text = subst (λ (t : List ℕ). OnTold file (λ bytes. t ≡ take c.args.front.now.len (drop c.args.front.now.fixed bytes))) (sym c.deref.ensures.value) c.in_ok-text.ensures.part in
    text_heads file c.deref.result.now c.args.front.now.wide c.args.front.now.fixed c.args.front.now.len c.head_of_text.result c.requires.value c.requires.room text c.head_of_text.ensures.declared

pub returns-clause-refused : goal.returns-clause-refused
returns-clause-refused g c =
    let file = file_at (g.S.Store.files c.args.store.now) c.args.file in
    let text = subst (λ (t : List ℕ). OnTold file (λ bytes. t ≡ take c.args.front.now.len (drop c.args.front.now.fixed bytes))) (sym c.deref.ensures.value) c.in_ok-text.ensures.part in
    text_errors file c.deref.result.now c.args.front.now.wide c.args.front.now.fixed c.args.front.now.len c.head_of_text.result c.requires.value c.requires.room text c.head_of_text.ensures.refused

pub returns-clause-given : goal.returns-clause-given
returns-clause-given g c =
    heads_given (g.S.Store.names c.args.store.now) c.args.file (g.S.Store.gave c.args.store.now) (g.S.Store.gave c.read_part.new.store) c.in_ok-text.text.items c.deref.result.now c.args.front.now.wide c.args.front.now.fixed c.args.front.now.len c.head_of_text.result
    c.deref.ensures.value c.head_of_text.ensures.declared c.in_ok-text.ensures.given

pub returns-clause-given_refusal : goal.returns-clause-given_refusal
returns-clause-given_refusal g c =
    text_given (g.S.Store.names c.args.store.now) c.args.file (g.S.Store.gave c.args.store.now) (g.S.Store.gave c.read_part.new.store) c.in_ok-text.text.items c.deref.result.now c.args.front.now.wide c.args.front.now.fixed c.args.front.now.len c.head_of_text.result
    c.deref.ensures.value c.head_of_text.ensures.refused c.in_ok-text.ensures.given

pub returns-in_err-text-clause-given_refusal : goal.returns-in_err-text-clause-given_refusal
returns-in_err-text-clause-given_refusal g c =
    let p = err_from_is_err_and c.from_residual.result c.from_residual.ensures.1 in
    rw (p.1, p.2) (text_faults (g.S.Store.names c.args.store.now) c.args.file (g.S.Store.gave c.args.store.now) (g.S.Store.gave c.read_part.new.store) c.args.front.now.wide c.args.front.now.fixed c.args.front.now.len _ c.in_err-text.ensures.cause c.read_part.ensures.gave)
