use Rattle.std.proofs.Common.{ℕ, ◌∙◌, refl, ap, sym, length, arith}
use Rattle.std.proofs.lemmas.List.{length_push}
use Rattle.node_states.proofs.StoreLemmas.{heard_more}
use Rattle.node_states.proofs.holding.hear_of.Goals as goal

pub news-init : goal.news-init
news-init g c = record { aside = λ q. refl; heard = λ keys w m room h. h; keys = refl }

pub news-preserved : goal.news-preserved
news-preserved g c =
    let stock = g.S.BlockStore.stock in
    let s = stock c.news.store in
    let t = stock c.tell.new.self in
    let was = c.news.invariant in
    record {
      aside = λ q. c.in-Some.ensures.aside q ∙ was.aside q;
      heard = λ keys w m room h. heard_more s t c.news.known c.add.new.self c.in-Some.key c.in-Some.ensures c.add.ensures.marks keys w m (let e = was.keys in omega (arith, room)) (was.heard keys w m room h);
      keys = c.add.ensures.keys ∙ was.keys;
    }

pub news-smaller : goal.news-smaller
news-smaller g c =
    let stock = g.S.BlockStore.stock in
    omega (arith, ap length c.in-Some.ensures.one, length_push (stock c.tell.new.self).news c.in-Some.key)

pub returns-clause-told : goal.returns-clause-told
returns-clause-told g c = c.in_default.ensures.same.news ∙ c.in_default.ensures.all

pub returns-clause-aside : goal.returns-clause-aside
returns-clause-aside g c = λ q. c.in_default.ensures.same.aside q ∙ c.news.invariant.aside q
