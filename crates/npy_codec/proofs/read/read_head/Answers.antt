use Rattle.std.proofs.Common.{◌≡◌, ◌-◌, ◌*◌, ◌+◌, ◌≤◌, ℕ, ap, arith, refl, ◌∙◌}
use Rattle.std.proofs.lemmas.Result.{err_from_is_err_and}
use Rattle.io_edge.specs.Content.{file_at}
use Rattle.npy_codec.specs.declared.error.NpyError.TheVariants.{ReadFault}
use Rattle.npy_codec.proofs.FrontLemmas.{text_short, data_short, head_read}
use Rattle.io_edge.proofs.GivenLaws.{more_same, more_then, one_more}
use Rattle.npy_codec.proofs.GivenFronts.{faults_given, front_then, head_given, lacking_given, lens_then, refused_then, short_given, text_then}
use Rattle.npy_codec.proofs.read.read_head.Goals as goal

needs_is : (width from n count : ℕ) → from ≡ width → n ≡ count → from * n ≡ width * count
needs_is width from n count e f = ap (λ m. m * n) e ∙ ap (λ m. width * m) f

pub returns-then-has-needs-clause-refused : goal.returns-then-has-needs-clause-refused
returns-then-has-needs-clause-refused g c =
    text_short (file_at (g.S.Store.files c.args.store.now) c.args.file) c.in_ok-front.front.wide c.in_ok-front.front.fixed _ c.in_ok-front.front.len (rw c.len.ensures.same at c.in_ok-front.ensures.value) (ap (λ (s : ℕ). s - c.in_ok-front.front.fixed) c.in_ok-size.ensures.size) c.if-has-needs.true

pub returns-then-has-needs-2-clause-refused : goal.returns-then-has-needs-2-clause-refused
returns-then-has-needs-2-clause-refused g c =
    data_short (file_at (g.S.Store.files c.args.store.now) c.args.file) c.in_ok-head.head _ _ (rw (c.read_fixed.ensures.same ∙ c.len.ensures.same) at c.in_ok-head.ensures.declared) (ap (λ (s : ℕ). s - c.in_ok-head.head.data_at) c.in_ok-size.ensures.size) (needs_is c.in_ok-head.head.width c.from.result c.elements.result _ c.from.ensures c.elements.ensures) c.if-has-needs-2.true

pub returns-clause-head : goal.returns-clause-head
returns-clause-head g c =
    head_read (file_at (g.S.Store.files c.args.store.now) c.args.file) c.in_ok-head.head (rw (c.read_fixed.ensures.same ∙ c.len.ensures.same) at c.in_ok-head.ensures.declared)
    (omega (arith, needs_is c.in_ok-head.head.width c.from.result c.elements.result _ c.from.ensures c.elements.ensures, c.in_ok-front.ensures.long, c.in_ok-size.ensures.size, c.in_ok-head.ensures.at, c.if-has-needs.false, c.if-has-needs-2.false))

pub returns-in_err-size-clause-gave : goal.returns-in_err-size-clause-gave
returns-in_err-size-clause-gave g c = more_same _ _ c.in_err-size.ensures.silent

pub returns-in_err-size-clause-given_refusal : goal.returns-in_err-size-clause-given_refusal
returns-in_err-size-clause-given_refusal g c =
    let p = err_from_is_err_and c.from_residual.result c.from_residual.ensures.1 in
    rw (p.1, p.2) (faults_given (g.S.Store.names c.args.store.now) c.args.file (g.S.Store.gave c.args.store.now) (g.S.Store.gave c.len.new.self) ReadFault tt (more_same _ _ c.in_err-size.ensures.silent))

pub returns-in_err-front-clause-given_refusal : goal.returns-in_err-front-clause-given_refusal
returns-in_err-front-clause-given_refusal g c =
    let p = err_from_is_err_and c.from_residual-in_err-front.result c.from_residual-in_err-front.ensures.1 in
    rw (p.1, p.2) (refused_then (g.S.Store.names c.args.store.now) c.args.file (g.S.Store.gave c.args.store.now) (g.S.Store.gave c.len.new.self) (g.S.Store.gave c.read_fixed.new.store) c.in_ok-size.size _ c.in_ok-size.ensures.gives (rw c.len.ensures.named at c.in_err-front.ensures.given_refusal))

pub returns-then-has-needs-clause-given_refusal : goal.returns-then-has-needs-clause-given_refusal
returns-then-has-needs-clause-given_refusal g c =
    short_given (g.S.Store.names c.args.store.now) c.args.file (g.S.Store.gave c.args.store.now) (g.S.Store.gave c.read_fixed.new.store) c.in_ok-front.front.wide c.in_ok-front.front.fixed c.in_ok-size.size _ c.in_ok-front.front.len refl c.if-has-needs.true
    (lens_then (g.S.Store.names c.args.store.now) c.args.file (g.S.Store.gave c.args.store.now) (g.S.Store.gave c.len.new.self) (g.S.Store.gave c.read_fixed.new.store) c.in_ok-front.front.wide c.in_ok-front.front.fixed c.in_ok-size.size c.in_ok-front.front.len c.in_ok-size.ensures.gives (rw c.len.ensures.named at c.in_ok-front.ensures.given))

pub returns-in_err-head-clause-given_refusal : goal.returns-in_err-head-clause-given_refusal
returns-in_err-head-clause-given_refusal g c =
    let room : c.in_ok-front.front.fixed + c.in_ok-front.front.len ≤ c.in_ok-size.size = omega (arith, c.in_ok-front.ensures.long, c.if-has-needs.false) in
    let p = err_from_is_err_and c.from_residual-in_err-head.result c.from_residual-in_err-head.ensures.1 in
    rw (p.1, p.2) (text_then (g.S.Store.names c.args.store.now) c.args.file (g.S.Store.gave c.args.store.now) (g.S.Store.gave c.read_fixed.new.store) (g.S.Store.gave c.read_text.new.store) c.in_ok-front.front.wide c.in_ok-front.front.fixed c.in_ok-size.size c.in_ok-front.front.len _ room
    (lens_then (g.S.Store.names c.args.store.now) c.args.file (g.S.Store.gave c.args.store.now) (g.S.Store.gave c.len.new.self) (g.S.Store.gave c.read_fixed.new.store) c.in_ok-front.front.wide c.in_ok-front.front.fixed c.in_ok-size.size c.in_ok-front.front.len c.in_ok-size.ensures.gives (rw c.len.ensures.named at c.in_ok-front.ensures.given)) (rw (c.read_fixed.ensures.named, c.len.ensures.named) at c.in_err-head.ensures.given_refusal))

pub returns-then-has-needs-2-clause-given_refusal : goal.returns-then-has-needs-2-clause-given_refusal
returns-then-has-needs-2-clause-given_refusal g c =
    let room : c.in_ok-front.front.fixed + c.in_ok-front.front.len ≤ c.in_ok-size.size = omega (arith, c.in_ok-front.ensures.long, c.if-has-needs.false) in
    lacking_given (g.S.Store.names c.args.store.now) c.args.file (g.S.Store.gave c.args.store.now) (g.S.Store.gave c.read_text.new.store) c.in_ok-size.size _ _ c.in_ok-head.head refl (needs_is c.in_ok-head.head.width c.from.result c.elements.result _ c.from.ensures c.elements.ensures) c.if-has-needs-2.true
    (front_then (g.S.Store.names c.args.store.now) c.args.file (g.S.Store.gave c.args.store.now) (g.S.Store.gave c.read_fixed.new.store) (g.S.Store.gave c.read_text.new.store) c.in_ok-front.front.wide c.in_ok-front.front.fixed c.in_ok-size.size c.in_ok-front.front.len c.in_ok-head.head room
    (lens_then (g.S.Store.names c.args.store.now) c.args.file (g.S.Store.gave c.args.store.now) (g.S.Store.gave c.len.new.self) (g.S.Store.gave c.read_fixed.new.store) c.in_ok-front.front.wide c.in_ok-front.front.fixed c.in_ok-size.size c.in_ok-front.front.len c.in_ok-size.ensures.gives (rw c.len.ensures.named at c.in_ok-front.ensures.given)) (rw (c.read_fixed.ensures.named, c.len.ensures.named) at c.in_ok-head.ensures.given))

pub returns-clause-given : goal.returns-clause-given
returns-clause-given g c =
    let room : c.in_ok-front.front.fixed + c.in_ok-front.front.len ≤ c.in_ok-size.size = omega (arith, c.in_ok-front.ensures.long, c.if-has-needs.false) in
    head_given (g.S.Store.names c.args.store.now) c.args.file (g.S.Store.gave c.args.store.now) (g.S.Store.gave c.read_text.new.store) c.in_ok-size.size c.in_ok-head.head (omega (arith, needs_is c.in_ok-head.head.width c.from.result c.elements.result _ c.from.ensures c.elements.ensures, c.in_ok-front.ensures.long, c.in_ok-head.ensures.at, c.if-has-needs.false, c.if-has-needs-2.false))
    (front_then (g.S.Store.names c.args.store.now) c.args.file (g.S.Store.gave c.args.store.now) (g.S.Store.gave c.read_fixed.new.store) (g.S.Store.gave c.read_text.new.store) c.in_ok-front.front.wide c.in_ok-front.front.fixed c.in_ok-size.size c.in_ok-front.front.len c.in_ok-head.head room
    (lens_then (g.S.Store.names c.args.store.now) c.args.file (g.S.Store.gave c.args.store.now) (g.S.Store.gave c.len.new.self) (g.S.Store.gave c.read_fixed.new.store) c.in_ok-front.front.wide c.in_ok-front.front.fixed c.in_ok-size.size c.in_ok-front.front.len c.in_ok-size.ensures.gives (rw c.len.ensures.named at c.in_ok-front.ensures.given)) (rw (c.read_fixed.ensures.named, c.len.ensures.named) at c.in_ok-head.ensures.given))

pub returns-in_err-front-clause-gave : goal.returns-in_err-front-clause-gave
returns-in_err-front-clause-gave g c = more_then (g.S.Store.gave c.args.store.now) (g.S.Store.gave c.len.new.self) (g.S.Store.gave c.read_fixed.new.store) (one_more (g.S.Store.gave c.args.store.now) (g.S.Store.gave c.args.store.now) (g.S.Store.gave c.len.new.self) _ (more_same _ _ refl) c.in_ok-size.ensures.gives) c.read_fixed.ensures.gave

pub returns-then-has-needs-clause-gave : goal.returns-then-has-needs-clause-gave
returns-then-has-needs-clause-gave g c = more_then (g.S.Store.gave c.args.store.now) (g.S.Store.gave c.len.new.self) (g.S.Store.gave c.read_fixed.new.store) (one_more (g.S.Store.gave c.args.store.now) (g.S.Store.gave c.args.store.now) (g.S.Store.gave c.len.new.self) _ (more_same _ _ refl) c.in_ok-size.ensures.gives) c.read_fixed.ensures.gave

pub returns-in_err-head-clause-gave : goal.returns-in_err-head-clause-gave
returns-in_err-head-clause-gave g c = more_then (g.S.Store.gave c.args.store.now) (g.S.Store.gave c.read_fixed.new.store) (g.S.Store.gave c.read_text.new.store) (more_then (g.S.Store.gave c.args.store.now) (g.S.Store.gave c.len.new.self) (g.S.Store.gave c.read_fixed.new.store) (one_more (g.S.Store.gave c.args.store.now) (g.S.Store.gave c.args.store.now) (g.S.Store.gave c.len.new.self) _ (more_same _ _ refl) c.in_ok-size.ensures.gives) c.read_fixed.ensures.gave) c.read_text.ensures.gave

pub returns-then-has-needs-2-clause-gave : goal.returns-then-has-needs-2-clause-gave
returns-then-has-needs-2-clause-gave g c = more_then (g.S.Store.gave c.args.store.now) (g.S.Store.gave c.read_fixed.new.store) (g.S.Store.gave c.read_text.new.store) (more_then (g.S.Store.gave c.args.store.now) (g.S.Store.gave c.len.new.self) (g.S.Store.gave c.read_fixed.new.store) (one_more (g.S.Store.gave c.args.store.now) (g.S.Store.gave c.args.store.now) (g.S.Store.gave c.len.new.self) _ (more_same _ _ refl) c.in_ok-size.ensures.gives) c.read_fixed.ensures.gave) c.read_text.ensures.gave

pub returns-clause-gave : goal.returns-clause-gave
returns-clause-gave g c = more_then (g.S.Store.gave c.args.store.now) (g.S.Store.gave c.read_fixed.new.store) (g.S.Store.gave c.read_text.new.store) (more_then (g.S.Store.gave c.args.store.now) (g.S.Store.gave c.len.new.self) (g.S.Store.gave c.read_fixed.new.store) (one_more (g.S.Store.gave c.args.store.now) (g.S.Store.gave c.args.store.now) (g.S.Store.gave c.len.new.self) _ (more_same _ _ refl) c.in_ok-size.ensures.gives) c.read_fixed.ensures.gave) c.read_text.ensures.gave
