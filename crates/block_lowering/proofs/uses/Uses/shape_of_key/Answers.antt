use Rattle.std.proofs.Common.{◌≡◌, ℕ, List, [], IfOk, get_or, ap, subst, ◌∙◌, arith}
use Rattle.task_graph.specs.Orders.{position}
use Rattle.block_lowering.proofs.UsesZipped.{shape-of}
use Rattle.block_lowering.proofs.uses.Uses.shape_of_key.Goals as goal

pub returns-in-Some : goal.returns-in-Some
returns-in-Some c =
    let s = c.self.inside in
    let at : c.in-Some.shape.now ≡ get_or c.deref.result.now c.place_of_key.result [] = c.in-Some.ensures.lookup.4 (omega arith) [] in
    let key : c.place_of_key.result ≡ position s.keys.items c.args.key = c.place_of_key.ensures ∙ ap (λ (ks : List ℕ). position ks c.args.key) c.as_slice.ensures.value in
    let e =
    at ∙ ap (λ (xs : List (List ℕ)). get_or xs c.place_of_key.result []) c.deref.ensures.value ∙ ap (λ (p : ℕ). get_or s.shapes.items p []) key
    ∙ shape-of s.keys.items s.shapes.items c.args.self.now c.args.key c.self.invariant.same c.self.view_is in
    subst (λ (x : List ℕ). IfOk c.copy.result (λ shape. shape ≡ x)) e c.copy.ensures

pub returns-in-None : goal.returns-in-None
returns-in-None c =
    let s = c.self.inside in
    let at : [] ≡ get_or c.deref.result.now c.place_of_key.result [] = c.in-None.ensures.lookup.4 (omega arith) [] in
    let key : c.place_of_key.result ≡ position s.keys.items c.args.key = c.place_of_key.ensures ∙ ap (λ (ks : List ℕ). position ks c.args.key) c.as_slice.ensures.value in
    c.of.ensures ∙ c.new.ensures.items ∙ at ∙ ap (λ (xs : List (List ℕ)). get_or xs c.place_of_key.result []) c.deref.ensures.value ∙ ap (λ (p : ℕ). get_or s.shapes.items p []) key
    ∙ shape-of s.keys.items s.shapes.items c.args.self.now c.args.key c.self.invariant.same c.self.view_is
