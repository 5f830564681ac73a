use Rattle.plain_eval.proofs.contraction.woven_element.Goals as goal

pub element_of-requires-clause-inside : goal.element_of-requires-clause-inside
element_of-requires-clause-inside c = rw (c.index_woven.ensures, c.dims_of-dims.ensures.value) c.requires.inside
