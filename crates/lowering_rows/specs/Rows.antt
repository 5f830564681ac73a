-- Small jobs, and the graphs that they are lowered to, by an outside reference that was written from the rules.
use Rattle.std.specs.Prelude.{ℕ, List, [], ◌∷◌, map, Some, None, pos, negsuc}
use Rattle.nd_shape.specs.declared.chunk.ChunkSpec.TheVariants.{Even, List as Listed}
use Rattle.nd_shape.specs.declared.slice.Part.TheVariants.{Range}
use Rattle.nd_grid.specs.declared.operation.Binary.TheVariants.{Add, FloorDiv}
use Rattle.nd_grid.specs.declared.operation.Fold.TheVariants.{Sum}
use Rattle.array_expr.specs.declared.op.Op.TheVariants.{Input, Full, Ramp, Elementwise, Where, Slice, Transpose, Rechunk, Concatenate, Reduce, Tensordot}
use Rattle.array_expr.specs.declared.expr.Node.{Node}
use Rattle.block_kernels.specs.declared.spec.Operand.TheVariants.{Input as Place, Number}
use Rattle.block_kernels.specs.declared.spec.Spec.TheVariants as kernels
use Rattle.cluster_msgs.specs.Shape.{total_length}
use Rattle.task_graph.specs.declared.graph.Task.{Task}
use Rattle.lowering_laws.specs.Lowered.{Lowered}

-- how many dependencies all tasks have together
abbrev pub edges : List Task → ℕ
edges tasks = total_length (map (λ (t : Task). t.deps) tasks)

-- input a "a.npy" shape (3) chunks (2)
-- let b = a + 1
-- save b "out.npy"
abbrev pub added_number : List Node
added_number =
    (record { op = Input (3 ∷ []) ((Even 2) ∷ []); shape = (3 ∷ []); taken = [] }
    ∷ record { op = Full [] (pos 1) []; shape = []; taken = [] }
    ∷ record { op = Elementwise Add 0 1; shape = (3 ∷ []); taken = [] } ∷ [])

abbrev pub added_number_graph : Lowered
added_number_graph =
    record {
      tasks = ((record { spec = kernels.Load 0 (record { start = (0 ∷ []); lengths = (2 ∷ []) }); deps = []; work = 16; nbytes = 16 })
          ∷ (record { spec = kernels.Elementwise Add (Place 0) (Number (pos 1)) ((2 ∷ []) ∷ []) (2 ∷ []); deps = (0 ∷ []); work = 32; nbytes = 16 })
          ∷ (record { spec = kernels.Load 0 (record { start = (2 ∷ []); lengths = (1 ∷ []) }); deps = []; work = 8; nbytes = 8 })
          ∷ (record { spec = kernels.Elementwise Add (Place 0) (Number (pos 1)) ((1 ∷ []) ∷ []) (1 ∷ []); deps = (2 ∷ []); work = 16; nbytes = 8 }) ∷ []);
      names = ((Some (0, 0)) ∷ (Some (2, 0)) ∷ (Some (0, 1)) ∷ (Some (2, 1)) ∷ []);
      saved = ((1 ∷ 3 ∷ []) ∷ []);
    }

-- input x "x.npy" shape (4) chunks (2)
-- input d "d.npy" shape (4) chunks (2)
-- let q = x // d
-- let r = q[2:4]
-- save r "o.npy"
abbrev pub culled_division : List Node
culled_division =
    (record { op = Input (4 ∷ []) ((Even 2) ∷ []); shape = (4 ∷ []); taken = [] }
    ∷ record { op = Input (4 ∷ []) ((Even 2) ∷ []); shape = (4 ∷ []); taken = [] }
    ∷ record { op = Elementwise FloorDiv 0 1; shape = (4 ∷ []); taken = [] }
    ∷ record { op = Slice 2 ((Range (Some (pos 2)) (Some (pos 4)) None) ∷ []); shape = (2 ∷ []); taken = ((record { start = 2; step = (pos 1); count = 2 }) ∷ []) } ∷ [])

abbrev pub culled_division_graph : Lowered
culled_division_graph =
    record {
      tasks = ((record { spec = kernels.Load 0 (record { start = (2 ∷ []); lengths = (2 ∷ []) }); deps = []; work = 16; nbytes = 16 })
          ∷ (record { spec = kernels.Load 1 (record { start = (2 ∷ []); lengths = (2 ∷ []) }); deps = []; work = 16; nbytes = 16 })
          ∷ (record { spec = kernels.Elementwise FloorDiv (Place 0) (Place 1) ((2 ∷ []) ∷ (2 ∷ []) ∷ []) (2 ∷ []); deps = (0 ∷ 1 ∷ []); work = 48; nbytes = 16 })
          ∷ (record { spec = kernels.Slice ((record { start = 0; step = (pos 1); count = 2 }) ∷ []) [] (2 ∷ []); deps = (2 ∷ []); work = 32; nbytes = 16 }) ∷ []);
      names = ((Some (0, 1)) ∷ (Some (1, 1)) ∷ (Some (2, 1)) ∷ (Some (3, 0)) ∷ []);
      saved = ((3 ∷ []) ∷ []);
    }

-- input x "x.npy" shape (4) chunks (2)
-- input d "d.npy" shape (4) chunks (2)
-- let q = x // d
-- let r = q[5:2]
-- save r "o.npy"
abbrev pub empty_slice : List Node
empty_slice =
    (record { op = Input (4 ∷ []) ((Even 2) ∷ []); shape = (4 ∷ []); taken = [] }
    ∷ record { op = Input (4 ∷ []) ((Even 2) ∷ []); shape = (4 ∷ []); taken = [] }
    ∷ record { op = Elementwise FloorDiv 0 1; shape = (4 ∷ []); taken = [] }
    ∷ record { op = Slice 2 ((Range (Some (pos 5)) (Some (pos 2)) None) ∷ []); shape = (0 ∷ []); taken = ((record { start = 0; step = (pos 1); count = 0 }) ∷ []) } ∷ [])

abbrev pub empty_slice_graph : Lowered
empty_slice_graph =
    record {
      tasks = ((record { spec = kernels.Load 0 (record { start = (0 ∷ []); lengths = (2 ∷ []) }); deps = []; work = 16; nbytes = 16 })
          ∷ (record { spec = kernels.Load 1 (record { start = (0 ∷ []); lengths = (2 ∷ []) }); deps = []; work = 16; nbytes = 16 })
          ∷ (record { spec = kernels.Elementwise FloorDiv (Place 0) (Place 1) ((2 ∷ []) ∷ (2 ∷ []) ∷ []) (2 ∷ []); deps = (0 ∷ 1 ∷ []); work = 48; nbytes = 16 })
          ∷ (record { spec = kernels.Slice ((record { start = 0; step = (pos 1); count = 0 }) ∷ []) [] (2 ∷ []); deps = (2 ∷ []); work = 16; nbytes = 0 }) ∷ []);
      names = ((Some (0, 0)) ∷ (Some (1, 0)) ∷ (Some (2, 0)) ∷ (Some (3, 0)) ∷ []);
      saved = ((3 ∷ []) ∷ []);
    }

-- input x "x.npy" shape (5) chunks (2)
-- let r = x[::-2]
-- save r "o.npy"
abbrev pub backward_slice : List Node
backward_slice =
    (record { op = Input (5 ∷ []) ((Even 2) ∷ []); shape = (5 ∷ []); taken = [] }
    ∷ record { op = Slice 0 ((Range None None (Some (negsuc 1))) ∷ []); shape = (3 ∷ []); taken = ((record { start = 4; step = (negsuc 1); count = 3 }) ∷ []) } ∷ [])

abbrev pub backward_slice_graph : Lowered
backward_slice_graph =
    record {
      tasks = ((record { spec = kernels.Load 0 (record { start = (4 ∷ []); lengths = (1 ∷ []) }); deps = []; work = 8; nbytes = 8 })
          ∷ (record { spec = kernels.Slice ((record { start = 0; step = (negsuc 1); count = 1 }) ∷ []) [] (1 ∷ []); deps = (0 ∷ []); work = 16; nbytes = 8 })
          ∷ (record { spec = kernels.Load 0 (record { start = (2 ∷ []); lengths = (2 ∷ []) }); deps = []; work = 16; nbytes = 16 })
          ∷ (record { spec = kernels.Slice ((record { start = 0; step = (negsuc 1); count = 1 }) ∷ []) [] (2 ∷ []); deps = (2 ∷ []); work = 24; nbytes = 8 })
          ∷ (record { spec = kernels.Load 0 (record { start = (0 ∷ []); lengths = (2 ∷ []) }); deps = []; work = 16; nbytes = 16 })
          ∷ (record { spec = kernels.Slice ((record { start = 0; step = (negsuc 1); count = 1 }) ∷ []) [] (2 ∷ []); deps = (4 ∷ []); work = 24; nbytes = 8 }) ∷ []);
      names = ((Some (0, 2)) ∷ (Some (1, 0)) ∷ (Some (0, 1)) ∷ (Some (1, 1)) ∷ (Some (0, 0)) ∷ (Some (1, 2)) ∷ []);
      saved = ((1 ∷ 3 ∷ 5 ∷ []) ∷ []);
    }

-- input x "x.npy" shape (5) chunks (2)
-- let r = x[5:2]
-- save r "o.npy"
abbrev pub slice_of_nothing : List Node
slice_of_nothing =
    (record { op = Input (5 ∷ []) ((Even 2) ∷ []); shape = (5 ∷ []); taken = [] }
    ∷ record { op = Slice 0 ((Range (Some (pos 5)) (Some (pos 2)) None) ∷ []); shape = (0 ∷ []); taken = ((record { start = 0; step = (pos 1); count = 0 }) ∷ []) } ∷ [])

abbrev pub slice_of_nothing_graph : Lowered
slice_of_nothing_graph =
    record {
      tasks = ((record { spec = kernels.Load 0 (record { start = (0 ∷ []); lengths = (2 ∷ []) }); deps = []; work = 16; nbytes = 16 })
          ∷ (record { spec = kernels.Slice ((record { start = 0; step = (pos 1); count = 0 }) ∷ []) [] (2 ∷ []); deps = (0 ∷ []); work = 16; nbytes = 0 }) ∷ []);
      names = ((Some (0, 0)) ∷ (Some (1, 0)) ∷ []);
      saved = ((1 ∷ []) ∷ []);
    }

-- input a "a.npy" shape (2, 3) chunks (1, 2)
-- input b "b.npy" shape (3, 2) chunks (2, 1)
-- let c = tensordot(a, b, (1), (0))
-- save c "o.npy"
abbrev pub product : List Node
product =
    (record { op = Input (2 ∷ 3 ∷ []) ((Even 1) ∷ (Even 2) ∷ []); shape = (2 ∷ 3 ∷ []); taken = [] }
    ∷ record { op = Input (3 ∷ 2 ∷ []) ((Even 2) ∷ (Even 1) ∷ []); shape = (3 ∷ 2 ∷ []); taken = [] }
    ∷ record { op = Tensordot 0 1 (1 ∷ []) (0 ∷ []); shape = (2 ∷ 2 ∷ []); taken = [] } ∷ [])

abbrev pub product_graph : Lowered
product_graph =
    record {
      tasks = ((record { spec = kernels.Load 0 (record { start = (0 ∷ 0 ∷ []); lengths = (1 ∷ 2 ∷ []) }); deps = []; work = 16; nbytes = 16 })
          ∷ (record { spec = kernels.Load 1 (record { start = (0 ∷ 0 ∷ []); lengths = (2 ∷ 1 ∷ []) }); deps = []; work = 16; nbytes = 16 })
          ∷ (record { spec = kernels.Contract 0 1 (1 ∷ []) (0 ∷ []) ((1 ∷ 2 ∷ []) ∷ (2 ∷ 1 ∷ []) ∷ []); deps = (0 ∷ 1 ∷ []); work = 40; nbytes = 8 })
          ∷ (record { spec = kernels.Load 0 (record { start = (0 ∷ 2 ∷ []); lengths = (1 ∷ 1 ∷ []) }); deps = []; work = 8; nbytes = 8 })
          ∷ (record { spec = kernels.Load 1 (record { start = (2 ∷ 0 ∷ []); lengths = (1 ∷ 1 ∷ []) }); deps = []; work = 8; nbytes = 8 })
          ∷ (record { spec = kernels.Contract 0 1 (1 ∷ []) (0 ∷ []) ((1 ∷ 1 ∷ []) ∷ (1 ∷ 1 ∷ []) ∷ []); deps = (3 ∷ 4 ∷ []); work = 24; nbytes = 8 })
          ∷ (record { spec = kernels.Reduce Sum [] ((1 ∷ 1 ∷ []) ∷ (1 ∷ 1 ∷ []) ∷ []); deps = (2 ∷ 5 ∷ []); work = 24; nbytes = 8 })
          ∷ (record { spec = kernels.Load 1 (record { start = (0 ∷ 1 ∷ []); lengths = (2 ∷ 1 ∷ []) }); deps = []; work = 16; nbytes = 16 })
          ∷ (record { spec = kernels.Contract 0 1 (1 ∷ []) (0 ∷ []) ((1 ∷ 2 ∷ []) ∷ (2 ∷ 1 ∷ []) ∷ []); deps = (0 ∷ 7 ∷ []); work = 40; nbytes = 8 })
          ∷ (record { spec = kernels.Load 1 (record { start = (2 ∷ 1 ∷ []); lengths = (1 ∷ 1 ∷ []) }); deps = []; work = 8; nbytes = 8 })
          ∷ (record { spec = kernels.Contract 0 1 (1 ∷ []) (0 ∷ []) ((1 ∷ 1 ∷ []) ∷ (1 ∷ 1 ∷ []) ∷ []); deps = (3 ∷ 9 ∷ []); work = 24; nbytes = 8 })
          ∷ (record { spec = kernels.Reduce Sum [] ((1 ∷ 1 ∷ []) ∷ (1 ∷ 1 ∷ []) ∷ []); deps = (8 ∷ 10 ∷ []); work = 24; nbytes = 8 })
          ∷ (record { spec = kernels.Load 0 (record { start = (1 ∷ 0 ∷ []); lengths = (1 ∷ 2 ∷ []) }); deps = []; work = 16; nbytes = 16 })
          ∷ (record { spec = kernels.Contract 1 0 (1 ∷ []) (0 ∷ []) ((2 ∷ 1 ∷ []) ∷ (1 ∷ 2 ∷ []) ∷ []); deps = (1 ∷ 12 ∷ []); work = 40; nbytes = 8 })
          ∷ (record { spec = kernels.Load 0 (record { start = (1 ∷ 2 ∷ []); lengths = (1 ∷ 1 ∷ []) }); deps = []; work = 8; nbytes = 8 })
          ∷ (record { spec = kernels.Contract 1 0 (1 ∷ []) (0 ∷ []) ((1 ∷ 1 ∷ []) ∷ (1 ∷ 1 ∷ []) ∷ []); deps = (4 ∷ 14 ∷ []); work = 24; nbytes = 8 })
          ∷ (record { spec = kernels.Reduce Sum [] ((1 ∷ 1 ∷ []) ∷ (1 ∷ 1 ∷ []) ∷ []); deps = (13 ∷ 15 ∷ []); work = 24; nbytes = 8 })
          ∷ (record { spec = kernels.Contract 1 0 (1 ∷ []) (0 ∷ []) ((2 ∷ 1 ∷ []) ∷ (1 ∷ 2 ∷ []) ∷ []); deps = (7 ∷ 12 ∷ []); work = 40; nbytes = 8 })
          ∷ (record { spec = kernels.Contract 1 0 (1 ∷ []) (0 ∷ []) ((1 ∷ 1 ∷ []) ∷ (1 ∷ 1 ∷ []) ∷ []); deps = (9 ∷ 14 ∷ []); work = 24; nbytes = 8 })
          ∷ (record { spec = kernels.Reduce Sum [] ((1 ∷ 1 ∷ []) ∷ (1 ∷ 1 ∷ []) ∷ []); deps = (17 ∷ 18 ∷ []); work = 24; nbytes = 8 }) ∷ []);
      names = ((Some (0, 0)) ∷ (Some (1, 0)) ∷ None ∷ (Some (0, 1)) ∷ (Some (1, 2)) ∷ None ∷ (Some (2, 0)) ∷ (Some (1, 1)) ∷ None ∷ (Some (1, 3)) ∷ None ∷ (Some (2, 1)) ∷ (Some (0, 2)) ∷ None ∷ (Some (0, 3)) ∷ None ∷ (Some (2, 2)) ∷ None ∷ None ∷ (Some (2, 3)) ∷ []);
      saved = ((6 ∷ 11 ∷ 16 ∷ 19 ∷ []) ∷ []);
    }

-- let s = sum(ramp((10), 0, 1, (1)))
-- save s "o.npy"
abbrev pub tree_of_ten : List Node
tree_of_ten =
    (record { op = Ramp (10 ∷ []) (pos 0) (pos 1) ((Even 1) ∷ []); shape = (10 ∷ []); taken = [] }
    ∷ record { op = Reduce Sum 0 None 4; shape = []; taken = [] } ∷ [])

abbrev pub tree_of_ten_graph : Lowered
tree_of_ten_graph =
    record {
      tasks = ((record { spec = kernels.Fill (10 ∷ []) (record { start = (0 ∷ []); lengths = (1 ∷ []) }) (pos 0) (pos 1); deps = []; work = 8; nbytes = 8 })
          ∷ (record { spec = kernels.Reduce Sum (0 ∷ []) ((1 ∷ []) ∷ []); deps = (0 ∷ []); work = 16; nbytes = 8 })
          ∷ (record { spec = kernels.Fill (10 ∷ []) (record { start = (1 ∷ []); lengths = (1 ∷ []) }) (pos 0) (pos 1); deps = []; work = 8; nbytes = 8 })
          ∷ (record { spec = kernels.Reduce Sum (0 ∷ []) ((1 ∷ []) ∷ []); deps = (2 ∷ []); work = 16; nbytes = 8 })
          ∷ (record { spec = kernels.Fill (10 ∷ []) (record { start = (2 ∷ []); lengths = (1 ∷ []) }) (pos 0) (pos 1); deps = []; work = 8; nbytes = 8 })
          ∷ (record { spec = kernels.Reduce Sum (0 ∷ []) ((1 ∷ []) ∷ []); deps = (4 ∷ []); work = 16; nbytes = 8 })
          ∷ (record { spec = kernels.Fill (10 ∷ []) (record { start = (3 ∷ []); lengths = (1 ∷ []) }) (pos 0) (pos 1); deps = []; work = 8; nbytes = 8 })
          ∷ (record { spec = kernels.Reduce Sum (0 ∷ []) ((1 ∷ []) ∷ []); deps = (6 ∷ []); work = 16; nbytes = 8 })
          ∷ (record { spec = kernels.Reduce Sum [] ([] ∷ [] ∷ [] ∷ [] ∷ []); deps = (1 ∷ 3 ∷ 5 ∷ 7 ∷ []); work = 40; nbytes = 8 })
          ∷ (record { spec = kernels.Fill (10 ∷ []) (record { start = (4 ∷ []); lengths = (1 ∷ []) }) (pos 0) (pos 1); deps = []; work = 8; nbytes = 8 })
          ∷ (record { spec = kernels.Reduce Sum (0 ∷ []) ((1 ∷ []) ∷ []); deps = (9 ∷ []); work = 16; nbytes = 8 })
          ∷ (record { spec = kernels.Fill (10 ∷ []) (record { start = (5 ∷ []); lengths = (1 ∷ []) }) (pos 0) (pos 1); deps = []; work = 8; nbytes = 8 })
          ∷ (record { spec = kernels.Reduce Sum (0 ∷ []) ((1 ∷ []) ∷ []); deps = (11 ∷ []); work = 16; nbytes = 8 })
          ∷ (record { spec = kernels.Fill (10 ∷ []) (record { start = (6 ∷ []); lengths = (1 ∷ []) }) (pos 0) (pos 1); deps = []; work = 8; nbytes = 8 })
          ∷ (record { spec = kernels.Reduce Sum (0 ∷ []) ((1 ∷ []) ∷ []); deps = (13 ∷ []); work = 16; nbytes = 8 })
          ∷ (record { spec = kernels.Fill (10 ∷ []) (record { start = (7 ∷ []); lengths = (1 ∷ []) }) (pos 0) (pos 1); deps = []; work = 8; nbytes = 8 })
          ∷ (record { spec = kernels.Reduce Sum (0 ∷ []) ((1 ∷ []) ∷ []); deps = (15 ∷ []); work = 16; nbytes = 8 })
          ∷ (record { spec = kernels.Reduce Sum [] ([] ∷ [] ∷ [] ∷ [] ∷ []); deps = (10 ∷ 12 ∷ 14 ∷ 16 ∷ []); work = 40; nbytes = 8 })
          ∷ (record { spec = kernels.Fill (10 ∷ []) (record { start = (8 ∷ []); lengths = (1 ∷ []) }) (pos 0) (pos 1); deps = []; work = 8; nbytes = 8 })
          ∷ (record { spec = kernels.Reduce Sum (0 ∷ []) ((1 ∷ []) ∷ []); deps = (18 ∷ []); work = 16; nbytes = 8 })
          ∷ (record { spec = kernels.Fill (10 ∷ []) (record { start = (9 ∷ []); lengths = (1 ∷ []) }) (pos 0) (pos 1); deps = []; work = 8; nbytes = 8 })
          ∷ (record { spec = kernels.Reduce Sum (0 ∷ []) ((1 ∷ []) ∷ []); deps = (20 ∷ []); work = 16; nbytes = 8 })
          ∷ (record { spec = kernels.Reduce Sum [] ([] ∷ [] ∷ []); deps = (19 ∷ 21 ∷ []); work = 24; nbytes = 8 })
          ∷ (record { spec = kernels.Reduce Sum [] ([] ∷ [] ∷ [] ∷ []); deps = (8 ∷ 17 ∷ 22 ∷ []); work = 32; nbytes = 8 }) ∷ []);
      names = ((Some (0, 0)) ∷ None ∷ (Some (0, 1)) ∷ None ∷ (Some (0, 2)) ∷ None ∷ (Some (0, 3)) ∷ None ∷ None ∷ (Some (0, 4)) ∷ None ∷ (Some (0, 5)) ∷ None ∷ (Some (0, 6)) ∷ None ∷ (Some (0, 7)) ∷ None ∷ None ∷ (Some (0, 8)) ∷ None ∷ (Some (0, 9)) ∷ None ∷ None ∷ (Some (1, 0)) ∷ []);
      saved = ((23 ∷ []) ∷ []);
    }

-- let x = ramp((6), 0, 1, (2))
-- let w = where(ramp((6), 0, 1, (3)), x, x)
-- save w "o.npy"
abbrev pub chunks_of_a_choice : List Node
chunks_of_a_choice =
    (record { op = Ramp (6 ∷ []) (pos 0) (pos 1) ((Even 2) ∷ []); shape = (6 ∷ []); taken = [] }
    ∷ record { op = Ramp (6 ∷ []) (pos 0) (pos 1) ((Even 3) ∷ []); shape = (6 ∷ []); taken = [] }
    ∷ record { op = Where 1 0 0; shape = (6 ∷ []); taken = [] } ∷ [])

abbrev pub chunks_of_a_choice_graph : Lowered
chunks_of_a_choice_graph =
    record {
      tasks = ((record { spec = kernels.Fill (6 ∷ []) (record { start = (0 ∷ []); lengths = (3 ∷ []) }) (pos 0) (pos 1); deps = []; work = 24; nbytes = 24 })
          ∷ (record { spec = kernels.Assemble ((record { source = 0; from = (record { start = (0 ∷ []); lengths = (2 ∷ []) }); to = (record { start = (0 ∷ []); lengths = (2 ∷ []) }) }) ∷ []) ((3 ∷ []) ∷ []) (2 ∷ []); deps = (0 ∷ []); work = 40; nbytes = 16 })
          ∷ (record { spec = kernels.Fill (6 ∷ []) (record { start = (0 ∷ []); lengths = (2 ∷ []) }) (pos 0) (pos 1); deps = []; work = 16; nbytes = 16 })
          ∷ (record { spec = kernels.Assemble ((record { source = 0; from = (record { start = (0 ∷ []); lengths = (2 ∷ []) }); to = (record { start = (0 ∷ []); lengths = (2 ∷ []) }) }) ∷ []) ((2 ∷ []) ∷ []) (2 ∷ []); deps = (2 ∷ []); work = 32; nbytes = 16 })
          ∷ (record { spec = kernels.Assemble ((record { source = 0; from = (record { start = (0 ∷ []); lengths = (2 ∷ []) }); to = (record { start = (0 ∷ []); lengths = (2 ∷ []) }) }) ∷ []) ((2 ∷ []) ∷ []) (2 ∷ []); deps = (2 ∷ []); work = 32; nbytes = 16 })
          ∷ (record { spec = kernels.Where (Place 0) (Place 1) (Place 2) ((2 ∷ []) ∷ (2 ∷ []) ∷ (2 ∷ []) ∷ []) (2 ∷ []); deps = (1 ∷ 3 ∷ 4 ∷ []); work = 64; nbytes = 16 })
          ∷ (record { spec = kernels.Assemble ((record { source = 0; from = (record { start = (2 ∷ []); lengths = (1 ∷ []) }); to = (record { start = (0 ∷ []); lengths = (1 ∷ []) }) }) ∷ []) ((3 ∷ []) ∷ []) (1 ∷ []); deps = (0 ∷ []); work = 32; nbytes = 8 })
          ∷ (record { spec = kernels.Fill (6 ∷ []) (record { start = (2 ∷ []); lengths = (2 ∷ []) }) (pos 0) (pos 1); deps = []; work = 16; nbytes = 16 })
          ∷ (record { spec = kernels.Assemble ((record { source = 0; from = (record { start = (0 ∷ []); lengths = (1 ∷ []) }); to = (record { start = (0 ∷ []); lengths = (1 ∷ []) }) }) ∷ []) ((2 ∷ []) ∷ []) (1 ∷ []); deps = (7 ∷ []); work = 24; nbytes = 8 })
          ∷ (record { spec = kernels.Assemble ((record { source = 0; from = (record { start = (0 ∷ []); lengths = (1 ∷ []) }); to = (record { start = (0 ∷ []); lengths = (1 ∷ []) }) }) ∷ []) ((2 ∷ []) ∷ []) (1 ∷ []); deps = (7 ∷ []); work = 24; nbytes = 8 })
          ∷ (record { spec = kernels.Where (Place 0) (Place 1) (Place 2) ((1 ∷ []) ∷ (1 ∷ []) ∷ (1 ∷ []) ∷ []) (1 ∷ []); deps = (6 ∷ 8 ∷ 9 ∷ []); work = 32; nbytes = 8 })
          ∷ (record { spec = kernels.Fill (6 ∷ []) (record { start = (3 ∷ []); lengths = (3 ∷ []) }) (pos 0) (pos 1); deps = []; work = 24; nbytes = 24 })
          ∷ (record { spec = kernels.Assemble ((record { source = 0; from = (record { start = (0 ∷ []); lengths = (1 ∷ []) }); to = (record { start = (0 ∷ []); lengths = (1 ∷ []) }) }) ∷ []) ((3 ∷ []) ∷ []) (1 ∷ []); deps = (11 ∷ []); work = 32; nbytes = 8 })
          ∷ (record { spec = kernels.Assemble ((record { source = 0; from = (record { start = (1 ∷ []); lengths = (1 ∷ []) }); to = (record { start = (0 ∷ []); lengths = (1 ∷ []) }) }) ∷ []) ((2 ∷ []) ∷ []) (1 ∷ []); deps = (7 ∷ []); work = 24; nbytes = 8 })
          ∷ (record { spec = kernels.Assemble ((record { source = 0; from = (record { start = (1 ∷ []); lengths = (1 ∷ []) }); to = (record { start = (0 ∷ []); lengths = (1 ∷ []) }) }) ∷ []) ((2 ∷ []) ∷ []) (1 ∷ []); deps = (7 ∷ []); work = 24; nbytes = 8 })
          ∷ (record { spec = kernels.Where (Place 0) (Place 1) (Place 2) ((1 ∷ []) ∷ (1 ∷ []) ∷ (1 ∷ []) ∷ []) (1 ∷ []); deps = (12 ∷ 13 ∷ 14 ∷ []); work = 32; nbytes = 8 })
          ∷ (record { spec = kernels.Assemble ((record { source = 0; from = (record { start = (1 ∷ []); lengths = (2 ∷ []) }); to = (record { start = (0 ∷ []); lengths = (2 ∷ []) }) }) ∷ []) ((3 ∷ []) ∷ []) (2 ∷ []); deps = (11 ∷ []); work = 40; nbytes = 16 })
          ∷ (record { spec = kernels.Fill (6 ∷ []) (record { start = (4 ∷ []); lengths = (2 ∷ []) }) (pos 0) (pos 1); deps = []; work = 16; nbytes = 16 })
          ∷ (record { spec = kernels.Assemble ((record { source = 0; from = (record { start = (0 ∷ []); lengths = (2 ∷ []) }); to = (record { start = (0 ∷ []); lengths = (2 ∷ []) }) }) ∷ []) ((2 ∷ []) ∷ []) (2 ∷ []); deps = (17 ∷ []); work = 32; nbytes = 16 })
          ∷ (record { spec = kernels.Assemble ((record { source = 0; from = (record { start = (0 ∷ []); lengths = (2 ∷ []) }); to = (record { start = (0 ∷ []); lengths = (2 ∷ []) }) }) ∷ []) ((2 ∷ []) ∷ []) (2 ∷ []); deps = (17 ∷ []); work = 32; nbytes = 16 })
          ∷ (record { spec = kernels.Where (Place 0) (Place 1) (Place 2) ((2 ∷ []) ∷ (2 ∷ []) ∷ (2 ∷ []) ∷ []) (2 ∷ []); deps = (16 ∷ 18 ∷ 19 ∷ []); work = 64; nbytes = 16 }) ∷ []);
      names = ((Some (1, 0)) ∷ None ∷ (Some (0, 0)) ∷ None ∷ None ∷ (Some (2, 0)) ∷ None ∷ (Some (0, 1)) ∷ None ∷ None ∷ (Some (2, 1)) ∷ (Some (1, 1)) ∷ None ∷ None ∷ None ∷ (Some (2, 2)) ∷ None ∷ (Some (0, 2)) ∷ None ∷ None ∷ (Some (2, 3)) ∷ []);
      saved = ((5 ∷ 10 ∷ 15 ∷ 20 ∷ []) ∷ []);
    }

-- let a = concatenate([full((0, 3), 1, (1, 1)), ramp((2, 3), 0, 1, (1, (2, 1)))], axis=0)
-- save a "o.npy"
abbrev pub joined_arrays : List Node
joined_arrays =
    (record { op = Full (0 ∷ 3 ∷ []) (pos 1) ((Even 1) ∷ (Even 1) ∷ []); shape = (0 ∷ 3 ∷ []); taken = [] }
    ∷ record { op = Ramp (2 ∷ 3 ∷ []) (pos 0) (pos 1) ((Even 1) ∷ (Listed (2 ∷ 1 ∷ [])) ∷ []); shape = (2 ∷ 3 ∷ []); taken = [] }
    ∷ record { op = Concatenate (0 ∷ 1 ∷ []) 0; shape = (2 ∷ 3 ∷ []); taken = [] } ∷ [])

abbrev pub joined_arrays_graph : Lowered
joined_arrays_graph =
    record {
      tasks = ((record { spec = kernels.Fill (2 ∷ 3 ∷ []) (record { start = (0 ∷ 0 ∷ []); lengths = (1 ∷ 2 ∷ []) }) (pos 0) (pos 1); deps = []; work = 16; nbytes = 16 })
          ∷ (record { spec = kernels.Assemble ((record { source = 0; from = (record { start = (0 ∷ 0 ∷ []); lengths = (1 ∷ 1 ∷ []) }); to = (record { start = (0 ∷ 0 ∷ []); lengths = (1 ∷ 1 ∷ []) }) }) ∷ []) ((1 ∷ 2 ∷ []) ∷ []) (1 ∷ 1 ∷ []); deps = (0 ∷ []); work = 24; nbytes = 8 })
          ∷ (record { spec = kernels.Assemble ((record { source = 0; from = (record { start = (0 ∷ 0 ∷ []); lengths = (1 ∷ 1 ∷ []) }); to = (record { start = (0 ∷ 0 ∷ []); lengths = (1 ∷ 1 ∷ []) }) }) ∷ []) ((1 ∷ 1 ∷ []) ∷ []) (1 ∷ 1 ∷ []); deps = (1 ∷ []); work = 16; nbytes = 8 })
          ∷ (record { spec = kernels.Assemble ((record { source = 0; from = (record { start = (0 ∷ 1 ∷ []); lengths = (1 ∷ 1 ∷ []) }); to = (record { start = (0 ∷ 0 ∷ []); lengths = (1 ∷ 1 ∷ []) }) }) ∷ []) ((1 ∷ 2 ∷ []) ∷ []) (1 ∷ 1 ∷ []); deps = (0 ∷ []); work = 24; nbytes = 8 })
          ∷ (record { spec = kernels.Assemble ((record { source = 0; from = (record { start = (0 ∷ 0 ∷ []); lengths = (1 ∷ 1 ∷ []) }); to = (record { start = (0 ∷ 0 ∷ []); lengths = (1 ∷ 1 ∷ []) }) }) ∷ []) ((1 ∷ 1 ∷ []) ∷ []) (1 ∷ 1 ∷ []); deps = (3 ∷ []); work = 16; nbytes = 8 })
          ∷ (record { spec = kernels.Fill (2 ∷ 3 ∷ []) (record { start = (0 ∷ 2 ∷ []); lengths = (1 ∷ 1 ∷ []) }) (pos 0) (pos 1); deps = []; work = 8; nbytes = 8 })
          ∷ (record { spec = kernels.Assemble ((record { source = 0; from = (record { start = (0 ∷ 0 ∷ []); lengths = (1 ∷ 1 ∷ []) }); to = (record { start = (0 ∷ 0 ∷ []); lengths = (1 ∷ 1 ∷ []) }) }) ∷ []) ((1 ∷ 1 ∷ []) ∷ []) (1 ∷ 1 ∷ []); deps = (5 ∷ []); work = 16; nbytes = 8 })
          ∷ (record { spec = kernels.Assemble ((record { source = 0; from = (record { start = (0 ∷ 0 ∷ []); lengths = (1 ∷ 1 ∷ []) }); to = (record { start = (0 ∷ 0 ∷ []); lengths = (1 ∷ 1 ∷ []) }) }) ∷ []) ((1 ∷ 1 ∷ []) ∷ []) (1 ∷ 1 ∷ []); deps = (6 ∷ []); work = 16; nbytes = 8 })
          ∷ (record { spec = kernels.Fill (2 ∷ 3 ∷ []) (record { start = (1 ∷ 0 ∷ []); lengths = (1 ∷ 2 ∷ []) }) (pos 0) (pos 1); deps = []; work = 16; nbytes = 16 })
          ∷ (record { spec = kernels.Assemble ((record { source = 0; from = (record { start = (0 ∷ 0 ∷ []); lengths = (1 ∷ 1 ∷ []) }); to = (record { start = (0 ∷ 0 ∷ []); lengths = (1 ∷ 1 ∷ []) }) }) ∷ []) ((1 ∷ 2 ∷ []) ∷ []) (1 ∷ 1 ∷ []); deps = (8 ∷ []); work = 24; nbytes = 8 })
          ∷ (record { spec = kernels.Assemble ((record { source = 0; from = (record { start = (0 ∷ 0 ∷ []); lengths = (1 ∷ 1 ∷ []) }); to = (record { start = (0 ∷ 0 ∷ []); lengths = (1 ∷ 1 ∷ []) }) }) ∷ []) ((1 ∷ 1 ∷ []) ∷ []) (1 ∷ 1 ∷ []); deps = (9 ∷ []); work = 16; nbytes = 8 })
          ∷ (record { spec = kernels.Assemble ((record { source = 0; from = (record { start = (0 ∷ 1 ∷ []); lengths = (1 ∷ 1 ∷ []) }); to = (record { start = (0 ∷ 0 ∷ []); lengths = (1 ∷ 1 ∷ []) }) }) ∷ []) ((1 ∷ 2 ∷ []) ∷ []) (1 ∷ 1 ∷ []); deps = (8 ∷ []); work = 24; nbytes = 8 })
          ∷ (record { spec = kernels.Assemble ((record { source = 0; from = (record { start = (0 ∷ 0 ∷ []); lengths = (1 ∷ 1 ∷ []) }); to = (record { start = (0 ∷ 0 ∷ []); lengths = (1 ∷ 1 ∷ []) }) }) ∷ []) ((1 ∷ 1 ∷ []) ∷ []) (1 ∷ 1 ∷ []); deps = (11 ∷ []); work = 16; nbytes = 8 })
          ∷ (record { spec = kernels.Fill (2 ∷ 3 ∷ []) (record { start = (1 ∷ 2 ∷ []); lengths = (1 ∷ 1 ∷ []) }) (pos 0) (pos 1); deps = []; work = 8; nbytes = 8 })
          ∷ (record { spec = kernels.Assemble ((record { source = 0; from = (record { start = (0 ∷ 0 ∷ []); lengths = (1 ∷ 1 ∷ []) }); to = (record { start = (0 ∷ 0 ∷ []); lengths = (1 ∷ 1 ∷ []) }) }) ∷ []) ((1 ∷ 1 ∷ []) ∷ []) (1 ∷ 1 ∷ []); deps = (13 ∷ []); work = 16; nbytes = 8 })
          ∷ (record { spec = kernels.Assemble ((record { source = 0; from = (record { start = (0 ∷ 0 ∷ []); lengths = (1 ∷ 1 ∷ []) }); to = (record { start = (0 ∷ 0 ∷ []); lengths = (1 ∷ 1 ∷ []) }) }) ∷ []) ((1 ∷ 1 ∷ []) ∷ []) (1 ∷ 1 ∷ []); deps = (14 ∷ []); work = 16; nbytes = 8 }) ∷ []);
      names = ((Some (1, 0)) ∷ None ∷ (Some (2, 0)) ∷ None ∷ (Some (2, 1)) ∷ (Some (1, 1)) ∷ None ∷ (Some (2, 2)) ∷ (Some (1, 2)) ∷ None ∷ (Some (2, 3)) ∷ None ∷ (Some (2, 4)) ∷ (Some (1, 3)) ∷ None ∷ (Some (2, 5)) ∷ []);
      saved = ((2 ∷ 4 ∷ 7 ∷ 10 ∷ 12 ∷ 15 ∷ []) ∷ []);
    }

-- let b = rechunk(ramp((3), 0, 1, (1)), ((1, 2)))
-- save b "o.npy"
abbrev pub rechunked_array : List Node
rechunked_array =
    (record { op = Ramp (3 ∷ []) (pos 0) (pos 1) ((Even 1) ∷ []); shape = (3 ∷ []); taken = [] }
    ∷ record { op = Rechunk 0 ((Listed (1 ∷ 2 ∷ [])) ∷ []); shape = (3 ∷ []); taken = [] } ∷ [])

abbrev pub rechunked_array_graph : Lowered
rechunked_array_graph =
    record {
      tasks = ((record { spec = kernels.Fill (3 ∷ []) (record { start = (0 ∷ []); lengths = (1 ∷ []) }) (pos 0) (pos 1); deps = []; work = 8; nbytes = 8 })
          ∷ (record { spec = kernels.Assemble ((record { source = 0; from = (record { start = (0 ∷ []); lengths = (1 ∷ []) }); to = (record { start = (0 ∷ []); lengths = (1 ∷ []) }) }) ∷ []) ((1 ∷ []) ∷ []) (1 ∷ []); deps = (0 ∷ []); work = 16; nbytes = 8 })
          ∷ (record { spec = kernels.Fill (3 ∷ []) (record { start = (1 ∷ []); lengths = (1 ∷ []) }) (pos 0) (pos 1); deps = []; work = 8; nbytes = 8 })
          ∷ (record { spec = kernels.Fill (3 ∷ []) (record { start = (2 ∷ []); lengths = (1 ∷ []) }) (pos 0) (pos 1); deps = []; work = 8; nbytes = 8 })
          ∷ (record { spec = kernels.Assemble ((record { source = 0; from = (record { start = (0 ∷ []); lengths = (1 ∷ []) }); to = (record { start = (0 ∷ []); lengths = (1 ∷ []) }) }) ∷ (record { source = 1; from = (record { start = (0 ∷ []); lengths = (1 ∷ []) }); to = (record { start = (1 ∷ []); lengths = (1 ∷ []) }) }) ∷ []) ((1 ∷ []) ∷ (1 ∷ []) ∷ []) (2 ∷ []); deps = (2 ∷ 3 ∷ []); work = 32; nbytes = 16 }) ∷ []);
      names = ((Some (0, 0)) ∷ (Some (1, 0)) ∷ (Some (0, 1)) ∷ (Some (0, 2)) ∷ (Some (1, 1)) ∷ []);
      saved = ((1 ∷ 4 ∷ []) ∷ []);
    }

-- let a = ramp((1024, 1024), 0, 1, (512, 512))
-- let s = sum(a + a.T, axis=(0))
-- save s "o.npy"
abbrev pub four_blocks : List Node
four_blocks =
    (record { op = Ramp (1024 ∷ 1024 ∷ []) (pos 0) (pos 1) ((Even 512) ∷ (Even 512) ∷ []); shape = (1024 ∷ 1024 ∷ []); taken = [] }
    ∷ record { op = Transpose 0 (1 ∷ 0 ∷ []); shape = (1024 ∷ 1024 ∷ []); taken = [] }
    ∷ record { op = Elementwise Add 0 1; shape = (1024 ∷ 1024 ∷ []); taken = [] }
    ∷ record { op = Reduce Sum 2 (Some (0 ∷ [])) 4; shape = (1024 ∷ []); taken = [] } ∷ [])

abbrev pub four_blocks_graph : Lowered
four_blocks_graph =
    record {
      tasks = ((record { spec = kernels.Fill (1024 ∷ 1024 ∷ []) (record { start = (0 ∷ 0 ∷ []); lengths = (512 ∷ 512 ∷ []) }) (pos 0) (pos 1); deps = []; work = 2097152; nbytes = 2097152 })
          ∷ (record { spec = kernels.Transpose (1 ∷ 0 ∷ []) (512 ∷ 512 ∷ []); deps = (0 ∷ []); work = 4194304; nbytes = 2097152 })
          ∷ (record { spec = kernels.Elementwise Add (Place 0) (Place 1) ((512 ∷ 512 ∷ []) ∷ (512 ∷ 512 ∷ []) ∷ []) (512 ∷ 512 ∷ []); deps = (0 ∷ 1 ∷ []); work = 6291456; nbytes = 2097152 })
          ∷ (record { spec = kernels.Reduce Sum (0 ∷ []) ((512 ∷ 512 ∷ []) ∷ []); deps = (2 ∷ []); work = 2101248; nbytes = 4096 })
          ∷ (record { spec = kernels.Fill (1024 ∷ 1024 ∷ []) (record { start = (512 ∷ 0 ∷ []); lengths = (512 ∷ 512 ∷ []) }) (pos 0) (pos 1); deps = []; work = 2097152; nbytes = 2097152 })
          ∷ (record { spec = kernels.Fill (1024 ∷ 1024 ∷ []) (record { start = (0 ∷ 512 ∷ []); lengths = (512 ∷ 512 ∷ []) }) (pos 0) (pos 1); deps = []; work = 2097152; nbytes = 2097152 })
          ∷ (record { spec = kernels.Transpose (1 ∷ 0 ∷ []) (512 ∷ 512 ∷ []); deps = (5 ∷ []); work = 4194304; nbytes = 2097152 })
          ∷ (record { spec = kernels.Elementwise Add (Place 0) (Place 1) ((512 ∷ 512 ∷ []) ∷ (512 ∷ 512 ∷ []) ∷ []) (512 ∷ 512 ∷ []); deps = (4 ∷ 6 ∷ []); work = 6291456; nbytes = 2097152 })
          ∷ (record { spec = kernels.Reduce Sum (0 ∷ []) ((512 ∷ 512 ∷ []) ∷ []); deps = (7 ∷ []); work = 2101248; nbytes = 4096 })
          ∷ (record { spec = kernels.Reduce Sum [] ((512 ∷ []) ∷ (512 ∷ []) ∷ []); deps = (3 ∷ 8 ∷ []); work = 12288; nbytes = 4096 })
          ∷ (record { spec = kernels.Transpose (1 ∷ 0 ∷ []) (512 ∷ 512 ∷ []); deps = (4 ∷ []); work = 4194304; nbytes = 2097152 })
          ∷ (record { spec = kernels.Elementwise Add (Place 0) (Place 1) ((512 ∷ 512 ∷ []) ∷ (512 ∷ 512 ∷ []) ∷ []) (512 ∷ 512 ∷ []); deps = (5 ∷ 10 ∷ []); work = 6291456; nbytes = 2097152 })
          ∷ (record { spec = kernels.Reduce Sum (0 ∷ []) ((512 ∷ 512 ∷ []) ∷ []); deps = (11 ∷ []); work = 2101248; nbytes = 4096 })
          ∷ (record { spec = kernels.Fill (1024 ∷ 1024 ∷ []) (record { start = (512 ∷ 512 ∷ []); lengths = (512 ∷ 512 ∷ []) }) (pos 0) (pos 1); deps = []; work = 2097152; nbytes = 2097152 })
          ∷ (record { spec = kernels.Transpose (1 ∷ 0 ∷ []) (512 ∷ 512 ∷ []); deps = (13 ∷ []); work = 4194304; nbytes = 2097152 })
          ∷ (record { spec = kernels.Elementwise Add (Place 0) (Place 1) ((512 ∷ 512 ∷ []) ∷ (512 ∷ 512 ∷ []) ∷ []) (512 ∷ 512 ∷ []); deps = (13 ∷ 14 ∷ []); work = 6291456; nbytes = 2097152 })
          ∷ (record { spec = kernels.Reduce Sum (0 ∷ []) ((512 ∷ 512 ∷ []) ∷ []); deps = (15 ∷ []); work = 2101248; nbytes = 4096 })
          ∷ (record { spec = kernels.Reduce Sum [] ((512 ∷ []) ∷ (512 ∷ []) ∷ []); deps = (12 ∷ 16 ∷ []); work = 12288; nbytes = 4096 }) ∷ []);
      names = ((Some (0, 0)) ∷ (Some (1, 0)) ∷ (Some (2, 0)) ∷ None ∷ (Some (0, 2)) ∷ (Some (0, 1)) ∷ (Some (1, 2)) ∷ (Some (2, 2)) ∷ None ∷ (Some (3, 0)) ∷ (Some (1, 1)) ∷ (Some (2, 1)) ∷ None ∷ (Some (0, 3)) ∷ (Some (1, 3)) ∷ (Some (2, 3)) ∷ None ∷ (Some (3, 1)) ∷ []);
      saved = ((9 ∷ 17 ∷ []) ∷ []);
    }

-- one block of so many elements
abbrev pub filled_line : ℕ → List Node
filled_line n = record { op = Full (n ∷ []) (pos 1) (Even n ∷ []); shape = n ∷ []; taken = [] } ∷ []
