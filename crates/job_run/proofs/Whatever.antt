-- What holds of whatever gave what was read, once the store is given back.
use Rattle.std.proofs.Common.{◌≡◌, ℕ, List, ◌++◌, length, map}
use Rattle.io_edge.specs.Content.{Content}
use Rattle.io_edge.specs.Given.{Agree, OnGiven, Piece}
use Rattle.io_edge.specs.View.{View}
use Rattle.npy_codec.specs.declared.head.Head.{Head}
use Rattle.plain_eval.specs.Held.{held_in}
use Rattle.job_run.specs.Evaluating.{GivenOver}
use Rattle.job_run.specs.Inputs.{FitInputs}
use Rattle.job_run.specs.Loading.{AreHeads, HaveHeadsNamed}
use Rattle.job_run.specs.Plan.{Plan, input_shapes}
use Rattle.job_run.specs.Values.{Named, OfGiven}
use Rattle.job_run.proofs.Given.{have_named}

-- the inputs of a plan, opened, and what is known of whatever gave the pieces so far
pub record Accepted (p : Plan) (files : List Content) (heads : List Head) (opened : List Piece) : Type 0 where
  pub declared : length p.inputs ≡ length (input_shapes p.nodes)
  pub heads_are : AreHeads (input_shapes p.nodes) files heads
  pub count : length heads ≡ length (input_shapes p.nodes)
  pub fit : OnGiven opened (λ holds. FitInputs p (map holds p.inputs))
  pub have : OnGiven opened (HaveHeadsNamed p.inputs heads)

-- what holds of the elements that the files have holds of those that their arrays have
pub of_given : (p : Plan) (old new : View) (files : List Content) (heads : List Head) (opened store : List Piece) (P : Named → Type 0) → Accepted p files heads opened → ((holds : List ℕ → List ℕ) → Agree holds store → Agree holds opened) →
    new.gave ≡ old.gave ++ store → GivenOver heads p.inputs store P → OfGiven p old new P
of_given p old new files heads opened store P a earlier is over = record {
  more = store;
  is = is;
  holds = λ holds agree.
      let before : Agree holds opened = earlier holds agree in (a.fit holds before, λ blocks hold. over holds (held_in blocks) agree (have_named p files heads holds blocks a.declared a.heads_are a.count (a.have holds before) hold));
}
