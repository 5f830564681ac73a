-- Heads that are read one after another: what follows of whatever the files hold that gave what was read.
use Rattle.std.proofs.Common.{◌≡◌, ℕ, zero, suc, ◌+◌, ◌<◌, List, [], ◌∷◌, ◌++◌, length, get_or, map, refl, sym, ◌∙◌, subst, inl, inr, arith}
use Rattle.std.proofs.lemmas.Option.{get_or_from_slice_get, slice_get_read}
use Rattle.io_edge.specs.Content.{Content, Told}
use Rattle.io_edge.specs.Given.{Gives, GivesOf, OnGiven, Piece}
use Rattle.io_edge.proofs.GivenLaws.{file_as, given_any, given_as, given_back, given_both, given_on, more_same}
use Rattle.nd_shape.specs.Block.{Array}
use Rattle.nd_rows.proofs.Turns.{split as below_or}
use Rattle.npy_codec.specs.declared.head.Head.{Head}
use Rattle.npy_codec.specs.declared.error.NpyError.{NpyError}
use Rattle.npy_codec.specs.Files.{HasHead, IsRefusedAs}
use Rattle.job_run.specs.declared.ends.Ended.{Ended}
use Rattle.job_run.specs.declared.ends.Ended.TheVariants.{Done, Limit, File, Zero, Killed, ReadFault, WriteFault, OutOfMemory}
use Rattle.job_run.specs.declared.ends.FileError.{FileError}
use Rattle.job_run.specs.declared.ends.FileError.TheVariants.{Npy, Shape}
use Rattle.job_run.specs.Inputs.{FirstRefusal, FitInputs, FitsShape, HoldsArray, IsOfFile, RefusesFile}
use Rattle.job_run.specs.Loading.{FitNamed, HeadEnds, HeadGiven, IsRefusedNamed, LoadGiven}
use Rattle.job_run.specs.Plan.{Plan, input_shapes}
use Rattle.job_run.specs.Told.{array_told}
use Rattle.job_run.proofs.Told.{held_array}

-- ## One file

pub fit_given : (names : List (List ℕ)) (place : ℕ) (old new : List Piece) (shape : List ℕ) (head : Head) → head.shape ≡ shape → GivesOf names place old new (λ bytes. HasHead bytes head) → GivesOf names place old new (FitsShape shape)
fit_given names place old new shape head declared g = file_as names place old new (λ bytes. HasHead bytes head) (FitsShape shape) (λ bytes front. record { head = head; front = front; declared = declared }) g

pub npy_given : (names : List (List ℕ)) (place : ℕ) (old new : List Piece) (shape : List ℕ) (error : NpyError) → IsOfFile error → GivesOf names place old new (λ bytes. IsRefusedAs bytes error) → GivesOf names place old new (λ bytes. RefusesFile shape bytes (Npy error))
npy_given names place old new shape error of_file g = file_as names place old new (λ bytes. IsRefusedAs bytes error) (λ bytes. RefusesFile shape bytes (Npy error)) (λ bytes refused. (of_file, refused)) g

pub shape_given : (names : List (List ℕ)) (place : ℕ) (old new : List Piece) (shape has declared : List ℕ) (head : Head) → has ≡ head.shape → declared ≡ shape → (head.shape ≡ shape → ⊥) → GivesOf names place old new (λ bytes. HasHead bytes head) →
    GivesOf names place old new (λ bytes. RefusesFile shape bytes (Shape has declared))
shape_given names place old new shape has declared head is_has is_declared other g =
    file_as names place old new (λ bytes. HasHead bytes head) (λ bytes. RefusesFile shape bytes (Shape has declared))
    (λ bytes front. record { head = head; front = front; has_is = is_has; declared_is = is_declared; other = λ e. other (sym is_has ∙ (e ∙ is_declared)) }) g

-- ## One file after another

pub none_given : (names shapes : List (List ℕ)) (gave : List Piece) → Gives gave gave (FitNamed names shapes 0)
none_given names shapes gave = given_any gave gave (FitNamed names shapes 0) (λ holds. record { each = λ k h. absurd (omega (arith, h)) }) (more_same gave gave refl)

pub shape_at : (shapes : List (List ℕ)) (k : ℕ) (shape : List ℕ) → k < length shapes → shape ≡ get_or shapes k shape → get_or shapes k [] ≡ shape
shape_at shapes k shape h is = get_or_from_slice_get shapes k shape [] (slice_get_read shapes (length shapes) k shape refl h is)

fit_next : (names shapes : List (List ℕ)) (k : ℕ) (shape : List ℕ) (holds : List ℕ → List ℕ) → get_or shapes k [] ≡ shape → FitNamed names shapes k holds → FitsShape shape (holds (get_or names k [])) → FitNamed names shapes (k + 1) holds
fit_next names shapes k shape holds is fit here = record {
  each = λ j h. elim (below_or j k) [
    | inl b ↦ fit.each j b
    | inr b ↦
        let e : k ≡ j = omega (arith, b, h) in
        let P : ℕ → Type 0 = λ i. FitsShape (get_or shapes i []) (holds (get_or names i [])) in
        subst P e (subst (λ s. FitsShape s (holds (get_or names k []))) (sym is) here)
  ];
}

pub more_given : (names shapes : List (List ℕ)) (old mid new : List Piece) (k : ℕ) (shape : List ℕ) → k < length shapes → shape ≡ get_or shapes k shape → Gives old mid (FitNamed names shapes k) → GivesOf names k mid new (FitsShape shape) → Gives old new (FitNamed names shapes (k + 1))
more_given names shapes old mid new k shape h is before here =
    given_both old mid new (FitNamed names shapes k) (λ holds. FitsShape shape (holds (get_or names k []))) (FitNamed names shapes (k + 1)) (λ holds fit this. fit_next names shapes k shape holds (shape_at shapes k shape h is) fit this) before here

pub all_given : (names shapes : List (List ℕ)) (old new : List Piece) (k count : ℕ) → k ≡ count → Gives old new (FitNamed names shapes k) → Gives old new (FitNamed names shapes count)
all_given names shapes old new k count e g = subst (λ n. Gives old new (FitNamed names shapes n)) e g

refused_given : (names shapes : List (List ℕ)) (old mid new : List Piece) (k at : ℕ) (shape : List ℕ) (error : FileError) → get_or shapes k [] ≡ shape → at ≡ k → Gives old mid (FitNamed names shapes k) → GivesOf names k mid new (λ bytes. RefusesFile shape bytes error) →
    Gives old new (IsRefusedNamed names shapes at error)
refused_given names shapes old mid new k at shape error is is_at before here =
    let P : ℕ → Type 0 = λ i. Gives old new (IsRefusedNamed names shapes i error) in
    subst P (sym is_at)
    (given_both old mid new (FitNamed names shapes k) (λ holds. RefusesFile shape (holds (get_or names k [])) error) (IsRefusedNamed names shapes k error)
    (λ holds fit this. record { before = fit.each; here = subst (λ s. RefusesFile s (holds (get_or names k [])) error) (sym is) this }) before here)

pub end_given : (names shapes : List (List ℕ)) (old mid new : List Piece) (k : ℕ) (shape : List ℕ) (file : Content) (before after : ℕ) (end : Ended) → k < length shapes → shape ≡ get_or shapes k shape → HeadEnds shape file k before after end → Gives old mid (FitNamed names shapes k) →
    HeadGiven names k shape mid new end → LoadGiven names shapes old new end
end_given names shapes old mid new k shape file before after (File at error) h is ends fit here = refused_given names shapes old mid new k at shape error (shape_at shapes k shape h is) ends.0 fit here
end_given names shapes old mid new k shape file before after ReadFault h is ends fit here = tt
end_given names shapes old mid new k shape file before after OutOfMemory h is ends fit here = tt
end_given names shapes old mid new k shape file before after Done h is ends fit here = tt
end_given names shapes old mid new k shape file before after (Limit quantity) h is ends fit here = tt
end_given names shapes old mid new k shape file before after (Zero node block) h is ends fit here = tt
end_given names shapes old mid new k shape file before after (Killed key losses) h is ends fit here = tt
end_given names shapes old mid new k shape file before after WriteFault h is ends fit here = tt

-- ## The inputs of a job

pub mapped_at : (f : List ℕ → List ℕ) (names : List (List ℕ)) (k : ℕ) → k < length names → get_or (map f names) k [] ≡ f (get_or names k [])
mapped_at f [] k h = absurd (omega (arith, h))
mapped_at f (name ∷ names) zero h = refl
mapped_at f (name ∷ names) (suc k) h = mapped_at f names k (omega (arith, h))

array_of : (shape bytes : List ℕ) → FitsShape shape bytes → (array : Array) × HoldsArray shape bytes array
array_of shape bytes fits = (array_told (Told bytes) fits.head, held_array shape bytes fits.head fits.front fits.declared)

inputs_fit : (p : Plan) (holds : List ℕ → List ℕ) → length p.inputs ≡ length (input_shapes p.nodes) → FitNamed p.inputs (input_shapes p.nodes) (length (input_shapes p.nodes)) holds → FitInputs p (map holds p.inputs)
inputs_fit p holds declared fit = record {
  each = λ k h.
      let T : List ℕ → Type 0 = λ bytes. (array : Array) × HoldsArray (get_or (input_shapes p.nodes) k []) bytes array in
      subst T (sym (mapped_at holds p.inputs k h)) (array_of (get_or (input_shapes p.nodes) k []) (holds (get_or p.inputs k [])) (fit.each k (omega (arith, h, declared))));
}

-- the inputs are as declared, by all that a store gave
pub accepted_given : (p : Plan) (names shapes : List (List ℕ)) (old new : List Piece) → names ≡ p.inputs → shapes ≡ input_shapes p.nodes → length p.inputs ≡ length (input_shapes p.nodes) → Gives old new (FitNamed names shapes (length shapes)) →
    OnGiven new (λ holds. FitInputs p (map holds p.inputs))
accepted_given p names shapes old new is_names is_shapes declared g =
    let T : List (List ℕ) → Type 0 = λ ns. Gives old new (FitNamed ns shapes (length shapes)) in
    let S : List (List ℕ) → Type 0 = λ ss. Gives old new (FitNamed p.inputs ss (length ss)) in
    given_on old new (λ holds. FitInputs p (map holds p.inputs))
    (given_as old new (FitNamed p.inputs (input_shapes p.nodes) (length (input_shapes p.nodes))) (λ holds. FitInputs p (map holds p.inputs)) (λ holds fit. inputs_fit p holds declared fit) (subst S is_shapes (subst T is_names g)))

first_refusal : (p : Plan) (place : ℕ) (error : FileError) (holds : List ℕ → List ℕ) → place < length p.inputs → IsRefusedNamed p.inputs (input_shapes p.nodes) place error holds → FirstRefusal p (map holds p.inputs) place error
first_refusal p place error holds within refused = record {
  before = λ k b. let F : List ℕ → Type 0 = λ bytes. FitsShape (get_or (input_shapes p.nodes) k []) bytes in subst F (sym (mapped_at holds p.inputs k (omega (arith, b, within)))) (refused.before k b);
  here = let R : List ℕ → Type 0 = λ bytes. RefusesFile (get_or (input_shapes p.nodes) place []) bytes error in subst R (sym (mapped_at holds p.inputs place within)) refused.here;
}

-- a store was opened and given back, and one of its files is refused
pub refusal_given : (p : Plan) (names : List (List ℕ)) (place : ℕ) (error : FileError) (fresh store old mid new : List Piece) → names ≡ p.inputs → place < length p.inputs → mid ≡ old → new ≡ mid ++ store → Gives fresh store (IsRefusedNamed names (input_shapes p.nodes) place error) →
    Gives old new (λ holds. FirstRefusal p (map holds p.inputs) place error)
refusal_given p names place error fresh store old mid new is_names within before is g =
    let T : List (List ℕ) → Type 0 = λ ns. Gives fresh store (IsRefusedNamed ns (input_shapes p.nodes) place error) in
    given_back old mid new store (λ holds. FirstRefusal p (map holds p.inputs) place error) before is
    (given_on fresh store (λ holds. FirstRefusal p (map holds p.inputs) place error)
    (given_as fresh store (IsRefusedNamed p.inputs (input_shapes p.nodes) place error) (λ holds. FirstRefusal p (map holds p.inputs) place error) (λ holds refused. first_refusal p place error holds within refused) (subst T is_names g)))
