use Rattle.std.proofs.Common.{◌≡◌, arith, rules, take, List, ℕ, string_bytes, subst, ◌∙◌}
use Rattle.std.specs.Str.{IsUtf8}
use Rattle.msgpack_frames.specs.Data.{text}
use Rattle.msgpack_frames.specs.View.{view}
use Rattle.msgpack_frames.specs.declared.value.Value.{Str, the_lemmas}
use Rattle.msgpack_frames.proofs.Texts.{text_read, text_refused}
use Rattle.msgpack_frames.proofs.decoder.text_of.Goals as goal

pub returns-in_ok-from_str-in-Ok : goal.returns-in_ok-from_str-in-Ok
returns-in_ok-from_str-in-Ok c =
    let front = c.split_at.ensures.front in
    let utf8 : IsUtf8 (take c.args.len c.args.bytes.now) = subst IsUtf8 front c.in-Ok.ensures.cases.1 in
    let seen : view (Str c.in_ok-from_str-in-Ok.field-0) ≡ text (string_bytes c.in_ok-from_str-in-Ok.field-0) = search (rules, the_lemmas) in
    let bytes : string_bytes c.in_ok-from_str-in-Ok.field-0 ≡ take c.args.len c.args.bytes.now = c.in_ok-from_str-in-Ok.ensures.ok ∙ c.in-Ok.ensures.cases.0 ∙ front in
    text_read c.args.at c.args.len c.args.bytes.now (omega arith) utf8 ∙ rw (seen, bytes, ← c.split_at.ensures.back)

pub returns-in-Err : goal.returns-in-Err
returns-in-Err c = text_refused c.args.at c.args.len c.args.bytes.now (omega arith) (subst (λ (bs : List ℕ). IsUtf8 bs → ⊥) c.split_at.ensures.front c.in-Err.ensures.cases.0)
