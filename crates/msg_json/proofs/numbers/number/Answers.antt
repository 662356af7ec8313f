use Rattle.std.proofs.Common.{◌≡◌, Some, drop, get_or, true, false, ◌==◌, sym, ap, ◌∙◌, arith, take_all, length-drop}
use Rattle.fast_float.specs.Text.{scan}
use Rattle.serde_json.specs.Read.{number_of, number_from}
use Rattle.msg_json.proofs.numbers.number.Goals as goal

pub returns-then-has_minus : goal.returns-then-has_minus
unfolding number_of
returns-then-has_minus c =
    let bytes = c.as_bytes-bytes.result.now in
    let minus : (get_or bytes 0 0 == 45) ≡ true = sym c.if-has_minus.ensures.value in
    let after = take_all _ (drop 1 bytes) (omega (arith, length-drop 1 bytes)) in
    let here : number_from true (scan (drop 1 bytes)) ≡ number_of bytes = rw minus in
    c.after_minus.ensures ∙ ap (λ bs. number_from true (scan bs)) after ∙ here ∙ ap number_of c.as_bytes-bytes.ensures.value

pub returns-in-Some : goal.returns-in-Some
unfolding number_of
returns-in-Some c =
    let bytes = c.as_bytes-bytes.result.now in
    let plain : (get_or bytes 0 0 == 45) ≡ false = sym c.if-has_minus.ensures.value in
    let here : number_from false (scan bytes) ≡ number_of bytes = rw plain in
    ap (λ x. Some x) c.from.ensures ∙ sym c.in-Some.ensures ∙ here ∙ ap number_of c.as_bytes-bytes.ensures.value

pub returns-in-None : goal.returns-in-None
unfolding number_of
returns-in-None c =
    let bytes = c.as_bytes-bytes.result.now in
    let plain : (get_or bytes 0 0 == 45) ≡ false = sym c.if-has_minus.ensures.value in
    let here : number_from false (scan bytes) ≡ number_of bytes = rw plain in
    c.without_minus.ensures ∙ here ∙ ap number_of c.as_bytes-bytes.ensures.value
