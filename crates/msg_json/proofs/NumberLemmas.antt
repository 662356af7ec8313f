-- Numbers that are digits alone.
use Rattle.std.proofs.Common.{◌≡◌, ◌==◌, ℕ, ◌<◌, ◌^◌, List, [], ◌++◌, length, nat_lt, drop, cond, get_or, Result, Ok, Err, Some, IfSome, true, false, refl, sym, ap, subst, ◌∙◌, append-nil}
use Rattle.std.specs.Result.{OkIff, result_ok}
use Rattle.std.specs.Str.Parse.{AllDigits, IsNumeral, ParsesUnsigned, digits_value}
use Rattle.std.proofs.lemmas.Bool.{lt-ltb}
use Rattle.std.proofs.lemmas.Float.Parse.{scan_numeral-text_of}
use Rattle.fast_float.specs.Text.{Parts, scan, text_of, IsWellFormed}
use Rattle.serde_json.specs.Data.{unsigned}
use Rattle.serde_json.specs.Read.{number_from}

-- a numeral that consists of its whole part
abbrev whole_alone : List ℕ → Parts
whole_alone bs = record { whole = bs; point = false; fraction = []; exponent_negative = false; exponent = []; len = length bs }

text-whole_alone : (bs : List ℕ) → text_of (whole_alone bs) ≡ bs
text-whole_alone bs = append-nil bs

scan-digits : (bs : List ℕ) → AllDigits 10 bs → scan bs ≡ whole_alone bs
scan-digits bs all =
    let well : IsWellFormed (whole_alone bs) = record { whole_digits = all; fraction_digits = tt; exponent_digits = tt; no_point = λ e. refl; no_exponent = λ e. refl; len_is = ap length (sym (text-whole_alone bs)) } in
    ap scan (sym (text-whole_alone bs)) ∙ scan_numeral-text_of (whole_alone bs) well

-- digits alone are a number, if it fits
pub number_from-digits : (bs : List ℕ) → AllDigits 10 bs → 0 < length bs → digits_value 10 bs < 2 ^ 64 → number_from false (scan bs) ≡ Some (unsigned (digits_value 10 bs))
number_from-digits bs all some small =
    let joined : bs ++ [] ≡ bs = append-nil bs in
    let one : nat_lt 0 (length bs) ≡ true = lt-ltb 0 (length bs) some in
    let fits : nat_lt (digits_value 10 bs) (2 ^ 64) ≡ true = lt-ltb (digits_value 10 bs) (2 ^ 64) small in
    rw (scan-digits bs all, joined, one, fits) refl

-- the value of a text without a plus is parsed the same
parsed : {E : Type 0} (bs : List ℕ) (r : Result ℕ E) → OkIff r (IsNumeral 10 bs × (digits_value 10 bs < 2 ^ 64)) (digits_value 10 bs) → IfSome (result_ok r) (λ n. number_from false (scan bs) ≡ Some (unsigned n))
parsed bs (Ok n) h = number_from-digits bs h.0.0.1 h.0.0.0 h.0.1 ∙ ap (λ x. Some (unsigned x)) (sym h.1)
parsed bs (Err e) h = tt

pub parsed_number : {E : Type 0} (bs : List ℕ) (r : Result ℕ E) → ParsesUnsigned 64 10 bs r → (get_or bs 0 0 == 43) ≡ false → IfSome (result_ok r) (λ n. number_from false (scan bs) ≡ Some (unsigned n))
parsed_number bs r h plain = parsed bs r (subst (λ b. OkIff r (IsNumeral 10 (drop (cond b 1 0) bs) × (digits_value 10 (drop (cond b 1 0) bs) < 2 ^ 64)) (digits_value 10 (drop (cond b 1 0) bs))) plain h)
