-- Numbers in decimal.
use Rattle.std.proofs.Common.{◌≡◌, ℕ, zero, suc, ◌+◌, ◌-◌, ◌^◌, ◌<◌, List, [], ◌∷◌, map, ℤ, pos, negsuc, refl, sym, ap, ◌∙◌, arith}
use Rattle.std.proofs.lemmas.Fmt.{decimal_digit, decimal-digits_of}
use Rattle.std.proofs.lemmas.Int.Digits.{number_digits_of}
use Rattle.std.specs.Fmt.{signed_decimal}
use Rattle.std.specs.Fmt as fmt
use Rattle.std.specs.Int.Digits.{digits_of, number_from_digits}
use Rattle.msg_io.specs.Decimal.{digits, decimal}
use lib.Signed.{mag}

-- what `{}` writes for a number is the number in decimal
pub digits_is : (n : ℕ) → n < 2 ^ 64 → fmt.decimal n ≡ digits n
unfolding digits
digits_is zero h = decimal_digit 0 (omega arith)
digits_is (suc n) h = decimal-digits_of (suc n) (omega arith) h

pub signed_decimal_is : (z : ℤ) → mag z < 2 ^ 63 → signed_decimal z ≡ decimal z
unfolding decimal
signed_decimal_is (pos n) h = digits_is n (omega arith)
signed_decimal_is (negsuc n) h = ap (λ l. 45 ∷ l) (digits_is (suc n) (omega arith))

-- the number that some digits spell
value_of : List ℕ → ℕ
value_of text = number_from_digits 10 (map (λ b. b - 48) text)

-- from digits to ASCII and back
map-map : (ds : List ℕ) → map (λ b. b - 48) (map (λ d. 48 + d) ds) ≡ ds
map-map [] = refl
map-map (d ∷ ds) = let first : 48 + d - 48 ≡ d = omega arith in cc (map-map ds)

value_of-digits : (n : ℕ) → value_of (digits n) ≡ n
unfolding value_of digits
value_of-digits zero = refl
value_of-digits (suc n) = rw map-map (number_digits_of 10 (suc n) (omega arith))

-- no digit is `-`
glyphs_unsigned : (ds rest : List ℕ) → map (λ d. 48 + d) ds ≡ 45 ∷ rest → ⊥
glyphs_unsigned [] rest e = cc
glyphs_unsigned (d ∷ ds) rest e = let first : 48 + d ≡ 45 = cc in omega arith

digits_unsigned : (n : ℕ) (rest : List ℕ) → digits n ≡ 45 ∷ rest → ⊥
unfolding digits
digits_unsigned zero rest e = glyphs_unsigned (0 ∷ []) rest e
digits_unsigned (suc n) rest e = glyphs_unsigned (digits_of 10 (suc n)) rest e

same_digits : (m n : ℕ) → digits m ≡ digits n → m ≡ n
same_digits m n e = sym (value_of-digits m) ∙ ap value_of e ∙ value_of-digits n

pub same_decimal : (m n : ℤ) → decimal m ≡ decimal n → m ≡ n
unfolding decimal
same_decimal (pos m) (pos n) e = ap pos (same_digits m n e)
same_decimal (pos m) (negsuc n) e = absurd (digits_unsigned m (digits (suc n)) e)
same_decimal (negsuc m) (pos n) e = absurd (digits_unsigned n (digits (suc m)) (sym e))
same_decimal (negsuc m) (negsuc n) e =
    let digits_same : digits (suc m) ≡ digits (suc n) = cc in
    let same : m ≡ n = omega (arith, same_digits (suc m) (suc n) digits_same) in
    ap negsuc same
