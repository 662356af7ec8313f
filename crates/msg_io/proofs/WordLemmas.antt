-- Words that spell numbers.
use Rattle.std.proofs.Common.{◌≡◌, ℕ, ◌≤◌, true, List, length, Result, Ok, arith, rules}
use Rattle.std.specs.Char.{is_ascii_digit}
use Rattle.std.specs.List.{list_all}
use Rattle.std.specs.Str.Parse.{digits_value, ParsesUnsigned}
use Rattle.std.proofs.lemmas.Bool.Decides.{nat_tests}
use Rattle.std.proofs.lemmas.Str.Parse.{IsDigitsTest, IsNumeralModel, numerals_by_value, parse_gives, digits_value_short}
use Rattle.msg_io.specs.CommandLine.{is_number}

digits_test : IsDigitsTest (λ word. list_all is_ascii_digit word ≡ true)
digits_test = search rules

digits_model : IsNumeralModel (λ word. list_all is_ascii_digit word ≡ true) (digits_value 10)
digits_model = numerals_by_value _ digits_test

-- what it is to be a number, part by part
record IsNumber (word : List ℕ) : Type 0 where
  some : 1 ≤ length word
  few : length word ≤ 9
  digits : list_all is_ascii_digit word ≡ true

number_parts : (word : List ℕ) → is_number word ≡ true → IsNumber word
unfolding is_number
number_parts word e = record { some = grind (arith, nat_tests); few = grind (arith, nat_tests); digits = grind (arith, nat_tests) }

-- `parse` reads each word that is a number
pub parse_number : {E : Type 0} (word : List ℕ) (r : Result ℕ E) → ParsesUnsigned 32 10 word r → is_number word ≡ true → r ≡ Ok (digits_value 10 word)
parse_number word r h e =
    let w = number_parts word e in
    parse_gives digits_model 32 word r h w.digits (omega arith) (omega (arith, digits_value_short digits_model word 9 w.digits w.few))
