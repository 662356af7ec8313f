-- The letters of a type encoding.
use Rattle.std.specs.Prelude.{ℕ, Bool, List, [], ◌∷◌, ◌==◌, if◌then◌else◌}
use Rattle.std.specs.List.{list_any}
use Rattle.msg_encodings.specs.declared.letters.Kind.{Kind}
use Rattle.msg_encodings.specs.declared.letters.Kind.TheVariants.{Fields, Rows, Vector, Complex, Bits, Pointer, Object, Plain}

-- the letter is one of these
abbrev pub is_one_of : List ℕ → ℕ → Bool
is_one_of letters x = list_any (λ y. y == x) letters

-- {members} (members) [count type] ![size,alignment type] j type, b place type count, ^ type, @
abbrev pub kind : ℕ → Kind
kind x =
    if x == 123 then Fields 125
    else if x == 40 then Fields 41
    else if x == 91 then Rows
    else if x == 33 then Vector
    else if x == 106 then Complex
    else if x == 98 then Bits
    else if x == 94 then Pointer
    else if x == 64 then Object
    else Plain

-- cCB, sS, iIf, lLqQd@#:*%^?, tTD
abbrev pub size_of : ℕ → ℕ
size_of x =
    if is_one_of (99 ∷ 67 ∷ 66 ∷ []) x then 1
    else if is_one_of (115 ∷ 83 ∷ []) x then 2
    else if is_one_of (105 ∷ 73 ∷ 102 ∷ []) x then 4
    else if is_one_of (108 ∷ 76 ∷ 113 ∷ 81 ∷ 100 ∷ 64 ∷ 35 ∷ 58 ∷ 42 ∷ 37 ∷ 94 ∷ 63 ∷ []) x then 8
    else if is_one_of (116 ∷ 84 ∷ 68 ∷ []) x then 16
    else 0
