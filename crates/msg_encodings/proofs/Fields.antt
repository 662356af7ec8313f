-- Members, one by one.
use Rattle.std.proofs.Common.{◌≡◌, ◌∙◌, ℕ, zero, suc, ◌-◌, ◌<◌, ◌≤◌, Bool, true, false, cond, List, [], ◌∷◌, length, get_or, take, drop, arith, refl, sym, ap}
use Rattle.std.proofs.lemmas.List.{take_rest}
use Rattle.std.specs.Prelude.{max}
use Rattle.msg_encodings.specs.Shapes.{place, plain, whole}
use Rattle.msg_encodings.specs.Texts.{past, past_one, past_name, qualifiers}
use Rattle.msg_encodings.specs.Reading.{Read, ends, front, fields, of_kind, begun, first}
use Rattle.msg_encodings.specs.Letters.{kind}
use Rattle.msg_encodings.proofs.Shorter.{Shortens, past_name-le}

some : (close : ℕ) (text : List ℕ) → ends close text ≡ false → 0 < length text
some close [] e = cc
some close (x ∷ xs) e = omega arith

branch : {A : Type 0} (b : Bool) (x y z : A) → (b ≡ false → y ≡ z) → cond b x y ≡ cond b x z
branch true x y z same = refl
branch false x y z same = same refl

-- the limit of members is enough
fields-enough : (type : List ℕ → Read) → Shortens type → (close left more end align : ℕ) (text : List ℕ) → length text < left → length text < more → fields type close left end align text ≡ fields type close more end align text
unfolding fields
fields-enough type shorter close zero more end align text few many = absurd (omega arith)
fields-enough type shorter close (suc left) zero end align text few many = absurd (omega arith)
fields-enough type shorter close (suc left) (suc more) end align text few many =
    let at = past_name text in
    let member = type at in
    let last = (place (front close end) member.0).1 in
    branch (ends close at) _ _ _ (λ e. fields-enough type shorter close left more (max end last) (max align member.0.align) member.1 (omega (arith, shorter at, past_name-le text, some close at e)) (omega (arith, shorter at, past_name-le text, some close at e)))

-- if no member is left
pub fields-end : (type : List ℕ → Read) (close left end align : ℕ) (text : List ℕ) → ends close (past_name text) ≡ true → fields type close (suc left) end align text ≡ (whole end align, past_one close (past_name text))
unfolding fields
fields-end type close left end align text e = rw e refl

fields-on : (type : List ℕ → Read) (close left end align : ℕ) (text : List ℕ) → ends close (past_name text) ≡ false → fields type close (suc left) end align text ≡ fields type close left (max end (place (front close end) (type (past_name text)).0).1) (max align (type (past_name text)).0.align) (type (past_name text)).1
unfolding fields
fields-on type close left end align text e = rw e refl

-- if a member is left
pub fields-next : (type : List ℕ → Read) → Shortens type → (close end align : ℕ) (text : List ℕ) → ends close (past_name text) ≡ false → fields type close (suc (length (type (past_name text)).1)) (max end (place (front close end) (type (past_name text)).0).1) (max align (type (past_name text)).0.align) (type (past_name text)).1 ≡ fields type close (suc (length text)) end align text
fields-next type shorter close end align text e =
    let at = past_name text in
    let member = type at in
    let last = (place (front close end) member.0).1 in
    fields-enough type shorter close (suc (length member.1)) (length text) (max end last) (max align member.0.align) member.1 (omega arith) (omega (arith, shorter at, past_name-le text, some close at e)) ∙ sym (fields-on type close (length text) end align text e)

-- a member leaves a shorter text
pub member-shorter : (type : List ℕ → Read) → Shortens type → (close : ℕ) (text : List ℕ) → ends close (past_name text) ≡ false → length (type (past_name text)).1 < length text
member-shorter type shorter close text e = omega (arith, shorter (past_name text), past_name-le text, some close (past_name text) e)

-- a type in which others may be nested
pub first-at : (depth : ℕ) (text : List ℕ) → 0 < depth → first depth text ≡ begun (first (depth - 1)) (past qualifiers text)
unfolding first
first-at zero text some = absurd (omega arith)
first-at (suc depth) text some = ap (λ (k : ℕ). begun (first k) (past qualifiers text)) (omega arith)

pub first-none : (depth : ℕ) (text : List ℕ) → depth ≡ 0 → first depth text ≡ (plain 0, [])
unfolding first
first-none zero text none = refl
first-none (suc depth) text none = absurd (omega arith)

pub first-some : (depth : ℕ) (text : List ℕ) (letter : ℕ) (rest : List ℕ) → 0 < depth → past qualifiers text ≡ letter ∷ rest → first depth text ≡ of_kind (first (depth - 1)) letter rest (kind letter)
first-some depth text letter rest some is = first-at depth text some ∙ ap (begun (first (depth - 1))) is

pub first-empty : (depth : ℕ) (text : List ℕ) → 0 < depth → past qualifiers text ≡ [] → first depth text ≡ (plain 0, [])
first-empty depth text some is = first-at depth text some ∙ ap (begun (first (depth - 1))) is

pub empty : (text : List ℕ) → length text < 1 → text ≡ []
empty [] few = refl
empty (x ∷ xs) few = absurd (omega arith)

-- a text is its first letter and the rest
pub apart : (text : List ℕ) → 1 ≤ length text → text ≡ get_or text 0 0 ∷ take (length text - 1) (drop 1 text)
apart [] some = absurd (omega arith)
apart (x ∷ xs) some = ap (λ (rest : List ℕ). x ∷ rest) (sym (take_rest (x ∷ xs) 1))

-- what the loop over members keeps
pub fields-kept : (type : List ℕ → Read) → Shortens type → (close end align : ℕ) (text : List ℕ) (end' align' : ℕ) (rest : List ℕ) → ends close (past_name text) ≡ false → end' ≡ max end (place (front close end) (type (past_name text)).0).1 → align' ≡ max align (type (past_name text)).0.align → rest ≡ (type (past_name text)).1 → fields type close (suc (length rest)) end' align' rest ≡ fields type close (suc (length text)) end align text
fields-kept type shorter close end align text end' align' rest e by_end by_align by_rest = rw (by_end, by_align, by_rest) (fields-next type shorter close end align text e)
