-- Bytes that a source gave and a sink took in several calls.
use Rattle.std.proofs.Common.{◌≡◌, ℕ, zero, suc, ◌+◌, ◌-◌, ◌≤◌, Bool, List, [], ◌∷◌, ◌++◌, Result, Ok, Err, take, drop, length, length-append, arith, Option, refl, sym, ap, ◌∙◌, subst}
use Rattle.std.proofs.KnownBytes.{Appends-trans, Consumes-nil, Consumes-trans, Consumes-kept}
use Rattle.std.proofs.Math.Seq.{take-add}
use Rattle.std.proofs.lemmas.List.{take_rest}
use Rattle.std.specs.Prelude.{OnErr}
use Rattle.std.specs.Io.{ReadsAtMost}
use Rattle.std.specs.Io.KnownBytes.{Appends, Consumes, ReadConsumes}
use Rattle.msg_image.specs.Answer.{most_bytes}
use Rattle.msg_io.specs.Writing.{AppendsStart}
use Rattle.msg_io.specs.Reading.{buffer_bytes, GivesStart}

-- a source gave these bytes so far, of at most the limit, and no call failed
pub record HasGiven (old new : Option (List ℕ)) (was is : Bool) (bytes : List ℕ) : Type 0 where
  pub within : length bytes ≤ most_bytes
  pub given : Consumes old new bytes
  pub mark : is ≡ was

-- a sink took so many of these bytes so far, and no call failed
pub record HasTaken (old new : Option (List ℕ)) (was is : Bool) (bytes : List ℕ) (count : ℕ) : Type 0 where
  pub within : count ≤ length bytes
  pub taken : Appends old new (take count bytes)
  pub mark : is ≡ was

-- a source that isn't read gives nothing
pub gives_nothing : (a : Option (List ℕ)) → GivesStart a a
gives_nothing a = ([], omega arith, Consumes-nil a)

-- one more read, of whatever outcome, after these bytes
pub gives_start : {E : Type 0} (a b c : Option (List ℕ)) (bytes buffer : List ℕ) (r : Result ℕ E) → length bytes ≤ most_bytes → Consumes a b bytes → length buffer ≤ buffer_bytes → ReadsAtMost r buffer → ReadConsumes b c r buffer → GivesStart a c
gives_start a b c bytes buffer (Ok count) few given room bound more =
    (bytes ++ take count buffer, omega (arith, length-append bytes (take count buffer)), Consumes-trans a b c bytes (take count buffer) given more.0)
gives_start a b c bytes buffer (Err e) few given room bound more = (bytes, omega arith, Consumes-kept a b c bytes given more)

-- the next bytes after these
pub takes_more : (a b c : Option (List ℕ)) (bytes : List ℕ) (count more : ℕ) → Appends a b (take count bytes) → Appends b c (take more (take (length bytes - count) (drop count bytes))) → Appends a c (take (count + more) bytes)
takes_more a b c bytes count more taken next =
    rw (take-add count more bytes, ← take_rest bytes count) (Appends-trans a b c _ _ taken next)

take_start : (xs ys : List ℕ) (n : ℕ) → n ≤ length xs → take n (xs ++ ys) ≡ take n xs
take_start [] ys zero few = refl
take_start [] ys (suc n) few = absurd (omega (arith, few))
take_start (x ∷ xs) ys zero few = refl
take_start (x ∷ xs) ys (suc n) few = ap (λ zs. x ∷ zs) (take_start xs ys n (omega (arith, few)))

take_past : (xs ys : List ℕ) (n : ℕ) → take (length xs + n) (xs ++ ys) ≡ xs ++ take n ys
take_past [] ys n = ap (λ k. take k ys) (let e : 0 + n ≡ n = omega arith in e)
take_past (x ∷ xs) ys n = ap (λ k. take k (x ∷ (xs ++ ys))) (let e : suc (length xs) + n ≡ suc (length xs + n) = omega arith in e) ∙ ap (λ zs. x ∷ zs) (take_past xs ys n)

-- the start of these bytes, of these and those
pub start_of_these : (a b : Option (List ℕ)) (these those : List ℕ) → AppendsStart a b these → AppendsStart a b (these ++ those)
start_of_these a b these those (count, below, taken) =
    (count, omega (arith, below, length-append these those), subst (Appends a b) (sym (take_start these those count (omega (arith, below)))) taken)

-- the start of those bytes after these
pub start_of_those : (a b c : Option (List ℕ)) (these those : List ℕ) → Appends a b these → AppendsStart b c those → AppendsStart a c (these ++ those)
start_of_those a b c these those before (count, below, taken) =
    (length these + count, omega (arith, below, length-append these those), subst (Appends a c) (sym (take_past these those count)) (Appends-trans a b c these (take count those) before taken))

pub start_after : {A E : Type 0} (a b c : Option (List ℕ)) (these those : List ℕ) (r : Result A E) → Appends a b these → OnErr r (AppendsStart b c those) → OnErr r (AppendsStart a c (these ++ those))
start_after a b c these those (Ok x) before start = start
start_after a b c these those (Err e) before start = start_of_those a b c these those before start
