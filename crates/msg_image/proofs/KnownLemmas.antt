-- Names that are known, and their numbers.
use Rattle.std.proofs.Common.{◌≡◌, ◌<◌, ◌≤◌, ◌+◌, ℕ, zero, suc, List, [], ◌∷◌, ◌++◌, length, length-append, map, take, Bool, true, false, ◌||◌, not, cond, Option, Some, None, is_some, option_map, slice_get, bytes_eq, refl, sym, ap, ◌∙◌, subst, arith, append_assoc}
use Rattle.std.specs.Prelude.{fold}
use Rattle.std.specs.List.{list_any}
use Rattle.std.proofs.lemmas.List.{append-nil}
use Rattle.std.proofs.lemmas.List.Folds.{list_any-append}
use Rattle.std.proofs.lemmas.Option.{same_Some}
use Rattle.std.proofs.lemmas.Slice.Eq.{bytes_eq-Decides}
use Rattle.msg_names.specs.Numbering.{number_of, with_name}
use Rattle.msg_names.proofs.NumberLemmas.{is_some-number_of, number_stays}
use Rattle.msg_form.specs.Text.{Text, is_among, is_unknown, distinct}
use Rattle.msg_form.specs.Form.{ClassForm}
use Rattle.msg_form.specs.Faults.{is_outside, has_late_superclass}
use Rattle.msg_form.proofs.TextLemmas.{is_among-distinct}
use Rattle.msg_image.proofs.NoneLemmas.{neither}

with_name-le : (names : List Text) (t : Text) → length (with_name names t) ≤ length names + 1
with_name-le names t = at_test (list_any (bytes_eq t) names)
  where
    at_test : (b : Bool) → length (cond b names (names ++ t ∷ [])) ≤ length names + 1
    at_test true = omega arith
    at_test false = omega (arith, length-append names (t ∷ []))

few_fold : (names texts : List Text) → length (fold with_name names texts) ≤ length names + length texts
few_fold names [] = omega arith
few_fold names (t ∷ texts) = omega (arith, few_fold (with_name names t) texts, with_name-le names t)

pub few_distinct : (texts : List Text) → length (distinct texts) ≤ length texts
unfolding distinct
few_distinct texts = omega (arith, few_fold [] texts)

in_range-step : (b : Bool) (r : Option ℕ) (len n : ℕ) → ((m : ℕ) → r ≡ Some m → (0 < m) × (m ≤ len)) → cond b (Some 1) (option_map suc r) ≡ Some n → (0 < n) × (n ≤ suc len)
in_range-step true r len n rest e = let one : 1 ≡ n = same_Some 1 n e in (omega arith, omega arith)
in_range-step false None len n rest e = cc
in_range-step false (Some m) len n rest e = let next : suc m ≡ n = same_Some (suc m) n e in let r = rest m refl in (omega (arith, next), omega (arith, next, r.1))

-- a number is at least 1 and at most the count of the names
number-in_range : (names : List Text) (text : Text) (n : ℕ) → number_of names text ≡ Some n → (0 < n) × (n ≤ length names)
number-in_range [] text n e = cc
number-in_range (name ∷ names) text n e = in_range-step (bytes_eq text name) (number_of names text) (length names) n (number-in_range names text) e

-- a name's number among the different names
pub record HasNumber (names : List Text) (name : Text) : Type 0 where
  pub number : ℕ
  pub is : number_of (distinct names) name ≡ Some number
  pub positive : 0 < number
  pub listed : number ≤ length names
  pub numbered : number ≤ length (distinct names)

pub known : (names : List Text) (name : Text) → is_among name names ≡ true → HasNumber names name
known names name among = at_number (number_of (distinct names) name) refl
  where
    some : is_some (number_of (distinct names) name) ≡ true
    some = sym (is_some-number_of (distinct names) name) ∙ is_among-distinct name names ∙ among

    at_number : (r : Option ℕ) → number_of (distinct names) name ≡ r → HasNumber names name
    at_number None e = let clash : false ≡ true = sym (ap is_some e) ∙ some in absurd cc
    at_number (Some n) e =
        let range = number-in_range (distinct names) name n e in
        record { number = n; is = e; positive = range.0; listed = omega (arith, range.1, few_distinct names); numbered = range.1 }

pub among : (names : List Text) (name : Text) → is_unknown names name ≡ false → is_among name names ≡ true
among names name e = at_test (is_among name names) e
  where
    at_test : (b : Bool) → not b ≡ false → b ≡ true
    at_test true f = refl
    at_test false f = cc

or-true : (b : Bool) → (b || true) ≡ true
or-true true = refl
or-true false = refl

-- a text is among texts in which it is
pub has_text : (s : Text) (xs ys : List Text) → is_among s (xs ++ (s ∷ ys)) ≡ true
has_text s [] ys = rw ((bytes_eq-Decides s s).1 refl) refl
has_text s (x ∷ xs) ys = rw (has_text s xs ys) (or-true (bytes_eq s x))

-- and among more
pub among-first : (s : Text) (xs ys : List Text) → is_among s xs ≡ true → is_among s (xs ++ ys) ≡ true
among-first s xs ys e = list_any-append (bytes_eq s) xs ys ∙ ap (λ b. b || is_among s ys) e

-- texts are all known among themselves
pub none_unknown : (xs ys : List Text) → list_any (is_unknown (xs ++ ys)) ys ≡ false
none_unknown xs [] = refl
none_unknown xs (y ∷ ys) = rw (has_text y xs ys) (rw (append_assoc xs (y ∷ []) ys) at (none_unknown (xs ++ y ∷ []) ys))

fold-append : (names xs ys : List Text) → fold with_name names (xs ++ ys) ≡ fold with_name (fold with_name names xs) ys
fold-append names [] ys = refl
fold-append names (x ∷ xs) ys = fold-append (with_name names x) xs ys

number_stays_on : (names texts : List Text) (t : Text) (n : ℕ) → number_of names t ≡ Some n → number_of (fold with_name names texts) t ≡ Some n
number_stays_on names [] t n e = e
number_stays_on names (s ∷ texts) t n e = number_stays_on (with_name names s) texts t n (number_stays names s t n e)

-- a name that is among the first has the number that it has among them
pub number_of-first : (xs ys : List Text) (name : Text) (n : ℕ) → number_of (distinct xs) name ≡ Some n → number_of (distinct (xs ++ ys)) name ≡ Some n
unfolding distinct
number_of-first xs ys name n e = ap (λ names. number_of names name) (fold-append [] xs ys) ∙ number_stays_on (distinct xs) ys name n e

-- ---- superclasses

pub late : (before : List Text) (s : Text) (o : Option Text) → o ≡ Some s → is_outside before o ≡ false → is_among s before ≡ true
late before s None e f = cc
late before s (Some t) e f = let same : t ≡ s = same_Some t s e in among before s (subst (λ u. is_unknown before u ≡ false) same f)

-- a superclass is the name of a class before
pub earlier : (before : List Text) (cs : List ClassForm) (place : ℕ) (c : ClassForm) (s : Text) → has_late_superclass before cs ≡ false → slice_get cs place ≡ Some c → c.superclass ≡ Some s → is_among s (before ++ map (λ (k : ClassForm). k.name) (take place cs)) ≡ true
earlier before [] place c s none at is = cc
earlier before (x ∷ cs) zero c s none at is =
    let each = neither (is_outside before x.superclass) (has_late_superclass (before ++ x.name ∷ []) cs) none in
    let same : x ≡ c = same_Some x c at in
    let here : is_among s before ≡ true = late before s x.superclass (ap (λ (k : ClassForm). k.superclass) same ∙ is) each.0 in
    rw (append-nil before) here
earlier before (x ∷ cs) (suc place) c s none at is =
    let each = neither (is_outside before x.superclass) (has_late_superclass (before ++ x.name ∷ []) cs) none in
    rw (append_assoc before (x.name ∷ []) (map (λ (k : ClassForm). k.name) (take place cs))) at (earlier (before ++ x.name ∷ []) cs place c s each.1 at is)
