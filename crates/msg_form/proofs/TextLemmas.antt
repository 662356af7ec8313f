-- Texts among texts.
use Rattle.std.proofs.Common.{◌≡◌, ℕ, suc, ◌+◌, ◌<◌, ◌≤◌, Bool, true, false, cond, not, ◌||◌, List, [], ◌∷◌, ◌++◌, length, map, drop, get_or, bytes_eq, refl, sym, ap, ◌∙◌, drop-cons, add-one, length-append, arith, append-nil, append_assoc}
use Rattle.std.specs.Prelude.{fold}
use Rattle.std.specs.List.{list_any}
use Rattle.std.proofs.lemmas.List.Folds.{list_any-append}
use Rattle.std.proofs.lemmas.Slice.Eq.{bytes_eq-Decides}
use Rattle.msg_names.specs.Numbering.{with_name}
use Rattle.msg_form.specs.Text.{repeats, Text, is_among, has_duplicate, distinct}

pub or-false : (b : Bool) → (b || false) ≡ b
or-false true = refl
or-false false = refl

pub bytes_eq-sym : (s t : Text) → bytes_eq s t ≡ bytes_eq t s
bytes_eq-sym s t = at_test (bytes_eq s t) (bytes_eq t s) refl refl
  where
    at_test : (a b : Bool) → bytes_eq s t ≡ a → bytes_eq t s ≡ b → a ≡ b
    at_test true true e f = refl
    at_test false false e f = refl
    at_test true false e f = sym ((bytes_eq-Decides t s).1 (sym ((bytes_eq-Decides s t).0 e))) ∙ f
    at_test false true e f = sym e ∙ (bytes_eq-Decides s t).1 (sym ((bytes_eq-Decides t s).0 f))

pub among_last : (q : Text) (names : List Text) (t : Text) → is_among q (names ++ t ∷ []) ≡ (is_among q names || bytes_eq q t)
among_last q names t = list_any-append (bytes_eq q) names (t ∷ []) ∙ ap (λ r. is_among q names || r) (or-false (bytes_eq q t))

-- a name that is added is among the names, with those before
pub is_among-with_name : (q : Text) (names : List Text) (t : Text) → is_among q (with_name names t) ≡ (is_among q names || bytes_eq q t)
is_among-with_name q names t = at_test (is_among t names) (bytes_eq q t) refl refl
  where
    at_test : (present same : Bool) → is_among t names ≡ present → bytes_eq q t ≡ same → is_among q (cond present names (names ++ t ∷ [])) ≡ (is_among q names || bytes_eq q t)
    at_test false same e f = among_last q names t
    at_test true false e f = rw f (sym (or-false (is_among q names)))
    at_test true true e f = let is : is_among q names ≡ true = ap (λ u. is_among u names) ((bytes_eq-Decides q t).0 f) ∙ e in rw is

pub or-assoc : (a b c : Bool) → ((a || b) || c) ≡ (a || (b || c))
or-assoc true b c = refl
or-assoc false b c = refl

is_among-fold : (q : Text) (names texts : List Text) → is_among q (fold with_name names texts) ≡ (is_among q names || is_among q texts)
is_among-fold q names [] = sym (or-false (is_among q names))
is_among-fold q names (t ∷ texts) = is_among-fold q (with_name names t) texts ∙ ap (λ b. b || is_among q texts) (is_among-with_name q names t) ∙ or-assoc (is_among q names) (bytes_eq q t) (is_among q texts)

-- the texts among the different texts are the texts
pub is_among-distinct : (q : Text) (texts : List Text) → is_among q (distinct texts) ≡ is_among q texts
unfolding distinct
is_among-distinct q texts = is_among-fold q [] texts

-- ---- a text that occurs twice, or among those that were seen

any_among : (seen : List Text) (t : Text) (texts : List Text) → list_any (λ u. is_among u (with_name seen t)) texts ≡ (list_any (λ u. is_among u seen) texts || is_among t texts)
any_among seen t [] = refl
any_among seen t (u ∷ texts) =
    (λ i. is_among-with_name u seen t i || any_among seen t texts i) ∙ ap (λ b. (is_among u seen || b) || (list_any (λ v. is_among v seen) texts || is_among t texts)) (bytes_eq-sym u t)
    ∙ regroup (is_among u seen) (bytes_eq t u) (list_any (λ v. is_among v seen) texts) (is_among t texts)
  where
    regroup : (a b c d : Bool) → ((a || b) || (c || d)) ≡ ((a || c) || (b || d))
    regroup true b c d = refl
    regroup false true true d = refl
    regroup false true false d = refl
    regroup false false true d = refl
    regroup false false false d = refl

-- a text repeats if it was seen, or if a later one does
pub repeats-step : (seen : List Text) (t : Text) (texts : List Text) → repeats seen (t ∷ texts) ≡ (is_among t seen || repeats (with_name seen t) texts)
repeats-step seen t texts = or-assoc (is_among t seen) (list_any (λ u. is_among u seen) texts) (is_among t texts || has_duplicate texts) ∙ ap (λ b. is_among t seen || b) (sym later)
  where
    later : repeats (with_name seen t) texts ≡ (list_any (λ u. is_among u seen) texts || (is_among t texts || has_duplicate texts))
    later = ap (λ b. b || has_duplicate texts) (any_among seen t texts) ∙ or-assoc (list_any (λ u. is_among u seen) texts) (is_among t texts) (has_duplicate texts)

pub repeats-none : (texts : List Text) → repeats [] texts ≡ has_duplicate texts
repeats-none texts = ap (λ b. b || has_duplicate texts) (none texts)
  where
    none : (ts : List Text) → list_any (λ t. is_among t []) ts ≡ false
    none [] = refl
    none (t ∷ ts) = none ts

-- the names of two lists are added, one after the other
pub fold-append : (names xs ys : List Text) → fold with_name names (xs ++ ys) ≡ fold with_name (fold with_name names xs) ys
fold-append names [] ys = refl
fold-append names (x ∷ xs) ys = fold-append (with_name names x) xs ys

neither : (a b : Bool) → (a || b) ≡ false → (a ≡ false) × (b ≡ false)
neither true b e = cc
neither false b e = (refl, e)

distinct-on : (seen texts : List Text) → repeats seen texts ≡ false → fold with_name seen texts ≡ seen ++ texts
distinct-on seen [] e = sym (append-nil seen)
distinct-on seen (t ∷ texts) e =
    let each = neither (is_among t seen) (repeats (with_name seen t) texts) (sym (repeats-step seen t texts) ∙ e) in
    let grown : with_name seen t ≡ seen ++ t ∷ [] = rw each.0 refl in
    distinct-on (with_name seen t) texts each.1 ∙ ap (λ n. n ++ texts) grown ∙ append_assoc seen (t ∷ []) texts

-- texts none of which occurs twice are their different texts
pub distinct-same : (texts : List Text) → has_duplicate texts ≡ false → distinct texts ≡ texts
unfolding distinct
distinct-same texts e = distinct-on [] texts (repeats-none texts ∙ e)

-- a text of two lists repeats in the first, or in the second after the texts of the first
pub repeats-append : (seen xs ys : List Text) → repeats seen (xs ++ ys) ≡ (repeats seen xs || repeats (fold with_name seen xs) ys)
repeats-append seen [] ys = refl
repeats-append seen (x ∷ xs) ys =
    repeats-step seen x (xs ++ ys) ∙ ap (λ b. is_among x seen || b) (repeats-append (with_name seen x) xs ys)
    ∙ sym (or-assoc (is_among x seen) (repeats (with_name seen x) xs) (repeats (fold with_name (with_name seen x) xs) ys))
    ∙ ap (λ b. b || repeats (fold with_name (with_name seen x) xs) ys) (sym (repeats-step seen x xs))

-- at most as many different texts as there are texts
pub length-distinct : (texts : List Text) → length (distinct texts) ≤ length texts
unfolding distinct
length-distinct texts = let all = on [] texts in omega (arith, all)
  where
    one : (names : List Text) (t : Text) (b : Bool) → length (cond b names (names ++ t ∷ [])) ≤ length names + 1
    one names t true = omega arith
    one names t false = let n = length-append names (t ∷ []) in omega (arith, n)

    on : (names ts : List Text) → length (fold with_name names ts) ≤ length names + length ts
    on names [] = omega arith
    on names (t ∷ ts) = let rest = on (with_name names t) ts in let first = one names t (is_among t names) in omega (arith, rest, first)

-- a turn of the loop that adds the keys
pub added_on : {A : Type 0} (f : A → Text) (xs : List A) (i : ℕ) (x : A) (t : Text) (seen after whole : List Text) → i < length xs → x ≡ get_or xs i x → t ≡ f x → after ≡ with_name seen t
    → fold with_name seen (map f (drop i xs)) ≡ whole → fold with_name after (map f (drop (i + 1) xs)) ≡ whole
added_on f xs i x t seen after whole lt at is grown so_far =
    let left : map f (drop i xs) ≡ t ∷ map f (drop (i + 1) xs) = rw (add-one, is) (ap (map f) (drop-cons xs i x lt ∙ ap (λ y. y ∷ drop (suc i) xs) (sym at))) in
    ap (λ ns. fold with_name ns (map f (drop (i + 1) xs))) grown ∙ sym (ap (fold with_name seen) left) ∙ so_far

-- added names take no name away
pub fold_grows : (names texts : List Text) → length names ≤ length (fold with_name names texts)
fold_grows names [] = omega arith
fold_grows names (t ∷ texts) = let more : length names ≤ length (with_name names t) = at_test (is_among t names) in omega (arith, fold_grows (with_name names t) texts)
  where
    at_test : (b : Bool) → length names ≤ length (cond b names (names ++ t ∷ []))
    at_test true = omega arith
    at_test false = simp length-append (omega arith)

-- ---- a test of texts is a test of the different texts

present : (p : Text → Bool) (t : Text) (names : List Text) → is_among t names ≡ true → list_any p names ≡ (list_any p names || p t)
present p t [] h = cc
present p t (n ∷ names) h = at_test (bytes_eq t n) refl (list_any p names) (present p t names)
  where
    regroup : (a b c : Bool) → b ≡ (b || c) → (a || b) ≡ ((a || b) || c)
    regroup true b c e = refl
    regroup false b c e = e

    same : (a b : Bool) → (a || b) ≡ ((a || b) || a)
    same true b = refl
    same false b = sym (or-false b)

    at_test : (b : Bool) → bytes_eq t n ≡ b → (r : Bool) → (is_among t names ≡ true → r ≡ (r || p t)) → (p n || r) ≡ ((p n || r) || p t)
    at_test true e r rest = rw ((bytes_eq-Decides t n).0 e) (same (p n) r)
    at_test false e r rest = regroup (p n) r (p t) (rest (sym (ap (λ b. b || is_among t names) e) ∙ h))

any_with_name : (p : Text → Bool) (names : List Text) (t : Text) → list_any p (with_name names t) ≡ (list_any p names || p t)
any_with_name p names t = at_test (is_among t names) refl
  where
    at_test : (b : Bool) → is_among t names ≡ b → list_any p (cond b names (names ++ t ∷ [])) ≡ (list_any p names || p t)
    at_test true e = present p t names e
    at_test false e = list_any-append p names (t ∷ []) ∙ ap (λ b. list_any p names || b) (or-false (p t))

any_fold : (p : Text → Bool) (names texts : List Text) → list_any p (fold with_name names texts) ≡ (list_any p names || list_any p texts)
any_fold p names [] = sym (or-false (list_any p names))
any_fold p names (t ∷ texts) = any_fold p (with_name names t) texts ∙ ap (λ b. b || list_any p texts) (any_with_name p names t) ∙ or-assoc (list_any p names) (p t) (list_any p texts)

pub any_distinct : (p : Text → Bool) (texts : List Text) → list_any p (distinct texts) ≡ list_any p texts
unfolding distinct
any_distinct p texts = any_fold p [] texts

-- ---- the different texts among different texts

fold-last : (names texts : List Text) (t : Text) → fold with_name names (texts ++ t ∷ []) ≡ with_name (fold with_name names texts) t
fold-last names [] t = refl
fold-last names (u ∷ texts) t = fold-last (with_name names u) texts t

distinct-with_name : (names : List Text) (t : Text) → distinct (with_name names t) ≡ with_name (distinct names) t
unfolding distinct
distinct-with_name names t = at_test (is_among t names) refl
  where
    at_test : (b : Bool) → is_among t names ≡ b → fold with_name [] (cond b names (names ++ t ∷ [])) ≡ with_name (fold with_name [] names) t
    at_test true e = let there : is_among t (fold with_name [] names) ≡ true = is_among-fold t [] names ∙ e in sym (ap (λ b. cond b (fold with_name [] names) (fold with_name [] names ++ t ∷ [])) there)
    at_test false e = fold-last [] names t

distinct-fold : (names texts : List Text) → distinct (fold with_name names texts) ≡ fold with_name (distinct names) texts
distinct-fold names [] = refl
distinct-fold names (t ∷ texts) = distinct-fold (with_name names t) texts ∙ ap (λ ns. fold with_name ns texts) (distinct-with_name names t)

pub distinct-distinct : (texts : List Text) → distinct (distinct texts) ≡ distinct texts
unfolding distinct
distinct-distinct texts = distinct-fold [] texts

-- ---- names that are collected, with a mark that says whether one came twice

-- a turn of the loop over the parts with the names f
pub twice_on : {A : Type 0} (f : A → Text) (xs : List A) (i : ℕ) (x : A) (t : Text) (added twice : Bool) (seen after : List Text) (whole : Bool) → i < length xs → x ≡ get_or xs i x → t ≡ f x
    → added ≡ not (is_among t seen) → after ≡ with_name seen t → (twice || repeats seen (map f (drop i xs))) ≡ whole → ((twice || not added) || repeats after (map f (drop (i + 1) xs))) ≡ whole
twice_on f xs i x t added twice seen after whole lt at is put grown so_far =
    let left : map f (drop i xs) ≡ t ∷ map f (drop (i + 1) xs) = rw (add-one, is) (ap (map f) (drop-cons xs i x lt ∙ ap (λ y. y ∷ drop (suc i) xs) (sym at))) in
    let rest = map f (drop (i + 1) xs) in
    let new : not added ≡ is_among t seen = ap not put ∙ not-not (is_among t seen) in
    (λ j. (twice || new j) || repeats (grown j) rest) ∙ or-assoc twice (is_among t seen) (repeats (with_name seen t) rest) ∙ ap (λ b. twice || b) (sym (ap (repeats seen) left ∙ repeats-step seen t rest)) ∙ so_far
  where
    not-not : (b : Bool) → not (not b) ≡ b
    not-not true = refl
    not-not false = refl
