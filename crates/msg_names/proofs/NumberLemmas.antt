-- Numbers in a list of names.
use Rattle.std.proofs.Common.{◌≡◌, ℕ, zero, suc, ◌+◌, ◌-◌, ◌<◌, ◌≤◌, ◌⊎◌, inl, inr, Bool, true, false, cond, ◌&&◌, ◌||◌, not, List, [], ◌∷◌, ◌++◌, length, Option, None, Some, option_map, is_some, slice_get, bytes_eq, refl, sym, ap, ◌∙◌, arith}
use Rattle.std.specs.Prelude.{nat_le, slice_index, ◌==◌}
use Rattle.std.specs.List.{list_any, list_all}
use Rattle.std.proofs.lemmas.Bool.Decides.{nat_tests}
use Rattle.std.proofs.lemmas.List.Folds.{list_all-append}
use Rattle.std.proofs.lemmas.Option.{same_Some}
use Rattle.std.proofs.lemmas.Slice.Eq.{bytes_eq-Decides}
use Rattle.msg_names.specs.declared.names.TheConstants.{MAX_NAMES}
use Rattle.msg_names.specs.Name.{is_selector_name, is_sized, starts_with_digit, is_selector_byte, ends_in_its_colons, colons_of, colon}
use Rattle.msg_names.specs.Numbering.{number_of, name_at, with_name, AreNumbered, AreNames}

-- the place of a number
at_place : (b : Bool) (r : Option ℕ) (name text : List ℕ) (names : List (List ℕ)) (n : ℕ) → (b ≡ true → text ≡ name) → ((m : ℕ) → r ≡ Some m → (0 < m) × (slice_get names (m - 1) ≡ Some text))
    → cond b (Some 1) (option_map suc r) ≡ Some n → (0 < n) × (slice_get (name ∷ names) (n - 1) ≡ Some text)
at_place true r name text names n same rest e =
    let one : 1 ≡ n = same_Some 1 n e in
    (omega arith, rw (← one) (ap Some (sym (same refl))))
at_place false None name text names n same rest e = cc
at_place false (Some zero) name text names n same rest e = absurd (omega (arith, (rest zero refl).0))
at_place false (Some (suc m)) name text names n same rest e =
    let two : suc (suc m) ≡ n = same_Some (suc (suc m)) n e in
    let place : n - 1 ≡ suc m = omega arith in
    (omega arith, rw place (rest-place (rest (suc m) refl).1))
  where
    rest-place : slice_get names (suc m - 1) ≡ Some text → slice_get (name ∷ names) (suc m) ≡ Some text
    rest-place h = let p : suc m - 1 ≡ m = omega arith in rw p at h

named : (names : List (List ℕ)) (text : List ℕ) (n : ℕ) → number_of names text ≡ Some n → (0 < n) × (slice_get names (n - 1) ≡ Some text)
named [] text n e = cc
named (name ∷ names) text n e = at_place (bytes_eq text name) (number_of names text) name text names n (bytes_eq-Decides text name).0 (named names text) e

-- the text that has a number is the name of that number
pub name_at-number_of : (names : List (List ℕ)) (text : List ℕ) (n : ℕ) → number_of names text ≡ Some n → name_at names n ≡ Some text
name_at-number_of names text n e = (named names text n e).1

pub same_number : (names : List (List ℕ)) (s t : List ℕ) (n : ℕ) → number_of names s ≡ Some n → number_of names t ≡ Some n → s ≡ t
same_number names s t n e f = same_Some s t (sym (name_at-number_of names s n e) ∙ name_at-number_of names t n f)

kept : (b : Bool) (r q : Option ℕ) (n : ℕ) → ((m : ℕ) → r ≡ Some m → q ≡ Some m) → cond b (Some 1) (option_map suc r) ≡ Some n → cond b (Some 1) (option_map suc q) ≡ Some n
kept true r q n rest e = e
kept false None q n rest e = cc
kept false (Some m) q n rest e = rw (rest m refl) e

-- names at the end change no number
pub number_of-append : (names more : List (List ℕ)) (text : List ℕ) (n : ℕ) → number_of names text ≡ Some n → number_of (names ++ more) text ≡ Some n
number_of-append [] more text n e = cc
number_of-append (name ∷ names) more text n e = kept (bytes_eq text name) (number_of names text) (number_of (names ++ more) text) n (number_of-append names more text) e

pub number_stays : (names : List (List ℕ)) (s t : List ℕ) (n : ℕ) → number_of names t ≡ Some n → number_of (with_name names s) t ≡ Some n
number_stays names s t n e = at_test (list_any (bytes_eq s) names)
  where
    at_test : (b : Bool) → number_of (cond b names (names ++ s ∷ [])) t ≡ Some n
    at_test true = e
    at_test false = number_of-append names (s ∷ []) t n e

-- a text is among the names exactly if it has a number
pub is_some-number_of : (names : List (List ℕ)) (text : List ℕ) → list_any (bytes_eq text) names ≡ is_some (number_of names text)
is_some-number_of [] text = refl
is_some-number_of (name ∷ names) text = ap (λ r. bytes_eq text name || r) (is_some-number_of names text) ∙ step (bytes_eq text name) (number_of names text)
  where
    step : (b : Bool) (r : Option ℕ) → (b || is_some r) ≡ is_some (cond b (Some 1) (option_map suc r))
    step true r = refl
    step false None = refl
    step false (Some n) = refl

last : (b : Bool) (r q : Option ℕ) (n : ℕ) → cond b (Some 1) (option_map suc r) ≡ None → (r ≡ None → q ≡ Some (n + 1)) → cond b (Some 1) (option_map suc q) ≡ Some (suc n + 1)
last true r q n e rest = cc
last false None q n e rest = rw (rest refl) (ap Some (omega arith))
last false (Some m) q n e rest = cc

pushed : (names : List (List ℕ)) (text : List ℕ) → number_of names text ≡ None → number_of (names ++ text ∷ []) text ≡ Some (length names + 1)
pushed [] text e = rw ((bytes_eq-Decides text text).1 refl) refl
pushed (name ∷ names) text e = last (bytes_eq text name) (number_of names text) (number_of (names ++ text ∷ []) text) (length names) e (pushed names text)

pub with_name-new : (names : List (List ℕ)) (text : List ℕ) → number_of names text ≡ None → with_name names text ≡ names ++ text ∷ []
with_name-new names text e = let none : list_any (bytes_eq text) names ≡ false = is_some-number_of names text ∙ ap is_some e in rw none refl

pub with_name-present : (names : List (List ℕ)) (text : List ℕ) (n : ℕ) → number_of names text ≡ Some n → with_name names text ≡ names
with_name-present names text n e = let some : list_any (bytes_eq text) names ≡ true = is_some-number_of names text ∙ ap is_some e in rw some refl

-- a new name has the next number
pub next_number : (names : List (List ℕ)) (text : List ℕ) → number_of names text ≡ None → number_of (with_name names text) text ≡ Some (length names + 1)
next_number names text e = ap (λ ns. number_of ns text) (with_name-new names text e) ∙ pushed names text e

four_parts : (a b c d e : Bool) → (a && (b && (c && (d && e)))) ≡ true → d ≡ true
four_parts true true true true e h = refl
four_parts true true true false e h = cc
four_parts true true false d e h = cc
four_parts true false c d e h = cc
four_parts false b c d e h = cc

-- a selector name has at most four colons
pub few_colons : (text : List ℕ) → is_selector_name text ≡ true → colons_of text ≤ 4
unfolding is_selector_name ends_in_its_colons
few_colons text h =
    let k : nat_le (colons_of text) 4 ≡ true = four_parts (is_sized text) (not (starts_with_digit text)) (list_all is_selector_byte text) (nat_le (colons_of text) 4) ((colons_of text == 0) || (slice_index text (length text - 1) == colon)) h in
    grind (arith, nat_tests)

passes : {A : Type 0} (p : A → Bool) (xs : List A) (i : ℕ) (x : A) → list_all p xs ≡ true → slice_get xs i ≡ Some x → p x ≡ true
passes p [] i x all e = cc
passes p (y ∷ ys) zero x all e = ap p (sym (same_Some y x e)) ∙ first (p y) (list_all p ys) all
  where
    first : (a b : Bool) → (a && b) ≡ true → a ≡ true
    first true b h = refl
    first false b h = cc
passes p (y ∷ ys) (suc i) x all e = passes p ys i x (second (p y) (list_all p ys) all) e
  where
    second : (a b : Bool) → (a && b) ≡ true → b ≡ true
    second true b h = h
    second false b h = cc

-- each of the names has at most four colons
pub few_colons_at : (names : List (List ℕ)) (place : ℕ) (text : List ℕ) → AreNames names → slice_get names place ≡ Some text → colons_of text ≤ 4
few_colons_at names place text all e = few_colons text (passes is_selector_name names place text all.named e)

at_end : (names : List (List ℕ)) (text : List ℕ) (place : ℕ) (name : List ℕ) → slice_get (names ++ text ∷ []) place ≡ Some name → (slice_get names place ≡ Some name) ⊎ ((place ≡ length names) × (text ≡ name))
at_end [] text zero name e = inr (refl, same_Some text name e)
at_end [] text (suc place) name e = cc
at_end (x ∷ names) text zero name e = inl e
at_end (x ∷ names) text (suc place) name e = elim (at_end names text place name e) [ inl h ↦ inl h | inr h ↦ inr (ap suc h.0, h.1) ]

numbered-push : (names : List (List ℕ)) (text : List ℕ) → number_of names text ≡ None → AreNumbered names → AreNumbered (names ++ text ∷ [])
numbered-push names text new all place name e =
    elim (at_end names text place name e) [
      | inl h ↦ number_of-append names (text ∷ []) name (place + 1) (all place name h)
      | inr h ↦ rw (h.0, ← h.1) (pushed names text new)
    ]

-- names stay names if a selector name is added that finds room
pub names-with_name : (names : List (List ℕ)) (text : List ℕ) → AreNames names → is_selector_name text ≡ true → length (with_name names text) ≤ MAX_NAMES → AreNames (with_name names text)
names-with_name names text all good few = at_number (number_of names text) refl
  where
    at_number : (r : Option ℕ) → number_of names text ≡ r → AreNames (with_name names text)
    at_number (Some n) e = rw (with_name-present names text n e) all
    at_number None e = rw (with_name-new names text e) (record {
      few = rw (with_name-new names text e) at few;
      named = list_all-append is_selector_name names (text ∷ []) ∙ rw (all.named, good) refl;
      numbered = numbered-push names text e all.numbered;
    })
