-- Names that an `IndexSet` holds.
use Rattle.std.proofs.Common.{◌≡◌, ℕ, suc, ◌+◌, ◌≤◌, Result, Ok, Err, Bool, true, false, cond, not, ◌||◌, List, [], ◌∷◌, ◌++◌, length, map, Option, None, Some, option_map, position, String, Global, string_bytes, bytes_eq, refl, sym, ap, ◌∙◌, arith}
use Rattle.std.specs.Prelude.{nat_lt, OnOk, OnErr}
use Rattle.std.specs.List.{list_any}
use Rattle.std.specs.String.{string_eq}
use Rattle.std.proofs.lemmas.Bool.Decides.{nat_tests}
use Rattle.std.proofs.lemmas.List.{map-append, length-map}
use Rattle.indexmap.specs.IndexSet.{insert_key}
use Rattle.msg_names.specs.declared.names.TheConstants.{MAX_NAMES}
use Rattle.msg_names.proofs.TestLemmas.{list_any-map}
use Rattle.msg_names.specs.Name.{is_selector_name}
use Rattle.msg_names.specs.Numbering.{number_of, with_name, AreNames}
use Rattle.msg_names.proofs.NumberLemmas.{names-with_name}

-- a place, if it is one
abbrev place : ℕ → ℕ → Option ℕ
place n len = cond (nat_lt n len) (Some n) None

found : (b : Bool) (n len : ℕ) (r : Option ℕ) → r ≡ option_map suc (place n len) → cond b (Some 1) (option_map suc r) ≡ option_map suc (place (cond (not b) (1 + n) 0) (suc len))
found true n len r e = let k : nat_lt 0 (suc len) ≡ true = grind (arith, nat_tests) in rw k refl
found false n len r e = at_test (nat_lt n len) refl
  where
    at_test : (t : Bool) → nat_lt n len ≡ t → option_map suc r ≡ option_map suc (place (1 + n) (suc len))
    at_test true h = let k : nat_lt (1 + n) (suc len) ≡ true = grind (arith, nat_tests) in rw (e, h, k) (ap Some (omega arith))
    at_test false h = let k : nat_lt (1 + n) (suc len) ≡ false = grind (arith, nat_tests) in rw (e, h, k)

-- the number of a text is one more than its place in the set
pub number_of-position : {K : Type 0} (text_of : K → List ℕ) (keys : List K) (text : List ℕ) → number_of (map text_of keys) text ≡ option_map suc (position (λ k. bytes_eq text (text_of k)) keys)
number_of-position text_of [] text = refl
number_of-position text_of (k ∷ keys) text = found (bytes_eq text (text_of k)) _ (length keys) _ (number_of-position text_of keys text)

-- an insert adds the name
pub names-insert_key : (keys after : List (String Global)) (k : String Global) (text : List ℕ) → string_bytes k ≡ text → after ≡ insert_key string_eq keys k → map string_bytes after ≡ with_name (map string_bytes keys) text
names-insert_key keys after k text is e =
    ap (map string_bytes) e ∙ at_test (list_any (string_eq k) keys) ∙ ap (λ b. cond b (map string_bytes keys) (map string_bytes keys ++ string_bytes k ∷ [])) (sym (list_any-map (bytes_eq (string_bytes k)) string_bytes keys)) ∙ ap (with_name (map string_bytes keys)) is
  where
    at_test : (b : Bool) → map string_bytes (cond b keys (keys ++ k ∷ [])) ≡ cond b (map string_bytes keys) (map string_bytes keys ++ string_bytes k ∷ [])
    at_test true = refl
    at_test false = map-append string_bytes keys (k ∷ [])

-- the names after an intern, whatever it returned
pub names-interned : {T E : Type 0} (r : Result T E) (keys after : List (String Global)) (text : List ℕ) → OnOk r (map string_bytes after ≡ with_name (map string_bytes keys) text) → OnErr r (after ≡ keys) → length after ≤ MAX_NAMES
    → is_selector_name text ≡ true → AreNames (map string_bytes keys) → AreNames (map string_bytes after)
names-interned (Ok x) keys after text grown same few good all =
    let count : length (with_name (map string_bytes keys) text) ≤ MAX_NAMES = omega (arith, few, length-map after string_bytes, ap length grown) in
    rw grown (names-with_name (map string_bytes keys) text all good count)
names-interned (Err e) keys after text grown same few good all = rw same all
