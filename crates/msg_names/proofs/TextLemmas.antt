-- Texts that an `IndexSet` holds.
use Rattle.std.proofs.Common.{◌≡◌, ℕ, Bool, true, false, cond, List, [], ◌∷◌, ◌++◌, bytes_eq, refl, sym, ap, ◌∙◌}
use Rattle.std.specs.Prelude.{Vec}
use Rattle.std.specs.Global.{Global}
use Rattle.std.specs.List.{list_any}
use Rattle.std.proofs.lemmas.List.{map-append}
use Rattle.indexmap.specs.IndexSet.{insert_key}
use Rattle.msg_names.proofs.TestLemmas.{list_any-map}
use Rattle.msg_names.specs.Numbering.{with_name}
use Rattle.msg_names.specs.Texts.{texts_of}

abbrev bytes : Vec ℕ Global → List ℕ
bytes k = k.items

abbrev same : Vec ℕ Global → Vec ℕ Global → Bool
same x y = bytes_eq x.items y.items

-- an insert adds the text
pub texts-inserted : (keys after : List (Vec ℕ Global)) (k : Vec ℕ Global) (text : List ℕ) → k.items ≡ text → after ≡ insert_key (λ x y. bytes_eq x.items y.items) keys k → texts_of after ≡ with_name (texts_of keys) text
texts-inserted keys after k text is e =
    ap texts_of e ∙ at_test (list_any (same k) keys) ∙ ap (λ b. cond b (texts_of keys) (texts_of keys ++ k.items ∷ [])) (sym (list_any-map (bytes_eq k.items) bytes keys)) ∙ ap (with_name (texts_of keys)) is
  where
    at_test : (b : Bool) → texts_of (cond b keys (keys ++ k ∷ [])) ≡ cond b (texts_of keys) (texts_of keys ++ k.items ∷ [])
    at_test true = refl
    at_test false = map-append bytes keys (k ∷ [])
