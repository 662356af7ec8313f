-- Names that an `IndexSet` holds.
use Rattle.std.proofs.Common.{◌≡◌, Bool, true, false, cond, List, [], ◌∷◌, ◌++◌, ◌||◌, bytes_eq, Bor, refl, ap, ◌∙◌}
use Rattle.std.proofs.lemmas.List.{map-append}
use Rattle.std.specs.List.{list_any}
use Rattle.indexmap.specs.IndexSet.{insert_key}
use Rattle.msg_names.specs.Numbering.{with_name}
use Rattle.msg_form.specs.Text.{Text, is_among, texts_view}

abbrev pub text_eq : Bor Text → Bor Text → Bool
text_eq x y = bytes_eq x.now y.now

-- a reference is among the keys if its text is among their texts
pub among-texts_view : (ks : List (Bor Text)) (k : Bor Text) → list_any (text_eq k) ks ≡ is_among k.now (texts_view ks)
among-texts_view [] k = refl
among-texts_view (x ∷ ks) k = ap (λ r. bytes_eq k.now x.now || r) (among-texts_view ks k)

-- an insert adds the name
pub texts_view-insert_key : (ks : List (Bor Text)) (k : Bor Text) → texts_view (insert_key text_eq ks k) ≡ with_name (texts_view ks) k.now
texts_view-insert_key ks k = at_test (list_any (text_eq k) ks) ∙ ap (λ b. cond b (texts_view ks) (texts_view ks ++ k.now ∷ [])) (among-texts_view ks k)
  where
    at_test : (b : Bool) → texts_view (cond b ks (ks ++ k ∷ [])) ≡ cond b (texts_view ks) (texts_view ks ++ k.now ∷ [])
    at_test true = refl
    at_test false = map-append (λ t. t.now) ks (k ∷ [])
