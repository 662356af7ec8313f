-- Texts none of which occurs twice.
use Rattle.std.proofs.Common.{◌≡◌, ℕ, zero, suc, ◌+◌, ◌⊎◌, inl, inr, List, [], ◌∷◌, ◌++◌, length, Option, None, Some, slice_get, refl, sym, ap, ◌∙◌}
use Rattle.std.proofs.lemmas.Option.{same_Some}
use Rattle.msg_names.specs.Numbering.{number_of, with_name, AreNumbered}
use Rattle.msg_names.proofs.NumberLemmas.{number_of-append, next_number, with_name-new, with_name-present}

at_end : (texts : List (List ℕ)) (text : List ℕ) (place : ℕ) (t : List ℕ) → slice_get (texts ++ text ∷ []) place ≡ Some t → (slice_get texts place ≡ Some t) ⊎ ((place ≡ length texts) × (text ≡ t))
at_end [] text zero t e = inr (refl, same_Some text t e)
at_end [] text (suc place) t e = cc
at_end (x ∷ texts) text zero t e = inl e
at_end (x ∷ texts) text (suc place) t e = elim (at_end texts text place t e) [ inl h ↦ inl h | inr h ↦ inr (ap suc h.0, h.1) ]

added : (texts : List (List ℕ)) (text : List ℕ) → number_of texts text ≡ None → number_of (texts ++ text ∷ []) text ≡ Some (length texts + 1)
added texts text new = ap (λ ts. number_of ts text) (sym (with_name-new texts text new)) ∙ next_number texts text new

pushed : (texts : List (List ℕ)) (text : List ℕ) → number_of texts text ≡ None → AreNumbered texts → AreNumbered (texts ++ text ∷ [])
pushed texts text new all place t e =
    elim (at_end texts text place t e) [
      | inl h ↦ number_of-append texts (text ∷ []) t (place + 1) (all place t h)
      | inr h ↦ rw (h.0, ← h.1) (added texts text new)
    ]

-- no text occurs twice after a text is added that wasn't there
pub numbered-with : (texts : List (List ℕ)) (text : List ℕ) → number_of texts text ≡ None → AreNumbered texts → AreNumbered (with_name texts text)
numbered-with texts text new all = rw (with_name-new texts text new) (pushed texts text new all)
