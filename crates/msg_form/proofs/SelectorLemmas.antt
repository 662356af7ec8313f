-- Tests of the texts and lists of a form.
use Rattle.std.proofs.Common.{◌≡◌, List, [], ◌∷◌, length, map, Bor, refl, sym, ap, ◌∙◌, length-append, arith}
use Rattle.std.specs.List.{flat_map, list_any}
use Rattle.std.proofs.lemmas.List.{length-map}
use Rattle.std.proofs.lemmas.Simd.{map-map}
use Rattle.msg_form.specs.Form.{PairForm}
use Rattle.msg_form.specs.Text.{has_duplicate}
use Rattle.msg_form.specs.Views.{pair_view, lists_view}
use Rattle.msg_form.specs.Walk.{list_texts}
use Rattle.msg_form.specs.declared.form.Pair.{Pair}
use Rattle.msg_form.proofs.AnyLemmas.{list_any-map}

-- a selector occurs twice in one of the lists
pub list_repeats : (lists : List (Bor (List Pair))) (all : List (List PairForm)) → lists_view lists ≡ all → list_any (λ l. has_duplicate (map (λ p. p.selector.now) l.now)) lists ≡ list_any (λ l. has_duplicate (list_texts l)) all
list_repeats lists all is =
    let inside : list_any (λ l. has_duplicate (list_texts (map pair_view l.now))) lists ≡ list_any (λ l. has_duplicate (map (λ p. p.selector.now) l.now)) lists = λ i. list_any (λ l. has_duplicate (map-map (λ p. p.selector) pair_view l.now i)) lists in
    sym inside ∙ sym (list_any-map (λ l. has_duplicate (list_texts l)) (λ l. map pair_view l.now) lists) ∙ ap (list_any (λ l. has_duplicate (list_texts l))) is

-- the lists have as many entries as their views
pub length-lists_view : (lists : List (Bor (List Pair))) → length (flat_map (λ l. l) (lists_view lists)) ≡ length (flat_map (λ l. l.now) lists)
length-lists_view [] = refl
length-lists_view (l ∷ lists) = omega (arith, length-append (map pair_view l.now) (flat_map (λ ps. ps) (lists_view lists)), length-append l.now (flat_map (λ ps. ps.now) lists), length-map l.now pair_view, length-lists_view lists)
