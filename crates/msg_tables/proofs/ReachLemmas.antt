-- What is marked for a list of changes that was made.
use Rattle.std.proofs.Common.{◌≡◌, ℕ, ◌<◌, ◌+◌, List, [], ◌∷◌, ◌++◌, Some, Bool, true, false, length, refl, slice_index_or, sym, ap, subst, take, ◌∙◌}
use Rattle.std.proofs.lemmas.Bool.{or_left, or_right}
use Rattle.std.proofs.lemmas.List.{take_more}
use Rattle.std.specs.Prelude.{◌||◌, ◌==◌, IfErr, OnOk, Result, Ok, Err}
use Rattle.msg_names.specs.declared.value.ClassRef.{ClassRef}
use Rattle.msg_tables.specs.Affected.{at_most_one}
use Rattle.msg_tables.specs.Chain.{is_member}
use Rattle.msg_tables.specs.declared.change.Change.{Change}
use Rattle.msg_tables.specs.declared.entry.Entry.{Entry}
use Rattle.msg_tables.specs.Journal.{classes_of, place_of, places_of}
use Rattle.msg_tables.specs.Log.{Log, chain_at, table}
use Rattle.msg_tables.specs.Making.{IsMade, IsMarkedBelow, MarksTold, ReachesAll, is_told}
use Rattle.msg_tables.specs.Marking.{is_marked}
use Rattle.msg_tables.specs.Order.{IsOrder}
use Rattle.msg_tables.specs.Several.{and_all, is_affected_by_all, is_below, is_of_one}
use Rattle.msg_tables.specs.View.{TablesView}
use Rattle.msg_tables.proofs.AffectedAllLemmas.{told-all, told-append}
use Rattle.msg_tables.proofs.PresenceLemmas.{Ordered}
use Rattle.msg_tables.proofs.ToldLemmas.{told-only}

or-over : (a b c : Bool) → ((a || b) || c) ≡ (a || (b || c))
or-over true b c = refl
or-over false b c = refl

-- truths that follow from one another are equal
same-truth : (a b : Bool) → (a ≡ true → b ≡ true) → (b ≡ true → a ≡ true) → a ≡ b
same-truth true true f g = refl
same-truth true false f g = sym (f refl)
same-truth false true f g = g refl
same-truth false false f g = refl

pub either-way : {A B P Q : Type 0} {R : B → Type 0} (r : Result A B) → OnOk r P → IfErr r R → (P → Q) → ((e : B) → R e → Q) → Q
either-way (Ok a) ok err f g = f ok
either-way (Err e) ok err f g = g e err

-- ---- entry by entry

-- one more entry
pub marks-next : (t : TablesView) (es : List Entry) (i : ℕ) (e : Entry) (first mid last : List Bool) → i < length es → e ≡ slice_index_or es i e → MarksTold t (take i es) first mid → MarksTold t (e ∷ []) mid last → MarksTold t (take (i + 1) es) first last
marks-next t es i e first mid last inside is so-far one h stands c lt =
    one h stands c lt
    ∙ ap (λ b. b || is_told h (e ∷ []) c) (so-far h stands c lt)
    ∙ or-over (is_marked first c) (is_told h (take i es) c) (is_told h (e ∷ []) c)
    ∙ ap (λ b. is_marked first c || b) (sym (told-append h (take i es) (e ∷ []) c))
    ∙ ap (λ ys. is_marked first c || is_told h ys c) (sym (take_more es i e inside ∙ ap (λ x. take i es ++ x ∷ []) (sym is)))

-- what an entry describes is below its place
pub told-below : (h : Log) (e : Entry) (p c : ClassRef) → place_of e ≡ Some p → is_member p (chain_at h c) ≡ true → is_told h (e ∷ []) c ≡ true
told-below h e p c is below =
    or_right (is_of_one (classes_of (e ∷ [])) c) (is_below h (places_of (e ∷ [])) c)
    (ap (λ o. is_below h (at_most_one o ++ []) c) is ∙ or_left (is_member p (chain_at h c)) false below)

-- what is below a place stays marked if more is
pub stays-marked : (t : TablesView) (es : List Entry) (first last : List Bool) (p : ClassRef) → MarksTold t es first last → IsMarkedBelow t first p → IsMarkedBelow t last p
stays-marked t es first last p marks is h stands c lt below = marks h stands c lt ∙ or_left (is_marked first c) (is_told h es c) (is h stands c lt below)

pub marked-below : (t : TablesView) (e : Entry) (first last : List Bool) (p : ClassRef) → MarksTold t (e ∷ []) first last → place_of e ≡ Some p → IsMarkedBelow t last p
marked-below t e first last p marks is h stands c lt below = marks h stands c lt ∙ or_right (is_marked first c) (is_told h (e ∷ []) c) (told-below h e p c is below)

-- ---- a list

-- what the journal of a list describes is what the list affects
pub reaches-told : (xs : List Change) (journal : List Entry) (old new : TablesView) (first last : List Bool) (order : List ℕ) → IsOrder old.supers order → IsMade xs journal old new → MarksTold new journal first last → ReachesAll xs old first last
reaches-told xs journal old new first last order is made marks h stands c lt =
    let (all, after) = made.stands h stands in
    let o : Ordered (table h).supers = subst Ordered stands.supers (record { order = order; is = is }) in
    marks (and_all h xs) after c (subst (λ n. c.class < n) (sym made.beside.count) lt)
    ∙ ap (λ b. is_marked first c || b) (same-truth (is_told (and_all h xs) journal c) (is_affected_by_all h xs c)
    (told-only h xs journal c o all made.made (made.places h stands))
    (told-all h xs journal c o all made.made (made.places h stands)))
