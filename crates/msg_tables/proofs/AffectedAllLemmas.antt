-- After all changes of a list are made, what the list made and where it wrote give what it affects.
use Rattle.std.proofs.Common.{◌≡◌, ◌<◌, ◌+◌, ◌⊎◌, ℕ, List, [], ◌∷◌, ◌++◌, length, take, Bool, true, false, refl, sym, ap, ap₂, ◌∙◌, subst, inl, inr}
use Rattle.std.specs.Prelude.{◌||◌, ◌==◌, slice_index_or}
use Rattle.std.specs.List.{list_any}
use Rattle.std.proofs.lemmas.List.{take_more}
use Rattle.std.proofs.lemmas.List.Folds.{list_any-append}
use Rattle.msg_names.specs.declared.value.ClassRef.{ClassRef}
use Rattle.msg_tables.specs.declared.change.Change.{Change}
use Rattle.msg_tables.specs.declared.change.Change.TheVariants.{Add, Replace, SetImp, Exchange, Attach, AddClass, Remove, DisposeClass}
use Rattle.msg_tables.specs.Affected.{is_affected, is_of_made, written_refs}
use Rattle.msg_tables.specs.Chain.{is_member}
use Rattle.msg_tables.specs.declared.entry.Entry.{Entry}
use Rattle.msg_tables.specs.Journal.{ArePlacesOf, places_of, classes_of}
use Rattle.msg_names.specs.ClassRef.{same_class}
use Rattle.msg_names.proofs.ClassRefLemmas.{same_class-is, same_class-refl}
use Rattle.msg_tables.specs.Log.{Log, and_then, chain_at, table}
use Rattle.msg_tables.specs.Making.{is_told}
use Rattle.msg_tables.proofs.NoteLemmas.{classes-append, or-swap, places-append}
use Rattle.msg_tables.specs.Refusal.{AreAccepted}
use Rattle.msg_tables.specs.Several.{and_all, is_affected_by_all, is_below, is_of_one, made_by, made_by_all, written_by_all}
use Rattle.msg_tables.proofs.BelowAllLemmas.{apart-both, chain-all}
use Rattle.msg_tables.proofs.PresenceLemmas.{Ordered, ordered-and_then}

pub or-left : (a b : Bool) → a ≡ true → (a || b) ≡ true
or-left true b e = refl
or-left false b e = cc

pub or-right : (a b : Bool) → b ≡ true → (a || b) ≡ true
or-right true b e = refl
or-right false b e = e

pub or-cases : {P : Type 0} (a b : Bool) → (a || b) ≡ true → (a ≡ true → P) → (b ≡ true → P) → P
or-cases true b e f g = f refl
or-cases false b e f g = g e

-- ---- places

pub below-append : (h : Log) (ps qs : List ClassRef) (c : ClassRef) → is_below h (ps ++ qs) c ≡ (is_below h ps c || is_below h qs c)
below-append h ps qs c = list_any-append (λ p. is_member p (chain_at h c)) ps qs

-- what is below a place stays there
below-on : (h : Log) (xs : List Change) (ps : List ClassRef) (c : ClassRef) → Ordered (table h).supers → AreAccepted h xs → is_of_one (made_by_all xs) c ≡ false → is_below (and_all h xs) ps c ≡ is_below h ps c
below-on h xs ps c o all other = ap (λ chain. list_any (λ p. is_member p chain) ps) (chain-all h xs c o all other)

-- ---- classes

of-made : (x : Change) (c : ClassRef) → is_of_made x c ≡ true → is_of_one (made_by x) c ≡ true
of-made (Add d s i) c e = cc
of-made (Replace d s i) c e = cc
of-made (SetImp d s i) c e = cc
of-made (Exchange d s f u) c e = cc
of-made (Attach k ms cs) c e = cc
of-made (AddClass k d) c e = or-left (c.class == k) false e
of-made (Remove d s) c e = cc
of-made (DisposeClass k) c e = or-left (c.class == k) false e

-- ---- all of a list

-- of a class that no change makes or disposes of
at-places : (h : Log) (xs : List Change) (c : ClassRef) → Ordered (table h).supers → AreAccepted h xs → is_of_one (made_by_all xs) c ≡ false → is_affected_by_all h xs c ≡ true → is_below (and_all h xs) (written_by_all h xs) c ≡ true
unfolding is_affected
at-places h [] c o all other e = cc
at-places h (x ∷ xs) c o all other e =
    let parts = apart-both (made_by x) (made_by_all xs) c other in
    or-cases (is_of_made x c || is_below h (written_refs h x) c) (is_affected_by_all (and_then h x) xs c) e
    (λ here. or-cases (is_of_made x c) (is_below h (written_refs h x) c) here
    (λ made. let clash : true ≡ false = sym (of-made x c made) ∙ parts.0 in cc)
    (λ below. at (or-left (is_below end (written_refs h x) c) (is_below end (written_by_all (and_then h x) xs) c) (below-on h (x ∷ xs) (written_refs h x) c o all other ∙ below))))
    (λ there. at (or-right (is_below end (written_refs h x) c) (is_below end (written_by_all (and_then h x) xs) c) (at-places (and_then h x) xs c (ordered-and_then h x o all.0) all.1 parts.1 there)))
  where
    end : Log
    end = and_all h (x ∷ xs)

    at : (is_below end (written_refs h x) c || is_below end (written_by_all (and_then h x) xs) c) ≡ true → is_below end (written_by_all h (x ∷ xs)) c ≡ true
    at e = below-append end (written_refs h x) (written_by_all (and_then h x) xs) c ∙ e

pub affected-all : (h : Log) (xs : List Change) (c : ClassRef) → Ordered (table h).supers → AreAccepted h xs → is_affected_by_all h xs c ≡ true
    → (is_of_one (made_by_all xs) c || is_below (and_all h xs) (written_by_all h xs) c) ≡ true
affected-all h xs c o all e = step (is_of_one (made_by_all xs) c) refl
  where
    step : (b : Bool) → is_of_one (made_by_all xs) c ≡ b → (b || is_below (and_all h xs) (written_by_all h xs) c) ≡ true
    step true made = refl
    step false other = at-places h xs c o all other e

-- ---- one more entry

-- what two parts tell of
pub told-append : (h : Log) (xs ys : List Entry) (c : ClassRef) → is_told h (xs ++ ys) c ≡ (is_told h xs c || is_told h ys c)
told-append h xs ys c =
    ap₂ (λ a b. a || b)
    (ap (λ ks. is_of_one ks c) (classes-append xs ys) ∙ list_any-append (λ k. c.class == k) (classes_of xs) (classes_of ys))
    (ap (λ ps. is_below h ps c) (places-append xs ys) ∙ below-append h (places_of xs) (places_of ys) c)
    ∙ or-swap (is_of_one (classes_of xs) c) (is_of_one (classes_of ys) c) (is_below h (places_of xs) c) (is_below h (places_of ys) c)

pub told-next : (h : Log) (es : List Entry) (i : ℕ) (e : Entry) (c : ClassRef) → i < length es → e ≡ slice_index_or es i e → is_told h (take (i + 1) es) c ≡ true
    → (is_told h (take i es) c ≡ true) ⊎ (is_told h (e ∷ []) c ≡ true)
told-next h es i e c inside is told =
    or-cases (is_told h (take i es) c) (is_told h (e ∷ []) c)
    (sym (told-append h (take i es) (e ∷ []) c)
    ∙ subst (λ xs. is_told h xs c ≡ true) (take_more es i e inside ∙ ap (λ x. take i es ++ x ∷ []) (sym is)) told)
    inl inr

-- ---- by a journal

pub place-below : (h : Log) (ps : List ClassRef) (c p : ClassRef) → is_member p ps ≡ true → is_member p (chain_at h c) ≡ true → is_below h ps c ≡ true
place-below h [] c p there e = cc
place-below h (q ∷ qs) c p there e =
    or-cases (same_class p q) (is_member p qs) there
    (λ here. or-left (is_member q (chain_at h c)) (is_below h qs c) (subst (λ z. is_member z (chain_at h c) ≡ true) (same_class-is p q here) e))
    (λ later. or-right (is_member q (chain_at h c)) (is_below h qs c) (place-below h qs c p later e))

below-told : (h : Log) (ws ps : List ClassRef) (c : ClassRef) → ((p : ClassRef) → is_member p ws ≡ true → is_member p ps ≡ true) → is_below h ws c ≡ true → is_below h ps c ≡ true
below-told h [] ps c told e = cc
below-told h (w ∷ ws) ps c told e =
    or-cases (is_member w (chain_at h c)) (is_below h ws c) e
    (λ here. place-below h ps c w (told w (or-left (same_class w w) (is_member w ws) (same_class-refl w))) here)
    (λ there. below-told h ws ps c (λ p later. told p (or-right (same_class p w) (is_member p ws) later)) there)

pub told-all : (h : Log) (xs : List Change) (journal : List Entry) (c : ClassRef) → Ordered (table h).supers → AreAccepted h xs → classes_of journal ≡ made_by_all xs → ArePlacesOf (written_by_all h xs) (made_by_all xs) (places_of journal)
    → is_affected_by_all h xs c ≡ true → is_told (and_all h xs) journal c ≡ true
told-all h xs journal c o all made places e =
    let end = and_all h xs in
    ap (λ ks. is_of_one ks c || is_below end (places_of journal) c) made
    ∙ or-cases (is_of_one (made_by_all xs) c) (is_below end (written_by_all h xs) c) (affected-all h xs c o all e)
    (λ first. or-left (is_of_one (made_by_all xs) c) (is_below end (places_of journal) c) first)
    (λ second. or-right (is_of_one (made_by_all xs) c) (is_below end (places_of journal) c) (below-told end (written_by_all h xs) (places_of journal) c places.told second))
