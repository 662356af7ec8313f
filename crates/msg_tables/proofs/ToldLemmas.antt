-- After all changes of a list are made, it affects exactly what its journal describes.
use Rattle.std.proofs.Common.{◌≡◌, ℕ, zero, suc, List, [], ◌∷◌, ◌++◌, Option, Some, None, Bool, true, false, refl, sym, ap, ap₂, ◌∙◌, subst, length}
use Rattle.std.specs.Prelude.{◌||◌, ◌==◌, if◌then◌else◌, is_some, slice_set}
use Rattle.std.specs.Option.{option_map_or}
use Rattle.std.proofs.lemmas.List.Folds.{list_any-append}
use Rattle.msg_names.proofs.ClassRefLemmas.{same_class-is, same_class-refl}
use Rattle.msg_names.proofs.TestLemmas.{same_number}
use Rattle.msg_names.specs.ClassRef.{same_class}
use Rattle.msg_names.specs.declared.value.ClassRef.{ClassRef}
use Rattle.msg_tables.specs.Affected.{is_affected, is_of_made, written_refs}
use Rattle.msg_tables.specs.Chain.{chain_of, chain_up, is_member, is_present, super_of}
use Rattle.msg_tables.specs.Journal.{ArePlacesOf, classes_of, places_of}
use Rattle.msg_tables.specs.Log.{Log, and_then, chain_at, table}
use Rattle.msg_tables.specs.Making.{is_told}
use Rattle.msg_tables.specs.Order.{IsOrder}
use Rattle.msg_tables.specs.Refusal.{AreAccepted, refusal}
use Rattle.msg_tables.specs.Several.{and_all, is_affected_by_all, is_below, is_of_one, made_by, made_by_all, written_by_all}
use Rattle.msg_tables.specs.declared.change.Change.TheVariants.{Add, Replace, SetImp, Exchange, Attach, AddClass, Remove, DisposeClass}
use Rattle.msg_tables.specs.declared.change.Change.{Change}
use Rattle.msg_tables.specs.declared.entry.Entry.{Entry}
use Rattle.msg_tables.specs.declared.presence.Presence.{Presence}
use Rattle.msg_tables.proofs.AffectedAllLemmas.{or-cases, or-left, or-right, place-below}
use Rattle.msg_tables.proofs.BelowAllLemmas.{apart-both, chain-and_then, chain-all}
use Rattle.msg_tables.proofs.ClassLemmas.{gone-same}
use Rattle.msg_tables.proofs.OrderLemmas.{present-inside, super-present}
use Rattle.msg_tables.proofs.PresenceLemmas.{Ordered, ordered-and_then, supers-and_then, may_be_made, disposed}

-- ---- what is on a chain is present

module _ (supers : List (Option Presence)) (order : List ℕ) (is : IsOrder supers order) (p : ClassRef) where
  member-up : (n : ℕ) (c : ClassRef) → is_present supers c.class ≡ true → is_member p (chain_up n supers c) ≡ true → is_present supers p.class ≡ true
  member-up zero c here e =
      or-cases (same_class p c) false e
      (λ same. subst (λ z. is_present supers (z.class) ≡ true) (sym (same_class-is p c same)) here)
      (λ none. cc)
  member-up (suc n) c here e =
      or-cases (same_class p c) (is_member p (option_map_or (chain_up n supers) (super_of supers c) [])) e
      (λ same. subst (λ z. is_present supers (z.class) ≡ true) (sym (same_class-is p c same)) here)
      (λ later. at (super_of supers c) (λ d same there. member-up n d (super-present supers order is c d same) there) refl later)
    where
      at : (o : Option ClassRef) → ((d : ClassRef) → super_of supers c ≡ Some d → is_member p (chain_up n supers d) ≡ true → is_present supers p.class ≡ true) → super_of supers c ≡ o
          → is_member p (option_map_or (chain_up n supers) o []) ≡ true → is_present supers p.class ≡ true
      at None rest same none = cc
      at (Some d) rest same there = rest d same there

  member-present : (c : ClassRef) → is_member p (chain_of supers c) ≡ true → is_present supers p.class ≡ true
  unfolding chain_of
  member-present c e = step (is_present supers c.class) refl e
    where
      step : (b : Bool) → is_present supers c.class ≡ b → is_member p (if b then chain_up (length supers) supers c else []) ≡ true → is_present supers p.class ≡ true
      step true here there = member-up (length supers) c here there
      step false here there = cc

-- so changes neither make nor dispose of its class, if they don't for the class of the chain
module _ (c p : ClassRef) where
  unmade-by : (h : Log) (x : Change) → Ordered (table h).supers → refusal h x ≡ None → is_of_one (made_by x) c ≡ false → is_member p (chain_at h c) ≡ true → is_of_one (made_by x) p ≡ false
  unfolding chain_at
  unmade-by h (Add d s i) o accepted other e = refl
  unmade-by h (Replace d s i) o accepted other e = refl
  unmade-by h (SetImp d s i) o accepted other e = refl
  unmade-by h (Exchange d s f u) o accepted other e = refl
  unmade-by h (Attach k ms cs) o accepted other e = refl
  unmade-by h (Remove d s) o accepted other e = refl
  unmade-by h (AddClass k d) o accepted other e =
      apart (p.class == k) refl (λ same. subst (λ j. is_present (table h).supers j ≡ true) same (member-present (table h).supers o.order o.is p c e)) (may_be_made h k d accepted).absent
    where
      apart : (b : Bool) → (p.class == k) ≡ b → (p.class ≡ k → is_present (table h).supers k ≡ true) → is_present (table h).supers k ≡ false → is_of_one (k ∷ []) p ≡ false
      apart true same there absent = let clash : true ≡ false = sym (there (same_number p.class k same)) ∙ absent in cc
      apart false other there absent = ap (λ b. b || false) other
  unmade-by h (DisposeClass k) o accepted other e =
      let after = ordered-and_then h (DisposeClass k) o accepted in
      let there = member-present (table (and_then h (DisposeClass k))).supers after.order after.is p c (ap (is_member p) (chain-and_then h (DisposeClass k) c o accepted other) ∙ e) in
      apart (p.class == k) refl there
    where
      gone : is_present (slice_set (table h).supers k None) k ≡ false
      gone = ap is_some (gone-same (table h).supers k (present-inside (table h).supers k (disposed h k accepted).here))

      apart : (b : Bool) → (p.class == k) ≡ b → is_present (table (and_then h (DisposeClass k))).supers p.class ≡ true → is_of_one (k ∷ []) p ≡ false
      apart true same there =
          let here : is_present (slice_set (table h).supers k None) k ≡ true = subst (λ ss. is_present ss k ≡ true) (supers-and_then h (DisposeClass k)) (subst (λ j. is_present (table (and_then h (DisposeClass k))).supers j ≡ true) (same_number p.class k same) there) in
          let clash : true ≡ false = sym here ∙ gone in cc
      apart false other there = ap (λ b. b || false) other

  unmade-all : (h : Log) (xs : List Change) → Ordered (table h).supers → AreAccepted h xs → is_of_one (made_by_all xs) c ≡ false → is_member p (chain_at h c) ≡ true → is_of_one (made_by_all xs) p ≡ false
  unmade-all h [] o all other e = refl
  unmade-all h (x ∷ xs) o all other e =
      let parts = apart-both (made_by x) (made_by_all xs) c other in
      let later = unmade-all (and_then h x) xs (ordered-and_then h x o all.0) all.1 parts.1 (ap (is_member p) (chain-and_then h x c o all.0 parts.0) ∙ e) in
      list_any-append (λ k. p.class == k) (made_by x) (made_by_all xs) ∙ ap₂ (λ a b. a || b) (unmade-by h x o all.0 parts.0 e) later

-- ---- what a journal describes is affected

of-one : (x : Change) (c : ClassRef) → is_of_one (made_by x) c ≡ true → is_of_made x c ≡ true
of-one (Add d s i) c e = cc
of-one (Replace d s i) c e = cc
of-one (SetImp d s i) c e = cc
of-one (Exchange d s f u) c e = cc
of-one (Attach k ms cs) c e = cc
of-one (AddClass k d) c e = or-cases (c.class == k) false e (λ here. here) (λ none. cc)
of-one (Remove d s) c e = cc
of-one (DisposeClass k) c e = or-cases (c.class == k) false e (λ here. here) (λ none. cc)

made-affected : (h : Log) (xs : List Change) (c : ClassRef) → is_of_one (made_by_all xs) c ≡ true → is_affected_by_all h xs c ≡ true
unfolding is_affected
made-affected h [] c e = cc
made-affected h (x ∷ xs) c e =
    or-cases (is_of_one (made_by x) c) (is_of_one (made_by_all xs) c) (sym (list_any-append (λ k. c.class == k) (made_by x) (made_by_all xs)) ∙ e)
    (λ here. or-left (is_affected h x c) (is_affected_by_all (and_then h x) xs c) (or-left (is_of_made x c) (is_below h (written_refs h x) c) (of-one x c here)))
    (λ there. or-right (is_affected h x c) (is_affected_by_all (and_then h x) xs c) (made-affected (and_then h x) xs c there))

is-of : (p : ClassRef) (ps qs : List ClassRef) → is_member p (ps ++ qs) ≡ (is_member p ps || is_member p qs)
is-of p ps qs = list_any-append (same_class p) ps qs

-- what is below a place at which a list writes
written-affected : (h : Log) (xs : List Change) (c p : ClassRef) → Ordered (table h).supers → AreAccepted h xs → is_of_one (made_by_all xs) c ≡ false → is_member p (chain_at h c) ≡ true → is_member p (written_by_all h xs) ≡ true → is_affected_by_all h xs c ≡ true
unfolding is_affected
written-affected h [] c p o all other e written = cc
written-affected h (x ∷ xs) c p o all other e written =
    let parts = apart-both (made_by x) (made_by_all xs) c other in
    or-cases (is_member p (written_refs h x)) (is_member p (written_by_all (and_then h x) xs)) (sym (is-of p (written_refs h x) (written_by_all (and_then h x) xs)) ∙ written)
    (λ here. or-left (is_affected h x c) (is_affected_by_all (and_then h x) xs c) (or-right (is_of_made x c) (is_below h (written_refs h x) c) (place-below h (written_refs h x) c p here e)))
    (λ there. or-right (is_affected h x c) (is_affected_by_all (and_then h x) xs c)
    (written-affected (and_then h x) xs c p (ordered-and_then h x o all.0) all.1 parts.1 (ap (is_member p) (chain-and_then h x c o all.0 parts.0) ∙ e) there))

-- the place below which something is
below-some : (h : Log) (ps : List ClassRef) (c : ClassRef) → is_below h ps c ≡ true → (p : ClassRef) × (is_member p ps ≡ true) × (is_member p (chain_at h c) ≡ true)
below-some h [] c e = cc
below-some h (q ∷ qs) c e =
    or-cases (is_member q (chain_at h c)) (is_below h qs c) e
    (λ here. (q, or-left (same_class q q) (is_member q qs) (same_class-refl q), here))
    (λ there. let (p, among, on) = below-some h qs c there in (p, or-right (same_class p q) (is_member p qs) among, on))

pub told-only : (h : Log) (xs : List Change) (journal : List Entry) (c : ClassRef) → Ordered (table h).supers → AreAccepted h xs → classes_of journal ≡ made_by_all xs → ArePlacesOf (written_by_all h xs) (made_by_all xs) (places_of journal)
    → is_told (and_all h xs) journal c ≡ true → is_affected_by_all h xs c ≡ true
told-only h xs journal c o all made places told = step (is_of_one (made_by_all xs) c) refl
  where
    end : Log
    end = and_all h xs

    step : (b : Bool) → is_of_one (made_by_all xs) c ≡ b → is_affected_by_all h xs c ≡ true
    step true here = made-affected h xs c here
    step false other =
        or-cases (is_of_one (made_by_all xs) c) (is_below end (places_of journal) c) (ap (λ ks. is_of_one ks c || is_below end (places_of journal) c) (sym made) ∙ told)
        (λ here. let clash : true ≡ false = sym here ∙ other in cc)
        (λ below.
        let (p, among, on) = below-some end (places_of journal) c below in
        let was = ap (is_member p) (sym (chain-all h xs c o all other)) ∙ on in
        or-cases (is_of_one (made_by_all xs) p) (is_member p (written_by_all h xs)) (places.only p among)
        (λ gone. let clash : true ≡ false = sym gone ∙ unmade-all c p h xs o all other was in cc)
        (λ written. written-affected h xs c p o all other was written))
