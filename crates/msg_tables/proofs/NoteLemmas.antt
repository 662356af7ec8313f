-- What an edit wrote is noted.
use Rattle.std.specs.Prelude.{All, ◌||◌, ◌==◌, reverse}
use Rattle.std.proofs.Common.{arith, zero, suc, ◌≡◌, ◌<◌, ℕ, List, [], ◌∷◌, ◌++◌, append_assoc, length, Bool, true, false, refl, sym, ap, ap₂, ◌∙◌}
use Rattle.std.proofs.lemmas.List.{length-reverse}
use Rattle.std.proofs.lemmas.List.Folds.{list_any-append}
use Rattle.msg_names.specs.ClassRef.{same_class}
use Rattle.msg_names.specs.declared.value.ClassRef.{ClassRef}
use Rattle.msg_tables.specs.Chain.{is_member}
use Rattle.msg_tables.specs.Several.{is_of_one}
use Rattle.msg_tables.specs.declared.entry.Entry.{Entry}
use Rattle.msg_tables.specs.declared.entry.Entry.TheVariants.{Added, Rewrote, Removed, Made, Disposed}
use Rattle.msg_tables.specs.Affected.{at_most_one, if_any}
use Rattle.msg_tables.specs.Journal.{NamesListed, AllNameListed, ArePlacesOf, added_all, place_of, places_of, classes_of}

pub places-append : (xs ys : List Entry) → places_of (xs ++ ys) ≡ places_of xs ++ places_of ys
places-append [] ys = refl
places-append (x ∷ xs) ys = ap (λ ps. at_most_one (place_of x) ++ ps) (places-append xs ys) ∙ sym (append_assoc (at_most_one (place_of x)) (places_of xs) (places_of ys))

pub classes-append : (xs ys : List Entry) → classes_of (xs ++ ys) ≡ classes_of xs ++ classes_of ys
classes-append [] ys = refl
classes-append (Added c n ∷ xs) ys = classes-append xs ys
classes-append (Rewrote c s i ∷ xs) ys = classes-append xs ys
classes-append (Removed c s i at ∷ xs) ys = classes-append xs ys
classes-append (Made k ∷ xs) ys = ap (λ ks. k ∷ ks) (classes-append xs ys)
classes-append (Disposed k d at ∷ xs) ys = ap (λ ks. k ∷ ks) (classes-append xs ys)

-- classes that are listed
pub listed-append : (n : ℕ) (xs ys : List Entry) → AllNameListed n xs → AllNameListed n ys → AllNameListed n (xs ++ ys)
listed-append n [] ys a b = b
listed-append n (x ∷ xs) ys a b = (a.0, listed-append n xs ys a.1 b)

pub listed-all : (n : ℕ) (xs : List Entry) → AllNameListed n xs → All (NamesListed n) xs
listed-all n [] a k d inside = absurd (omega (arith, inside))
listed-all n (x ∷ xs) a zero d inside = a.0
listed-all n (x ∷ xs) a (suc k) d inside = listed-all n xs a.1 k d (omega (arith, inside))

-- ---- places

pub or-swap : (a b c d : Bool) → ((a || b) || (c || d)) ≡ ((a || c) || (b || d))
or-swap true b c d = refl
or-swap false true true d = refl
or-swap false true false d = refl
or-swap false false true d = refl
or-swap false false false d = refl

or-both : (a b : Bool) → b ≡ true → (a || b) ≡ true
or-both true b e = refl
or-both false b e = e

pub or-split : {P : Type 0} (a b : Bool) → (a || b) ≡ true → (a ≡ true → P) → (b ≡ true → P) → P
or-split true b e f g = f refl
or-split false b e f g = g e

or-first : (a b : Bool) → a ≡ true → (a || b) ≡ true
or-first true b e = refl
or-first false b e = cc

pub member-append : (c : ClassRef) (xs ys : List ClassRef) → is_member c (xs ++ ys) ≡ (is_member c xs || is_member c ys)
member-append c xs ys = list_any-append (same_class c) xs ys

one-append : (c : ClassRef) (xs ys : List ℕ) → is_of_one (xs ++ ys) c ≡ (is_of_one xs c || is_of_one ys c)
one-append c xs ys = list_any-append (λ k. c.class == k) xs ys

-- the places of two parts
pub places-both : (w v : List ClassRef) (m n : List ℕ) (p q : List ClassRef) → ArePlacesOf w m p → ArePlacesOf v n q → ArePlacesOf (w ++ v) (m ++ n) (p ++ q)
places-both w v m n p q first second = record {
  told = λ c e. member-append c p q ∙ or-split (is_member c w) (is_member c v) (sym (member-append c w v) ∙ e)
      (λ here. or-first (is_member c p) (is_member c q) (first.told c here)) (λ there. or-both (is_member c p) (is_member c q) (second.told c there));
  only = λ c e.
      ap₂ (λ a b. a || b) (one-append c m n) (member-append c w v) ∙ or-swap (is_of_one m c) (is_of_one n c) (is_member c w) (is_member c v)
      ∙ or-split (is_member c p) (is_member c q) (sym (member-append c p q) ∙ e)
      (λ here. or-first (is_of_one m c || is_member c w) (is_of_one n c || is_member c v) (first.only c here))
      (λ there. or-both (is_of_one m c || is_member c w) (is_of_one n c || is_member c v) (second.only c there));
}

-- the same places
pub places-same : (w : List ClassRef) (m : List ℕ) (p : List ClassRef) → ((c : ClassRef) → is_member c p ≡ is_member c w) → ArePlacesOf w m p
places-same w m p same = record {
  told = λ c e. same c ∙ e;
  only = λ c e. or-both (is_of_one m c) (is_member c w) (sym (same c) ∙ e);
}

pub places-equal : (w : List ClassRef) (m : List ℕ) (p : List ClassRef) → p ≡ w → ArePlacesOf w m p
places-equal w m p e = places-same w m p (λ c. ap (is_member c) e)

-- only those of classes that were made or disposed of
pub places-made : (m : List ℕ) (p : List ClassRef) → ((c : ClassRef) → is_member c p ≡ true → is_of_one m c ≡ true) → ArePlacesOf [] m p
places-made m p all = record {
  told = λ c e. cc;
  only = λ c e. or-first (is_of_one m c) false (all c e);
}

-- rows that were added are at one place
added-member : (d c : ClassRef) (m : ℕ × ℕ) (ms : List (ℕ × ℕ)) → is_member d (places_of (added_all c (m ∷ ms))) ≡ is_member d (c ∷ [])
added-member d c m [] = refl
added-member d c m (n ∷ ms) = ap (λ b. same_class d c || b) (added-member d c n ms) ∙ step (same_class d c)
  where
    step : (b : Bool) → (b || (b || false)) ≡ (b || false)
    step true = refl
    step false = refl

any-length : (c : ClassRef) (xs ys : List (ℕ × ℕ)) → length xs ≡ length ys → if_any xs c ≡ if_any ys c
any-length c [] [] e = refl
any-length c [] (y ∷ ys) e = absurd (omega (arith, e))
any-length c (x ∷ xs) [] e = absurd (omega (arith, e))
any-length c (x ∷ xs) (y ∷ ys) e = refl

pub places-added : (c : ClassRef) (ms : List (ℕ × ℕ)) → ArePlacesOf (if_any ms c) [] (places_of (added_all c (reverse ms)))
places-added c ms = places-same (if_any ms c) [] (places_of (added_all c (reverse ms))) (λ d. at d (reverse ms) ∙ ap (is_member d) (any-length c (reverse ms) ms (length-reverse ms)))
  where
    at : (d : ClassRef) (ns : List (ℕ × ℕ)) → is_member d (places_of (added_all c ns)) ≡ is_member d (if_any ns c)
    at d [] = refl
    at d (n ∷ ns) = added-member d c n ns

pub classes-added : (c : ClassRef) (ms : List (ℕ × ℕ)) → classes_of (added_all c ms) ≡ []
classes-added c [] = refl
classes-added c (m ∷ ms) = classes-added c ms

pub listed-added : (n : ℕ) (c : ClassRef) (ms : List (ℕ × ℕ)) → c.class < n → AllNameListed n (added_all c ms)
listed-added n c [] less = tt
listed-added n c (m ∷ ms) less = (less, listed-added n c ms less)
