-- What descends from a class reference.
use Rattle.std.proofs.Common.{◌≡◌, ◌<◌, ◌≤◌, ◌⊎◌, inl, inr, ℕ, zero, suc, length, List, [], ◌∷◌, Option, Some, None, Bool, true, false, cond, refl, sym, ◌∙◌, ap, subst, arith}
use Rattle.std.specs.Prelude.{◌||◌, ◌&&◌, ◌==◌, not, is_some, is_none}
use Rattle.std.specs.Option.{option_map_or}
use Rattle.msg_names.specs.declared.value.ClassRef.{ClassRef}
use Rattle.msg_names.specs.ClassRef.{above, same_class, same_truth}
use Rattle.msg_names.proofs.ClassRefLemmas.{same_class-is, same_class-refl}
use Rattle.msg_names.proofs.TestLemmas.{same_number}
use Rattle.msg_tables.specs.Chain.{chain_up, chain_of, super_of, index_in, steps_of, is_member, is_present, presence_of, descends, is_root}
use Rattle.msg_tables.specs.After.{of_class, of_meta}
use Rattle.msg_tables.specs.Log.{Log, table, chain_at}
use Rattle.msg_tables.specs.declared.presence.Presence.{Presence}
use Rattle.msg_tables.specs.Order.{IsOrder}
use Rattle.msg_tables.proofs.OrderLemmas.{place-fewer, super-fewer, super-present, steps_suffice}

-- two numbers of steps that are enough give the same chain
enough : (order : List ℕ) (n m : ℕ) (supers : List (Option Presence)) (c : ClassRef) → IsOrder supers order → steps_of order c ≤ n → steps_of order c ≤ m → chain_up n supers c ≡ chain_up m supers c
enough order zero zero supers c before h g = refl
enough order zero (suc m) supers c before h g = at (super_of supers c) (super-fewer supers order before c)
  where
    at : (o : Option ClassRef) → ((d : ClassRef) → o ≡ Some d → steps_of order d < steps_of order c) → c ∷ [] ≡ c ∷ option_map_or (chain_up m supers) o []
    at None fewer = refl
    at (Some d) fewer = let less = fewer d refl in absurd (omega (arith, less, h))
enough order (suc n) zero supers c before h g = at (super_of supers c) (super-fewer supers order before c)
  where
    at : (o : Option ClassRef) → ((d : ClassRef) → o ≡ Some d → steps_of order d < steps_of order c) → c ∷ option_map_or (chain_up n supers) o [] ≡ c ∷ []
    at None fewer = refl
    at (Some d) fewer = let less = fewer d refl in absurd (omega (arith, less, g))
enough order (suc n) (suc m) supers c before h g = at (super_of supers c) (super-fewer supers order before c) (λ d. enough order n m supers d before)
  where
    at : (o : Option ClassRef) → ((d : ClassRef) → o ≡ Some d → steps_of order d < steps_of order c) → ((d : ClassRef) → steps_of order d ≤ n → steps_of order d ≤ m → chain_up n supers d ≡ chain_up m supers d)
        → c ∷ option_map_or (chain_up n supers) o [] ≡ c ∷ option_map_or (chain_up m supers) o []
    at None fewer rest = refl
    at (Some d) fewer rest = let less = fewer d refl in ap (λ cs. c ∷ cs) (rest d (omega (arith, less, h)) (omega (arith, less, g)))

-- the chain of a class reference is the class reference, and then the chain of its superclass
pub chain_of-step : (supers : List (Option Presence)) (order : List ℕ) (c : ClassRef) → IsOrder supers order → is_present supers c.class ≡ true → chain_of supers c ≡ c ∷ option_map_or (chain_of supers) (super_of supers c) []
unfolding chain_of
chain_of-step supers order c before inside =
    ap (λ b. cond b (chain_up (length supers) supers c) []) inside
    ∙ at (length supers) refl (steps_suffice supers order before c inside) (super_of supers c) refl (super-fewer supers order before c)
    ∙ ap (λ cs. c ∷ cs) (all (super_of supers c) refl)
  where
    all : (o : Option ClassRef) → super_of supers c ≡ o → option_map_or (chain_up (length supers) supers) o [] ≡ option_map_or (λ d. cond (is_present supers d.class) (chain_up (length supers) supers d) []) o []
    all None e = refl
    all (Some d) e = ap (λ b. cond b (chain_up (length supers) supers d) []) (sym (super-present supers order before c d e))

    at : (n : ℕ) → length supers ≡ n → steps_of order c ≤ n → (o : Option ClassRef) → super_of supers c ≡ o → ((d : ClassRef) → o ≡ Some d → steps_of order d < steps_of order c) → chain_up n supers c ≡ c ∷ option_map_or (chain_up n supers) o []
    at zero e h None s fewer = refl
    at zero e h (Some d) s fewer = let less = fewer d refl in absurd (omega (arith, less, h))
    at (suc n) e h None s fewer = rw s refl
    at (suc n) e h (Some d) s fewer =
        let less = fewer d refl in
        rw s (ap (λ cs. c ∷ cs) (enough order n (suc n) supers d before (omega (arith, less, h)) (omega (arith, less, h))))

-- a class reference descends from the origin if it is the origin, or its superclass descends
pub descends-step : (supers : List (Option Presence)) (order : List ℕ) (origin c : ClassRef) → IsOrder supers order → is_present supers c.class ≡ true → descends supers origin c ≡ (same_class origin c || option_map_or (descends supers origin) (super_of supers c) false)
unfolding descends
descends-step supers order origin c before inside = ap (is_member origin) (chain_of-step supers order c before inside) ∙ at (super_of supers c)
  where
    at : (o : Option ClassRef) → is_member origin (c ∷ option_map_or (chain_of supers) o []) ≡ (same_class origin c || option_map_or (λ d. is_member origin (chain_of supers d)) o false)
    at None = refl
    at (Some d) = refl

-- descendants at a log
pub descends-at : (h : Log) (supers : List (Option Presence)) (origin c : ClassRef) → supers ≡ (table h).supers → descends supers origin c ≡ is_member origin (chain_at h c)
unfolding descends chain_at
descends-at h supers origin c e = ap (λ ss. is_member origin (chain_of ss c)) e

-- what descends from another class reference has a superclass that does
pub up : (supers : List (Option Presence)) (order : List ℕ) (origin c : ClassRef) → IsOrder supers order → descends supers origin c ≡ true → (same_class origin c ≡ true) ⊎ ((d : ClassRef) × (super_of supers c ≡ Some d) × (descends supers origin d ≡ true))
unfolding descends chain_of
up supers order origin c before down = present (is_present supers c.class) refl
  where
    Answer : Type 0
    Answer = (same_class origin c ≡ true) ⊎ ((d : ClassRef) × (super_of supers c ≡ Some d) × (descends supers origin d ≡ true))

    further : (o : Option ClassRef) → super_of supers c ≡ o → option_map_or (descends supers origin) o false ≡ true → Answer
    further None e h = absurd (clash h)
      where
        clash : false ≡ true → ⊥
        clash h = cc
    further (Some d) e h = inr (d, e, h)

    own : (b : Bool) → same_class origin c ≡ b → (b || option_map_or (descends supers origin) (super_of supers c) false) ≡ true → Answer
    own true e h = inl e
    own false e h = further (super_of supers c) refl h

    present : (b : Bool) → is_present supers c.class ≡ b → Answer
    present true e = own (same_class origin c) refl (sym (descends-step supers order origin c before e) ∙ down)
    present false e =
        let none : descends supers origin c ≡ false = rw e refl in
        absurd (clash (sym none ∙ down))
      where
        clash : false ≡ true → ⊥
        clash h = cc

-- each class that is present descends from itself
pub itself : (supers : List (Option Presence)) (order : List ℕ) → IsOrder supers order → (c : ClassRef) → is_present supers c.class ≡ true → descends supers c c ≡ true
itself supers order before c there = descends-step supers order c c before there ∙ ap (λ b. b || option_map_or (descends supers c) (super_of supers c) false) (same_class-refl c)

-- nothing that isn't present descends from another
pub absent-below : (supers : List (Option Presence)) (origin c : ClassRef) → is_present supers c.class ≡ false → descends supers origin c ≡ false
unfolding descends chain_of
absent-below supers origin c absent = rw absent refl

-- ---- classes and their metaclasses

root-own : (m q : Bool) → ((q && same_truth m false) || false) ≡ (not m && ((q && true) || false))
root-own true true = refl
root-own true false = refl
root-own false true = refl
root-own false false = refl

below-own : (m q d : Bool) → ((q && same_truth m false) || (not m && d)) ≡ (not m && ((q && true) || d))
below-own true true d = refl
below-own true false d = refl
below-own false true d = refl
below-own false false d = refl

root-meta : (m q r : Bool) → (q ≡ true → r ≡ true) → ((q && same_truth m true) || (not m && ((q && true) || false))) ≡ ((m || r) && ((q && true) || false))
root-meta true true r root = refl
root-meta true false r root = refl
root-meta false true true root = refl
root-meta false true false root = sym (root refl)
root-meta false false true root = refl
root-meta false false false root = refl

below-meta : (m q r d : Bool) → (q ≡ true → r ≡ false) → ((q && same_truth m true) || ((m || r) && d)) ≡ ((m || r) && ((q && true) || d))
below-meta true true r d root = refl
below-meta true false r d root = refl
below-meta false true false d root = refl
below-meta false true true d root = absurd (clash (root refl))
  where
    clash : true ≡ false → ⊥
    clash e = cc
below-meta false false true d root = refl
below-meta false false false d root = refl

-- A class reference descends from another if their classes do. Only metaclasses descend from a
-- metaclass. Classes descend from a class, and metaclasses too if it is a root class.
module _ (supers : List (Option Presence)) (order : List ℕ) (before : IsOrder supers order) (origin : ClassRef) where
  abbrev pub Kinds : ClassRef → Type 0
  Kinds c = descends supers origin c ≡ (cond c.meta (origin.meta || is_root supers origin.class) (not origin.meta) && descends supers (of_class origin.class) (of_class c.class))

  -- a class and its superclass, if it has one
  module _ (k : ℕ) (p : Presence) (here : presence_of supers k ≡ Some p) where
    there : is_present supers k ≡ true
    there = ap is_some here

    step : (from c : ClassRef) → c.class ≡ k → descends supers from c ≡ (same_class from c || option_map_or (descends supers from) (above c p.superclass) false)
    step from c e = descends-step supers order from c before (ap (is_present supers) e ∙ there) ∙ ap (λ o. same_class from c || option_map_or (descends supers from) (option_map_or (λ q. above c q.superclass) o None) false) (ap (presence_of supers) e ∙ here)

    root-of : (o : Option ℕ) → p.superclass ≡ o → is_root supers k ≡ is_none o
    root-of o e = ap (λ q. option_map_or (λ r. is_none r.superclass) q true) here ∙ ap is_none e

    own-class : (o : Option ℕ) → p.superclass ≡ o → ((d : ℕ) → o ≡ Some d → Kinds (of_class d)) → Kinds (of_class k)
    own-class None e rest =
        step origin (of_class k) refl ∙ ap (λ o. same_class origin (of_class k) || option_map_or (descends supers origin) (above (of_class k) o) false) e
        ∙ root-own origin.meta (origin.class == k)
        ∙ sym (ap (λ b. not origin.meta && b) (step (of_class origin.class) (of_class k) refl ∙ ap (λ o. same_class (of_class origin.class) (of_class k) || option_map_or (descends supers (of_class origin.class)) (above (of_class k) o) false) e))
    own-class (Some d) e rest =
        step origin (of_class k) refl ∙ ap (λ o. same_class origin (of_class k) || option_map_or (descends supers origin) (above (of_class k) o) false) e
        ∙ ap (λ b. same_class origin (of_class k) || b) (rest d refl)
        ∙ below-own origin.meta (origin.class == k) (descends supers (of_class origin.class) (of_class d))
        ∙ sym (ap (λ b. not origin.meta && b) (step (of_class origin.class) (of_class k) refl ∙ ap (λ o. same_class (of_class origin.class) (of_class k) || option_map_or (descends supers (of_class origin.class)) (above (of_class k) o) false) e))

    same-root : (b : Bool) → is_root supers k ≡ b → (origin.class == k) ≡ true → is_root supers origin.class ≡ b
    same-root b e same = ap (is_root supers) (same_number origin.class k same) ∙ e

    own-meta : (o : Option ℕ) → p.superclass ≡ o → Kinds (of_class k) → ((d : ℕ) → o ≡ Some d → Kinds (of_meta d)) → Kinds (of_meta k)
    own-meta None e own rest =
        let class : descends supers (of_class origin.class) (of_class k) ≡ (((origin.class == k) && true) || false) =
        step (of_class origin.class) (of_class k) refl ∙ ap (λ o. same_class (of_class origin.class) (of_class k) || option_map_or (descends supers (of_class origin.class)) (above (of_class k) o) false) e in
        step origin (of_meta k) refl ∙ ap (λ o. same_class origin (of_meta k) || option_map_or (descends supers origin) (above (of_meta k) o) false) e
        ∙ ap (λ b. same_class origin (of_meta k) || b) (own ∙ ap (λ b. not origin.meta && b) class)
        ∙ root-meta origin.meta (origin.class == k) (is_root supers origin.class) (same-root true (root-of None e))
        ∙ sym (ap (λ b. (origin.meta || is_root supers origin.class) && b) class)
    own-meta (Some d) e own rest =
        step origin (of_meta k) refl ∙ ap (λ o. same_class origin (of_meta k) || option_map_or (descends supers origin) (above (of_meta k) o) false) e
        ∙ ap (λ b. same_class origin (of_meta k) || b) (rest d refl)
        ∙ below-meta origin.meta (origin.class == k) (is_root supers origin.class) (descends supers (of_class origin.class) (of_class d)) (same-root false (root-of (Some d) e))
        ∙ sym (ap (λ b. (origin.meta || is_root supers origin.class) && b) (step (of_class origin.class) (of_class k) refl ∙ ap (λ o. same_class (of_class origin.class) (of_class k) || option_map_or (descends supers (of_class origin.class)) (above (of_class k) o) false) e))

  kinds-up : (n : ℕ) (k : ℕ) → index_in order k < n → (o : Option Presence) → presence_of supers k ≡ o → Kinds (of_class k) × Kinds (of_meta k)
  kinds-up n k less None here =
      let gone : is_present supers k ≡ false = ap is_some here in
      let none = absent-below supers (of_class origin.class) (of_class k) gone in (
        absent-below supers origin (of_class k) gone ∙ sym (ap (λ b. not origin.meta && b) none ∙ and-none (not origin.meta)),
        absent-below supers origin (of_meta k) gone ∙ sym (ap (λ b. (origin.meta || is_root supers origin.class) && b) none ∙ and-none (origin.meta || is_root supers origin.class)),
      )
    where
      and-none : (b : Bool) → (b && false) ≡ false
      and-none true = refl
      and-none false = refl
  kinds-up zero k less (Some p) here = absurd (omega (arith, less))
  kinds-up (suc n) k less (Some p) here =
      let own = own-class k p here p.superclass refl (λ d e. (further d e (kinds-up n d)).0) in
      (own, own-meta k p here p.superclass refl own (λ d e. (further d e (kinds-up n d)).1))
    where
      further : (d : ℕ) → p.superclass ≡ Some d → (index_in order d < n → (o : Option Presence) → presence_of supers d ≡ o → Kinds (of_class d) × Kinds (of_meta d)) → Kinds (of_class d) × Kinds (of_meta d)
      further d e rest = let fewer = place-fewer supers order before k d p here e in rest (omega (arith, fewer, less)) (presence_of supers d) refl

  pub kinds : (c : ClassRef) → Kinds c
  kinds c = at c.meta refl (kinds-up (suc (index_in order c.class)) c.class (omega arith) (presence_of supers c.class) refl)
    where
      at : (b : Bool) → c.meta ≡ b → Kinds (of_class c.class) × Kinds (of_meta c.class) → Kinds c
      at true e both = subst Kinds (λ i. record { class = c.class; meta = sym e i }) both.1
      at false e both = subst Kinds (λ i. record { class = c.class; meta = sym e i }) both.0

-- ---- what descends is present, and so is what it descends from

pub present-below : (supers : List (Option Presence)) (origin c : ClassRef) → descends supers origin c ≡ true → is_present supers c.class ≡ true
present-below supers origin c down = at (is_present supers c.class) refl
  where
    at : (b : Bool) → is_present supers c.class ≡ b → is_present supers c.class ≡ true
    at true e = e
    at false e = let none = absent-below supers origin c e in absurd (clash (sym none ∙ down))
      where
        clash : false ≡ true → ⊥
        clash h = cc

module _ (supers : List (Option Presence)) (order : List ℕ) (before : IsOrder supers order) (origin : ClassRef) (absent : is_present supers origin.class ≡ false) where
  nothing-down : (n : ℕ) (c : ClassRef) → steps_of order c < n → descends supers origin c ≡ true → ⊥
  nothing-down zero c less down = absurd (omega (arith, less))
  nothing-down (suc n) c less down = at (nothing-down n) (up supers order origin c before down)
    where
      at : ((d : ClassRef) → steps_of order d < n → descends supers origin d ≡ true → ⊥) → (same_class origin c ≡ true) ⊎ ((d : ClassRef) × (super_of supers c ≡ Some d) × (descends supers origin d ≡ true)) → ⊥
      at rest (inl e) = clash (sym absent ∙ ap (λ (z : ClassRef). is_present supers z.class) (same_class-is origin c e) ∙ present-below supers origin c down)
        where
          clash : false ≡ true → ⊥
          clash h = cc
      at rest (inr (d, e, down')) = let fewer = super-fewer supers order before c d e in rest d (omega (arith, fewer, less)) down'

  pub nothing-below : (c : ClassRef) → descends supers origin c ≡ false
  nothing-below c = at (descends supers origin c) refl
    where
      at : (b : Bool) → descends supers origin c ≡ b → b ≡ false
      at false e = refl
      at true e = absurd (nothing-down (suc (steps_of order c)) c (omega arith) e)
