-- The classes of a log of accepted changes.
use Rattle.std.proofs.Common.{◌≡◌, ◌≢◌, ◌<◌, ◌≤◌, ◌⊎◌, inl, inr, ℕ, zero, suc, List, [], ◌∷◌, ◌++◌, length, Option, Some, None, Bool, true, false, cond, drop, refl, sym, ap, ◌∙◌, subst, append_assoc, append-nil, arith}
use Rattle.std.specs.Prelude.{◌||◌, ◌==◌, nat_lt, not, is_some, unwrap_or, slice_set, IfSome}
use Rattle.std.specs.Option.{option_map_or}
use Rattle.std.proofs.lemmas.Bool.Decides.{nat_tests}
use Rattle.std.proofs.lemmas.List.{length-set, get_or-set_other}
use Rattle.std.specs.List.{list_any}
use Rattle.msg_names.proofs.TestLemmas.{neither, not_false}
use Rattle.msg_names.specs.declared.value.ClassRef.{ClassRef}
use Rattle.msg_names.specs.ClassRef.{above}
use Rattle.msg_order.proofs.ExistLemmas.{order_exists}
use Rattle.msg_tables.specs.Origin.{OriginView, IsSound, class_total}
use Rattle.msg_tables.specs.declared.change.Change.{Change}
use Rattle.msg_tables.specs.declared.change.Change.TheVariants.{Add, Replace, SetImp, Exchange, Attach, AddClass, Remove, DisposeClass}
use Rattle.msg_tables.specs.declared.fault.ChangeFault.{ChangeFault}
use Rattle.msg_tables.specs.declared.fault.ChangeFault.TheVariants.{NoClass, Limit, DuplicateClass, ClassInUse}
use Rattle.msg_tables.specs.declared.presence.Presence.{Presence}
use Rattle.msg_tables.specs.After.{of_class, of_meta, opening_table, table_after, supers_after, without_class}
use Rattle.msg_tables.specs.Chain.{presence_of, is_present, has_subclass, super_of, chain_up, chain_of, steps_of, is_member}
use Rattle.msg_tables.specs.Log.{Log, BeginsWith, empty, and_then, table, lookup, superclass, chain_at}
use Rattle.msg_tables.specs.Affected.{is_affected, written_refs}
use Rattle.msg_tables.specs.Order.{IsOrder}
use Rattle.msg_tables.specs.Presence.{EndsAtRoot}
use Rattle.msg_tables.specs.Rows.{own, chain, lookup_in}
use Rattle.msg_tables.specs.Refusal.{refusal, AreAccepted, IsLog, least_change_fault, no_class, no_number, no_superclass, is_full, is_in_use, has_own, conditions}
use Rattle.msg_tables.specs.Written.{SeeksAmong}
use Rattle.msg_tables.proofs.LogLemmas.{table-and_then, length-supers, accepted-suffix, log-before}
use Rattle.msg_tables.proofs.LawLemmas.{lookup-after, lookup-unaffected, is-there}
use Rattle.msg_tables.proofs.ListedOrderLemmas.{opened-is_present, order-listed}
use Rattle.msg_tables.proofs.MadeLemmas.{made-order}
use Rattle.msg_tables.proofs.DescentLemmas.{chain_of-step}
use Rattle.msg_tables.proofs.OrderLemmas.{present-inside, super-is, super-present, super-fewer, steps_suffice}
use Rattle.msg_tables.specs.Undo.{imps_of}
use Rattle.msg_tables.proofs.ImpsLemmas.{last_of, own-imps, imps-without_class}
use Rattle.msg_tables.proofs.ClassLemmas.{gone-other, no_subclass}
use Rattle.msg_tables.proofs.DisposedLemmas.{disposed-order, without_at}
use Rattle.msg_tables.proofs.OwnLemmas.{lookup-same}
use Rattle.msg_names.proofs.ClassRefLemmas.{same_class-is}
use Rattle.msg_names.proofs.TestLemmas.{same_number}
use Rattle.msg_names.specs.ClassRef.{same_class}

-- ---- what is known of a class that is accepted

-- it can be made, and its superclass is present
pub record MayBeMade (h : Log) (k : ℕ) (d : Option ℕ) : Type 0 where
  pub inside : k < length (table h).supers
  pub absent : is_present (table h).supers k ≡ false
  pub superclass : IfSome d (λ e. is_present (table h).supers e ≡ true)

not_true : (b : Bool) → not (not b) ≡ false → b ≡ false
not_true true e = cc
not_true false e = refl

neither_fault : (a b c : Bool) → least_change_fault ((a, NoClass) ∷ (b, Limit) ∷ (c, DuplicateClass) ∷ []) ≡ None → (a ≡ false) × (c ≡ false)
neither_fault true b c e = cc
neither_fault false true c e = cc
neither_fault false false true e = cc
neither_fault false false false e = (refl, refl)

pub may_be_made : (h : Log) (k : ℕ) (d : Option ℕ) → refusal h (AddClass k d) ≡ None → MayBeMade h k d
unfolding refusal no_number no_class
may_be_made h k d accepted =
    let none = neither_fault (no_number h k || no_superclass h d) (is_full h 0) (not (no_class h (of_class k))) accepted in
    let parts = neither (no_number h k) (no_superclass h d) none.0 in
    record {
      inside = let n = length-supers h in let few : k < class_total h.origin = grind (arith, nat_tests, parts.0) in omega (arith, n, few);
      absent = not_true (is_present (table h).supers k) none.1;
      superclass = there d parts.1;
    }
  where
    there : (d : Option ℕ) → no_superclass h d ≡ false → IfSome d (λ e. is_present (table h).supers e ≡ true)
    there None e = tt
    there (Some e') e = not_false (is_present (table h).supers e') e

-- a class that may be disposed of has no class below it
pub record Disposed (h : Log) (k : ℕ) : Type 0 where
  pub here : is_present (table h).supers k ≡ true
  pub made : length h.origin.superclasses ≤ k
  pub leaf : has_subclass (table h).supers k ≡ false

three-parts : (a b c : Bool) → least_change_fault ((a, NoClass) ∷ (b, Limit) ∷ (c, ClassInUse) ∷ []) ≡ None → (a ≡ false) × (c ≡ false)
three-parts true b c e = cc
three-parts false true c e = cc
three-parts false false true e = cc
three-parts false false false e = (refl, refl)

pub disposed : (h : Log) (k : ℕ) → refusal h (DisposeClass k) ≡ None → Disposed h k
unfolding refusal is_in_use
disposed h k accepted =
    let none = three-parts (no_class h (of_class k)) (is_full h 0) (nat_lt k (length h.origin.superclasses) || has_subclass (table h).supers k) accepted in
    let parts = neither (nat_lt k (length h.origin.superclasses)) (has_subclass (table h).supers k) none.1 in
    record { here = is-there h (of_class k) none.0; made = few parts.0; leaf = parts.1 }
  where
    few : nat_lt k (length h.origin.superclasses) ≡ false → length h.origin.superclasses ≤ k
    few e = grind (arith, nat_tests, e)

-- ---- the order of the classes at a log

pub record Ordered (supers : List (Option Presence)) : Type 0 where
  pub order : List ℕ
  pub is : IsOrder supers order

ordered-after : (h : Log) (x : Change) → Ordered (table h).supers → refusal h x ≡ None → Ordered (supers_after (table h).supers x)
ordered-after h (Add c s i) o accepted = o
ordered-after h (Replace c s i) o accepted = o
ordered-after h (SetImp c s i) o accepted = o
ordered-after h (Exchange c s d u) o accepted = o
ordered-after h (Attach k ms cs) o accepted = o
ordered-after h (AddClass k d) o accepted =
    let may = may_be_made h k d accepted in
    record { order = o.order ++ k ∷ []; is = made-order (table h).supers o.order o.is k d may.inside may.absent may.superclass }
ordered-after h (Remove c s) o accepted = o
ordered-after h (DisposeClass k) o accepted =
    let d = disposed h k accepted in
    record { order = without_at (o.is.whole k d.here).at o.order; is = disposed-order (table h).supers o.order o.is k d.here d.leaf }

pub supers-and_then : (h : Log) (x : Change) → (table (and_then h x)).supers ≡ supers_after (table h).supers x
unfolding table_after
supers-and_then h x = ap (λ t. t.supers) (table-and_then h x)

pub ordered-and_then : (h : Log) (x : Change) → Ordered (table h).supers → refusal h x ≡ None → Ordered (table (and_then h x)).supers
ordered-and_then h x o accepted = subst Ordered (sym (supers-and_then h x)) (ordered-after h x o accepted)

ordered-on : (h : Log) (xs : List Change) → Ordered (table h).supers → AreAccepted h xs → Ordered (table (record { origin = h.origin; changes = h.changes ++ xs })).supers
ordered-on h [] o all = subst (λ cs. Ordered (table (record { origin = h.origin; changes = cs })).supers) (sym (append-nil h.changes)) o
ordered-on h (x ∷ xs) o all =
    let next = ordered-and_then h x o all.0 in
    subst (λ cs. Ordered (table (record { origin = h.origin; changes = cs })).supers) (append_assoc h.changes (x ∷ []) xs) (ordered-on (and_then h x) xs next all.1)

ordered-opened : (o : OriginView) → IsSound o → Ordered (table (empty o)).supers
unfolding table opening_table
ordered-opened o sound = let (order, is) = order_exists o.superclasses sound.classes sound.chains in record { order = order; is = order-listed o order is }

pub ordered : (h : Log) → IsSound h.origin → IsLog h → Ordered (table h).supers
unfolding IsLog
ordered h sound accepted = ordered-on (empty h.origin) h.changes (ordered-opened h.origin sound) accepted

-- ---- a class that is made leaves the others unchanged

module _ (supers : List (Option Presence)) (order : List ℕ) (is : IsOrder supers order) (k : ℕ) (p : Presence) (absent : is_present supers k ≡ false) where
  apart : (j : ℕ) → is_present supers j ≡ true → j ≢ k
  apart j there same = let gone : is_present supers k ≡ true = subst (λ i. is_present supers i ≡ true) same there in cc

  presence-stays : (j : ℕ) → j ≢ k → presence_of (slice_set supers k (Some p)) j ≡ presence_of supers j
  presence-stays j ne = get_or-set_other supers k j (Some p) None ne

  super-stays : (c : ClassRef) → c.class ≢ k → super_of (slice_set supers k (Some p)) c ≡ super_of supers c
  super-stays c ne = ap (λ o. option_map_or (λ (q : Presence). above c q.superclass) o None) (presence-stays c.class ne)

  chain_up-stays : (n : ℕ) (c : ClassRef) → is_present supers c.class ≡ true → chain_up n (slice_set supers k (Some p)) c ≡ chain_up n supers c
  chain_up-stays zero c here = refl
  chain_up-stays (suc n) c here =
      ap (λ (o : Option ClassRef). c ∷ option_map_or (chain_up n (slice_set supers k (Some p))) o []) (super-stays c (apart c.class here))
      ∙ ap (λ (cs : List ClassRef). c ∷ cs) (at (super_of supers c) (λ d e. chain_up-stays n d (super-present supers order is c d e)) refl)
    where
      at : (o : Option ClassRef) → ((d : ClassRef) → super_of supers c ≡ Some d → chain_up n (slice_set supers k (Some p)) d ≡ chain_up n supers d) → super_of supers c ≡ o
          → option_map_or (chain_up n (slice_set supers k (Some p))) o [] ≡ option_map_or (chain_up n supers) o []
      at None rest e = refl
      at (Some d) rest e = rest d e

  pub chain_of-stays : (c : ClassRef) → c.class ≢ k → chain_of (slice_set supers k (Some p)) c ≡ chain_of supers c
  unfolding chain_of
  chain_of-stays c ne =
      ap (λ b. cond b (chain_up (length (slice_set supers k (Some p))) (slice_set supers k (Some p)) c) []) (ap is_some (presence-stays c.class ne))
      ∙ ap (λ n. cond (is_present supers c.class) (chain_up n (slice_set supers k (Some p)) c) []) (length-set supers k (Some p))
      ∙ step (is_present supers c.class) refl
    where
      step : (b : Bool) → is_present supers c.class ≡ b → cond b (chain_up (length supers) (slice_set supers k (Some p)) c) [] ≡ cond b (chain_up (length supers) supers c) []
      step true here = chain_up-stays (length supers) c here
      step false here = refl

pub lookup-made : (h : Log) (k : ℕ) (d : Option ℕ) (c : ClassRef) (s : ℕ) → IsSound h.origin → IsLog h → refusal h (AddClass k d) ≡ None → c.class ≢ k → lookup (and_then h (AddClass k d)) c s ≡ lookup h c s
unfolding lookup
lookup-made h k d c s sound log accepted ne =
    let o = ordered h sound log in
    let may = may_be_made h k d accepted in
    lookup-after h (AddClass k d) c s ∙ ap (λ cs. lookup_in (table h).rows cs s) (chain_of-stays (table h).supers o.order o.is k (record { superclass = d }) may.absent c ne)

-- ---- a class that is disposed of leaves the others unchanged

module _ (supers : List (Option Presence)) (k : ℕ) (leaf : has_subclass supers k ≡ false) where
  gone-super : (c : ClassRef) → c.class ≢ k → super_of (slice_set supers k None) c ≡ super_of supers c
  gone-super c ne = ap (λ o. option_map_or (λ (q : Presence). above c q.superclass) o None) (gone-other supers k c.class ne)

  -- no chain of another class comes to it
  super-apart : (c d : ClassRef) → c.class ≢ k → super_of supers c ≡ Some d → d.class ≢ k
  super-apart c d ne e = at (super-is supers c d e)
    where
      at : ((p : Presence) × (presence_of supers c.class ≡ Some p) × (p.superclass ≡ Some d.class) × (d.meta ≡ c.meta)) ⊎ ((d ≡ of_class c.class) × (c.meta ≡ true) × (is_present supers c.class ≡ true)) → d.class ≢ k
      at (inl (p, here, up, meta)) = no_subclass supers k leaf c.class d.class p here up
      at (inr (own', meta, here)) = λ same. ne (sym (ap (λ (z : ClassRef). z.class) own') ∙ same)

  chain_up-gone : (n : ℕ) (c : ClassRef) → c.class ≢ k → chain_up n (slice_set supers k None) c ≡ chain_up n supers c
  chain_up-gone zero c ne = refl
  chain_up-gone (suc n) c ne =
      ap (λ (o : Option ClassRef). c ∷ option_map_or (chain_up n (slice_set supers k None)) o []) (gone-super c ne)
      ∙ ap (λ (cs : List ClassRef). c ∷ cs) (at (super_of supers c) refl (λ d e. chain_up-gone n d (super-apart c d ne e)))
    where
      at : (o : Option ClassRef) → super_of supers c ≡ o → ((d : ClassRef) → super_of supers c ≡ Some d → chain_up n (slice_set supers k None) d ≡ chain_up n supers d)
          → option_map_or (chain_up n (slice_set supers k None)) o [] ≡ option_map_or (chain_up n supers) o []
      at None e rest = refl
      at (Some d) e rest = rest d e

  pub chain_of-gone : (c : ClassRef) → c.class ≢ k → chain_of (slice_set supers k None) c ≡ chain_of supers c
  unfolding chain_of
  chain_of-gone c ne =
      ap (λ b. cond b (chain_up (length (slice_set supers k None)) (slice_set supers k None) c) []) (ap is_some (gone-other supers k c.class ne))
      ∙ ap (λ n. cond (is_present supers c.class) (chain_up n (slice_set supers k None) c) []) (length-set supers k None)
      ∙ ap (λ cs. cond (is_present supers c.class) cs []) (chain_up-gone (length supers) c ne)

  up-apart : (n : ℕ) (c d : ClassRef) → c.class ≢ k → is_member d (chain_up n supers c) ≡ true → d.class ≢ k
  up-apart zero c d ne e = at (same_class d c) refl e
    where
      at : (b : Bool) → same_class d c ≡ b → (b || false) ≡ true → d.class ≢ k
      at true is e = λ same. ne (sym (ap (λ (z : ClassRef). z.class) (same_class-is d c is)) ∙ same)
      at false is e = cc
  up-apart (suc n) c d ne e = at (same_class d c) refl (super_of supers c) refl (λ f g h. up-apart n f d (super-apart c f ne g) h) e
    where
      at : (b : Bool) → same_class d c ≡ b → (o : Option ClassRef) → super_of supers c ≡ o → ((f : ClassRef) → super_of supers c ≡ Some f → is_member d (chain_up n supers f) ≡ true → d.class ≢ k)
          → (b || is_member d (option_map_or (chain_up n supers) o [])) ≡ true → d.class ≢ k
      at true is o up rest e = λ same. ne (sym (ap (λ (z : ClassRef). z.class) (same_class-is d c is)) ∙ same)
      at false is None up rest e = cc
      at false is (Some f) up rest e = rest f up e

  pub chain-apart : (c d : ClassRef) → c.class ≢ k → is_member d (chain_of supers c) ≡ true → d.class ≢ k
  unfolding chain_of
  chain-apart c d ne e = at (is_present supers c.class) e
    where
      at : (b : Bool) → is_member d (cond b (chain_up (length supers) supers c) []) ≡ true → d.class ≢ k
      at true e = up-apart (length supers) c d ne e
      at false e = cc

pub lookup-disposed : (h : Log) (k : ℕ) (c : ClassRef) (s : ℕ) → Disposed h k → c.class ≢ k → lookup (and_then h (DisposeClass k)) c s ≡ lookup h c s
unfolding lookup
lookup-disposed h k c s d ne =
    lookup-after h (DisposeClass k) c s ∙ ap (λ cs. lookup_in (without_class k (table h).rows) cs s) (chain_of-gone (table h).supers k d.leaf c ne)
    ∙ lookup-same (table h).rows (without_class k (table h).rows) (chain (table h) c) s (λ p among. same p (chain-apart (table h).supers k d.leaf c p ne among))
  where
    same : (p : ClassRef) → p.class ≢ k → own (without_class k (table h).rows) p s ≡ own (table h).rows p s
    same p ne = own-imps (without_class k (table h).rows) p s ∙ ap last_of (imps-without_class k p s (table h).rows ∙ step (p.class == k) refl) ∙ sym (own-imps (table h).rows p s)
      where
        step : (b : Bool) → (p.class == k) ≡ b → cond b [] (imps_of p s (table h).rows) ≡ imps_of p s (table h).rows
        step false e = refl
        step true e = absurd (ne (same_number p.class k e))

-- what a change doesn't affect finds what it found before
pub lookup-kept : (h : Log) (x : Change) (c : ClassRef) (s : ℕ) → IsSound h.origin → IsLog h → refusal h x ≡ None → is_affected h x c ≡ false → lookup (and_then h x) c s ≡ lookup h c s
unfolding is_affected
lookup-kept h (Add d u i) c s sound log accepted e = lookup-unaffected h (Add d u i) c s refl (λ d. refl) e
lookup-kept h (Replace d u i) c s sound log accepted e = lookup-unaffected h (Replace d u i) c s refl (λ d. refl) e
lookup-kept h (SetImp d u i) c s sound log accepted e = lookup-unaffected h (SetImp d u i) c s refl (λ d. refl) e
lookup-kept h (Exchange d u f v) c s sound log accepted e = lookup-unaffected h (Exchange d u f v) c s refl (λ d. refl) e
lookup-kept h (Attach k ms cs) c s sound log accepted e = lookup-unaffected h (Attach k ms cs) c s refl (λ d. refl) e
lookup-kept h (AddClass k d) c s sound log accepted e =
    let other = (neither (c.class == k) (list_any (λ place. is_member place (chain_at h c)) (written_refs h (AddClass k d))) e).0 in
    lookup-made h k d c s sound log accepted (λ same. grind (arith, nat_tests, other, same))
lookup-kept h (Remove d u) c s sound log accepted e = lookup-unaffected h (Remove d u) c s refl (λ d. refl) e
lookup-kept h (DisposeClass k) c s sound log accepted e =
    let other = (neither (c.class == k) (list_any (λ place. is_member place (chain_at h c)) (written_refs h (DisposeClass k))) e).0 in
    lookup-disposed h k c s (disposed h k accepted) (λ same. grind (arith, nat_tests, other, same))

-- ---- what a class inherits

module _ (h : Log) where
  pub inherits : (c d : ClassRef) (s : ℕ) → IsSound h.origin → IsLog h → no_class h c ≡ false → has_own h c s ≡ false → superclass h c ≡ Some d → lookup h c s ≡ lookup h d s
  unfolding lookup has_own superclass
  inherits c d s sound log listed none above' =
      let o = ordered h sound log in
      ap (λ cs. lookup_in (table h).rows cs s) (chain_of-step (table h).supers o.order c o.is (is-there h c listed) ∙ ap (λ o. c ∷ option_map_or (chain_of (table h).supers) o []) above')
      ∙ at (own (table h).rows c s) none
    where
      at : (o : Option ℕ) → is_some o ≡ false → unwrap_or o (lookup_in (table h).rows (chain (table h) d) s) ≡ lookup_in (table h).rows (chain (table h) d) s
      at None e = refl
      at (Some i) e = cc

  pub root-meta : (k : ℕ) → no_class h (of_class k) ≡ false → superclass h (of_class k) ≡ None → superclass h (of_meta k) ≡ Some (of_class k)
  unfolding superclass
  root-meta k listed none = at (presence_of (table h).supers k) refl (is-there h (of_class k) listed)
    where
      root : (o : Option ℕ) → above (of_class k) o ≡ None → above (of_meta k) o ≡ Some (of_class k)
      root None e = refl
      root (Some d) e = cc

      at : (o : Option Presence) → presence_of (table h).supers k ≡ o → is_some o ≡ true → super_of (table h).supers (of_meta k) ≡ Some (of_class k)
      at None here there = cc
      at (Some p) here there =
          let up : above (of_class k) p.superclass ≡ None = sym (ap (λ x. option_map_or (λ (q : Presence). above (of_class k) q.superclass) x None) here) ∙ none in
          ap (λ x. option_map_or (λ (q : Presence). above (of_meta k) q.superclass) x None) here ∙ root p.superclass up

  -- up to a class reference that has nothing above it
  pub ends : (c : ClassRef) → IsSound h.origin → IsLog h → no_class h c ≡ false → EndsAtRoot h c
  unfolding superclass chain_at chain_of
  ends c sound log listed =
      let o = ordered h sound log in
      let here = is-there h c listed in
      let (front, (last, (is, none))) = up o.order o.is (length (table h).supers) c here (steps_suffice (table h).supers o.order o.is c here) in
      record { front = front; last = last; is = ap (λ b. cond b (chain_up (length (table h).supers) (table h).supers c) []) here ∙ is; root = none }
    where
      Ends : ℕ → ClassRef → Type 0
      Ends n c = (front : List ClassRef) × ((last : ClassRef) × ((chain_up n (table h).supers c ≡ front ++ last ∷ []) × (super_of (table h).supers last ≡ None)))

      up : (order : List ℕ) → IsOrder (table h).supers order → (n : ℕ) (c : ClassRef) → is_present (table h).supers c.class ≡ true → steps_of order c ≤ n → Ends n c
      up order is zero c here enough = at (super_of (table h).supers c) refl
        where
          at : (o : Option ClassRef) → super_of (table h).supers c ≡ o → Ends zero c
          at None e = ([], (c, (refl, e)))
          at (Some d) e = let fewer = super-fewer (table h).supers order is c d e in absurd (omega (arith, fewer, enough))
      up order is (suc n) c here enough = at (super_of (table h).supers c) refl (λ d e. up order is n d (super-present (table h).supers order is c d e) (let fewer = super-fewer (table h).supers order is c d e in omega (arith, fewer, enough)))
        where
          at : (o : Option ClassRef) → super_of (table h).supers c ≡ o → ((d : ClassRef) → super_of (table h).supers c ≡ Some d → Ends n d) → Ends (suc n) c
          at None e rest = ([], (c, (ap (λ o. c ∷ option_map_or (chain_up n (table h).supers) o []) e, e)))
          at (Some d) e rest =
              let (front, (last, (is', none))) = rest d e in
              (c ∷ front, (last, (ap (λ o. c ∷ option_map_or (chain_up n (table h).supers) o []) e ∙ ap (λ cs. c ∷ cs) is', none)))

-- ---- a listed class stays, with its superclass

presence-after : (h : Log) (x : Change) (k : ℕ) → refusal h x ≡ None → k < length h.origin.superclasses → is_present (table h).supers k ≡ true → presence_of (supers_after (table h).supers x) k ≡ presence_of (table h).supers k
presence-after h (Add c s i) k accepted listed here = refl
presence-after h (Replace c s i) k accepted listed here = refl
presence-after h (SetImp c s i) k accepted listed here = refl
presence-after h (Exchange c s d u) k accepted listed here = refl
presence-after h (Attach j ms cs) k accepted listed here = refl
presence-after h (AddClass j d) k accepted listed here =
    let may = may_be_made h j d accepted in
    get_or-set_other (table h).supers j k (Some (record { superclass = d })) None (λ same. let gone : is_present (table h).supers j ≡ true = subst (λ i. is_present (table h).supers i ≡ true) same here in let clash : true ≡ false = sym gone ∙ may.absent in cc)
presence-after h (Remove c s) k accepted listed here = refl
presence-after h (DisposeClass j) k accepted listed here = let d = disposed h j accepted in gone-other (table h).supers j k (λ same. let made = d.made in absurd (omega (arith, same, made, listed)))

pub presence-on : (h : Log) (xs : List Change) (k : ℕ) → AreAccepted h xs → k < length h.origin.superclasses → is_present (table h).supers k ≡ true
    → presence_of (table (record { origin = h.origin; changes = h.changes ++ xs })).supers k ≡ presence_of (table h).supers k
presence-on h [] k all listed here = ap (λ cs. presence_of (table (record { origin = h.origin; changes = cs })).supers k) (append-nil h.changes)
presence-on h (x ∷ xs) k all listed here =
    let first = ap (λ supers. presence_of supers k) (supers-and_then h x) ∙ presence-after h x k all.0 listed here in
    ap (λ cs. presence_of (table (record { origin = h.origin; changes = cs })).supers k) (sym (append_assoc h.changes (x ∷ []) xs))
    ∙ presence-on (and_then h x) xs k all.1 listed (ap is_some first ∙ here) ∙ first

-- and is there at each log
pub listed-there : (h : Log) (k : ℕ) → IsLog h → k < length h.origin.superclasses → is_present (table h).supers k ≡ true
unfolding IsLog table opening_table
listed-there h k log inside = ap is_some (presence-on (empty h.origin) h.changes k log inside (opened-is_present h.origin k inside)) ∙ opened-is_present h.origin k inside

pub superclass-stays : (p h : Log) (c : ClassRef) → BeginsWith p h → IsLog p → c.class < length h.origin.superclasses → superclass p c ≡ superclass h c
unfolding superclass IsLog
superclass-stays p h c begins log listed =
    let (more, changes) = begins.rest in
    let all = accepted-suffix (empty h.origin) h.changes more (subst (λ o. AreAccepted (empty o) (h.changes ++ more)) begins.same (subst (AreAccepted (empty p.origin)) changes log)) in
    let same : p ≡ record { origin = h.origin; changes = h.changes ++ more } = λ i. record { origin = begins.same i; changes = changes i } in
    ap (λ (q : Log). super_of (table q).supers c) same
    ∙ ap (λ o. option_map_or (λ (q : Presence). above c q.superclass) o None) (presence-on h more c.class all listed (listed-there h c.class (log-before p h begins log) listed))

-- ---- the classes at which an accepted change looks for its methods

there_inside : (h : Log) (c : ClassRef) → no_class h c ≡ false → c.class < class_total h.origin
there_inside h c e = let n = length-supers h in let inside = present-inside (table h).supers c.class (is-there h c e) in omega (arith, n, inside)

first_false : (b : Bool) (f : ChangeFault) (fs : List (Bool × ChangeFault)) → least_change_fault ((b, f) ∷ fs) ≡ None → b ≡ false
first_false true f fs e = cc
first_false false f fs e = refl

pub seeks-listed : (h : Log) (x : Change) → refusal h x ≡ None → SeeksAmong (class_total h.origin) x
unfolding refusal
seeks-listed h (Add c s i) none = tt
seeks-listed h (Replace c s i) none = tt
seeks-listed h (Attach k ms cs) none = tt
seeks-listed h (Remove c s) none = tt
seeks-listed h (DisposeClass k) none = tt
seeks-listed h (SetImp c s i) none = there_inside h c (first_false (no_class h c) NoClass (drop 1 (conditions h (SetImp c s i))) none)
seeks-listed h (Exchange c s d u) none =
    let (own', other) = neither (no_class h c) (no_class h d) (first_false (no_class h c || no_class h d) NoClass (drop 1 (conditions h (Exchange c s d u))) none) in
    (there_inside h c own', there_inside h d other)
seeks-listed h (AddClass k d) none = at d (may_be_made h k d none).superclass
  where
    at : (o : Option ℕ) → IfSome o (λ e. is_present (table h).supers e ≡ true) → IfSome o (λ e. e < class_total h.origin)
    at None there = tt
    at (Some e) there = let n = length-supers h in let inside = present-inside (table h).supers e there in omega (arith, n, inside)
