-- Why a change is refused, by the tables.
use Rattle.std.proofs.Common.{◌≡◌, ◌<◌, ◌≤◌, ◌+◌, ℕ, List, [], ◌∷◌, ◌++◌, length, length-append, Option, Some, None, Bool, false, refl, sym, ap, ◌∙◌, subst, arith}
use Rattle.std.specs.Prelude.{◌||◌, not, nat_lt, nat_le, is_some, is_none, if◌then◌else◌}
use Rattle.std.specs.List.{list_any}
use Rattle.std.proofs.lemmas.Bool.Decides.{nat_tests}
use Rattle.msg_names.specs.Number.{selector_number, imp_number}
use Rattle.msg_tables.specs.declared.change.Change.{Change}
use Rattle.msg_tables.specs.declared.change.Change.TheVariants.{Add, Replace, SetImp, Exchange, Attach, AddClass, Remove, DisposeClass}
use Rattle.msg_tables.specs.declared.fault.ChangeFault.{ChangeFault}
use Rattle.msg_tables.specs.declared.fault.ChangeFault.TheVariants.{NoClass, NoImp, ArgumentCount, MethodPresent, NoMethod, Limit, DuplicateClass, ClassInUse}
use Rattle.msg_tables.specs.declared.presence.Presence.{Presence}
use Rattle.msg_tables.specs.After.{table_after}
use Rattle.msg_tables.specs.Chain.{is_present, has_subclass}
use Rattle.msg_tables.specs.Log.{Log, and_then, table, table_after_all}
use Rattle.msg_tables.specs.Origin.{OriginView, class_total, lacks_imp, misfits_in, unlike_in}
use Rattle.msg_tables.specs.Refusal.{refusal, AreAccepted, conditions, least_change_fault, no_class, no_number, no_imp, misfits, unlike, has_own, no_method, is_full, is_in_use}
use Rattle.msg_tables.specs.Rows.{ClassTable, own, holder_at}
use Rattle.msg_tables.specs.Undo.{AreAlike}
use Rattle.msg_tables.proofs.AlikeLemmas.{alike-rows, own-alike, length-alike, holder-alike, alike-after}
use Rattle.msg_tables.proofs.LimitLemmas.{accepted_few}
use Rattle.msg_tables.proofs.LogLemmas.{table-and_then}

module _ (ended : Bool) (o : OriginView) where
  abbrev pub absent : List (Option Presence) → ℕ → Bool
  absent supers k = not (is_present supers k)

  -- no more changes are accepted, or the rows are too many
  abbrev pub full : ℕ → Bool
  full n = ended || nat_lt o.limits.rows n

  abbrev pub absent_superclass : List (Option Presence) → Option ℕ → Bool
  absent_superclass supers None = false
  absent_superclass supers (Some d) = absent supers d

  abbrev pub against : ClassTable → Change → List (Bool × ChangeFault)
  against t (Add c s i) =
      (absent t.supers c.class, NoClass) ∷ (lacks_imp o.counts (imp_number i), NoImp) ∷ (misfits_in o.counts (selector_number s) (imp_number i), ArgumentCount)
      ∷ (is_some (own t.rows c (selector_number s)), MethodPresent) ∷ (full (length t.rows + 1), Limit) ∷ []
  against t (Replace c s i) =
      (absent t.supers c.class, NoClass) ∷ (lacks_imp o.counts (imp_number i), NoImp) ∷ (misfits_in o.counts (selector_number s) (imp_number i), ArgumentCount)
      ∷ (full (length t.rows + (if is_some (own t.rows c (selector_number s)) then 0 else 1)), Limit) ∷ []
  against t (SetImp c s i) =
      (absent t.supers c.class, NoClass) ∷ (lacks_imp o.counts (imp_number i), NoImp) ∷ (misfits_in o.counts (selector_number s) (imp_number i), ArgumentCount)
      ∷ (is_none (holder_at t c (selector_number s)), NoMethod) ∷ (full (length t.rows + 0), Limit) ∷ []
  against t (Exchange c s d u) =
      (absent t.supers c.class || absent t.supers d.class, NoClass) ∷ (unlike_in o.counts (selector_number s) (selector_number u), ArgumentCount)
      ∷ (is_none (holder_at t c (selector_number s)) || is_none (holder_at t d (selector_number u)), NoMethod) ∷ (full (length t.rows + 0), Limit) ∷ []
  against t (Attach k ms cs) =
      (absent t.supers k, NoClass) ∷ (list_any (λ m. lacks_imp o.counts m.1) (ms ++ cs), NoImp) ∷ (list_any (λ m. misfits_in o.counts m.0 m.1) (ms ++ cs), ArgumentCount)
      ∷ (full (length t.rows + length (ms ++ cs)), Limit) ∷ []
  against t (AddClass k d) = (nat_le (class_total o) k || absent_superclass t.supers d, NoClass) ∷ (full (length t.rows + 0), Limit) ∷ (not (absent t.supers k), DuplicateClass) ∷ []
  against t (Remove c s) =
      (absent t.supers c.class, NoClass) ∷ (unlike_in o.counts (selector_number s) (selector_number s), ArgumentCount) ∷ (not (is_some (own t.rows c (selector_number s))), NoMethod)
      ∷ (full (length t.rows + 0), Limit) ∷ []
  against t (DisposeClass k) = (absent t.supers k, NoClass) ∷ (full (length t.rows + 0), Limit) ∷ (nat_lt k (length o.superclasses) || has_subclass t.supers k, ClassInUse) ∷ []

  -- the same for tables that are alike
  against-alike : (t u : ClassTable) (x : Change) → AreAlike t u → against t x ≡ against u x
  against-alike t u (Add c s i) e =
      let supers = e.supers in let own' = own-alike t.rows u.rows (alike-rows t u e) c (selector_number s) in let rows = length-alike t.rows u.rows (alike-rows t u e) in
      λ k. (absent (supers k) c.class, NoClass) ∷ (lacks_imp o.counts (imp_number i), NoImp) ∷ (misfits_in o.counts (selector_number s) (imp_number i), ArgumentCount)
      ∷ (is_some (own' k), MethodPresent) ∷ (full (rows k + 1), Limit) ∷ []
  against-alike t u (Replace c s i) e =
      let supers = e.supers in let own' = own-alike t.rows u.rows (alike-rows t u e) c (selector_number s) in let rows = length-alike t.rows u.rows (alike-rows t u e) in
      λ k. (absent (supers k) c.class, NoClass) ∷ (lacks_imp o.counts (imp_number i), NoImp) ∷ (misfits_in o.counts (selector_number s) (imp_number i), ArgumentCount)
      ∷ (full (rows k + (if is_some (own' k) then 0 else 1)), Limit) ∷ []
  against-alike t u (SetImp c s i) e =
      let supers = e.supers in let held = holder-alike t u e c (selector_number s) in let rows = length-alike t.rows u.rows (alike-rows t u e) in
      λ k. (absent (supers k) c.class, NoClass) ∷ (lacks_imp o.counts (imp_number i), NoImp) ∷ (misfits_in o.counts (selector_number s) (imp_number i), ArgumentCount)
      ∷ (is_none (held k), NoMethod) ∷ (full (rows k + 0), Limit) ∷ []
  against-alike t u (Exchange c s d v) e =
      let supers = e.supers in let p = holder-alike t u e c (selector_number s) in let q = holder-alike t u e d (selector_number v) in let rows = length-alike t.rows u.rows (alike-rows t u e) in
      λ k. (absent (supers k) c.class || absent (supers k) d.class, NoClass) ∷ (unlike_in o.counts (selector_number s) (selector_number v), ArgumentCount)
      ∷ (is_none (p k) || is_none (q k), NoMethod) ∷ (full (rows k + 0), Limit) ∷ []
  against-alike t u (Attach j ms cs) e =
      let supers = e.supers in let rows = length-alike t.rows u.rows (alike-rows t u e) in
      λ k. (absent (supers k) j, NoClass) ∷ (list_any (λ m. lacks_imp o.counts m.1) (ms ++ cs), NoImp) ∷ (list_any (λ m. misfits_in o.counts m.0 m.1) (ms ++ cs), ArgumentCount)
      ∷ (full (rows k + length (ms ++ cs)), Limit) ∷ []
  against-alike t u (AddClass j d) e =
      let supers = e.supers in let rows = length-alike t.rows u.rows (alike-rows t u e) in
      λ k. (nat_le (class_total o) j || absent_superclass (supers k) d, NoClass) ∷ (full (rows k + 0), Limit) ∷ (not (absent (supers k) j), DuplicateClass) ∷ []
  against-alike t u (Remove c s) e =
      let supers = e.supers in let own' = own-alike t.rows u.rows (alike-rows t u e) c (selector_number s) in let rows = length-alike t.rows u.rows (alike-rows t u e) in
      λ k. (absent (supers k) c.class, NoClass) ∷ (unlike_in o.counts (selector_number s) (selector_number s), ArgumentCount) ∷ (not (is_some (own' k)), NoMethod) ∷ (full (rows k + 0), Limit) ∷ []
  against-alike t u (DisposeClass j) e =
      let supers = e.supers in let rows = length-alike t.rows u.rows (alike-rows t u e) in
      λ k. (absent (supers k) j, NoClass) ∷ (full (rows k + 0), Limit) ∷ (nat_lt j (length o.superclasses) || has_subclass (supers k) j, ClassInUse) ∷ []

-- whether as many changes were accepted as the limit
abbrev ended_at : Log → Bool
ended_at h = nat_le h.origin.limits.changes (length h.changes)

conditions-against : (h : Log) (x : Change) → conditions h x ≡ against (ended_at h) h.origin (table h) x
unfolding no_class no_number no_imp misfits unlike has_own no_method is_full is_in_use table Rattle.msg_tables.specs.Chain.chain_of Rattle.msg_tables.specs.Log.holder
conditions-against h (Add c s i) = refl
conditions-against h (Replace c s i) = refl
conditions-against h (SetImp c s i) = refl
conditions-against h (Exchange c s d u) = refl
conditions-against h (Attach k ms cs) = refl
conditions-against h (AddClass k None) = refl
conditions-against h (AddClass k (Some d)) = refl
conditions-against h (Remove c s) = refl
conditions-against h (DisposeClass k) = refl

-- ---- accepted, except for the limit on changes

abbrev pub May : OriginView → ClassTable → Change → Type 0
May o t x = least_change_fault (against false o t x) ≡ None

abbrev pub MayAll : OriginView → ClassTable → List Change → Type 0
MayAll o t [] = Unit {0}
MayAll o t (x ∷ xs) = May o t x × MayAll o (table_after t x) xs

few-more : (h : Log) → length h.changes < h.origin.limits.changes → ended_at h ≡ false
few-more h few = grind (arith, nat_tests, few)

refusal-against : (h : Log) (x : Change) → length h.changes < h.origin.limits.changes → refusal h x ≡ least_change_fault (against false h.origin (table h) x)
unfolding refusal
refusal-against h x few = ap least_change_fault (conditions-against h x ∙ ap (λ b. against b h.origin (table h) x) (few-more h few))

pub accepted-may : (h : Log) (x : Change) → refusal h x ≡ None → May h.origin (table h) x
accepted-may h x e = sym (refusal-against h x (accepted_few h x e)) ∙ e

pub may-accepted : (h : Log) (x : Change) → May h.origin (table h) x → length h.changes < h.origin.limits.changes → refusal h x ≡ None
may-accepted h x e few = refusal-against h x few ∙ e

pub accepted-may_all : (h : Log) (xs : List Change) → AreAccepted h xs → MayAll h.origin (table h) xs
accepted-may_all h [] all = tt
accepted-may_all h (x ∷ xs) all = (accepted-may h x all.0, subst (λ t. MayAll h.origin t xs) (table-and_then h x) (accepted-may_all (and_then h x) xs all.1))

longer : (h : Log) (x : Change) → length (and_then h x).changes ≡ length h.changes + 1
longer h x = length-append h.changes (x ∷ [])

pub may_all-accepted : (h : Log) (xs : List Change) → MayAll h.origin (table h) xs → length h.changes + length xs ≤ h.origin.limits.changes → AreAccepted h xs
may_all-accepted h [] all few = tt
may_all-accepted h (x ∷ xs) all few =
    let one = longer h x in
    (may-accepted h x all.0 (omega (arith, few)), may_all-accepted (and_then h x) xs (subst (λ t. MayAll h.origin t xs) (sym (table-and_then h x)) all.1) (omega (arith, few, one)))

pub may_all-alike : (o : OriginView) (t u : ClassTable) (xs : List Change) → AreAlike t u → MayAll o t xs → MayAll o u xs
may_all-alike o t u [] e all = tt
may_all-alike o t u (x ∷ xs) e all =
    (ap least_change_fault (sym (against-alike false o t u x e)) ∙ all.0, may_all-alike o (table_after t x) (table_after u x) xs (alike-after t u x e) all.1)

pub may_all-append : (o : OriginView) (t : ClassTable) (xs ys : List Change) → MayAll o t xs → MayAll o (table_after_all t xs) ys → MayAll o t (xs ++ ys)
may_all-append o t [] ys all more = more
may_all-append o t (x ∷ xs) ys all more = (all.0, may_all-append o (table_after t x) xs ys all.1 more)
