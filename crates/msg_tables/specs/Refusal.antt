-- When changes are refused, and which lists of changes are logs.
use Rattle.std.specs.Prelude.{◌≡◌, ℕ, ◌+◌, ◌||◌, not, nat_lt, nat_le, Bool, false, List, [], ◌∷◌, ◌++◌, Option, Some, None, if◌then◌else◌, length, is_some, is_none}
use Rattle.std.specs.List.{list_any}
use Rattle.msg_names.specs.declared.value.ClassRef.{ClassRef}
use Rattle.msg_names.specs.declared.value.Selector.{Selector}
use Rattle.msg_names.specs.declared.value.ImpRef.{ImpRef}
use Rattle.msg_names.specs.Number.{selector_number, imp_number}
use Rattle.msg_tables.specs.Origin.{class_total, lacks_imp, misfits_in, unlike_in}
use Rattle.msg_tables.specs.declared.change.Change.{Change}
use Rattle.msg_tables.specs.declared.change.Change.TheVariants.{Add, Replace, SetImp, Exchange, Attach, AddClass, Remove, DisposeClass}
use Rattle.msg_tables.specs.declared.fault.ChangeFault.{ChangeFault}
use Rattle.msg_tables.specs.declared.fault.ChangeFault.TheVariants.{NoClass, NoImp, ArgumentCount, MethodPresent, NoMethod, Limit, DuplicateClass, ClassInUse}
use Rattle.msg_tables.specs.Chain.{is_present, has_subclass}
use Rattle.msg_tables.specs.Rows.{own}
use Rattle.msg_tables.specs.After.{of_class}
use Rattle.msg_tables.specs.Log.{Log, empty, and_then, table, holder}

-- no class that is present has this number
unfoldable pub no_class : Log → ClassRef → Bool
no_class h c = not (is_present (table h).supers c.class)

-- no class can be made with this number
unfoldable pub no_number : Log → ℕ → Bool
no_number h k = nat_le (class_total h.origin) k

-- the superclass that is named isn't present
abbrev pub no_superclass : Log → Option ℕ → Bool
no_superclass h None = false
no_superclass h (Some d) = no_class h (of_class d)

-- no implementation has this number
unfoldable pub no_imp : Log → ℕ → Bool
no_imp h i = lacks_imp h.origin.counts i

-- a selector and an implementation that take different numbers of arguments
unfoldable pub misfits : Log → ℕ → ℕ → Bool
misfits h s i = misfits_in h.origin.counts s i

-- the same for the program's selector and implementation
abbrev pub misfit : Log → Selector → ImpRef → Bool
misfit h s i = misfits h (selector_number s) (imp_number i)

-- two selectors that take different numbers of arguments
unfoldable pub unlike : Log → ℕ → ℕ → Bool
unlike h s u = unlike_in h.origin.counts s u

-- the same for the program's selectors
abbrev pub are_unlike : Log → Selector → Selector → Bool
are_unlike h s u = unlike h (selector_number s) (selector_number u)

-- the class itself has the method
unfoldable pub has_own : Log → ClassRef → ℕ → Bool
has_own h c s = is_some (own (table h).rows c s)

-- neither the class nor a superclass has the method
unfoldable pub no_method : Log → ClassRef → ℕ → Bool
no_method h c s = is_none (holder h c s)

-- no selector has the number
abbrev pub no_selector : Log → Selector → Bool
no_selector h s = are_unlike h s s

-- the class was listed when tables were opened, or has a class directly below it
unfoldable pub is_in_use : Log → ℕ → Bool
is_in_use h k = nat_lt k (length h.origin.superclasses) || has_subclass (table h).supers k

-- no more changes are accepted, or n more rows would be too many
unfoldable pub is_full : Log → ℕ → Bool
is_full h n = nat_le h.origin.limits.changes (length h.changes) || nat_lt h.origin.limits.rows (length (table h).rows + n)

-- the first fault whose condition holds
abbrev pub least_change_fault : List (Bool × ChangeFault) → Option ChangeFault
least_change_fault [] = None
least_change_fault (f ∷ fs) = if f.0 then Some f.1 else least_change_fault fs

-- a method that could not be at the class, whatever rows there are
abbrev pub unfit : Log → ClassRef → Selector → ImpRef → List (Bool × ChangeFault)
unfit h c s i = (no_class h c, NoClass) ∷ (no_imp h (imp_number i), NoImp) ∷ (misfits h (selector_number s) (imp_number i), ArgumentCount) ∷ []

-- methods one of which could not be anywhere
abbrev pub unfit_methods : Log → List (ℕ × ℕ) → List (Bool × ChangeFault)
unfit_methods h methods = (list_any (λ m. no_imp h m.1) methods, NoImp) ∷ (list_any (λ m. misfits h m.0 m.1) methods, ArgumentCount) ∷ []

-- the conditions under which a change is refused, in the order of the faults
abbrev pub conditions : Log → Change → List (Bool × ChangeFault)
conditions h (Add c s i) = unfit h c s i ++ (has_own h c (selector_number s), MethodPresent) ∷ (is_full h 1, Limit) ∷ []
conditions h (Replace c s i) = unfit h c s i ++ (is_full h (if has_own h c (selector_number s) then 0 else 1), Limit) ∷ []
conditions h (SetImp c s i) = unfit h c s i ++ (no_method h c (selector_number s), NoMethod) ∷ (is_full h 0, Limit) ∷ []
conditions h (Exchange c s d u) =
    (no_class h c || no_class h d, NoClass) ∷ (unlike h (selector_number s) (selector_number u), ArgumentCount)
    ∷ (no_method h c (selector_number s) || no_method h d (selector_number u), NoMethod) ∷ (is_full h 0, Limit) ∷ []
conditions h (Attach k methods class_methods) =
    let all = methods ++ class_methods in
    (no_class h (of_class k), NoClass) ∷ unfit_methods h all ++ (is_full h (length all), Limit) ∷ []
conditions h (AddClass k d) = (no_number h k || no_superclass h d, NoClass) ∷ (is_full h 0, Limit) ∷ (not (no_class h (of_class k)), DuplicateClass) ∷ []
conditions h (Remove c s) = (no_class h c, NoClass) ∷ (no_selector h s, ArgumentCount) ∷ (not (has_own h c (selector_number s)), NoMethod) ∷ (is_full h 0, Limit) ∷ []
conditions h (DisposeClass k) = (no_class h (of_class k), NoClass) ∷ (is_full h 0, Limit) ∷ (is_in_use h k, ClassInUse) ∷ []

-- the least fault for which a change is refused
unfoldable pub refusal : Log → Change → Option ChangeFault
refusal h x = least_change_fault (conditions h x)

-- each change is accepted at the log before it
abbrev pub AreAccepted : Log → List Change → Type 0
AreAccepted h [] = Unit {0}
AreAccepted h (x ∷ xs) = (refusal h x ≡ None) × AreAccepted (and_then h x) xs

-- changes that were accepted one after another
unfoldable pub IsLog : Log → Type 0
IsLog h = AreAccepted (empty h.origin) h.changes
