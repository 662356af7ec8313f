-- Which lookups a change may alter.
use Rattle.std.specs.Prelude.{Bool, false, ◌==◌, ◌||◌, List, [], ◌∷◌, ◌++◌, Option, Some, None, ℕ}
use Rattle.std.specs.List.{list_any}
use Rattle.msg_names.specs.declared.value.ClassRef.{ClassRef}
use Rattle.msg_names.specs.Number.{selector_number}
use Rattle.msg_tables.specs.declared.change.Change.{Change}
use Rattle.msg_tables.specs.declared.change.Change.TheVariants.{Add, Replace, SetImp, Exchange, Attach, AddClass, Remove, DisposeClass}
use Rattle.msg_tables.specs.Chain.{is_member}
use Rattle.msg_tables.specs.After.{of_class, of_meta}
use Rattle.msg_tables.specs.Log.{Log, holder, chain_at}

abbrev pub at_most_one : Option ClassRef → List ClassRef
at_most_one None = []
at_most_one (Some c) = c ∷ []

-- a class reference, if it gets methods
abbrev pub if_any : List (ℕ × ℕ) → ClassRef → List ClassRef
if_any [] c = []
if_any (m ∷ ms) c = c ∷ []

-- the class references at which a change adds, rewrites or removes a row of a class that stays
unfoldable pub written_refs : Log → Change → List ClassRef
written_refs h (Add c s i) = c ∷ []
written_refs h (Replace c s i) = c ∷ []
written_refs h (SetImp c s i) = at_most_one (holder h c (selector_number s))
written_refs h (Exchange c s d u) = at_most_one (holder h c (selector_number s)) ++ at_most_one (holder h d (selector_number u))
written_refs h (Attach k methods class_methods) = if_any methods (of_class k) ++ if_any class_methods (of_meta k)
written_refs h (AddClass k d) = []
written_refs h (Remove c s) = c ∷ []
written_refs h (DisposeClass k) = []

-- the class reference belongs to the class that a change makes or disposes of
abbrev pub is_of_made : Change → ClassRef → Bool
is_of_made (AddClass k d) c = c.class == k
is_of_made (DisposeClass k) c = c.class == k
is_of_made _ c = false

-- the class reference belongs to the class that is made or disposed of, or it is at or below a
-- place of the change
unfoldable pub is_affected : Log → Change → ClassRef → Bool
is_affected h x c = is_of_made x c || list_any (λ place. is_member place (chain_at h c)) (written_refs h x)
