-- The changes that take a change back.
use Rattle.std.specs.Prelude.{◌≡◌, ℕ, ◌+◌, ◌&&◌, nat_lt, not, Bool, true, List, [], ◌∷◌, ◌++◌, Option, Some, None, All, map, if◌then◌else◌}
use Rattle.std.specs.List.{list_all}
use Rattle.std.specs.Option.{option_map_or}
use Rattle.msg_names.specs.declared.value.ClassRef.{ClassRef}
use Rattle.msg_names.specs.declared.value.Selector.{Selector}
use Rattle.msg_names.specs.ClassRef.{same_class}
use Rattle.msg_names.specs.Number.{selector_number, selector_of, imp_ref_of}
use Rattle.msg_tables.specs.declared.change.Change.{Change}
use Rattle.msg_tables.specs.declared.change.Change.TheVariants.{Add, Replace, SetImp, Exchange, Attach, AddClass, Remove, DisposeClass}
use Rattle.msg_tables.specs.declared.presence.Presence.{Presence}
use Rattle.msg_tables.specs.Chain.{presence_of}
use Rattle.msg_tables.specs.Methods.{MethodsOf}
use Rattle.msg_tables.specs.Origin.{CountsView, OriginView, lacks_imp, misfits_in}
use Rattle.msg_tables.specs.Rows.{Row, ClassTable, is_at, own, holder_at, lookup_at}
use Rattle.msg_tables.specs.After.{of_class, of_meta, table_after}

-- the former implementation, in the own row of the class reference that has the method
abbrev pub old_at : Option ClassRef → Selector → ℕ → List Change
old_at None s i = []
old_at (Some p) s i = Replace p s (imp_ref_of i) ∷ []

-- a category of one method, which covers what the class reference has
abbrev pub covering : ClassRef → ℕ → ℕ → Change
covering c s i = if c.meta then Attach c.class [] ((s, i) ∷ []) else Attach c.class ((s, i) ∷ []) []

-- one change for each row of a class reference, oldest first
abbrev pub covering_all : ClassRef → List Row → List Change
covering_all c [] = []
covering_all c (r ∷ rs) = if same_class r.class c then covering c r.sel r.imp ∷ covering_all c rs else covering_all c rs

-- the rows of a method list are removed, the first entry's first
abbrev pub removing : ClassRef → List (ℕ × ℕ) → List Change
removing c methods = map (λ m. Remove c (selector_of m.0)) methods

-- The changes that take a change back, by the tables before it. They remove a row that was added,
-- and give a row that was rewritten its implementation again. They add a row that was removed, as a
-- category of one method. They dispose of a class that was made, and make a class again that was
-- disposed of, with its rows.
abbrev pub undo : ClassTable → Change → List Change
undo t (Add c s i) = Remove c s ∷ []
undo t (Replace c s i) = option_map_or (λ old. Replace c s (imp_ref_of old)) (own t.rows c (selector_number s)) (Remove c s) ∷ []
undo t (SetImp c s i) = old_at (holder_at t c (selector_number s)) s (lookup_at t c (selector_number s))
undo t (Exchange c s d u) = old_at (holder_at t d (selector_number u)) u (lookup_at t d (selector_number u)) ++ old_at (holder_at t c (selector_number s)) s (lookup_at t c (selector_number s))
undo t (Attach k methods class_methods) = removing (of_meta k) class_methods ++ removing (of_class k) methods
undo t (AddClass k d) = DisposeClass k ∷ []
undo t (Remove c s) = option_map_or (λ old. covering c (selector_number s) old ∷ []) (own t.rows c (selector_number s)) []
undo t (DisposeClass k) = option_map_or (λ (p : Presence). AddClass k p.superclass ∷ covering_all (of_class k) t.rows ++ covering_all (of_meta k) t.rows) (presence_of t.supers k) []

-- the changes that take a list back, the last first
abbrev pub undo_all : ClassTable → List Change → List Change
undo_all t [] = []
undo_all t (x ∷ xs) = undo_all (table_after t x) xs ++ undo t x

-- ---- what a way back needs, and what it restores

-- a method's implementation exists, and takes as many arguments as its selector
abbrev pub fits_in : Option CountsView → ℕ × ℕ → Bool
fits_in counts m = not (lacks_imp counts m.1) && not (misfits_in counts m.0 m.1)

-- the same for each method that was listed at the opening
abbrev pub AreFit : OriginView → Type 0
AreFit o = All (λ (l : MethodsOf). list_all (fits_in o.counts) l.methods ≡ true) o.lists

-- a selector's number is at least 1
abbrev pub is_numbered : ℕ × ℕ → Bool
is_numbered m = nat_lt 0 m.0

abbrev pub are_numbered : Change → Bool
are_numbered (Attach k methods class_methods) = list_all is_numbered methods && list_all is_numbered class_methods
are_numbered _ = true

-- the same for each selector that a list attaches
abbrev pub AreNumbered : List Change → Type 0
AreNumbered xs = list_all are_numbered xs ≡ true

-- the implementations of a selector in the rows of a class reference, oldest first: the last counts
abbrev pub imps_of : ClassRef → ℕ → List Row → List ℕ
imps_of c s [] = []
imps_of c s (r ∷ rs) = if is_at c s r then r.imp ∷ imps_of c s rs else imps_of c s rs

-- the number of rows at class references that pass a test
abbrev pub count_at : (ClassRef → Bool) → List Row → ℕ
count_at test [] = 0
count_at test (r ∷ rs) = (if test r.class then 1 else 0) + count_at test rs

-- Tables that no lookup and no change distinguishes. They have the same rows, and the rows of one
-- selector at one class reference are in the same order.
pub record AreAlike (t u : ClassTable) : Type 0 where
  pub supers : t.supers ≡ u.supers
  pub imps : (c : ClassRef) (s : ℕ) → imps_of c s t.rows ≡ imps_of c s u.rows
  pub count : (test : ClassRef → Bool) → count_at test t.rows ≡ count_at test u.rows
