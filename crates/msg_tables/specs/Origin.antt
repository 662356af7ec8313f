-- What tables are opened from: classes with their methods, and limits.
use Rattle.std.specs.Prelude.{◌≡◌, ◌<◌, ◌≤◌, ◌+◌, ◌-◌, ◌==◌, ◌||◌, ℕ, nat_lt, nat_le, not, Bool, true, false, List, Option, Some, None, length, slice_get, sum_by, All}
use Rattle.std.specs.List.{list_all, list_any}
use Rattle.msg_names.specs.Number.{selector_number, imp_number}
use Rattle.msg_names.specs.declared.value.ImpRef.{ImpRef}
use Rattle.msg_names.specs.declared.value.Selector.{Selector}
use Rattle.msg_order.specs.Superclasses.{AreListed, has_cycle}
use Rattle.msg_tables.specs.declared.limits.Limits.{Limits}
use Rattle.msg_tables.specs.Methods.{MethodsOf}
use Rattle.msg_tables.specs.declared.limits.TheConstants.{MAX_CLASSES, MAX_IMP, MOST_SENDERS, MOST_CHANGES, MOST_WORDS}

-- the number of arguments of each selector and of each implementation, from number 1
pub record CountsView : Type 0 where
  pub colons : List ℕ
  pub args : List ℕ

-- what a log begins with
pub record OriginView : Type 0 where
  -- the superclasses of the listed classes, which are numbered first
  pub superclasses : List (Option ℕ)
  -- the number of classes that may be made, which are numbered after them
  pub made : ℕ
  -- the method lists, in the order in which they are attached
  pub lists : List MethodsOf
  -- if they aren't known, each number from 1 is a selector and an implementation, and all fit one
  -- another
  pub counts : Option CountsView
  pub limits : Limits

-- the number of classes with numbers: the listed ones, and those that may be made
abbrev pub class_total : OriginView → ℕ
class_total o = length o.superclasses + o.made

-- the greatest number of an implementation
abbrev pub last_imp : Option CountsView → ℕ
last_imp None = MAX_IMP
last_imp (Some c) = length c.args

-- no implementation has this number
abbrev pub lacks_imp : Option CountsView → ℕ → Bool
lacks_imp counts i = (i == 0) || nat_lt (last_imp counts) i

-- two counts that are not known to be equal
abbrev pub differ : Option ℕ → Option ℕ → Bool
differ (Some n) (Some m) = not (n == m)
differ _ _ = true

-- a selector and an implementation that take different numbers of arguments
abbrev pub misfits_in : Option CountsView → ℕ → ℕ → Bool
misfits_in None s i = false
misfits_in (Some c) s i = differ (slice_get c.colons (s - 1)) (slice_get c.args (i - 1))

-- two selectors that take different numbers of arguments
abbrev pub unlike_in : Option CountsView → ℕ → ℕ → Bool
unlike_in None s u = false
unlike_in (Some c) s u = differ (slice_get c.colons (s - 1)) (slice_get c.colons (u - 1))

-- some method has an implementation that doesn't exist
abbrev pub any_lacks_imp : Option CountsView → List (Selector × ImpRef) → Bool
any_lacks_imp counts methods = list_any (λ m. lacks_imp counts (imp_number m.1)) methods

-- some method has an implementation that takes another number of arguments
abbrev pub any_misfits : Option CountsView → List (Selector × ImpRef) → Bool
any_misfits counts methods = list_any (λ m. misfits_in counts (selector_number m.0) (imp_number m.1)) methods

-- each implementation is one of the first n
abbrev pub are_listed : ℕ → List (ℕ × ℕ) → Bool
are_listed n methods = list_all (λ m. nat_le m.1 n) methods

-- the number of rows that the tables have when they are opened
abbrev pub row_total : OriginView → ℕ
row_total o = sum_by (λ (l : MethodsOf). length l.methods) o.lists

-- a method list is of a listed class, and its implementations exist
pub record IsSoundList (o : OriginView) (l : MethodsOf) : Type 0 where
  pub class : l.class.class < length o.superclasses
  pub methods : are_listed (last_imp o.counts) l.methods ≡ true

-- all numbers name what exists, chains of superclasses end, and sizes are within the limits
pub record IsSound (o : OriginView) : Type 0 where
  pub classes : AreListed o.superclasses
  pub chains : has_cycle o.superclasses ≡ false
  pub lists : All (IsSoundList o) o.lists
  pub few_classes : class_total o ≤ MAX_CLASSES
  pub few_rows : row_total o ≤ o.limits.rows
  pub few_changes : o.limits.changes ≤ MOST_CHANGES
  pub few_senders : o.limits.senders ≤ MOST_SENDERS
  pub few_words : o.limits.words ≤ MOST_WORDS
