-- Classes by number, each with the number of its superclass, or none for a root class.
use Rattle.std.specs.Prelude.{◌≡◌, ◌<◌, ℕ, zero, suc, ◌==◌, List, length, Bool, Option, Some, None, slice_index_or}
use Rattle.std.specs.List.{list_any, range_with_len}
use Rattle.std.specs.Option.{option_and_then, option_map_or}

-- the superclass of a class, if it has one
abbrev pub super_of : List (Option ℕ) → ℕ → Option ℕ
super_of supers k = slice_index_or supers k None

-- each superclass is one of the classes
pub record AreListed (supers : List (Option ℕ)) : Type 0 where
  pub above : (k d : ℕ) → super_of supers k ≡ Some d → d < length supers

-- the number of superclasses above a class, of which at most n are counted
abbrev pub depth_up : ℕ → List (Option ℕ) → ℕ → ℕ
depth_up zero supers k = 0
depth_up (suc n) supers k = option_map_or (λ d. suc (depth_up n supers d)) (super_of supers k) 0

-- The number of superclasses above a class. A chain of superclasses that ends has fewer than there
-- are classes. On a chain that doesn't end, as many are counted as there are classes.
unfoldable pub depth_of : List (Option ℕ) → ℕ → ℕ
depth_of supers k = depth_up (length supers) supers k

-- the chain of some class doesn't end
unfoldable pub has_cycle : List (Option ℕ) → Bool
has_cycle supers = list_any (λ k. depth_of supers k == length supers) (range_with_len 0 (length supers))

-- the class that is a number of superclasses above a class, if there is one
abbrev pub class_up : ℕ → List (Option ℕ) → ℕ → Option ℕ
class_up zero supers k = Some k
class_up (suc n) supers k = option_and_then (class_up n supers) (super_of supers k)

-- a class is above itself, by one superclass or more
pub record StandsAboveItself (supers : List (Option ℕ)) : Type 0 where
  pub class : ℕ
  pub superclasses : ℕ
  pub some : 0 < superclasses
  pub again : class_up superclasses supers class ≡ Some class
