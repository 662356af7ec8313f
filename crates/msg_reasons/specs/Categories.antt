-- Which category of a document lists a method.
use Rattle.std.specs.Prelude.{ℕ, ◌+◌, ◌==◌, ◌&&◌, Bool, List, [], ◌∷◌, Option, Some, None, if◌then◌else◌}
use Rattle.std.specs.List.{list_any}
use Rattle.msg_names.specs.declared.value.ClassRef.{ClassRef}
use Rattle.msg_tables.specs.declared.origin.Category.{Category}

-- the pair has this selector and this implementation
abbrev pub is_method : ℕ → ℕ → ℕ × ℕ → Bool
is_method s i m = (m.0 == s) && (m.1 == i)

-- a list has such a pair
abbrev pub has_method : ℕ → ℕ → List (ℕ × ℕ) → Bool
has_method s i methods = list_any (is_method s i) methods

-- the category gives the class reference this implementation of the selector
abbrev pub gives : ClassRef → ℕ → ℕ → Category → Bool
gives c s i k = (k.class == c.class) && has_method s i (if c.meta then k.class_methods else k.methods)

-- the place of the last category that does, where they are numbered from n, or else one before them
abbrev pub last_that_gives : ℕ → Option ℕ → List Category → ClassRef → ℕ → ℕ → Option ℕ
last_that_gives n before [] c s i = before
last_that_gives n before (k ∷ ks) c s i = last_that_gives (n + 1) (if gives c s i k then Some n else before) ks c s i

-- The place of the category of which a found method is. Of two that list it the one listed last
-- counts, as it does in a lookup.
abbrev pub category_of : List Category → ClassRef → ℕ → ℕ → Option ℕ
category_of categories c s i = last_that_gives 0 None categories c s i
