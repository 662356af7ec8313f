-- Versions of the format.
use Rattle.std.specs.Prelude.{ℤ, pos, Bool, ◌||◌}
use Rattle.std.specs.Ordering.{int_eq}

-- the version is 2
unfoldable pub is_second : ℤ → Bool
is_second version = int_eq version (pos 2)

-- the version is 3
unfoldable pub is_third : ℤ → Bool
is_third version = int_eq version (pos 3)

-- documents of this version name the classes that they may make
abbrev pub makes_classes : ℤ → Bool
makes_classes version = is_second version || is_third version
