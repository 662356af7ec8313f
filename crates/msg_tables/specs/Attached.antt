-- The method lists of classes and categories, in the order in which they are attached.
use Rattle.std.specs.Prelude.{◌≡◌, ℕ, ◌+◌, ◌*◌, Bool, List, Option, [], ◌∷◌, ◌++◌, Some, if◌then◌else◌, slice_get}
use Rattle.msg_tables.specs.After.{of_class, of_meta}
use Rattle.msg_tables.specs.Methods.{MethodsOf}
use Rattle.msg_tables.specs.declared.origin.ListedClass.{ListedClass}
use Rattle.msg_tables.specs.declared.origin.Category.{Category}

-- the method list of a class, and that of its metaclass
abbrev pub two_lists : ℕ → List (ℕ × ℕ) → List (ℕ × ℕ) → List MethodsOf
two_lists k methods class_methods = record { class = of_class k; methods = methods } ∷ record { class = of_meta k; methods = class_methods } ∷ []

-- the method lists of listed classes, numbered from k
abbrev pub listed_lists : ℕ → List ListedClass → List MethodsOf
listed_lists k [] = []
listed_lists k (c ∷ cs) = two_lists k c.methods c.class_methods ++ listed_lists (k + 1) cs

-- those of categories, which are attached one after another
abbrev pub category_lists : List Category → List MethodsOf
category_lists [] = []
category_lists (c ∷ cs) = two_lists c.class c.methods c.class_methods ++ category_lists cs

-- the method lists of a pair are those of a class and of its metaclass
pub record ListsAt (lists : List MethodsOf) (pair class : ℕ) (methods class_methods : List (ℕ × ℕ)) : Type 0 where
  pub own : slice_get lists (2 * pair) ≡ Some (record { class = of_class class; methods = methods })
  pub meta : slice_get lists (2 * pair + 1) ≡ Some (record { class = of_meta class; methods = class_methods })

-- the categories whose lists these are
abbrev pub categories_in : List MethodsOf → List Category
categories_in (own ∷ meta ∷ ls) = record { class = own.class.class; methods = own.methods; class_methods = meta.methods } ∷ categories_in ls
categories_in _ = []

-- the place of a method list of a pair: the class's, or the metaclass's, which comes next
abbrev pub list_place : ℕ → Bool → ℕ
list_place pair meta = 2 * pair + (if meta then 1 else 0)

-- the method list there
abbrev pub list_in : List MethodsOf → ℕ → Bool → Option MethodsOf
list_in lists pair meta = slice_get lists (list_place pair meta)
