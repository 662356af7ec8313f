-- What tables are opened of, as an image has it.
use Rattle.std.specs.Prelude.{◌≡◌, ℕ, ◌+◌, List, [], ◌∷◌, ◌++◌, Some, None, length, map}
use Rattle.msg_names.specs.Name.{colons_of}
use Rattle.msg_names.specs.declared.value.ClassRef.{ClassRef}
use Rattle.msg_tables.specs.After.{of_class, of_meta, rows_at}
use Rattle.msg_tables.specs.Rows.{own}
use Rattle.msg_tables.specs.Origin.{OriginView, CountsView}
use Rattle.msg_tables.specs.Attached.{two_lists, category_lists}
use Rattle.msg_tables.specs.Methods.{MethodsOf}
use Rattle.msg_image.specs.Parts.{ImageParts, ClassParts, ImpParts, superclasses}
use Rattle.msg_tables.specs.declared.origin.Category.{Category}
use Rattle.msg_image.specs.declared.opened.TheConstants.{MAX_ROWS, MAX_CHANGES, MAX_SENDERS, MAX_WORDS}

-- the method lists of listed classes, numbered from k
abbrev pub class_lists : ℕ → List ClassParts → List MethodsOf
class_lists k [] = []
class_lists k (c ∷ cs) = two_lists k c.methods c.class_methods ++ class_lists (k + 1) cs

-- how many arguments the selectors and implementations take
abbrev pub counts_of : ImageParts → CountsView
counts_of image = record { colons = map colons_of image.names; args = map (λ (m : ImpParts). m.args) image.imps }

-- what tables of an image are opened of
abbrev pub origin_of : ImageParts → OriginView
origin_of image = record {
  superclasses = superclasses image;
  made = length image.made;
  lists = class_lists 0 image.classes ++ category_lists image.categories;
  counts = Some (counts_of image);
  limits = record { rows = MAX_ROWS; changes = MAX_CHANGES; senders = MAX_SENDERS; words = MAX_WORDS };
}

-- a category has no method of this selector for the class reference
abbrev pub Lacks : ClassRef → ℕ → Category → Type 0
Lacks c s k = own (rows_at (of_class k.class) k.methods ++ rows_at (of_meta k.class) k.class_methods) c s ≡ None
