-- The fields of `Origin`.
use Rattle.std.specs.Prelude.{ℕ, List, ◌++◌, Option, map}
use Rattle.msg_tables.specs.Attached.{listed_lists, category_lists}
use Rattle.msg_tables.specs.Origin.{CountsView, OriginView}
use Rattle.msg_tables.specs.declared.limits.Limits.{Limits}
use Rattle.msg_tables.specs.declared.origin.Category.{Category}
use Rattle.msg_tables.specs.declared.origin.ListedClass.{ListedClass}
use Rattle.msg_tables.specs.declared.origin.Origin.TheInside.{Inside}

-- the origin of listed classes, of a number of classes that may be made, and of categories
abbrev pub origin_of : List ListedClass → ℕ → List Category → Option CountsView → Limits → OriginView
origin_of classes made categories counts limits = record {
  superclasses = map (λ (c : ListedClass). c.superclass) classes;
  made = made;
  lists = listed_lists 0 classes ++ category_lists categories;
  counts = counts;
  limits = limits;
}

-- the contracts' view of an origin
abbrev pub origin_view : Inside → OriginView
origin_view o = origin_of o.classes.items o.made o.categories.items o.counts o.limits
