-- What the tables hold at a log.
use Rattle.std.specs.Prelude.{◌≡◌, ◌==◌, ◌&&◌, not, ℕ, List}
use Rattle.msg_names.specs.declared.value.ClassRef.{ClassRef}
use Rattle.msg_names.specs.declared.value.ImpRef.{ImpRef}
use Rattle.msg_names.specs.declared.value.Selector.{Selector}
use Rattle.msg_tables.specs.After.{of_class}
use Rattle.msg_tables.specs.Chain.{descends}
use Rattle.msg_tables.specs.Log.{Log, table}
use Rattle.msg_rows.specs.Methods.{method_numbers}
use Rattle.msg_tables.specs.Order.{IsOrder}
use Rattle.msg_tables.specs.Preorder.{AreOnce, is_in}
use Rattle.msg_tables.specs.Stands.{pairs_at}

-- the methods that a class reference has itself, by number, oldest first
abbrev pub methods_of : Log → ClassRef → List (ℕ × ℕ)
methods_of h c = pairs_at c (table h).rows

-- these are the methods that a class reference has itself
abbrev pub HasMethods : Log → ClassRef → List (Selector × ImpRef) → Type 0
HasMethods h c methods = method_numbers methods ≡ methods_of h c

-- these are the classes that are present, each once and after its superclass
abbrev pub AreClasses : Log → List ℕ → Type 0
AreClasses h classes = IsOrder (table h).supers classes

-- these are the classes below a class, each once
pub record AreBelowClass (h : Log) (k : ℕ) (classes : List ℕ) : Type 0 where
  pub below : (j : ℕ) → is_in j classes ≡ (descends (table h).supers (of_class k) (of_class j) && not (k == j))
  pub once : AreOnce classes
