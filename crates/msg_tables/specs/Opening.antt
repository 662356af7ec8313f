-- How tables are filled when they are opened.
use Rattle.std.specs.Prelude.{◌≡◌, ℕ, ◌+◌, ◌*◌, Bool, List, [], ◌++◌, None, length, replicate, sum_by, take}
use Rattle.msg_names.specs.declared.value.ClassRef.{ClassRef}
use Rattle.msg_tables.specs.Origin.{OriginView, class_total}
use Rattle.msg_tables.specs.Attached.{list_place}
use Rattle.msg_tables.specs.Methods.{MethodsOf}
use Rattle.msg_tables.specs.Rows.{Row, own}
use Rattle.msg_tables.specs.After.{opened_supers, rows_at}
use Rattle.msg_tables.specs.Stands.{Holds}
use Rattle.msg_tables.specs.View.{TablesView}

-- rows were added at the end, and nothing else changed
pub record Adds (old new : TablesView) (more : List Row) : Type 0 where
  pub rows : (rows : List Row) → Holds old.lists rows → Holds new.lists (rows ++ more)
  pub row_count : new.row_count ≡ old.row_count + length more
  pub rest : new ≡ record old { lists = new.lists; rooms = new.rooms; row_count = new.row_count }

-- the number of rows that a method list brings
abbrev pub size_of_list : MethodsOf → ℕ
size_of_list l = length l.methods

-- the number of rows that the method lists before those of a pair bring
abbrev pub rows_before : List MethodsOf → ℕ → Bool → ℕ
rows_before lists pair meta = sum_by size_of_list (take (list_place pair meta) lists)

-- the rows of a method list were added
abbrev pub AddsList : TablesView → TablesView → MethodsOf → Type 0
AddsList old new l = Adds old new (rows_at l.class l.methods)

-- a method list has no method of this selector for the class reference
abbrev pub Lacks : ClassRef → ℕ → MethodsOf → Type 0
Lacks c s l = own (rows_at l.class l.methods) c s ≡ None

-- the tables have as many classes as the origin
abbrev pub HasClassesOf : OriginView → TablesView → Type 0
HasClassesOf o t = length t.supers ≡ class_total o

-- the tables have the origin's classes, counts and limits
pub record IsFor (o : OriginView) (t : TablesView) : Type 0 where
  pub classes : HasClassesOf o t
  pub counts : t.counts ≡ o.counts
  pub limits : t.limits ≡ o.limits

-- the tables without rows
pub record IsBlank (o : OriginView) (t : TablesView) : Type 0 where
  pub supers : t.supers ≡ opened_supers o
  pub listed : t.listed ≡ length o.superclasses
  pub lists : t.lists ≡ replicate (2 * class_total o) []
  pub counts : t.counts ≡ o.counts
  pub limits : t.limits ≡ o.limits
  pub row_count : t.row_count ≡ 0
  pub change_count : t.change_count ≡ 0
