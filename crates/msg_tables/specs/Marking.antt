-- Marks on class references.
use Rattle.std.specs.Prelude.{◌≡◌, ◌==◌, ◌<◌, ◌&&◌, ◌||◌, ℕ, List, Bool, false, if◌then◌else◌, length, slice_index_or}
use Rattle.msg_names.specs.declared.value.ClassRef.{ClassRef}
use Rattle.msg_names.specs.ClassRef.{slot_of}
use Rattle.msg_tables.specs.declared.change.Change.{Change}
use Rattle.msg_tables.specs.declared.marks.Marks.TheInside.{Inside}
use Rattle.msg_tables.specs.Chain.{is_member}
use Rattle.msg_tables.specs.Log.{Log, chain_at}
use Rattle.msg_tables.specs.Several.{is_affected_by_all}
use Rattle.msg_tables.specs.Stands.{StandsAt}
use Rattle.msg_tables.specs.View.{TablesView}

-- whether a class reference is marked
abbrev pub is_marked : List Bool → ClassRef → Bool
is_marked marks c = slice_index_or marks (slot_of c) false

-- the contracts' view of marks: for each class reference, at its slot, whether it is marked
abbrev pub marks_of : Inside → List Bool
marks_of m = m.marked.items

-- the class reference belongs to this class: it is the class, the metaclass, or either, as given
abbrev pub is_of : ℕ → Bool → Bool → ClassRef → Bool
is_of class own meta c = (if c.meta then meta else own) && (class == c.class)

-- the class references that pass a test are marked, in addition to those that were
abbrev pub MarksThose : (ClassRef → Bool) → List Bool → List Bool → Type 0
MarksThose test old new = (c : ClassRef) → is_marked new c ≡ (is_marked old c || test c)

-- those class references of n classes that some change of a list affects are marked, in addition to
-- those that were
abbrev pub MarksAffectedByAll : ℕ → Log → List Change → List Bool → List Bool → Type 0
MarksAffectedByAll n h xs old new = (c : ClassRef) → c.class < n → is_marked new c ≡ (is_marked old c || is_affected_by_all h xs c)

-- ---- at whatever log tables are

-- a class reference and those below it are marked, in addition to those that were
abbrev pub MarksDescendants : TablesView → ClassRef → List Bool → List Bool → Type 0
MarksDescendants t class old new = (h : Log) → StandsAt t h → (c : ClassRef) → c.class < length t.supers
    → is_marked new c ≡ (is_marked old c || is_member class (chain_at h c))
