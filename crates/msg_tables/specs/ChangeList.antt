-- Changes that are read.
use Rattle.msg_names.specs.Number.{selector_number, imp_number}
use Rattle.msg_tables.specs.Undo.{covering}
use Rattle.msg_tables.specs.declared.change.Change.{Change}
use Rattle.msg_tables.specs.declared.change.Change.TheVariants as changes
use Rattle.msg_tables.specs.declared.change.ChangeRef.{ChangeRef}
use Rattle.msg_tables.specs.declared.change.ChangeRef.TheVariants.{Add, Replace, SetImp, Exchange, Attach, AddClass, Remove, DisposeClass, Cover}

-- the change that is read
abbrev pub change_of : ChangeRef → Change
change_of (Add c s i) = changes.Add c s i
change_of (Replace c s i) = changes.Replace c s i
change_of (SetImp c s i) = changes.SetImp c s i
change_of (Exchange c s d t) = changes.Exchange c s d t
change_of (Attach k methods class_methods) = changes.Attach k methods.now class_methods.now
change_of (AddClass d k) = changes.AddClass k d
change_of (Remove c s) = changes.Remove c s
change_of (DisposeClass k) = changes.DisposeClass k
change_of (Cover c s i) = covering c (selector_number s) (imp_number i)
