-- Laws of documents.
use Rattle.std.specs.Prelude.{◌≡◌, ◌+◌, ◌++◌, ◌∷◌, All, List, ℕ, None, Some, length, slice_get}
use Rattle.msg_form.specs.Faults.{fault_of}
use Rattle.msg_form.specs.Form.{Form, ClassForm, ObjectForm, ImpForm}
use Rattle.msg_form.specs.Text.{Text}
use Rattle.msg_image.specs.Numbers.{numbers_of, class_named, object_named, imp_named}
use Rattle.msg_image.specs.Opened.{Lacks, origin_of}
use Rattle.msg_image.specs.Parts.{ImageParts}
use Rattle.msg_image.specs.Sound.{IsSound}
use Rattle.msg_names.specs.Number.{imp_number}
use Rattle.msg_tables.specs.After.{of_class, of_meta}
use Rattle.msg_tables.specs.History.{empty, lookup}
use Rattle.msg_rows.specs.RowList.{own_in}
use Rattle.msg_tables.specs.declared.origin.Category.{Category}

-- a listed class is numbered as it is listed, from 0
abbrev pub ClassHasNumberOfPlace : Type 0
ClassHasNumberOfPlace = (f : Form) (place : ℕ) (c : ClassForm) → fault_of f ≡ None → slice_get f.classes place ≡ Some c
    → class_named (numbers_of f) c.name ≡ place

-- a class that may be made is numbered after the listed ones
abbrev pub MadeClassComesAfterListed : Type 0
MadeClassComesAfterListed = (f : Form) (place : ℕ) (name : Text) → fault_of f ≡ None → slice_get f.made place ≡ Some name
    → class_named (numbers_of f) name ≡ length f.classes + place

-- an object is numbered as it is listed, from 0
abbrev pub ObjectHasNumberOfPlace : Type 0
ObjectHasNumberOfPlace = (f : Form) (place : ℕ) (o : ObjectForm) → fault_of f ≡ None → slice_get f.objects place ≡ Some o
    → (object_named (numbers_of f) o.name).object ≡ place

-- an implementation is numbered as it is listed, from 1
abbrev pub ImplementationHasNumberOfPlace : Type 0
ImplementationHasNumberOfPlace = (f : Form) (place : ℕ) (i : ImpForm) → fault_of f ≡ None → slice_get f.imps place ≡ Some i
    → imp_number (imp_named (numbers_of f) i.name) ≡ place + 1

-- of the categories of a class with a method of a selector the one that is listed last wins, over
-- the others and over the class
abbrev pub LastCategoryWins : Type 0
LastCategoryWins = (image : ImageParts) (before later : List Category) (c : Category) (s i : ℕ) → IsSound image
    → image.categories ≡ before ++ c ∷ later → All (Lacks (of_class c.class) s) later → own_in s c.methods ≡ Some i
    → lookup (empty (origin_of image)) (of_class c.class) s ≡ i

-- and so of its metaclass
abbrev pub LastCategoryWinsAtMetaclass : Type 0
LastCategoryWinsAtMetaclass = (image : ImageParts) (before later : List Category) (c : Category) (s i : ℕ) → IsSound image
    → image.categories ≡ before ++ c ∷ later → All (Lacks (of_meta c.class) s) later → own_in s c.class_methods ≡ Some i
    → lookup (empty (origin_of image)) (of_meta c.class) s ≡ i
