-- The names of a form.
use Rattle.std.specs.Prelude.{◌≡◌, ◌≤◌, List, [], fold, length, nat_lt}
use Rattle.msg_names.specs.declared.names.TheConstants.{MAX_NAMES}
use Rattle.msg_names.specs.Numbering.{with_name}
use Rattle.msg_form.specs.declared.form_names.FormNames.{FormNames}
use Rattle.msg_form.specs.Faults.{has_duplicate_class, has_duplicate_object, has_duplicate_imp}
use Rattle.msg_form.specs.Form.{Form}
use Rattle.msg_form.specs.Lists.{listed_names, class_names, root_names, object_names, imp_names}
use Rattle.msg_form.specs.Text.{Text, AreDistinct, distinct, repeats}
use Rattle.msg_form.specs.Walk.{selector_texts}

-- the names of a form, each list in the order of its numbers, and which lists have a name twice
pub record AreNamesOf (n : FormNames) (f : Form) : Type 0 where
  pub selectors : AreDistinct n.selectors (selector_texts f)
  pub listed : n.listed ≡ distinct (listed_names f)
  pub classes : n.classes ≡ distinct (class_names f)
  pub roots : n.roots ≡ distinct (root_names f)
  pub objects : n.objects ≡ distinct (object_names f)
  pub imps : n.imps ≡ distinct (imp_names f)
  pub class_twice : n.class_twice ≡ has_duplicate_class f
  pub object_twice : n.object_twice ≡ has_duplicate_object f
  pub imp_twice : n.imp_twice ≡ has_duplicate_imp f

-- the texts were added to the names, or as many of them as make the names more than fit
pub record AreAddedWhileFew (old new texts : List Text) : Type 0 where
  pub many : nat_lt MAX_NAMES (length new) ≡ nat_lt MAX_NAMES (length (fold with_name old texts))
  pub all : length new ≤ MAX_NAMES → new ≡ fold with_name old texts

-- no names
pub record HasNone (n : FormNames) : Type 0 where
  pub selectors : n.selectors ≡ []
  pub listed : n.listed ≡ []
  pub classes : n.classes ≡ []
  pub roots : n.roots ≡ []
  pub objects : n.objects ≡ []
  pub imps : n.imps ≡ []

-- the names of the form's classes are added, and everything else stays the same
pub record AreClassesAdded (old new : FormNames) (f : Form) : Type 0 where
  pub listed : new.listed ≡ fold with_name old.listed (listed_names f)
  pub classes : new.classes ≡ fold with_name old.classes (class_names f)
  pub roots : new.roots ≡ fold with_name old.roots (root_names f)
  pub class_twice : new.class_twice ≡ repeats old.classes (class_names f)
  pub selectors : new.selectors ≡ old.selectors
  pub objects : new.objects ≡ old.objects
  pub imps : new.imps ≡ old.imps

-- the names of the form's objects and implementations are added, and everything else stays the same
pub record AreMembersAdded (old new : FormNames) (f : Form) : Type 0 where
  pub objects : new.objects ≡ fold with_name old.objects (object_names f)
  pub imps : new.imps ≡ fold with_name old.imps (imp_names f)
  pub object_twice : new.object_twice ≡ repeats old.objects (object_names f)
  pub imp_twice : new.imp_twice ≡ repeats old.imps (imp_names f)
  pub selectors : new.selectors ≡ old.selectors
  pub listed : new.listed ≡ old.listed
  pub classes : new.classes ≡ old.classes
  pub roots : new.roots ≡ old.roots
  pub class_twice : new.class_twice ≡ old.class_twice
