-- Where an edit that was judged writes.
use Rattle.std.proofs.Common.{◌≡◌, ◌++◌, ◌∷◌, [], ℕ, List, Option, Bor, Some, refl, sym, ap, ap₂}
use Rattle.msg_names.specs.declared.value.ClassRef.{ClassRef}
use Rattle.msg_names.specs.declared.value.Selector.{Selector}
use Rattle.msg_names.specs.declared.value.ImpRef.{ImpRef}
use Rattle.msg_names.specs.Number.{selector_number}
use Rattle.msg_tables.specs.declared.change.Change.TheVariants.{Add, Replace, SetImp, Exchange, Attach, AddClass, Remove, DisposeClass}
use Rattle.msg_tables.specs.declared.edit.MethodRow.{MethodRow}
use Rattle.msg_tables.specs.declared.edit.Edit.TheVariants as edit
use Rattle.msg_tables.specs.Affected.{at_most_one, written_refs}
use Rattle.msg_tables.specs.Log.{Log, holder}
use Rattle.msg_tables.specs.Journal.{edit_places}

pub places-add : (h : Log) (r : MethodRow) → edit_places (edit.Append r) ≡ written_refs h (Add r.class r.sel r.imp)
unfolding written_refs
places-add h r = refl

pub places-replace-add : (h : Log) (r : MethodRow) → edit_places (edit.Append r) ≡ written_refs h (Replace r.class r.sel r.imp)
unfolding written_refs
places-replace-add h r = refl

pub places-replace : (h : Log) (r : MethodRow) → edit_places (edit.Rewrite r) ≡ written_refs h (Replace r.class r.sel r.imp)
unfolding written_refs
places-replace h r = refl

pub places-set : (h : Log) (c : ClassRef) (s : Selector) (i : ImpRef) (p : ClassRef) → holder h c (selector_number s) ≡ Some p → p ∷ [] ≡ written_refs h (SetImp c s i)
unfolding written_refs
places-set h c s i p found = sym (ap at_most_one found)

pub places-exchange : (h : Log) (c d : ClassRef) (s u : Selector) (p q : ClassRef) → holder h c (selector_number s) ≡ Some p → holder h d (selector_number u) ≡ Some q → p ∷ q ∷ [] ≡ written_refs h (Exchange c s d u)
unfolding written_refs
places-exchange h c d s u p q first second = sym (ap₂ (λ a b. at_most_one a ++ at_most_one b) first second)

pub places-attach : (h : Log) (k : ℕ) (ms cs : Bor (List (ℕ × ℕ))) → edit_places (edit.Attach k ms cs) ≡ written_refs h (Attach k ms.now cs.now)
unfolding written_refs
places-attach h k ms cs = refl

pub places-make : (h : Log) (k : ℕ) (d : Option ℕ) → edit_places (edit.Make k d) ≡ written_refs h (AddClass k d)
unfolding written_refs
places-make h k d = refl

pub places-remove : (h : Log) (c : ClassRef) (s : Selector) → edit_places (edit.Remove c s) ≡ written_refs h (Remove c s)
unfolding written_refs
places-remove h c s = refl

pub places-dispose : (h : Log) (k : ℕ) → edit_places (edit.Dispose k) ≡ written_refs h (DisposeClass k)
unfolding written_refs
places-dispose h k = refl
