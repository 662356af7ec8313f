-- Laws of lookup and of changes, over every log.
use Rattle.std.specs.Prelude.{◌≡◌, ◌≢◌, ◌<◌, ℕ, suc, List, length, Option, ◌∷◌, ◌++◌, Some, None, false, reverse, All}
use Rattle.msg_names.specs.Number.{selector_number, imp_number}
use Rattle.msg_names.specs.declared.value.ClassRef.{ClassRef}
use Rattle.msg_names.specs.declared.value.ImpRef.{ImpRef}
use Rattle.msg_names.specs.declared.value.Selector.{Selector}
use Rattle.msg_order.specs.Superclasses.{depth_of}
use Rattle.msg_tables.specs.Affected.{is_affected}
use Rattle.msg_tables.specs.After.{of_class, of_meta}
use Rattle.msg_tables.specs.Log.{Log, BeginsWith, empty, and_then, table, lookup, holder, superclass, chain_at}
use Rattle.msg_tables.specs.Methods.{MethodsOf}
use Rattle.msg_tables.specs.Opening.{Lacks}
use Rattle.msg_tables.specs.Origin.{OriginView, IsSound}
use Rattle.msg_tables.specs.Presence.{EndsAtRoot}
use Rattle.msg_tables.specs.Refusal.{IsLog, refusal, has_own, no_class}
use Rattle.msg_rows.specs.RowList.{own_in}
use Rattle.msg_tables.specs.declared.change.Change.{Change}
use Rattle.msg_tables.specs.declared.change.Change.TheVariants.{Add, Replace, SetImp, Exchange, Attach, AddClass}

-- a class reference that an accepted change doesn't affect finds what it found before
abbrev pub ChangeAffectsNoMore : Type 0
ChangeAffectsNoMore = (h : Log) (x : Change) (c : ClassRef) (s : ℕ) → IsSound h.origin → IsLog h → refusal h x ≡ None → is_affected h x c ≡ false
    → lookup (and_then h x) c s ≡ lookup h c s

-- making a class changes no lookups except those from it and from its metaclass
abbrev pub MadeClassChangesNoOther : Type 0
MadeClassChangesNoOther = (h : Log) (k : ℕ) (superclass : Option ℕ) (c : ClassRef) (s : ℕ) → IsSound h.origin → IsLog h
    → refusal h (AddClass k superclass) ≡ None → c.class ≢ k → lookup (and_then h (AddClass k superclass)) c s ≡ lookup h c s

-- a listed class keeps its superclass, and so does its metaclass
abbrev pub SuperclassStays : Type 0
SuperclassStays = (later h : Log) (c : ClassRef) → BeginsWith later h → IsLog later → c.class < length h.origin.superclasses → superclass later c ≡ superclass h c

-- the chain of a class that is present ends at a root class
abbrev pub ChainEndsAtRoot : Type 0
ChainEndsAtRoot = (h : Log) (c : ClassRef) → IsSound h.origin → IsLog h → no_class h c ≡ false → EndsAtRoot h c

-- the depth of a listed class in its chain follows from its superclasses, whatever was changed
abbrev pub ListedClassIsAsDeep : Type 0
ListedClassIsAsDeep = (h : Log) (k : ℕ) → IsSound h.origin → IsLog h → k < length h.origin.superclasses
    → length (chain_at h (of_class k)) ≡ suc (depth_of h.origin.superclasses k)

-- two class references that find a method at the same place find the same implementation
abbrev pub OneMethodIsOneImplementation : Type 0
OneMethodIsOneImplementation = (h : Log) (c d p : ClassRef) (s : ℕ) → holder h c s ≡ Some p → holder h d s ≡ Some p → lookup h c s ≡ lookup h d s

-- a class inherits the methods that it doesn't have itself
abbrev pub ClassInherits : Type 0
ClassInherits = (h : Log) (c d : ClassRef) (s : ℕ) → IsSound h.origin → IsLog h → no_class h c ≡ false → has_own h c s ≡ false → superclass h c ≡ Some d
    → lookup h c s ≡ lookup h d s

-- the superclass of a root metaclass is its own class
abbrev pub RootMetaclassIsBelowItsClass : Type 0
RootMetaclassIsBelowItsClass = (h : Log) (k : ℕ) → no_class h (of_class k) ≡ false → superclass h (of_class k) ≡ None → superclass h (of_meta k) ≡ Some (of_class k)

-- a method that was added is found
abbrev pub AddedMethodIsFound : Type 0
AddedMethodIsFound = (h : Log) (c : ClassRef) (s : Selector) (i : ImpRef) → no_class h c ≡ false → lookup (and_then h (Add c s i)) c (selector_number s) ≡ imp_number i

-- after `Replace` the class itself has the implementation, whatever it inherited
abbrev pub ReplacedMethodIsFound : Type 0
ReplacedMethodIsFound = (h : Log) (c : ClassRef) (s : Selector) (i : ImpRef) → no_class h c ≡ false
    → lookup (and_then h (Replace c s i)) c (selector_number s) ≡ imp_number i

-- all class references that find a method at a place find the implementation that is set there
abbrev pub SetMethodIsSeenBelow : Type 0
SetMethodIsSeenBelow = (h : Log) (c d p : ClassRef) (s : Selector) (i : ImpRef) → holder h c (selector_number s) ≡ Some p → holder h d (selector_number s) ≡ Some p
    → lookup (and_then h (SetImp c s i)) d (selector_number s) ≡ imp_number i

-- after an exchange of two methods the second is found where the first was
abbrev pub SecondIsSeenBelowFirst : Type 0
SecondIsSeenBelowFirst = (h : Log) (c d e p : ClassRef) (s u : Selector) → holder h c (selector_number s) ≡ Some p → holder h e (selector_number s) ≡ Some p
    → lookup (and_then h (Exchange c s d u)) e (selector_number s) ≡ lookup h d (selector_number u)

-- after an exchange of two methods the first is found where the second was
abbrev pub FirstIsSeenBelowSecond : Type 0
FirstIsSeenBelowSecond = (h : Log) (c d e p q : ClassRef) (s u : Selector) → holder h c (selector_number s) ≡ Some p → holder h d (selector_number u) ≡ Some q
    → holder h e (selector_number u) ≡ Some q → lookup (and_then h (Exchange c s d u)) e (selector_number u) ≡ lookup h c (selector_number s)

-- a method that is exchanged with itself stays the same
abbrev pub OneMethodExchangedIsUnchanged : Type 0
OneMethodExchangedIsUnchanged = (h : Log) (c d : ClassRef) (s : Selector) → holder h c (selector_number s) ≡ holder h d (selector_number s)
    → table (and_then h (Exchange c s d s)) ≡ table h

-- of attached methods with one selector the earlier is found, whatever the class had
abbrev pub AttachedMethodIsFound : Type 0
AttachedMethodIsFound = (h : Log) (k : ℕ) (methods class_methods : List (ℕ × ℕ)) (s i : ℕ) → no_class h (of_class k) ≡ false → own_in s (reverse methods) ≡ Some i
    → lookup (and_then h (Attach k methods class_methods)) (of_class k) s ≡ i

-- the same at the metaclass
abbrev pub AttachedClassMethodIsFound : Type 0
AttachedClassMethodIsFound = (h : Log) (k : ℕ) (methods class_methods : List (ℕ × ℕ)) (s i : ℕ) → no_class h (of_class k) ≡ false → own_in s (reverse class_methods) ≡ Some i
    → lookup (and_then h (Attach k methods class_methods)) (of_meta k) s ≡ i

-- among the method lists of a class reference that have a method with a selector, the list that is
-- attached last wins
abbrev pub LastListWins : Type 0
LastListWins = (o : OriginView) (before later : List MethodsOf) (l : MethodsOf) (s i : ℕ) → IsSound o → o.lists ≡ before ++ l ∷ later
    → All (Lacks l.class s) later → own_in s l.methods ≡ Some i → lookup (empty o) l.class s ≡ i
