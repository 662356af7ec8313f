-- What numbers name.
use Rattle.std.specs.Prelude.{◌≡◌, ◌≢◌, ◌<◌, ◌⊎◌, ℕ, Bool, List, Option, IfOk, IfSome, Result}
use Rattle.msg_names.specs.declared.value.ClassRef.{ClassRef}
use Rattle.msg_names.specs.declared.value.ImpRef.{ImpRef}
use Rattle.msg_names.specs.declared.value.Selector.{Selector}
use Rattle.msg_names.specs.Number.{imp_number, imp_ref_of, selector_number, selector_of}
use Rattle.msg_tables.specs.declared.change.Change.{Change}
use Rattle.msg_tables.specs.declared.change.Change.TheVariants.{Add, Replace, SetImp, Exchange, Attach, Remove}
use Rattle.msg_reader.specs.Kept.{HaveNotedSince}
use Rattle.msg_reader.specs.declared.notes.Notes.{Notes}
use Rattle.msg_host.specs.Asking.{AnswersChange, IsListFault, pairs_of}
use Rattle.msg_host.specs.View.{SenderView}
use Rattle.msg_runtime.specs.View.{RuntimeView}
use Rattle.msg_host.specs.declared.changing.MethodRow.{MethodRow}
use Rattle.msg_host.specs.declared.fault.AskFault.{AskFault}

-- the class reference of a number: of the class, or of its metaclass
abbrev pub ref_of : ℕ → Bool → ClassRef
ref_of class meta = record { class = class; meta = meta }

-- a method that is added to a class reference
abbrev pub addition : ℕ → Bool → ℕ → ℕ → Change
addition class meta sel imp = Add (ref_of class meta) (selector_of sel) (imp_ref_of imp)

-- one that is replaced there
abbrev pub replacement : ℕ → Bool → ℕ → ℕ → Change
replacement class meta sel imp = Replace (ref_of class meta) (selector_of sel) (imp_ref_of imp)

-- a class's own method that is removed
abbrev pub removal : ℕ → Bool → ℕ → Change
removal class meta sel = Remove (ref_of class meta) (selector_of sel)

-- the implementation that is set of a method that is found from there
abbrev pub setting : ℕ → Bool → ℕ → ℕ → Change
setting class meta sel imp = SetImp (ref_of class meta) (selector_of sel) (imp_ref_of imp)

-- two methods that are found from there and exchanged
abbrev pub exchange : ClassRef → ℕ → ClassRef → ℕ → Change
exchange c sel d other = Exchange c (selector_of sel) d (selector_of other)

-- the result of a change of a selector's methods, if the selector's number isn't 0
abbrev pub AnswersFor : ℕ → RuntimeView → RuntimeView → Change → ℕ → Type 0
AnswersFor sel v w x n = 0 < sel → AnswersChange v w x n

-- the result of an exchange of two selectors' methods, if neither number is 0
abbrev pub AnswersExchange : RuntimeView → RuntimeView → ClassRef → ℕ → ClassRef → ℕ → ℕ → Type 0
AnswersExchange v w c sel d other n = 0 < sel → 0 < other → AnswersChange v w (exchange c sel d other) n

-- a category that is attached
abbrev pub attachment : ℕ → List MethodRow → List MethodRow → Change
attachment class methods class_methods = Attach class (pairs_of methods) (pairs_of class_methods)

-- with the result 0 it was attached
abbrev pub TellsAttached : RuntimeView → RuntimeView → ℕ → List MethodRow → List MethodRow → ℕ → Type 0
TellsAttached v w class methods class_methods n = n ≡ 0 → AnswersChange v w (attachment class methods class_methods) 0

-- another result says why not: one of its lists isn't taken, or the change is refused
abbrev pub TellsAttachFault : RuntimeView → RuntimeView → ℕ → List MethodRow → List MethodRow → ℕ → Type 0
TellsAttachFault v w class methods class_methods n =
    n ≢ 0 → IsListFault methods n ⊎ IsListFault class_methods n ⊎ AnswersChange v w (attachment class methods class_methods) n

-- since the stamp that a sender loaded last, notes have this implementation of a lookup
abbrev pub HaveNotedLast : Notes → SenderView → ClassRef → Selector → ImpRef → Type 0
HaveNotedLast notes w c s i = HaveNotedSince notes c (selector_number s) w.seen (imp_number i)

-- so it is with the number that a question found, if it found one
abbrev pub IfFound : Result (Option ℕ) AskFault → (ℕ → Type 0) → Type 0
IfFound r is_so = IfOk r (λ found. IfSome found is_so)
