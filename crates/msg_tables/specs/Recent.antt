-- The places that were visited last.
use Rattle.std.specs.Prelude.{◌≡◌, ℕ, suc, List, Some, slice_index_or}
use Rattle.msg_names.specs.declared.value.ClassRef.{ClassRef}
use Rattle.msg_names.specs.ClassRef.{slot_of}
use Rattle.msg_tables.specs.declared.entry.Entry.{Entry}
use Rattle.msg_tables.specs.Journal.{place_of}

-- a class reference is among them: one of the marks is one more than its slot
abbrev pub HasPlace : List ℕ → ClassRef → Type 0
HasPlace marks c = (i : ℕ) × (slice_index_or marks i 0 ≡ suc (slot_of c))

-- none is
abbrev pub HasNoPlace : List ℕ → Type 0
HasNoPlace marks = (i : ℕ) → slice_index_or marks i 0 ≡ 0

-- the one where an entry wrote is
abbrev pub HasPlaceOf : List ℕ → Entry → Type 0
HasPlaceOf marks e = (c : ClassRef) × (place_of e ≡ Some c) × HasPlace marks c
