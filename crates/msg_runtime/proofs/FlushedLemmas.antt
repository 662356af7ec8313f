-- What two entries tell of.
use Rattle.std.proofs.Common.{◌≡◌, ◌⊎◌, true, [], ◌∷◌, Some, refl, sym, ◌∙◌, arith}
use Rattle.msg_names.specs.declared.value.ClassRef.{ClassRef}
use Rattle.msg_tables.specs.declared.entry.Entry.{Entry}
use Rattle.msg_tables.specs.Journal.{place_of}
use Rattle.msg_tables.specs.Log.{Log}
use Rattle.msg_tables.specs.Making.{is_told}
use Rattle.msg_tables.proofs.AffectedAllLemmas.{told-next}
use Rattle.msg_tables.proofs.EntryLemmas.{told-place}

pub told-both : (h : Log) (e f : Entry) (c : ClassRef) → is_told h (e ∷ f ∷ []) c ≡ true → (is_told h (e ∷ []) c ≡ true) ⊎ (is_told h (f ∷ []) c ≡ true)
told-both h e f c told = told-next h (e ∷ f ∷ []) 1 f c (omega arith) refl told

-- two entries that wrote at one place tell of the same
pub told-too : (h : Log) (e f : Entry) (p c : ClassRef) → place_of e ≡ Some p → place_of f ≡ Some p → is_told h (f ∷ []) c ≡ true → is_told h (e ∷ []) c ≡ true
told-too h e f p c one other told = told-place h e p c one ∙ sym (told-place h f p c other) ∙ told
