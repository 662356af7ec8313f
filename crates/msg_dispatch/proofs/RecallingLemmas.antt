-- What a sender has noted is found.
use Rattle.std.proofs.Common.{◌≡◌, ℕ, List, ◌∷◌, ◌++◌, Some, None, ap, sym, subst, ◌∙◌}
use Rattle.std.specs.Prelude.{IfSome, Option}
use Rattle.msg_names.specs.ClassRef.{slot_of}
use Rattle.msg_names.specs.Number.{selector_number, imp_number}
use Rattle.msg_names.specs.declared.value.ClassRef.{ClassRef}
use Rattle.msg_names.specs.declared.value.ImpRef.{ImpRef}
use Rattle.msg_names.specs.declared.value.Selector.{Selector}
use Rattle.msg_reader.specs.Kept.{FindsRecalled, LoadsStamp}
use Rattle.msg_reader.specs.Notes.{recalled}
use Rattle.msg_reader.specs.declared.notes.Notes.{Notes}
use Rattle.msg_dispatch.specs.Seen.{FindsNoted, SenderView}

-- without the lock
pub found_unlocked : (v w : SenderView) (was is : Notes) (c : ClassRef) (s : Selector) (i : ImpRef) → w.takings ≡ v.takings → FindsRecalled was is c (selector_number s) v.seen w.seen (Some (imp_number i)) → FindsNoted v w was is c s i
found_unlocked v w was is c s i same (since, first, found) = (since, first, at (recalled was since (slot_of c) (selector_number s)) found)
  where
    at : (o : Option ℕ) → IfSome o (λ n. (Some (imp_number i) ≡ Some n) × LoadsStamp c since v.seen w.seen × (is ≡ was)) → IfSome o (λ n. (imp_number i ≡ n) × LoadsStamp c since v.seen w.seen × (w.takings ≡ v.takings) × (is ≡ was))
    at None t = tt
    at (Some n) t = let e : Some (imp_number i) ≡ Some n = t.0 in (cc, t.1, same, t.2)

-- if nothing was found without it, nothing was noted
pub found_locked : (v u w : SenderView) (was mid is : Notes) (c : ClassRef) (s : Selector) (i : ImpRef) → w.seen.stamps ≡ u.seen.stamps → FindsRecalled was mid c (selector_number s) v.seen u.seen None → FindsNoted v w was is c s i
found_locked v u w was mid is c s i same (since, (more, first), found) = (since, (more, same ∙ first), at (recalled was since (slot_of c) (selector_number s)) found)
  where
    at : (o : Option ℕ) → IfSome o (λ n. (None ≡ Some n) × LoadsStamp c since v.seen u.seen × (mid ≡ was)) → IfSome o (λ n. (imp_number i ≡ n) × LoadsStamp c since v.seen w.seen × (w.takings ≡ v.takings) × (is ≡ was))
    at None t = tt
    at (Some n) t = let e : None ≡ Some n = t.0 in absurd (cc)
