-- The limits that an accepted change keeps.
use Rattle.std.proofs.Common.{◌≡◌, ℕ, zero, suc, ◌+◌, ◌<◌, List, [], ◌∷◌, length, get_or, Bool, true, false, cond, Some, None, refl, arith}
use Rattle.std.specs.Prelude.{nat_le, nat_lt, ◌||◌}
use Rattle.std.proofs.lemmas.Bool.Decides.{nat_tests}
use Rattle.msg_tables.specs.declared.change.Change.{Change}
use Rattle.msg_tables.specs.declared.change.Change.TheVariants.{Add, Replace, SetImp, Exchange, Attach, AddClass, Remove, DisposeClass}
use Rattle.msg_tables.specs.declared.fault.ChangeFault.{ChangeFault}
use Rattle.msg_tables.specs.declared.fault.ChangeFault.TheVariants.{Limit}
use Rattle.msg_tables.specs.Log.{Log, table}
use Rattle.msg_tables.specs.Refusal.{refusal, least_change_fault, conditions, is_full}

-- if no fault is found, none of the conditions holds
pub none_holds : (fs : List (Bool × ChangeFault)) (k : ℕ) → least_change_fault fs ≡ None → (get_or fs k (false, Limit)).0 ≡ false
none_holds [] k e = refl
none_holds (f ∷ fs) zero e = step f.0 e
  where
    step : (b : Bool) → cond b (Some f.1) (least_change_fault fs) ≡ None → b ≡ false
    step true h = cc
    step false h = refl
none_holds (f ∷ fs) (suc k) e = none_holds fs k (step f.0 e)
  where
    step : (b : Bool) → cond b (Some f.1) (least_change_fault fs) ≡ None → least_change_fault fs ≡ None
    step true h = cc
    step false h = h

not_full : (h : Log) (n : ℕ) → is_full h n ≡ false → length h.changes < h.origin.limits.changes
unfolding is_full
not_full h n e = step (nat_le h.origin.limits.changes (length h.changes)) refl e
  where
    below : (n m : ℕ) → nat_le n m ≡ false → m < n
    below n m e = grind (arith, nat_tests)

    step : (b : Bool) → nat_le h.origin.limits.changes (length h.changes) ≡ b → (b || nat_lt h.origin.limits.rows (length (table h).rows + n)) ≡ false → length h.changes < h.origin.limits.changes
    step true is e = cc
    step false is e = below h.origin.limits.changes (length h.changes) is

-- a change is accepted only after fewer changes than the limit
pub accepted_few : (h : Log) (x : Change) → refusal h x ≡ None → length h.changes < h.origin.limits.changes
unfolding refusal
accepted_few h (Add c s i) e = not_full h _ (none_holds (conditions h (Add c s i)) 4 e)
accepted_few h (Replace c s i) e = not_full h _ (none_holds (conditions h (Replace c s i)) 3 e)
accepted_few h (SetImp c s i) e = not_full h _ (none_holds (conditions h (SetImp c s i)) 4 e)
accepted_few h (Exchange c s d u) e = not_full h _ (none_holds (conditions h (Exchange c s d u)) 3 e)
accepted_few h (Attach k ms cs) e = not_full h _ (none_holds (conditions h (Attach k ms cs)) 3 e)
accepted_few h (AddClass k d) e = not_full h _ (none_holds (conditions h (AddClass k d)) 1 e)
accepted_few h (Remove c s) e = not_full h _ (none_holds (conditions h (Remove c s)) 3 e)
accepted_few h (DisposeClass k) e = not_full h _ (none_holds (conditions h (DisposeClass k)) 1 e)
