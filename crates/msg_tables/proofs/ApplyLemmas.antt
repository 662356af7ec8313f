-- Tables that are at a longer log after a change was written.
use Rattle.std.proofs.Common.{◌≡◌, ◌+◌, List, [], ◌∷◌, length, length-append, Some, None, Bool, true, false, cond, refl, sym, ap, ◌∙◌, subst, arith}
use Rattle.std.specs.Prelude.{◌||◌}
use Rattle.std.specs.List.{list_any}
use Rattle.msg_tables.specs.declared.change.Change.{Change}
use Rattle.msg_tables.specs.declared.change.Change.TheVariants.{Add, Replace, SetImp, Exchange, Attach, AddClass, Remove, DisposeClass}
use Rattle.msg_tables.specs.declared.edit.Edit.{Edit}
use Rattle.msg_tables.specs.declared.fault.ChangeFault.{ChangeFault}
use Rattle.msg_tables.specs.declared.fault.ChangeFault.TheVariants.{NoClass, NoImp, ArgumentCount, MethodPresent, NoMethod, Limit, Memory, DuplicateClass, ClassInUse}
use Rattle.msg_tables.specs.After.{rows_after, supers_after, table_after}
use Rattle.msg_tables.specs.Edits.{IsOfTables, edited, supers_edited, Writes}
use Rattle.msg_tables.specs.Log.{Log, and_then, table}
use Rattle.msg_tables.specs.Refusal.{refusal, least_change_fault, conditions}
use Rattle.msg_tables.specs.Stands.{Holds, StandsAt}
use Rattle.msg_tables.specs.View.{TablesView}
use Rattle.msg_tables.proofs.LogLemmas.{table-and_then, log-and_then}
use Rattle.msg_tables.proofs.EditLemmas.{length-edited}

is_memory : ChangeFault → Bool
is_memory Memory = true
is_memory _ = false

not_memory : (fs : List (Bool × ChangeFault)) → list_any (λ f. is_memory f.1) fs ≡ false → least_change_fault fs ≡ Some Memory → ⊥
unfolding is_memory
not_memory [] others e = cc
not_memory (f ∷ fs) others e = step f.0 f.1 others (not_memory fs) e
  where
    step : (b : Bool) (g : ChangeFault) → is_memory g || list_any (λ f. is_memory f.1) fs ≡ false → (list_any (λ f. is_memory f.1) fs ≡ false → least_change_fault fs ≡ Some Memory → ⊥) → cond b (Some g) (least_change_fault fs) ≡ Some Memory → ⊥
    step false Memory others rest e = cc
    step true Memory others rest e = cc
    step true NoClass others rest e = cc
    step true NoImp others rest e = cc
    step true ArgumentCount others rest e = cc
    step true MethodPresent others rest e = cc
    step true NoMethod others rest e = cc
    step true Limit others rest e = cc
    step true DuplicateClass others rest e = cc
    step true ClassInUse others rest e = cc
    step false NoClass others rest e = rest others e
    step false NoImp others rest e = rest others e
    step false ArgumentCount others rest e = rest others e
    step false MethodPresent others rest e = rest others e
    step false NoMethod others rest e = rest others e
    step false Limit others rest e = rest others e
    step false DuplicateClass others rest e = rest others e
    step false ClassInUse others rest e = rest others e

-- no change is refused for lack of memory
pub refused-not_memory : (h : Log) (x : Change) → refusal h x ≡ Some Memory → ⊥
unfolding refusal is_memory
refused-not_memory h (Add c s i) e = not_memory (conditions h (Add c s i)) refl e
refused-not_memory h (Replace c s i) e = not_memory (conditions h (Replace c s i)) refl e
refused-not_memory h (SetImp c s i) e = not_memory (conditions h (SetImp c s i)) refl e
refused-not_memory h (Exchange c s d u) e = not_memory (conditions h (Exchange c s d u)) refl e
refused-not_memory h (Attach k methods class_methods) e = not_memory (conditions h (Attach k methods class_methods)) refl e
refused-not_memory h (AddClass k d) e = not_memory (conditions h (AddClass k d)) refl e
refused-not_memory h (Remove c s) e = not_memory (conditions h (Remove c s)) refl e
refused-not_memory h (DisposeClass k) e = not_memory (conditions h (DisposeClass k)) refl e

pub stands-after : (old new : TablesView) (h : Log) (x : Change) (e : Edit) → StandsAt old h → IsOfTables old e → refusal h x ≡ None → rows_after (table h) x ≡ edited e (table h).rows → supers_after (table h).supers x ≡ supers_edited e (table h).supers → Writes old new e → StandsAt (record new { change_count = new.change_count + 1 }) (and_then h x)
unfolding table_after
stands-after old new h x e stands named none is makes writes = record {
  log = log-and_then h x stands.log none;
  supers = ap (λ t. t.supers) writes.rest ∙ ap (supers_edited e) stands.supers ∙ sym makes ∙ sym (ap (λ t. t.supers) (table-and_then h x));
  listed = ap (λ t. t.listed) writes.rest ∙ stands.listed;
  rows = subst (Holds new.lists) (sym now) (writes.rows (table h).rows stands.rows);
  row_count =
      let left = length-edited old (table h).rows stands.rows e named in
      let more = ap length now in
      omega (arith, left, more, writes.row_count, stands.row_count);
  changes = ap (λ (t : TablesView). t.change_count + 1) writes.rest ∙ ap (λ n. n + 1) stands.changes ∙ sym (length-append h.changes (x ∷ []));
  counts = ap (λ t. t.counts) writes.rest ∙ stands.counts;
  limits = ap (λ t. t.limits) writes.rest ∙ stands.limits;
}
  where
    now : (table (and_then h x)).rows ≡ edited e (table h).rows
    now = ap (λ t. t.rows) (table-and_then h x) ∙ is
