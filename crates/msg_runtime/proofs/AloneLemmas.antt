-- Which lists are one change that sets a method's implementation or exchanges two.
use Rattle.std.proofs.Common.{◌≡◌, ◌≢◌, ◌∙◌, ℕ, Bool, true, false, List, [], ◌∷◌, Option, Some, length, refl, sym, ap, arith}
use Rattle.std.specs.Prelude.{slice_get, ◌||◌, if◌then◌else◌}
use Rattle.std.specs.Option.{option_map_or}
use Rattle.msg_names.specs.declared.value.ClassRef.{ClassRef}
use Rattle.msg_tables.specs.Undo.{covering}
use Rattle.msg_tables.specs.declared.change.Change.{Change}
use Rattle.msg_tables.specs.declared.change.Change.TheVariants.{Attach}
use Rattle.msg_tables.specs.declared.entry.Entry.{Entry}
use Rattle.msg_tables.specs.Log.{Log}
use Rattle.msg_tables.specs.Making.{is_told}
use Rattle.msg_tables.specs.Origin.{CountsView}
use Rattle.msg_runtime.specs.Reach.{flushes_all, is_flushed, is_set, is_set_alone}

pub more_or_none : (xs : List Change) → length xs ≢ 1 → is_set_alone xs ≡ false
more_or_none [] other = refl
more_or_none (x ∷ []) other = absurd (other refl)
more_or_none (x ∷ y ∷ more) other = refl

pub only_one : (xs : List Change) (x : Change) → length xs ≡ 1 → slice_get xs 0 ≡ Some x → is_set_alone xs ≡ is_set x
only_one [] x one is = absurd (omega (arith, one))
only_one (y ∷ []) x one is = ap (λ (o : Option Change). option_map_or is_set o false) is
only_one (y ∷ z ∷ more) x one is = absurd (omega (arith, one))

-- a category of one method sets none
pub covering_sets_none : (c : ClassRef) (s i : ℕ) → is_set (covering c s i) ≡ false
covering_sets_none c s i = step c.meta
  where
    step : (b : Bool) → is_set (if b then Attach c.class [] ((s, i) ∷ []) else Attach c.class ((s, i) ∷ []) []) ≡ false
    step true = refl
    step false = refl

-- where not all are flushed, those are of which the entries tell
pub flushed_told : (counts : Option CountsView) (xs : List Change) (h : Log) (es : List Entry) (c : ClassRef) → flushes_all counts xs ≡ false
    → is_flushed counts xs h es c ≡ true → is_told h es c ≡ true
flushed_told counts xs h es c none e = sym (ap (λ b. b || is_told h es c) none) ∙ e
