-- Lists of changes, made one after another. Others see no change before all are made.
use Rattle.std.specs.Prelude.{ℕ, suc, ◌==◌, ◌||◌, Bool, false, List, [], ◌∷◌, ◌++◌, Option, Some, None, option_map}
use Rattle.std.specs.List.{list_any}
use Rattle.std.specs.Option.{option_map_or}
use Rattle.msg_names.specs.declared.value.ClassRef.{ClassRef}
use Rattle.msg_tables.specs.declared.change.Change.{Change}
use Rattle.msg_tables.specs.declared.fault.ChangeFault.{ChangeFault}
use Rattle.msg_tables.specs.declared.change.Change.TheVariants.{AddClass, DisposeClass}
use Rattle.msg_tables.specs.Affected.{is_affected, written_refs}
use Rattle.msg_tables.specs.Chain.{is_member}
use Rattle.msg_tables.specs.Log.{Log, and_then, chain_at}
use Rattle.msg_tables.specs.Refusal.{refusal}

-- the log after all changes of a list, one after another
abbrev pub and_all : Log → List Change → Log
and_all h [] = h
and_all h (x ∷ xs) = and_all (and_then h x) xs

-- the place and the fault of the first change that would be refused
abbrev pub refused_from : ℕ → Log → List Change → Option (ℕ × ChangeFault)
refused_from k h [] = None
refused_from k h (x ∷ xs) = option_map_or (λ f. Some (k, f)) (refusal h x) (refused_from (suc k) (and_then h x) xs)

-- the fault alone
unfoldable pub refusal_of_all : Log → List Change → Option ChangeFault
refusal_of_all h xs = option_map (λ r. r.1) (refused_from 0 h xs)

-- some change of the list affects the class reference, at the log before that change
abbrev pub is_affected_by_all : Log → List Change → ClassRef → Bool
is_affected_by_all h [] c = false
is_affected_by_all h (x ∷ xs) c = is_affected h x c || is_affected_by_all (and_then h x) xs c

-- the class references at which the changes of a list add or rewrite rows, each at the log before
-- the change
abbrev pub written_by_all : Log → List Change → List ClassRef
written_by_all h [] = []
written_by_all h (x ∷ xs) = written_refs h x ++ written_by_all (and_then h x) xs

-- the class that a change makes or disposes of
abbrev pub made_by : Change → List ℕ
made_by (AddClass k d) = k ∷ []
made_by (DisposeClass k) = k ∷ []
made_by _ = []

-- the classes that the changes of a list make or dispose of
abbrev pub made_by_all : List Change → List ℕ
made_by_all [] = []
made_by_all (x ∷ xs) = made_by x ++ made_by_all xs

-- the class reference belongs to one of these classes
abbrev pub is_of_one : List ℕ → ClassRef → Bool
is_of_one ks c = list_any (λ k. c.class == k) ks

-- the class reference is at or below one of these
abbrev pub is_below : Log → List ClassRef → ClassRef → Bool
is_below h places c = list_any (λ place. is_member place (chain_at h c)) places
