-- Changes of several parts.
use Rattle.std.proofs.Common.{◌≡◌, ℕ, suc, ◌+◌, List, [], ◌∷◌, ◌++◌, length, Option, Some, None, false, refl, ap, ◌∙◌, arith}
use Rattle.std.specs.Prelude.{unwrap_or, option_map}
use Rattle.std.specs.Option.{option_map_or}
use Rattle.msg_names.proofs.TestLemmas.{neither}
use Rattle.msg_names.specs.declared.value.ClassRef.{ClassRef}
use Rattle.msg_tables.specs.Origin.{IsSound}
use Rattle.msg_tables.specs.declared.change.Change.{Change}
use Rattle.msg_tables.specs.declared.fault.ChangeFault.{ChangeFault}
use Rattle.msg_tables.specs.Affected.{is_affected}
use Rattle.msg_tables.specs.Log.{Log, and_then, table, table_after_all, lookup}
use Rattle.msg_tables.specs.Refusal.{refusal, AreAccepted, IsLog}
use Rattle.msg_tables.proofs.LogLemmas.{table-and_then, log-and_then}
use Rattle.msg_tables.proofs.PresenceLemmas.{lookup-kept}
use Rattle.msg_tables.specs.Several.{and_all, refused_from, refusal_of_all, is_affected_by_all}

pub table-and_all : (h : Log) (xs : List Change) → table (and_all h xs) ≡ table_after_all (table h) xs
table-and_all h [] = refl
table-and_all h (x ∷ xs) = table-and_all (and_then h x) xs ∙ ap (λ t. table_after_all t xs) (table-and_then h x)

pub none-accepted : (h : Log) (xs : List Change) (k : ℕ) → refused_from k h xs ≡ None → AreAccepted h xs
none-accepted h [] k e = tt
none-accepted h (x ∷ xs) k e = step (refusal h x) refl e (none-accepted (and_then h x) xs (suc k))
  where
    step : (o : Option ChangeFault) → refusal h x ≡ o → option_map_or (λ f. Some (k, f)) o (refused_from (suc k) (and_then h x) xs) ≡ None
        → (refused_from (suc k) (and_then h x) xs ≡ None → AreAccepted (and_then h x) xs) → (refusal h x ≡ None) × AreAccepted (and_then h x) xs
    step None is e rest = (is, rest e)
    step (Some f) is e rest = cc

pub accepted-none : (h : Log) (xs : List Change) (k : ℕ) → AreAccepted h xs → refused_from k h xs ≡ None
accepted-none h [] k all = refl
accepted-none h (x ∷ xs) k all = rw all.0 (accepted-none (and_then h x) xs (suc k) all.1)

-- the first that would be refused, at its place
abbrev pub IsFirst : ℕ → Log → List Change → ℕ → ChangeFault → Type 0
IsFirst k h xs n f = (before : List Change) × (x : Change) × (later : List Change) × (xs ≡ before ++ x ∷ later) × (k + length before ≡ n) × AreAccepted h before × (refusal (and_all h before) x ≡ Some f)

pub refused-first : (k : ℕ) (h : Log) (xs : List Change) (n : ℕ) (f : ChangeFault) → refused_from k h xs ≡ Some (n, f) → IsFirst k h xs n f
refused-first k h [] n f e = cc
refused-first k h (x ∷ xs) n f e = step (refusal h x) refl e (refused-first (suc k) (and_then h x) xs n f)
  where
    step : (o : Option ChangeFault) → refusal h x ≡ o → option_map_or (λ g. Some (k, g)) o (refused_from (suc k) (and_then h x) xs) ≡ Some (n, f)
        → (refused_from (suc k) (and_then h x) xs ≡ Some (n, f) → IsFirst (suc k) (and_then h x) xs n f) → IsFirst k h (x ∷ xs) n f
    step None is e rest =
        let (before, y, later, parts, place, all, fault) = rest e in
        (x ∷ before, y, later, ap (λ ys. x ∷ ys) parts, omega (arith, place), (is, all), fault)
    step (Some g) is e rest =
        let same : ◌≡◌ {A = ℕ × ChangeFault} (k, g) (n, f) = ap (λ o. unwrap_or o (k, g)) e in
        let place : k ≡ n = ap (λ p. p.0) same in
        ([], x, xs, refl, omega (arith, place), tt, is ∙ ap (λ p. Some p.1) same)

pub refused-here : (h : Log) (xs : List Change) (n : ℕ) (f : ChangeFault) → refused_from 0 h xs ≡ Some (n, f)
    → (before : List Change) × (x : Change) × (later : List Change) × (xs ≡ before ++ x ∷ later) × (length before ≡ n) × AreAccepted h before × (refusal (and_all h before) x ≡ Some f)
refused-here h xs n f e =
    let (before, x, later, parts, place, all, fault) = refused-first 0 h xs n f e in
    (before, x, later, parts, omega (arith, place), all, fault)

pub refused-one : (h : Log) (x : Change) → refusal_of_all h (x ∷ []) ≡ refusal h x
unfolding refusal_of_all
refused-one h x = step (refusal h x)
  where
    step : (o : Option ChangeFault) → option_map (λ (r : ℕ × ChangeFault). r.1) (option_map_or (λ f. Some (0, f)) o None) ≡ o
    step None = refl
    step (Some f) = refl

pub refused-one_at : (h : Log) (x : Change) → refused_from 0 h (x ∷ []) ≡ option_map (λ f. (0, f)) (refusal h x)
refused-one_at h x = step (refusal h x)
  where
    step : (o : Option ChangeFault) → option_map_or {U = Option (ℕ × ChangeFault)} (λ f. Some (0, f)) o None ≡ option_map (λ f. (0, f)) o
    step None = refl
    step (Some f) = refl

pub accepted-all : (h : Log) (xs : List Change) → refusal_of_all h xs ≡ None → AreAccepted h xs
unfolding refusal_of_all
accepted-all h xs e = none-accepted h xs 0 (step (refused_from 0 h xs) e)
  where
    step : (o : Option (ℕ × ChangeFault)) → option_map (λ r. r.1) o ≡ None → o ≡ None
    step None e = refl
    step (Some r) e = cc

pub none-refused : (h : Log) (xs : List Change) → refused_from 0 h xs ≡ None → refusal_of_all h xs ≡ None
unfolding refusal_of_all
none-refused h xs e = ap (λ o. option_map (λ (r : ℕ × ChangeFault). r.1) o) e

pub kept-all : (h : Log) (xs : List Change) (c : ClassRef) (s : ℕ) → IsSound h.origin → IsLog h → AreAccepted h xs → is_affected_by_all h xs c ≡ false → lookup (and_all h xs) c s ≡ lookup h c s
kept-all h [] c s sound is all e = refl
kept-all h (x ∷ xs) c s sound is all e =
    let apart = neither (is_affected h x c) (is_affected_by_all (and_then h x) xs c) e in
    kept-all (and_then h x) xs c s sound (log-and_then h x is all.0) all.1 apart.1 ∙ lookup-kept h x c s sound is all.0 apart.0
