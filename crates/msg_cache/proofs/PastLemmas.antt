-- Histories with which others begin.
use Rattle.std.proofs.lemmas.List.Elements.{All-head, All-tail, All-nil, All-cons}
use Rattle.std.proofs.Common.{◌≡◌, ℕ, List, All, ◌<◌, ◌+◌, ◌-◌, ◌≤◌, [], ◌∷◌, ◌++◌, length, take, drop, None, false, subst, refl, sym, ap, ◌∙◌, arith}
use Rattle.std.proofs.lemmas.List.{take-append-drop}
use Rattle.std.proofs.Math.Seq.{take-append-add}
use Rattle.msg_tables.specs.declared.change.Change.{Change}
use Rattle.msg_tables.specs.Origin.{OriginView}
use Rattle.msg_tables.specs.Origin.{IsSound}
use Rattle.msg_tables.specs.History.{History, BeginsWith, and_then, empty, log, lookup}
use Rattle.msg_names.specs.declared.value.ClassRef.{ClassRef}
use Rattle.msg_tables.specs.Log as logs
use Rattle.msg_tables.specs.Refusal.{AreAccepted}
use Rattle.msg_tables.specs.Several.{refusal_of_all, is_affected_by_all}
use Rattle.msg_tables.proofs.LimitLemmas.{accepted_few}
use Rattle.msg_tables.proofs.SeveralLemmas.{accepted-all, kept-all}
use Rattle.msg_tables.proofs.LogLemmas.{log-empty}
use Rattle.msg_tables.proofs.HistoryLemmas.{is-longer, is-before, few-lists, log-all}
use Rattle.msg_model.specs.State.{size, first}
use Rattle.msg_cache.specs.Rule.{IsAccepted}
use Rattle.msg_model.specs.Stamps.{last_affected}
use Rattle.msg_model.proofs.StampLemmas.{last-reached}

pub first_begins : (r : ℕ) (h : History) → BeginsWith h (first r h)
first_begins r h = record { same = refl; rest = (drop r h.changes, sym (take-append-drop r h.changes)) }

-- the first r changes begin with what begins the history and isn't longer
pub begins_first : (h g : History) (r : ℕ) → BeginsWith h g → size g ≤ r → BeginsWith (first r h) g
begins_first h g r p le =
    let n : ℕ = r - length g.changes in
    let is : length g.changes + n ≡ r = omega arith in
    record {
      same = p.same;
      rest = (take n p.rest.0, sym (ap (λ (m : ℕ). take m h.changes) is) ∙ ap (λ xs. take (length g.changes + n) xs) p.rest.1 ∙ take-append-add g.changes p.rest.0 n);
    }

-- ---- accepted histories

some-push : (all : List (List Change)) (xs : List Change) → All (λ ys. 0 < length ys) all → 0 < length xs → All (λ ys. 0 < length ys) (all ++ xs ∷ [])
some-push [] xs some one = All-cons (λ ys. 0 < length ys) xs [] one (All-nil (λ ys. 0 < length ys))
some-push (x ∷ all) xs some one = All-cons (λ ys. 0 < length ys) x (all ++ xs ∷ []) (All-head (λ ys. 0 < length ys) x all some) (some-push all xs (All-tail (λ ys. 0 < length ys) x all some) one)

some-before : (all more : List (List Change)) → All (λ ys. 0 < length ys) (all ++ more) → All (λ ys. 0 < length ys) all
some-before [] more some = All-nil (λ ys. 0 < length ys)
some-before (x ∷ all) more some = All-cons (λ ys. 0 < length ys) x all (All-head (λ ys. 0 < length ys) x (all ++ more) some) (some-before all more (All-tail (λ ys. 0 < length ys) x (all ++ more) some))

pub accepted_empty : (origin : OriginView) → IsSound origin → IsAccepted (empty origin)
accepted_empty origin sound = record { origin = sound; changes = log-empty (log (empty origin)) refl; some = All-nil (λ xs. 0 < length xs) }

pub accepted_next : (h : History) (xs : List Change) → IsAccepted h → 0 < length xs → AreAccepted (log h) xs → IsAccepted (and_then h xs)
accepted_next h xs old some all = record {
  origin = old.origin;
  changes = is-longer h xs old.changes all;
  some = some-push h.changes xs old.some some;
}

-- a history has no more lists than changes, so the limit of changes is one of lists
pub few_changes : (h : History) → IsAccepted h → size h ≤ length (log h).changes
few_changes h accepted = few-lists h.changes accepted.some

-- if changes are accepted, there is room for them
pub few_more : (h : History) (xs : List Change) → IsAccepted h → 0 < length xs → refusal_of_all (log h) xs ≡ None → size h < h.origin.limits.changes
few_more h [] accepted some none = absurd (omega arith)
few_more h (x ∷ xs) accepted some none =
    let all = accepted-all (log h) (x ∷ xs) none in
    let few = accepted_few (log h) x all.0 in
    let lists = few_changes h accepted in omega arith

-- what no change of a list affects finds what it found
pub lookup-kept_by_all : (h : History) (xs : List Change) (c : ClassRef) (s : ℕ) → IsAccepted h → refusal_of_all (log h) xs ≡ None → is_affected_by_all (log h) xs c ≡ false → lookup (and_then h xs) c s ≡ lookup h c s
lookup-kept_by_all h xs c s accepted none e =
    ap (λ g. logs.lookup g c s) (log-all h xs) ∙ kept-all (log h) xs c s accepted.origin accepted.changes (accepted-all (log h) xs none) e

pub accepted_before : (h g : History) → BeginsWith h g → IsAccepted h → IsAccepted g
accepted_before h g begins later = record { origin = subst IsSound begins.same later.origin; changes = is-before h g begins later.changes; some = some-before g.changes begins.rest.0 (subst (All (λ ys. 0 < length ys)) begins.rest.1 later.some) }

-- no change that affects a class reference comes after the last one
pub reached_by : (h : History) (c : ClassRef) (n : ℕ) → n ≡ size h → last_affected h c ≤ n
reached_by h c n is = let t = last-reached h c in omega arith
