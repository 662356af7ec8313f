-- What becomes of an item's changes.
use Rattle.std.proofs.Common.{◌≡◌, ℕ, List, [], ◌∷◌, Option, Some, None, refl, sym, ap, subst, ◌∙◌}
use Rattle.std.specs.Option.{option_map_or}
use Rattle.msg_image.specs.Items.{ItemParts, ChangeItem, ChangeAllItem}
use Rattle.msg_tables.specs.History.{History, log}
use Rattle.msg_tables.specs.Made.{and_as_one}
use Rattle.msg_tables.specs.Refusal.{refusal}
use Rattle.msg_tables.specs.Several.{and_all}
use Rattle.msg_tables.specs.Stands.{StandsAt}
use Rattle.msg_tables.specs.View.{TablesView}
use Rattle.msg_tables.specs.declared.apply_all.Refused.{Refused}
use Rattle.msg_tables.specs.declared.change.Change.{Change}
use Rattle.msg_tables.specs.declared.fault.ChangeFault.{ChangeFault}
use Rattle.msg_tables.proofs.HistoryLemmas.{log-all}
use Rattle.msg_answers.specs.Serial.{changes_in, history_after, longer_by, outcome_at, outcome_of, outcome_of_first}
use Rattle.msg_answers.specs.declared.outcome.Outcome.{Outcome}
use Rattle.msg_answers.specs.declared.outcome.Outcome.TheVariants as outcomes
use Rattle.msg_reasons.specs.Changing.{IsChanged, IsMadeOrRefused, place_and_fault}

-- what is answered of one change, and of several that are made as one
abbrev pub answered_one : Option Refused → Outcome
answered_one None = outcomes.Made
answered_one (Some r) = outcomes.Refused r.fault

abbrev pub answered_all : Option Refused → Outcome
answered_all None = outcomes.Made
answered_all (Some r) = outcomes.RefusedAt r

one-answered : (f : Option ChangeFault) (r : Option Refused) → option_map_or (λ g. Some (0, g)) f None ≡ place_and_fault r → outcome_of f ≡ answered_one r
one-answered None None e = refl
one-answered None (Some r) e = absurd (cc e)
one-answered (Some f) None e = absurd (cc e)
one-answered (Some f) (Some r) e = ap (λ (o : Option (ℕ × ChangeFault)). outcomes.Refused (option_map_or (λ p. p.1) o f)) e

first-answered : (r : Option Refused) → outcome_of_first (place_and_fault r) ≡ answered_all r
first-answered None = refl
first-answered (Some r) = refl

made-log : (h : History) (xs : List Change) → log (and_as_one h xs) ≡ and_all (log h) xs
made-log h [] = refl
made-log h (x ∷ xs) = log-all h (x ∷ xs)

-- the tables are at the history after an item
stands-made : (item : ItemParts) (h : History) (new : TablesView) → outcome_at h item ≡ outcomes.Made → StandsAt new (and_all (log h) (changes_in item)) → StandsAt new (log (history_after h item))
stands-made item h new made stands =
    subst (λ (o : Outcome). StandsAt new (log (longer_by h (changes_in item) o))) (sym made) (subst (StandsAt new) (sym (made-log h (changes_in item))) stands)

pub one_changed : (x : Change) (old new : TablesView) (r : Option Refused) → IsMadeOrRefused (x ∷ []) old new r → IsChanged (ChangeItem x) old new (answered_one r)
one_changed x old new None made = λ h st.
    let (none, stands) = made (log h) st in
    let is = one-answered (refusal (log h) x) None none in
    (sym is, stands-made (ChangeItem x) h new is stands)
one_changed x old new (Some r) made = λ h st.
    let (first, stands) = made (log h) st in
    let is = one-answered (refusal (log h) x) (Some r) first in
    (sym is, subst (λ (o : Outcome). StandsAt new (log (longer_by h (x ∷ []) o))) (sym is) stands)

pub all_changed : (xs : List Change) (old new : TablesView) (r : Option Refused) → IsMadeOrRefused xs old new r → IsChanged (ChangeAllItem xs) old new (answered_all r)
all_changed xs old new None made = λ h st.
    let (none, stands) = made (log h) st in
    let is = ap outcome_of_first none in
    (sym is, stands-made (ChangeAllItem xs) h new is stands)
all_changed xs old new (Some r) made = λ h st.
    let (first, stands) = made (log h) st in
    let is = ap outcome_of_first first ∙ first-answered (Some r) in
    (sym is, subst (λ (o : Outcome). StandsAt new (log (longer_by h xs o))) (sym is) stands)
