-- What a runtime needs to know of its keeper.
use Rattle.std.specs.Prelude.{◌≡◌, ◌≢◌, ◌<◌, ℕ, Bool, List, true}
use Rattle.msg_names.specs.Number.{selector_number, imp_number}
use Rattle.msg_names.specs.declared.value.ClassRef.{ClassRef}
use Rattle.msg_names.specs.declared.value.ImpRef.{ImpRef}
use Rattle.msg_names.specs.declared.value.Selector.{Selector}
use Rattle.msg_tables.specs.History.{History}
use Rattle.msg_model.specs.State.{Layout, awaits}
use Rattle.msg_cache.specs.Ours as cache
use Rattle.msg_cache.specs.Counts.{CountsFill}
use Rattle.msg_cache.specs.Keeping.{Fills, placement_of}
use Rattle.msg_cache.specs.Plays.{given_again, given_out, newcomer}
use Rattle.msg_cache.specs.Views.{ArenaView, layout}
use Rattle.msg_cache.specs.declared.answer.Filled.{Filled}
use Rattle.msg_cache.specs.declared.answer.Report.{Report}
use Rattle.msg_cache.specs.declared.keeper.Keeper.{Keeper}
use Rattle.msg_cache.specs.declared.view.KeeperView.{KeeperView}
use Rattle.msg_cache.specs.declared.view.SenderView.{SenderView}

-- the keeper is of the arena, and its counts are in order
abbrev pub IsKeeperOf : ArenaView → Keeper → Type 0
IsKeeperOf a k = cache.IsOf a k

-- where the keeper is
abbrev pub keeper_history : Keeper → History
keeper_history k = (cache.view k).history

-- what the keeper knows
abbrev pub keeper_view : Keeper → KeeperView
keeper_view k = cache.view k

-- which sender numbers it has given out, and since when
abbrev pub keeper_seats : Keeper → List Bool × List (ℕ × ℕ)
keeper_seats k = ((cache.view k).given, (cache.view k).since)

-- the capacities that it remembers
abbrev pub keeper_remembered : Keeper → List ℕ
keeper_remembered k = k.remembered.items

-- what it counted
abbrev pub keeper_report : Keeper → Report
keeper_report k = k.report

-- some fill of what was found took the keeper's view k to k', and was counted from the report r to
-- r'
abbrev pub IsFilled : Layout → List ℕ → ClassRef → ℕ → ℕ → KeeperView → KeeperView → Report → Report → Type 0
IsFilled z remembered c s i k k' r r' = (answer : Filled) × Fills z remembered c s i k k' answer × CountsFill (placement_of z remembered k c s) answer r r'

-- what was found was filled in by the keeper, and counted
abbrev pub CachesFound : ArenaView → ClassRef → Selector → ImpRef → Keeper → Keeper → Type 0
CachesFound a c s i k k' = IsFilled (layout a) (keeper_remembered k) c (selector_number s) (imp_number i) (keeper_view k) (keeper_view k') (keeper_report k) (keeper_report k')

-- what was found was filled in, its class reference was opened, if it was closed, and the sender of
-- the view v was then shown the history
abbrev pub AnswersMiss : Layout → List ℕ → ClassRef → ℕ → ℕ → SenderView → KeeperView → KeeperView → Report → Report → Type 0
AnswersMiss z remembered c s i v k k' r r' = (j : KeeperView) × IsFilled z remembered c s i k j r r' × (k' ≡ given_again v (cache.opened z c j))

-- each of the first n sender numbers is given out
abbrev pub AreOut : ℕ → KeeperView → Type 0
AreOut n k = (number : ℕ) → number < n → awaits k.given number ≡ true

-- a sender whose number wasn't given out, and now is, and who has seen the history
pub record IsNew (v : SenderView) (k k' : KeeperView) : Type 0 where
  pub sender : v ≡ newcomer v.number k.history
  pub was : awaits k.given v.number ≢ true
  pub keeper : k' ≡ given_out v.number k
