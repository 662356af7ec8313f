-- A fill and a collection change only caches.
use Rattle.std.proofs.Common.{◌≡◌, ℕ, zero, suc, ◌+◌, List, [], ◌∷◌, Bool, Option, Some, None, refl, ap, ◌∙◌}
use Rattle.std.specs.Prelude.{MatchOption}
use Rattle.msg_names.specs.declared.value.ClassRef.{ClassRef}
use Rattle.msg_tables.specs.History.{History}
use Rattle.msg_model.specs.State.{Layout, capacity}
use Rattle.msg_cache.specs.Keeping.{looks, look_count, clears, emptied, all_emptied, CollectsBy, lowest_free, grown, FillsBy, Fills, placement_of}
use Rattle.msg_cache.specs.Layout.{base}
use Rattle.msg_cache.specs.declared.answer.Filled.{Filled}
use Rattle.msg_cache.specs.declared.answer.Filled.TheVariants.{Grown, NoArray}
use Rattle.msg_cache.specs.declared.answer.Placement.{Placement}
use Rattle.msg_cache.specs.declared.answer.Placement.TheVariants.{Present, Use, Take}
use Rattle.msg_cache.specs.declared.view.KeeperView.{KeeperView}
use Rattle.msg_cache.specs.declared.view.TurnAt.{TurnAt}
use Rattle.msg_cache.proofs.ClearingLemmas.{cleared_is}

-- what the keeper's view has besides the caches
pub record Rest : Type 0 where
  pub history : History
  pub given : List Bool
  pub turn : TurnAt
  pub since : List (ℕ × ℕ)

abbrev pub rest : KeeperView → Rest
rest k = record { history = k.history; given = k.given; turn = k.turn; since = k.since }

-- ---- a collection

looks-rest : (n : ℕ) (outs : List Bool) (k : KeeperView) → rest (looks n outs k) ≡ rest k
looks-rest zero outs k = refl
looks-rest (suc n) outs k = looks-rest n outs k

clears-rest : (b n : ℕ) (k : KeeperView) → rest (clears b n k) ≡ rest k
clears-rest b zero k = refl
clears-rest b (suc n) k = ap rest (cleared_is (b + n) (clears b n k)) ∙ clears-rest b n k

all_emptied-rest : (z : Layout) (arrays : List ℕ) (k : KeeperView) → rest (all_emptied z arrays k) ≡ rest k
all_emptied-rest z [] k = refl
all_emptied-rest z (a ∷ arrays) k = all_emptied-rest z arrays (emptied z a k) ∙ clears-rest (base z a) (capacity z a) k

pub collects-rest : (z : Layout) (outs : List Bool) (k j : KeeperView) → CollectsBy z outs k j → rest j ≡ rest k
collects-rest z outs k j t = ap rest t.view ∙ all_emptied-rest z t.order (looks (look_count z k) outs k) ∙ looks-rest (look_count z k) outs k

-- ---- a fill

module _ (z : Layout) (c : ClassRef) (s i : ℕ) (k k' : KeeperView) (answer : Filled) where
  after-rest : (j : KeeperView) → rest j ≡ rest k → (o : Option ℕ) → MatchOption o ((answer ≡ NoArray) × (k' ≡ j)) (λ a. (answer ≡ Grown) × (k' ≡ grown z c s i a j)) → rest k' ≡ rest k
  after-rest j collected None (is, same) = ap rest same ∙ collected
  after-rest j collected (Some a) (is, same) = ap rest same ∙ collected

  grows-rest : (n : ℕ) (o : Option ℕ)
      → MatchOption o
      ((outs : List Bool) × (j : KeeperView) × CollectsBy z outs k j × MatchOption (lowest_free z n (looks (look_count z k) outs k)) ((answer ≡ NoArray) × (k' ≡ j)) (λ a. (answer ≡ Grown) × (k' ≡ grown z c s i a j)))
      (λ a. (answer ≡ Grown) × (k' ≡ grown z c s i a k))
      → rest k' ≡ rest k
  grows-rest n None (outs, j, collects, ends) = after-rest j (collects-rest z outs k j collects) (lowest_free z n (looks (look_count z k) outs k)) ends
  grows-rest n (Some a) (is, same) = ap rest same

  fills_by-rest : (w : Placement) → FillsBy z c s i k k' answer w → rest k' ≡ rest k
  fills_by-rest Present (is, same) = ap rest same
  fills_by-rest (Use a p) (is, same) = ap rest same
  fills_by-rest (Take n) grows = grows-rest n (lowest_free z n k) grows

  pub fills-rest : (remembered : List ℕ) → Fills z remembered c s i k k' answer → rest k' ≡ rest k
  fills-rest remembered fills = fills_by-rest (placement_of z remembered k c s) fills
