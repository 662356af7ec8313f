-- Laws of depths and of orders.
use Rattle.std.specs.Prelude.{◌≡◌, ◌<◌, ℕ, suc, List, length, Option, Some, None, false, true}
use Rattle.msg_order.specs.Order.{IsClassOrder}
use Rattle.msg_order.specs.Superclasses.{AreListed, StandsAboveItself, super_of, depth_of, has_cycle}

-- nothing is above a root class
abbrev pub RootHasDepth0 : Type 0
RootHasDepth0 = (supers : List (Option ℕ)) (k : ℕ) → super_of supers k ≡ None → depth_of supers k ≡ 0

-- if every chain ends, one class more is above a class than above its superclass
abbrev pub ClassIsOneDeeper : Type 0
ClassIsOneDeeper = (supers : List (Option ℕ)) (k d : ℕ) → has_cycle supers ≡ false → k < length supers → super_of supers k ≡ Some d
    → depth_of supers k ≡ suc (depth_of supers d)

-- if superclasses come first, every chain ends
abbrev pub ChainsEndWhereOrdered : Type 0
ChainsEndWhereOrdered = (supers : List (Option ℕ)) → ((k d : ℕ) → super_of supers k ≡ Some d → d < k) → has_cycle supers ≡ false

-- if every chain ends, the classes have an order in which each comes after its superclass
abbrev pub ClassesHaveOrder : Type 0
ClassesHaveOrder = (supers : List (Option ℕ)) → AreListed supers → has_cycle supers ≡ false → (order : List ℕ) × IsClassOrder supers order

-- if some chain doesn't end, a class is above itself
abbrev pub EndlessChainHasClassAboveItself : Type 0
EndlessChainHasClassAboveItself = (supers : List (Option ℕ)) → AreListed supers → has_cycle supers ≡ true → StandsAboveItself supers

-- if a class is above itself, some chain doesn't end
abbrev pub ClassAboveItselfIsEndlessChain : Type 0
ClassAboveItselfIsEndlessChain = (supers : List (Option ℕ)) → StandsAboveItself supers → has_cycle supers ≡ true
