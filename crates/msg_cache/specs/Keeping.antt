-- What the keeper's calls do, as changes of its view.
use Rattle.std.specs.Prelude.{◌≡◌, ◌↔◌, ℕ, zero, suc, ◌+◌, ◌*◌, ◌<◌, ◌≤◌, ◌==◌, ◌&&◌, not, List, [], ◌∷◌, length, take, drop, find, Bool, true, false, slice_index, slice_set, if◌then◌else◌, Option, None, MatchOption}
use Rattle.msg_tables.specs.Origin.{class_total}
use Rattle.std.specs.List.{range_with_len, filter, list_any}
use Rattle.std.specs.List.Sorted.{IsPermutation}
use Rattle.msg_names.specs.declared.value.ClassRef.{ClassRef}
use Rattle.msg_buckets.specs.declared.capacity.Plan.{Plan}
use Rattle.msg_buckets.specs.declared.capacity.Plan.TheVariants.{Use as PlanUse, Take as PlanTake}
use Rattle.msg_buckets.specs.Word.{word_of}
use Rattle.msg_buckets.specs.Capacity.{IsCapacity, capacities as all_capacities, plan_of, fill_limit}
use Rattle.msg_buckets.specs.Probing.{Found, hit, empty, wrapped, probe_place}
use Rattle.msg_buckets.specs.Array.{find_in, occupied_in}
use Rattle.msg_tables.specs.History.{History}
use Rattle.msg_names.specs.ClassRef.{slot_of}
use Rattle.msg_model.specs.declared.state.Standing.{Standing}
use Rattle.msg_model.specs.declared.state.Standing.TheVariants.{Free, Live, Retired}
use Rattle.msg_model.specs.State.{Layout, capacity, awaits}
use Rattle.msg_model.specs.Steps.{is_free, seen_out}
use Rattle.msg_model.specs.View.{standing_at}
use Rattle.msg_cache.specs.declared.answer.Filled.{Filled}
use Rattle.msg_cache.specs.declared.answer.Filled.TheVariants.{Present as DidNothing, Used, Grown, NoArray}
use Rattle.msg_cache.specs.declared.answer.Placement.{Placement}
use Rattle.msg_cache.specs.declared.answer.Placement.TheVariants.{Present, Use, Take}
use Rattle.msg_cache.specs.declared.view.KeeperView.{KeeperView}
use Rattle.msg_cache.specs.Layout.{SettingView, layout_of, header_at, base}
use Rattle.msg_cache.specs.Rule.{TidyBy}
use Rattle.msg_cache.specs.Plays.{stored, installed, looked}

-- ---- arrays

-- all arrays, by number
abbrev pub arrays : Layout → List ℕ
arrays z = range_with_len 0 (length z.capacities)

-- the arrays from this one up to that one are those of a capacity
abbrev pub IsGroup : List ℕ → ℕ → ℕ → ℕ → Type 0
IsGroup caps n from until = (until ≤ length caps) × ((a : ℕ) → a < length caps → slice_index caps a ≡ n → (from ≤ a) × (a < until)) × ((a : ℕ) → from ≤ a → a < until → slice_index caps a ≡ n)

-- the arrays of 4 words, of 8, and so on begin at these numbers, one capacity after another
abbrev pub AreGroups : List ℕ → List ℕ → Type 0
AreGroups caps firsts = (i : ℕ) → i < 9 → IsGroup caps (slice_index all_capacities i) (slice_index firsts i) (slice_index firsts (i + 1))

-- what an array is for
abbrev pub standing_of : KeeperView → ℕ → Standing
standing_of k a = standing_at k.standings a

-- the words of an array
abbrev pub array_words : Layout → KeeperView → ℕ → List ℕ
array_words z k a = take (capacity z a) (drop (base z a) k.words)

-- the header word of a class reference
abbrev pub header : KeeperView → ClassRef → ℕ
header k c = slice_index k.words (header_at c)

-- it is an array that is free
abbrev pub IsFreeArray : SettingView → KeeperView → ℕ → Type 0
IsFreeArray key k a = (a < length key.capacities) × (standing_of k a ≡ Free)

-- the lowest free array of a capacity
abbrev pub lowest_free : Layout → ℕ → KeeperView → Option ℕ
lowest_free z n k = find (λ a. is_free (standing_of k a) && (capacity z a == n)) (arrays z)

-- ---- a collection

-- one Look at each of the first n sender numbers; outs says of each sender number whether it was
-- seen out
abbrev pub looks : ℕ → List Bool → KeeperView → KeeperView
looks zero outs k = k
looks (suc n) outs k = looked n (awaits outs n) (looks n outs k)

-- the same for one array's standing
abbrev pub looked_by : ℕ → List Bool → Standing → Standing
looked_by zero outs s = s
looked_by (suc n) outs s = if awaits outs n then seen_out n (looked_by n outs s) else looked_by n outs s

-- an array of this standing is retired
abbrev pub is_retired : Standing → Bool
is_retired Free = false
is_retired (Live c) = false
is_retired (Retired c r awaited) = true

-- how many sender numbers a collection looks at: each, where an array is retired, else none
abbrev pub look_count : Layout → KeeperView → ℕ
look_count z k = if list_any is_retired k.standings then z.senders else 0

-- a Clear of a word that isn't 0, and no store where it is
abbrev pub cleared : ℕ → KeeperView → KeeperView
cleared i k = if slice_index k.words i == 0 then k else stored i 0 k

-- the same for each of the first n words of those that begin at b
abbrev pub clears : ℕ → ℕ → KeeperView → KeeperView
clears b zero k = k
clears b (suc n) k = cleared (b + n) (clears b n k)

-- a Clear of each word of an array that isn't 0
abbrev pub emptied : Layout → ℕ → KeeperView → KeeperView
emptied z a k = clears (base z a) (capacity z a) k

-- the same for each of these arrays
abbrev pub all_emptied : Layout → List ℕ → KeeperView → KeeperView
all_emptied z [] k = k
all_emptied z (a ∷ more) k = all_emptied z more (emptied z a k)

-- the arrays that are free in the second view and were not in the first
abbrev pub newly_free : Layout → KeeperView → KeeperView → List ℕ
newly_free z k j = filter (λ a. is_free (standing_of j a) && not (is_free (standing_of k a))) (arrays z)

-- the arrays that become free where the looks of a collection see these senders out
abbrev pub freed : Layout → List Bool → KeeperView → List ℕ
freed z outs k = newly_free z k (looks (look_count z k) outs k)

-- A collection whose looks see these senders out took the view k to k': one Look at each sender
-- number, where an array is retired, then a Clear of each word that isn't 0 of each array that
-- became free, of one array after another. The order of the arrays is any.
pub record CollectsBy (z : Layout) (outs : List Bool) (k k' : KeeperView) : Type 0 where
  pub order : List ℕ
  pub are_freed : IsPermutation order (freed z outs k)
  pub view : k' ≡ all_emptied z order (looks (look_count z k) outs k)

-- a collection took the view k to k', and n arrays became free
pub record Collects (z : Layout) (k k' : KeeperView) (n : ℕ) : Type 0 where
  pub outs : List Bool
  pub collects : CollectsBy z outs k k'
  pub count : n ≡ length (freed z outs k)

-- ---- a fill

-- a capacity that is noted as 0 was never noted, and is 4
abbrev pub or_least : ℕ → ℕ
or_least n = if n == 0 then 4 else n

-- the capacity that the next array of a class reference without one has
abbrev pub remembered_capacity : List ℕ → ClassRef → ℕ
remembered_capacity remembered c = or_least (slice_index remembered (slot_of c))

-- the capacity of the array of a header word, if it names one, is noted
abbrev pub remember : Layout → ClassRef → ℕ → List ℕ → List ℕ
remember z c zero remembered = remembered
remember z c (suc a) remembered = slice_set remembered (slot_of c) (capacity z a)

abbrev pub placement_by_plan : ℕ → ℕ → Plan → Placement
placement_by_plan a p PlanUse = Use a p
placement_by_plan a p (PlanTake n) = Take n

abbrev pub placement_in : ℕ → Found → Plan → Placement
placement_in a (hit i) plan = Present
placement_in a (empty p) plan = placement_by_plan a p plan
placement_in a wrapped plan = placement_by_plan a 0 plan

-- what an entry needs, if these are the words of the live array
abbrev pub placement_among : List ℕ → ℕ → ℕ → Placement
placement_among words a s = placement_in a (find_in words s) (plan_of (length words) (occupied_in words))

abbrev pub placement_by_header : Layout → List ℕ → KeeperView → ClassRef → ℕ → ℕ → Placement
placement_by_header z remembered k c s zero = Take (remembered_capacity remembered c)
placement_by_header z remembered k c s (suc a) = placement_in a (find_in (array_words z k a) s) (plan_of (capacity z a) (occupied_in (array_words z k a)))

-- what an entry needs: nothing if the selector is in the live array, otherwise its place there if
-- the array has room, otherwise an array
abbrev pub placement_of : Layout → List ℕ → KeeperView → ClassRef → ℕ → Placement
placement_of z remembered k c s = placement_by_header z remembered k c s (header k c)

-- facts of an entry that goes to the live array, and of one that needs an array
abbrev pub OnUse : Placement → (ℕ → ℕ → Type 0) → Type 0
OnUse Present P = Unit {0}
OnUse (Use a p) P = P a p
OnUse (Take n) P = Unit {0}

abbrev pub OnTake : Placement → (ℕ → Type 0) → Type 0
OnTake Present P = Unit {0}
OnTake (Use a p) P = Unit {0}
OnTake (Take n) P = P n

-- a probe of s in the array ends at the empty place p
abbrev pub EndsAt : Layout → KeeperView → ℕ → ℕ → ℕ → Type 0
EndsAt z k a s p = find_in (array_words z k a) s ≡ empty p

-- the array may have one more entry
abbrev pub TakesOneMore : Layout → KeeperView → ℕ → Type 0
TakesOneMore z k a = occupied_in (array_words z k a) + 1 ≤ fill_limit (capacity z a)

-- the entry's probe ends at an empty place of the live array, which has room
pub record CanUse (z : Layout) (k : KeeperView) (c : ClassRef) (s a p : ℕ) : Type 0 where
  pub live : header k c ≡ suc a
  pub found : EndsAt z k a s p
  pub room : TakesOneMore z k a

-- the same for an array by its words
abbrev pub CanUseAmong : List ℕ → ℕ → ℕ → ℕ → ℕ → Type 0
CanUseAmong words array s a p = (a ≡ array) × (find_in words s ≡ empty p) × (occupied_in words + 1 ≤ fill_limit (length words))

-- Fill, of a place of an array
abbrev pub filled : Layout → ℕ → ℕ → ℕ → KeeperView → KeeperView
filled z a p w k = stored (base z a + p) w k

-- Install, then a Fill at the selector's first place
abbrev pub grown : Layout → ClassRef → ℕ → ℕ → ℕ → KeeperView → KeeperView
grown z c s i a k = filled z a (probe_place s (capacity z a) 0) (word_of s i) (installed c a k)

-- An entry that needs an array of capacity n: the lowest that is free, at entry or after one
-- collection. Which one that is depends on what the looks saw, and not on the order of the clears.
abbrev pub Grows : Layout → ClassRef → ℕ → ℕ → ℕ → KeeperView → KeeperView → Filled → Type 0
Grows z c s i n k k' answer = MatchOption (lowest_free z n k)
    ((outs : List Bool) × (j : KeeperView) × CollectsBy z outs k j × MatchOption (lowest_free z n (looks (look_count z k) outs k))
    ((answer ≡ NoArray) × (k' ≡ j))
    (λ a. (answer ≡ Grown) × (k' ≡ grown z c s i a j)))
    (λ a. (answer ≡ Grown) × (k' ≡ grown z c s i a k))

abbrev pub FillsBy : Layout → ClassRef → ℕ → ℕ → KeeperView → KeeperView → Filled → Placement → Type 0
FillsBy z c s i k k' answer Present = (answer ≡ DidNothing) × (k' ≡ k)
FillsBy z c s i k k' answer (Use a p) = (answer ≡ Used) × (k' ≡ filled z a p (word_of s i) k)
FillsBy z c s i k k' answer (Take n) = Grows z c s i n k k' answer

-- a fill of the class reference c with the selector s and the implementation i took the view k to
-- k', while these capacities were remembered
abbrev pub Fills : Layout → List ℕ → ClassRef → ℕ → ℕ → KeeperView → KeeperView → Filled → Type 0
Fills z remembered c s i k k' answer = FillsBy z c s i k k' answer (placement_of z remembered k c s)

-- ---- when each answer comes

-- the selector is in the live array of the class reference
abbrev pub IsPresent : Layout → KeeperView → ClassRef → ℕ → Type 0
IsPresent z k c s = (a : ℕ) × (header k c ≡ suc a) × ((i : ℕ) × (find_in (array_words z k a) s ≡ hit i))

-- the live array of the class reference takes one more entry
abbrev pub HasRoom : Layout → KeeperView → ClassRef → Type 0
HasRoom z k c = (a : ℕ) × (header k c ≡ suc a) × (plan_of (capacity z a) (occupied_in (array_words z k a)) ≡ PlanUse)

-- no array of the needed capacity was free at entry or after one collection, which is all that
-- changed the view
abbrev pub NoneIsFree : Layout → KeeperView → KeeperView → Type 0
NoneIsFree z k k' = (n : ℕ) × (lowest_free z n k ≡ None) × (outs : List Bool) × CollectsBy z outs k k' × (lowest_free z n k' ≡ None)

-- when each result of a fill comes: nothing is done if the selector is there, the live array is
-- used if it has room, and only otherwise is an array needed
abbrev pub FillLaw : Type 0
FillLaw = (z : Layout) (remembered : List ℕ) (c : ClassRef) (s i : ℕ) (k k' : KeeperView) (answer : Filled) → Fills z remembered c s i k k' answer
    → ((answer ≡ DidNothing) ↔ IsPresent z k c s) × ((answer ≡ Used) ↔ ((IsPresent z k c s → ⊥) × HasRoom z k c)) × ((answer ≡ DidNothing) → k' ≡ k) × ((answer ≡ NoArray) → NoneIsFree z k k')

-- A fill changes only caches. It doesn't change the history, which sender numbers are given out,
-- since when they are, or where the turn is.
abbrev pub FillKeeps : Type 0
FillKeeps = (z : Layout) (remembered : List ℕ) (c : ClassRef) (s i : ℕ) (k k' : KeeperView) (answer : Filled) → Fills z remembered c s i k k' answer
    → (k'.history ≡ k.history) × (k'.given ≡ k.given) × (k'.turn ≡ k.turn) × (k'.since ≡ k.since)

-- ---- between calls

-- what holds for the keeper's view between its calls, with the capacities that are remembered and
-- the number of entries of each array
pub record InOrder (look : History → ClassRef → ℕ → ℕ) (key : SettingView) (k : KeeperView) (remembered occupied : List ℕ) : Type 0 where
  pub tidy : TidyBy look key k
  pub cleared : (a p : ℕ) → standing_of k a ≡ Free → p < capacity (layout_of key) a → slice_index k.words (base (layout_of key) a + p) ≡ 0
  pub counted : (a : ℕ) → a < length key.capacities → slice_index occupied a ≡ occupied_in (array_words (layout_of key) k a)
  pub counts : length occupied ≡ length key.capacities
  pub within : (c : ClassRef) (a : ℕ) → standing_of k a ≡ Live c → slice_index occupied a ≤ fill_limit (capacity (layout_of key) a)
  pub capacities : (i : ℕ) → IsCapacity (or_least (slice_index remembered i))
  pub classes : length remembered ≡ 2 * class_total key.origin
