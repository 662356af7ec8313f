-- The number of buckets of an array, and the number of entries that it may have.
use Rattle.std.specs.Prelude.{ℕ, ◌+◌, ◌*◌, ◌/◌, List, [], ◌∷◌, Bool, ◌==◌, nat_le, min, if◌then◌else◌, IsTrue}
use Rattle.std.specs.List.{list_any}
use Rattle.msg_buckets.specs.declared.capacity.TheConstants.{MAX_CAPACITY, MIN_CAPACITY}
use Rattle.msg_buckets.specs.declared.capacity.Plan.{Plan}
use Rattle.msg_buckets.specs.declared.capacity.Plan.TheVariants.{Use, Take}

-- the numbers of buckets that an array may have: the powers of two from the least to the greatest
abbrev pub capacities : List ℕ
capacities = MIN_CAPACITY ∷ 8 ∷ 16 ∷ 32 ∷ 64 ∷ 128 ∷ 256 ∷ 512 ∷ MAX_CAPACITY ∷ []

-- an array may have this many buckets
abbrev pub is_capacity : ℕ → Bool
is_capacity n = list_any (λ c. c == n) capacities

-- the same as a type
abbrev pub IsCapacity : ℕ → Type 0
IsCapacity n = IsTrue (is_capacity n)

-- the number of entries that an array may have: three for each four buckets
abbrev pub fill_limit : ℕ → ℕ
fill_limit capacity = capacity / 4 * 3

-- twice the capacity, up to the largest; the smallest if there is no array
abbrev pub next_capacity : ℕ → ℕ
next_capacity capacity = if capacity == 0 then MIN_CAPACITY else min (capacity * 2) MAX_CAPACITY

-- one more entry goes into the array if that keeps within its limit, and else into an empty array
-- of the next capacity
abbrev pub plan_of : ℕ → ℕ → Plan
plan_of capacity occupied = if nat_le (occupied + 1) (fill_limit capacity) then Use else Take (next_capacity capacity)

-- a fact about the capacity of the array to take, if one is to be taken
abbrev pub IfTake : Plan → (ℕ → Type 0) → Type 0
IfTake Use P = Unit {0}
IfTake (Take capacity) P = P capacity
