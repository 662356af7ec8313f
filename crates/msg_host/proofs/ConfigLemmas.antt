-- That what a host's history begins with is sound, and that caches for it are never too large.
use Rattle.std.proofs.Common.{◌≡◌, ◌≤◌, ◌*◌, ◌==◌, ◌||◌, ℕ, List, [], ◌∷◌, Bool, true, false, Some, None, if◌then◌else◌, refl, arith}
use Rattle.std.specs.Prelude.{nat_lt}
use Rattle.std.proofs.lemmas.Bool.{or_parts}
use Rattle.std.proofs.lemmas.Nat.{mul-le}
use Rattle.msg_order.specs.Superclasses.{has_cycle}
use Rattle.msg_buckets.specs.Capacity.{capacities}
use Rattle.msg_tables.specs.Origin.{IsSound}
use Rattle.msg_cache.specs.Config.{refusal_of, weigh, words_of}
use Rattle.msg_cache.specs.Layout.{total}
use Rattle.msg_cache.specs.declared.config.ArenaFault.{ArenaFault}
use Rattle.msg_host.specs.Config.{are_all_0, are_beyond, arena_config, default_arrays, host_origin, is_beyond, or_default, sender_numbers}
use Rattle.msg_host.specs.declared.config.HostConfig.{HostConfig}
use Rattle.msg_host.specs.declared.config.TheConstants.{DEFAULT_CLASSES, DEFAULT_SENDERS, HOST_WORDS, MOST_ARRAYS, MOST_CLASSES, MOST_SENDERS}

no-cycle : has_cycle [] ≡ false
unfolding has_cycle
no-cycle = refl

few-of : (d n most : ℕ) → d ≤ most → n ≤ most → or_default d n ≤ most
few-of d n most default few = grind arith

pub host_origin_sound : (config : HostConfig) → config.classes ≤ MOST_CLASSES → IsSound (host_origin config)
host_origin_sound config few = record {
  classes = record { above = λ k d e. grind arith };
  chains = no-cycle;
  lists = λ k d inside. absurd (omega (arith, inside));
  few_classes = let some = few-of DEFAULT_CLASSES config.classes MOST_CLASSES (omega arith) few in omega arith;
  few_rows = omega arith;
  few_changes = omega arith;
  few_senders = omega arith;
  few_words = omega arith;
}

-- ---- the number of words

not-beyond : (n most : ℕ) → n ≤ most → nat_lt most n ≡ false
not-beyond n most few = grind arith

within : (n most : ℕ) → nat_lt most n ≡ false → n ≤ most
within n most e = grind arith

-- a config that isn't refused asks for no more classes than there may be
pub few-classes : (config : HostConfig) → is_beyond config ≡ false → config.classes ≤ MOST_CLASSES
few-classes config e = within config.classes MOST_CLASSES (or_parts (nat_lt MOST_CLASSES config.classes) (nat_lt MOST_SENDERS config.senders) (or_parts (nat_lt MOST_CLASSES config.classes || nat_lt MOST_SENDERS config.senders) (are_beyond config.arrays) e).0).0

weigh-few : (ns cs : List ℕ) → are_beyond ns ≡ false → weigh ns cs ≤ MOST_ARRAYS * total cs
weigh-few [] cs e = omega arith
weigh-few (n ∷ ns) [] e = omega arith
weigh-few (n ∷ ns) (c ∷ cs) e =
    let parts = or_parts (nat_lt MOST_ARRAYS n) (are_beyond ns) e in
    let first : n * c ≤ MOST_ARRAYS * c = mul-le n c MOST_ARRAYS c (within n MOST_ARRAYS parts.0) (omega arith) in
    omega (arith, first, weigh-few ns cs parts.1)

few-words : (arrays : List ℕ) → are_beyond arrays ≡ false → weigh (if are_all_0 arrays then default_arrays else arrays) capacities ≤ 133953540
few-words arrays e = test (are_all_0 arrays)
  where
    test : (b : Bool) → weigh (if b then default_arrays else arrays) capacities ≤ 133953540
    test true = omega arith
    test false = weigh-few arrays capacities e

nothing-holds : (a b c : Bool) (f g h : ArenaFault) → a ≡ false → b ≡ false → c ≡ false → (if a then Some f else if b then Some g else if c then Some h else None) ≡ None
nothing-holds true b c f g h ea eb ec = cc
nothing-holds false true c f g h ea eb ec = cc
nothing-holds false false true f g h ea eb ec = cc
nothing-holds false false false f g h ea eb ec = refl

some-of : (d n : ℕ) → 1 ≤ d → (or_default d n == 0) ≡ false
some-of d n some = grind arith

pub host_arena_fits : (config : HostConfig) → is_beyond config ≡ false → refusal_of (host_origin config) (arena_config config) ≡ None
host_arena_fits config e =
    let parts = or_parts (nat_lt MOST_CLASSES config.classes || nat_lt MOST_SENDERS config.senders) (are_beyond config.arrays) e in
    let numbers = or_parts (nat_lt MOST_CLASSES config.classes) (nat_lt MOST_SENDERS config.senders) parts.0 in
    let classes = few-of DEFAULT_CLASSES config.classes MOST_CLASSES (omega arith) (within config.classes MOST_CLASSES numbers.0) in
    let senders = few-of DEFAULT_SENDERS config.senders MOST_SENDERS (omega arith) (within config.senders MOST_SENDERS numbers.1) in
    let words = few-words config.arrays parts.1 in
    nothing-holds _ _ _ _ _ _ (some-of DEFAULT_SENDERS config.senders (omega arith)) (not-beyond (sender_numbers config) MOST_SENDERS senders)
    (not-beyond (words_of (host_origin config) (arena_config config)) HOST_WORDS (omega (arith, classes, senders, words)))
