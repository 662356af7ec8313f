-- The places of a table's words.
use Rattle.std.specs.Prelude.{◌≡◌, ℕ, ◌+◌, ◌*◌, ◌<◌, List, [], ◌∷◌, take}
use Rattle.msg_names.specs.declared.value.ClassRef.{ClassRef}
use Rattle.msg_tables.specs.Origin.{OriginView, class_total}
use Rattle.msg_names.specs.ClassRef.{slot_of}
use Rattle.msg_model.specs.State.{Layout, capacity}

-- what a table is made for: an origin, this number of senders, and arrays of these capacities
pub record SettingView : Type 0 where
  pub origin : OriginView
  pub senders : ℕ
  pub capacities : List ℕ

-- the setting of this number of senders, and arrays of these capacities
abbrev pub setting_for : OriginView → ℕ → List ℕ → SettingView
setting_for origin senders capacities = record { origin = origin; senders = senders; capacities = capacities }

abbrev pub layout_of : SettingView → Layout
layout_of key = record { classes = class_total key.origin; senders = key.senders; capacities = key.capacities }

-- numbers, added up
abbrev pub total : List ℕ → ℕ
total [] = 0
total (x ∷ xs) = x + total xs

-- Word 0 counts the changes. Then comes the header word of each class reference, then the words of
-- one array after another.
abbrev pub header_at : ClassRef → ℕ
header_at c = 1 + slot_of c

-- where the words of an array begin
abbrev pub base : Layout → ℕ → ℕ
base z a = 1 + 2 * z.classes + total (take a z.capacities)

-- where they end
abbrev pub array_end : Layout → ℕ
array_end z = 1 + 2 * z.classes + total z.capacities

-- The stamps, one for each class reference, are after 8 words that are never used, so that none
-- shares a line of 64 bytes with an array.
abbrev pub stamps : Layout → ℕ
stamps z = array_end z + 8

-- where the stamp of a class reference is
abbrev pub stamp_at : Layout → ClassRef → ℕ
stamp_at z c = stamps z + slot_of c

-- where those end, and the senders' probe words begin
abbrev pub probes : Layout → ℕ
probes z = stamps z + 2 * z.classes

-- Probe words are 8 words apart, and 8 after the last stamp, so that none shares a line of 64 bytes
-- with another or with a stamp. The words between them are never used.
abbrev pub probe_at : Layout → ℕ → ℕ
probe_at z n = probes z + 8 * n + 7

abbrev pub word_count : Layout → ℕ
word_count z = probes z + 8 * z.senders

-- an array's words begin at b, and p is a place in it
abbrev pub IsPlace : SettingView → ℕ → ℕ → ℕ → Type 0
IsPlace key a b p = (b ≡ base (layout_of key) a) × (p < capacity (layout_of key) a)

-- there may be a sender of this number, and i is its probe word
abbrev pub IsProbeWord : SettingView → ℕ → ℕ → Type 0
IsProbeWord key n i = (i ≡ probe_at (layout_of key) n) × (n < key.senders)
