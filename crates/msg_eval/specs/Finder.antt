-- The results of a finder.
use Rattle.std.specs.Prelude.{◌≡◌, ℕ, length}
use Rattle.msg_names.specs.declared.value.ClassRef.{ClassRef}
use Rattle.msg_image.specs.Parts.{ImageParts, class_total}
use Rattle.msg_tables.specs.History.{History, BeginsWith, lookup}
use Rattle.msg_tables.specs.Origin.{last_imp}
use Rattle.msg_tables.specs.View.{TablesView}

-- how many classes and implementations there are
pub record Sizes : Type 0 where
  pub classes : ℕ
  pub imps : ℕ

-- the sizes of an image
abbrev pub sizes_of : ImageParts → Sizes
sizes_of image = record { classes = class_total image; imps = length image.imps }

-- the sizes of tables
abbrev pub table_sizes : TablesView → Sizes
table_sizes t = record { classes = length t.supers; imps = last_imp t.counts }

-- Which lookups are steps: from one state a lookup of a selector in a class returns the number of
-- an implementation, and leaves the finder in another state.
abbrev pub Steps : Type 0 → Type 1
Steps P = P → ClassRef → ℕ → ℕ → P → Type 0

-- it returns what is found at a history that begins with h, and leaves the finder there
abbrev pub FindsAt : Steps History
FindsAt h c s i now = BeginsWith now h × (i ≡ lookup now c s)

-- a lookup that returned this number was a step from p to a state that the finder is in
pub record FindsAfter {P : Type 0} (step : Steps P) (is_in : P → Type 0) (p : P) (c : ClassRef) (s i : ℕ) : Type 0 where
  pub state : P
  pub there : is_in state
  pub found : step p c s i state
