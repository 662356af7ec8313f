-- Whose caches are flushed.
use Rattle.std.specs.Prelude.{◌≡◌, ◌<◌, ℕ, Bool, true, List, if◌then◌else◌}
use Rattle.msg_names.specs.declared.value.ClassRef.{ClassRef}
use Rattle.msg_tables.specs.Chain.{is_member}
use Rattle.msg_tables.specs.Log.{Log, chain_at}
use Rattle.msg_tables.specs.Origin.{OriginView, class_total}
use Rattle.msg_tables.specs.Preorder.{is_in}
use Rattle.msg_tables.specs.Stands.{StandsAt}
use Rattle.msg_tables.specs.View.{TablesView}
use Rattle.msg_cache.specs.Ours.{IsCold}
use Rattle.msg_cache.specs.Views.{ArenaView}
use Rattle.msg_cache.specs.declared.keeper.Keeper.{Keeper}

-- each class reference of which this is true at the tables' log is cold: it has no live array, and
-- is closed
abbrev pub AreFlushed : ArenaView → TablesView → Keeper → (Log → ClassRef → Bool) → Type 0
AreFlushed a t k is_meant = (h : Log) → StandsAt t h → (c : ClassRef) → is_meant h c ≡ true → IsCold a k c

-- a class reference and all below it are cold
abbrev pub IsFlushedBelow : ArenaView → TablesView → Keeper → ClassRef → Type 0
IsFlushedBelow a t k place = AreFlushed a t k (λ h c. is_member place (chain_at h c))

-- the same for those of the first classes
abbrev pub FirstAreFlushed : ℕ → ArenaView → TablesView → Keeper → (Log → ClassRef → Bool) → Type 0
FirstAreFlushed classes a t k is_meant = (h : Log) → StandsAt t h → (c : ClassRef) → c.class < classes → is_meant h c ≡ true → IsCold a k c

-- a class is cold if own is true, and its metaclass is if meta is
abbrev pub ClassIsFlushed : ArenaView → Keeper → ℕ → Bool → Bool → Type 0
ClassIsFlushed a k class own meta = (c : ClassRef) → c.class ≡ class → (if c.meta then meta else own) ≡ true → IsCold a k c

-- who was cold is
abbrev pub StayFlushed : ArenaView → Keeper → Keeper → Type 0
StayFlushed a k k' = (c : ClassRef) → IsCold a k c → IsCold a k' c

-- they are numbers of classes
abbrev pub AreClasses : List ℕ → OriginView → Type 0
AreClasses numbers origin = (n : ℕ) → is_in n numbers ≡ true → n < class_total origin
