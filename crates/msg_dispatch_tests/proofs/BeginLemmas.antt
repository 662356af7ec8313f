-- An arena that was just opened, beside tables that were.
use Rattle.std.proofs.Common.{◌≡◌, length, sym, subst, ◌∙◌}
use Rattle.msg_tables.specs.History.{empty, log}
use Rattle.msg_tables.specs.Origin.{OriginView, class_total}
use Rattle.msg_tables.specs.Stands.{StandsAt}
use Rattle.msg_tables.specs.View.{TablesView}
use Rattle.msg_cache.specs.Views.{ArenaView}
use Rattle.msg_cache.specs.declared.keeper.Keeper.{Keeper}
use Rattle.msg_runtime.specs.Parts.{IsKeeperOf}
use Rattle.msg_dispatch_tests.specs.Together.{Begin}

pub begins : (origin : OriginView) (a : ArenaView) (k : Keeper) (t : TablesView) → a.key.origin ≡ origin → IsKeeperOf a k → StandsAt t (log (empty origin)) → length t.supers ≡ class_total origin → class_total origin ≡ 2 → Begin a k t
begins origin a k t key of stands supers all =
    let same : origin ≡ a.key.origin = sym key in
    record { keeper = of; tables = subst (λ o. StandsAt t (log (empty o))) same stands; supers = supers ∙ all; two = subst (λ o. class_total o ≡ 2) same all }
