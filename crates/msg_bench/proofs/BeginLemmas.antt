-- An arena that was just opened, beside tables that were.
use Rattle.std.proofs.Common.{◌≡◌, length, ap, sym, subst, ◌∙◌}
use Rattle.msg_tables.specs.History.{empty, log}
use Rattle.msg_tables.specs.Origin.{OriginView, class_total}
use Rattle.msg_tables.specs.Stands.{StandsAt}
use Rattle.msg_tables.specs.View.{TablesView}
use Rattle.msg_cache.specs.Config.{setting_of}
use Rattle.msg_cache.specs.Layout.{SettingView}
use Rattle.msg_cache.specs.Ours.{IsOf}
use Rattle.msg_cache.specs.Views.{ArenaView}
use Rattle.msg_cache.specs.declared.config.Config.{Config}
use Rattle.msg_cache.specs.declared.keeper.Keeper.{Keeper}
use Rattle.msg_bench.specs.Together.{Begin}

pub begins : (origin : OriginView) (config : Config) (a : ArenaView) (k : Keeper) (t : TablesView) → a.key ≡ setting_of origin config → IsOf a k → StandsAt t (log (empty origin)) → length t.supers ≡ class_total origin → class_total origin ≡ 32 → Begin a k t
begins origin config a k t key of stands supers all =
    let same : origin ≡ a.key.origin = sym (ap (λ (s : SettingView). s.origin) key) in
    record { keeper = of; tables = subst (λ o. StandsAt t (log (empty o))) same stands; supers = supers ∙ all; all = subst (λ o. class_total o ≡ 32) same all }
