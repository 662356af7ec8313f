-- What a host's runtime opens as.
use Rattle.std.specs.Prelude.{◌≡◌, ◌≤◌, false, replicate}
use Rattle.msg_tables.specs.History.{empty}
use Rattle.msg_cache.specs.Config.{setting_of}
use Rattle.msg_host.specs.Config.{arena_config, host_origin}
use Rattle.msg_runtime.specs.View.{RuntimeView}
use Rattle.msg_runtime.specs.declared.runtime.TheConstants.{OPENING_ENTRIES}
use Rattle.msg_host.specs.declared.config.HostConfig.{HostConfig}

-- The runtime has the history without changes of the config's class numbers, and an arena of its
-- senders and arrays, none of which is out, and room for what an exchange notes. No sender has
-- rested.
pub record OpensAs (config : HostConfig) (v : RuntimeView) : Type 0 where
  pub history : v.keeper.history ≡ empty (host_origin config)
  pub given : v.keeper.given ≡ replicate v.arena.key.senders false
  pub rested : v.rested ≡ replicate v.arena.key.senders 0
  pub arena : v.arena.key ≡ setting_of (host_origin config) (arena_config config)
  pub entries : OPENING_ENTRIES ≤ v.written.room
