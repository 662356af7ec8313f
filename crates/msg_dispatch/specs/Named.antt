-- Which arena it is.
use Rattle.std.specs.Prelude.{[], None}
use Rattle.msg_cache.specs.Views.{ArenaView}

-- what a name is where none was picked
abbrev pub no_arena : ArenaView
no_arena = record {
  table = record { words = 0; slots = 0; views_name = 0; atom = 0; block = 0; offset = 0; slot_names = [] };
  key = record {
    origin = record { superclasses = []; made = 0; lists = []; counts = None; limits = record { rows = 0; changes = 0; senders = 0; words = 0 } };
    senders = 0;
    capacities = [];
  };
}
