-- The fields of `MethodRows`.
use Rattle.std.specs.Prelude.{[]}
use Rattle.std.specs.Option.{option_map_or}
use Rattle.msg_rows.specs.RowList.{RowList}
use Rattle.msg_rows.specs.declared.rows.MethodRows.TheInside.{Inside}

-- nothing, if there never was a row
abbrev pub no_rows : RowList
no_rows = record { rows = []; room = 0 }

-- the contracts' view of the rows of a class reference
abbrev pub kept_rows : Inside → RowList
kept_rows r = option_map_or (λ b. b.value) r.indexed no_rows
