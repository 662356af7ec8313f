-- What a worker's lookups are asked of.
use Rattle.msg_eval.specs.Finder.{Sizes}
use Rattle.msg_tables.specs.Origin.{OriginView, class_total, last_imp}

-- how many classes and implementations there are at a history of this origin
abbrev pub sizes_at : OriginView → Sizes
sizes_at o = record { classes = class_total o; imps = last_imp o.counts }
