-- Tables that note what is looked up in them.
use Rattle.std.specs.Prelude.{◌≡◌, Bool, true, List, [], ◌∷◌, ◌++◌}
use Rattle.msg_tables.specs.History.{History, lookup, log}
use Rattle.msg_tables.specs.Stands.{StandsAt}
use Rattle.msg_tables.specs.View.{TablesView}
use Rattle.msg_eval.specs.declared.reply.Reply.{Reply}
use Rattle.msg_eval.specs.Finder.{Steps}
use Rattle.msg_eval.specs.Meaning.{Meaning}
use Rattle.msg_eval.specs.Points.{plain_reply}
use Rattle.msg_reasons.specs.Lookups.{Looked, looked_at, lookups_of}

-- the tables, the lookups of the last send in them, and whether there was memory for each
pub record NotingView : Type 0 where
  pub tables : TablesView
  pub lookups : List Looked
  pub is_whole : Bool

-- where tables are, and what was looked up there
pub record Noted : Type 0 where
  pub history : History
  pub lookups : List Looked

-- the tables are at the history, and each of these lookups was noted if there was memory
abbrev pub StandsNoted : NotingView → Noted → Type 0
StandsNoted n p = StandsAt n.tables (log p.history) × (n.is_whole ≡ true → n.lookups ≡ p.lookups)

-- a lookup at the history is one more
abbrev pub NotesLookup : Steps Noted
NotesLookup p c s i q =
    (i ≡ lookup p.history c s) × (q ≡ record { history = p.history; lookups = p.lookups ++ looked_at p.history c s ∷ [] })

-- wherever the tables are, what was noted are the send's lookups there, and this is its reply
abbrev pub IsExplained : NotingView → Meaning → Reply → Type 0
IsExplained n send reply =
    (h : History) → StandsAt n.tables (log h) → (n.lookups ≡ lookups_of h send) × (reply ≡ plain_reply h send)
