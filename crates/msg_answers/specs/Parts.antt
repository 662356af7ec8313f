-- The contracts' view of the items that are answered together, and of a worker's share of them.
use Rattle.std.specs.Prelude.{◌≡◌, ℕ, List, ◌++◌, map, All, Vec}
use Rattle.std.specs.Global.{Global}
use Rattle.msg_image.specs.Items.{ItemParts}
use Rattle.msg_image.specs.Plain.{item_parts}
use Rattle.msg_image.specs.Sound.{IsSoundItem}
use Rattle.msg_tables.specs.History.{History}
use Rattle.msg_eval.specs.declared.reply.Reply.{Reply}
use Rattle.msg_eval.specs.Meaning.{Meaning}
use Rattle.msg_answers.specs.Serial.{serial_from}
use Rattle.msg_answers.specs.Serving.{AreAnswered, HasChanges, HasPieces, IsGathered, Served, history_of, sends_of, share_of, worker_of}
use Rattle.msg_answers.specs.Text.{text_of}
use Rattle.msg_answers.specs.Written.{AreWritten}
use Rattle.msg_answers.specs.declared.outcome.Outcome.{Outcome}
use Rattle.msg_answers.specs.declared.part.Part.{Part}
use Rattle.msg_answers.specs.declared.part.Share.{Share}

-- ---- a part

-- its items, as definitions see them
abbrev pub items_of : Part → List ItemParts
items_of p = map item_parts p.items.now

-- its sends
abbrev pub part_sends : Part → List Meaning
part_sends p = sends_of p.image.now (map item_parts p.items.now)

-- the worker of a place
abbrev pub part_worker : Part → ℕ → ℕ
part_worker p = worker_of p.deal.cut p.deal.workers

abbrev pub IsSoundPart : Part → Type 0
IsSoundPart p = All (IsSoundItem p.image.now) (map item_parts p.items.now)

-- the history after its changes
abbrev pub history_past : Part → History → History
history_past p h = history_of h (map item_parts p.items.now)

-- the lines of one thread were written after what was there
abbrev pub HasLines : Part → History → List ℕ → List ℕ → Type 0
HasLines p h old new = new ≡ old ++ text_of p.image.now (serial_from p.image.now h (map item_parts p.items.now))

-- lines of its sends were written, each answered at points that rise from one history to another
abbrev pub HasWritten : Part → History → History → List ℕ → List ℕ → Type 0
HasWritten p h last old new = AreWritten p.image.now h (sends_of p.image.now (map item_parts p.items.now)) last old new

-- it was answered by its workers beside its changes
abbrev pub IsAnsweredBeside : Part → History → List ℕ → List ℕ → Type 0
IsAnsweredBeside p h old new = AreAnswered p.image.now p.deal.workers p.deal.cut h (map item_parts p.items.now) old new

-- it had this number of pieces, and this number of changes
abbrev pub PartPieces : Part → ℕ → Type 0
PartPieces p pieces = HasPieces p.deal.cut (map item_parts p.items.now) pieces

abbrev pub PartChanges : Part → ℕ → Type 0
PartChanges p changes = HasChanges (map item_parts p.items.now) changes

-- ---- a share

-- its sends end with these replies at points that rise from one history on, and that another begins
-- with
abbrev pub Serves : Share → History → List Reply → History → Type 0
Serves s h rs last = Served h (share_of (worker_of s.part.deal.cut s.part.deal.workers) s.worker 0 (sends_of s.part.image.now (map item_parts s.part.items.now))) rs last

-- ---- lists of replies

-- each worker's replies
abbrev pub replies_of : List (Vec Reply Global) → List (List Reply)
replies_of shares = map (λ (rs : Vec Reply Global). rs.items) shares

-- a line was written for each of a part's items, of these replies and outcomes
abbrev pub HasGathered : Part → List (List Reply) → List Outcome → List ℕ → List ℕ → Type 0
HasGathered p lists outcomes old new = IsGathered p.image.now (worker_of p.deal.cut p.deal.workers) p.deal.workers (map item_parts p.items.now) lists outcomes old new
