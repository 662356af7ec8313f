-- Tables that follow the course of a run beside changes.
use Rattle.std.specs.Prelude.{◌≡◌, ◌⊎◌, ◌++◌, ◌∷◌, [], ℕ, true, false, List, Option, Some, None, length, map}
use Rattle.msg_image.specs.Items.{ItemParts}
use Rattle.msg_image.specs.Plain.{item_parts}
use Rattle.msg_tables.specs.History.{History, log, lookup}
use Rattle.msg_tables.specs.Stands.{StandsAt}
use Rattle.msg_eval.specs.Finder.{Steps}
use Rattle.msg_eval.specs.Meaning.{Meaning}
use Rattle.msg_eval.specs.declared.reply.Reply.{Reply}
use Rattle.msg_answers.specs.Serial.{history_after}
use Rattle.msg_reasons.specs.Beside as beside
use Rattle.msg_reasons.specs.Beside.{Course, after_lookup, begun, moved, point_of, sent}
use Rattle.msg_reasons.specs.Looked.{looked}
use Rattle.msg_reasons.specs.declared.moving.Moving.{Moving}
use Rattle.msg_reasons.specs.declared.moving.Seen.{Seen}

-- a lookup that was noted, by its numbers
abbrev pub seen_of : Seen → beside.Seen
seen_of k = record { looked = looked k.lookup; changes = k.changes }

-- the same for each of several
abbrev pub all_seen : List Seen → List beside.Seen
all_seen ks = map seen_of ks

-- the tables are at the history of the course, and the rest is its rest
pub record IsOn (m : Moving) (k : Course) : Type 0 where
  pub stands : StandsAt m.tables (log k.history)
  pub made : m.made ≡ length k.history.changes
  pub left : map item_parts m.left.now ≡ k.left
  pub versions : m.versions.now ≡ k.versions
  pub seen : all_seen m.seen.items ≡ k.seen

-- it is on this course, or on none where memory was lacking
abbrev pub IsOnOrLost : Moving → Option Course → Type 0
IsOnOrLost m None = m.is_whole ≡ false
IsOnOrLost m (Some k) = (m.is_whole ≡ true) × IsOn m k

-- a lookup is one more on the course, or memory was lacking
abbrev pub FollowsCourse : Steps (Option Course)
FollowsCourse None c s i q = q ≡ None
FollowsCourse (Some k) c s i q = (q ≡ None) ⊎ ((q ≡ Some (after_lookup k c s)) × (i ≡ lookup (moved k).history c s))

-- the tables are at a history, and the count says how many lists it has
abbrev pub IsAt : Moving → History → Type 0
IsAt m h = StandsAt m.tables (log h) × (m.made ≡ length h.changes)

-- wherever they were, they are after the changes of an item
abbrev pub MakesItem : Moving → Moving → ItemParts → Type 0
MakesItem old new item = (h : History) → IsAt old h → IsAt new (history_after h item)

-- they are at the first point of a version or a later one, and what is left is left there
abbrev pub ComesTo : ℕ → Moving → Moving → History → Type 0
ComesTo version old new h =
    (let p = point_of version h (map item_parts old.left.now) in IsAt new p.history × (map item_parts new.left.now ≡ p.left))

-- wherever they were
abbrev pub MovesTo : ℕ → Moving → Moving → Type 0
MovesTo version old new = (h : History) → IsAt old h → ComesTo version old new h

-- nothing but where the tables are and what is left was changed
pub record KeepsNotes (old new : Moving) : Type 0 where
  pub seen : new.seen.items ≡ old.seen.items
  pub whole : new.is_whole ≡ old.is_whole

-- a lookup was noted, and nothing else was changed
pub record Notes (k : Seen) (old new : Moving) : Type 0 where
  pub tables : new.tables ≡ old.tables
  pub made : new.made ≡ old.made
  pub left : new.left.now ≡ old.left.now
  pub versions : new.versions.now ≡ old.versions.now
  pub seen : new.seen.items ≡ old.seen.items ++ k ∷ []

-- on whatever course, it went on to where the next lookup is answered
abbrev pub MovesOn : Moving → Moving → Type 0
MovesOn old new = (k : Course) → IsOn old k → IsOn new (moved k)

-- on whatever course, a send went along it, and this is its reply
abbrev pub Sends : Meaning → Moving → Moving → Reply → Type 0
Sends send old new reply = (k : Course) → IsOn old k → (let x = sent (begun k) send in IsOn new x.course × (reply ≡ x.reply))
