use Rattle.std.proofs.Common.{◌≡◌, ℕ, length, map}
use Rattle.msg_image.specs.Plain.{item_parts}
use Rattle.msg_tables.specs.History.{History}
use Rattle.msg_reasons.specs.Beside.{point_of}
use Rattle.msg_reasons.specs.Changing.{KeepsSizes}
use Rattle.msg_reasons.specs.Moving.{IsAt, KeepsNotes}
use Rattle.msg_reasons.specs.declared.moving.Moving.{Moving}
use Rattle.msg_reasons.proofs.moving.Moving.move_to.Given as goal

-- the tables are at a history from which the same point is reached
abbrev pub IsOnTheWay : ℕ → Moving → Moving → Type 0
IsOnTheWay version old now =
    (h : History) → IsAt old h → (g : History) × IsAt now g × (point_of version g (map item_parts now.left.now) ≡ point_of version h (map item_parts old.left.now))

abbrev pub invariant-loop-self : goal.invariant-loop-self
invariant-loop-self l = record {
  way : IsOnTheWay l.version l.initial.self l.self;
  sizes : KeepsSizes l.initial.self.tables l.self.tables;
  versions : l.self.versions.now ≡ l.initial.self.versions.now;
  notes : KeepsNotes l.initial.self l.self;
}

abbrev pub decreases-loop-self : goal.decreases-loop-self
decreases-loop-self l = length l.self.left.now
