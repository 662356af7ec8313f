use Rattle.std.proofs.Common.{◌≡◌, ◌++◌, length, map, vec_len}
use Rattle.std.specs.Prelude.{All}
use Rattle.msg_image.specs.Opened.{origin_of}
use Rattle.msg_image.specs.Plain.{item_parts}
use Rattle.msg_image.specs.Sound.{IsSoundItem}
use Rattle.msg_answers.specs.Serial.{serial_from}
use Rattle.msg_answers.specs.Text.{text_of}
use Rattle.msg_runner.proofs.context.Run.write_parts.Given as goal

abbrev pub invariant-loop-rest : goal.invariant-loop-rest
invariant-loop-rest g l = record {
  same : l.rest.image.now ≡ l.fn.all.image.now;
  origin : l.crew.changer.origin ≡ origin_of l.fn.all.image.now;
  sound : All (IsSoundItem l.fn.all.image.now) (map item_parts l.rest.items.now);
  workers : l.rest.deal.workers ≡ l.fn.all.deal.workers;
  enough : vec_len l.crew.senders ≡ vec_len l.fn.crew.senders;
  text : l.text.items ++ text_of l.fn.all.image.now (serial_from l.fn.all.image.now l.crew.changer (map item_parts l.rest.items.now)) ≡ text_of l.fn.all.image.now (serial_from l.fn.all.image.now l.fn.crew.changer (map item_parts l.fn.all.items.now));
}

abbrev pub decreases-loop-rest : goal.decreases-loop-rest
decreases-loop-rest g l = length l.rest.items.now
