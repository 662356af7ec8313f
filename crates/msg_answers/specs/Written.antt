-- Sends that one sender answered, a line after another.
use Rattle.std.specs.Prelude.{◌≡◌, ℕ, List, ◌++◌, map}
use Rattle.msg_image.specs.Parts.{ImageParts}
use Rattle.msg_tables.specs.History.{History}
use Rattle.msg_eval.specs.declared.reply.Reply.{Reply}
use Rattle.msg_eval.specs.Meaning.{Meaning}
use Rattle.msg_answers.specs.Serial.{Replied}
use Rattle.msg_answers.specs.Serving.{Served}
use Rattle.msg_answers.specs.Text.{text_of}

-- sends were answered at points that rise from one history to another, and a line for each was
-- written after what was there
pub record AreWritten (image : ImageParts) (h : History) (sends : List Meaning) (last : History) (old new : List ℕ) : Type 0 where
  pub replies : List Reply
  pub served : Served h sends replies last
  pub text : new ≡ old ++ text_of image (map Replied replies)
