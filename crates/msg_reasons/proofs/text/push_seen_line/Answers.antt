use Rattle.std.specs.Prelude.{codes}
use Rattle.msg_answers.specs.Text.{newline}
use Rattle.msg_reasons.specs.Looked.{looked}
use Rattle.msg_reasons.specs.Text.{lookup_text, number_text}
use Rattle.msg_reasons.proofs.TextLemmas.{two_parts}
use Rattle.msg_reasons.proofs.text.push_seen_line.Goals as goal

pub returns : goal.returns
returns c = two_parts c.args.text.now.items c.push_lookup_text.new.text.items c.push_number.new.text.items c.push.new.self.items (lookup_text c.args.image.now (looked c.args.seen.now.lookup)) (number_text (codes ", changes before: ") c.args.seen.now.changes) newline
    c.in_ok-push_lookup_text.ensures c.in_ok-push_number.ensures c.in_ok-push.ensures.items
