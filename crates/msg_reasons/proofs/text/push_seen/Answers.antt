use Rattle.std.proofs.Common.{◌≡◌, ◌++◌, ◌∙◌, ℕ, ap, length, subst, sym}
use Rattle.std.specs.List.{flat_map}
use Rattle.std.specs.Prelude.{codes}
use Rattle.msg_answers.specs.Text.{newline}
use Rattle.msg_reasons.specs.Moving.{all_seen}
use Rattle.msg_reasons.specs.Text.{number_text, seen_line}
use Rattle.msg_reasons.proofs.MovingLemmas.{count_seen}
use Rattle.msg_reasons.proofs.TextLemmas.{lines_and_line}
use Rattle.msg_reasons.proofs.text.push_seen.Goals as goal

pub returns : goal.returns
returns c =
    let seen = c.args.seen.now in
    lines_and_line c.args.text.now.items c.push_seen_lines.new.text.items c.push_number.new.text.items c.push.new.self.items (flat_map (seen_line c.args.image.now) (all_seen seen)) (number_text (codes "  lookups: ") (length (all_seen seen))) newline
    c.in_ok-push_seen_lines.ensures (c.in_ok-push_number.ensures ∙ ap (λ n. c.push_seen_lines.new.text.items ++ number_text (codes "  lookups: ") n) (sym (count_seen seen))) c.in_ok-push.ensures.items
