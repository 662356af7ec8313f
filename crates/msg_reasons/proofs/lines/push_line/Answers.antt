use Rattle.std.proofs.Common.{ap, ◌++◌, ◌∙◌}
use Rattle.msg_reasons.specs.Lines.{IsLine}
use Rattle.msg_reasons.specs.Looked.{looked}
use Rattle.msg_reasons.specs.Text.{lookup_line}
use Rattle.msg_reasons.proofs.KeptLemmas.{all_kept}
use Rattle.msg_reasons.proofs.lines.push_line.Goals as goal

pub returns-clause-kept : goal.returns-clause-kept
returns-clause-kept c =
    all_kept (IsLine c.args.image.now) _ c.args.lines.now.kept.items c.add.new.self.kept.items
    (c.in_ok-push_lookup.ensures ∙ ap (λ t. t ++ lookup_line c.args.image.now (looked c.args.lookup.now)) c.new-line.ensures.items)
    c.requires c.add.ensures
