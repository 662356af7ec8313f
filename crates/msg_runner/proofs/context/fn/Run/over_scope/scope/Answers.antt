use Rattle.std.proofs.Common.{List, map, subst}
use Rattle.std.specs.Prelude.{IfOk}
use Rattle.msg_image.specs.DocumentParts.{document_parts}
use Rattle.msg_image.specs.Plain.{item_parts}
use Rattle.msg_image.specs.declared.change.Item.{Item}
use Rattle.msg_runner.specs.Lines.{AreLines}
use Rattle.msg_runner.proofs.LineLemmas.{lines_where_ok}
use Rattle.msg_runner.proofs.context.fn.Run.over_scope.scope.Goals as goal

pub returns : goal.returns
returns g c =
    let run = c.captures.run in
    let d = document_parts c.captures.document.now in
    let h = c.captures.crew.changer in
    let lines = subst (λ (xs : List Item). IfOk c.write_parts.result (λ text. AreLines run.changes d.image run.deal.workers run.deal.cut h (map item_parts xs) text.items)) c.deref.ensures.value c.write_parts.ensures in
    record { lines = lines_where_ok c.write_parts.result run.changes run.deal.workers run.deal.cut d h c.requires.1 lines }
