-- That a worker's share of a part may go to another thread.
use denote.Ref.{NamedLft}
use denote.Param.Send.{IsSend, IsSync, sendable}
use Rattle.std.proofs.Crossing.{crosses}
use Rattle.std.proofs.MapsCrossing as maps
use Rattle.msg_names.proofs.names.Names.TheSendSync as names
use Rattle.msg_tables.proofs.origin.Origin.TheSendSync as origin
use Rattle.msg_image.specs.contracts.image.Imp as Imp
use Rattle.msg_image.proofs.change.Item.TheSendSync as item
use Rattle.msg_image.proofs.expr.Expr.TheLaws.TheKnot as expr
use Rattle.msg_image.proofs.image.Object.TheSendSync as object
use Rattle.msg_image.specs.contracts.image.Image as Image
use Rattle.msg_answers.specs.contracts.part.Share as Share

Imp-sync : IsSync Imp.the_row
Imp-sync = search (expr.crosses, sendable, crosses) depth 20

Image-sync : IsSync Image.the_row
Image-sync = search (names.the_sync, origin.the_sync, object.the_sync, Imp-sync, sendable, crosses, maps.crosses) depth 12

pub Share-send : (κ : NamedLft) → IsSend (Share.the_row κ)
Share-send κ = search (Image-sync, item.the_sync, sendable, crosses) depth 20
