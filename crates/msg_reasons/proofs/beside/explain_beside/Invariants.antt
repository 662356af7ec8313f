use Rattle.std.proofs.Common.{◌≡◌, drop, map, All}
use Rattle.msg_image.specs.DocumentParts.{document_parts}
use Rattle.msg_image.specs.Plain.{item_parts}
use Rattle.msg_image.specs.Sound.{IsSoundItem}
use Rattle.msg_eval.specs.Finder.{sizes_of, table_sizes}
use Rattle.msg_reasons.proofs.BesideLemmas.{IsSoFarBeside}
use Rattle.msg_reasons.proofs.beside.explain_beside.Given as goal

abbrev pub invariant-loop-item : goal.invariant-loop-item
invariant-loop-item l = record {
  sizes : table_sizes l.explainer.moving.tables ≡ sizes_of l.document.image;
  sound : All (IsSoundItem l.document.image) (map item_parts (drop l.item-index l.document.items.items));
  so_far : IsSoFarBeside (document_parts l.document) l.versions l.explainer l.text.items (map item_parts (drop l.item-index l.document.items.items));
}
