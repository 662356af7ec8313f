use Rattle.std.proofs.Common.{◌≡◌, ◌<◌, ◌≤◌, List, get_or, length, subst}
use Rattle.msg_image.specs.declared.change.Item.{Item}
use Rattle.msg_image.specs.DocumentParts.{document_parts}
use Rattle.msg_reasons.proofs.ItemLemmas.{at_end, at_start, next, sizes-kept, sound-here, sound-next}
use Rattle.msg_reasons.proofs.explaining.explain_document.Goals as goal

pub loop-item-init : goal.loop-item-init
loop-item-init c = record {
  sizes = c.in_ok-explainer.ensures.sizes;
  lines = c.in_ok-explainer.ensures.lines;
  sound = c.requires;
  so_far = at_start (document_parts c.args.document.now) c.in_ok-explainer.explainer.noting.tables c.new-text.result.items c.new-text.ensures.items c.in_ok-explainer.ensures.stands;
}

pub explain_item-requires-clause-sound : goal.explain_item-requires-clause-sound
explain_item-requires-clause-sound c =
    let lt = subst (λ (xs : List Item). c.loop-item.item-index < length xs) c.deref-item-items.ensures.value c.loop-item-test.true in
    let is = subst (λ (xs : List Item). c.item-item.result ≡ get_or xs c.loop-item.item-index c.item-item.result) c.deref-item-items.ensures.value c.item-item.is in
    sound-here c.args.document.now.image c.args.document.now.items.items c.loop-item.item-index c.item-item.result lt is c.loop-item.invariant.sound

pub loop-item-preserved : goal.loop-item-preserved
loop-item-preserved c =
    let lt = subst (λ (xs : List Item). c.loop-item.item-index < length xs) c.deref-item-items.ensures.value c.loop-item-test.true in
    let is = subst (λ (xs : List Item). c.item-item.result ≡ get_or xs c.loop-item.item-index c.item-item.result) c.deref-item-items.ensures.value c.item-item.is in
    record {
      sizes = sizes-kept c.args.document.now.image c.loop-item.explainer.noting.tables c.explain_item.new.self.noting.tables c.explain_item.ensures.sizes c.loop-item.invariant.sizes;
      lines = c.explain_item.ensures.lines;
      sound = sound-next c.args.document.now.image c.args.document.now.items.items c.loop-item.item-index c.item-item.result lt is c.loop-item.invariant.sound;
      so_far = next (document_parts c.args.document.now) c.loop-item.explainer.noting.tables c.explain_item.new.self.noting.tables c.loop-item.text.items c.explain_item.new.text.items
          c.args.document.now.items.items c.loop-item.item-index c.item-item.result lt is c.loop-item.invariant.so_far c.in_ok-explain_item.ensures.item;
    }

pub returns : goal.returns
returns c = at_end (document_parts c.args.document.now) c.loop-item.explainer.noting.tables c.loop-item.text.items c.args.document.now.items.items c.loop-item.item-index (subst (λ (xs : List Item). length xs ≤ c.loop-item.item-index) c.deref-item-items.ensures.value c.loop-item-test.false) c.loop-item.invariant.so_far
