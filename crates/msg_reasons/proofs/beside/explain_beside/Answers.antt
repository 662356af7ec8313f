use Rattle.std.proofs.Common.{◌≡◌, ◌<◌, ◌≤◌, List, get_or, length, map, subst}
use Rattle.msg_image.specs.declared.change.Item.{Item}
use Rattle.msg_image.specs.DocumentParts.{document_parts}
use Rattle.msg_image.specs.Plain.{item_parts}
use Rattle.msg_reasons.specs.Beside.{opening}
use Rattle.msg_reasons.specs.Moving.{IsOn}
use Rattle.msg_reasons.proofs.BesideLemmas.{at_end, at_start, next}
use Rattle.msg_reasons.proofs.ItemLemmas.{sound-here, sound-next}
use Rattle.msg_reasons.proofs.beside.explain_beside.Goals as goal

pub loop-item-init : goal.loop-item-init
loop-item-init c = record {
  sizes = c.in_ok-explainer.ensures.sizes;
  sound = c.requires;
  so_far = at_start (document_parts c.args.document.now) c.args.versions.now c.in_ok-explainer.explainer c.new-text.result.items c.new-text.ensures.items c.in_ok-explainer.ensures.stands
      (subst (λ (xs : List Item). IsOn c.in_ok-explainer.explainer.moving (opening c.args.document.now.image (map item_parts xs) c.args.versions.now)) c.deref.ensures.value c.in_ok-explainer.ensures.on);
}

pub explain_item-requires-clause-sound : goal.explain_item-requires-clause-sound
explain_item-requires-clause-sound c =
    let lt = subst (λ (xs : List Item). c.loop-item.item-index < length xs) c.deref-item-items.ensures.value c.loop-item-test.true in
    let is = subst (λ (xs : List Item). c.item-item.result ≡ get_or xs c.loop-item.item-index c.item-item.result) c.deref-item-items.ensures.value c.item-item.is in
    sound-here c.args.document.now.image c.args.document.now.items.items c.loop-item.item-index c.item-item.result lt is c.loop-item.invariant.sound

pub loop-item-preserved : goal.loop-item-preserved
loop-item-preserved c =
    let lt = subst (λ (xs : List Item). c.loop-item.item-index < length xs) c.deref-item-items.ensures.value c.loop-item-test.true in
    let is = subst (λ (xs : List Item). c.item-item.result ≡ get_or xs c.loop-item.item-index c.item-item.result) c.deref-item-items.ensures.value c.item-item.is in
    record {
      sizes = c.explain_item.ensures.sizes;
      sound = sound-next c.args.document.now.image c.args.document.now.items.items c.loop-item.item-index c.item-item.result lt is c.loop-item.invariant.sound;
      so_far = next (document_parts c.args.document.now) c.args.versions.now c.loop-item.explainer c.explain_item.new.self c.loop-item.text.items c.explain_item.new.text.items
          c.args.document.now.items.items c.loop-item.item-index c.item-item.result lt is c.loop-item.invariant.so_far c.in_ok-explain_item.ensures.item;
    }

pub returns : goal.returns
returns c = at_end (document_parts c.args.document.now) c.args.versions.now c.loop-item.explainer c.loop-item.text.items c.args.document.now.items.items c.loop-item.item-index (subst (λ (xs : List Item). length xs ≤ c.loop-item.item-index) c.deref-item-items.ensures.value c.loop-item-test.false) c.loop-item.invariant.so_far
