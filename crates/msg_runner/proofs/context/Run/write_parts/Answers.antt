use Rattle.std.proofs.Common.{◌≡◌, ◌++◌, List, map, ap, sym, ◌∙◌, subst}
use Rattle.std.specs.Prelude.{All}
use Rattle.msg_image.specs.Items.{ItemParts}
use Rattle.msg_image.specs.Parts.{ImageParts}
use Rattle.msg_image.specs.Plain.{item_parts}
use Rattle.msg_image.specs.Sound.{IsSoundItem}
use Rattle.msg_image.specs.declared.change.Item.{Item}
use Rattle.msg_tables.specs.History.{History}
use Rattle.msg_answers.specs.Serial.{serial_from}
use Rattle.msg_answers.specs.Serving.{history_of}
use Rattle.msg_answers.specs.Text.{text_of}
use Rattle.msg_answers.proofs.PartLemmas.{all_left, all_right, origin_stays, part_step, split_named}
use Rattle.msg_runner.proofs.LineLemmas.{lines_beside}
use Rattle.msg_runner.proofs.context.Run.write_parts.Goals as goal

pub write_part-requires-clause-sound : goal.write_part-requires-clause-sound
write_part-requires-clause-sound g c κs within =
    let image = c.args.all.image.now in
    let P : ItemParts → Type 0 = IsSoundItem image in
    let part = c.split_at.result.0.now in
    let later = c.split_at.result.1.now in
    let split = split_named c.loop-rest.rest.items.now part later c.part_len.result c.split_at.ensures.front c.split_at.ensures.back in
    let sound = all_left P (map item_parts part) (map item_parts later) (subst (All P) split c.loop-rest.invariant.sound) in
    let of_part = subst (λ (xs : List Item). All P (map item_parts xs)) (sym c.with_items-part.ensures.items) sound in
    subst (λ (m : ImageParts). All (IsSoundItem m) (map item_parts c.with_items-part.result.items.now)) (sym (c.with_items-part.ensures.image ∙ c.loop-rest.invariant.same)) of_part

pub loop-rest-preserved : goal.loop-rest-preserved
loop-rest-preserved g c =
    let image = c.args.all.image.now in
    let P : ItemParts → Type 0 = IsSoundItem image in
    let h = c.loop-rest.crew.changer in
    let part = c.split_at.result.0.now in
    let later = c.split_at.result.1.now in
    let inv = c.loop-rest.invariant in
    let old = c.loop-rest.text.items in
    let new = c.write_part.new.text.items in
    let split = split_named c.loop-rest.rest.items.now part later c.part_len.result c.split_at.ensures.front c.split_at.ensures.back in
    let image_is = c.with_items-part.ensures.image ∙ inv.same in
    let items_are = c.with_items-part.ensures.items in
    let now = subst (λ (xs : List Item). c.write_part.new.crew.changer ≡ history_of h (map item_parts xs)) items_are c.in_ok-counts.ensures.history in
    let whole = text_of image (serial_from image c.args.crew.now.changer (map item_parts c.args.all.items.now)) in
    let so_far = subst (λ (xs : List ItemParts). old ++ text_of image (serial_from image h xs) ≡ whole) split inv.text in
    let by_items = subst (λ (xs : List Item). new ≡ old ++ text_of c.with_items-part.result.image.now (serial_from c.with_items-part.result.image.now h (map item_parts xs))) items_are c.in_ok-counts.ensures.text in
    let here = subst (λ (m : ImageParts). new ≡ old ++ text_of m (serial_from m h (map item_parts part))) image_is by_items in
    let stepped = part_step image h (map item_parts part) (map item_parts later) old new whole here so_far in
    let left = sym c.after-rest.ensures.items in record {
      same = c.after-rest.ensures.image ∙ inv.same;
      origin = ap (λ (k : History). k.origin) now ∙ origin_stays h (map item_parts part) ∙ inv.origin;
      sound = subst (λ (xs : List Item). All P (map item_parts xs)) left (all_right P (map item_parts part) (map item_parts later) (subst (All P) split inv.sound));
      workers = c.after-rest.ensures.workers ∙ inv.workers;
      enough = c.in_ok-counts.ensures.senders ∙ inv.enough;
      text = subst (λ (xs : List Item). new ++ text_of image (serial_from image c.write_part.new.crew.changer (map item_parts xs)) ≡ whole) left (subst (λ (k : History). new ++ text_of image (serial_from image k (map item_parts later)) ≡ whole) (sym now) stepped);
    }

pub returns-in-Beside : goal.returns-in-Beside
returns-in-Beside g c =
    lines_beside c.args.self.now.changes c.args.all.image.now c.args.all.deal.workers c.args.all.deal.cut c.args.crew.now.changer (map item_parts c.args.all.items.now) c.new-text.result.items c.share_out.new.text.items c.args.all.deal.some_workers c.in-Beside.is c.new-text.ensures.items c.in_ok-_counts.ensures.answered
