use Rattle.std.proofs.Common.{◌≡◌, ◌+◌, ◌++◌, ◌∷◌, [], Some, None, map, rules, sym, subst, arith}
use Rattle.serde_json.specs.Data.{array, object}
use Rattle.std.proofs.lemmas.Grind.{common_steps}
use Rattle.msg_json.specs.declared.tree.Tree.{the_lemmas}
use Rattle.msg_json.specs.View.{view, items_view, members_view}
use Rattle.msg_json.proofs.ViewLemmas.{view-Array, view-Object}
use Rattle.msg_explain.specs.Walks.{IsOnWay}
use Rattle.msg_explain.specs.Tables.{at_place, word_of}
use Rattle.msg_explain.specs.declared.place.Step.TheVariants as steps
use Rattle.msg_explain.specs.Walks.{AllBelowAreTold, KeysAreTold, PartsAreTold, StayTold}
use Rattle.msg_explain.proofs.PlaceLemmas.{further, at_value, key_step, on_ok}
use Rattle.msg_explain.proofs.WalkLemmas.{all_of, list_parts, object_parts, one_more_told, place_told, no_place_told, one_more_key_told, key_told, no_key_told, went_on, passed_on, both_ok}
use Rattle.msg_explain.proofs.walk.+walk.Goals as goal
use Rattle.msg_explain.proofs.walk.+walk.Goals.{walk_members-in-Some+in_ok-walk_part, walk_members-in_default, walk_values-in-Some+in_ok-walk_part, walk_values-in_default}

pub walk_values-walk_part-requires : goal.walk_values-walk_part-requires
walk_values-walk_part-requires t c =
    let wants : at_place c.args.wanted (word_of (map view c.args.values.now)) c.loop-place.place ≡ Some c.in-Some.part = cc (c.at_place.ensures, c.word_of-word.ensures, c.in-Some.is) in
    let here = subst (λ p. IsOnWay c.args.walk.now p c.args.wanted (array (items_view c.args.values.now))) (sym c.loop-place.invariant.back) c.requires.here in
    (first_of (search (rules, the_lemmas), grind (arith, common_steps), grind (arith, common_steps, the_lemmas)), (further _ _ _ _ _ _ _ _ here (at_value c.args.wanted c.args.values.now c.loop-place.place c.index-values-place.result c.in-Some.part c.loop-place-test.true c.index-values-place.is wants), c.loop-place.invariant.sound))

pub walk_members-walk_part-requires : goal.walk_members-walk_part-requires
walk_members-walk_part-requires t c =
    let here = subst (λ p. IsOnWay c.args.walk.now p c.args.wanted (object (members_view c.args.members.now))) (sym c.loop-place.invariant.back) c.requires.here in
    (first_of (search (rules, the_lemmas), grind (arith, common_steps), grind (arith, common_steps, the_lemmas)), (further _ _ _ _ _ _ _ _ here (key_step c.args.wanted c.args.members.now c.keys-keys.result.now c.loop-place.place _ c.in-Some.index c.index-members-index.result c.keys-keys.ensures c.loop-place-test.true c.in-Some.ensures.inside c.in-Some.ensures.value), c.loop-place.invariant.sound))

pub walk_parts-returns-in-Array-clause-parts : goal.walk_parts-returns-in-Array-clause-parts
walk_parts-returns-in-Array-clause-parts t c =
    rw (c.in-Array.is, view-Array) (on_ok c.walk_values.result (λ told. list_parts c.args.walk.now c.args.path.now.items c.args.wanted c.in-Array.values.now c.walk_values.new.told.items told) c.walk_values.ensures.parts)

pub walk_parts-returns-in-Object-clause-parts : goal.walk_parts-returns-in-Object-clause-parts
walk_parts-returns-in-Object-clause-parts t c =
    rw (c.in-Object.is, view-Object) (on_ok c.walk_members.result (λ told. object_parts c.args.walk.now c.args.path.now.items c.args.wanted c.in-Object.members.now c.walk_members.new.told.items told) c.walk_members.ensures.parts)

pub walk_value-returns-clause-all : goal.walk_value-returns-clause-all
walk_value-returns-clause-all t c =
    let w = c.args.walk.now in
    let path = c.args.path.now.items in
    let told = c.walk_parts.new.told.items in
    both_ok (StayTold c.judge_value.new.told.items told) (PartsAreTold w path c.args.wanted (view c.args.value.now) told) (AllBelowAreTold w path c.args.wanted (view c.args.value.now) told) c.walk_parts.result
    (λ kept parts. all_of w path c.args.wanted (view c.args.value.now) told (λ faulty. kept path (c.in_ok-judge_value.ensures.told faulty)) parts) c.walk_parts.ensures.kept c.walk_parts.ensures.parts

pub walk_values-loop-place-preserved : goal.walk_values-loop-place-preserved
walk_values-loop-place-preserved t c =
    let values = c.args.values.now in
    let w = c.args.walk.now in
    let path = c.args.path.now.items in
    elim c.match-at_place.branch [
      | walk_values-in-Some+in_ok-walk_part b ↦
          let wants : at_place c.args.wanted (word_of (map view values)) c.loop-place.place ≡ Some b.in-Some.part = cc (c.at_place.ensures, c.word_of-word.ensures, b.in-Some.is) in
          let done = b.in_ok-walk_part.ensures in
          let all = subst (λ p. AllBelowAreTold w (p ++ steps.Place c.loop-place.place ∷ []) b.in-Some.part (view b.index-values-place.result) b.walk_part.new.told.items) c.loop-place.invariant.back done.all in
          rw (b.path-is, b.told-is) (went_on _ _ _ _ _ _ _ c.loop-place.invariant done.sound done.path done.kept all (λ so_far here. one_more_told w path c.args.wanted (map view values) c.loop-place.place _ _ so_far done.kept (place_told w path c.args.wanted values c.loop-place.place b.index-values-place.result b.in-Some.part _ c.loop-place-test.true b.index-values-place.is wants here)))
      | walk_values-in_default b ↦
          let none : at_place c.args.wanted (word_of (map view values)) c.loop-place.place ≡ None = cc (c.at_place.ensures, c.word_of-word.ensures) in
          rw (b.path-is, b.told-is) (passed_on _ _ _ _ _ c.loop-place.invariant (λ so_far. one_more_told w path c.args.wanted (map view values) c.loop-place.place _ _ so_far (λ p there. there) (no_place_told w path c.args.wanted (map view values) c.loop-place.place _ none)))
    ]

pub walk_members-loop-place-preserved : goal.walk_members-loop-place-preserved
walk_members-loop-place-preserved t c =
    let members = c.args.members.now in
    let w = c.args.walk.now in
    elim c.match-last.branch [
      | walk_members-in-Some+in_ok-walk_part b ↦
          let done = b.in_ok-walk_part.ensures in
          let got = (key_step c.args.wanted members c.keys-keys.result.now c.loop-place.place _ b.in-Some.index b.index-members-index.result c.keys-keys.ensures c.loop-place-test.true b.in-Some.ensures.inside b.in-Some.ensures.value).1.1 in
          rw (b.path-is, b.told-is) (went_on _ _ _ _ _ _ _ c.loop-place.invariant done.sound done.path done.kept done.all (λ so_far here. subst (λ p. KeysAreTold w p c.args.wanted (object (members_view members)) (c.loop-place.place + 1) b.walk_part.new.told.items) (sym done.path)
          (one_more_key_told w c.loop-place.path.items c.args.wanted (object (members_view members)) c.loop-place.place _ _ so_far done.kept (key_told w c.loop-place.path.items c.args.wanted (object (members_view members)) c.keys-keys.result.now c.loop-place.place _ _ _ c.keys-keys.ensures c.loop-place-test.true got here))))
      | walk_members-in_default b ↦
          rw (b.path-is, b.told-is) (passed_on _ _ _ _ _ c.loop-place.invariant (λ so_far. one_more_key_told w c.loop-place.path.items c.args.wanted (object (members_view members)) c.loop-place.place _ _ so_far (λ p there. there) (no_key_told w c.loop-place.path.items c.args.wanted (object (members_view members)) c.keys-keys.result.now c.loop-place.place _ _ c.keys-keys.ensures c.loop-place-test.true b.in_default.ensures.value)))
    ]
