use Rattle.std.proofs.Common.{◌≡◌, Some, None, map, rules, sym, subst, arith}
use Rattle.serde_json.specs.Data.{array, object}
use Rattle.std.proofs.lemmas.Grind.{common_steps}
use Rattle.msg_json.specs.declared.tree.Tree.{the_lemmas}
use Rattle.msg_json.specs.View.{view, items_view, members_view}
use Rattle.msg_json.proofs.ViewLemmas.{view-Array, view-Object}
use Rattle.msg_explain.specs.Places.{IsAt}
use Rattle.msg_explain.specs.Tables.{at_place, word_of}
use Rattle.msg_explain.proofs.PlaceLemmas.{on_ok, list_fits, object_fits, further, at_value, key_step, went, passed, one_more_place, one_more_key, place_fits, no_place, key_fits, no_key}
use Rattle.msg_explain.proofs.search.+look.Goals as goal
use Rattle.msg_explain.proofs.search.+look.Goals.{look_at_places-in-Some+in_ok-look_into, look_at_places-in_default, look_at_keys-in-Some+in_ok-look_into, look_at_keys-in_default}

pub look_at_parts-returns-in-Array-clause-own : goal.look_at_parts-returns-in-Array-clause-own
look_at_parts-returns-in-Array-clause-own t c =
    rw (c.in-Array.is, view-Array) (on_ok c.look_at_places.result (λ fit short. list_fits c.args.wanted c.in-Array.values.now (fit short)) c.look_at_places.ensures.own)

pub look_at_parts-returns-in-Object-clause-own : goal.look_at_parts-returns-in-Object-clause-own
look_at_parts-returns-in-Object-clause-own t c =
    rw (c.in-Object.is, view-Object) (on_ok c.look_at_keys.result (λ fit short. object_fits c.args.wanted c.in-Object.members.now (fit short)) c.look_at_keys.ensures.own)

pub look_at_places-look_into-requires : goal.look_at_places-look_into-requires
look_at_places-look_into-requires t c =
    let wants : at_place c.args.wanted (word_of (map view c.args.values.now)) c.loop-place.place ≡ Some c.in-Some.part = cc (c.at_place.ensures, c.word_of-word.ensures, c.in-Some.is) in
    let here = subst (λ p. IsAt c.args.whole.now.wanted (view c.args.whole.now.document) p c.args.wanted (array (items_view c.args.values.now))) (sym c.loop-place.invariant.back) c.requires.here in
    (first_of (search (rules, the_lemmas), grind (arith, common_steps), grind (arith, common_steps, the_lemmas)), (further _ _ _ _ _ _ _ _ here (at_value c.args.wanted c.args.values.now c.loop-place.place c.index-values-place.result c.in-Some.part c.loop-place-test.true c.index-values-place.is wants), c.loop-place.invariant.sound))

pub look_at_keys-look_into-requires : goal.look_at_keys-look_into-requires
look_at_keys-look_into-requires t c =
    let here = subst (λ p. IsAt c.args.whole.now.wanted (view c.args.whole.now.document) p c.args.wanted (object (members_view c.args.members.now))) (sym c.loop-place.invariant.back) c.requires.here in
    (first_of (search (rules, the_lemmas), grind (arith, common_steps), grind (arith, common_steps, the_lemmas)), (further _ _ _ _ _ _ _ _ here (key_step c.args.wanted c.args.members.now c.keys-keys.result.now c.loop-place.place _ c.in-Some.index c.index-members-index.result c.keys-keys.ensures c.loop-place-test.true c.in-Some.ensures.inside c.in-Some.ensures.value), c.loop-place.invariant.sound))

pub look_at_places-loop-place-preserved : goal.look_at_places-loop-place-preserved
look_at_places-loop-place-preserved t c =
    elim c.match-at_place.branch [
      | look_at_places-in-Some+in_ok-look_into w ↦
          let wants : at_place c.args.wanted (word_of (map view c.args.values.now)) c.loop-place.place ≡ Some w.in-Some.part = cc (c.at_place.ensures, c.word_of-word.ensures, w.in-Some.is) in
          let done = w.in_ok-look_into.ensures in
          rw (w.path-is, w.told-is) (went _ _ _ _ _ _ _ _ c.loop-place.invariant done.sound done.path done.grown done.fit (λ so_far fit. one_more_place c.args.wanted (map view c.args.values.now) c.loop-place.place so_far (place_fits c.args.wanted c.args.values.now c.loop-place.place w.index-values-place.result w.in-Some.part c.loop-place-test.true w.index-values-place.is wants fit)))
      | look_at_places-in_default w ↦
          let none : at_place c.args.wanted (word_of (map view c.args.values.now)) c.loop-place.place ≡ None = cc (c.at_place.ensures, c.word_of-word.ensures) in
          rw (w.path-is, w.told-is) (passed _ _ _ _ _ _ c.loop-place.invariant (λ so_far. one_more_place c.args.wanted (map view c.args.values.now) c.loop-place.place so_far (no_place c.args.wanted (map view c.args.values.now) c.loop-place.place none)))
    ]

pub look_at_keys-loop-place-preserved : goal.look_at_keys-loop-place-preserved
look_at_keys-loop-place-preserved t c =
    elim c.match-last.branch [
      | look_at_keys-in-Some+in_ok-look_into w ↦
          let done = w.in_ok-look_into.ensures in
          let got = (key_step c.args.wanted c.args.members.now c.keys-keys.result.now c.loop-place.place _ w.in-Some.index w.index-members-index.result c.keys-keys.ensures c.loop-place-test.true w.in-Some.ensures.inside w.in-Some.ensures.value).1.1 in
          rw (w.path-is, w.told-is) (went _ _ _ _ _ _ _ _ c.loop-place.invariant done.sound done.path done.grown done.fit (λ so_far fit. one_more_key c.args.wanted (object (members_view c.args.members.now)) c.loop-place.place so_far (key_fits c.args.wanted (object (members_view c.args.members.now)) c.keys-keys.result.now c.loop-place.place _ _ c.keys-keys.ensures c.loop-place-test.true got fit)))
      | look_at_keys-in_default w ↦
          rw (w.path-is, w.told-is) (passed _ _ _ _ _ _ c.loop-place.invariant (λ so_far. one_more_key c.args.wanted (object (members_view c.args.members.now)) c.loop-place.place so_far (no_key c.args.wanted (object (members_view c.args.members.now)) c.keys-keys.result.now c.loop-place.place _ c.keys-keys.ensures c.loop-place-test.true w.in_default.ensures.value)))
    ]
