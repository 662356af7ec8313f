use Rattle.std.proofs.Common.{◌≡◌, ◌<◌, suc, ◌++◌, [], ◌∷◌, ℕ, List, length, length-append, drop, slice_set, refl, sym, ap, ap₂, ◌∙◌, arith}
use Rattle.std.proofs.lemmas.List.{append_assoc, append-nil}
use Rattle.msg_runtime.proofs.contents.write_each.Goals as goal

-- one more is written
write-next : (ys old : List ℕ) (x : ℕ) → length ys < length old → slice_set (ys ++ drop (length ys) old) (length ys) x ≡ (ys ++ x ∷ []) ++ drop (suc (length ys)) old
write-next ys [] x inside = absurd (omega (arith, inside))
write-next [] (o ∷ old) x inside = refl
write-next (y ∷ ys) (o ∷ old) x inside = ap (λ zs. y ∷ zs) (write-next ys old x (omega (arith, inside)))

pub loop-class-init : goal.loop-class-init
loop-class-init c = record {
  place = refl;
  room = refl;
  all = c.into_iter-class-iterator.ensures.into_iter_gives;
}

pub bounds-room-place : goal.bounds-room-place
bounds-room-place c =
    let all = ap length c.loop-class.invariant.all in
    let left = ap length c.in-Some.ensures.steps in
    omega (arith, all, left, length-append c.loop-class.yielded c.loop-class.class-iterator, c.loop-class.invariant.place, c.requires.room, c.loop-class.auto.room)

pub loop-class-preserved : goal.loop-class-preserved
loop-class-preserved c =
    let ys = c.loop-class.yielded in
    let old = c.args.room.now in
    let x = c.in-Some.class in
    let longer = length-append ys (x ∷ []) in
    let all = ap length c.loop-class.invariant.all in
    let left = ap length c.in-Some.ensures.steps in
    let inside : length ys < length old = omega (arith, all, left, length-append ys c.loop-class.class-iterator, c.requires.room) in
    let count : suc (length ys) ≡ length (ys ++ x ∷ []) = omega (arith, longer) in
    record {
      place = omega (arith, c.loop-class.invariant.place, longer);
      room = ap₂ (λ r n. slice_set r n x) c.loop-class.invariant.room c.loop-class.invariant.place
          ∙ write-next ys old x inside
          ∙ ap (λ n. (ys ++ x ∷ []) ++ drop n old) count;
      all = append_assoc ys (x ∷ []) c.next.new.self ∙ ap (λ ks. ys ++ ks) (sym c.in-Some.ensures.steps) ∙ c.loop-class.invariant.all;
    }

pub returns : goal.returns
returns c =
    let ys = c.loop-class.yielded in
    let same : ys ≡ c.args.walk = sym (append-nil ys) ∙ ap (λ ks. ys ++ ks) (sym c.in-None.ensures.steps.0) ∙ c.loop-class.invariant.all in
    c.loop-class.invariant.room ∙ ap (λ zs. zs ++ drop (length zs) c.args.room.now) same
