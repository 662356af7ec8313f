use Rattle.std.proofs.Common.{◌∷◌, Some, length, sym, ap, ◌∙◌, subst, arith}
use Rattle.msg_tables.specs.Preorder.{AreOnce, depth_at, is_in, next_at}
use Rattle.msg_tables.specs.Walk.{IsWalkOver, walk}
use Rattle.msg_tables.proofs.WalkLemmas.{walk-over, walks-from}
use Rattle.msg_tables.proofs.walk.Walk.from.Goals as goal

pub invariant_of-result : goal.invariant_of-result
invariant_of-result c =
    let (supers, are, there) = c.requires in
    let from = walks-from supers c.args.preorder.now c.args.class are there in
    let p = c.args.preorder.now in
    record {
      classes = c.args.class ∷ from.rest;
      over = subst (λ d. IsWalkOver (depth_at p.depths) (next_at p.nexts) d (Some c.args.class) (c.args.class ∷ from.rest)) (sym c.depth.ensures) from.over;
      linked = from.linked;
      few = from.few;
    }

pub returns-clause-below : goal.returns-clause-below
returns-clause-below c = λ supers are there j.
    let p = c.args.preorder.now in
    let from = walks-from supers p c.args.class are there in
    ap (λ d. is_in j (walk (depth_at p.depths) (next_at p.nexts) d (length p.depths) (Some c.args.class))) c.depth.ensures
    ∙ ap (is_in j) (walk-over (depth_at p.depths) (next_at p.nexts) (depth_at p.depths c.args.class) (length p.depths) (Some c.args.class) (c.args.class ∷ from.rest) from.over from.few)
    ∙ from.below j

pub returns-clause-once : goal.returns-clause-once
returns-clause-once c =
    let (supers, are, there) = c.requires in
    let p = c.args.preorder.now in
    let from = walks-from supers p c.args.class are there in
    let is = ap (λ d. walk (depth_at p.depths) (next_at p.nexts) d (length p.depths) (Some c.args.class)) c.depth.ensures
    ∙ walk-over (depth_at p.depths) (next_at p.nexts) (depth_at p.depths c.args.class) (length p.depths) (Some c.args.class) (c.args.class ∷ from.rest) from.over from.few in
    (subst AreOnce (sym is) from.once, from.rest, is)

pub returns-clause-few : goal.returns-clause-few
returns-clause-few c =
    let (supers, are, there) = c.requires in
    let p = c.args.preorder.now in
    let from = walks-from supers p c.args.class are there in
    let is = ap (λ d. walk (depth_at p.depths) (next_at p.nexts) d (length p.depths) (Some c.args.class)) c.depth.ensures
    ∙ walk-over (depth_at p.depths) (next_at p.nexts) (depth_at p.depths c.args.class) (length p.depths) (Some c.args.class) (c.args.class ∷ from.rest) from.over from.few in
    let few = from.few in
    omega (arith, few, ap length is)
