use Rattle.std.proofs.Common.{◌≡◌, ◌∷◌, length, sym, ap, ◌∙◌, subst, arith}
use Rattle.msg_tables.specs.Preorder.{depth_at, is_in, next_at}
use Rattle.msg_tables.specs.Walk.{IsWalkOver, if_deeper, walk}
use Rattle.msg_tables.proofs.PreorderLemmas.{first-in, later-in}
use Rattle.msg_tables.proofs.WalkLemmas.{walk-ahead, walk-over}
use Rattle.msg_tables.proofs.walk.WalkIterator.next.Goals as goal

pub after-self-inside-requires-clause-class : goal.after-self-inside-requires-clause-class
after-self-inside-requires-clause-class c =
    let ahead = walk-ahead c.self.inside.preorder.now c.self.inside.depth c.in_ok-class.class c.self.inside.next c.self.invariant.classes c.in_ok-class.was c.self.invariant.over in
    (c.self.invariant.linked c.in_ok-class.class (ap (is_in c.in_ok-class.class) ahead.is ∙ first-in c.in_ok-class.class ahead.rest)).0

pub after-self-inside-requires-clause-next : goal.after-self-inside-requires-clause-next
after-self-inside-requires-clause-next c =
    let ahead = walk-ahead c.self.inside.preorder.now c.self.inside.depth c.in_ok-class.class c.self.inside.next c.self.invariant.classes c.in_ok-class.was c.self.invariant.over in
    (c.self.invariant.linked c.in_ok-class.class (ap (is_in c.in_ok-class.class) ahead.is ∙ first-in c.in_ok-class.class ahead.rest)).1

pub invariant_of-self : goal.invariant_of-self
invariant_of-self c =
    let p = c.self.inside.preorder.now in
    let ahead = walk-ahead p c.self.inside.depth c.in_ok-class.class c.self.inside.next c.self.invariant.classes c.in_ok-class.was c.self.invariant.over in
    let few = c.self.invariant.few in
    let count = ap length ahead.is in
    record {
      classes = ahead.rest;
      over = subst (λ o. IsWalkOver (depth_at p.depths) (next_at p.nexts) c.self.inside.depth o ahead.rest) (sym c.after-self-inside.ensures) ahead.over;
      linked = λ k e. c.self.invariant.linked k (ap (is_in k) ahead.is ∙ later-in k c.in_ok-class.class ahead.rest e);
      few = omega (arith, few, count);
    }

-- the classes before and after
steps : goal.returns-clause-steps
steps c =
    let p = c.self.inside.preorder.now in
    let depth = depth_at p.depths in
    let next = next_at p.nexts in
    let d = c.self.inside.depth in
    let n = length p.depths in
    let ahead = walk-ahead p d c.in_ok-class.class c.self.inside.next c.self.invariant.classes c.in_ok-class.was c.self.invariant.over in
    let few = c.self.invariant.few in
    let count = ap length ahead.is in
    let rest : walk depth next d n c.after-self-inside.result ≡ ahead.rest = ap (walk depth next d n) c.after-self-inside.ensures ∙ walk-over depth next d n (if_deeper depth d (next c.in_ok-class.class)) ahead.rest ahead.over (omega (arith, few, count)) in
    sym c.self.view_is ∙ walk-over depth next d n c.self.inside.next c.self.invariant.classes c.self.invariant.over few ∙ ahead.is ∙ ap (λ ks. c.in_ok-class.class ∷ ks) (sym rest)

pub returns-clause-steps : goal.returns-clause-steps
returns-clause-steps c = steps c

pub returns-clause-goes : goal.returns-clause-goes
returns-clause-goes c =
    let count = ap length (steps c) in
    record {
      on = λ _. (tt, tt, omega (arith, count));
      keeps = tt;
      rests = λ _. tt;
    }
