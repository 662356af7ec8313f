use Rattle.std.proofs.Common.{◌≡◌, Bool, true, false, cond, refl, sym, ap, ◌∙◌, arith}
use Rattle.std.specs.Prelude.{◌||◌, ◌&&◌, ◌==◌}
use Rattle.msg_tables.specs.Marking.{is_marked}
use Rattle.msg_tables.specs.Preorder.{is_in}
use Rattle.msg_tables.proofs.PreorderLemmas.{first-in, later-in}
use Rattle.msg_tables.proofs.marks.mark_each.Goals as goal

none-left : (a k : Bool) → (a || (k && false)) ≡ a
none-left true k = refl
none-left false true = refl
none-left false false = refl

one-more : (a k t q : Bool) → ((a || (k && t)) || (k && q)) ≡ (a || (k && (t || q)))
one-more true k t q = refl
one-more false false t q = refl
one-more false true true q = refl
one-more false true false q = refl

pub loop-class-init : goal.loop-class-init
loop-class-init c =
    let same = c.into_iter-class-iterator.ensures.into_iter_gives ∙ c.classes-class-items.ensures in
    record {
      marks = λ d. ap (λ ks. is_marked c.args.marked.now d || (cond d.meta c.args.below.meta c.args.below.own && is_in d.class ks)) same;
      left = λ k e. ap (is_in k) (sym same) ∙ e;
      length = refl;
    }

pub mark_class-requires : goal.mark_class-requires
mark_class-requires c =
    let k = c.in-Some.class in
    let room = c.requires k (c.loop-class.invariant.left k (ap (is_in k) c.in-Some.ensures.steps ∙ first-in k c.next.new.self)) in
    omega (arith, room, c.loop-class.invariant.length)

pub loop-class-preserved : goal.loop-class-preserved
loop-class-preserved c = record {
  marks = λ d.
      let k = c.in-Some.class in
      let rest = is_in d.class c.next.new.self in
      let kind = cond d.meta c.args.below.meta c.args.below.own in
      ap (λ b. b || (kind && rest))
      (c.mark_class.ensures.marks d
      ∙ ap (λ b. is_marked c.loop-class.marked d || (cond d.meta b c.has_classes-own.result && (k == d.class))) c.has_metaclasses-meta.ensures
      ∙ ap (λ b. is_marked c.loop-class.marked d || (cond d.meta c.args.below.meta b && (k == d.class))) c.has_classes-own.ensures)
      ∙ one-more (is_marked c.loop-class.marked d) kind (k == d.class) rest
      ∙ sym (ap (λ ks. is_marked c.loop-class.marked d || (kind && is_in d.class ks)) c.in-Some.ensures.steps)
      ∙ c.loop-class.invariant.marks d;
  left = λ k e. c.loop-class.invariant.left k (ap (is_in k) c.in-Some.ensures.steps ∙ later-in k c.in-Some.class c.next.new.self e);
  length = c.mark_class.ensures.length ∙ c.loop-class.invariant.length;
}

pub returns-clause-marks : goal.returns-clause-marks
returns-clause-marks c = λ d.
    let kind = cond d.meta c.args.below.meta c.args.below.own in
    sym (none-left (is_marked c.loop-class.marked d) kind)
    ∙ sym (ap (λ ks. is_marked c.loop-class.marked d || (kind && is_in d.class ks)) c.in-None.ensures.steps.0)
    ∙ c.loop-class.invariant.marks d
