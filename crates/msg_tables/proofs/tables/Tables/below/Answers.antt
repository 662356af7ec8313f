use Rattle.std.proofs.Common.{◌≡◌, ℕ, List, Option, Some, Bool, true, false, cond, refl, sym, ap, ◌∙◌, subst}
use Rattle.std.specs.Prelude.{◌==◌, ◌&&◌, ◌||◌, drop, not, is_some, is_none}
use Rattle.std.specs.Option.{option_map_or}
use Rattle.msg_names.specs.declared.value.ClassRef.{ClassRef}
use Rattle.msg_tables.specs.declared.presence.Presence.{Presence}
use Rattle.msg_tables.specs.After.{of_class}
use Rattle.msg_tables.specs.Chain.{presence_of, is_present, descends, is_root}
use Rattle.msg_tables.specs.Order.{IsOrder}
use Rattle.msg_tables.specs.Preorder.{is_in}
use Rattle.msg_names.proofs.TestLemmas.{same_number}
use Rattle.msg_tables.specs.Preorder.{AreOnce}
use Rattle.msg_tables.specs.View.{TablesView}
use Rattle.msg_tables.proofs.DescentLemmas.{kinds, descends-at, present-below, nothing-below}
use Rattle.msg_tables.proofs.OrderLemmas.{present-inside, read-presence}
use Rattle.msg_tables.proofs.tables.Tables.below.Goals as goal

and-all : (b : Bool) → (b && true) ≡ b
and-all true = refl
and-all false = refl

and-none : (b : Bool) → (b && false) ≡ false
and-none true = refl
and-none false = refl

-- of the classes below that of a class reference, those that descend from it
below-of : (supers : List (Option Presence)) (order : List ℕ) → IsOrder supers order → (origin : ClassRef) (root : Bool) (classes : List ℕ) → is_root supers origin.class ≡ root
    → ((k : ℕ) → is_in k classes ≡ descends supers (of_class origin.class) (of_class k)) → (c : ClassRef) → (cond c.meta (origin.meta || root) (not origin.meta) && is_in c.class classes) ≡ descends supers origin c
below-of supers order before origin root classes is all c =
    ap (λ b. cond c.meta (origin.meta || root) (not origin.meta) && b) (all c.class)
    ∙ sym (ap (λ r. cond c.meta (origin.meta || r) (not origin.meta) && descends supers (of_class origin.class) (of_class c.class)) is)
    ∙ sym (kinds supers order before origin c)

-- those below a class are those at and below it, without itself
without-itself : (k j : ℕ) (rest : List ℕ) (d : Bool) → is_in k rest ≡ false → ((k == j) || is_in j rest) ≡ d → is_in j rest ≡ (d && not (k == j))
without-itself k j rest d out e = at (k == j) refl e
  where
    at : (b : Bool) → (k == j) ≡ b → (b || is_in j rest) ≡ d → is_in j rest ≡ (d && not (k == j))
    at true same e = sym (ap (λ z. is_in z rest) (same_number k j same)) ∙ out ∙ sym (and-none d) ∙ sym (ap (λ b. d && not b) same)
    at false other e = e ∙ sym (and-all d) ∙ sym (ap (λ b. d && not b) other)

pub returns-clause-under : goal.returns-clause-under
returns-clause-under c = λ h stands.
    let supers = c.self.inside.supers.items in
    let inside = rw (← c.self.view_is) at c.requires.class in
    let here : presence_of supers c.args.class.class ≡ Some c.in-Some.presence = sym (read-presence supers c.args.class.class c.index.result.now inside c.index.ensures) ∙ c.in-Some.is in
    let same = ap (λ (t : TablesView). t.supers) c.self.view_is ∙ stands.supers in
    let (once, rest, first) = c.from.ensures.once in
    let dropped : drop 1 c.from.result ≡ rest = ap (drop 1) first in
    let alone = subst AreOnce first once in
    record {
      below = λ j.
          ap (is_in j) dropped
          ∙ without-itself c.args.class.class j rest (descends supers (of_class c.args.class.class) (of_class j)) alone.0
          (sym (ap (is_in j) first) ∙ c.from.ensures.below supers c.self.invariant.preorder (ap is_some here) j)
          ∙ ap (λ s. descends s (of_class c.args.class.class) (of_class j) && not (c.args.class.class == j)) same;
      once = subst AreOnce (sym dropped) alone.1;
    }

pub returns-clause-below : goal.returns-clause-below
returns-clause-below c = λ h stands d.
    let supers = c.self.inside.supers.items in
    let inside = rw (← c.self.view_is) at c.requires.class in
    let here : presence_of supers c.args.class.class ≡ Some c.in-Some.presence = sym (read-presence supers c.args.class.class c.index.result.now inside c.index.ensures) ∙ c.in-Some.is in
    let none = is_none c.in-Some.presence.superclass in
    let root : is_root supers c.args.class.class ≡ none = ap (λ o. option_map_or (λ (p : Presence). is_none p.superclass) o true) here in
    let same = ap (λ (t : TablesView). t.supers) c.self.view_is ∙ stands.supers in
    ap (λ meta. cond d.meta meta (not c.args.class.meta) && is_in d.class c.from.result) c.has_metaclasses.ensures
    ∙ below-of supers c.self.inside.order.items c.self.invariant.order c.args.class none c.from.result root (c.from.ensures.below supers c.self.invariant.preorder (ap is_some here)) d
    ∙ descends-at h supers c.args.class d same

pub returns-clause-classes : goal.returns-clause-classes
returns-clause-classes c = λ k e.
    let supers = c.self.inside.supers.items in
    let inside = rw (← c.self.view_is) at c.requires.class in
    let here : presence_of supers c.args.class.class ≡ Some c.in-Some.presence = sym (read-presence supers c.args.class.class c.index.result.now inside c.index.ensures) ∙ c.in-Some.is in
    let down : descends supers (of_class c.args.class.class) (of_class k) ≡ true = sym (c.from.ensures.below supers c.self.invariant.preorder (ap is_some here) k) ∙ e in
    rw (← c.self.view_is) (present-inside supers k (present-below supers (of_class c.args.class.class) (of_class k) down))

pub returns-in_default-clause-below : goal.returns-in_default-clause-below
returns-in_default-clause-below c = λ h stands d.
    let supers = c.self.inside.supers.items in
    let inside = rw (← c.self.view_is) at c.requires.class in
    let gone : is_present supers c.args.class.class ≡ false = ap is_some (sym (read-presence supers c.args.class.class c.index.result.now inside c.index.ensures) ∙ c.in_default.is) in
    let same = ap (λ (t : TablesView). t.supers) c.self.view_is ∙ stands.supers in
    ap (λ ks. cond d.meta c.args.class.meta (not c.args.class.meta) && is_in d.class ks) c.none.ensures ∙ and-none (cond d.meta c.args.class.meta (not c.args.class.meta))
    ∙ sym (nothing-below supers c.self.inside.order.items c.self.invariant.order c.args.class gone d) ∙ descends-at h supers c.args.class d same

pub returns-in_default-clause-under : goal.returns-in_default-clause-under
returns-in_default-clause-under c = λ h stands.
    let supers = c.self.inside.supers.items in
    let inside = rw (← c.self.view_is) at c.requires.class in
    let gone : is_present supers c.args.class.class ≡ false = ap is_some (sym (read-presence supers c.args.class.class c.index.result.now inside c.index.ensures) ∙ c.in_default.is) in
    let same = ap (λ (t : TablesView). t.supers) c.self.view_is ∙ stands.supers in
    record {
      below = λ j.
          ap (λ ks. is_in j (drop 1 ks)) c.none.ensures
          ∙ sym (ap (λ b. b && not (c.args.class.class == j))
          (sym (ap (λ s. descends s (of_class c.args.class.class) (of_class j)) same)
          ∙ nothing-below supers c.self.inside.order.items c.self.invariant.order (of_class c.args.class.class) gone (of_class j)));
      once = subst (λ ks. AreOnce (drop 1 ks)) (sym c.none.ensures) tt;
    }
