use Rattle.std.proofs.Common.{◌≡◌, ◌++◌, ◌+◌, ◌-◌, [], ◌∷◌, ℕ, Option, Some, None, map, take_all, replicate, length, option_map, append_assoc, append-nil, sym, ap, ◌∙◌, arith}
use Rattle.std.proofs.lemmas.List.{length-map, replicate-append-replicate}
use Rattle.msg_tables.specs.declared.presence.Presence.{Presence}
use Rattle.msg_tables.proofs.TakeLemmas.{take-next-map}
use Rattle.msg_tables.proofs.opening.opened_classes.Goals as goal

abbrev listed : Option ℕ → Option Presence
listed d = Some (record { superclass = d })

pub loop-class-preserved : goal.loop-class-preserved
loop-class-preserved c =
    let supers = c.args.origin.now.superclasses in
    c.in_ok-push.ensures.items ∙ ap (λ xs. xs ++ listed c.superclass.result ∷ []) c.loop-class.invariant
    ∙ sym (take-next-map listed supers c.loop-class.class (listed c.superclass.result) (ap (option_map listed) c.superclass.ensures))

pub loop-made-init : goal.loop-made-init
loop-made-init c =
    let supers = c.args.origin.now.superclasses in
    let none : c.listed_count-made.result - length supers ≡ 0 = omega (arith, c.listed_count-made.ensures) in
    c.loop-class.invariant ∙ take_all c.loop-class.class (map listed supers) (omega (arith, length-map supers listed, c.loop-class-test.false, c.listed_count-class-end.ensures))
    ∙ sym (append-nil (map listed supers)) ∙ ap (λ n. map listed supers ++ replicate n None) (sym none)

pub loop-made-preserved : goal.loop-made-preserved
loop-made-preserved c =
    let supers = c.args.origin.now.superclasses in
    let k = c.loop-made._made - length supers in
    let more : c.loop-made._made + 1 - length supers ≡ k + 1 = omega (arith, c.listed_count-made.ensures, c.loop-made.auto._made) in
    c.in_ok-push-2.ensures.items ∙ ap (λ xs. xs ++ None ∷ []) c.loop-made.invariant
    ∙ append_assoc (map listed supers) (replicate k None) (None ∷ []) ∙ ap (λ xs. map listed supers ++ xs) (replicate-append-replicate k 1 None ∙ ap (λ n. replicate n None) (sym more))

pub returns : goal.returns
returns c =
    let supers = c.args.origin.now.superclasses in
    let end : c.loop-made._made - length supers ≡ c.args.origin.now.made = omega (arith, c.class_count-made-end.ensures.count, c.listed_count-made.ensures, c.loop-made-test.false, c.loop-made.auto._made-end) in
    c.loop-made.invariant ∙ ap (λ n. map listed supers ++ replicate n None) end
