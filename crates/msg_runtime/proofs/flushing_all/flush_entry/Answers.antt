use Rattle.std.proofs.Common.{◌≡◌, ◌<◌, ℕ, [], ◌∷◌, Bool, true, false, length, refl, ⊎_elim, ap, subst, sym, ◌∙◌, arith}
use Rattle.std.specs.Prelude.{◌&&◌, ◌==◌, if◌then◌else◌}
use Rattle.std.proofs.lemmas.Bool.Decides.{nat_tests}
use Rattle.msg_tables.specs.Journal.{NamesListed, classes_of, places_of}
use Rattle.msg_names.proofs.TestLemmas.{same_number}
use Rattle.msg_tables.proofs.EntryLemmas.{told-class}
use Rattle.msg_runtime.proofs.flushing_all.flush_entry.Goals as goal

either-true : (b : Bool) → (if b then true else true) ≡ true
either-true true = refl
either-true false = refl

pub flush_class-requires-clause-class : goal.flush_class-requires-clause-class
flush_class-requires-clause-class c =
    let n = length c.args.tables.now.supers in
    let inside : c.in-Made.class < n = ⊎_elim (λ is. subst (NamesListed n) is c.requires.listed) (λ (d, at, is). subst (NamesListed n) is c.requires.listed) c.in-Made.is in
    omega (arith, inside, c.requires.classes)

pub returns-in-Made-clause-flushed : goal.returns-in-Made-clause-flushed
returns-in-Made-clause-flushed c = λ h stands d told.
    let k = c.in-Made.class in
    let classes : classes_of (c.args.entry ∷ []) ≡ k ∷ [] = ⊎_elim (λ is. ap (λ e. classes_of (e ∷ [])) is) (λ (s, at, is). ap (λ e. classes_of (e ∷ [])) is) c.in-Made.is in
    let places : places_of (c.args.entry ∷ []) ≡ [] = ⊎_elim (λ is. ap (λ e. places_of (e ∷ [])) is) (λ (s, at, is). ap (λ e. places_of (e ∷ [])) is) c.in-Made.is in
    c.flush_class.ensures.flushed d (same_number d.class k (sym (told-class h c.args.entry k d classes places) ∙ told)) (either-true d.meta)

other : (b : Bool) (n m : ℕ) → (n == m) ≡ false → ((if b then true else true) && (m == n)) ≡ false
other true n m e = grind (arith, nat_tests)
other false n m e = grind (arith, nat_tests)

pub returns-in-Made-clause-spared : goal.returns-in-Made-clause-spared
returns-in-Made-clause-spared c = λ h stands d untold.
    let k = c.in-Made.class in
    let classes : classes_of (c.args.entry ∷ []) ≡ k ∷ [] = ⊎_elim (λ is. ap (λ e. classes_of (e ∷ [])) is) (λ (s, at, is). ap (λ e. classes_of (e ∷ [])) is) c.in-Made.is in
    let places : places_of (c.args.entry ∷ []) ≡ [] = ⊎_elim (λ is. ap (λ e. places_of (e ∷ [])) is) (λ (s, at, is). ap (λ e. places_of (e ∷ [])) is) c.in-Made.is in
    c.flush_class.ensures.spared d (other d.meta d.class k (sym (told-class h c.args.entry k d classes places) ∙ untold))
