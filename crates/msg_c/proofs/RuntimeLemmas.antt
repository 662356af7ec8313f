-- What is so of what handles held is so of what they hold.
use Rattle.std.proofs.Common.{◌≡◌, ◌≢◌, ℕ, zero, suc, List, [], ◌∷◌, Bool, true, false, refl, ap, subst}
use Rattle.std.specs.Prelude.{slice_set}
use Rattle.msg_names.specs.declared.value.ClassRef.{ClassRef}
use Rattle.msg_model.specs.State.{awaits}
use Rattle.msg_host.specs.View.{SenderView}
use Rattle.msg_runtime.specs.Calls.{CachesNumber}
use Rattle.msg_runtime.specs.View.{RuntimeView}

pub cached_so : (c : ClassRef) (s i : ℕ) (v v' w w' : RuntimeView) (u u' : SenderView) → v ≡ v' → w ≡ w' → u ≡ u' → CachesNumber c s i u.seen v w → CachesNumber c s i u'.seen v' w'
cached_so c s i v v' w w' u u' e f g has = subst (λ (t : RuntimeView × RuntimeView × SenderView). CachesNumber c s i t.2.seen t.0 t.1) (λ k. (e k, f k, g k)) has

-- a number that wasn't out, was given out and came back
pub given_back : (given : List Bool) (n : ℕ) → awaits given n ≢ true → slice_set (slice_set given n true) n false ≡ given
given_back [] n was = refl
given_back (true ∷ bs) zero was = absurd (was refl)
given_back (false ∷ bs) zero was = refl
given_back (b ∷ bs) (suc n) was = ap (λ cs. b ∷ cs) (given_back bs n was)
