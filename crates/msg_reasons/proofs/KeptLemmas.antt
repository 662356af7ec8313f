-- What is kept.
use Rattle.std.proofs.Common.{List, All, sym, subst, inl, inr}
use Rattle.std.proofs.lemmas.List.Elements.{All-nil, All-push}
use Rattle.msg_reasons.specs.Slots.{Remembers}

-- what holds of each that was kept, and of one more, holds of each that is kept now
pub all_kept : {A : Type 0} (P : A → Type 0) (x : A) (old new : List A) → P x → All P old → Remembers x old new → All P new
all_kept P x old new p all (inl is) = subst (All P) (sym is) (All-push P old x all p)
all_kept P x old new p all (inr (inl is)) = subst (All P) (sym is) all
all_kept P x old new p all (inr (inr is)) = subst (All P) (sym is) (All-nil P)
