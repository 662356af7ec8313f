-- Values that are kept in the place where they were made.
use Rattle.std.proofs.Common.{◌≡◌, Result, Ok, Err, sym, subst}
use Rattle.std.specs.Prelude.{IfOk, OnOk}
use Rattle.std.specs.Result.{result_and}

pub kept : {T U E : Type 0} (done : Result T E) (value : U) (r : Result U E) (P : U → Type 0) → r ≡ result_and done (Ok value) → OnOk done (P value) → IfOk r P
kept (Ok x) value r P is holds = subst (λ q. IfOk q P) (sym is) holds
kept (Err e) value r P is holds = subst (λ q. IfOk q P) (sym is) tt
