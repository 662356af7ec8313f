-- A send makes no more lookups than it has.
use Rattle.std.proofs.Common.{◌<◌, ◌≤◌, ◌-◌, ℕ, zero, suc, List, [], ◌∷◌, ◌++◌, length, Option, Some, None, Bool, true, false, arith, slice_get}
use Rattle.std.specs.Prelude.{Result, Ok, Err, if◌then◌else◌}
use Rattle.std.specs.Option.{option_map_or}
use Rattle.msg_names.specs.Number.{selector_number}
use Rattle.msg_names.specs.declared.value.ClassRef.{ClassRef}
use Rattle.msg_names.specs.declared.value.Selector.{Selector}
use Rattle.msg_names.specs.declared.value.Value.{Value}
use Rattle.msg_names.specs.declared.value.Value.TheVariants.{Number, Object, Class, Sel, Nil}
use Rattle.msg_image.specs.Parts.{ImageParts, ImpParts, Expression, Expressions, Const, Me, Arg, Two, If, Send, Super, NoMore, More, superclass_in, forwarding_selector}
use Rattle.msg_tables.specs.History.{History, lookup}
use Rattle.msg_eval.specs.declared.reply.Reply.{Reply}
use Rattle.msg_eval.specs.declared.reply.SendFault.{SendFault}
use Rattle.msg_eval.specs.declared.reply.SendFault.TheVariants.{Unrecognized, NotAnObject}
use Rattle.msg_eval.specs.Evaluation.{eval, eval_all, eval_body, bodies}
use Rattle.msg_eval.specs.Frame.{Scope}
use Rattle.msg_eval.specs.Meaning.{Meaning, Ends, Asks, Rest, Bodies, ask, go_on, fault}
use Rattle.msg_eval.specs.Message.{if_found, forward, dispatch, message_to, super_from, super_message}
use Rattle.msg_eval.specs.Operation.{result_of, is_no}
use Rattle.msg_eval.specs.Points.{EndsAfter}
use Rattle.msg_eval.specs.Receiver.{receiver_class, new_receiver}

-- the send asks at most n times
abbrev pub AtMost : ℕ → Meaning → Type 0
AtMost n (Ends r) = Unit {0}
AtMost zero (Asks c s go) = ⊥
AtMost (suc n) (Asks c s go) = (i : ℕ) → AtMost n (go i)

-- what follows asks at most as often as lookups are left
abbrev pub Within : {A : Type 0} → ℕ → (A → ℕ → Meaning) → Type 0
Within {A} n k = (v : A) (m : ℕ) → m ≤ n → AtMost m (k v m)

abbrev pub BodiesWithin : Bodies → Type 0
BodiesWithin body = (i : ℕ) (me : Value) (xs : List Value) (n : ℕ) (k : Rest) → Within n k → AtMost n (body i me xs n k)

within_less : {A : Type 0} (n m : ℕ) (k : A → ℕ → Meaning) → Within n k → m ≤ n → Within m k
within_less {A} n m k w le = λ v j h. w v j (omega arith)

go_on-at_most : {A : Type 0} (r : Result A SendFault) (n m : ℕ) (k : A → ℕ → Meaning) → Within n k → m ≤ n → AtMost m (go_on r m k)
go_on-at_most {A} (Ok v) n m k w le = w v m le
go_on-at_most {A} (Err f) n m k w le = tt

ask-at_most : (c : ClassRef) (s n : ℕ) (k : ℕ → ℕ → Meaning) → ((i m : ℕ) → m < n → AtMost m (k i m)) → AtMost n (ask c s n k)
ask-at_most c s zero k h = tt
ask-at_most c s (suc n) k h = λ i. h i n (omega arith)

if_found-at_most : (i n : ℕ) (a b : Meaning) → AtMost n a → AtMost n b → AtMost n (if_found i a b)
if_found-at_most zero n a b x y = y
if_found-at_most (suc i) n a b x y = x

module _ (image : ImageParts) (body : Bodies) (fits : BodiesWithin body) where
  forward-at_most : (me : Value) (c : ClassRef) (s : Selector) (n : ℕ) (k : Value × ClassRef → ℕ → Meaning) → Within n k → AtMost n (forward image body me c s n k)
  forward-at_most me c s n k w =
      ask-at_most c (selector_number forwarding_selector) n _ (λ i m less. if_found-at_most i m _ _
      (fits i me (Sel s ∷ []) m _ (λ target j le. go_on-at_most (new_receiver image me (Unrecognized c s) target) n j k w (omega arith))) tt)

  dispatch-at_most : (t : ℕ) (me : Value) (c from : ClassRef) (s : Selector) (xs : List Value) (n : ℕ) (k : Rest) → Within n k → AtMost n (dispatch image body t me c from s xs n k)
  dispatch-at_most zero me c from s xs n k w = tt
  dispatch-at_most (suc t) me c from s xs n k w =
      ask-at_most from (selector_number s) n _ (λ i m less. if_found-at_most i m _ _
      (fits i me xs m k (within_less n m k w (omega arith)))
      (forward-at_most me c s m _ (λ r j le. dispatch-at_most t r.0 r.1 r.1 s xs j k (within_less n j k w (omega arith)))))

  pub message_to-at_most : (me : Value) (s : Selector) (xs : List Value) (n : ℕ) (k : Rest) → Within n k → AtMost n (message_to image body me s xs n k)
  message_to-at_most (Number z) s xs n k w = tt
  message_to-at_most (Object o) s xs n k w = in_class (receiver_class image (Object o))
    where
      in_class : (c : Option ClassRef) → AtMost n (option_map_or (λ c. dispatch image body n (Object o) c c s xs n k) c (fault NotAnObject))
      in_class None = tt
      in_class (Some c) = dispatch-at_most n _ _ _ s xs n k w
  message_to-at_most (Class c) s xs n k w = dispatch-at_most n _ _ _ s xs n k w
  message_to-at_most (Sel t) s xs n k w = tt
  message_to-at_most Nil s xs n k w = w Nil n (omega arith)

  super-at_most : (me : Value) (home : ClassRef) (s : Selector) (xs : List Value) (n : ℕ) (k : Rest) → Within n k → AtMost n (super_message image body me home s xs n k)
  super-at_most me home s xs n k w = from_above (receiver_class image me) (superclass_in image home)
    where
      from_above : (a b : Option ClassRef) → AtMost n (super_from image body me s xs n k a b)
      from_above None b = tt
      from_above (Some c) None = tt
      from_above (Some c) (Some d) = dispatch-at_most n _ _ _ s xs n k w

  choice-at_most : (b : Bool) (n : ℕ) (x y : Meaning) → AtMost n x → AtMost n y → AtMost n (if b then x else y)
  choice-at_most true n x y p q = p
  choice-at_most false n x y p q = q

  mutual
    eval-at_most : (e : Expression) (f : Scope) (n : ℕ) (k : Rest) → Within n k → AtMost n (eval image body f e n k)
    eval-at_most (Const v) f n k w = w v n (omega arith)
    eval-at_most Me f n k w = w f.me n (omega arith)
    eval-at_most (Arg i) f n k w = w _ n (omega arith)
    eval-at_most (Two o a b) f n k w =
        eval-at_most a f n _ (λ x m le. eval-at_most b f m _ (λ y j less. go_on-at_most (result_of o x y) n j k w (omega arith)))
    eval-at_most (If c a b) f n k w =
        eval-at_most c f n _ (λ v m le. choice-at_most (is_no v) m _ _ (eval-at_most b f m k (within_less n m k w le)) (eval-at_most a f m k (within_less n m k w le)))
    eval-at_most (Send a s es) f n k w =
        eval-at_most a f n _ (λ me m le. list-at_most es f [] m _ (λ xs j less. message_to-at_most me s xs j k (within_less n j k w (omega arith))))
    eval-at_most (Super s es) f n k w =
        list-at_most es f [] n _ (λ xs j less. super-at_most f.me f.home s xs j k (within_less n j k w less))

    list-at_most : (es : Expressions) (f : Scope) (done : List Value) (n : ℕ) (k : List Value → ℕ → Meaning) → Within n k → AtMost n (eval_all image body f es done n k)
    list-at_most NoMore f done n k w = w done n (omega arith)
    list-at_most (More e es) f done n k w =
        eval-at_most e f n _ (λ v m le. list-at_most es f (done ++ v ∷ []) m k (within_less n m k w le))

eval_body-at_most : (image : ImageParts) (body : Bodies) → BodiesWithin body → (o : Option ImpParts) (me : Value) (xs : List Value) (n : ℕ) (k : Rest) → Within n k → AtMost n (eval_body image body me xs n k o)
eval_body-at_most image body fits None me xs n k w = tt
eval_body-at_most image body fits (Some i) me xs n k w = eval-at_most image body fits i.body _ n k w

pub bodies-at_most : (image : ImageParts) (d : ℕ) → BodiesWithin (bodies image d)
unfolding bodies
bodies-at_most image zero = λ i me xs n k w. tt
bodies-at_most image (suc d) = λ i me xs n k w. eval_body-at_most image (bodies image d) (bodies-at_most image d) (slice_get image.imps (i - 1)) me xs n k w

pub few_points : (t : Meaning) (n : ℕ) (points : List History) (r : Reply) → AtMost n t → EndsAfter t points r → length points ≤ n
few_points (Ends e) n [] r few ends = omega arith
few_points (Ends e) n (p ∷ ps) r few ends = absurd ends
few_points (Asks c s go) zero points r few ends = absurd few
few_points (Asks c s go) (suc n) [] r few ends = absurd ends
few_points (Asks c s go) (suc n) (p ∷ ps) r few ends = let h = few_points (go (lookup p c s)) n ps r (few _) ends in omega (arith, h)
