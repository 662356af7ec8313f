-- Points, plain replies and lists of answers.
use Rattle.std.proofs.Common.{◌≡◌, ◌≤◌, ◌+◌, ℕ, zero, suc, List, [], ◌∷◌, ◌++◌, length, take, Some, slice_get, refl, sym, ap, ◌∙◌, subst, arith, length-append, append-nil}
use Rattle.msg_names.specs.declared.value.ClassRef.{ClassRef}
use Rattle.msg_tables.specs.Log as logs
use Rattle.msg_tables.specs.Log.{Log}
use Rattle.msg_tables.specs.History.{History, lookup, log, BeginsWith}
use Rattle.msg_tables.proofs.BeginsLemmas.{begins_length, begins_same}
use Rattle.msg_tables.proofs.HistoryLemmas.{log-begins}
use Rattle.msg_tables.specs.declared.change.Change.{Change}
use Rattle.msg_tables.specs.Origin.{OriginView}
use Rattle.msg_eval.specs.declared.reply.Reply.{Reply}
use Rattle.msg_eval.specs.Meaning.{Meaning, Ends, Asks}
use Rattle.msg_eval.specs.Finder.{FindsAt}
use Rattle.msg_eval.specs.Points.{Rise, last_of, EndsAfter, EndsBetween, plain_reply, AllAre, HasOneReply, Ended, Asking, with_answers, HasAnswersAt}
use Rattle.msg_eval.specs.Step.{Leads}

-- the points at which a send leads to its reply
pub points_of : (m : Meaning) (h g : History) (r : Reply) → Leads FindsAt m h g r → EndsBetween h g m r
points_of (Ends e) h g r x = record { points = []; rise = tt; ends = x.0; last = sym x.1 }
points_of (Asks c s go) h g r (p, i, at, more) =
    let rest = points_of (go i) p g r more in
    record { points = p ∷ rest.points; rise = (at.0, rest.rise); ends = subst (λ j. EndsAfter (go j) rest.points r) at.1 rest.ends; last = rest.last }

plain_exists : (h : History) (m : Meaning) → (points : List History) × AllAre h points × EndsAfter m points (plain_reply h m)
plain_exists h (Ends e) = ([], tt, refl)
plain_exists h (Asks c s go) =
    let (points, all, ends) = plain_exists h (go (lookup h c s)) in
    (h ∷ points, (refl, all), ends)

pub plain_only : (h : History) (m : Meaning) (points : List History) (r : Reply) → AllAre h points → EndsAfter m points r → r ≡ plain_reply h m
plain_only h (Ends e) [] r all ends = sym ends
plain_only h (Ends e) (p ∷ ps) r all ends = absurd ends
plain_only h (Asks c s go) [] r all ends = absurd ends
plain_only h (Asks c s go) (p ∷ ps) r all ends =
    plain_only h (go (lookup h c s)) ps r all.1 (subst (λ q. EndsAfter (go (lookup q c s)) ps r) all.0 ends)

pub one_reply : (h : History) (m : Meaning) → HasOneReply h m
one_reply h m = record { exists = plain_exists h m; only = plain_only h m }

-- ---- points that rise no further

last_no_shorter : (h : History) (points : List History) → Rise h points → length h.changes ≤ length (last_of h points).changes
last_no_shorter h [] rise = omega arith
last_no_shorter h (p ∷ ps) rise = let a = begins_length p h rise.0 in let b = last_no_shorter p ps rise.1 in omega (arith, a, b)

-- if the last point is no longer than the first history, each point is that history
pub all_one : (h : History) (points : List History) → Rise h points → length (last_of h points).changes ≤ length h.changes → AllAre h points
all_one h [] rise le = tt
all_one h (p ∷ ps) rise le =
    let up = last_no_shorter p ps rise.1 in
    let n = begins_length p h rise.0 in
    let is : p ≡ h = begins_same p h rise.0 (omega (arith, up, le, n)) in
    (is, subst (λ q. AllAre q ps) is (all_one p ps rise.1 (omega (arith, n, le))))

-- ---- points of tables that stay

-- each point has the changes of h, one after another
abbrev pub AllLike : History → List History → Type 0
AllLike h [] = Unit {0}
AllLike h (p ∷ ps) = (log p ≡ log h) × AllLike h ps

pub plain_like : (h : History) (m : Meaning) (points : List History) (r : Reply) → AllLike h points → EndsAfter m points r → r ≡ plain_reply h m
plain_like h (Ends e) [] r all ends = sym ends
plain_like h (Ends e) (p ∷ ps) r all ends = absurd ends
plain_like h (Asks c s go) [] r all ends = absurd ends
plain_like h (Asks c s go) (p ∷ ps) r all ends =
    plain_like h (go (lookup h c s)) ps r all.1 (subst (λ q. EndsAfter (go (logs.lookup q c s)) ps r) all.0 ends)

steps_of : History → ℕ
steps_of h = length (log h).changes

begins_steps : (p h : History) → BeginsWith p h → steps_of h ≤ steps_of p
unfolding steps_of
begins_steps p h b = let l = log-begins p h b in omega (arith, ap length l.rest.1, length-append (log h).changes l.rest.0)

last_steps : (h : History) (points : List History) → Rise h points → steps_of h ≤ steps_of (last_of h points)
last_steps h [] rise = omega arith
last_steps h (p ∷ ps) rise = let a = begins_steps p h rise.0 in let b = last_steps p ps rise.1 in omega (arith, a, b)

-- a log that begins with another and is no longer is that one
same_log : (p h : Log) (more : List Change) → p.origin ≡ h.origin → p.changes ≡ h.changes ++ more → length p.changes ≤ length h.changes → p ≡ h
same_log p h [] same rest le =
    ap (λ (i : OriginView). (let x : Log = record { origin = i; changes = p.changes } in x)) same
    ∙ ap (λ (xs : List Change). (let x : Log = record { origin = h.origin; changes = xs } in x)) (rest ∙ append-nil h.changes)
same_log p h (x ∷ more) same rest le = absurd (omega (arith, ap length rest, length-append h.changes (x ∷ more), le))

pub all_like : (h : History) (points : List History) → Rise h points → length (log (last_of h points)).changes ≤ length (log h).changes → AllLike h points
unfolding steps_of
all_like h [] rise le = tt
all_like h (p ∷ ps) rise le =
    let l = log-begins p h rise.0 in
    let up = last_steps p ps rise.1 in
    let is : log p ≡ log h = same_log (log p) (log h) l.rest.0 l.same l.rest.1 (omega (arith, up, le)) in
    (is, like_other ps is (all_like p ps rise.1 (let n = begins_steps p h rise.0 in omega (arith, n, le))))
  where
    like_other : (qs : List History) → log p ≡ log h → AllLike p qs → AllLike h qs
    like_other [] is all = tt
    like_other (q ∷ qs) is all = (all.0 ∙ is, like_other qs is all.1)

-- ---- lists of answers

pub to_answers : (m : Meaning) (k : ℕ) (points : List History) (r : Reply) → EndsAfter m points r → HasAnswersAt m k points r
to_answers (Ends e) k [] r ends = record {
  answers = [];
  as_many = refl;
  each = λ j p i a b. cc;
  ended = let n : k ≡ k + 0 = omega arith in ap (λ x. Ended x k) ends ∙ ap (λ m. Ended r m) n;
}
to_answers (Ends e) k (p ∷ ps) r ends = absurd ends
to_answers (Asks c s go) k [] r ends = absurd ends
to_answers (Asks c s go) k (p ∷ ps) r ends =
    let rest = to_answers (go (lookup p c s)) (suc k) ps r ends in
    record {
      answers = lookup p c s ∷ rest.answers;
      as_many = ap suc rest.as_many;
      each = each rest;
      ended = let n : suc k + length rest.answers ≡ k + suc (length rest.answers) = omega arith in rest.ended ∙ ap (λ m. Ended r m) n;
    }
  where
    each : (rest : HasAnswersAt (go (lookup p c s)) (suc k) ps r) (j : ℕ) (q : History) (i : ℕ) → slice_get (p ∷ ps) j ≡ Some q → slice_get (lookup p c s ∷ rest.answers) j ≡ Some i → (d : ClassRef) × (u : ℕ) × (with_answers (Asks c s go) (take j (lookup p c s ∷ rest.answers)) k ≡ Asking d u) × (i ≡ lookup q d u)
    each rest zero q i a b =
        let same : p ≡ q = cc in
        let is : lookup p c s ≡ i = cc in
        (c, s, refl, sym is ∙ ap (λ z. lookup z c s) same)
    each rest (suc j) q i a b = rest.each j q i a b

from_answers : (m : Meaning) (k : ℕ) (points : List History) (r : Reply) (answers : List ℕ) → length answers ≡ length points → ((j : ℕ) (p : History) (i : ℕ) → slice_get points j ≡ Some p → slice_get answers j ≡ Some i → (c : ClassRef) × (s : ℕ) × (with_answers m (take j answers) k ≡ Asking c s) × (i ≡ lookup p c s)) → (n : ℕ) → with_answers m answers k ≡ Ended r n → n ≡ k + length answers → EndsAfter m points r
from_answers (Ends e) k [] r [] many each n ended all = cc
from_answers (Ends e) k [] r (i ∷ is) many each n ended all = absurd (omega (arith, many))
from_answers (Ends e) k (p ∷ ps) r answers many each n ended all =
    let same : k ≡ n = cc in absurd (omega (arith, many, same, all))
from_answers (Asks c s go) k [] r [] many each n ended all = cc
from_answers (Asks c s go) k [] r (i ∷ is) many each n ended all = absurd (omega (arith, many))
from_answers (Asks c s go) k (p ∷ ps) r [] many each n ended all = absurd (omega (arith, many))
from_answers (Asks c s go) k (p ∷ ps) r (i ∷ is) many each n ended all =
    let (d, u, asked, is_lookup) = each zero p i refl refl in
    let same_d : c ≡ d = cc in
    let same_u : s ≡ u = cc in
    let answer : i ≡ lookup p c s = is_lookup ∙ ap (λ z. lookup p z u) (sym same_d) ∙ ap (λ z. lookup p c z) (sym same_u) in
    subst (λ z. EndsAfter (go z) ps r) answer
    (from_answers (go i) (suc k) ps r is (omega (arith, many)) (λ j q v a b. each (suc j) q v a b) n ended (omega (arith, all)))

pub of_answers : (m : Meaning) (k : ℕ) (points : List History) (r : Reply) → HasAnswersAt m k points r → EndsAfter m points r
of_answers m k points r x = from_answers m k points r x.answers x.as_many x.each (k + length x.answers) x.ended refl
