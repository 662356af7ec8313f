-- The implementations of a selector in a class reference, and the number of rows, while rows are
-- added, rewritten and removed.
use Rattle.std.proofs.Common.{◌≡◌, ◌+◌, ℕ, List, [], ◌∷◌, ◌++◌, length, Option, Some, None, Bool, true, false, cond, refl, sym, ap, ap₂, ◌∙◌, subst, arith}
use Rattle.std.specs.Prelude.{◌==◌, ◌&&◌, not, is_some, is_none}
use Rattle.msg_names.proofs.TestLemmas.{equal, same_number}
use Rattle.msg_names.proofs.ClassRefLemmas.{same_class-is, same_class-refl}
use Rattle.msg_names.specs.declared.value.ClassRef.{ClassRef}
use Rattle.msg_names.specs.ClassRef.{same_class}
use Rattle.msg_rows.specs.RowList.{or_else}
use Rattle.msg_tables.specs.Rows.{Row, is_at, own}
use Rattle.msg_tables.specs.After.{set_own, without_own, without_class}
use Rattle.msg_tables.specs.Undo.{imps_of, count_at}
use Rattle.msg_rows.proofs.OrElseLemmas.{or_else_none}

-- 1 if the fact holds
abbrev pub one : Bool → ℕ
one b = cond b 1 0

-- ---- lists of implementations, of which the last counts

abbrev pub last_of : List ℕ → Option ℕ
last_of [] = None
last_of (i ∷ is) = or_else (last_of is) (Some i)

-- another last
abbrev pub set_end : ℕ → List ℕ → List ℕ
set_end i [] = []
set_end i (j ∷ []) = i ∷ []
set_end i (j ∷ k ∷ ks) = j ∷ set_end i (k ∷ ks)

-- without the last
abbrev pub drop_end : List ℕ → List ℕ
drop_end [] = []
drop_end (j ∷ []) = []
drop_end (j ∷ k ∷ ks) = j ∷ drop_end (k ∷ ks)

some-else : (o : Option ℕ) (k : ℕ) → is_none (or_else o (Some k)) ≡ false
some-else None k = refl
some-else (Some j) k = refl

-- an implementation that was removed is added again
pub drop-back : (is : List ℕ) (i : ℕ) → last_of is ≡ Some i → drop_end is ++ i ∷ [] ≡ is
drop-back [] i e = cc
drop-back (j ∷ []) i e = ap (λ o. cond (is_some o) (at o) []) (sym e)
  where
    at : Option ℕ → List ℕ
    at None = []
    at (Some k) = k ∷ []
drop-back (j ∷ k ∷ ks) i e = ap (λ rest. j ∷ rest) (drop-back (k ∷ ks) i (step (last_of ks) e))
  where
    step : (o : Option ℕ) → or_else (or_else o (Some k)) (Some j) ≡ Some i → or_else o (Some k) ≡ Some i
    step None e = e
    step (Some l) e = e

-- ---- the own row

-- it is the last
pub own-imps : (rows : List Row) (c : ClassRef) (s : ℕ) → own rows c s ≡ last_of (imps_of c s rows)
own-imps [] c s = refl
own-imps (r ∷ rs) c s = step (is_at c s r) (own-imps rs c s)
  where
    step : (b : Bool) → own rs c s ≡ last_of (imps_of c s rs) → or_else (own rs c s) (cond b (Some r.imp) None) ≡ last_of (cond b (r.imp ∷ imps_of c s rs) (imps_of c s rs))
    step true e = ap (λ o. or_else o (Some r.imp)) e
    step false e = or_else_none (own rs c s) ∙ e

-- a row at the class reference and selector of another row is at the same ones as that
pub at-same : (r : Row) (c d : ClassRef) (s u : ℕ) → is_at c s r ≡ true → is_at d u r ≡ (same_class c d && (s == u))
at-same r c d s u e = step (same_class r.class c) refl (r.sel == s) refl e
  where
    step : (a : Bool) → same_class r.class c ≡ a → (b : Bool) → (r.sel == s) ≡ b → (a && b) ≡ true → is_at d u r ≡ (same_class c d && (s == u))
    step true e true f g = ap₂ (λ k n. same_class k d && (n == u)) (same_class-is r.class c e) (same_number r.sel s f)
    step true e false f g = cc
    step false e b f g = cc

pub class-at : (r : Row) (c : ClassRef) (s : ℕ) → is_at c s r ≡ true → r.class ≡ c
class-at r c s e = step (same_class r.class c) refl (r.sel == s) e
  where
    step : (a : Bool) → same_class r.class c ≡ a → (b : Bool) → (a && b) ≡ true → r.class ≡ c
    step true e b g = same_class-is r.class c e
    step false e b g = cc

pub pair-same : (c : ClassRef) (s : ℕ) → (same_class c c && (s == s)) ≡ true
pair-same c s = rw (same_class-refl c, equal s) refl

-- ---- rows that are added

pub imps-append : (c : ClassRef) (s : ℕ) (xs ys : List Row) → imps_of c s (xs ++ ys) ≡ imps_of c s xs ++ imps_of c s ys
imps-append c s [] ys = refl
imps-append c s (x ∷ xs) ys = step (is_at c s x) (imps-append c s xs ys)
  where
    step : (b : Bool) → imps_of c s (xs ++ ys) ≡ imps_of c s xs ++ imps_of c s ys → cond b (x.imp ∷ imps_of c s (xs ++ ys)) (imps_of c s (xs ++ ys)) ≡ cond b (x.imp ∷ imps_of c s xs) (imps_of c s xs) ++ imps_of c s ys
    step true e = ap (λ is. x.imp ∷ is) e
    step false e = e

pub count-append : (test : ClassRef → Bool) (xs ys : List Row) → count_at test (xs ++ ys) ≡ count_at test xs + count_at test ys
count-append test [] ys = omega arith
count-append test (x ∷ xs) ys = let rest = count-append test xs ys in omega (arith, rest)

-- ---- rows that are rewritten

module _ (c : ClassRef) (s i : ℕ) where
  abbrev new : Row
  new = record { class = c; sel = s; imp = i }

  imps-set_same : (rows : List Row) → imps_of c s (set_own c s i rows) ≡ set_end i (imps_of c s rows)
  imps-set_same [] = refl
  imps-set_same (r ∷ rs) = step (is_at c s r) refl (imps_of c s rs) (own-imps rs c s) (imps-set_same rs)
    where
      step : (b : Bool) → is_at c s r ≡ b → (l : List ℕ) → own rs c s ≡ last_of l → imps_of c s (set_own c s i rs) ≡ set_end i l
          → imps_of c s (cond (b && is_none (own rs c s)) new r ∷ set_own c s i rs) ≡ set_end i (cond b (r.imp ∷ l) l)
      step false e l o rest = rw e rest
      step true e [] o rest = rw (o, pair-same c s) (ap (λ is. i ∷ is) rest)
      step true e (k ∷ ks) o rest = rw (o, some-else (last_of ks) k, e) (ap (λ is. r.imp ∷ is) rest)

  imps-set_other : (d : ClassRef) (u : ℕ) (rows : List Row) → (same_class c d && (s == u)) ≡ false → imps_of d u (set_own c s i rows) ≡ imps_of d u rows
  imps-set_other d u [] apart = refl
  imps-set_other d u (r ∷ rs) apart = step (is_at c s r) refl (is_none (own rs c s)) (imps-set_other d u rs apart)
    where
      step : (b : Bool) → is_at c s r ≡ b → (n : Bool) → imps_of d u (set_own c s i rs) ≡ imps_of d u rs → imps_of d u (cond (b && n) new r ∷ set_own c s i rs) ≡ imps_of d u (r ∷ rs)
      step true e true rest = rw (apart, at-same r c d s u e ∙ apart) rest
      step true e false rest = ap (λ is. cond (is_at d u r) (r.imp ∷ is) is) rest
      step false e n rest = ap (λ is. cond (is_at d u r) (r.imp ∷ is) is) rest

  pub imps-set : (d : ClassRef) (u : ℕ) (rows : List Row) → imps_of d u (set_own c s i rows) ≡ cond (same_class c d && (s == u)) (set_end i (imps_of d u rows)) (imps_of d u rows)
  imps-set d u rows = step (same_class c d) refl (s == u) refl
    where
      step : (a : Bool) → same_class c d ≡ a → (b : Bool) → (s == u) ≡ b → imps_of d u (set_own c s i rows) ≡ cond (a && b) (set_end i (imps_of d u rows)) (imps_of d u rows)
      step true e true f = subst (λ z. imps_of z u (set_own c s i rows) ≡ set_end i (imps_of z u rows)) (same_class-is c d e) (subst (λ n. imps_of c n (set_own c s i rows) ≡ set_end i (imps_of c n rows)) (same_number s u f) (imps-set_same rows))
      step true e false f = imps-set_other d u rows (rw (e, f) refl)
      step false e b f = imps-set_other d u rows (rw e refl)

  pub count-set : (test : ClassRef → Bool) (rows : List Row) → count_at test (set_own c s i rows) ≡ count_at test rows
  count-set test [] = refl
  count-set test (r ∷ rs) = step (is_at c s r) refl (is_none (own rs c s)) (count-set test rs)
    where
      step : (b : Bool) → is_at c s r ≡ b → (n : Bool) → count_at test (set_own c s i rs) ≡ count_at test rs → count_at test (cond (b && n) new r ∷ set_own c s i rs) ≡ count_at test (r ∷ rs)
      step true e true rest = ap₂ (λ k n. cond (test k) 1 0 + n) (sym (class-at r c s e)) rest
      step true e false rest = ap (λ n. cond (test r.class) 1 0 + n) rest
      step false e n rest = ap (λ n. cond (test r.class) 1 0 + n) rest

-- ---- rows that are removed

module _ (c : ClassRef) (s : ℕ) where
  imps-without_same : (rows : List Row) → imps_of c s (without_own c s rows) ≡ drop_end (imps_of c s rows)
  imps-without_same [] = refl
  imps-without_same (r ∷ rs) = step (is_at c s r) refl (imps_of c s rs) refl (own-imps rs c s) (imps-without_same rs)
    where
      step : (b : Bool) → is_at c s r ≡ b → (l : List ℕ) → imps_of c s rs ≡ l → own rs c s ≡ last_of l → imps_of c s (without_own c s rs) ≡ drop_end l
          → imps_of c s (cond (b && is_none (own rs c s)) rs (r ∷ without_own c s rs)) ≡ drop_end (cond b (r.imp ∷ l) l)
      step false e l is o rest = rw e rest
      step true e [] is o rest = rw o is
      step true e (k ∷ ks) is o rest = rw (o, some-else (last_of ks) k, e) (ap (λ is. r.imp ∷ is) rest)

  imps-without_other : (d : ClassRef) (u : ℕ) (rows : List Row) → (same_class c d && (s == u)) ≡ false → imps_of d u (without_own c s rows) ≡ imps_of d u rows
  imps-without_other d u [] apart = refl
  imps-without_other d u (r ∷ rs) apart = step (is_at c s r) refl (is_none (own rs c s)) (imps-without_other d u rs apart)
    where
      step : (b : Bool) → is_at c s r ≡ b → (n : Bool) → imps_of d u (without_own c s rs) ≡ imps_of d u rs → imps_of d u (cond (b && n) rs (r ∷ without_own c s rs)) ≡ imps_of d u (r ∷ rs)
      step true e true rest = rw (at-same r c d s u e ∙ apart) refl
      step true e false rest = ap (λ is. cond (is_at d u r) (r.imp ∷ is) is) rest
      step false e n rest = ap (λ is. cond (is_at d u r) (r.imp ∷ is) is) rest

  pub imps-without : (d : ClassRef) (u : ℕ) (rows : List Row) → imps_of d u (without_own c s rows) ≡ cond (same_class c d && (s == u)) (drop_end (imps_of d u rows)) (imps_of d u rows)
  imps-without d u rows = step (same_class c d) refl (s == u) refl
    where
      step : (a : Bool) → same_class c d ≡ a → (b : Bool) → (s == u) ≡ b → imps_of d u (without_own c s rows) ≡ cond (a && b) (drop_end (imps_of d u rows)) (imps_of d u rows)
      step true e true f = subst (λ z. imps_of z u (without_own c s rows) ≡ drop_end (imps_of z u rows)) (same_class-is c d e) (subst (λ n. imps_of c n (without_own c s rows) ≡ drop_end (imps_of c n rows)) (same_number s u f) (imps-without_same rows))
      step true e false f = imps-without_other d u rows (rw (e, f) refl)
      step false e b f = imps-without_other d u rows (rw e refl)

  -- one row fewer, if there is one
  pub count-without : (test : ClassRef → Bool) (rows : List Row) → count_at test (without_own c s rows) + cond (is_some (own rows c s)) (cond (test c) 1 0) 0 ≡ count_at test rows
  count-without test [] = refl
  count-without test (r ∷ rs) = step (is_at c s r) refl (own rs c s) refl (count-without test rs)
    where
      step : (b : Bool) → is_at c s r ≡ b → (o : Option ℕ) → own rs c s ≡ o → count_at test (without_own c s rs) + cond (is_some (own rs c s)) (cond (test c) 1 0) 0 ≡ count_at test rs
          → count_at test (cond (b && is_none o) rs (r ∷ without_own c s rs)) + cond (is_some (or_else o (cond b (Some r.imp) None))) (cond (test c) 1 0) 0 ≡ count_at test (r ∷ rs)
      step true e None is rest = let same : one (test r.class) ≡ one (test c) = ap (λ k. one (test k)) (class-at r c s e) in omega (arith, same)
      step true e (Some j) is rest = let rest' : count_at test (without_own c s rs) + cond (test c) 1 0 ≡ count_at test rs = subst (λ o. count_at test (without_own c s rs) + cond (is_some o) (cond (test c) 1 0) 0 ≡ count_at test rs) is rest in omega (arith, rest')
      step false e None is rest = let rest' : count_at test (without_own c s rs) + 0 ≡ count_at test rs = subst (λ o. count_at test (without_own c s rs) + cond (is_some o) (cond (test c) 1 0) 0 ≡ count_at test rs) is rest in omega (arith, rest')
      step false e (Some j) is rest = let rest' : count_at test (without_own c s rs) + cond (test c) 1 0 ≡ count_at test rs = subst (λ o. count_at test (without_own c s rs) + cond (is_some o) (cond (test c) 1 0) 0 ≡ count_at test rs) is rest in omega (arith, rest')

-- ---- a class that is disposed of

module _ (k : ℕ) where
  pub imps-without_class : (d : ClassRef) (u : ℕ) (rows : List Row) → imps_of d u (without_class k rows) ≡ cond (d.class == k) [] (imps_of d u rows)
  imps-without_class d u [] = step (d.class == k)
    where
      step : (b : Bool) → ◌≡◌ {A = List ℕ} [] (cond b [] [])
      step true = refl
      step false = refl
  imps-without_class d u (r ∷ rs) = step (r.class.class == k) refl (d.class == k) refl (is_at d u r) refl (imps-without_class d u rs)
    where
      same : is_at d u r ≡ true → (r.class.class == k) ≡ (d.class == k)
      same e = ap (λ z. z.class == k) (class-at r d u e)

      step : (a : Bool) → (r.class.class == k) ≡ a → (b : Bool) → (d.class == k) ≡ b → (x : Bool) → is_at d u r ≡ x → imps_of d u (without_class k rs) ≡ cond b [] (imps_of d u rs)
          → imps_of d u (cond a (without_class k rs) (r ∷ without_class k rs)) ≡ cond b [] (cond x (r.imp ∷ imps_of d u rs) (imps_of d u rs))
      step true e true f x g rest = rest
      step true e false f true g rest = let clash : true ≡ false = sym e ∙ same g ∙ f in cc
      step true e false f false g rest = rest
      step false e true f true g rest = let clash : false ≡ true = sym e ∙ same g ∙ f in cc
      step false e true f false g rest = rw g rest
      step false e false f true g rest = rw g (ap (λ is. r.imp ∷ is) rest)
      step false e false f false g rest = rw g rest

  pub count-without_class : (test : ClassRef → Bool) (rows : List Row) → count_at test (without_class k rows) ≡ count_at (λ c. test c && not (c.class == k)) rows
  count-without_class test [] = refl
  count-without_class test (r ∷ rs) = step (r.class.class == k) (test r.class) refl (count-without_class test rs)
    where
      step : (a b : Bool) → test r.class ≡ b → count_at test (without_class k rs) ≡ count_at (λ c. test c && not (c.class == k)) rs
          → count_at test (cond a (without_class k rs) (r ∷ without_class k rs)) ≡ cond (b && not a) 1 0 + count_at (λ c. test c && not (c.class == k)) rs
      step true true e rest = omega (arith, rest)
      step true false e rest = omega (arith, rest)
      step false true e rest = rw e (omega (arith, rest))
      step false false e rest = rw e (omega (arith, rest))

-- all rows
pub count-all : (rows : List Row) → count_at (λ c. true) rows ≡ length rows
count-all [] = refl
count-all (r ∷ rs) = let rest = count-all rs in omega (arith, rest)
