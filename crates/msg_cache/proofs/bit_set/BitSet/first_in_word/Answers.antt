use Rattle.std.proofs.Common.{⊎_elim, ◌≡◌, ◌≢◌, ℕ, ◌+◌, ◌/◌, ◌%◌, ◌^◌, ◌<◌, ◌≤◌, List, Bool, false, ◌==◌, length, ap, sym, ◌∙◌, subst, arith, w64}
use Rattle.std.specs.Prelude.{slice_index, slice_index_or}
use Rattle.std.specs.Int.{trailing_zeros}
use Rattle.std.proofs.lemmas.Bool.{cases_lt}
use Rattle.std.proofs.lemmas.List.{get_or_default}
use Rattle.std.proofs.lemmas.Nat.{trailing_le, shr_le}
use Rattle.msg_cache.proofs.BitSetLemmas.{members_length, member_is, member_not, member_past, none_on, lowest_on}
use Rattle.msg_cache.proofs.bit_set.BitSet.first_in_word.Goals as goal

pub index-requires : goal.index-requires
index-requires c =
    let s = c.self.inside in
    omega (arith, c.requires, members_length s.words.items s.limit, ap (λ (l : List Bool). length l) c.self.view_is, c.self.invariant.room, s.words.ok.0)

pub returns-then-rest-eq0-clause-none : goal.returns-then-rest-eq0-clause-none
returns-then-rest-eq0-clause-none c = λ a low high.
    let s = c.self.inside in
    let from = c.args.from in
    let w = c.index.result.now in
    let within : from / 64 < length s.words.items = omega (arith, c.requires, members_length s.words.items s.limit, ap (λ (l : List Bool). length l) c.self.view_is, c.self.invariant.room) in
    let read : w ≡ slice_index s.words.items (from / 64) = c.index.ensures ∙ get_or_default s.words.items (from / 64) w 0 within in
    ap (λ (l : List Bool). slice_index_or l a false) (sym c.self.view_is) ∙ member_not s.words.items s.limit a (none_on s.words.items from (w / 2 ^ (from % 64)) (ap (λ (x : ℕ). x / 2 ^ (from % 64)) read) c.if-rest-eq0.true a low high)

pub overflow_add-found : goal.overflow_add-found
overflow_add-found c =
    let s = c.self.inside in
    omega (arith, c.requires, c.self.invariant.few, members_length s.words.items s.limit, ap (λ (l : List Bool). length l) c.self.view_is, trailing_le 64 (c.index.result.now / 2 ^ (c.args.from % 64)))

pub returns-then-rest-eq0-clause-few : goal.returns-then-rest-eq0-clause-few
returns-then-rest-eq0-clause-few c = let s = c.self.inside in omega (arith, c.self.invariant.few, members_length s.words.items s.limit, ap (λ (l : List Bool). length l) c.self.view_is)

pub returns-then-found-self-clause-few : goal.returns-then-found-self-clause-few
returns-then-found-self-clause-few c = let s = c.self.inside in omega (arith, c.self.invariant.few, members_length s.words.items s.limit, ap (λ (l : List Bool). length l) c.self.view_is)

pub returns-else-found-self-clause-few : goal.returns-else-found-self-clause-few
returns-else-found-self-clause-few c = let s = c.self.inside in omega (arith, c.self.invariant.few, members_length s.words.items s.limit, ap (λ (l : List Bool). length l) c.self.view_is)

pub returns-then-found-self-clause-some : goal.returns-then-found-self-clause-some
returns-then-found-self-clause-some c =
    let s = c.self.inside in
    let from = c.args.from in
    let w = c.index.result.now in
    let rest : ℕ = w / 2 ^ (from % 64) in
    let found : ℕ = from + trailing_zeros w64 rest in
    let within : from / 64 < length s.words.items = omega (arith, c.requires, members_length s.words.items s.limit, ap (λ (l : List Bool). length l) c.self.view_is, c.self.invariant.room) in
    let read : w ≡ slice_index s.words.items (from / 64) = c.index.ensures ∙ get_or_default s.words.items (from / 64) w 0 within in
    let some : rest ≢ 0 = λ e. c.if-rest-eq0.false e in
    let fits : w < 2 ^ 64 = omega arith in
    let t = lowest_on s.words.items from rest (ap (λ (x : ℕ). x / 2 ^ (from % 64)) read) some (subst (λ (x : ℕ). x < 2 ^ 64) read fits) (omega (arith, shr_le w (from % 64))) in record {
      low = omega arith;
      inside = omega (arith, c.if-found-self.true, members_length s.words.items s.limit, ap (λ (l : List Bool). length l) c.self.view_is);
      is = ap (λ (l : List Bool). slice_index_or l found false) (sym c.self.view_is) ∙ member_is s.words.items s.limit found false c.if-found-self.true ∙ ap (λ b. b == 1) t.1;
      none = λ a low high. ap (λ (l : List Bool). slice_index_or l a false) (sym c.self.view_is) ∙ member_not s.words.items s.limit a (t.2 a low high);
    }

pub returns-then-found-self-clause-word : goal.returns-then-found-self-clause-word
returns-then-found-self-clause-word c =
    let s = c.self.inside in
    let from = c.args.from in
    let w = c.index.result.now in
    let rest : ℕ = w / 2 ^ (from % 64) in
    let found : ℕ = from + trailing_zeros w64 rest in
    let within : from / 64 < length s.words.items = omega (arith, c.requires, members_length s.words.items s.limit, ap (λ (l : List Bool). length l) c.self.view_is, c.self.invariant.room) in
    let read : w ≡ slice_index s.words.items (from / 64) = c.index.ensures ∙ get_or_default s.words.items (from / 64) w 0 within in
    let some : rest ≢ 0 = λ e. c.if-rest-eq0.false e in
    let fits : w < 2 ^ 64 = omega arith in
    let t = lowest_on s.words.items from rest (ap (λ (x : ℕ). x / 2 ^ (from % 64)) read) some (subst (λ (x : ℕ). x < 2 ^ 64) read fits) (omega (arith, shr_le w (from % 64))) in omega (arith, t.0)

pub returns-else-found-self-clause-none : goal.returns-else-found-self-clause-none
returns-else-found-self-clause-none c = λ a low high.
    let s = c.self.inside in
    let from = c.args.from in
    let w = c.index.result.now in
    let rest : ℕ = w / 2 ^ (from % 64) in
    let found : ℕ = from + trailing_zeros w64 rest in
    let within : from / 64 < length s.words.items = omega (arith, c.requires, members_length s.words.items s.limit, ap (λ (l : List Bool). length l) c.self.view_is, c.self.invariant.room) in
    let read : w ≡ slice_index s.words.items (from / 64) = c.index.ensures ∙ get_or_default s.words.items (from / 64) w 0 within in
    let some : rest ≢ 0 = λ e. c.if-rest-eq0.false e in
    let fits : w < 2 ^ 64 = omega arith in
    let t = lowest_on s.words.items from rest (ap (λ (x : ℕ). x / 2 ^ (from % 64)) read) some (subst (λ (x : ℕ). x < 2 ^ 64) read fits) (omega (arith, shr_le w (from % 64))) in
    ap (λ (l : List Bool). slice_index_or l a false) (sym c.self.view_is) ∙ ⊎_elim
    (λ (l : a < found). member_not s.words.items s.limit a (t.2 a low l))
    (λ (g : found ≤ a). member_past s.words.items s.limit a (omega (arith, g, c.if-found-self.false)))
    (cases_lt a found)
