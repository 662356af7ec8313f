-- Links between classes, each a record of a depth and a next class.
use Rattle.std.proofs.Common.{◌≡◌, zero, suc, ℕ, List, ◌∷◌, Option, map, get_or, replicate, set, ap, ◌∙◌, refl}
use Rattle.std.proofs.Math.Seq.{map-set_same}
use Rattle.std.proofs.lemmas.List.{map-set}
use Rattle.msg_tables.specs.declared.preorder.Link.{Link}

abbrev pub depths_of : List Link → List ℕ
depths_of ls = map (λ (l : Link). l.depth) ls

abbrev pub nexts_of : List Link → List (Option ℕ)
nexts_of ls = map (λ (l : Link). l.next) ls

-- a link changes, and its depth stays
pub same-depths : (ls : List Link) (i : ℕ) (l was : Link) → was ≡ get_or ls i was → l.depth ≡ was.depth → depths_of (set ls i l) ≡ depths_of ls
same-depths ls i l was is same = map-set_same (λ (k : Link). k.depth) ls i l was (same ∙ ap (λ (k : Link). k.depth) is)

pub set-depth : (ls : List Link) (i : ℕ) (l : Link) → depths_of (set ls i l) ≡ set (depths_of ls) i l.depth
set-depth ls i l = map-set (λ (k : Link). k.depth) ls i l

pub set-next : (ls : List Link) (i : ℕ) (l : Link) → nexts_of (set ls i l) ≡ set (nexts_of ls) i l.next
set-next ls i l = map-set (λ (k : Link). k.next) ls i l

pub map-replicate : {A B : Type 0} (f : A → B) (n : ℕ) (a : A) → map f (replicate n a) ≡ replicate n (f a)
map-replicate f zero a = refl
map-replicate f (suc n) a = ap (λ xs. f a ∷ xs) (map-replicate f n a)
