-- Texts that are appended part by part.
use Rattle.std.proofs.Common.{◌≡◌, ◌<◌, ◌+◌, ℕ, suc, List, [], ◌∷◌, ◌++◌, add-one, append_assoc, drop, drop-cons, get_or, length, map, sym, ap, ◌∙◌}
use Rattle.std.specs.List.{flat_map}

-- two parts, and the end of a line
pub two_parts : (text a b c x y : List ℕ) (end : ℕ) → a ≡ text ++ x → b ≡ a ++ y → c ≡ b ++ end ∷ [] → c ≡ text ++ ((x ++ y) ++ end ∷ [])
two_parts text a b c x y end first second third =
    third ∙ ap (λ t. t ++ end ∷ []) (second ∙ ap (λ t. t ++ y) first ∙ append_assoc text x y) ∙ append_assoc text (x ++ y) (end ∷ [])

-- lines, and one more
pub lines_and_line : (text a b c x y : List ℕ) (end : ℕ) → a ≡ text ++ x → b ≡ a ++ y → c ≡ b ++ end ∷ [] → c ≡ text ++ (x ++ (y ++ end ∷ []))
lines_and_line text a b c x y end first second third =
    two_parts text a b c x y end first second third ∙ ap (λ t. text ++ t) (append_assoc x y (end ∷ []))

-- with the lines of those that are left a text is whole
pub lines_next : {A B : Type 0} (line : B → List ℕ) (of : A → B) (xs : List A) (i : ℕ) (x : A) (text more whole : List ℕ) → i < length xs → x ≡ get_or xs i x → more ≡ text ++ line (of x)
    → text ++ flat_map line (map of (drop i xs)) ≡ whole → more ++ flat_map line (map of (drop (i + 1) xs)) ≡ whole
lines_next line of xs i x text more whole lt is added before =
    let rest = flat_map line (map of (drop (i + 1) xs)) in
    let here : drop i xs ≡ x ∷ drop (i + 1) xs = drop-cons xs i x lt ∙ ap (λ y. y ∷ drop (suc i) xs) (sym is) ∙ ap (λ n. x ∷ drop n xs) (sym (add-one i)) in
    ap (λ t. t ++ rest) added ∙ append_assoc text (line (of x)) rest ∙ ap (λ ys. text ++ flat_map line (map of ys)) (sym here) ∙ before
