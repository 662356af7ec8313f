-- the only word is `beside`
use Rattle.std.proofs.Common.{rules, ◌≡◌, ◌∷◌, [], codes, map, string_bytes, ℕ, length, List, ◌<◌, ◌≤◌, ap, sym, arith, get_or, String, Global, ◌∙◌, subst, refl, IfSome, Option, None, Some}
use Rattle.msg_explain.specs.Explaining.{TellsAsked, TellsReasonsBeside}
use Rattle.msg_explain.proofs.program.explain_words.Goals as goal

one : (words : List (String Global)) (w : String Global) → 1 ≤ length words → length words < 2 → w ≡ get_or words 0 w → map (string_bytes {Z = Global}) words ≡ string_bytes w ∷ []
one [] w some few is = absurd (omega arith)
one (x ∷ []) w some few is = ap (λ (y : String Global). string_bytes y ∷ []) (sym is)
one (x ∷ y ∷ rest) w some few is = absurd (omega arith)

told : {S : Type 0} (contents : S → Option (List ℕ)) (old new : S) (o : Option (List ℕ)) → IfSome o (TellsReasonsBeside contents old new) → IfSome o (TellsAsked (codes "beside" ∷ []) contents old new)
told contents old new None t = t
told contents old new (Some bytes) t = (refl, t)

pub returns-in-len1-clause-answered : goal.returns-in-len1-clause-answered
returns-in-len1-clause-answered g c = λ e.
    let word : string_bytes c.word-item.result ≡ codes "beside" = sym c.as_str.ensures.value ∙ search rules in
    let words = one c.args.words.now c.word-item.result c.in-len1.len_at_least c.in-len1.len_below c.word-item.is ∙ ap (λ b. b ∷ []) word in
    let all = told g.W.Sink.contents c.args.sink.now c.explain_beside.new.sink (g.R.Source.remaining c.args.source.now) (c.explain_beside.ensures.answered e) in
    subst (λ (ws : List (List ℕ)). IfSome (g.R.Source.remaining c.args.source.now) (TellsAsked ws g.W.Sink.contents c.args.sink.now c.explain_beside.new.sink)) (sym words) all
