-- What is noted in a handle whose sender has seen more.
use Rattle.std.proofs.Common.{◌≡◌, Option, Some, sym, ap, subst, ◌∙◌}
use Rattle.std.proofs.lemmas.Option.{same_Some}
use Rattle.msg_tables.specs.History.{History, BeginsWith}
use Rattle.msg_cache.specs.Views.{layout}
use Rattle.msg_reader.specs.Notes.{AreNotesOf, AreStamped, StayStamped}
use Rattle.msg_reader.specs.declared.notes.Notes.{Notes}
use Rattle.msg_host.specs.View.{SenderView}
use Rattle.msg_c.specs.Answers.{sender_arena, sender_front}
use Rattle.msg_c.specs.Notes.{AreNotesIn}

-- what was noted in a handle that held a sender
pub noted_in : (state : Option SenderView) (taken was : SenderView) (notes : Notes) → state ≡ Some taken → was ≡ taken → AreNotesIn state notes → AreNotesOf was.seen.front notes × AreStamped (layout was.arena) notes
noted_in state taken was notes e same are =
    let of : state ≡ Some was = e ∙ ap Some (sym same) in
    (are.seen was.seen.front (ap sender_front of), are.stamped was.arena (ap sender_arena of))

-- and what is noted in one that holds one
pub notes_of : (state : Option SenderView) (is : SenderView) (notes : Notes) → state ≡ Some is → AreNotesOf is.seen.front notes → AreStamped (layout is.arena) notes → AreNotesIn state notes
notes_of state is notes e are stamped = record {
  closed = λ none. let clash = sym e ∙ none in cc;
  seen = λ h front. subst (λ g. AreNotesOf g notes) (same_Some is.seen.front h (sym (ap sender_front e) ∙ front)) are;
  stamped = λ a arena. subst (λ b. AreStamped (layout b) notes) (same_Some is.arena a (sym (ap sender_arena e) ∙ arena)) stamped;
}

-- what was noted stays so where the sender has seen more
pub notes_on : (old new : Option SenderView) (taken was is : SenderView) (notes : Notes) → ((p h : History) (n : Notes) → BeginsWith p h → AreNotesOf h n → AreNotesOf p n)
    → AreNotesIn old notes → old ≡ Some taken → was ≡ taken → is.arena ≡ was.arena → BeginsWith is.seen.front was.seen.front → new ≡ Some is → AreNotesIn new notes
notes_on old new taken was is notes grows are e same arena begins put =
    let before = noted_in old taken was notes e same are in
    notes_of new is notes put (grows is.seen.front was.seen.front notes begins before.0) (subst (λ b. AreStamped (layout b) notes) (sym arena) before.1)

-- and so do those that a call left
pub notes_left : (old new : Option SenderView) (taken was is : SenderView) (before after : Notes)
    → AreNotesIn old before → old ≡ Some taken → was ≡ taken → is.arena ≡ was.arena → AreNotesOf is.seen.front after → StayStamped (layout was.arena) before after → new ≡ Some is → AreNotesIn new after
notes_left old new taken was is before after are e same arena of stay put =
    notes_of new is after put of (subst (λ b. AreStamped (layout b) after) (sym arena) (stay (noted_in old taken was before e same are).1))
