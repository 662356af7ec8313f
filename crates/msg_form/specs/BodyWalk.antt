-- One walk over a body.
use Rattle.std.specs.Prelude.{ℕ, ◌-◌, ◌==◌, ◌||◌, List, [], ◌∷◌, ◌++◌, Bool, false, nat_le}
use Rattle.msg_form.specs.Expression.{Constant, whole, nil, object_named, class_named, selector_named, Expression, Expressions, constant, me, arg, binary, choice, send, super_send, no_more, more, count_of}
use Rattle.msg_form.specs.Faults.{is_miscounted_send}
use Rattle.msg_form.specs.Parts.{names_text}
use Rattle.msg_form.specs.Text.{Text, is_unknown}
use Rattle.msg_form.specs.declared.judge.bodies.BodyFaults.{BodyFaults}
use Rattle.msg_form.specs.declared.judge.body_walk.BodyWalk.{BodyWalk}
use Rattle.msg_form.specs.declared.judge.body_walk.Found.{Found}
use Rattle.msg_form.specs.declared.limits.TheConstants.{MAX_EXPRESSIONS}

-- the expression and those inside it, each with the number of levels that it may have
abbrev mutual
  pub parts_at : ℕ → Expression → List (ℕ × Expression)
  parts_at l (constant c) = (l, constant c) ∷ []
  parts_at l me = (l, me) ∷ []
  parts_at l (arg k) = (l, arg k) ∷ []
  parts_at l (binary o a b) = (l, binary o a b) ∷ (parts_at (l - 1) a ++ parts_at (l - 1) b)
  parts_at l (choice a b c) = (l, choice a b c) ∷ (parts_at (l - 1) a ++ (parts_at (l - 1) b ++ parts_at (l - 1) c))
  parts_at l (send r s es) = (l, send r s es) ∷ (parts_at (l - 1) r ++ all_parts_at (l - 1) es)
  parts_at l (super_send s es) = (l, super_send s es) ∷ all_parts_at (l - 1) es

  pub all_parts_at : ℕ → Expressions → List (ℕ × Expression)
  all_parts_at l no_more = []
  all_parts_at l (more e es) = parts_at l e ++ all_parts_at l es

-- ---- what a walk has found

-- goes on to an expression: one expression less may still come
abbrev pub entered : ℕ → Found → Found
entered l f = record {
  faults = record { sends_above = f.faults.sends_above; unknown_class = f.faults.unknown_class; unknown_object = f.faults.unknown_object; argument_count = f.faults.argument_count; argument_index = f.faults.argument_index; too_deep = f.faults.too_deep || ((l == 0) || (f.room == 0)) };
  selects = f.selects;
  room = f.room - 1;
}

-- a constant that names a class or an object that is not among the names
abbrev pub with_constant : List Text → List Text → BodyFaults → Constant → BodyFaults
with_constant classes objects f (whole z) = f
with_constant classes objects f nil = f
with_constant classes objects f (object_named n) =
    record { sends_above = f.sends_above; unknown_class = f.unknown_class; unknown_object = f.unknown_object || is_unknown objects n; argument_count = f.argument_count; argument_index = f.argument_index; too_deep = f.too_deep }
with_constant classes objects f (class_named n) =
    record { sends_above = f.sends_above; unknown_class = f.unknown_class || is_unknown classes n; unknown_object = f.unknown_object; argument_count = f.argument_count; argument_index = f.argument_index; too_deep = f.too_deep }
with_constant classes objects f (selector_named s) = f

-- what is wrong with an expression itself, in a body with this number of arguments; above says
-- whether a super send is wrong
abbrev pub with_own : Bool → List Text → List Text → ℕ → BodyFaults → Expression → BodyFaults
with_own above classes objects args f (constant c) = with_constant classes objects f c
with_own above classes objects args f me = f
with_own above classes objects args f (arg k) =
    record { sends_above = f.sends_above; unknown_class = f.unknown_class; unknown_object = f.unknown_object; argument_count = f.argument_count; argument_index = f.argument_index || nat_le args k; too_deep = f.too_deep }
with_own above classes objects args f (binary o a b) = f
with_own above classes objects args f (choice a b c) = f
with_own above classes objects args f (send r s es) =
    record { sends_above = f.sends_above; unknown_class = f.unknown_class; unknown_object = f.unknown_object; argument_count = f.argument_count || is_miscounted_send (s, count_of es); argument_index = f.argument_index; too_deep = f.too_deep }
with_own above classes objects args f (super_send s es) =
    record { sends_above = f.sends_above || above; unknown_class = f.unknown_class; unknown_object = f.unknown_object; argument_count = f.argument_count || is_miscounted_send (s, count_of es); argument_index = f.argument_index; too_deep = f.too_deep }

-- an expression that may have this number of levels
abbrev pub with_part : Bool → List Text → List Text → ℕ → Found → ℕ × Expression → Found
with_part above classes objects args f p = record { faults = with_own above classes objects args (entered p.0 f).faults p.1; selects = f.selects || names_text p.1; room = f.room - 1 }

-- only the faults that were found before
abbrev pub with_faults : BodyFaults → Found
with_faults faults = record { faults = faults; selects = false; room = MAX_EXPRESSIONS }

-- ---- by what a body may use

-- what is wrong with an expression itself, but not with those inside it
abbrev pub with_own_by : BodyWalk → BodyFaults → Expression → BodyFaults
with_own_by w = with_own w.above w.classes.now w.objects.now w.args

-- what is found with an expression that may have this number of levels
abbrev pub with_part_by : BodyWalk → Found → ℕ × Expression → Found
with_part_by w = with_part w.above w.classes.now w.objects.now w.args
