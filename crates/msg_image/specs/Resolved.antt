-- What the parts of a form represent, by the form's names.
use Rattle.std.specs.Prelude.{List, map}
use Rattle.msg_form.specs.ExprView.{expr_view, exprs_view}
use Rattle.msg_form.specs.Views.{category_view, class_view, imp_view, object_view}
use Rattle.msg_form.specs.declared.form.Expr.{Expr}
use Rattle.msg_form.specs.declared.form.Form.{Form}
use Rattle.msg_form.specs.declared.form_names.FormNames.{FormNames}
use Rattle.msg_tables.specs.declared.origin.Category.{Category}
use Rattle.msg_tables.specs.declared.origin.ListedClass.{ListedClass}
use Rattle.msg_image.specs.Document.{category, expression, expressions, imp, listed, object}
use Rattle.msg_image.specs.Numbers.{numbers_by}
use Rattle.msg_image.specs.Parts.{Expression, Expressions, ImpParts, ObjectParts}

-- an expression with numbers for names
abbrev pub expression_by : FormNames → Expr → Expression
expression_by names e = expression (numbers_by names) (expr_view e)

-- several
abbrev pub expressions_by : FormNames → List Expr → Expressions
expressions_by names es = expressions (numbers_by names) (exprs_view es)

-- what tables are opened of, of the classes that a form lists
abbrev pub listed_by : FormNames → Form → List ListedClass
listed_by names f = map (λ c. listed (numbers_by names) (class_view c)) f.classes.items

-- a form's categories with numbers for names
abbrev pub categories_by : FormNames → Form → List Category
categories_by names f = map (λ c. category (numbers_by names) (category_view c)) f.categories.items

-- its objects
abbrev pub objects_by : FormNames → Form → List ObjectParts
objects_by names f = map (λ o. object (numbers_by names) (object_view o)) f.objects.items

-- its implementations
abbrev pub imps_by : FormNames → Form → List ImpParts
imps_by names f = map (λ i. imp (numbers_by names) (imp_view i)) f.imps.items
