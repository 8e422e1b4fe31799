-- The texts of names and literals after others, as the code writes them.
use Rattle.std.proofs.Common.{◌≡◌, ◌∙◌, ℕ, List, [], ◌∷◌, ◌++◌, Some, None, ap, refl}
use Rattle.sql_reader.specs.declared.tree.name.Name.{Name}
use Rattle.sql_reader.specs.declared.tree.name.RelationName.{RelationName}
use Rattle.sql_reader.specs.declared.tree.name.ColumnName.TheVariants.{Of, InSchema}
use Rattle.sql_reader.specs.declared.tree.expr.Literal.{Literal}
use Rattle.sql_reader.specs.Symbols as symbol
use Rattle.sql_printer.specs.Said.{Said, word, one}
use Rattle.sql_printer.specs.Spelled.{spelled}
use Rattle.sql_printer.specs.Names.{name, within, relation, column, optional, constant_said, literal}
use Rattle.sql_printer.proofs.Texts.{step}

pub text_within : (o : List ℕ) (n : Name) → o ++ spelled (within (Some n)) ≡ (o ++ spelled (name n)) ++ spelled (word symbol.DOT)
text_within o n = step o (name n) (word symbol.DOT)

pub text_relation : (o : List ℕ) (r : RelationName) → o ++ spelled (relation r) ≡ (o ++ spelled (within r.schema)) ++ spelled (name r.name)
text_relation o r = step o (within r.schema) (name r.name)

pub text_of : (o : List ℕ) (r n : Name) → o ++ spelled (column (Of r n)) ≡ ((o ++ spelled (name r)) ++ spelled (word symbol.DOT)) ++ spelled (name n)
text_of o r n = step o (name r ++ word symbol.DOT) (name n) ∙ ap (λ x. x ++ spelled (name n)) (step o (name r) (word symbol.DOT))

pub text_in_schema : (o : List ℕ) (s r n : Name)
    → o ++ spelled (column (InSchema s r n)) ≡ ((((o ++ spelled (name s)) ++ spelled (word symbol.DOT)) ++ spelled (name r)) ++ spelled (word symbol.DOT)) ++ spelled (name n)
text_in_schema o s r n =
    step o (name s ++ word symbol.DOT ++ name r ++ word symbol.DOT) (name n) ∙
    ap (λ x. x ++ spelled (name n))
    (step o (name s ++ word symbol.DOT ++ name r) (word symbol.DOT) ∙
    ap (λ x. x ++ spelled (word symbol.DOT))
    (step o (name s ++ word symbol.DOT) (name r) ∙ ap (λ x. x ++ spelled (name r)) (step o (name s) (word symbol.DOT))))

pub text_literal : (o : List ℕ) (l : Literal)
    → o ++ spelled (literal l) ≡ (o ++ spelled (optional l.negative symbol.MINUS)) ++ spelled (one (constant_said l.constant l.whole))
text_literal o l = step o (optional l.negative symbol.MINUS) (one (constant_said l.constant l.whole))

pub ruleset name_texts = (text_within, text_relation, text_of, text_in_schema, text_literal)
