-- Sets of the names of columns: whether a column's name is taken, and one column more.
use Rattle.std.proofs.Common.{◌≡◌, ◌∙◌, ℕ, Bool, true, false, ◌&&◌, ◌||◌, List, [], ◌∷◌, ◌++◌, Result, Ok, Err, refl, sym, ap}
use Rattle.std.specs.Prelude.{OnOk}
use Rattle.std.specs.List.{list_any}
use Rattle.std.specs.Str.{str_to_ascii_lowercase}
use Rattle.std.proofs.lemmas.Cmp.{nat_list_eq_equiv}
use Rattle.std.proofs.lemmas.List.Folds.{list_any-append}
use Rattle.vdb_model.specs.declared.table.ColumnDef.{ColumnDef}
use Rattle.vdb_model.specs.Defs.{same_name}
use Rattle.metadata.specs.declared.taken.Taken.{Taken}
use Rattle.metadata.specs.Columns.{takes_name}
use Rattle.metadata.specs.Taken.{has_name, has_folded, IsOf}
use Rattle.metadata.specs.Texts.{is_among}

sorted : (p a b c d : Bool) → ((a || (p && b)) || (c || (p && d))) ≡ ((a || c) || (p && (b || d)))
sorted p true b c d = refl
sorted true false true true d = refl
sorted true false true false d = refl
sorted true false false c d = refl
sorted false false b c d = refl

takes_any : (apart : Bool) (name source : List ℕ) (columns : List ColumnDef)
    → list_any (takes_name apart name source) columns ≡ (list_any (has_name name) columns || (apart && list_any (has_folded (str_to_ascii_lowercase source)) columns))
takes_any true name source [] = refl
takes_any false name source [] = refl
takes_any apart name source (c ∷ cs) =
    ap (λ (b : Bool). takes_name apart name source c || b) (takes_any apart name source cs)
    ∙ sorted apart (has_name name c) (has_folded (str_to_ascii_lowercase source) c) (list_any (has_name name) cs) (list_any (has_folded (str_to_ascii_lowercase source)) cs)

-- whether a column has the name or the source name, by the sets
pub takes_is : (taken : Taken) (columns : List ColumnDef) → IsOf taken columns → (apart : Bool) (name source : List ℕ)
    → (is_among taken.names.texts.keys name || (apart && is_among taken.sources.texts.keys (str_to_ascii_lowercase source))) ≡ list_any (takes_name apart name source) columns
takes_is taken columns are apart name source = cc (are.names name, are.sources (str_to_ascii_lowercase source), takes_any apart name source columns)

last_first : (a b : Bool) → (a || (b || false)) ≡ (b || a)
last_first true true = refl
last_first true false = refl
last_first false true = refl
last_first false false = refl

one_name_more : (q : List ℕ) (columns : List ColumnDef) (column : ColumnDef) → (same_name column.name q || list_any (has_name q) columns) ≡ list_any (has_name q) (columns ++ column ∷ [])
one_name_more q columns column = sym (list_any-append (has_name q) columns (column ∷ []) ∙ last_first (list_any (has_name q) columns) (has_name q column))

one_source_more : (q : List ℕ) (columns : List ColumnDef) (column : ColumnDef)
    → (same_name (str_to_ascii_lowercase column.source) q || list_any (has_folded q) columns) ≡ list_any (has_folded q) (columns ++ column ∷ [])
one_source_more q columns column =
    ap (λ (b : Bool). b || list_any (has_folded q) columns) (nat_list_eq_equiv.symm (str_to_ascii_lowercase column.source) q)
    ∙ sym (list_any-append (has_folded q) columns (column ∷ []) ∙ last_first (list_any (has_folded q) columns) (has_folded q column))

pub one_more : (old new : Taken) (columns : List ColumnDef) (column : ColumnDef) → IsOf old columns
    → ((q : List ℕ) → is_among new.names.texts.keys q ≡ (same_name column.name q || is_among old.names.texts.keys q))
    → ((q : List ℕ) → is_among new.sources.texts.keys q ≡ (same_name (str_to_ascii_lowercase column.source) q || is_among old.sources.texts.keys q))
    → IsOf new (columns ++ column ∷ [])
one_more old new columns column are names sources = record {
  names = λ q. names q ∙ ap (λ (b : Bool). same_name column.name q || b) (are.names q) ∙ one_name_more q columns column;
  sources = λ q. sources q ∙ ap (λ (b : Bool). same_name (str_to_ascii_lowercase column.source) q || b) (are.sources q) ∙ one_source_more q columns column;
}

pub on_both : {A E : Type 0} {P Q R : Type 0} (r : Result A E) → (P → Q → R) → OnOk r P → OnOk r Q → OnOk r R
on_both (Ok x) f p q = f p q
on_both (Err e) f p q = tt
