-- Which types the columns of a relation have. A column may have several, as a constant has each type that it fits.
use Rattle.std.specs.Prelude.{ℕ, zero, suc, ◌+◌, Bool, true, false, ◌&&◌, ◌==◌, List, [], ◌∷◌, length, take, drop, slice_index_or}
use Rattle.std.specs.List.{list_any}
use Rattle.vdb_base.specs.declared.value.Ty.{Ty}
use Rattle.vdb_base.specs.declared.value.Ty.TheVariants.{Boolean, Long, BigInteger}
use Rattle.vdb_model.specs.declared.expr.Expr.{Expr}
use Rattle.vdb_model.specs.declared.rel.Agg.{Agg}
use Rattle.vdb_model.specs.declared.rel.Agg.TheVariants.{CountStar, Count, Sum, Min, Max}
use Rattle.vdb_model.specs.declared.rel.Rel.{Rel}
use Rattle.vdb_model.specs.declared.rel.Rel.TheOpen.{Rel-F}
use Rattle.vdb_model.specs.declared.rel.Rel.TheFolds.{fold-Rel}
use Rattle.vdb_model.specs.Defs.{all_below}
use Rattle.vdb_model.specs.Typed.{types, same_type, goes_into, has_type, within}

-- how many columns, and whether they have these types
pub record Columns : Type 0 where
  pub width : ℕ
  pub have : List Ty → Bool

-- some types of so many columns pass
unfoldable pub some_types : ℕ → (List Ty → Bool) → Bool
some_types zero passes = passes []
some_types (suc n) passes = list_any (λ t. some_types n (λ ts. passes (t ∷ ts))) types

abbrev pub are_same : List Ty → List Ty → Bool
are_same [] [] = true
are_same [] (t ∷ ts) = false
are_same (s ∷ ss) [] = false
are_same (s ∷ ss) (t ∷ ts) = same_type s t && are_same ss ts

-- each goes into the type at its place
abbrev pub all_go_into : List Ty → List Ty → Bool
all_go_into [] [] = true
all_go_into [] (t ∷ ts) = false
all_go_into (s ∷ ss) [] = false
all_go_into (s ∷ ss) (t ∷ ts) = goes_into s t && all_go_into ss ts

-- columns of these types alone
abbrev pub declared : List Ty → Columns
declared own = record { width = length own; have = are_same own }

abbrev pub declared_each : List (List Ty) → List Columns
declared_each [] = []
declared_each (own ∷ more) = declared own ∷ declared_each more

-- over columns and variables of these types each expression has the type at its place
abbrev pub all_have : List Ty → List Ty → List Expr → List Ty → Bool
all_have cols vars [] [] = true
all_have cols vars [] (t ∷ ts) = false
all_have cols vars (e ∷ es) [] = false
all_have cols vars (e ∷ es) (t ∷ ts) = has_type cols vars e t && all_have cols vars es ts

-- COUNT is a long and SUM of integers or longs a biginteger; MIN and MAX have the type of what they are of
abbrev pub agg_has : List Ty → List Ty → Agg → Ty → Bool
agg_has cols vars CountStar t = same_type Long t
agg_has cols vars (Count e) t = same_type Long t && list_any (has_type cols vars e) types
agg_has cols vars (Sum e) t = same_type BigInteger t && within Long (has_type cols vars e)
agg_has cols vars (Min e) t = has_type cols vars e t
agg_has cols vars (Max e) t = has_type cols vars e t

abbrev pub aggs_have : List Ty → List Ty → List Agg → List Ty → Bool
aggs_have cols vars [] [] = true
aggs_have cols vars [] (t ∷ ts) = false
aggs_have cols vars (agg ∷ aggs) [] = false
aggs_have cols vars (agg ∷ aggs) (t ∷ ts) = agg_has cols vars agg t && aggs_have cols vars aggs ts

abbrev pub key_types : List Ty → List ℕ → List Ty
key_types cols [] = []
key_types cols (key ∷ keys) = slice_index_or cols key Boolean ∷ key_types cols keys

-- the keys, and then the aggregates
abbrev pub group_has : List ℕ → List Agg → List Ty → List Ty → List Ty → Bool
group_has keys aggs cols vars ts = all_below (length cols) keys && are_same (key_types cols keys) (take (length keys) ts) && aggs_have cols vars aggs (drop (length keys) ts)

-- each part has as many columns, and its types go into these
abbrev pub parts_have : List Columns → List Ty → Bool
parts_have [] ts = true
parts_have (part ∷ parts) ts = part.width == length ts && some_types part.width (λ own. part.have own && all_go_into own ts) && parts_have parts ts

abbrev pub first_width : List Columns → ℕ
first_width [] = 0
first_width (part ∷ parts) = part.width

-- a part that isn't there has no types
abbrev pub no_columns : Columns
no_columns = record { width = 0; have = λ ts. false }

-- one layer, by the columns of its parts: conditions are booleans, and each number is in range
abbrev pub columns_step : List (List Ty) → List (List Ty) → List Ty → Rel-F Columns → Columns
columns_step tables views vars Rel-F.One = declared []
columns_step tables views vars (Rel-F.Table t) = slice_index_or (declared_each tables) t no_columns
columns_step tables views vars (Rel-F.View v) = slice_index_or (declared_each views) v no_columns
columns_step tables views vars (Rel-F.Where r condition) = record { width = r.width; have = λ ts. r.have ts && has_type ts vars condition Boolean }
columns_step tables views vars (Rel-F.Select r es) = record { width = length es; have = λ ts. some_types r.width (λ cols. r.have cols && all_have cols vars es ts) }
columns_step tables views vars (Rel-F.Join kind l r on) = record { width = l.width + r.width; have = λ ts. l.have (take l.width ts) && r.have (drop l.width ts) && has_type ts vars on Boolean }
columns_step tables views vars (Rel-F.Group r keys aggs) = record { width = length keys + length aggs; have = λ ts. some_types r.width (λ cols. r.have cols && group_has keys aggs cols vars ts) }
columns_step tables views vars (Rel-F.Distinct r) = r
columns_step tables views vars (Rel-F.Union rs) = record { width = first_width rs; have = λ ts. first_width rs == length ts && parts_have rs ts }

-- the columns of a relation, over the types of the tables' columns, of the views' columns and of the variables
unfoldable pub columns_of : List (List Ty) → List (List Ty) → List Ty → Rel → Columns
columns_of tables views vars = fold-Rel Columns (columns_step tables views vars)
